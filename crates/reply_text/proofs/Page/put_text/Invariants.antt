use Rattle.std.proofs.Common.{◌≡◌, ◌+◌, ◌≤◌, length, take}
use Rattle.reply_text.specs.Pages.{PutsOn}
use Rattle.reply_text.proofs.Page.put_text.Given as goal

abbrev pub invariant-loop-byte : goal.invariant-loop-byte
invariant-loop-byte l =
    (l.byte-index ≤ length l.text) × (l.self.end ≡ l.initial.self.end + l.byte-index)
    × PutsOn l.initial.self (take l.byte-index l.text) l.self × (l.self.out.ghost_name ≡ l.initial.self.out.ghost_name)
