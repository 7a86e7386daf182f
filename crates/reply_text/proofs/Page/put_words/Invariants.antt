use Rattle.std.proofs.Common.{◌≡◌, ◌+◌, ◌*◌, ◌≤◌, length, take}
use Rattle.reply_text.specs.Text.{words_text}
use Rattle.reply_text.specs.Pages.{PutsOn}
use Rattle.reply_text.proofs.Page.put_words.Given as goal

abbrev pub invariant-loop-word : goal.invariant-loop-word
invariant-loop-word l =
    (l.word-index ≤ length l.words) × (l.self.end ≤ l.initial.self.end + 21 * l.word-index)
    × PutsOn l.initial.self (words_text (take l.word-index l.words)) l.self × (l.self.out.ghost_name ≡ l.initial.self.out.ghost_name)
