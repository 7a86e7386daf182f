-- What private functions promise of the words. No promise of a public call uses a definition of this file.
use Rattle.std.specs.Prelude.{ℕ, ◌+◌, ◌*◌, ◌/◌, ◌%◌, ◌^◌, ◌<◌, Bool, true, false, cond, List, ◌≡◌, get_or, set}
use Rattle.utils.specs.Set.{with, marked}
use Rattle.types.specs.declared.Vector.{Vector}
use Rattle.vioapic_entry.specs.Answers.{is_routed}
use Rattle.vioapic_entry.specs.Redirection.{remote_irr, with_deferred, awaits, end_entry20, keeps_deferred}
use Rattle.vioapic_entry.specs.declared.Entry.{Entry}
use Rattle.vioapic.specs.State.{IoApicState, spare}
use Rattle.vioapic.specs.Table.{Ending, ending, entry_at, with_entries, put, every_answer}
use Rattle.vioapic.specs.declared.Ends.{Ends}

-- a fact of the words after a step, and what isn't looked at stays as it is
pub record Keeps (before after : List ℕ) (fact : Type 0) : Type 0 where
  pub is : fact
  pub kept : spare after ≡ spare before

-- the words with a flag of entry g moved, in word `at`
abbrev pub put_flag : List ℕ → ℕ → ℕ → Bool → List ℕ
put_flag l at g up = set l at (marked (get_or l at 0) g up)

-- a word with another lower half
abbrev pub with_low : ℕ → ℕ → ℕ
with_low w x = w / 2 ^ 32 * 2 ^ 32 + x

-- entry g replaced, without a look at the word of lines in flight
abbrev pub parts : IoApicState → ℕ → Entry → IoApicState
parts s g e = with_entries s (set s.entries g e)

-- nothing is deferred on any line
abbrev pub NoneDeferred : IoApicState → Type 0
NoneDeferred s = (g : ℕ) → g < 24 → (entry_at s g).pending_level ≡ false

-- an entry with its line down and nothing deferred
pub record Quiet (e : Entry) : Type 0 where
  pub undeferred : e.pending_level ≡ false
  pub down : e.input_level ≡ false

-- an entry in flight, its register `word`, with nothing deferred
pub record Flown (word : ℕ) (e : Entry) : Type 0 where
  pub flying : remote_irr word ≡ true
  pub undeferred : e.pending_level ≡ false

-- what was deferred, after a low word was written over the register w
abbrev pub forgetting : ℕ → Entry → ℕ → Entry
forgetting w e x = cond (keeps_deferred w x) e (with_deferred e false)

-- an EOI of version 0x20 that has come this far, in one number: the set of the GSIs that have ended, and of those sent again
abbrev pub cleared_in : Ends → ℕ
cleared_in n = n.0 % 2 ^ 24

abbrev pub sent_in : Ends → ℕ
sent_in n = n.0 / 2 ^ 24 % 2 ^ 24

pub record EveryEnd : Type 0 where
  pub state : IoApicState
  pub cleared : ℕ
  pub sent : ℕ

abbrev pub every_end : IoApicState → ℕ → ℕ → EveryEnd
every_end s cleared sent = record { state = s; cleared = cleared; sent = sent }

-- entry g's turn, which ends if it awaits the EOI
abbrev pub end_next : Vector → EveryEnd → ℕ → EveryEnd
end_next v a g =
    cond (awaits v (entry_at a.state g))
    (every_end
    (put a.state g (end_entry20 (entry_at a.state g)).entry)
    (with a.cleared g)
    (cond (is_routed (end_entry20 (entry_at a.state g)).answer) (with a.sent g) a.sent))
    a

abbrev pub every_ending : EveryEnd → Ending
every_ending a = ending a.state (every_answer a.cleared a.sent)
