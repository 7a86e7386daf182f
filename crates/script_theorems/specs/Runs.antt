-- What holds of every run of every script, of any length (the limit of 65,536 bytes is the program's alone). A run is `run_of` of the crate `script_machine`.
use Rattle.std.specs.Prelude.{ℕ, ◌+◌, ◌≤◌, ◌<◌, Bool, true, false, cond, not, ◌&&◌, ◌||◌, List, [], ◌∷◌, ◌++◌, ◌⊎◌, ◌≡◌, length}
use Rattle.types.specs.declared.Reply.{Reply}
use Rattle.script_format.specs.declared.Call.{Call}
use Rattle.script_format.specs.declared.Cursor.{Cursor}
use Rattle.script_format.specs.Fields.{end_at, Good, Bad, field_at}
use Rattle.script_format.specs.Chips.{chip_of, is_choice, same}
use Rattle.script_machine.specs.Late.{is_late, used_after, field_for}
use Rattle.script_machine.specs.Machine.{Machine, unused, new_machine}
use Rattle.script_machine.specs.declared.Used.{Used}
use Rattle.script_machine.specs.declared.Stop.TheVariants as stop
use Rattle.script_machine.specs.Run.{Run, field_count, place_after, calls_from, after_calls, replies, run_of}

-- the number that a run answers is the number of fields read off the bytes, and that many calls were made
abbrev pub Counted : Type 0
Counted =
    (s : List ℕ) (m : Machine) (at n : ℕ)
    → ((run_of s m at n).done ≡ field_count s m.used at n) × (length (calls_from s m.used at n) ≡ field_count s m.used at n)

-- r is what runs p and then q, from where p stopped, come to
pub record Together (p q r : Run) (b : ℕ) : Type 0 where
  pub machine : r.machine ≡ q.machine
  pub done : r.done ≡ p.done + q.done
  pub next : r.next ≡ q.next
  pub stop : 0 < b → r.stop ≡ q.stop

-- a run of a + b fields is a run of a fields and then, from where it stopped, of b
abbrev pub InTwo : Type 0
InTwo =
    (s : List ℕ) (m : Machine) (at a b : ℕ)
    → Together (run_of s m at a) (run_of s (run_of s m at a).machine (run_of s m at a).next.at b) (run_of s m at (a + b)) b

-- and it answers what they answer, one after the other
abbrev pub answers_of : List ℕ → Machine → ℕ → ℕ → List Reply
answers_of s m at n = replies m (calls_from s m.used at n)

abbrev pub AnsweredInTwo : Type 0
AnsweredInTwo =
    (s : List ℕ) (m : Machine) (at a b : ℕ)
    → answers_of s m at (a + b) ≡ answers_of s m at a ++ answers_of s (run_of s m at a).machine (run_of s m at a).next.at b

-- ---- fields that come too late

-- c, performed, makes a later d late: d chooses what a chip is, and c is of that chip
abbrev pub bars : Call → Call → Bool
bars c d = is_choice d && same (chip_of c) (chip_of d)

-- one of the calls does
unfoldable pub barred : List Call → Call → Bool
barred [] d = false
barred (c ∷ cs) d = bars c d || barred cs d

-- the machine remembers it
abbrev pub Remembered : Type 0
Remembered = (m : Machine) (cs : List Call) (d : Call) → is_late (after_calls m cs).used d ≡ barred cs d || is_late m.used d

-- so after the first a fields of a script one that is good by itself is bad exactly if it chooses what a chip is and one of that chip's fields was among them, refused or not
abbrev pub LateIsBad : Type 0
LateIsBad =
    (s : List ℕ) (a tag : ℕ) (d : Call) (next : Cursor)
    → field_at s (run_of s new_machine 0 a).next.at ≡ Good tag d next
    → field_for s (run_of s new_machine 0 a).machine.used (run_of s new_machine 0 a).next.at
    ≡ cond (barred (calls_from s unused 0 a) d) Bad (Good tag d next)

-- none of the calls is late
unfoldable pub in_time : Used → List Call → Bool
in_time used [] = true
in_time used (c ∷ cs) = not (is_late used c) && in_time (used_after used c) cs

-- a run performs none that is
abbrev pub InTime : Type 0
InTime = (s : List ℕ) (used : Used) (at n : ℕ) → in_time used (calls_from s used at n) ≡ true

-- ---- the end

-- a run never passes the end
abbrev pub Within : Type 0
Within = (s : List ℕ) (used : Used) (at n : ℕ) → at ≤ length s → place_after s used at n ≤ length s

-- from the end on, or beyond it, nothing is performed
abbrev pub Beyond : Type 0
Beyond =
    (s : List ℕ) (m : Machine) (at n : ℕ)
    → length s ≤ at
    → ((run_of s m at n).machine ≡ m) × (((run_of s m at n).done ≡ 0) × ((run_of s m at n).next.at ≡ at))

-- the number performed is the allowance, or the run ended at the script's end or at a field that is bad for the machine then. An allowance used up at the very end is said as the allowance
abbrev pub Ended : Run → List ℕ → ℕ → Type 0
Ended r s n =
    ((r.stop ≡ stop.Allowance) × (r.done ≡ n))
    ⊎ (((r.stop ≡ stop.End) × (length s ≤ r.next.at)) ⊎ ((r.stop ≡ stop.BadField) × (field_for s r.machine.used r.next.at ≡ Bad)))

abbrev pub Ends : Type 0
Ends = (s : List ℕ) (m : Machine) (at n : ℕ) → Ended (run_of s m at n) s n

-- ---- a bad field

-- nothing is performed at a bad field, however many are allowed: the machine is the one that the calls before it left
abbrev pub NothingAtBad : Type 0
NothingAtBad =
    (s : List ℕ) (m : Machine) (at n : ℕ)
    → field_for s m.used at ≡ Bad
    → 0 < n
    → run_of s m at n ≡ record { machine = m; done = 0; next = record { at = at }; stop = stop.BadField }

-- nor do the bytes behind it matter, if all of the field is there: a script with others behind it runs the same, and answers the same. (One that is cut off they could make good.)
abbrev pub NothingBehindBad : Type 0
NothingBehindBad =
    (s x : List ℕ) (m : Machine) (at n : ℕ)
    → (run_of s m at n).stop ≡ stop.BadField
    → end_at s (run_of s m at n).next.at ≤ length s
    → (run_of (s ++ x) m at n ≡ run_of s m at n) × (answers_of (s ++ x) m at n ≡ answers_of s m at n)
