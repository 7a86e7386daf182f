-- A run of a script (document 01, "Scripts"): of the fields from a place on as many as are allowed, up to the first bad one or the end. Which fields that are, how
-- many, where the next one starts and why the run ends is read off the bytes, and which chips were used before them; the machine is the one after their calls.
use Rattle.std.specs.Prelude.{ℕ, zero, suc, List, [], ◌∷◌, Option, Some, None, Result, Ok, Err}
use Rattle.script_format.specs.declared.Call.{Call}
use Rattle.script_format.specs.declared.Field.{Field}
use Rattle.script_format.specs.declared.BadField.{BadField}
use Rattle.script_format.specs.declared.Cursor.{Cursor}
use Rattle.types.specs.Reply.{Outcome, outcome_of}
use Rattle.types.specs.declared.Refusal.TheVariants as refusal
use Rattle.types.specs.declared.Reply.{Reply}
use Rattle.types.specs.declared.Reply.TheVariants.{Refused, Nothing}
use Rattle.script_machine.specs.declared.Used.{Used}
use Rattle.script_machine.specs.declared.Stop.{Stop}
use Rattle.script_machine.specs.declared.Stop.TheVariants as stop
use Rattle.script_machine.specs.declared.Did.{Did}
use Rattle.script_machine.specs.declared.Machine as declared
use Rattle.script_machine.specs.Late.{used_after, field_for}
use Rattle.script_machine.specs.declared.Ended.{Ended}
use Rattle.script_machine.specs.Machine.{Machine, machine_of, performed}

-- ---- one field

-- what a step says: a field was performed, with its tag and what its call said back, or none was, and why
abbrev pub Said : Type 0
Said = Result Did Stop

abbrev pub did : ℕ → Reply → Said
did tag reply = Ok (record { tag = tag; reply = reply })

abbrev pub stopped : Stop → Said
stopped why = Err why

-- a step: the machine after it, where the next field starts, and what it says
pub record Step : Type 0 where
  pub machine : Machine
  pub next : Cursor
  pub said : Said

-- a good field is performed; at a bad one and at the end nothing is, and the place stays
abbrev pub step_by : Machine → ℕ → Result (Option (Field Call)) BadField → Step
step_by m at (Ok (Some f)) = record { machine = (performed m f.call).state; next = f.next; said = did f.tag (performed m f.call).reply }
step_by m at (Err b) = record { machine = m; next = record { at = at }; said = stopped stop.BadField }
step_by m at (Ok None) = record { machine = m; next = record { at = at }; said = stopped stop.End }

unfoldable pub step_of : List ℕ → Machine → ℕ → Step
step_of s m at = step_by m at (field_for s m.used at)

-- the step that a machine after it and its answer stand for
abbrev pub step_in : declared.Machine → Cursor × Said → Step
step_in m r = record { machine = machine_of m; next = r.0; said = r.1 }

-- ---- a run

-- what a good field gives, by its call and the place after it; what a bad field gives; what the end gives
abbrev pub by_field : {A : Type 0} → Result (Option (Field Call)) BadField → (Call → ℕ → A) → A → A → A
by_field (Ok (Some f)) good bad end = good f.call f.next.at
by_field (Err b) good bad end = bad
by_field (Ok None) good bad end = end

-- how many fields a run performs from a place on if n are allowed: a field that is performed counts, be its call refused or not, and a bad one doesn't
unfoldable pub field_count : List ℕ → Used → ℕ → ℕ → ℕ
field_count s used at zero = 0
field_count s used at (suc n) = by_field (field_for s used at) (λ call next. suc (field_count s (used_after used call) next n)) 0 0

-- where the next field starts: at a bad field that is its tag's place, at the end the length
unfoldable pub place_after : List ℕ → Used → ℕ → ℕ → ℕ
place_after s used at zero = at
place_after s used at (suc n) = by_field (field_for s used at) (λ call next. place_after s (used_after used call) next n) at at

-- why the run ends: once the allowance is used up the next field isn't looked at
unfoldable pub stop_after : List ℕ → Used → ℕ → ℕ → Stop
stop_after s used at zero = stop.Allowance
stop_after s used at (suc n) = by_field (field_for s used at) (λ call next. stop_after s (used_after used call) next n) stop.BadField stop.End

-- the calls of the fields that are performed
unfoldable pub calls_from : List ℕ → Used → ℕ → ℕ → List Call
calls_from s used at zero = []
calls_from s used at (suc n) = by_field (field_for s used at) (λ call next. call ∷ calls_from s (used_after used call) next n) [] []

-- the machine after calls, and what they say back
unfoldable pub after_calls : Machine → List Call → Machine
after_calls m [] = m
after_calls m (c ∷ cs) = after_calls (performed m c).state cs

unfoldable pub replies : Machine → List Call → List Reply
replies m [] = []
replies m (c ∷ cs) = (performed m c).reply ∷ replies (performed m c).state cs

-- a run: the machine after it, how many fields were performed, where the next one starts, and why it ended
pub record Run : Type 0 where
  pub machine : Machine
  pub done : ℕ
  pub next : Cursor
  pub stop : Stop

abbrev pub run_of : List ℕ → Machine → ℕ → ℕ → Run
run_of s m at n = record {
  machine = after_calls m (calls_from s m.used at n);
  done = field_count s m.used at n;
  next = record { at = place_after s m.used at n };
  stop = stop_after s m.used at n;
}

-- why a run ended, in document 01's numbers: 6 for a bad field
abbrev pub stop_reply : Stop → Reply
stop_reply stop.Allowance = Nothing
stop_reply stop.BadField = Refused refusal.BadField
stop_reply stop.End = Nothing

-- a run as an outcome
abbrev pub ended : Run → Outcome Run
ended r = outcome_of r (stop_reply r.stop)

abbrev pub run_outcome : List ℕ → Machine → ℕ → ℕ → Outcome Run
run_outcome s m at n = ended (run_of s m at n)

-- the run that a machine after it and its answer stand for
abbrev pub run_in : declared.Machine → Ended → Run
run_in m e = record { machine = machine_of m; done = e.done; next = e.next; stop = e.stop }
