-- A step, from what the field at its place is. Assumes nothing.
use mathlib.Core.Path.{◌≡◌}
use mathlib.Core.List.{List}
use Prim.Native.Nat.{ℕ}
use Rattle.types.specs.Reply.{outcome_of}
use Rattle.types.specs.declared.Reply.{Reply}
use Rattle.script_format.specs.declared.Call.{Call}
use Rattle.std.specs.Prelude.{Some, None, Ok, Err}
use Rattle.script_format.specs.declared.BadField.{BadField}
use Rattle.script_format.specs.declared.Field.{Field}
use Rattle.script_machine.specs.declared.Stop.TheVariants as stop
use Rattle.script_machine.specs.Late.{field_for}
use Rattle.script_machine.specs.Machine.{Machine, performed}
use Rattle.script_machine.specs.Run.{Step, did, stopped, step_of}

pub step_did : (s : List ℕ) (m x : Machine) (at : ℕ) (f : Field Call) (r : Reply) → field_for s m.used at ≡ Ok (Some f) → outcome_of x r ≡ performed m f.call
    → ◌≡◌ {A = Step} (record { machine = x; next = f.next; said = did f.tag r }) (step_of s m at)
unfolding step_of
step_did s m x at f r e g = rw (e, ← g)

pub step_bad : (s : List ℕ) (m : Machine) (at : ℕ) (b : BadField) → field_for s m.used at ≡ Err b
    → ◌≡◌ {A = Step} (record { machine = m; next = record { at = at }; said = stopped stop.BadField }) (step_of s m at)
unfolding step_of
step_bad s m at b f = rw f

pub step_end : (s : List ℕ) (m : Machine) (at : ℕ) → field_for s m.used at ≡ Ok None
    → ◌≡◌ {A = Step} (record { machine = m; next = record { at = at }; said = stopped stop.End }) (step_of s m at)
unfolding step_of
step_end s m at f = rw f
