use mathlib.Core.Path.{sym, ap, ◌∙◌}
use Rattle.std.specs.Prelude.{Ok}
use Rattle.script_machine.specs.Machine.{machine_in}
use Rattle.script_machine.proofs.Steps.{step_did, step_bad, step_end}
use Rattle.script_machine.proofs.Machine.step.Goals as goal

pub returns-in-Ok-Some : goal.returns-in-Ok-Some
unfolding machine_in
returns-in-Ok-Some c = step_did _ _ _ _ _ _ (sym c.next_field.ensures ∙ c.in-Ok-Some.is ∙ ap Ok c.in-Ok-Some.field-0-is) c.perform-reply.ensures

pub returns-in-Ok-None : goal.returns-in-Ok-None
unfolding machine_in
returns-in-Ok-None c = step_end _ _ _ (sym c.next_field.ensures ∙ c.in-Ok-None.is ∙ ap Ok c.in-Ok-None.field-0-is)

pub returns-in-Err : goal.returns-in-Err
unfolding machine_in
returns-in-Err c = step_bad _ _ _ _ (sym c.next_field.ensures ∙ c.in-Err.is)
