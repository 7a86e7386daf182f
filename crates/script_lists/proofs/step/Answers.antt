use mathlib.Core.Path.{refl, sym, ap, ◌∙◌}
use Rattle.std.specs.Prelude.{Ok}
use Rattle.script_lists.proofs.Hosts.{step_list, step_bad, step_other}
use Rattle.script_lists.proofs.step.Goals as goal

pub returns-in-Ok-Some : goal.returns-in-Ok-Some
returns-in-Ok-Some c = step_list _ _ c.args.machine.now _ _ _ _ _ (sym c.read.ensures ∙ c.in-Ok-Some.is ∙ ap Ok c.in-Ok-Some.field-0-is) c.perform-reply.ensures

pub returns-in-Ok-None : goal.returns-in-Ok-None
returns-in-Ok-None c = step_other _ _ c.args.machine.now _ _ (sym c.read.ensures ∙ c.in-Ok-None.is ∙ ap Ok c.in-Ok-None.field-0-is) c.step.ensures

pub returns-in-Err : goal.returns-in-Err
returns-in-Err c = step_bad _ _ c.args.machine.now _ c.args.from _ refl (sym c.read.ensures ∙ c.in-Err.is)
