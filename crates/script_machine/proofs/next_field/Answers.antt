use mathlib.Core.Path.{ap, ◌∙◌}
use Rattle.script_machine.specs.Late.{taken, field_for}
use Rattle.script_machine.proofs.next_field.Goals as goal

pub returns : goal.returns
unfolding field_for
returns c = c.taken.ensures ∙ ap (taken c.args.used) c.read.ensures
