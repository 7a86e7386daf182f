use Rattle.script_machine.proofs.Chips.{new_machine_lem}
use Rattle.script_machine.proofs.Machine.new.Goals as goal

pub returns : goal.returns
returns c = new_machine_lem _ _ _ _ _ _ _ _ _ c.new_default-made.ensures c.new.ensures c.new-2.ensures c.new-3.ensures
