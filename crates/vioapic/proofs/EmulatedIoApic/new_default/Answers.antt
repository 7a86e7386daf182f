use Rattle.vioapic.proofs.Ways.{new_default_lem}
use Rattle.vioapic.proofs.EmulatedIoApic.new_default.Goals as goal

pub returns : goal.returns
returns c = (search new_default_lem, c.put_new.ensures)
