use Rattle.vioapic.proofs.Ways.{new_value}
use Rattle.vioapic.proofs.EmulatedIoApic.new_version.Goals as goal

pub returns : goal.returns
returns c = search new_value
