use Rattle.vpic_chip.proofs.Packing.{status_read}
use Rattle.vpic_chip.proofs.PicChip.read_command.Goals as goal

pub returns : goal.returns
returns c = status_read _
