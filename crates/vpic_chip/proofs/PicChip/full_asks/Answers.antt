use Rattle.vpic_chip.proofs.Full.{full_asked}
use Rattle.vpic_chip.proofs.PicChip.full_asks.Goals as goal

pub returns : goal.returns
returns c = search full_asked
