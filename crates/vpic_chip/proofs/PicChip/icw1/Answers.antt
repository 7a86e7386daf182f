use Rattle.vpic_chip.proofs.Packing.{icw1_put}
use Rattle.vpic_chip.proofs.PicChip.icw1.Goals as goal

pub returns : goal.returns
returns c = search icw1_put
