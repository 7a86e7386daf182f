use Rattle.vpic_chip.proofs.Packing.{full_icw1_put}
use Rattle.vpic_chip.proofs.PicChip.full_icw1.Goals as goal

pub returns : goal.returns
returns c = search full_icw1_put
