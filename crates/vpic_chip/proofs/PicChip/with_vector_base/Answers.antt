use Rattle.vpic_chip.proofs.Packing.{base_put}
use Rattle.vpic_chip.proofs.PicChip.with_vector_base.Goals as goal

pub returns : goal.returns
returns c = search base_put
