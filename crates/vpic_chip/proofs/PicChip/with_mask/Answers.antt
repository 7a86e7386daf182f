use Rattle.vpic_chip.proofs.Packing.{mask_put}
use Rattle.vpic_chip.proofs.PicChip.with_mask.Goals as goal

pub returns : goal.returns
returns c = search mask_put
