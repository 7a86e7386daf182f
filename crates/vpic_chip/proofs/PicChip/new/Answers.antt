use Rattle.vpic_chip.proofs.Packing.{new_put}
use Rattle.vpic_chip.proofs.PicChip.new.Goals as goal

pub returns : goal.returns
returns c = search new_put
