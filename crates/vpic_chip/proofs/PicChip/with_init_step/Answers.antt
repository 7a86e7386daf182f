use Rattle.vpic_chip.proofs.Packing.{step_put}
use Rattle.vpic_chip.proofs.PicChip.with_init_step.Goals as goal

pub returns : goal.returns
returns c = search step_put
