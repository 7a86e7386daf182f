use mathlib.Core.Path.{refl}
use Rattle.vpic_chip.specs.Registers.{chip_in}
use Rattle.vpic_chip.proofs.PicChip.vector_base.Goals as goal

pub returns : goal.returns
unfolding chip_in
returns c = refl
