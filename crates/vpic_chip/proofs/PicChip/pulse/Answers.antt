use Rattle.utils.specs.Cases.{cases}
use Rattle.vpic_chip.specs.Chip.{pulsed}
use Rattle.vpic_chip.proofs.PicChip.pulse.Goals as goal

pub returns-then-irq-ge8 : goal.returns-then-irq-ge8
unfolding pulsed
returns-then-irq-ge8 c = search cases

pub returns : goal.returns
unfolding pulsed
returns c = search cases
