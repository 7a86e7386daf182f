use Rattle.vpic_chip.proofs.Full.{eoi_none, eoi_some}
use Rattle.vpic_chip.proofs.PicChip.full_end_highest.Goals as goal

pub returns-then-irq-ge8 : goal.returns-then-irq-ge8
returns-then-irq-ge8 c = search eoi_none

pub returns : goal.returns
returns c = search eoi_some
