use Rattle.vpic_chip.proofs.Packing.{plain}
use Rattle.vpic_chip.proofs.Laws.{pending_none, pending_some}
use Rattle.vpic_chip.proofs.PicChip.pending_irq.Goals as goal

pub returns-then-irq-lt8 : goal.returns-then-irq-lt8
returns-then-irq-lt8 c = search (pending_some, plain)

pub returns : goal.returns
returns c = search (pending_none, plain)
