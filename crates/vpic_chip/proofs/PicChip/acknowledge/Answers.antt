use Rattle.vpic_chip.proofs.Laws.{ack_none, ack_done}
use Rattle.vpic_chip.proofs.PicChip.acknowledge.Goals as goal

pub returns-then-irq-ge8 : goal.returns-then-irq-ge8
returns-then-irq-ge8 c = search ack_none

pub returns : goal.returns
returns c = search ack_done
