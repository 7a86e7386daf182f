use Rattle.vpic_chip.proofs.Laws.{back_requested, back_outside, back_ended}
use Rattle.vpic_chip.proofs.PicChip.unacknowledge.Goals as goal

pub returns-then-not-in_service : goal.returns-then-not-in_service
returns-then-not-in_service c = search back_requested

pub returns-then-irq-ge8 : goal.returns-then-irq-ge8
returns-then-irq-ge8 c = search back_outside

pub returns : goal.returns
returns c = search back_ended
