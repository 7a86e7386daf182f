use Rattle.vpic.proofs.Full.{irq_plain_number, irq_full_number}
use Rattle.vpic.proofs.claim_irq_number.Goals as goal

pub returns-then-is_full : goal.returns-then-is_full
returns-then-is_full c = search irq_full_number

pub returns : goal.returns
returns c = search irq_plain_number
