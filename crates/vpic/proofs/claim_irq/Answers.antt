use Rattle.vpic.proofs.Full.{irq_plain, irq_full}
use Rattle.vpic.proofs.claim_irq.Goals as goal

pub returns-then-is_full : goal.returns-then-is_full
returns-then-is_full c = search irq_full

pub returns : goal.returns
returns c = search irq_plain
