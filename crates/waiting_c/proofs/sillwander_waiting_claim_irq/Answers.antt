use Rattle.waiting_c.proofs.Codes.{irq_code}
use Rattle.waiting_c.proofs.sillwander_waiting_claim_irq.Goals as goal

pub returns : goal.returns
returns c = search irq_code
