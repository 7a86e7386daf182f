use Rattle.vpic_c.proofs.Laws.{irq_code}
use Rattle.vpic_c.proofs.sillwander_pic_claim_irq.Goals as goal

pub returns : goal.returns
returns c = search irq_code
