use Rattle.vpic_c.proofs.Laws.{pulse_code}
use Rattle.vpic_c.proofs.sillwander_pic_pulse_irq.Goals as goal

pub returns : goal.returns
returns c = search pulse_code
