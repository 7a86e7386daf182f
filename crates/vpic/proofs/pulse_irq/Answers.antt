use Rattle.vpic.proofs.Full.{pulse_plain, pulse_full}
use Rattle.vpic.proofs.pulse_irq.Goals as goal

pub returns-then-is_full : goal.returns-then-is_full
returns-then-is_full c = search pulse_full

pub returns : goal.returns
returns c = search pulse_plain
