use Rattle.vpic_chip.proofs.Full.{full_empty, full_some, full_none}
use Rattle.vpic_chip.proofs.PicChip.full_pending_irq.Goals as goal

pub returns-then-open-eq0 : goal.returns-then-open-eq0
returns-then-open-eq0 c = search full_empty

pub returns-then-is_above : goal.returns-then-is_above
returns-then-is_above c = search full_some

pub returns : goal.returns
returns c = search full_none
