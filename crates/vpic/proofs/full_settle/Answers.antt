use Rattle.vpic.proofs.Full.{full_settle_off, full_settle_on}
use Rattle.vpic_chip.proofs.Full.{full_driven}
use Rattle.vpic.proofs.full_settle.Goals as goal

pub returns-then-not-is_cascade : goal.returns-then-not-is_cascade
returns-then-not-is_cascade c = search full_settle_off

pub returns : goal.returns
returns c = search (full_settle_on, full_driven)
