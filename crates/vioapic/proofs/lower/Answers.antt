use Rattle.vioapic.proofs.Entries.{lowered, lowered_plain}
use Rattle.vioapic.proofs.lower.Goals as goal

pub returns-then-is_deferred : goal.returns-then-is_deferred
returns-then-is_deferred c = search lowered

pub returns : goal.returns
returns c = search lowered_plain
