use Rattle.vioapic.proofs.Every.{turn_sent, turn_unsent}
use Rattle.vioapic.proofs.end_at.Goals as goal

pub returns-then-is_some : goal.returns-then-is_some
returns-then-is_some c = search turn_sent

pub returns : goal.returns
returns c = search turn_unsent
