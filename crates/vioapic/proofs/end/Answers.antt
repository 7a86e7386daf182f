use Rattle.vioapic.proofs.Entries.{ended_up, ended_quiet, ended_deferred}
use Rattle.vioapic.proofs.Entries.{ended_up, ended_quiet, ended_deferred}
use Rattle.vioapic.proofs.end.Goals as goal

pub returns-then-is_up : goal.returns-then-is_up
returns-then-is_up c = search ended_up

pub returns-then-not-is_deferred : goal.returns-then-not-is_deferred
returns-then-not-is_deferred c = search ended_quiet

pub returns : goal.returns
returns c = search ended_deferred
