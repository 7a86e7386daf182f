use Rattle.vioapic.proofs.Entries.{ended20_deferred, ended20_up, ended20_quiet}
use Rattle.vioapic.proofs.Entries.{ended20_deferred, ended20_up, ended20_quiet}
use Rattle.vioapic.proofs.end20.Goals as goal

pub returns-then-is_deferred : goal.returns-then-is_deferred
returns-then-is_deferred c = search ended20_deferred

pub returns-then-is_up : goal.returns-then-is_up
returns-then-is_up c = search ended20_up

pub returns : goal.returns
returns c = search ended20_quiet
