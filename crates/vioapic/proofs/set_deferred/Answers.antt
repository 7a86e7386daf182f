use Rattle.vioapic.proofs.Entries.{set_deferred_is}
use Rattle.vioapic.proofs.set_deferred.Goals as goal

pub returns : goal.returns
returns c = search set_deferred_is
