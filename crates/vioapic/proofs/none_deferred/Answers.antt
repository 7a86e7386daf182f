use Rattle.vioapic.proofs.Entries.{none_deferred}
use Rattle.vioapic.proofs.none_deferred.Goals as goal

pub returns : goal.returns
returns c = λ h. none_deferred _ h
