use Rattle.vioapic.proofs.Entries.{rest_is}
use Rattle.vioapic.proofs.rest.Goals as goal

pub returns : goal.returns
returns c = search rest_is
