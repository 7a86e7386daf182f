use Rattle.vioapic.proofs.Entries.{fly_is}
use Rattle.vioapic.proofs.fly.Goals as goal

pub returns : goal.returns
returns c = search fly_is
