use Rattle.vioapic.proofs.Entries.{write_high_is}
use Rattle.vioapic.proofs.write_high.Goals as goal

pub returns : goal.returns
returns c = search write_high_is
