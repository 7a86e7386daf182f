use Rattle.vioapic.proofs.Ways.{at_select}
use Rattle.vioapic.proofs.select.Goals as goal

pub returns : goal.returns
returns c = search at_select
