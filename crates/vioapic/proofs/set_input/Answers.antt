use Rattle.vioapic.proofs.Entries.{set_input_is}
use Rattle.vioapic.proofs.set_input.Goals as goal

pub returns : goal.returns
returns c = search set_input_is
