use Rattle.vioapic.proofs.Ways.{new_default_words, new_default_of}
use Rattle.vioapic.proofs.EmulatedIoApic.new_default_version.Goals as goal

pub returns : goal.returns
returns c = (search new_default_of, search new_default_words)
