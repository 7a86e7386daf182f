use Rattle.vioapic.proofs.Ways.{end_20, end_11}
use Rattle.vioapic.proofs.end_of_interrupt.Goals as goal

pub returns-then-is_version_20 : goal.returns-then-is_version_20
returns-then-is_version_20 c = search end_20

pub returns : goal.returns
returns c = search end_11
