use Rattle.vioapic_c.proofs.Ways.{end_wide, end_coded}
use Rattle.vioapic_c.proofs.sillwander_ioapic_end_of_interrupt.Goals as goal

pub returns-then-vector-ge256 : goal.returns-then-vector-ge256
returns-then-vector-ge256 c = search end_wide

pub returns : goal.returns
returns c = search end_coded
