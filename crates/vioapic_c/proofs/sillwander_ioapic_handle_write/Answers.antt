use Rattle.vioapic_c.proofs.Ways.{write_coded}
use Rattle.vioapic_c.proofs.sillwander_ioapic_handle_write.Goals as goal

pub returns : goal.returns
returns c = search write_coded
