use Rattle.vlapic_words.proofs.Ways.{self_in, self_out}
use Rattle.vlapic_words.proofs.write_self_ipi.Goals as goal

pub returns-then-is_x2apic : goal.returns-then-is_x2apic
returns-then-is_x2apic c = search self_in

pub returns : goal.returns
returns c = search self_out
