-- The statements of specs/Tests. Assumes nothing.
use Rattle.vioapic.specs.State as io
use Rattle.vioapic.proofs.Words.{view_long, view_small}
use Rattle.vpic.specs.Words as pair
use Rattle.image_state_theorems.specs.Tests.{IoTest, ApicTest, PairTest}
use Rattle.image_state_theorems.proofs.Laws.{io_rules, io_kept}
use Rattle.image_state_theorems.proofs.ApicLaws.{apic_rules, apic_kept}
use Rattle.image_state_theorems.proofs.PairLaws.{pair_rules, pair_kept}

pub io_test : IoTest
io_test l = (λ h. io_rules (io.view l) h (view_long l) (view_small l), io_kept (io.view l))

pub apic_test : ApicTest
apic_test l = (apic_rules l, apic_kept l)

pub pair_test : PairTest
pair_test l = (pair_rules l, pair_kept (pair.view l))
