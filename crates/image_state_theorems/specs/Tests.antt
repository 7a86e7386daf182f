-- The tests that a restore asks of the words (`image_rules`) are the rules of the chips that the words stand for, both ways.
use Rattle.std.specs.Prelude.{true, List, ◌↔◌, ◌≡◌, ℕ}
use Rattle.vioapic.specs.State as io
use Rattle.vlapic_words.specs.Words as apic
use Rattle.vpic.specs.Words as pair
use Rattle.image_rules.specs.Rules.{ioapic_keeps, apic_keeps, keeps_pair}
use Rattle.image_state_theorems.specs.Rules.{IoRules, ApicRules, PairRules}

abbrev pub IoTest : Type 0
IoTest = (l : List ℕ) → ioapic_keeps (io.view l) ≡ true ↔ IoRules (io.view l)

abbrev pub ApicTest : Type 0
ApicTest = (l : List ℕ) → apic_keeps l ≡ true ↔ ApicRules (apic.view l)

abbrev pub PairTest : Type 0
PairTest = (l : List ℕ) → keeps_pair (pair.view l) ≡ true ↔ PairRules (pair.view l)
