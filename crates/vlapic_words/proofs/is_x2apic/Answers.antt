use Rattle.vlapic_words.specs.Words.{view}
use borrow.Author.Rules.{rules}
use Rattle.vlapic_words.proofs.is_x2apic.Goals as goal

pub returns : goal.returns
unfolding view
returns c = search rules
