use mathlib.Core.Path.{refl}
use Rattle.vpic.proofs.Laws.{irq_none, irq_some}
use borrow.Author.Rules.{rules}
use Rattle.vpic.proofs.claim_line.Goals as goal

pub returns-in_default : goal.returns-in_default
returns-in_default c = (search irq_none, refl)

pub returns : goal.returns
returns c = (search irq_some, search rules)
