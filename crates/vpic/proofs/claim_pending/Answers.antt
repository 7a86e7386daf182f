use Rattle.vpic.proofs.Laws.{taken_settled}
use borrow.Author.Rules.{rules}
use Rattle.vpic.proofs.claim_pending.Goals as goal

pub returns : goal.returns
returns c = (search taken_settled, search rules)
