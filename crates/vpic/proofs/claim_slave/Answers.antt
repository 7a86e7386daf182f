use borrow.Author.Rules.{rules}
use Rattle.vpic.proofs.Laws.{slave_settled, slave_quiet}
use Rattle.vpic.proofs.claim_slave.Goals as goal

pub returns-then-auto_eoi : goal.returns-then-auto_eoi
returns-then-auto_eoi c = (search slave_settled, search rules)

pub returns-then-auto_eoi-2 : goal.returns-then-auto_eoi-2
returns-then-auto_eoi-2 c = (search slave_quiet, search rules)

pub returns : goal.returns
returns c = (search slave_quiet, search rules)
