use mathlib.Core.Path.{refl}
use Rattle.vpic.proofs.Full.{open_unasked, open_plain, open_full}
use borrow.Author.Rules.{rules}
use Rattle.vpic.proofs.claim_open.Goals as goal

pub returns-then-is_full : goal.returns-then-is_full
returns-then-is_full c = (search open_full, search rules)

pub returns-then-not-asks : goal.returns-then-not-asks
returns-then-not-asks c = (search open_unasked, refl)

pub returns : goal.returns
returns c = (search open_plain, search rules)
