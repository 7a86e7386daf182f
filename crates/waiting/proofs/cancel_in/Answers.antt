use Rattle.std.proofs.Common.{arith}
use Rattle.waiting.proofs.Ring.{none_cancelled, oldest_cancelled}
use Rattle.waiting.proofs.cancel_in.Goals as goal

pub returns-in_default : goal.returns-in_default
returns-in_default c = none_cancelled _ _ _ _ _ c.from-head.ensures c.size-n.ensures.0 c.in_default.ensures.index (omega arith)

pub returns : goal.returns
returns c = oldest_cancelled _ _ _ _ _ _ c.requires c.from-head.ensures c.size-n.ensures.0 c.in-Some.ensures.index c.in-Some.ensures.within c.close.ensures
