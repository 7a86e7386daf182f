use Rattle.std.proofs.Common.{sym, ap, not, arith}
use Rattle.planner.proofs.Loops.{shortage_many, shortage_unordered, shortage_shown, shortage_none, start_shown, shown_so}
use Rattle.planner.proofs.shortage.shortage.Goals as goal

pub returns-then-ranges-gt24 : goal.returns-then-ranges-gt24
returns-then-ranges-gt24 c = search shortage_many

pub returns-then-not-ordered : goal.returns-then-not-ordered
returns-then-not-ordered c = shortage_unordered _ _ c.if-ranges-gt24.false _ c.ordered.ensures (ap not c.if-not-ordered.true)

pub returns-in_default : goal.returns-in_default
returns-in_default c = shortage_none _ _ c.if-ranges-gt24.false _ c.ordered.ensures (ap not c.if-not-ordered.false) _ (sym c.in_default.ensures) (omega arith)

pub returns : goal.returns
returns c =
    shortage_shown _ _ c.if-ranges-gt24.false _ c.ordered.ensures (ap not c.if-not-ordered.false) _ c.in-Some.ensures.0 _ _ c.in-Some.ensures.1 c.lowest.ensures
    (shown_so _ _ _ _ c.shown.ensures (start_shown _ _ _ _ c.in-Some.ensures.0 c.in-Some.ensures.1 c.lowest.ensures))
