use Rattle.std.proofs.Common.{ap, not}
use Rattle.planner.proofs.Loops.{plan_many, plan_short, plan_unordered, plan_none, plan_done}
use Rattle.planner.proofs.plan.Goals as goal

pub returns-then-lines-gt24 : goal.returns-then-lines-gt24
returns-then-lines-gt24 c = search plan_many

pub returns-then-lent-lines : goal.returns-then-lent-lines
returns-then-lent-lines c = search plan_short

pub returns-then-not-ordered : goal.returns-then-not-ordered
returns-then-not-ordered c = plan_unordered _ _ _ c.if-lines-gt24.false c.if-lent-lines.false _ c.ordered.ensures (ap not c.if-not-ordered.true)

pub returns-then-not-check : goal.returns-then-not-check
returns-then-not-check c = plan_none _ _ _ c.if-lines-gt24.false c.if-lent-lines.false _ c.ordered.ensures (ap not c.if-not-ordered.false) _ c.planned-given.ensures _ c.check.ensures (ap not c.if-not-check.true)

pub returns : goal.returns
returns c = plan_done _ _ _ c.if-lines-gt24.false c.if-lent-lines.false _ c.ordered.ensures (ap not c.if-not-ordered.false) _ c.planned-given.ensures _ c.check.ensures _ (ap not c.if-not-check.false) (cc)
