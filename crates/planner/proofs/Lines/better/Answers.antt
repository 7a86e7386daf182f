use Rattle.std.proofs.Common.{arith, rules}
use Rattle.planner.proofs.Leaves.{better_waits_not, better_kept, better_taken, better_none}
use Rattle.planner.proofs.Lines.better.Goals as goal

pub returns-then-not-waits-clause-is : goal.returns-then-not-waits-clause-is
returns-then-not-waits-clause-is c = better_waits_not _ _ _ _ _ _ c.waits.ensures c.if-not-waits.true

pub returns-in-Some-clause-is : goal.returns-in-Some-clause-is
returns-in-Some-clause-is c = better_kept _ _ _ _ _ _ _ _ _ c.in-Some.is c.waits.ensures c.if-not-waits.false c.reach-end.ensures c.reach.ensures c.if-reach-end.true

pub returns-in_default-clause-is : goal.returns-in_default-clause-is
returns-in_default-clause-is c = better_taken _ _ _ _ _ _ _ _ _ c.in-Some.is c.waits.ensures c.if-not-waits.false c.reach-end.ensures c.reach.ensures c.if-reach-end.false

pub returns-in_default-2-clause-is : goal.returns-in_default-2-clause-is
returns-in_default-2-clause-is c = better_none _ _ _ _ _ _ _ c.in_default.is (search rules) c.reach-end.ensures (omega (arith, c.reach-end.type_inv)) c.waits.ensures c.if-not-waits.false
