use native.Mathlib.Omega.{arith}
use Rattle.planner.proofs.Loops.{giving_last}
use Rattle.planner.proofs.Lines.planned.Goals as goal

pub returns-2 : goal.returns-2
returns-2 c = giving_last _ _ _ _ _ c.loop-vector.invariant.1 (omega arith) c.give.ensures
