use Rattle.std.proofs.Common.{◌≡◌}
use Rattle.planner.specs.Lines.{count}
use Rattle.planner.specs.Shortage.{free_within}
use Rattle.planner.proofs.shortage.count_free.Given as goal

abbrev pub invariant-loop-vector : goal.invariant-loop-vector
invariant-loop-vector l = l.n ≡ count l.vector (free_within l.taken l.from.0 l.to.0)
