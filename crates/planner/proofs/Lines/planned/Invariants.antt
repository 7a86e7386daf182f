use Rattle.std.proofs.Common.{◌≡◌, ◌-◌, length}
use Rattle.planner.specs.Plan.{giving}
use Rattle.planner.proofs.Lines.planned.Given as goal

abbrev pub invariant-loop-vector : goal.invariant-loop-vector
invariant-loop-vector l = (length l.given ≡ 24) × (l.given ≡ giving l.self.ranges.now l.self.taken.now (l.vector - 32))
