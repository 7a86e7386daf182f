use Rattle.std.proofs.Common.{◌≡◌}
use Rattle.utils.specs.Set.{set_of}
use Rattle.planner.specs.Shortage.{confined}
use Rattle.planner.proofs.Lines.lines_confined.Given as goal

abbrev pub invariant-loop-k : goal.invariant-loop-k
invariant-loop-k l = l.lines ≡ set_of l.k (confined l.self.ranges.now l.from.0 l.to.0)
