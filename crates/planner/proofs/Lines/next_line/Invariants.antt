use Rattle.std.proofs.Common.{◌≡◌, ◌<◌, length, IfSome}
use Rattle.planner.specs.Plan.{line_number, best_of}
use Rattle.planner.proofs.Lines.next_line.Given as goal

abbrev pub invariant-loop-k : goal.invariant-loop-k
invariant-loop-k l = IfSome l.best (λ line. line < length l.self.ranges.now) × (line_number l.best ≡ best_of l.self.ranges.now l.given l.vector l.k)
