use Rattle.waiting.specs.Steps.{Passed}
use Rattle.waiting.proofs.index_of.Given as goal

abbrev pub invariant-loop-k : goal.invariant-loop-k
invariant-loop-k l = Passed l.list l.head l.n l.vector l.k
