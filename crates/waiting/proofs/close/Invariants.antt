use Prim.Native.Nat.{◌+◌, ◌-◌}
use Rattle.waiting.specs.Steps.{Closing}
use Rattle.waiting.proofs.close.Given as goal

abbrev pub invariant-loop-place : goal.invariant-loop-place
invariant-loop-place l = Closing l.initial.list l.at l.more l.list l.place (l.at + l.more - l.place)
