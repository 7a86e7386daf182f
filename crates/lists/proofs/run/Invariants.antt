use Prim.Native.Nat.{◌-◌, ◌≤◌}
use lib.ListN.{length}
use Rattle.lists.proofs.run.Given as goal

abbrev pub invariant-loop : goal.invariant-loop
invariant-loop g l = l.next.at ≤ length l.script

abbrev pub decreases-loop : goal.decreases-loop
decreases-loop g l = length l.script - l.next.at
