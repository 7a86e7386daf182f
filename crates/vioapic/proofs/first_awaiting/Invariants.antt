use Rattle.std.proofs.Common.{◌≡◌, ◌^◌, ◌<◌}
use Rattle.vioapic.specs.State.{view}
use Rattle.vioapic.proofs.Flight.{awaiting_in}
use Rattle.vioapic.proofs.first_awaiting.Given as goal

abbrev pub invariant-loop-k : goal.invariant-loop-k
invariant-loop-k l =
    (goal.iterator-loop-k).can_next l.k-iterator × (goal.iterator-loop-k).is_finite l.k-iterator × (l.k-iterator.0 < 2 ^ 24)
    × (awaiting_in (view l.words) l.vector l.k-iterator.0 ≡ awaiting_in (view l.words) l.vector (view l.words).in_flight)
