use Rattle.std.proofs.Common.{◌^◌, ◌<◌}
use Rattle.vioapic.specs.Inside.{Keeps}
use Rattle.vioapic.proofs.Every.{LeftToDo}
use Rattle.vioapic.proofs.end_every.Given as goal

abbrev pub invariant-loop-k : goal.invariant-loop-k
invariant-loop-k l =
    (goal.iterator-loop-k).can_next l.k-iterator × (goal.iterator-loop-k).is_finite l.k-iterator × (l.k-iterator.0 < 2 ^ 24)
    × Keeps l.initial.words l.words (LeftToDo l.vector l.initial.words l.words l.ends l.k-iterator.0)
