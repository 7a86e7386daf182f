use Rattle.vioapic.proofs.Flight.{left_index, left_small}
use Rattle.vioapic.proofs.Every.{next_turn, all_turns}
use Rattle.vioapic.proofs.end_every.Goals as goal

pub invariant_of-end_at : goal.invariant_of-end_at
invariant_of-end_at c =
    let step = c.in-Some.ensures.steps in
    record { in_table = left_index _ _ c.loop-k.invariant.2 step.0 step.1 }

pub loop-k-preserved : goal.loop-k-preserved
loop-k-preserved c =
    let step = c.in-Some.ensures.steps in (
      tt,
      tt,
      left_small _ _ c.loop-k.invariant.2 step.0 step.1 _ step.3,
      next_turn _ _ _ _ _ _ _ _ _ c.loop-k.invariant.2 step.0 step.1 step.3 c.loop-k.invariant.3 c.end_at-ends.ensures,
    )

pub returns : goal.returns
returns c = all_turns _ _ _ _ _ c.in-None.ensures.steps.0 c.loop-k.invariant.3
