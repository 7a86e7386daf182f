use Rattle.std.proofs.Common.{sym, ◌∙◌}
use Rattle.vioapic.specs.State.{view}
use Rattle.vioapic.proofs.Flight.{left_index, left_small, search_on, search_found, search_done}
use Rattle.vioapic.proofs.first_awaiting.Goals as goal

pub invariant_of-place : goal.invariant_of-place
invariant_of-place c =
    let step = c.in-Some.ensures.steps in
    record { in_table = left_index _ _ c.loop-k.invariant.2 step.0 step.1 }

pub returns-then-awaits_at : goal.returns-then-awaits_at
returns-then-awaits_at c =
    let step = c.in-Some.ensures.steps in
    search_found _ _ _ _ c.loop-k.invariant.2 step.0 step.1 (sym c.awaits_at.ensures ∙ c.if-awaits_at.true) c.loop-k.invariant.3

pub loop-k-preserved : goal.loop-k-preserved
loop-k-preserved c =
    let step = c.in-Some.ensures.steps in (
      tt,
      tt,
      left_small _ _ c.loop-k.invariant.2 step.0 step.1 _ step.3,
      search_on (view c.args.words.now) c.args.vector _ _ _ _ step.3 (sym c.awaits_at.ensures ∙ c.if-awaits_at.false) c.loop-k.invariant.3,
    )

pub returns : goal.returns
returns c = sym (search_done _ _ _ c.in-None.ensures.steps.0 c.loop-k.invariant.3)
