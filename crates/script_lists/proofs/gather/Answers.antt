use mathlib.Core.Path.{ap, ◌∙◌}
use Rattle.std.specs.Prelude.{Ok}
use Rattle.script_lists.proofs.Gathered.{gathered_none, gathered_more, gathered_all, gathered_end, gave, gave_none, refused, waits_le}
use Rattle.script_lists.proofs.gather.Goals as goal

pub loop-n-init : goal.loop-n-init
loop-n-init c = gathered_none _ _ c.requires

pub loop-n-preserved : goal.loop-n-preserved
loop-n-preserved c =
    let g = gave _ _ _ c.peek.result c.peek.ensures _ (c.in-Ok-Some.is ∙ ap Ok c.in-Ok-Some.field-0-is) in
    gathered_more _ _ _ c.loop-n.invariant _ c.loop-n-test.true (g.0, c.from.ensures ∙ g.1)

pub returns-in-Ok-None : goal.returns-in-Ok-None
returns-in-Ok-None c =
    let whole = gathered_all _ _ _ c.loop-n.invariant (gave_none _ _ _ c.peek.result c.peek.ensures (c.in-Ok-None.is ∙ ap Ok c.in-Ok-None.field-0-is)) in
    record { vectors_after = whole.0; prefix_len = whole.1 }

pub returns-in-Err : goal.returns-in-Err
returns-in-Err c =
    let whole = gathered_all _ _ _ c.loop-n.invariant (refused _ _ _ c.peek.result c.peek.ensures _ c.in-Err.is) in
    record { vectors_after = whole.0; prefix_len = whole.1 }

pub returns : goal.returns
returns c =
    let whole = gathered_end _ _ _ c.loop-n.invariant c.loop-n-test.false (waits_le c.args.lists.now c.args.vcpu) in
    record { vectors_after = whole.0; prefix_len = whole.1 }
