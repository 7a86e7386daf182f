use mathlib.Core.Path.{sym, ◌∙◌}
use Rattle.planner.specs.Shortage.{confined}
use Rattle.planner.proofs.Loops.{confined_at, lines_with, lines_without}
use Rattle.planner.proofs.Lines.lines_confined.Goals.{then-lies_within, else-lies_within}
use Rattle.planner.proofs.Lines.lines_confined.Goals as goal

pub loop-k-preserved : goal.loop-k-preserved
loop-k-preserved c =
    elim c.if-lies_within.branch [
      | then-lies_within w ↦ w.lines-is ∙ lines_with (confined c.args.self.ranges.now c.args.from.0 c.args.to.0) c.loop-k.k _ _ c.loop-k.invariant (sym (confined_at _ _ _ _) ∙ sym c.lies_within.ensures ∙ w.if-lies_within.true) w.with-lines.ensures
      | else-lies_within w ↦ w.lines-is ∙ lines_without (confined c.args.self.ranges.now c.args.from.0 c.args.to.0) c.loop-k.k _ c.loop-k.invariant (sym (confined_at _ _ _ _) ∙ sym c.lies_within.ensures ∙ w.if-lies_within.false)
    ]
