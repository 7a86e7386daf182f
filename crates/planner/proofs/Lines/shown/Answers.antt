use Rattle.planner.proofs.Loops.{shown_is}
use Rattle.planner.proofs.Lines.shown.Goals as goal

pub returns : goal.returns
returns c = shown_is _ _ _ _ _ _ c.in_ok-end.ensures.0 c.highest-highest.ensures c.lines_confined.ensures
