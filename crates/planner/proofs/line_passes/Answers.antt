use Rattle.std.proofs.Common.{◌∙◌, sym, arith}
use Rattle.planner.proofs.Loops.{line_allowed}
use Rattle.planner.proofs.line_passes.Goals as goal

pub returns-then-allows : goal.returns-then-allows
returns-then-allows c = line_allowed _ _ _ _ _ (sym c.allows.ensures ∙ c.if-allows.true) (omega arith) c.contains.ensures.value
