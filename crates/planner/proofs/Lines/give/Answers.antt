use Rattle.std.proofs.Common.{sym, ◌∙◌, arith}
use Rattle.planner.proofs.Loops.{give_none, give_line, give_past}
use Rattle.planner.proofs.Lines.give.Goals as goal

pub returns-in-Some : goal.returns-in-Some
returns-in-Some c = give_line _ _ _ _ _ (sym c.is_free.ensures ∙ c.if-is_free.true) c.in-Some.ensures.is

pub returns-in_default : goal.returns-in_default
returns-in_default c = give_past _ _ _ _ _ (sym c.is_free.ensures ∙ c.if-is_free.true) c.in_default.ensures.is (omega arith)

pub returns-else-is_free : goal.returns-else-is_free
returns-else-is_free c = give_none _ _ _ _ (sym c.is_free.ensures ∙ c.if-is_free.false)
