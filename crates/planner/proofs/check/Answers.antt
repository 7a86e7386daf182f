use Rattle.std.proofs.Common.{◌∙◌, refl, length, arith}
use Rattle.std.proofs.lemmas.Iterator.{YieldsList-from_range}
use Rattle.std.proofs.lemmas.Iterator.Search.{all_from_yields_List}
use borrow.Author.Rules.{rules}
use Rattle.planner.specs.Check.{line_passes}
use Rattle.planner.proofs.Loops.{passes_short, passes_all}
use Rattle.planner.proofs.check.Goals as goal

pub returns-then-plan-ranges : goal.returns-then-plan-ranges
returns-then-plan-ranges c =
    all_from_yields_List (line_passes c.args.ranges.now c.args.taken.now c.args.plan.now) _ _ _ c.all.ensures.ran
    (YieldsList-from_range 0 (length c.args.ranges.now) (length c.args.ranges.now) refl (omega arith)) (λ x b q k. search rules)
    ∙ passes_all _ _ _ c.if-plan-ranges.true

pub returns-else-plan-ranges : goal.returns-else-plan-ranges
returns-else-plan-ranges c = passes_short _ _ _ c.if-plan-ranges.false
