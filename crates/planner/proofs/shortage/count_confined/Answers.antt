use Rattle.std.proofs.Common.{◌∙◌}
use Rattle.std.proofs.lemmas.Iterator.{YieldsList-from_slice}
use Rattle.std.proofs.lemmas.Iterator.Consumers.{YieldsList-from_filter, count_from_yields_List}
use Rattle.std.proofs.lemmas.List.Sums.{length-filter}
use borrow.Author.Rules.{rules}
use Rattle.planner.specs.Shortage.{lies_within}
use Rattle.planner.proofs.Loops.{confined_all}
use Rattle.planner.proofs.shortage.count_confined.Goals as goal

pub returns : goal.returns
returns c =
    count_from_yields_List c.filter.result _ c.count.ensures.ran
    (YieldsList-from_filter _ (λ range. lies_within range c.args.from.0 c.args.to.0) (YieldsList-from_slice c.args.ranges.now cc) c.filter.ensures.closure (λ x b q k. search rules))
    ∙ length-filter (λ range. lies_within range c.args.from.0 c.args.to.0) c.args.ranges.now
    ∙ confined_all c.args.ranges.now c.args.from.0 c.args.to.0
