use Rattle.std.proofs.Common.{◌∙◌}
use Rattle.std.proofs.lemmas.Iterator.{YieldsList-from_slice}
use Rattle.std.proofs.lemmas.Iterator.Search.{all_from_yields_List}
use borrow.Author.Rules.{rules}
use lib.Dec.{leb}
use Rattle.planner.specs.Lines.{lowest_of, highest_of}
use Rattle.planner.proofs.Loops.{ordered_all}
use Rattle.planner.proofs.ordered.Goals as goal

pub returns : goal.returns
returns c =
    all_from_yields_List (λ range. leb (lowest_of range) (highest_of range)) _ _ _ c.all.ensures.ran (YieldsList-from_slice c.args.ranges.now cc) (λ x b q k. search rules)
    ∙ ordered_all c.args.ranges.now
