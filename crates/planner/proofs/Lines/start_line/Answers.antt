use Rattle.std.proofs.lemmas.Iterator.{YieldsList-from_slice}
use Rattle.std.proofs.lemmas.Iterator.Search.{position_from_yields_List}
use borrow.Author.Rules.{rules}
use lib.Dec.{ltb}
use lib.ListN.{length}
use Rattle.planner.specs.Lines.{lowest_of}
use Rattle.planner.specs.Shortage.{end_line}
use Rattle.planner.proofs.Loops.{start_position, first_found}
use Rattle.planner.proofs.Lines.start_line.Goals as goal

pub returns : goal.returns
returns c =
    start_position _ _ _
    (position_from_yields_List (λ range. ltb (end_line c.args.self.ranges.now c.args.self.taken.now (lowest_of range)) (length c.args.self.ranges.now)) _ _ _ c.position.ensures.ran
    (YieldsList-from_slice c.args.self.ranges.now cc) (λ x b q k. search (rules, first_found)))
