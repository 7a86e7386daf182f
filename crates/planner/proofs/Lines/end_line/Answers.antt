use Rattle.std.proofs.lemmas.Iterator.{YieldsList-from_slice}
use Rattle.std.proofs.lemmas.Iterator.Search.{position_from_yields_List}
use borrow.Author.Rules.{rules}
use Rattle.planner.specs.Lines.{highest_of}
use Rattle.planner.specs.Shortage.{crowded}
use Rattle.planner.proofs.Loops.{end_position}
use Rattle.planner.proofs.Lines.end_line.Goals as goal

pub returns : goal.returns
returns c =
    end_position _ _ _ _
    (position_from_yields_List (λ range. crowded c.args.self.ranges.now c.args.self.taken.now c.args.from.0 (highest_of range)) _ _ _ c.position.ensures.ran
    (YieldsList-from_slice c.args.self.ranges.now cc) (λ x b q k. search rules))
