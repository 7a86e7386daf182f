-- The examples of specs/Statements.antt, computed. Assumes nothing.
use mathlib.Core.Path.{refl}
use Rattle.planner.specs.Lines.{is_free, allows}
use Rattle.planner.specs.Check.{has_vector, among, line_passes, passes}
use Rattle.planner.specs.Plan.{waits, reach, better, next_line, give, planned, in_order, ordered, plan}
use Rattle.planner.specs.Shortage.{free_within, confined, crowded, ends_at, end_line, starts_at, start_line, shown, shown_from, shortage}
use Rattle.planner_theorems.specs.Statements.{TwoLines, ThreeLines}

pub two_lines : TwoLines
unfolding is_free allows has_vector among line_passes passes waits reach better next_line give planned in_order ordered plan
two_lines = refl

pub three_lines : ThreeLines
unfolding is_free allows has_vector among line_passes passes waits reach better next_line give planned in_order ordered plan free_within confined crowded ends_at end_line starts_at start_line shown shown_from shortage
three_lines = (refl, refl)
