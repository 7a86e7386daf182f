use Rattle.planner.proofs.Loops.{counted_all}
use Rattle.planner.proofs.shortage.count_free.Goals as goal

pub returns : goal.returns
returns c = search counted_all
