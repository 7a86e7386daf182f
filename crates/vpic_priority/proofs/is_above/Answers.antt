use Rattle.vpic_priority.specs.Ring.{above}
use Rattle.vpic_priority.proofs.is_above.Goals as goal

pub returns : goal.returns
unfolding above
returns c = rw (c.rank.ensures, c.rank-2.ensures)
