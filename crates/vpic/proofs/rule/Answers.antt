use Rattle.vpic.specs.Words.{plain_view}
use Rattle.vpic.proofs.rule.Goals as goal

pub returns : goal.returns
unfolding plain_view
returns c = c.from_number.ensures
