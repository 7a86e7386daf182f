use Rattle.vpic.proofs.Laws.{new_done}
use Rattle.vpic.proofs.new_rule.Goals as goal

pub returns : goal.returns
returns c = search new_done
