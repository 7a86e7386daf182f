use Rattle.waiting.proofs.Ring.{counted}
use Rattle.waiting.proofs.count_of.Goals as goal

pub returns : goal.returns
returns c = search counted
