use Rattle.waiting.proofs.Ring.{passing_again}
use Rattle.waiting.proofs.index_of.Goals as goal

pub loop-k-preserved : goal.loop-k-preserved
loop-k-preserved c = search passing_again
