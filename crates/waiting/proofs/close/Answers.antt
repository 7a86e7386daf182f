use Rattle.waiting.proofs.Ring.{closing_again}
use Rattle.waiting.proofs.close.Goals as goal

pub loop-place-preserved : goal.loop-place-preserved
loop-place-preserved c = search closing_again
