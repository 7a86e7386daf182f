use Rattle.waiting.proofs.Ring.{zeros_new}
use Rattle.waiting.proofs.WaitingList.new.Goals as goal

pub returns : goal.returns
returns c = zeros_new
