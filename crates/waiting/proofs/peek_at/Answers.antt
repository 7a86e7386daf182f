use Rattle.waiting.proofs.Ring.{none_seen, seen}
use Rattle.waiting.proofs.peek_at.Goals as goal

pub returns-then-k-n : goal.returns-then-k-n
returns-then-k-n c = search none_seen

pub returns : goal.returns
returns c = search seen
