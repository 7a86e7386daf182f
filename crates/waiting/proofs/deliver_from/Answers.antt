use Rattle.waiting.proofs.Ring.{none_delivered, oldest_delivered}
use Rattle.waiting.proofs.deliver_from.Goals as goal

pub returns-then-n-eq0 : goal.returns-then-n-eq0
returns-then-n-eq0 c = search none_delivered

pub returns : goal.returns
returns c = search oldest_delivered
