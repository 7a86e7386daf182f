use Rattle.waiting.proofs.Ring.{full_refused, room_taken}
use Rattle.waiting.proofs.take_in.Goals as goal

pub returns-then-n-ge64 : goal.returns-then-n-ge64
returns-then-n-ge64 c = search full_refused

pub returns : goal.returns
returns c = search room_taken
