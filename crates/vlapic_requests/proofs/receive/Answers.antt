use Rattle.vlapic_requests.proofs.Ways.{receive_low, receive_legal}
use Rattle.vlapic_requests.proofs.receive.Goals as goal

pub returns-then-vector-lt-LOWEST : goal.returns-then-vector-lt-LOWEST
returns-then-vector-lt-LOWEST c = search receive_low

pub returns-else-vector-lt-LOWEST : goal.returns-else-vector-lt-LOWEST
returns-else-vector-lt-LOWEST c = search receive_legal
