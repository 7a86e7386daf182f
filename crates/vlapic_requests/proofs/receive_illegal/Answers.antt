use Rattle.vlapic_requests.proofs.Ways.{illegal_way}
use Rattle.vlapic_requests.proofs.receive_illegal.Goals as goal

pub returns : goal.returns
returns c = search illegal_way
