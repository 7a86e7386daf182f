use Rattle.vlapic_requests.proofs.Ways.{request_way}
use Rattle.vlapic_requests.proofs.request.Goals as goal

pub returns : goal.returns
returns c = search request_way
