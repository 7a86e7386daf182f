use Rattle.vlapic_requests.proofs.Ways.{tpr_way}
use Rattle.vlapic_requests.proofs.write_tpr.Goals as goal

pub returns : goal.returns
returns c = search tpr_way
