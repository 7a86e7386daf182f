use Rattle.vpic_chip.proofs.Packing.{service_put}
use Rattle.vpic_chip.proofs.PicChip.with_in_service.Goals as goal

pub returns : goal.returns
returns c = search service_put
