use Rattle.vpic_chip.proofs.Packing.{plain}
use Rattle.vpic_chip.proofs.Laws.{waiting_way}
use Rattle.vpic_chip.proofs.PicChip.waiting.Goals as goal

pub returns : goal.returns
returns c = search (waiting_way, plain)
