use Rattle.vpic_chip.proofs.Packing.{plain}
use Rattle.vpic_chip.proofs.Laws.{ocw3_way}
use Rattle.vpic_chip.proofs.PicChip.ocw3.Goals as goal

pub returns : goal.returns
returns c = search (ocw3_way, plain)
