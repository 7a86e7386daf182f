use Rattle.vpic_chip.proofs.Packing.{plain}
use Rattle.vpic_chip.proofs.Laws.{icw4_way}
use Rattle.vpic_chip.proofs.PicChip.icw4.Goals as goal

pub returns : goal.returns
returns c = search (icw4_way, plain)
