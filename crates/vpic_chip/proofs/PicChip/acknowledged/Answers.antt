use Rattle.vpic_chip.proofs.Packing.{plain}
use Rattle.vpic_chip.proofs.Laws.{taken_way, served_way}
use Rattle.vpic_chip.proofs.PicChip.acknowledged.Goals as goal

pub returns-then-auto_eoi : goal.returns-then-auto_eoi
returns-then-auto_eoi c = search (taken_way, plain)

pub returns : goal.returns
returns c = search (served_way, plain)
