use Rattle.vpic_chip.proofs.Packing.{plain}
use Rattle.vpic_chip.proofs.Laws.{ocw2_none, ocw2_specific, ocw2_plain}
use Rattle.vpic_chip.proofs.PicChip.ocw2.Goals as goal

pub returns-then-value-ne1 : goal.returns-then-value-ne1
returns-then-value-ne1 c = search (ocw2_none, plain)

pub returns-then-value-eq1 : goal.returns-then-value-eq1
returns-then-value-eq1 c = search (ocw2_specific, plain)

pub returns : goal.returns
returns c = search (ocw2_plain, plain)
