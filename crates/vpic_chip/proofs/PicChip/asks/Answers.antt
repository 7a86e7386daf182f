use Rattle.vpic_chip.proofs.Packing.{plain}
use Rattle.vpic_chip.proofs.Laws.{asks_way}
use Rattle.vpic_chip.proofs.PicChip.asks.Goals as goal

pub returns : goal.returns
returns c = search (asks_way, plain)
