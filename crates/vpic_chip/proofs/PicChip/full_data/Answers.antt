use Rattle.vpic_chip.proofs.Laws.{fed_icw4}
use Rattle.vpic_chip.proofs.Full.{full_fed}
use Rattle.vpic_chip.proofs.PicChip.full_data.Goals as goal

pub returns-then-init_step-eq3 : goal.returns-then-init_step-eq3
returns-then-init_step-eq3 c = search fed_icw4

pub returns : goal.returns
returns c = search full_fed
