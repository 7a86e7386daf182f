use Rattle.vpic_chip.proofs.Laws.{fed_icw2, fed_icw3, fed_icw4, fed_ocw1, fed_ready}
use Rattle.vpic_chip.proofs.PicChip.data.Goals as goal

pub returns-then-is_ready : goal.returns-then-is_ready
returns-then-is_ready c = search fed_ready

pub returns-then-step-eq1 : goal.returns-then-step-eq1
returns-then-step-eq1 c = search fed_icw2

pub returns-then-step-eq2 : goal.returns-then-step-eq2
returns-then-step-eq2 c = search fed_icw3

pub returns-then-step-eq3 : goal.returns-then-step-eq3
returns-then-step-eq3 c = search fed_icw4

pub returns : goal.returns
returns c = search fed_ocw1
