use Rattle.vpic.proofs.Laws.{restore_out}
use Rattle.vpic.proofs.Full.{restore_full_low, restore_full, restore_plain}
use Rattle.vpic.proofs.restore_interrupt.Goals as goal

pub returns-in_default : goal.returns-in_default
returns-in_default c = search restore_out

pub returns-then-irq-lt8 : goal.returns-then-irq-lt8
returns-then-irq-lt8 c = search restore_full_low

pub returns-then-is_full : goal.returns-then-is_full
returns-then-is_full c = search restore_full

pub returns : goal.returns
returns c = search restore_plain
