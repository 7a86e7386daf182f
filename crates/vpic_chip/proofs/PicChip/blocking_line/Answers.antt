use Rattle.vpic_chip.proofs.Full.{line_other, line_slave, line_plain, line_nested}
use Rattle.vpic_chip.proofs.PicChip.blocking_line.Goals as goal

pub returns-then-line-ne-CASCADE_IRQ : goal.returns-then-line-ne-CASCADE_IRQ
returns-then-line-ne-CASCADE_IRQ c = search line_other

pub returns-then-not-cascades : goal.returns-then-not-cascades
returns-then-not-cascades c = search line_slave

pub returns-then-not-nested : goal.returns-then-not-nested
returns-then-not-nested c = search line_plain

pub returns : goal.returns
returns c = search line_nested
