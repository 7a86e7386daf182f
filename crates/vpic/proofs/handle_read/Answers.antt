use Rattle.utils.specs.Cases.{cases}
use Rattle.vpic.proofs.Full.{read_full, read_plain}
use Rattle.vpic.proofs.handle_read.Goals as goal

pub returns-then-width-ne1 : goal.returns-then-width-ne1
returns-then-width-ne1 c = search cases

pub returns-then-is_full : goal.returns-then-is_full
returns-then-is_full c = search read_full

pub returns : goal.returns
returns c = search read_plain
