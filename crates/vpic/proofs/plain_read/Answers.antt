use Rattle.vpic.proofs.Full.{shown_full, shown_plain}
use Rattle.vpic.proofs.plain_read.Goals as goal

pub returns-then-is_full : goal.returns-then-is_full
returns-then-is_full c = search shown_full

pub returns : goal.returns
returns c = search shown_plain
