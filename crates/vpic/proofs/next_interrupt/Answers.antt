use Rattle.vpic.proofs.Full.{quiet_vector, unasked_vector, next_plain}
use Rattle.vpic.proofs.next_interrupt.Goals as goal

pub returns-then-is_quiet : goal.returns-then-is_quiet
returns-then-is_quiet c = search quiet_vector

pub returns-then-not-asks : goal.returns-then-not-asks
returns-then-not-asks c = search unasked_vector

pub returns : goal.returns
returns c = search next_plain
