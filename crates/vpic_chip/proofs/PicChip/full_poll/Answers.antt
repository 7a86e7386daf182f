use native.Mathlib.Omega.{arith}
use Rattle.vpic_chip.specs.Registers.{full_in}
use Rattle.vpic_chip.proofs.Full.{poll_none, poll_low, poll_some}
use Rattle.vpic_chip.proofs.PicChip.full_poll.Goals as goal

pub returns-in_default : goal.returns-in_default
returns-in_default c = search poll_none

pub full_acknowledged-taken-requires : goal.full_acknowledged-taken-requires
full_acknowledged-taken-requires c = search poll_low

pub overflow_add-result : goal.overflow_add-result
overflow_add-result c = omega (arith, poll_low c.args.cascades (full_in c.args.self.0) _ c.full_pending_irq.ensures _ c.in-Some.is)

pub returns : goal.returns
returns c = search poll_some
