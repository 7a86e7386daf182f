use Rattle.vpic.proofs.Full.{quiet_reply}
use Rattle.vpic.proofs.claim_pending_interrupt.Goals as goal

pub returns-then-is_quiet : goal.returns-then-is_quiet
returns-then-is_quiet c = search quiet_reply
