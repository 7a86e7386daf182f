use Rattle.vpic.proofs.Full.{quiet_number, claim_numbered}
use Rattle.vpic.proofs.claim_pending_number.Goals as goal

pub returns-then-is_quiet : goal.returns-then-is_quiet
returns-then-is_quiet c = search quiet_number

pub returns : goal.returns
returns c = search claim_numbered
