use Rattle.vpic.proofs.Laws.{quiet_is}
use Rattle.vpic.proofs.is_quiet.Goals as goal

pub returns-then-request-eq0 : goal.returns-then-request-eq0
returns-then-request-eq0 c = search quiet_is
