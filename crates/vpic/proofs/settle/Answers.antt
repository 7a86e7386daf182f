use Rattle.vpic.proofs.Laws.{settle_off, settle_none, settle_on}
use Rattle.vpic.proofs.settle.Goals as goal

pub returns-then-not-is_cascade : goal.returns-then-not-is_cascade
returns-then-not-is_cascade c = search settle_off

pub returns-then-request-eq0 : goal.returns-then-request-eq0
returns-then-request-eq0 c = search settle_none

pub returns : goal.returns
returns c = search settle_on
