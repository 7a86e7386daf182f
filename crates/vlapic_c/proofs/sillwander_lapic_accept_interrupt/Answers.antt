use Rattle.vlapic_c.proofs.Ways.{accept_wide, accept_code}
use Rattle.vlapic_c.proofs.sillwander_lapic_accept_interrupt.Goals as goal

pub returns-then-vector-gt255 : goal.returns-then-vector-gt255
returns-then-vector-gt255 c = search accept_wide

pub returns : goal.returns
returns c = search accept_code
