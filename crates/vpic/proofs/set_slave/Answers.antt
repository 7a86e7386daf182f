use native.Mathlib.Omega.{arith}
use Rattle.vpic.proofs.Laws.{slave_set}
use Rattle.vpic.proofs.Full.{full_slave_set}
use Rattle.vpic.proofs.set_slave.Goals as goal

pub returns-clause-plain : goal.returns-clause-plain
returns-clause-plain c = slave_set _ _ (omega arith)

pub returns-clause-full : goal.returns-clause-full
returns-clause-full c = full_slave_set _ _ (omega arith)
