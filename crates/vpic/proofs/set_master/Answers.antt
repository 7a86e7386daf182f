use native.Mathlib.Omega.{arith}
use Rattle.vpic.proofs.Laws.{master_set}
use Rattle.vpic.proofs.Full.{full_master_set}
use Rattle.vpic.proofs.set_master.Goals as goal

pub returns-clause-plain : goal.returns-clause-plain
returns-clause-plain c = master_set _ _ (omega arith)

pub returns-clause-full : goal.returns-clause-full
returns-clause-full c = full_master_set _ _ (omega arith)
