use mathlib.Core.Path.{refl}
use Rattle.vpic.proofs.Full.{full_claim_master, full_claim_slave, full_claim_none}
use borrow.Author.Rules.{rules}
use Rattle.vpic.proofs.full_claim_pending.Goals as goal

pub returns-in-Some-Master : goal.returns-in-Some-Master
returns-in-Some-Master c = (search full_claim_master, search rules)

pub returns-in-Some-Slave : goal.returns-in-Some-Slave
returns-in-Some-Slave c = (search full_claim_slave, search rules)

pub returns-in-None : goal.returns-in-None
returns-in-None c = (search full_claim_none, refl)
