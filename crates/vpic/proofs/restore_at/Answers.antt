use Rattle.vpic.proofs.Laws.{back_master, back_slave}
use Rattle.vpic_chip.proofs.Full.{full_back}
use Rattle.vpic.proofs.restore_at.Goals as goal

pub returns-in-Master-clause-full : goal.returns-in-Master-clause-full
returns-in-Master-clause-full c = search (back_master, full_back)

pub returns-in-Slave-clause-full : goal.returns-in-Slave-clause-full
returns-in-Slave-clause-full c = search (back_slave, full_back)
