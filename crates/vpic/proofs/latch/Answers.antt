use Rattle.vpic.proofs.Laws.{latch_master, latch_slave}
use Rattle.vpic_chip.proofs.Full.{full_pulsed}
use Rattle.vpic.proofs.latch.Goals as goal

pub returns-in-Master-clause-full : goal.returns-in-Master-clause-full
returns-in-Master-clause-full c = search (latch_master, full_pulsed)

pub returns-in-Slave-clause-full : goal.returns-in-Slave-clause-full
returns-in-Slave-clause-full c = search (latch_slave, full_pulsed)
