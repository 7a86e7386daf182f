use Rattle.vpic.proofs.Laws.{read_unpolled_slave, read_polled_slave}
use Rattle.vpic.proofs.full_read_slave.Goals as goal

pub returns-then-not-poll : goal.returns-then-not-poll
returns-then-not-poll c = search read_unpolled_slave

pub returns : goal.returns
returns c = search read_polled_slave
