use Rattle.vpic.proofs.Laws.{read_unpolled_master, read_polled_master}
use Rattle.vpic.proofs.full_read_master.Goals as goal

pub returns-then-not-poll : goal.returns-then-not-poll
returns-then-not-poll c = search read_unpolled_master

pub returns : goal.returns
returns c = search read_polled_master
