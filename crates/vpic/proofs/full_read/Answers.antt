use Rattle.std.proofs.lemmas.Result.{err_from_is_err_and}
use Rattle.vpic.proofs.Laws.{full_read_out, full_read_found, full_master_command, full_master_data, full_slave_command, full_slave_data, full_status}
use Rattle.vpic.proofs.full_read.Goals as goal

pub returns-in_err-port : goal.returns-in_err-port
returns-in_err-port c = let p = err_from_is_err_and c.from_residual.result c.from_residual.ensures.1 in rw (p.1, p.2) (full_read_out _ _ c.try_from.ensures _ _ c.in_err-port.was)

pub returns-in-MasterCommand : goal.returns-in-MasterCommand
returns-in-MasterCommand c = search (full_read_found, full_master_command, full_status, c.in_ok-port.was)

pub returns-in-MasterData : goal.returns-in-MasterData
returns-in-MasterData c = search (full_read_found, full_master_data, full_status, c.in_ok-port.was)

pub returns-in-SlaveCommand : goal.returns-in-SlaveCommand
returns-in-SlaveCommand c = search (full_read_found, full_slave_command, full_status, c.in_ok-port.was)

pub returns-in-SlaveData : goal.returns-in-SlaveData
returns-in-SlaveData c = search (full_read_found, full_slave_data, full_status, c.in_ok-port.was)
