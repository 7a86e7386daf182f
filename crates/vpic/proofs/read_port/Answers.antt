use Rattle.std.proofs.lemmas.Result.{err_from_is_err_and}
use Rattle.vpic_chip.proofs.Packing.{plain}
use Rattle.vpic.proofs.Laws.{read_out, read_found, read_master_command, read_master_data, read_slave_command, read_slave_data}
use Rattle.vpic.proofs.read_port.Goals as goal

pub returns-in_err-port : goal.returns-in_err-port
returns-in_err-port c = let p = err_from_is_err_and c.from_residual.result c.from_residual.ensures.1 in rw (p.1, p.2) (read_out _ _ c.try_from.ensures _ _ c.in_err-port.was)

pub returns-in-MasterCommand : goal.returns-in-MasterCommand
returns-in-MasterCommand c = search (read_found, read_master_command, plain, c.in_ok-port.was)

pub returns-in-MasterData : goal.returns-in-MasterData
returns-in-MasterData c = search (read_found, read_master_data, plain, c.in_ok-port.was)

pub returns-in-SlaveCommand : goal.returns-in-SlaveCommand
returns-in-SlaveCommand c = search (read_found, read_slave_command, plain, c.in_ok-port.was)

pub returns-in-SlaveData : goal.returns-in-SlaveData
returns-in-SlaveData c = search (read_found, read_slave_data, plain, c.in_ok-port.was)
