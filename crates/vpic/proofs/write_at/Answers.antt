use Rattle.vpic.proofs.Laws.{write_found, write_master_command, write_master_data, write_slave_command, write_slave_data}
use Rattle.vpic.proofs.write_at.Goals as goal

pub returns-in-MasterCommand : goal.returns-in-MasterCommand
returns-in-MasterCommand c = search (write_found, write_master_command, c.in_ok-port.was)

pub returns-in-MasterData : goal.returns-in-MasterData
returns-in-MasterData c = search (write_found, write_master_data, c.in_ok-port.was)

pub returns-in-SlaveCommand : goal.returns-in-SlaveCommand
returns-in-SlaveCommand c = search (write_found, write_slave_command, c.in_ok-port.was)

pub returns-in-SlaveData : goal.returns-in-SlaveData
returns-in-SlaveData c = search (write_found, write_slave_data, c.in_ok-port.was)
