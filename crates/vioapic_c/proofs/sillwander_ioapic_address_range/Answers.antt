use Rattle.vioapic_c.proofs.Ways.{range_between, range_none}
use Rattle.vioapic_c.proofs.sillwander_ioapic_address_range.Goals as goal

pub returns-in-Ok : goal.returns-in-Ok
returns-in-Ok c = search range_between

pub returns-in-Err : goal.returns-in-Err
returns-in-Err c = search range_none
