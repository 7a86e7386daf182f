use Rattle.vioapic_c.proofs.Ways.{new_unknown, new_known}
use Rattle.vioapic_c.proofs.sillwander_ioapic_new_version.Goals as goal

pub returns-in-Err : goal.returns-in-Err
returns-in-Err c = new_unknown _ _ _ _ _ _ c.in-Err.ensures c.code-in-Err.ensures

pub returns-in-Ok : goal.returns-in-Ok
returns-in-Ok c = new_known _ _ _ _ _ _ _ _ _ c.in-Ok.ensures c.new_version.ensures c.reply.ensures c.code.ensures
