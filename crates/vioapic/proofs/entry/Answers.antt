use Rattle.vioapic.proofs.Words.{entry_past, past}
use Rattle.vioapic.proofs.entry.Goals as goal

pub returns-in-None : goal.returns-in-None
returns-in-None c = entry_past _ _ (past _ c.in-None.ensures.found.1)
