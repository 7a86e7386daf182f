use Rattle.vioapic.proofs.Entries.{ground_flying, ground_still}
use Rattle.utils.specs.Cases.{so}
use Rattle.vioapic.proofs.ground.Goals as goal

pub returns-then-remote_irr : goal.returns-then-remote_irr
returns-then-remote_irr c = search (ground_flying, so)

pub returns-else-remote_irr : goal.returns-else-remote_irr
returns-else-remote_irr c = search (ground_still, so)
