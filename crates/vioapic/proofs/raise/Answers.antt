use Rattle.vioapic.proofs.Entries.{raised_again, raised_still, raised_flying}
use Rattle.vioapic.proofs.raise.Goals as goal

pub returns-then-not-remote_irr : goal.returns-then-not-remote_irr
returns-then-not-remote_irr c = search raised_still

pub returns-then-is_up : goal.returns-then-is_up
returns-then-is_up c = search raised_again

pub returns : goal.returns
returns c = search raised_flying
