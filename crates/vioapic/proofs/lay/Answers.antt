use Rattle.vioapic.proofs.Entries.{laid_again, laid_edge, laid_level, laid_none, laid_still, unflown}
use Rattle.vioapic.proofs.Ways.{entry_by_half}
use Rattle.vioapic.proofs.lay.Goals as goal

pub returns-then-not-remote_irr : goal.returns-then-not-remote_irr
returns-then-not-remote_irr c = (search laid_still, unflown _ _)

pub returns-then-not-is_level : goal.returns-then-not-is_level
returns-then-not-is_level c = (search laid_edge, unflown _ _)

pub returns-then-none_deferred : goal.returns-then-none_deferred
returns-then-none_deferred c = (search (laid_again, entry_by_half), λ h. search laid_none)

pub returns : goal.returns
returns c = (search laid_level, unflown _ _)
