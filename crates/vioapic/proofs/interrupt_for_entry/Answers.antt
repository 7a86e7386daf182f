use Rattle.vioapic.proofs.Entries.{sent_unfit, sent_edge, sent_later, sent_level}
use Rattle.vioapic.proofs.interrupt_for_entry.Goals as goal

pub returns-then-not-is_fit : goal.returns-then-not-is_fit
returns-then-not-is_fit c = search sent_unfit

pub returns-then-not-is_level : goal.returns-then-not-is_level
returns-then-not-is_level c = search sent_edge

pub returns-then-remote_irr : goal.returns-then-remote_irr
returns-then-remote_irr c = search sent_later

pub returns : goal.returns
returns c = search sent_level
