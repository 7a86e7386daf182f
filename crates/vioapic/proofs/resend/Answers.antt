use Rattle.vioapic.proofs.Entries.{resent_fit, resent_unfit}
use Rattle.vioapic.proofs.resend.Goals as goal

pub returns-then-is_fit : goal.returns-then-is_fit
returns-then-is_fit c = search resent_fit

pub returns : goal.returns
returns c = search resent_unfit
