use Rattle.vioapic.proofs.Ways.{at_eoi, at_none, at_window_lem}
use Rattle.vioapic.proofs.write_at.Goals as goal

pub returns-then-offset-eq-IOEOI : goal.returns-then-offset-eq-IOEOI
returns-then-offset-eq-IOEOI c = search at_eoi

pub returns-then-offset-eq-IOWIN : goal.returns-then-offset-eq-IOWIN
returns-then-offset-eq-IOWIN c = search at_window_lem

pub returns : goal.returns
returns c = search at_none
