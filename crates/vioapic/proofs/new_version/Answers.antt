use Rattle.vioapic.proofs.Ways.{new_wide, new_done}
use Rattle.vioapic.proofs.new_version.Goals as goal

pub returns-then-not-fits : goal.returns-then-not-fits
returns-then-not-fits c = search new_wide

pub returns : goal.returns
returns c = search new_done
