use Rattle.vioapic.proofs.Ways.{range_fits, range_wide}
use Rattle.vioapic.proofs.address_range.Goals as goal

pub returns-then-fits : goal.returns-then-fits
returns-then-fits c = search range_fits

pub returns : goal.returns
returns c = search range_wide
