use Rattle.vioapic.proofs.Ways.{read_eight, read_width}
use Rattle.vioapic.proofs.handle_read.Goals as goal

pub returns-then-width-eq8 : goal.returns-then-width-eq8
returns-then-width-eq8 c = search read_eight

pub returns : goal.returns
returns c = search read_width
