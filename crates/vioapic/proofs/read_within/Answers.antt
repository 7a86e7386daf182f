use Rattle.vioapic.proofs.Ways.{read_below, read_served}
use Rattle.vioapic.proofs.read_within.Goals as goal

pub returns-then-addr-start : goal.returns-then-addr-start
returns-then-addr-start c = search read_below

pub returns : goal.returns
returns c = search read_served
