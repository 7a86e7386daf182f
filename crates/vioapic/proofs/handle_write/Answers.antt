use Rattle.vioapic.proofs.Ways.{write_selects, write_served}
use Rattle.vioapic.proofs.handle_write.Goals as goal

pub returns-then-addr-start : goal.returns-then-addr-start
returns-then-addr-start c = search write_selects

pub returns : goal.returns
returns c = search write_served
