use Rattle.utils.specs.Cases.{cases}
use Rattle.vioapic.specs.Registers.{read_at}
use Rattle.vioapic.proofs.read_at.Goals as goal

pub returns-then-offset-eq-IOREGSEL : goal.returns-then-offset-eq-IOREGSEL
unfolding read_at
returns-then-offset-eq-IOREGSEL c = rw c.from.ensures (search cases)

pub returns-then-offset-eq-IOWIN : goal.returns-then-offset-eq-IOWIN
unfolding read_at
returns-then-offset-eq-IOWIN c = search cases

pub returns : goal.returns
unfolding read_at
returns c = search cases
