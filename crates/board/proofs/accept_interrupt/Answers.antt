use Rattle.board.proofs.Ways.{accept_way}
use Rattle.board.proofs.accept_interrupt.Goals as goal

pub returns : goal.returns
returns c = search accept_way
