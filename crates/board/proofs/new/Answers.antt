use Rattle.board.proofs.Ways.{new_way}
use Rattle.board.proofs.new.Goals as goal

pub returns : goal.returns
returns c = search new_way
