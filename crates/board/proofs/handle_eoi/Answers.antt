use Rattle.board.proofs.Ways.{eoi_told}
use Rattle.board.proofs.handle_eoi.Goals as goal

pub returns : goal.returns
returns c = search eoi_told
