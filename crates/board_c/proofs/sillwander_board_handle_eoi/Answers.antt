use Rattle.board_c.proofs.Ways.{eoi_coded}
use Rattle.board_c.proofs.sillwander_board_handle_eoi.Goals as goal

pub returns : goal.returns
returns c = search eoi_coded
