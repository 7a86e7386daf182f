use Rattle.board_c.proofs.Ways.{write_coded}
use Rattle.board_c.proofs.sillwander_board_handle_write.Goals as goal

pub returns : goal.returns
returns c = search write_coded
