use Rattle.board_c.proofs.Ways.{level_coded}
use Rattle.board_c.proofs.sillwander_board_set_gsi_level.Goals as goal

pub returns : goal.returns
returns c = search level_coded
