use Rattle.board_c.proofs.Ways.{tpr_coded}
use Rattle.board_c.proofs.sillwander_board_write_tpr.Goals as goal

pub returns : goal.returns
returns c = tpr_coded _ _ _ c.write_tpr.ensures
