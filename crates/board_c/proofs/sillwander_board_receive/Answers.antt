use Rattle.board_c.proofs.Ways.{receive_coded, receive_wide}
use Rattle.board_c.proofs.sillwander_board_receive.Goals as goal

pub returns-then-vector-gt255 : goal.returns-then-vector-gt255
returns-then-vector-gt255 c = receive_wide _ _ _ _ c.if-vector-gt255.true c.code.ensures

pub returns : goal.returns
returns c = receive_coded _ _ _ _ _ c.if-vector-gt255.false c.is_up.ensures c.receive.ensures
