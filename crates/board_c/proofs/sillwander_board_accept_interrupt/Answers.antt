use Rattle.board_c.proofs.Ways.{acceptance_coded}
use Rattle.board_c.proofs.sillwander_board_accept_interrupt.Goals as goal

pub returns : goal.returns
returns c = acceptance_coded _ _ _ _ _ c.accept_interrupt.ensures c.reply.ensures c.code.ensures
