use Rattle.vioapic_entry.specs.Answers.{routed_reply}
use Rattle.vioapic.specs.Answers.{eoi_reply, written_reply}
use Rattle.board.specs.Promise.{acceptance_reply}
use Rattle.board.specs.Calls.{outcome}
use Rattle.script_machine.proofs.Board.{board_gives, board_becomes}
use Rattle.script_machine.proofs.call_board.Goals as goal

pub returns-in-SetGsiLevel : goal.returns-in-SetGsiLevel
unfolding outcome
returns-in-SetGsiLevel c = rw c.in-SetGsiLevel.is (board_gives _ _ _ _ routed_reply _ _ _ c.reply.ensures c.set_gsi_level.ensures)

pub returns-in-AcceptInterrupt : goal.returns-in-AcceptInterrupt
unfolding outcome
returns-in-AcceptInterrupt c = rw c.in-AcceptInterrupt.is (board_gives _ _ _ _ acceptance_reply _ _ _ c.reply-in-AcceptInterrupt.ensures (c.accept_interrupt.ensures c.args.ioapic.now))

pub returns-in-HandleEoi : goal.returns-in-HandleEoi
unfolding outcome
returns-in-HandleEoi c = rw c.in-HandleEoi.is (board_gives _ _ _ _ eoi_reply _ _ _ c.reply-in-HandleEoi.ensures c.handle_eoi.ensures)

pub returns-in-WriteTpr : goal.returns-in-WriteTpr
unfolding outcome
returns-in-WriteTpr c = rw c.in-WriteTpr.is (board_becomes _ _ _ _ _ (rw c.from.ensures at (c.write_tpr.ensures c.args.ioapic.now)))

pub returns-in-HandleWrite : goal.returns-in-HandleWrite
unfolding outcome
returns-in-HandleWrite c = rw (c.in-HandleWrite.is, ← c.from-in-HandleWrite.ensures) (board_gives _ _ _ _ written_reply _ _ _ c.reply-in-HandleWrite.ensures c.handle_write.ensures)

pub returns-in-Receive : goal.returns-in-Receive
unfolding outcome
returns-in-Receive c = rw c.in-Receive.is (board_becomes _ _ _ _ _ (c.receive.ensures c.args.ioapic.now))
