use Rattle.script_machine.specs.Machine.{pic_outcome}
use Rattle.script_machine.proofs.Outcomes.{replied}
use Rattle.script_machine.proofs.call_pic.Goals as goal

pub returns-in-HandleRead : goal.returns-in-HandleRead
unfolding pic_outcome
returns-in-HandleRead c = rw (c.in-HandleRead.is, ← c.from.ensures, ← c.from-in-HandleRead.ensures) (replied _ _ _ _ c.reply.ensures c.handle_read.ensures)

pub returns-in-HandleWrite : goal.returns-in-HandleWrite
unfolding pic_outcome
returns-in-HandleWrite c = rw (c.in-HandleWrite.is, ← c.from-in-HandleWrite.ensures, ← c.from-in-HandleWrite-2.ensures) (replied _ _ _ _ c.reply-in-HandleWrite.ensures c.handle_write.ensures)

pub returns-in-ClaimIrq : goal.returns-in-ClaimIrq
unfolding pic_outcome
returns-in-ClaimIrq c = rw c.in-ClaimIrq.is (replied _ _ _ _ c.reply-in-ClaimIrq.ensures c.claim_irq.ensures)

pub returns-in-ClaimPendingInterrupt : goal.returns-in-ClaimPendingInterrupt
unfolding pic_outcome
returns-in-ClaimPendingInterrupt c = rw c.in-ClaimPendingInterrupt.is (replied _ _ _ _ c.reply-in-ClaimPendingInterrupt.ensures c.claim_pending_interrupt.ensures)

pub returns-in-RestoreInterrupt : goal.returns-in-RestoreInterrupt
unfolding pic_outcome
returns-in-RestoreInterrupt c = rw c.in-RestoreInterrupt.is (replied _ _ _ _ c.reply-in-RestoreInterrupt.ensures c.restore_interrupt.ensures)
