use Rattle.script_machine.proofs.Outcomes.{replied}
use Rattle.script_lists.specs.Steps.{list_outcome}
use Rattle.script_lists.proofs.Hosts.{on_lists_lem}
use Rattle.script_lists.proofs.perform.Goals as goal

pub returns-in-Take : goal.returns-in-Take
unfolding list_outcome
returns-in-Take c = rw c.in-Take.is (on_lists_lem _ _ _ _ _ c.reply.ensures c.take.ensures)

pub returns-in-Deliver : goal.returns-in-Deliver
unfolding list_outcome
returns-in-Deliver c = rw c.in-Deliver.is (on_lists_lem _ _ _ _ _ c.reply-in-Deliver.ensures c.deliver.ensures)

pub returns-in-Cancel : goal.returns-in-Cancel
unfolding list_outcome
returns-in-Cancel c = rw c.in-Cancel.is (on_lists_lem _ _ _ _ _ c.reply-in-Cancel.ensures c.cancel.ensures)

pub returns-in-ClaimIrq : goal.returns-in-ClaimIrq
unfolding list_outcome
returns-in-ClaimIrq c = rw c.in-ClaimIrq.is (replied _ _ _ _ c.reply-in-ClaimIrq.ensures c.claim_irq.ensures)

pub returns-in-ClaimPendingInterrupt : goal.returns-in-ClaimPendingInterrupt
unfolding list_outcome
returns-in-ClaimPendingInterrupt c = rw c.in-ClaimPendingInterrupt.is (replied _ _ _ _ c.reply-in-ClaimPendingInterrupt.ensures c.claim_pending_interrupt.ensures)

pub returns-in-New : goal.returns-in-New
unfolding list_outcome
returns-in-New c = rw c.in-New.is (on_lists_lem _ _ _ _ _ c.reply-in-New.ensures c.new.ensures)
