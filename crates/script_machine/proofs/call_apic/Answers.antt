use mathlib.Core.Path.{refl, ap, ◌∙◌}
use Rattle.types.specs.Reply.{outcome_of}
use Rattle.script_machine.specs.Machine.{local_outcome}
use Rattle.script_machine.proofs.Local.{local_by}
use Rattle.script_machine.proofs.call_apic.Goals as goal

pub returns-in-AcceptInterrupt : goal.returns-in-AcceptInterrupt
unfolding local_outcome
returns-in-AcceptInterrupt c = record {
  reply_after = rw c.in-AcceptInterrupt.is (local_by _ _ _ c.args.vm.now _ _ _ refl c.accept_interrupt.ensures);
  used_value = refl;
}

pub returns-in-HandleWrite : goal.returns-in-HandleWrite
unfolding local_outcome
returns-in-HandleWrite c = record {
  reply_after = rw c.in-HandleWrite.is (local_by _ _ _ c.args.vm.now _ _ _ c.reply.ensures c.handle_write.ensures);
  used_value = refl;
}

pub returns-in-HandleEoi : goal.returns-in-HandleEoi
unfolding local_outcome
returns-in-HandleEoi c = record {
  reply_after = rw c.in-HandleEoi.is (local_by _ _ _ c.args.vm.now _ _ _ c.reply-in-HandleEoi.ensures c.handle_eoi.ensures);
  used_value = refl;
}

pub returns-in-HandleRead : goal.returns-in-HandleRead
unfolding local_outcome
returns-in-HandleRead c = record {
  reply_after = rw c.in-HandleRead.is (ap (outcome_of _) (c.reply-in-HandleRead.ensures ∙ c.handle_read.ensures));
  used_value = refl;
}
