use Rattle.vioapic.specs.Calls.{outcome}
use Rattle.script_machine.proofs.Outcomes.{replied}
use mathlib.Core.Path.{ap, ◌∙◌}
use Rattle.types.specs.Reply.{outcome_of}
use Rattle.vioapic.specs.IoApic.{writing_outcome, handle_write}
use Rattle.script_machine.proofs.call_ioapic.Goals as goal

pub returns-in-HandleRead : goal.returns-in-HandleRead
unfolding outcome
returns-in-HandleRead c = rw (c.in-HandleRead.is, ← c.from.ensures) (ap (outcome_of _) (c.reply.ensures ∙ c.handle_read.ensures))

pub returns-in-HandleWrite : goal.returns-in-HandleWrite
unfolding outcome handle_write
returns-in-HandleWrite c = rw (c.in-HandleWrite.is, ← c.from-in-HandleWrite.ensures) (replied _ _ _ _ c.reply-in-HandleWrite.ensures (ap writing_outcome c.handle_write.ensures.outcome))

pub returns-in-SetGsiLevel : goal.returns-in-SetGsiLevel
unfolding outcome
returns-in-SetGsiLevel c = rw c.in-SetGsiLevel.is (replied _ _ _ _ c.reply-in-SetGsiLevel.ensures c.set_gsi_level.ensures.outcome)

pub returns-in-AssertGsi : goal.returns-in-AssertGsi
unfolding outcome
returns-in-AssertGsi c = rw c.in-AssertGsi.is (replied _ _ _ _ c.reply-in-AssertGsi.ensures c.assert_gsi.ensures.outcome)

pub returns-in-EndOfInterrupt : goal.returns-in-EndOfInterrupt
unfolding outcome
returns-in-EndOfInterrupt c = rw c.in-EndOfInterrupt.is (replied _ _ _ _ c.reply-in-EndOfInterrupt.ensures c.end_of_interrupt.ensures.outcome)
