-- What an entry asks to inject, if anything, in document 01's numbers and values.
use Rattle.std.specs.Prelude.{Bool, Option, is_some}
use Rattle.types.specs.Reply.{flag, option_reply}
use Rattle.types.specs.declared.Reply.{Reply}
use Rattle.types.specs.declared.Reply.TheVariants.{Two}
use Rattle.vioapic_entry.specs.declared.IoApicInterrupt.{IoApicInterrupt}

-- the vector and the trigger mode
abbrev pub interrupt_reply : IoApicInterrupt → Reply
interrupt_reply i = Two i.vector.0 (flag i.level_triggered)

-- nothing, or the interrupt
abbrev pub routed_reply : Option IoApicInterrupt → Reply
routed_reply = option_reply interrupt_reply

-- an interrupt is sent
abbrev pub is_routed : Option IoApicInterrupt → Bool
is_routed = is_some
