-- What the calls answer, in document 01's numbers and values, and the outcome of a call: the complete state after it, and its reply.
use Rattle.std.specs.Prelude.{ℕ, Option, Result}
use Rattle.types.specs.declared.Refusal.{Refusal}
use Rattle.types.specs.declared.Reply.{Reply}
use Rattle.types.specs.declared.Reply.TheVariants as reply
use Rattle.types.specs.declared.Vector.{Vector}
use Rattle.types.specs.Reply.{number_reply, vector_reply, option_reply, result_reply, Outcome}
use Rattle.vlapic_icr.specs.declared.Ipi.{Ipi}
use Rattle.vlapic_icr.specs.Kinds.{ipi_reply}
use Rattle.vlapic.specs.declared.VirtualApicRegs.{VirtualApicRegs}

-- an EOI: the vector that is broadcast to the I/O APICs, or nothing
abbrev pub eoi_reply : Option Vector → Reply
eoi_reply = option_reply vector_reply

-- a read: the register's word
abbrev pub read_reply : Result ℕ Refusal → Reply
read_reply = result_reply number_reply

-- a write: nothing, or the IPI that it sends
abbrev pub write_reply : Result (Option Ipi) Refusal → Reply
write_reply = result_reply (option_reply ipi_reply)

abbrev pub eoi_outcome : VirtualApicRegs × Option Vector → Outcome VirtualApicRegs
eoi_outcome r = record { state = r.0; reply = eoi_reply r.1 }

abbrev pub write_outcome : VirtualApicRegs × Result (Option Ipi) Refusal → Outcome VirtualApicRegs
write_outcome r = record { state = r.0; reply = write_reply r.1 }

-- the outcomes that a definition gives: done (so is that of a call that answers nothing), an IPI sent, refused
abbrev pub done : VirtualApicRegs → Outcome VirtualApicRegs
done s = record { state = s; reply = reply.Nothing }

abbrev pub sent : VirtualApicRegs → ℕ → ℕ → ℕ → Outcome VirtualApicRegs
sent s kind vector mask = record { state = s; reply = reply.Three kind vector mask }

abbrev pub refused : VirtualApicRegs → Refusal → Outcome VirtualApicRegs
refused s why = record { state = s; reply = reply.Refused why }
