-- What each kind of answer says in document 01's numbers and values.
use Rattle.std.specs.Prelude.{ℕ, Option, Some, None, Result}
use Rattle.types.specs.Reply.{flag, done_reply, number_reply, vector_reply, option_reply, result_reply}
use Rattle.types.specs.declared.Refusal.{Refusal}
use Rattle.types.specs.declared.Reply.{Reply}
use Rattle.types.specs.declared.Reply.TheVariants.{Nothing, One, Two, Three}
use Rattle.types.specs.declared.Vector.{Vector}
use Rattle.vioapic_entry.specs.Answers.{interrupt_reply}
use Rattle.vioapic_entry.specs.declared.IoApicInterrupt.{IoApicInterrupt}
use Rattle.vioapic.specs.declared.IoApicEoi.{IoApicEoi}
use Rattle.vioapic.specs.declared.Eoi.{Eoi}
use Rattle.vioapic.specs.declared.IoApicEois.{IoApicEois}
use Rattle.vioapic.specs.declared.Eoi.TheVariants.{Ended, EndedAll}
use Rattle.vioapic.specs.declared.Written.{Written}
use Rattle.vioapic.specs.declared.Written.TheVariants as written
use Rattle.vioapic.specs.declared.AddressRange.{AddressRange}

-- the GSI alone, or with the interrupt that is sent again
abbrev pub pending_reply : ℕ → Option IoApicInterrupt → Reply
pending_reply gsi None = One gsi
pending_reply gsi (Some i) = Three gsi i.vector.0 (flag i.level_triggered)

abbrev pub ended_reply : IoApicEoi → Reply
ended_reply e = pending_reply e.gsi.0 e.pending

-- version 0x20: the set of GSIs that the EOI ended, and the set of those that are sent again
abbrev pub every_reply : IoApicEois → Reply
every_reply e = Two e.cleared e.sent

-- what an EOI ended, in either version; and nothing, where it ended nothing
abbrev pub ends_reply : Eoi → Reply
ends_reply (Ended e) = ended_reply e
ends_reply (EndedAll e) = every_reply e

abbrev pub eoi_reply : Option Eoi → Reply
eoi_reply = option_reply ends_reply

abbrev pub gsi_vector_reply : Option Vector → Reply
gsi_vector_reply = option_reply vector_reply

abbrev pub read_reply : Result ℕ Refusal → Reply
read_reply = result_reply number_reply

-- a write that sends says what a line's interrupt says; one that is an EOI of version 0x20, what that says
abbrev pub served_reply : Written → Reply
served_reply written.Done = Nothing
served_reply (written.Sent i) = interrupt_reply i
served_reply (written.EndedAll e) = every_reply e

abbrev pub written_reply : Result Written Refusal → Reply
written_reply = result_reply served_reply

-- a new state says nothing
abbrev pub new_reply : Result (Unit {0}) Refusal → Reply
new_reply = result_reply done_reply

-- from the one address up to the other
abbrev pub between_reply : AddressRange → Reply
between_reply r = Two r.start r.end

abbrev pub range_reply : Result AddressRange Refusal → Reply
range_reply = result_reply between_reply
