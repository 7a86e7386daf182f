-- An interrupt command among several vCPUs: each is matched by its own registers, and what is sent is in the records of those whom it reaches (document 02, T-12).
-- Intel SDM volume 3, the APIC chapter: interrupt command register; determining IPI destination (physical; logical, flat and cluster; broadcast; shorthands); LDR
-- and DFR; error handling (send illegal vector); and in x2APIC mode: ICR operation, logical destinations derived from the id, SELF IPI register.
-- Here a logical destination asks each vCPU's own LDR and DFR, so that D-65 and D-66 aren't departures. A vCPU's id is its place among the records.
use Rattle.std.specs.Prelude.{ℕ, suc, ◌+◌, ◌/◌, ◌%◌, Bool, true, false, not, cond, ◌&&◌, ◌||◌, List, [], ◌∷◌, eqb, ltb, leb, length, get_or, Result, Ok, Err}
use Rattle.utils.specs.Set.{bit, set_of}
use Rattle.types.specs.declared.Refusal.{Refusal}
use Rattle.types.specs.declared.Refusal.TheVariants.{InvalidRegister, InvalidDelivery, OutOfRange}
use Rattle.types.specs.declared.Vector.{Vector}
use Rattle.types.specs.declared.Reply.{Reply}
use Rattle.types.specs.declared.Reply.TheVariants as reply
use Rattle.types.specs.Reply.{Outcome, outcome_of}
use Rattle.vlapic_regs.specs.Register.{illegal_noted}
use Rattle.vlapic_icr.specs.declared.IcrAnswer.{IcrAnswer}
use Rattle.vlapic_icr.specs.declared.IcrAnswer.TheVariants.{Nothing, SendIllegalVector, Ipi}
use Rattle.vlapic_icr.specs.Kinds.{mode_number}
use Rattle.vlapic_icr.specs.Fields.{idle, icr_width, icr_high, is_reserved_mode, is_illegal_vector, is_invalid_shorthand}
use Rattle.vlapic_icr.specs.Icr.{send}
use Rattle.vlapic.specs.Regs.{with_pending, with_command}
use Rattle.vlapic_requests.specs.Requests.{request}
use Rattle.vlapic_theorems.specs.Targets.{any, Destination, Self, AllIncludingSelf, AllExcludingSelf, Broadcast, Physical, Logical, destination_of, Receiver, is_target, asks_active}
use Rattle.vlapic_theorems.specs.Numbers.{is_above63}
use Rattle.vcpus_ipi.specs.declared.Vcpu.{Vcpu}
use Rattle.vcpus_ipi.specs.declared.Ask.{Ask}
use Rattle.vcpus_ipi.specs.declared.Command.{Command}
use Rattle.vcpus_ipi.specs.Vcpu.{new_vcpu, with_regs, with_nmi, with_init, with_startup}

-- ---- the command

-- the mode of a vCPU's local APIC, and the words of its ICR
abbrev pub icr_of : Vcpu → Command
icr_of r = record { x2apic = r.regs.x2apic; icr_lo = r.regs.icr_lo; icr_hi = r.regs.icr_hi }

abbrev pub is_icr : Ask → Bool
is_icr a = eqb a.offset 0x300

-- the registers that send: the ICR, by the width that its mode has, and in x2APIC mode SELF IPI
abbrev pub is_sending : Ask → Bool → Bool
is_sending a x2apic = cond (is_icr a) (icr_width x2apic a.width) (eqb a.offset 0x3f0 && x2apic)

-- the command that a write asks for, where `from` is the sender's mode and ICR: the ICR's words; SELF IPI is a fixed one with the shorthand self (bits 19:18 are 1)
abbrev pub command_for : Ask → Command → Command
command_for a from =
    cond (is_icr a)
    (record { x2apic = from.x2apic; icr_lo = idle (a.value % 0x100000000); icr_hi = icr_high from.x2apic a.value from.icr_hi })
    (record { x2apic = from.x2apic; icr_lo = 0x40000 + a.value % 256; icr_hi = from.icr_hi })

abbrev pub destination : Command → Destination
destination c = destination_of c.x2apic c.icr_lo c.icr_hi

-- ---- whom it reaches

-- vCPU i as a receiver: its id is its place (not the id register's word), the rest its own registers'
abbrev pub receiver : ℕ → Vcpu → Receiver
receiver i r = record { id = i; x2apic = r.regs.x2apic; ldr = r.regs.ldr; dfr = r.regs.dfr }

-- it is a target, and active where the destination asks that (D-84)
unfoldable pub is_hit : ℕ → ℕ → Command → ℕ → Vcpu → Bool
is_hit sender active c i r = is_target sender (destination c) (receiver i r) && (bit active i || not (asks_active (destination c)))

abbrev pub is_reached : List Vcpu → ℕ → ℕ → Command → ℕ → Bool
is_reached xs sender active c i = ltb i (length xs) && is_hit sender active c i (get_or xs i new_vcpu)

abbrev pub targets : List Vcpu → ℕ → ℕ → Command → ℕ
targets xs sender active c = set_of 64 (is_reached xs sender active c)

-- an active vCPU in xAPIC mode whose DFR has a reserved model: no logical destination can be held against it
unfoldable pub is_unmatchable : ℕ → ℕ → Vcpu → Bool
is_unmatchable active i r = bit active i && (not r.regs.x2apic && not (eqb (r.regs.dfr / 0x10000000) 15 || eqb (r.regs.dfr / 0x10000000) 0))

abbrev pub is_logical_dest : Destination → Bool
is_logical_dest Self = false
is_logical_dest AllIncludingSelf = false
is_logical_dest AllExcludingSelf = false
is_logical_dest Broadcast = false
is_logical_dest (Physical d) = false
is_logical_dest (Logical d) = true

abbrev pub any_unmatchable : List Vcpu → ℕ → Bool
any_unmatchable xs active = any (length xs) (λ i. is_unmatchable active i (get_or xs i new_vcpu))

-- what becomes of the command, in this order: a reserved mode, an illegal vector, a shorthand that doesn't go with the mode, a destination above 63, a reserved model
-- among those that it would be held against, and then it is sent
unfoldable pub answer_to : List Vcpu → ℕ → ℕ → Command → Result IcrAnswer Refusal
answer_to xs sender active c =
    cond (is_reserved_mode c.icr_lo) (Err InvalidDelivery)
    (cond (is_illegal_vector c.icr_lo) (Ok SendIllegalVector)
    (cond (is_invalid_shorthand c.icr_lo) (Ok Nothing)
    (cond (is_above63 (destination c)) (Err OutOfRange)
    (cond (is_logical_dest (destination c) && any_unmatchable xs active) (Err InvalidDelivery)
    (Ok (send c.icr_lo (targets xs sender active c)))))))

-- ---- what it leaves in a record

-- of an IPI: a fixed one is an edge request, as on the board, whatever the ICR's level and trigger bits say (D-72); an NMI and an INIT wait (D-93: an INIT
-- resets no register); a start-up waits with its vector (D-92: whatever the processor is doing)
unfoldable pub received : ℕ → Vector → Vcpu → Vcpu
received kind vector r =
    cond (eqb kind 0) (with_regs r (request r.regs vector false))
    (cond (eqb kind 4) (with_nmi r)
    (cond (eqb kind 5) (with_init r)
    (with_startup r vector.0)))

-- of the sender: a command's words, where it was written to the ICR
abbrev pub stored : Bool → Command → Vcpu → Vcpu
stored icr c r = cond icr (with_regs r (with_command r.regs c.icr_lo c.icr_hi)) r

abbrev pub noted : Vcpu → Vcpu
noted r = with_regs r (with_pending r.regs (illegal_noted r.regs.esr_pending))

-- the vCPU at place i, by the answer: the sender notes an illegal vector among its errors; those in the mask receive what is sent
abbrev pub answering : Result IcrAnswer Refusal → Bool → ℕ → Vcpu → Vcpu
answering (Ok Nothing) own i r = r
answering (Ok SendIllegalVector) own i r = cond own (noted r) r
answering (Ok (Ipi ipi)) own i r = cond (bit ipi.mask i) (received (mode_number ipi.kind) ipi.vector r) r
answering (Err why) own i r = r

-- the vCPU at place i after the command c of `sender`
unfoldable pub becomes : ℕ → Bool → Command → Result IcrAnswer Refusal → ℕ → Vcpu → Vcpu
becomes sender icr c answer i r = answering answer (eqb i sender) i (cond (eqb i sender) (stored icr c r) r)

-- f at every place, from i on
abbrev pub each_from : (ℕ → Vcpu → Vcpu) → ℕ → List Vcpu → List Vcpu
each_from f i [] = []
each_from f i (r ∷ rs) = f i r ∷ each_from f (suc i) rs

-- ---- the call

-- more records than a mask has bits, or a sender that isn't among them
abbrev pub is_outside : ℕ → Ask → Bool
is_outside count a = ltb 64 count || leb count a.sender.0

-- what is asked, of its numbers
abbrev pub ask_of : ℕ → ℕ → ℕ → ℕ → ℕ → Ask
ask_of sender offset value width active = record { sender = record { 0 = sender }; offset = offset; value = value; width = width; active = active }

abbrev pub ipi_reply : Result IcrAnswer Refusal → Reply
ipi_reply (Ok Nothing) = reply.Nothing
ipi_reply (Ok SendIllegalVector) = reply.Nothing
ipi_reply (Ok (Ipi ipi)) = reply.Three (mode_number ipi.kind) ipi.vector.0 ipi.mask
ipi_reply (Err why) = reply.Refused why

abbrev pub sender : List Vcpu → Ask → Vcpu
sender xs a = get_or xs a.sender.0 new_vcpu

abbrev pub command : List Vcpu → Ask → Command
command xs a = command_for a (icr_of (sender xs a))

abbrev pub answer : List Vcpu → Ask → Result IcrAnswer Refusal
answer xs a = answer_to xs a.sender.0 a.active (command xs a)

abbrev pub carried_out : List Vcpu → Ask → Outcome (List Vcpu)
carried_out xs a = outcome_of (each_from (becomes a.sender.0 (is_icr a) (command xs a) (answer xs a)) 0 xs) (ipi_reply (answer xs a))

-- a write of a register that sends: all records after it, and the reply
unfoldable pub send_ipi : List Vcpu → Ask → Outcome (List Vcpu)
send_ipi xs a =
    cond (is_outside (length xs) a) (outcome_of xs (reply.Refused OutOfRange))
    (cond (is_sending a (sender xs a).regs.x2apic) (carried_out xs a)
    (outcome_of xs (reply.Refused InvalidRegister)))
