-- The calls that can be refused: setup and the write of a register. (Acceptance and EOI stand in Priority, the read in Registers.)
-- Intel SDM volume 3, the APIC chapter: local APIC register address map; ICR in xAPIC and in x2APIC mode; SELF IPI register.
use Rattle.std.specs.Prelude.{ℕ, ◌%◌, Bool, cond, ◌||◌, eqb, ltb, Result, Ok, Err}
use Rattle.types.specs.declared.VcpuId.{VcpuId}
use Rattle.types.specs.declared.Refusal.{Refusal}
use Rattle.types.specs.declared.Refusal.TheVariants.{InvalidRegister, OutOfRange}
use Rattle.types.specs.Reply.{Outcome}
use Rattle.vlapic_regs.specs.Register.{illegal_noted}
use Rattle.vlapic_icr.specs.declared.InterruptCommand.{InterruptCommand}
use Rattle.vlapic_icr.specs.declared.IcrAnswer.{IcrAnswer}
use Rattle.vlapic_icr.specs.declared.IcrAnswer.TheVariants.{Nothing, SendIllegalVector, Ipi}
use Rattle.vlapic_icr.specs.Fields.{idle, icr_width, icr_high}
use Rattle.vlapic_icr.specs.Kinds.{mode_number}
use Rattle.vlapic_icr.specs.Icr.{command, self_ipi}
use Rattle.vlapic.specs.declared.VirtualApicRegs.{VirtualApicRegs}
use Rattle.vlapic.specs.Regs.{start, with_pending, with_command}
use Rattle.vlapic.specs.Answers.{done, sent, refused}
use Rattle.vlapic.specs.Priority.{handle_eoi}
use Rattle.vlapic.specs.Registers.{write_stored}

-- more vCPUs than a mask has bits, or an own id that no mask can hold
abbrev pub out_of_range : ℕ → ℕ → Bool
out_of_range num id = ltb 64 num || ltb 63 id

-- a new local APIC in the place of s
unfoldable pub setup : VirtualApicRegs → Bool → VcpuId → ℕ → Outcome VirtualApicRegs
setup s x2apic id num = cond (out_of_range num id.0) (refused s OutOfRange) (done (start x2apic id.0))

-- ---- the interrupt command

-- what the command goes by
abbrev pub command_of : VirtualApicRegs → InterruptCommand
command_of s = record {
  x2apic = s.x2apic;
  vapic_id = s.vapic_id;
  ldr = s.ldr;
  dfr = s.dfr;
  icr_lo = s.icr_lo;
  icr_hi = s.icr_hi;
}

abbrev pub answered : VirtualApicRegs → Result IcrAnswer Refusal → Outcome VirtualApicRegs
answered s (Ok Nothing) = done s
answered s (Ok SendIllegalVector) = done (with_pending s (illegal_noted s.esr_pending))
answered s (Ok (Ipi ipi)) = sent s (mode_number ipi.kind) ipi.vector.0 ipi.mask
answered s (Err why) = refused s why

-- the words are stored, the delivery status cleared, and then carried out: a command that is refused stays in the ICR. D-89: reserved bits are kept
unfoldable pub write_icr : VirtualApicRegs → ℕ → ℕ → ℕ → ℕ → Outcome VirtualApicRegs
write_icr s lo hi num active = answered (with_command s (idle lo) hi) (command (command_of (with_command s (idle lo) hi)) num active)

unfoldable pub write_icr_low : VirtualApicRegs → ℕ → ℕ → ℕ → ℕ → Outcome VirtualApicRegs
write_icr_low s val width num active =
    cond (icr_width s.x2apic width)
    (write_icr s (val % 0x100000000) (icr_high s.x2apic val s.icr_hi) num active)
    (refused s InvalidRegister)

-- the self-IPI register is there in x2APIC mode alone; the low byte is the vector (D-82: the other bits are dropped)
unfoldable pub write_self_ipi : VirtualApicRegs → ℕ → Outcome VirtualApicRegs
write_self_ipi s val = cond s.x2apic (answered s (Ok (self_ipi (record { 0 = s.vapic_id }) (record { 0 = val % 256 })))) (refused s InvalidRegister)

-- ---- a register's write

-- a write of `val` at `offset` (the width matters to the ICR alone), where the VM has `num` vCPUs, of which those in `active` are active
unfoldable pub handle_write : VirtualApicRegs → ℕ → ℕ → ℕ → ℕ → ℕ → Outcome VirtualApicRegs
handle_write s offset val width num active =
    cond (out_of_range num s.vapic_id) (refused s OutOfRange)
    (cond (eqb offset 0xb0) (done (handle_eoi s).state)  -- D-79: what the EOI broadcasts is dropped; D-91: any value in x2APIC mode too
    (cond (eqb offset 0x300) (write_icr_low s val width num active)
    (cond (eqb offset 0x3f0) (write_self_ipi s val)
    (write_stored s offset (val % 0x100000000)))))
