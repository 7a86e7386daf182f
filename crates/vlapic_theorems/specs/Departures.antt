-- Where the local APIC departs from the SDM: for each departure the smallest state and call, what the definitions give there, and what the text asks for instead.
-- Intel SDM volume 3, the APIC chapter; docs/DIFFERENCES.md says each in words. A refusal stands as its number, an answer as 0 and its values.
-- One convention: the local APIC is that of vCPU 0 after reset, enabled by SVR 0x1ff, but for D-69 and D-80, which are about a disabled one; vCPUs 0 and 1 are there, and
-- active, but for D-84. The text's processor dispenses an interrupt that it accepts as soon as PPR lets it, can send lowest-priority IPIs, and has APR and RRD; a fault
-- of its x2APIC mode stands as 2. So each case shows its own departure: were the others undone, ours would still give what it gives.
use Rattle.std.specs.Prelude.{ℕ, true, false, refl, List, [], ◌∷◌, get_or}
use Rattle.utils.specs.Set.{with, without}
use Rattle.types.specs.declared.Reply.{Reply}
use Rattle.types.specs.Reply.{Outcome, reply_number, reply_values}
use Rattle.types.specs.Departure.{Departure, Shown}
use Rattle.vlapic_regs.specs.Vectors.{with_vector, highest_from}
use Rattle.vlapic_icr.specs.Icr.{dest_field_matched, dest_no_shorthand, calculate_dest, command, self_ipi}
use Rattle.vlapic.specs.declared.VirtualApicRegs.{VirtualApicRegs}
use Rattle.vlapic.specs.Regs.{start}
use Rattle.vlapic_regs.specs.Register.{priority}
use Rattle.vlapic.specs.Priority.{update_ppr, accept_interrupt, handle_eoi}
use Rattle.vlapic.specs.Registers.{handle_read, stored, write_stored}
use Rattle.vlapic.specs.Calls.{write_icr, write_icr_low, write_self_ipi, handle_write}

abbrev said : Reply → List ℕ
said r = reply_number r ∷ reply_values r

-- a write by 4 bytes, by 8 in x2APIC mode, where vCPUs 0 and 1 are active; and where of the two vCPU 0 alone is
abbrev wrote : VirtualApicRegs → ℕ → ℕ → Outcome VirtualApicRegs
wrote s offset val = handle_write s offset val 4 2 3

abbrev wrote8 : VirtualApicRegs → ℕ → ℕ → Outcome VirtualApicRegs
wrote8 s offset val = handle_write s offset val 8 2 3

abbrev wrote_alone : VirtualApicRegs → ℕ → ℕ → Outcome VirtualApicRegs
wrote_alone s offset val = handle_write s offset val 4 2 1

-- the local APIC of vCPU 0 after reset, and enabled, in each mode; and that of vCPU 1
abbrev disabled : VirtualApicRegs
disabled = start false 0

abbrev enabled : VirtualApicRegs → VirtualApicRegs
enabled s = (wrote s 0xf0 0x1ff).state

abbrev xapic : VirtualApicRegs
xapic = enabled disabled

abbrev x2apic : VirtualApicRegs
x2apic = enabled (start true 0)

abbrev accepted : VirtualApicRegs → ℕ → VirtualApicRegs
accepted s vector = (accept_interrupt s (record { 0 = vector }) true).state

-- the interrupt command with this destination byte, in xAPIC mode; and where of the two vCPU 0 alone is active
abbrev commanded : VirtualApicRegs → ℕ → ℕ → Outcome VirtualApicRegs
commanded s hi lo = wrote (wrote s 0x310 hi).state 0x300 lo

abbrev commanded_alone : VirtualApicRegs → ℕ → ℕ → Outcome VirtualApicRegs
commanded_alone s hi lo = wrote_alone (wrote s 0x310 hi).state 0x300 lo

-- xapic with a vector requested in IRR, which no call does
abbrev requested : ℕ → VirtualApicRegs
requested vector = record {
  x2apic = xapic.x2apic;
  vapic_id = xapic.vapic_id;
  tpr = xapic.tpr;
  ppr = xapic.ppr;
  ldr = xapic.ldr;
  dfr = xapic.dfr;
  svr = xapic.svr;
  esr = xapic.esr;
  esr_pending = xapic.esr_pending;
  icr_lo = xapic.icr_lo;
  icr_hi = xapic.icr_hi;
  lvt_cmci = xapic.lvt_cmci;
  lvt_timer = xapic.lvt_timer;
  lvt_thermal = xapic.lvt_thermal;
  lvt_pmi = xapic.lvt_pmi;
  lvt_lint0 = xapic.lvt_lint0;
  lvt_lint1 = xapic.lvt_lint1;
  lvt_error = xapic.lvt_error;
  isr = xapic.isr;
  tmr = xapic.tmr;
  irr = with_vector xapic.irr vector;
}

abbrev pub departures : List Departure
departures =
    -- vectors 16 to 31 are never ended: 31 accepted, EOI, word 0 of ISR
    record { number = 61; computed = get_or (handle_eoi (accepted xapic 31)).state.isr 0 0 ∷ []; ours = 0x80000000 ∷ []; text = 0 ∷ [] }
    -- PPR after a write of TPR
    ∷ record { number = 62; computed = (wrote xapic 0x80 0x35).state.ppr ∷ []; ours = 0 ∷ []; text = 0x35 ∷ [] }
    -- 0x31 is requested, and accepted: word 1 of IRR
    ∷ record { number = 63; computed = get_or (accepted (requested 0x31) 0x31).irr 1 0 ∷ []; ours = 0x20000 ∷ []; text = 0 ∷ [] }
    -- accepted under a higher class in service: word 1 of ISR
    ∷ record { number = 64; computed = get_or (accepted (accepted xapic 0x41) 0x31).isr 1 0 ∷ []; ours = 0x20000 ∷ []; text = 0 ∷ [] }
    -- logical destination 1, the sender's LDR 1, vCPU 1's LDR 2
    ∷ record { number = 65; computed = said (commanded (wrote xapic 0xd0 0x1000000).state 0x1000000 0x841).reply; ours = 0 ∷ 0 ∷ 0x41 ∷ 3 ∷ []; text = 0 ∷ 0 ∷ 0x41 ∷ 1 ∷ [] }
    -- x2APIC, logical destination cluster 2, where neither vCPU is
    ∷ record { number = 66; computed = said (wrote8 x2apic 0x300 0x0002000100000841).reply; ours = 0 ∷ 0 ∷ 0x41 ∷ 3 ∷ []; text = 0 ∷ [] }
    -- LDR of vCPU 1 in x2APIC mode
    ∷ record { number = 67; computed = said (handle_read (enabled (start true 1)) 0xd0); ours = 0 ∷ 0 ∷ []; text = 0 ∷ 2 ∷ [] }
    -- DFR and the ICR's high word read in x2APIC mode
    ∷ record { number = 68; computed = said (handle_read x2apic 0xe0); ours = 0 ∷ 0xffffffff ∷ []; text = 2 ∷ [] }
    ∷ record { number = 68; computed = said (handle_read x2apic 0x310); ours = 0 ∷ 0 ∷ []; text = 2 ∷ [] }
    -- LINT0 unmasked while software-disabled
    ∷ record { number = 69; computed = (wrote disabled 0x350 0x30).state.lvt_lint0 ∷ []; ours = 0x30 ∷ []; text = 0x10030 ∷ [] }
    -- an illegal vector sent with the error LVT at 0x40: word 2 of ISR
    ∷ record { number = 70; computed = get_or (commanded (wrote xapic 0x370 0x40).state 0 15).state.isr 2 0 ∷ []; ours = 0 ∷ []; text = 1 ∷ [] }
    -- delivery status and remote IRR of LINT0 written
    ∷ record { number = 71; computed = (wrote xapic 0x350 0x5030).state.lvt_lint0 ∷ []; ours = 0x5030 ∷ []; text = 0x30 ∷ [] }
    -- INIT, level de-assert, to vCPU 0
    ∷ record { number = 72; computed = said (commanded xapic 0 0x8500).reply; ours = 0 ∷ 5 ∷ 0 ∷ 1 ∷ []; text = 0 ∷ [] }
    -- lowest priority to vCPU 0; SMI to vCPU 0
    ∷ record { number = 73; computed = said (commanded xapic 0 0x131).reply; ours = 0 ∷ []; text = 0 ∷ 1 ∷ 0x31 ∷ 1 ∷ [] }
    ∷ record { number = 73; computed = said (commanded xapic 0 0x200).reply; ours = 0 ∷ []; text = 0 ∷ 2 ∷ 0 ∷ 1 ∷ [] }
    -- reserved bits of SVR; in x2APIC mode
    ∷ record { number = 74; computed = (wrote xapic 0xf0 0xffffffff).state.svr ∷ []; ours = 0xffffffff ∷ []; text = 0x13ff ∷ [] }
    ∷ record { number = 74; computed = said (wrote8 x2apic 0xf0 0xffffffff).reply; ours = 0 ∷ []; text = 2 ∷ [] }
    -- lowest priority with an illegal vector: pending errors
    ∷ record { number = 75; computed = (commanded xapic 0 0x105).state.esr_pending ∷ []; ours = 0 ∷ []; text = 0x20 ∷ [] }
    -- a register that isn't there: pending errors
    ∷ record { number = 76; computed = (wrote xapic 0x40 0).state.esr_pending ∷ []; ours = 0 ∷ []; text = 0x80 ∷ [] }
    -- self-IPI with vector 5: pending errors
    ∷ record { number = 77; computed = (wrote x2apic 0x3f0 5).state.esr_pending ∷ []; ours = 0x20 ∷ []; text = 0x60 ∷ [] }
    -- physical destination 64, which no vCPU has
    ∷ record { number = 78; computed = said (commanded xapic 0x40000000 0x31).reply; ours = 5 ∷ []; text = 0 ∷ [] }
    -- the EOI register written while a level-triggered 0x31 is in service
    ∷ record { number = 79; computed = said (wrote (accepted xapic 0x31) 0xb0 0).reply; ours = 0 ∷ []; text = 0 ∷ 0x31 ∷ [] }
    -- accepted while software-disabled: word 1 of ISR
    ∷ record { number = 80; computed = get_or (accepted disabled 0x31).isr 1 0 ∷ []; ours = 0x20000 ∷ []; text = 0 ∷ [] }
    -- version (whatever it is), IRR, the timer's initial and current count and its divider read
    ∷ record { number = 81; computed = reply_number (handle_read xapic 0x30) ∷ []; ours = 2 ∷ []; text = 0 ∷ [] }
    ∷ record { number = 81; computed = said (handle_read xapic 0x200); ours = 2 ∷ []; text = 0 ∷ 0 ∷ [] }
    ∷ record { number = 81; computed = said (handle_read xapic 0x380); ours = 2 ∷ []; text = 0 ∷ 0 ∷ [] }
    ∷ record { number = 81; computed = said (handle_read xapic 0x390); ours = 2 ∷ []; text = 0 ∷ 0 ∷ [] }
    ∷ record { number = 81; computed = said (handle_read xapic 0x3e0); ours = 2 ∷ []; text = 0 ∷ 0 ∷ [] }
    -- a reserved bit of TPR, of LINT0 and of the self-IPI register written in x2APIC mode
    ∷ record { number = 82; computed = said (wrote8 x2apic 0x80 0x100).reply; ours = 0 ∷ []; text = 2 ∷ [] }
    ∷ record { number = 82; computed = said (wrote8 x2apic 0x350 0x20000).reply; ours = 0 ∷ []; text = 2 ∷ [] }
    ∷ record { number = 82; computed = said (wrote8 x2apic 0x3f0 0x131).reply; ours = 0 ∷ 0 ∷ 0x31 ∷ 1 ∷ []; text = 2 ∷ [] }
    -- TPR 0x135, which no write leaves: PPR
    ∷ record { number = 83; computed = priority 0x135 0 ∷ []; ours = 0x135 ∷ []; text = 0x35 ∷ [] }
    -- vCPU 1 inactive: all including self, all excluding self, broadcast, and logical destination 1 where each LDR is 1
    ∷ record { number = 84; computed = said (commanded_alone xapic 0 0x80041).reply; ours = 0 ∷ 0 ∷ 0x41 ∷ 1 ∷ []; text = 0 ∷ 0 ∷ 0x41 ∷ 3 ∷ [] }
    ∷ record { number = 84; computed = said (commanded_alone xapic 0 0xc0041).reply; ours = 0 ∷ []; text = 0 ∷ 0 ∷ 0x41 ∷ 2 ∷ [] }
    ∷ record { number = 84; computed = said (commanded_alone xapic 0xff000000 0x41).reply; ours = 0 ∷ 0 ∷ 0x41 ∷ 1 ∷ []; text = 0 ∷ 0 ∷ 0x41 ∷ 3 ∷ [] }
    ∷ record { number = 84; computed = said (commanded_alone (wrote xapic 0xd0 0x1000000).state 0x1000000 0x841).reply; ours = 0 ∷ 0 ∷ 0x41 ∷ 1 ∷ []; text = 0 ∷ 0 ∷ 0x41 ∷ 3 ∷ [] }
    -- 5 accepted: pending errors
    ∷ record { number = 85; computed = (accepted xapic 5).esr_pending ∷ []; ours = 0 ∷ []; text = 0x40 ∷ [] }
    -- ID written in x2APIC mode
    ∷ record { number = 86; computed = said (wrote8 x2apic 0x20 0).reply; ours = 0 ∷ []; text = 2 ∷ [] }
    -- APR and RRD read
    ∷ record { number = 87; computed = said (handle_read xapic 0x90); ours = 2 ∷ []; text = 0 ∷ 0 ∷ [] }
    ∷ record { number = 87; computed = said (handle_read xapic 0xc0); ours = 2 ∷ []; text = 0 ∷ 0 ∷ [] }
    -- the timer's initial count and its divider written
    ∷ record { number = 88; computed = said (wrote xapic 0x380 1).reply; ours = 2 ∷ []; text = 0 ∷ [] }
    ∷ record { number = 88; computed = said (wrote xapic 0x3e0 11).reply; ours = 2 ∷ []; text = 0 ∷ [] }
    -- a reserved bit of the ICR; in x2APIC mode
    ∷ record { number = 89; computed = (wrote xapic 0x300 0x2031).state.icr_lo ∷ []; ours = 0x2031 ∷ []; text = 0x31 ∷ [] }
    ∷ record { number = 89; computed = said (wrote8 x2apic 0x300 0x2031).reply; ours = 0 ∷ 0 ∷ 0x31 ∷ 1 ∷ []; text = 2 ∷ [] }
    -- the ICR read in x2APIC mode, after a command to vCPU 1
    ∷ record { number = 90; computed = said (handle_read (wrote8 x2apic 0x300 0x100000031).state 0x300); ours = 0 ∷ 0x31 ∷ []; text = 0 ∷ 0x100000031 ∷ [] }
    -- 1 written to EOI and to ESR in x2APIC mode
    ∷ record { number = 91; computed = said (wrote8 x2apic 0xb0 1).reply; ours = 0 ∷ []; text = 2 ∷ [] }
    ∷ record { number = 91; computed = said (wrote8 x2apic 0x280 1).reply; ours = 0 ∷ []; text = 2 ∷ [] }
    ∷ []

pub departures_hold : Shown departures
unfolding with without highest_from dest_field_matched dest_no_shorthand calculate_dest command self_ipi priority update_ppr accept_interrupt handle_eoi handle_read stored write_stored write_icr write_icr_low write_self_ipi handle_write
departures_hold = ((refl, refl), ((refl, refl), ((refl, refl), ((refl, refl), ((refl, refl), ((refl, refl), ((refl, refl), ((refl, refl), ((refl, refl), ((refl, refl), ((refl, refl), ((refl, refl), ((refl, refl), ((refl, refl), ((refl, refl), ((refl, refl), ((refl, refl), ((refl, refl), ((refl, refl), ((refl, refl), ((refl, refl), ((refl, refl), ((refl, refl), ((refl, refl), ((refl, refl), ((refl, refl), ((refl, refl), ((refl, refl), ((refl, refl), ((refl, refl), ((refl, refl), ((refl, refl), ((refl, refl), ((refl, refl), ((refl, refl), ((refl, refl), ((refl, refl), ((refl, refl), ((refl, refl), ((refl, refl), ((refl, refl), ((refl, refl), ((refl, refl), ((refl, refl), ((refl, refl), ((refl, refl), ((refl, refl), tt)))))))))))))))))))))))))))))))))))))))))))))))
