-- A whole board (document 02, T-07): an I/O APIC of version 0x20, one local APIC and its request register, and what each call does to them.
-- Intel SDM volume 3, the APIC chapter: interrupt, task and processor priority; interrupt acceptance for fixed interrupts (IRR, ISR, TMR); signaling interrupt
-- servicing completion (the EOI message to the I/O APICs). 82093AA: IOREDTBL, Remote IRR. The chips' own rules stand with the chips: vioapic, vlapic_requests.
use Rattle.types.specs.declared.Refusal.{Refusal}
use Rattle.vioapic_entry.specs.declared.IoApicInterrupt.{IoApicInterrupt}
use Rattle.std.specs.Prelude.{ℕ, ◌%◌, ◌^◌, Bool, true, false, cond, List, eqb, Option, Some, None, Result, Ok, Err}
use Rattle.types.specs.declared.Gsi.{Gsi}
use Rattle.types.specs.declared.Vector.{Vector}
use Rattle.vioapic.specs.State.{IoApicState}
use Rattle.vioapic.specs.State as io-words
use Rattle.vioapic.specs.Table.{Routing, Ending, set_level, end_of}
use Rattle.vioapic.specs.Registers.{Writing}
use Rattle.vioapic.specs.IoApic.{chip_of, handle_writing}
use Rattle.vioapic.specs.declared.Eoi.{Eoi}
use Rattle.vioapic.specs.declared.Eoi.TheVariants as ioapic
use Rattle.vioapic.specs.declared.Written.{Written}
use Rattle.vioapic.specs.declared.Written.TheVariants as written
use Rattle.vlapic.specs.declared.VirtualApicRegs.{VirtualApicRegs}
use Rattle.vlapic.specs.Regs.{start}
use Rattle.vlapic_words.specs.Words as apic-words
use Rattle.vlapic_requests.specs.Requests as apic

pub record Board : Type 0 where
  pub ioapic : IoApicState
  pub apic : VirtualApicRegs

-- the board that the words of its chips stand for
unfoldable pub board_in : List ℕ → List ℕ → Board
board_in io l = record { ioapic = io-words.view io; apic = apic-words.view l }

-- a new one: the I/O APIC of version 0x20 at 0xfec00000, size 0x1000; the local APIC in xAPIC mode with id 0, nothing requested
unfoldable pub new_board : Board
new_board = record { ioapic = chip_of 0x20 0xfec00000 0x1000; apic = start false 0 }

-- the board after a call, and the call's answer
pub record After (A : Type 0) : Type 0 where
  pub board : Board
  pub answer : A

abbrev pub after : {A : Type 0} → IoApicState → VirtualApicRegs → A → After A
after io s a = record { board = record { ioapic = io; apic = s }; answer = a }

-- ---- what the I/O APIC sends becomes a request

abbrev pub requested : VirtualApicRegs → Option IoApicInterrupt → VirtualApicRegs
requested s None = s
requested s (Some i) = apic.request s i.vector i.level_triggered

-- by an EOI of v: whatever it sends again is level-triggered and of v itself, so that all of it is one request (board_theorems, `ResentAre`)
abbrev pub resent : VirtualApicRegs → Vector → ℕ → VirtualApicRegs
resent s v sent = cond (eqb sent 0) s (apic.request s v true)

abbrev pub requested_by_eoi : VirtualApicRegs → Vector → Option Eoi → VirtualApicRegs
requested_by_eoi s v None = s
requested_by_eoi s v (Some (ioapic.Ended e)) = requested s e.pending  -- version 0x11, which no board has that began as a new one
requested_by_eoi s v (Some (ioapic.EndedAll e)) = resent s v e.sent

-- by a write of x: a low word sends its entry; the EOI register's write is an EOI of the low byte's vector
abbrev pub requested_by_write : VirtualApicRegs → ℕ → Result Written Refusal → VirtualApicRegs
requested_by_write s x (Ok written.Done) = s
requested_by_write s x (Ok (written.Sent i)) = apic.request s i.vector i.level_triggered
requested_by_write s x (Ok (written.EndedAll e)) = resent s (record { 0 = x % 2 ^ 8 }) e.sent
requested_by_write s x (Err why) = s

-- ---- the calls

-- a GSI's line goes up or down
abbrev pub routed_to : VirtualApicRegs → Routing → After (Option IoApicInterrupt)
routed_to s r = after r.state (requested s r.answer) r.answer

unfoldable pub set_gsi_level : Board → Gsi → Bool → After (Option IoApicInterrupt)
set_gsi_level b gsi up = routed_to b.apic (set_level b.ioapic gsi up)

-- the guest accepts the highest request that PPR lets through
abbrev pub beside : {A : Type 0} → IoApicState → apic.After A → After A
beside io r = after io r.state r.answer

unfoldable pub accept_interrupt : Board → After (Option Vector)
accept_interrupt b = beside b.ioapic (apic.accept b.apic)

-- the guest's EOI: first the local APIC ends its vector; if that is broadcast, the I/O APIC ends its entries, and what they send is requested
abbrev pub ended_to : VirtualApicRegs → Vector → Ending → After (Option Eoi)
ended_to s v r = after r.state (requested_by_eoi s v r.answer) r.answer

abbrev pub told_to : IoApicState → VirtualApicRegs → Option Vector → After (Option Eoi)
told_to io s None = after io s None
told_to io s (Some v) = ended_to s v (end_of io v)

abbrev pub ended_by : IoApicState → apic.After (Option Vector) → After (Option Eoi)
ended_by io r = told_to io r.state r.answer

unfoldable pub handle_eoi : Board → After (Option Eoi)
handle_eoi b = ended_by b.ioapic (apic.end_highest b.apic)

-- the guest writes TPR
unfoldable pub write_tpr : Board → ℕ → Board
write_tpr b x = record { ioapic = b.ioapic; apic = apic.write_tpr b.apic x }

-- the guest writes a register of the I/O APIC
abbrev pub written_to : VirtualApicRegs → ℕ → Writing → After (Result Written Refusal)
written_to s x r = after r.state (requested_by_write s x r.answer) r.answer

unfoldable pub handle_write : Board → ℕ → ℕ → ℕ → After (Result Written Refusal)
handle_write b addr width x = written_to b.apic x (handle_writing b.ioapic addr width x)

-- a message: the request of a device without a line
unfoldable pub receive : Board → Vector → Bool → Board
receive b v level = record { ioapic = b.ioapic; apic = apic.receive b.apic v level }
