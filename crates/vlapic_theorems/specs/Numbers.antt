-- The refusal numbers of the calls that can be refused: when, and only then, and the state after.
-- Document 01, "Refusal numbers" and "Local APIC".
use Rattle.std.specs.Prelude.{ℕ, ◌%◌, ◌/◌, Bool, true, false, not, cond, ◌&&◌, ◌||◌, ◌≡◌, ◌↔◌, List, [], ◌∷◌, eqb, leb, ltb}
use Rattle.utils.specs.Set.{bit}
use Rattle.types.specs.declared.VcpuId.{VcpuId}
use Rattle.types.specs.Reply.{Outcome, reply_number}
use Rattle.vlapic_icr.specs.Fields.{vector_field, delivery_mode}
use Rattle.vlapic.specs.declared.VirtualApicRegs.{VirtualApicRegs}
use Rattle.vlapic.specs.Regs.{with_command}
use Rattle.vlapic.specs.Registers.{handle_read}
use Rattle.vlapic.specs.Calls.{out_of_range, setup, handle_write}
use Rattle.vlapic_theorems.specs.Targets.{any, Destination, Self, AllIncludingSelf, AllExcludingSelf, Broadcast, Physical, Logical}
use Rattle.vlapic_theorems.specs.Sending.{low_word, high_word, destination, is_icr_width, is_storing}

-- ---- which registers there are, by offset

abbrev pub is_one : ℕ → List ℕ → Bool
is_one offset [] = false
is_one offset (o ∷ os) = eqb offset o || is_one offset os

-- read: ID, TPR, PPR, LDR, DFR, SVR, ESR, LVT CMCI, ICR's two words, LVT timer, thermal, performance counters, LINT0, LINT1, error; and the in-service and
-- trigger words, 0x100 to 0x1f0 by 0x10
abbrev pub read_offsets : List ℕ
read_offsets =
    0x20 ∷ 0x80 ∷ 0xa0 ∷ 0xd0 ∷ 0xe0 ∷ 0xf0 ∷ 0x280 ∷ 0x2f0 ∷ 0x300 ∷ 0x310 ∷ 0x320 ∷ 0x330 ∷ 0x340 ∷ 0x350 ∷ 0x360 ∷ 0x370 ∷ []

abbrev pub is_read : ℕ → Bool
is_read offset = is_one offset read_offsets || (eqb (offset % 16) 0 && (leb 0x100 offset && leb offset 0x1f0))

-- written in both modes: ID, TPR, EOI, SVR, ESR, the LVT entries; in xAPIC mode alone: LDR, DFR, ICR's high word; in x2APIC mode alone: self-IPI; ICR by its width
abbrev pub written_offsets : List ℕ
written_offsets = 0x20 ∷ 0x80 ∷ 0xb0 ∷ 0xf0 ∷ 0x280 ∷ 0x2f0 ∷ 0x320 ∷ 0x330 ∷ 0x340 ∷ 0x350 ∷ 0x360 ∷ 0x370 ∷ []

abbrev pub xapic_offsets : List ℕ
xapic_offsets = 0xd0 ∷ 0xe0 ∷ 0x310 ∷ []

abbrev pub is_written : Bool → ℕ → ℕ → Bool
is_written x2apic offset width =
    is_one offset written_offsets
    || ((is_one offset xapic_offsets && not x2apic)
    || ((eqb offset 0x3f0 && x2apic)
    || (eqb offset 0x300 && is_icr_width x2apic width)))

-- ---- what an interrupt command is refused for

-- delivery modes 3 and 7
abbrev pub is_reserved : ℕ → Bool
is_reserved lo = eqb (delivery_mode lo) 3 || eqb (delivery_mode lo) 7

-- a fixed vector below 16 is noted as an error, before the destination is looked at
abbrev pub is_noted : ℕ → Bool
is_noted lo = eqb (delivery_mode lo) 0 && ltb (vector_field lo) 16

-- a logical destination under a DFR model neither 0 nor 15, in xAPIC mode
abbrev pub is_unmatchable : VirtualApicRegs → Destination → Bool
is_unmatchable s Self = false
is_unmatchable s AllIncludingSelf = false
is_unmatchable s AllExcludingSelf = false
is_unmatchable s Broadcast = false
is_unmatchable s (Physical d) = false
is_unmatchable s (Logical d) = not s.x2apic && not (eqb (s.dfr / 0x10000000) 15 || eqb (s.dfr / 0x10000000) 0)

-- a physical destination above 63
abbrev pub is_above63 : Destination → Bool
is_above63 Self = false
is_above63 AllIncludingSelf = false
is_above63 AllExcludingSelf = false
is_above63 Broadcast = false
is_above63 (Physical d) = ltb 63 d
is_above63 (Logical d) = false

-- 3: a reserved mode; or an unmatchable destination while some vCPU below the count is active
abbrev pub is_command3 : VirtualApicRegs → ℕ → ℕ → ℕ → Bool
is_command3 s val num active =
    is_reserved (low_word val)
    || (not (is_noted (low_word val)) && (is_unmatchable s (destination s val) && any num (bit active)))

-- 5: a physical destination above 63
abbrev pub is_command5 : VirtualApicRegs → ℕ → Bool
is_command5 s val = not (is_reserved (low_word val)) && (not (is_noted (low_word val)) && is_above63 (destination s val))

-- ---- a write: 5 for the count or the own id goes before 2, and 2 before the command's 3 and 5

abbrev pub is_write2 : VirtualApicRegs → ℕ → ℕ → ℕ → Bool
is_write2 s offset width num = not (out_of_range num s.vapic_id) && not (is_written s.x2apic offset width)

abbrev pub is_write3 : VirtualApicRegs → ℕ → ℕ → ℕ → ℕ → ℕ → Bool
is_write3 s offset val width num active = eqb offset 0x300 && (is_storing s width num && is_command3 s val num active)

abbrev pub is_write5 : VirtualApicRegs → ℕ → ℕ → ℕ → ℕ → Bool
is_write5 s offset val width num = out_of_range num s.vapic_id || (eqb offset 0x300 && (is_storing s width num && is_command5 s val))

abbrev pub is_write0 : VirtualApicRegs → ℕ → ℕ → ℕ → ℕ → ℕ → Bool
is_write0 s offset val width num active =
    not (is_write2 s offset width num || (is_write3 s offset val width num active || is_write5 s offset val width num))

-- each number when, and only then: of done calls too, so that there is no other number
pub record WriteNumbers (s : VirtualApicRegs) (offset val width num active number : ℕ) : Type 0 where
  pub done : number ≡ 0 ↔ is_write0 s offset val width num active ≡ true
  pub register : number ≡ 2 ↔ is_write2 s offset width num ≡ true
  pub delivery : number ≡ 3 ↔ is_write3 s offset val width num active ≡ true
  pub range : number ≡ 5 ↔ is_write5 s offset val width num ≡ true

abbrev pub WritesNumbered : Type 0
WritesNumbered =
    (s : VirtualApicRegs) (offset val width num active : ℕ)
    → WriteNumbers s offset val width num active (reply_number (handle_write s offset val width num active).reply)

-- ---- a read and a setup

abbrev pub ReadsNumbered : Type 0
ReadsNumbered =
    (s : VirtualApicRegs) (offset : ℕ)
    → (reply_number (handle_read s offset) ≡ 0 ↔ is_read offset ≡ true) × (reply_number (handle_read s offset) ≡ 2 ↔ is_read offset ≡ false)

-- a count above 64 or an own id above 63
abbrev pub is_setup5 : ℕ → ℕ → Bool
is_setup5 num id = ltb 64 num || ltb 63 id

abbrev pub SetupsNumbered : Type 0
SetupsNumbered =
    (s : VirtualApicRegs) (x2apic : Bool) (id : VcpuId) (num : ℕ)
    → (reply_number (setup s x2apic id num).reply ≡ 0 ↔ is_setup5 num id.0 ≡ false) × (reply_number (setup s x2apic id num).reply ≡ 5 ↔ is_setup5 num id.0 ≡ true)

-- ---- the state after

-- s with the command's words put in, and nothing else changed
abbrev pub commanded : VirtualApicRegs → ℕ → VirtualApicRegs
commanded s val = with_command s (low_word val) (high_word s val)

-- refused with 2, or with 5 for the count or the own id: unchanged. Refused with 3, or with 5 for the destination: the command's words stored
pub record Leaves (s : VirtualApicRegs) (val num : ℕ) (o : Outcome VirtualApicRegs) : Type 0 where
  pub register : reply_number o.reply ≡ 2 → o.state ≡ s
  pub delivery : reply_number o.reply ≡ 3 → o.state ≡ commanded s val
  pub destination : reply_number o.reply ≡ 5 → out_of_range num s.vapic_id ≡ false → o.state ≡ commanded s val
  pub range : reply_number o.reply ≡ 5 → out_of_range num s.vapic_id ≡ true → o.state ≡ s

abbrev pub WritesLeave : Type 0
WritesLeave = (s : VirtualApicRegs) (offset val width num active : ℕ) → Leaves s val num (handle_write s offset val width num active)

-- so of every refused write: a command has stored its words, where count, id and width let it be looked at; and nothing else has changed anything
abbrev pub RefusedWrites : Type 0
RefusedWrites =
    (s : VirtualApicRegs) (offset val width num active : ℕ)
    → (reply_number (handle_write s offset val width num active).reply ≡ 0 → ⊥)
    → (handle_write s offset val width num active).state ≡ cond (eqb offset 0x300 && is_storing s width num) (commanded s val) s

-- a refused setup leaves the old one
abbrev pub SetupsLeave : Type 0
SetupsLeave =
    (s : VirtualApicRegs) (x2apic : Bool) (id : VcpuId) (num : ℕ)
    → reply_number (setup s x2apic id num).reply ≡ 5
    → (setup s x2apic id num).state ≡ s
