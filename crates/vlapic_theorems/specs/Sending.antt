-- Which writes send an IPI, and to whom: exactly.
-- Intel SDM volume 3, the APIC chapter: interrupt command register (delivery mode, with the table of valid combinations of shorthand and delivery mode); error
-- handling (send illegal vector); SELF IPI register.
use Rattle.std.specs.Prelude.{ℕ, ◌/◌, ◌%◌, ◌≤◌, Bool, true, false, not, cond, ◌&&◌, ◌||◌, ◌≡◌, ◌⊎◌, ◌↔◌, eqb, leb}
use Rattle.utils.specs.Set.{bit, without}
use Rattle.types.specs.declared.Reply.TheVariants.{Nothing, Three}
use Rattle.types.specs.Reply.{reply_number}
use Rattle.vlapic_icr.specs.Fields.{vector_field, delivery_mode, shorthand}
use Rattle.vlapic.specs.declared.VirtualApicRegs.{VirtualApicRegs}
use Rattle.vlapic.specs.Calls.{out_of_range, handle_write}
use Rattle.vlapic_theorems.specs.Targets.{Destination, destination_of, is_reached}

-- ---- the command

-- the words that a write of `val` at 0x300 puts into the ICR: bit 12, the delivery status, is cleared; the high word is the value's in x2APIC mode, and stays in xAPIC mode
abbrev pub low_word : ℕ → ℕ
low_word val = without (val % 0x100000000) 12

abbrev pub high_word : VirtualApicRegs → ℕ → ℕ
high_word s val = cond s.x2apic (val / 0x100000000) s.icr_hi

-- where it goes
abbrev pub destination : VirtualApicRegs → ℕ → Destination
destination s val = destination_of s.x2apic (low_word val) (high_word s val)

-- the ICR is written by 8 bytes in x2APIC mode, and never by 8 bytes in xAPIC mode
abbrev pub is_icr_width : Bool → ℕ → Bool
is_icr_width x2apic width = cond x2apic (eqb width 8) (not (eqb width 8))

-- count and own id are in range, and the mode has this width: the words are stored
abbrev pub is_storing : VirtualApicRegs → ℕ → ℕ → Bool
is_storing s width num = not (out_of_range num s.vapic_id) && is_icr_width s.x2apic width

-- the kinds that are sent: 0 fixed, with a vector from 16 up; 4 NMI, 5 INIT and 6 startup, but not to self or to all including self.
-- D-73: not 1, lowest priority, nor 2, SMI; 3 and 7 are reserved
abbrev pub is_to_self_too : ℕ → Bool
is_to_self_too lo = eqb (shorthand lo) 1 || eqb (shorthand lo) 2

abbrev pub is_sent : ℕ → Bool
is_sent lo =
    (eqb (delivery_mode lo) 0 && leb 16 (vector_field lo))
    || ((leb 4 (delivery_mode lo) && leb (delivery_mode lo) 6) && not (is_to_self_too lo))

-- a write sends an IPI of `kind` with `vector` to the vCPUs in `mask`
abbrev pub Sends : (s : VirtualApicRegs) (offset val width num active kind vector mask : ℕ) → Type 0
Sends s offset val width num active kind vector mask = (handle_write s offset val width num active).reply ≡ Three kind vector mask

-- what a command sends: its kind and its vector, if the kind is sent and somebody is reached, to exactly those who are
pub record Goes (s : VirtualApicRegs) (val width num active kind vector mask : ℕ) : Type 0 where
  pub storing : is_storing s width num ≡ true
  pub sent : is_sent (low_word val) ≡ true
  pub kind_is : kind ≡ delivery_mode (low_word val)
  pub vector_is : vector ≡ vector_field (low_word val)
  pub each : (i : ℕ) → bit mask i ≡ is_reached s num active (destination s val) i
  pub some : (i : ℕ) × (is_reached s num active (destination s val) i ≡ true)

-- a write of the ICR sends an IPI when, and only then
abbrev pub Commands : Type 0
Commands =
    (s : VirtualApicRegs) (val width num active kind vector mask : ℕ)
    → Sends s 0x300 val width num active kind vector mask ↔ Goes s val width num active kind vector mask

-- ---- the self-IPI register

-- a fixed IPI with the value's low byte, from 16 up, to this vCPU alone, whatever the count
pub record GoesToSelf (s : VirtualApicRegs) (val num kind vector mask : ℕ) : Type 0 where
  pub inside : out_of_range num s.vapic_id ≡ false
  pub mode : s.x2apic ≡ true
  pub legal : 16 ≤ val % 256
  pub kind_is : kind ≡ 0
  pub vector_is : vector ≡ val % 256
  pub each : (i : ℕ) → bit mask i ≡ eqb i s.vapic_id

abbrev pub SelfIpis : Type 0
SelfIpis =
    (s : VirtualApicRegs) (val width num active kind vector mask : ℕ)
    → Sends s 0x3f0 val width num active kind vector mask ↔ GoesToSelf s val num kind vector mask

-- no other register sends one
abbrev pub Others : Type 0
Others =
    (s : VirtualApicRegs) (offset val width num active kind vector mask : ℕ)
    → Sends s offset val width num active kind vector mask
    → (offset ≡ 0x300) ⊎ (offset ≡ 0x3f0)

-- and a write that is done and sends none answers nothing
abbrev pub Silent : Type 0
Silent =
    (s : VirtualApicRegs) (offset val width num active : ℕ)
    → reply_number (handle_write s offset val width num active).reply ≡ 0
    → ((kind vector mask : ℕ) → Sends s offset val width num active kind vector mask → ⊥)
    → (handle_write s offset val width num active).reply ≡ Nothing
