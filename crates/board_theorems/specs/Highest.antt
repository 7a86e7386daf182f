-- Which vector is accepted, and which is ended (document 02, T-07): on any board, whether it keeps the rules or not.
-- Intel SDM volume 3, the APIC chapter: interrupt, task and processor priority; interrupt acceptance for fixed interrupts; signaling interrupt servicing completion.
use Rattle.std.specs.declared.option.Option.TheVariants as option
use Rattle.std.specs.Prelude.{ℕ, ◌<◌, Bool, true, false, cond, ◌&&◌, ◌≡◌, leb, ltb}
use Rattle.utils.specs.Vectors.{class_of}
use Rattle.types.specs.declared.Vector.{Vector}
use Rattle.vlapic.specs.declared.VirtualApicRegs.{VirtualApicRegs}
use Rattle.vlapic.specs.Priority.{broadcasts}
use Rattle.vlapic_regs.specs.Vectors.{in_words}
use Rattle.vlapic_requests.specs.Requests.{taken, ended}
use Rattle.board.specs.Board.{Board, after, told_to, accept_interrupt, handle_eoi}

-- the request of u can be accepted: its class is above PPR's (which none below 16 has)
abbrev pub can_pass : VirtualApicRegs → ℕ → Bool
can_pass s u = in_words s.irr u && ltb (class_of s.ppr) (class_of u)

-- u is in service, and a legal vector
abbrev pub is_served : VirtualApicRegs → ℕ → Bool
is_served s u = leb 16 u && in_words s.isr u

-- v is the highest of the 256 vectors at which p holds; and p holds at none
pub record Highest (p : ℕ → Bool) (v : ℕ) : Type 0 where
  pub small : v < 256
  pub holds : p v ≡ true
  pub above : (u : ℕ) → v < u → u < 256 → p u ≡ false

abbrev pub None : (ℕ → Bool) → Type 0
None p = (u : ℕ) → u < 256 → p u ≡ false

-- acceptance takes the highest request that can be accepted; with none it leaves the board as it is
abbrev pub AcceptsHighest : Type 0
AcceptsHighest = (b : Board) (v : Vector) → Highest (can_pass b.apic) v.0 → accept_interrupt b ≡ after b.ioapic (taken b.apic v.0) (option.Some v)

abbrev pub AcceptsNone : Type 0
AcceptsNone = (b : Board) → None (can_pass b.apic) → accept_interrupt b ≡ after b.ioapic b.apic option.None

-- an EOI ends the highest vector in service, and tells it to the I/O APIC if it was level-triggered; with none it leaves the board as it is
abbrev pub EndsHighest : Type 0
EndsHighest =
    (b : Board) (v : Vector)
    → Highest (is_served b.apic) v.0
    → handle_eoi b ≡ told_to b.ioapic (ended b.apic v.0) (cond (broadcasts b.apic v.0) (option.Some v) option.None)

abbrev pub EndsNone : Type 0
EndsNone = (b : Board) → None (is_served b.apic) → handle_eoi b ≡ after b.ioapic b.apic option.None
