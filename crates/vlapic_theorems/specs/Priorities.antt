-- Processor priority, and an interrupt from its acceptance to its EOI.
-- Intel SDM volume 3, the APIC chapter: task and processor priorities (TPR, PPR); interrupt acceptance for fixed interrupts (ISR, TMR); signaling interrupt
-- servicing completion (EOI; SVR bit 12, suppress EOI broadcasts).
use Rattle.std.specs.Prelude.{ℕ, ◌*◌, ◌/◌, ◌≤◌, ◌<◌, max, Bool, false, not, cond, ◌&&◌, ◌≡◌, eqb, length}
use Rattle.utils.specs.Set.{bit}
use Rattle.utils.specs.Vectors.{class_of}
use Rattle.types.specs.declared.Vector.{Vector}
use Rattle.types.specs.declared.Reply.TheVariants.{Nothing, One}
use Rattle.types.specs.Reply.{Outcome}
use Rattle.vlapic.specs.declared.VirtualApicRegs.{VirtualApicRegs}
use Rattle.vlapic_regs.specs.Vectors.{in_words}
use Rattle.vlapic.specs.Priority.{accept_interrupt, handle_eoi}
use Rattle.vlapic_theorems.specs.Service.{Highest, Idle}

-- ---- PPR

-- PPR is worked out of TPR and the highest vector in service, from 32 up (D-61): its class is the larger of the two; it is TPR where TPR's class is at least the
-- vector's, else the vector with its low four bits cleared; with none in service it is TPR. (At equal classes the SDM leaves the subclass open: TPR's or 0.)
pub record Prioritized (s : VirtualApicRegs) : Type 0 where
  pub class : (v : ℕ) → Highest 32 s.isr v → class_of s.ppr ≡ max (class_of s.tpr) (class_of v)
  pub by_tpr : (v : ℕ) → Highest 32 s.isr v → class_of v ≤ class_of s.tpr → s.ppr ≡ s.tpr
  pub by_vector : (v : ℕ) → Highest 32 s.isr v → class_of s.tpr < class_of v → s.ppr ≡ v / 16 * 16
  pub idle : Idle 32 s.isr → s.ppr ≡ s.tpr

-- after every acceptance, and after every EOI that ends a vector
abbrev pub Acceptances : Type 0
Acceptances = (s : VirtualApicRegs) (vector : Vector) (level : Bool) → Prioritized (accept_interrupt s vector level).state

abbrev pub Completions : Type 0
Completions = (s : VirtualApicRegs) (v : ℕ) → Highest 32 s.isr v → Prioritized (handle_eoi s).state

-- ---- acceptance, then EOI

-- a vector from 32 up that is accepted over lower ones, and what an EOI leaves at once after it: v is ended and no other; the set in service is the one before,
-- and so is PPR, where it had been worked out; v's trigger bit tells how it was accepted; and v is broadcast exactly if it is level-triggered and SVR bit 12 is clear
pub record Ends (s : VirtualApicRegs) (v : ℕ) (level : Bool) (after : Outcome VirtualApicRegs) : Type 0 where
  pub ended : (u : ℕ) → u < 256 → in_words after.state.isr u ≡ (in_words s.isr u && not (eqb u v))
  pub in_service_kept : in_words s.isr v ≡ false → after.state.isr ≡ s.isr
  pub priority : in_words s.isr v ≡ false → Prioritized s → after.state.ppr ≡ s.ppr
  pub triggers : (u : ℕ) → u < 256 → in_words after.state.tmr u ≡ cond (eqb u v) level (in_words s.tmr u)
  pub broadcast : after.reply ≡ cond (level && not (bit s.svr 12)) (One v) Nothing

abbrev pub AcceptThenEoi : Type 0
AcceptThenEoi =
    (s : VirtualApicRegs) (vector : Vector) (level : Bool)
    → length s.isr ≡ 8
    → length s.tmr ≡ 8
    → 32 ≤ vector.0
    → vector.0 < 256
    → ((u : ℕ) → vector.0 < u → u < 256 → in_words s.isr u ≡ false)
    → Highest 32 (accept_interrupt s vector level).state.isr vector.0
    × Ends s vector.0 level (handle_eoi (accept_interrupt s vector level).state)
