-- The local APIC with its request register (document 02, T-07): how a request comes, is accepted and ends.
-- Intel SDM volume 3, the APIC chapter: interrupt, task and processor priority (TPR, PPR); interrupt acceptance for fixed interrupts (IRR, ISR, TMR); signaling
-- interrupt servicing completion (EOI); error handling (ESR: receive illegal vector). Vectors 16 to 255 count, so that D-61 to D-64 and D-85 aren't departures here.
use Rattle.std.specs.Prelude.{ℕ, Bool, cond, List, eqb, ltb, Option, Some, None}
use Rattle.utils.specs.Set.{with}
use Rattle.utils.specs.Vectors.{class_of}
use Rattle.types.specs.declared.Vector.{Vector}
use Rattle.vlapic_regs.specs.Vectors.{with_vector, without_vector, highest_from}
use Rattle.vlapic_regs.specs.Register.{low_byte, priority}
use Rattle.vlapic.specs.declared.VirtualApicRegs.{VirtualApicRegs}
use Rattle.vlapic.specs.Regs.{with_isr, with_tmr, with_tpr, with_ppr, with_pending}
use Rattle.vlapic.specs.Priority.{broadcasts}

-- a local APIC after a call, and the call's answer
pub record After (A : Type 0) : Type 0 where
  pub state : VirtualApicRegs
  pub answer : A

abbrev pub after : {A : Type 0} → VirtualApicRegs → A → After A
after s a = record { state = s; answer = a }

-- s with another IRR
abbrev pub with_irr : VirtualApicRegs → List ℕ → VirtualApicRegs
with_irr s irr = record {
  x2apic = s.x2apic;
  vapic_id = s.vapic_id;
  tpr = s.tpr;
  ppr = s.ppr;
  ldr = s.ldr;
  dfr = s.dfr;
  svr = s.svr;
  esr = s.esr;
  esr_pending = s.esr_pending;
  icr_lo = s.icr_lo;
  icr_hi = s.icr_hi;
  lvt_cmci = s.lvt_cmci;
  lvt_timer = s.lvt_timer;
  lvt_thermal = s.lvt_thermal;
  lvt_pmi = s.lvt_pmi;
  lvt_lint0 = s.lvt_lint0;
  lvt_lint1 = s.lvt_lint1;
  lvt_error = s.lvt_error;
  isr = s.isr;
  tmr = s.tmr;
  irr = irr;
}

-- the highest legal vector of a register, or 0
abbrev pub highest : List ℕ → ℕ
highest words = highest_from 16 words

-- PPR follows TPR and the highest vector in service
unfoldable pub ranked : VirtualApicRegs → VirtualApicRegs
ranked s = with_ppr s (priority s.tpr (highest s.isr))

-- a request of v (D-80: a software disable, SVR bit 8, stops none): its IRR bit is set, and its TMR bit too if it is level-triggered, else that is clear, whatever stood there
unfoldable pub request : VirtualApicRegs → Vector → Bool → VirtualApicRegs
request s v level =
    with_tmr
    (with_irr s (with_vector s.irr v.0))
    (cond level (with_vector s.tmr v.0) (without_vector s.tmr v.0))

-- a message asks for v: an illegal vector is dropped, and noted among the pending errors (bit 6, receive illegal vector; D-70: no interrupt
-- from the error LVT)
abbrev pub received_illegal : VirtualApicRegs → VirtualApicRegs
received_illegal s = with_pending s (with s.esr_pending 6)

unfoldable pub receive : VirtualApicRegs → Vector → Bool → VirtualApicRegs
receive s v level = cond (ltb v.0 16) (received_illegal s) (request s v level)

-- the highest request can be accepted: its class is above PPR's. With none it is 0, whose class is above no other
abbrev pub is_acceptable : VirtualApicRegs → Bool
is_acceptable s = ltb (class_of s.ppr) (class_of (highest s.irr))

-- acceptance of v: it goes from IRR to ISR, and PPR follows. TMR stays
abbrev pub taken : VirtualApicRegs → ℕ → VirtualApicRegs
taken s v = ranked (with_isr (with_irr s (without_vector s.irr v)) (with_vector s.isr v))

unfoldable pub accept : VirtualApicRegs → After (Option Vector)
accept s =
    cond (is_acceptable s)
    (after (taken s (highest s.irr)) (Some (record { 0 = highest s.irr })))
    (after s None)

-- an EOI ends the highest vector in service, and PPR follows; the vector is broadcast if its TMR bit is set. With none it does nothing
abbrev pub ended : VirtualApicRegs → ℕ → VirtualApicRegs
ended s v = ranked (with_isr s (without_vector s.isr v))

abbrev pub ending : VirtualApicRegs → ℕ → After (Option Vector)
ending s v = after (ended s v) (cond (broadcasts s v) (Some (record { 0 = v })) None)

unfoldable pub end_highest : VirtualApicRegs → After (Option Vector)
end_highest s = cond (eqb (highest s.isr) 0) (after s None) (ending s (highest s.isr))

-- TPR is written, and PPR follows
unfoldable pub write_tpr : VirtualApicRegs → ℕ → VirtualApicRegs
write_tpr s x = ranked (with_tpr s (low_byte x))
