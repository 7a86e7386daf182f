-- Processor priority, acceptance and the end of an interrupt.
-- Intel SDM volume 3, the APIC chapter: task and processor priorities (TPR, PPR); interrupt acceptance for fixed interrupts (ISR, TMR); signaling
-- interrupt servicing completion (EOI); and the chapter on APIC virtualization: PPR virtualization, EOI virtualization.
use Rattle.std.specs.Prelude.{ℕ, Bool, cond, eqb}
use Rattle.types.specs.declared.Vector.{Vector}
use Rattle.types.specs.declared.Reply.TheVariants.{Nothing, One}
use Rattle.types.specs.Reply.{Outcome}
use Rattle.vlapic_regs.specs.Vectors.{in_words, with_vector, without_vector, highest_from}
use Rattle.vlapic_regs.specs.Register.{priority, broadcast}
use Rattle.vlapic.specs.declared.VirtualApicRegs.{VirtualApicRegs}
use Rattle.vlapic.specs.Regs.{with_isr, with_tmr, with_ppr}
use Rattle.vlapic.specs.Answers.{done}

-- SVI, the highest vector in service, or 0
abbrev pub find_isrv : VirtualApicRegs → ℕ
find_isrv s = highest_from 32 s.isr  -- D-61: vectors 16 to 31 are in service too

unfoldable pub update_ppr : VirtualApicRegs → VirtualApicRegs
update_ppr s = with_ppr s (priority s.tpr (find_isrv s))

-- acceptance: the vector is in service, and its TMR bit is set if it is level-triggered, else clear; PPR follows. D-85: a vector below 16 notes no error
unfoldable pub accept_interrupt : VirtualApicRegs → Vector → Bool → Outcome VirtualApicRegs
accept_interrupt s vector level =
    done
    (update_ppr
    (with_tmr
    (with_isr s (with_vector s.isr vector.0))  -- D-63: IRR plays no part; D-64: nor do PPR and the vector's class; D-80: nor does a software disable
    (cond level (with_vector s.tmr vector.0) (without_vector s.tmr vector.0))))

abbrev pub broadcasts : VirtualApicRegs → ℕ → Bool
broadcasts s vector = broadcast (in_words s.tmr vector) s.svr

-- the end of `vector`: it leaves ISR, and PPR follows. TMR stays
abbrev pub end_of : VirtualApicRegs → ℕ → Outcome VirtualApicRegs
end_of s vector = record {
  state = update_ppr (with_isr s (without_vector s.isr vector));
  reply = cond (broadcasts s vector) (One vector) Nothing;
}

-- an EOI ends the highest vector in service; where there is none it does nothing
unfoldable pub handle_eoi : VirtualApicRegs → Outcome VirtualApicRegs
handle_eoi s = cond (eqb (find_isrv s) 0) (done s) (end_of s (find_isrv s))
