-- The registers by their offsets: which words a read shows, and what a write leaves of the value in the registers that only store it.
-- Intel SDM volume 3, the APIC chapter: local APIC register address map; local APIC ID; TPR; LDR; DFR; SVR; ESR (error handling); local vector table; ICR.
use Rattle.std.specs.Prelude.{ℕ, ◌+◌, ◌/◌, ◌%◌, Bool, cond, ◌&&◌, List, [], ◌∷◌, eqb, leb, ltb, get_or}
use Rattle.types.specs.declared.Refusal.TheVariants.{InvalidRegister}
use Rattle.types.specs.declared.Reply.{Reply}
use Rattle.types.specs.declared.Reply.TheVariants.{Refused, One}
use Rattle.types.specs.Reply.{Outcome}
use Rattle.vlapic_regs.specs.Lvt.{lvt_timer, lvt_error, lvt_pin, lvt_monitor}
use Rattle.vlapic_regs.specs.Register.{id_word, low_byte, top_byte, model_bits, errors_shown}
use Rattle.vlapic.specs.declared.VirtualApicRegs.{VirtualApicRegs}
use Rattle.vlapic.specs.Regs.{with_tpr, with_ldr, with_dfr, with_svr, with_errors, with_icr_hi, with_lvt_cmci, with_lvt_timer, with_lvt_thermal, with_lvt_pmi, with_lvt_lint0, with_lvt_lint1, with_lvt_error}
use Rattle.vlapic.specs.Answers.{done, refused}

-- ---- reading

-- the registers of one word that can be read, by offset (D-68: the same ones in x2APIC mode; D-81: not version, IRR and timer; D-87: nor APR and RRD; D-90: the ICR as two words)
abbrev pub readable : VirtualApicRegs → List (ℕ × ℕ)
readable s =
    (0x20, id_word s.x2apic s.vapic_id)
    ∷ (0x80, s.tpr)
    ∷ (0xa0, s.ppr)
    ∷ (0xd0, s.ldr)
    ∷ (0xe0, s.dfr)
    ∷ (0xf0, s.svr)
    ∷ (0x280, s.esr)
    ∷ (0x2f0, s.lvt_cmci)
    ∷ (0x300, s.icr_lo)
    ∷ (0x310, s.icr_hi)
    ∷ (0x320, s.lvt_timer)
    ∷ (0x330, s.lvt_thermal)
    ∷ (0x340, s.lvt_pmi)
    ∷ (0x350, s.lvt_lint0)
    ∷ (0x360, s.lvt_lint1)
    ∷ (0x370, s.lvt_error)
    ∷ []

abbrev pub word_at : List (ℕ × ℕ) → ℕ → Reply
word_at [] offset = Refused InvalidRegister  -- D-76: no error is noted
word_at (r ∷ rs) offset = cond (eqb offset r.0) (One r.1) (word_at rs offset)

-- eight words from `base` on, 0x10 apart: whether `offset` is one of them, and the word there
abbrev pub eight_from : ℕ → ℕ → Bool
eight_from base offset = eqb (offset % 16) 0 && (leb base offset && ltb offset (base + 0x80))

abbrev pub eight_at : List ℕ → ℕ → ℕ
eight_at words offset = get_or words (offset / 16 % 8) 0

unfoldable pub handle_read : VirtualApicRegs → ℕ → Reply
handle_read s offset =
    cond (eight_from 0x100 offset) (One (eight_at s.isr offset))
    (cond (eight_from 0x180 offset) (One (eight_at s.tmr offset))
    (word_at (readable s) offset))

-- ---- writing

-- a register that xAPIC mode alone has
abbrev pub in_xapic : VirtualApicRegs → VirtualApicRegs → Outcome VirtualApicRegs
in_xapic s next = cond s.x2apic (refused s InvalidRegister) (done next)

-- the registers that store what is written, by offset, and what a write of v leaves: the entries of the local vector table, and before them the others (D-88: not the timer's count and divider)
abbrev pub lvt_stored : VirtualApicRegs → ℕ → List (ℕ × Outcome VirtualApicRegs)
lvt_stored s v =
    (0x2f0, done (with_lvt_cmci s (lvt_monitor v)))
    ∷ (0x320, done (with_lvt_timer s (lvt_timer v)))
    ∷ (0x330, done (with_lvt_thermal s (lvt_monitor v)))
    ∷ (0x340, done (with_lvt_pmi s (lvt_monitor v)))
    ∷ (0x350, done (with_lvt_lint0 s (lvt_pin v)))
    ∷ (0x360, done (with_lvt_lint1 s (lvt_pin v)))
    ∷ (0x370, done (with_lvt_error s (lvt_error v)))
    ∷ []

unfoldable pub stored : VirtualApicRegs → ℕ → List (ℕ × Outcome VirtualApicRegs)
stored s v =
    (0x20, done s)  -- ID takes the write and keeps its word; D-86: in x2APIC mode too
    ∷ (0x80, done (with_tpr s (low_byte v)))  -- D-62: PPR doesn't follow TPR
    ∷ (0xd0, in_xapic s (with_ldr s (top_byte v)))
    ∷ (0xe0, in_xapic s (with_dfr s (model_bits v)))
    ∷ (0xf0, done (with_svr s v))  -- D-69: a software disable masks no LVT entry; D-74: reserved bits are kept
    ∷ (0x280, done (with_errors s (errors_shown s.esr_pending)))  -- D-91: any value in x2APIC mode too
    ∷ (0x310, in_xapic s (with_icr_hi s (top_byte v)))
    ∷ lvt_stored s v

-- refused where no such register can be written
abbrev pub outcome_at : VirtualApicRegs → List (ℕ × Outcome VirtualApicRegs) → ℕ → Outcome VirtualApicRegs
outcome_at s [] offset = refused s InvalidRegister  -- D-76
outcome_at s (r ∷ rs) offset = cond (eqb offset r.0) r.1 (outcome_at s rs offset)

unfoldable pub write_stored : VirtualApicRegs → ℕ → ℕ → Outcome VirtualApicRegs
write_stored s offset v = outcome_at s (stored s v) offset
