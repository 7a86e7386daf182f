-- The local APIC's registers: how they start, and the states that differ from a given one in a few of them.
-- Intel SDM volume 3, the APIC chapter: local APIC state after power-up or reset; APIC state in x2APIC mode.
use Rattle.std.specs.Prelude.{ℕ, Bool, cond, List, eqb, replicate}
use Rattle.vlapic_regs.specs.declared.register.Errors.{Errors}
use Rattle.vlapic.specs.declared.VirtualApicRegs.{VirtualApicRegs}

-- after a reset every word is 0, but for DFR (all ones), SVR (0xff) and the LVT entries (masked)
abbrev pub start : Bool → ℕ → VirtualApicRegs
start x2apic id = record {
  x2apic = x2apic;
  vapic_id = id;
  tpr = 0;
  ppr = 0;
  ldr = 0;  -- D-67: in x2APIC mode LDR is derived from the id
  dfr = 0xffffffff;
  svr = 0xff;
  esr = 0;
  esr_pending = 0;
  icr_lo = 0;
  icr_hi = 0;
  lvt_cmci = 0x10000;
  lvt_timer = 0x10000;
  lvt_thermal = 0x10000;
  lvt_pmi = 0x10000;
  lvt_lint0 = 0x10000;
  lvt_lint1 = 0x10000;
  lvt_error = 0x10000;
  isr = replicate 8 0;
  tmr = replicate 8 0;
  irr = replicate 8 0;
}

-- ---- setters

-- s with word x in the k-th of its registers of one word (the id is 1, and 0 none), and with another ISR and TMR
abbrev on : ℕ → ℕ → ℕ → ℕ → ℕ
on k own new old = cond (eqb k own) new old

abbrev pub update : VirtualApicRegs → ℕ → ℕ → List ℕ → List ℕ → VirtualApicRegs
update s k x isr tmr = record {
  x2apic = s.x2apic;
  vapic_id = on k 1 x s.vapic_id;
  tpr = on k 2 x s.tpr;
  ppr = on k 3 x s.ppr;
  ldr = on k 4 x s.ldr;
  dfr = on k 5 x s.dfr;
  svr = on k 6 x s.svr;
  esr = on k 7 x s.esr;
  esr_pending = on k 8 x s.esr_pending;
  icr_lo = on k 9 x s.icr_lo;
  icr_hi = on k 10 x s.icr_hi;
  lvt_cmci = on k 11 x s.lvt_cmci;
  lvt_timer = on k 12 x s.lvt_timer;
  lvt_thermal = on k 13 x s.lvt_thermal;
  lvt_pmi = on k 14 x s.lvt_pmi;
  lvt_lint0 = on k 15 x s.lvt_lint0;
  lvt_lint1 = on k 16 x s.lvt_lint1;
  lvt_error = on k 17 x s.lvt_error;
  isr = isr;
  tmr = tmr;
  irr = s.irr;
}

abbrev pub with_isr : VirtualApicRegs → List ℕ → VirtualApicRegs
with_isr s isr = update s 0 0 isr s.tmr

abbrev pub with_tmr : VirtualApicRegs → List ℕ → VirtualApicRegs
with_tmr s tmr = update s 0 0 s.isr tmr

abbrev pub with_word : VirtualApicRegs → ℕ → ℕ → VirtualApicRegs
with_word s k x = update s k x s.isr s.tmr

abbrev pub with_tpr : VirtualApicRegs → ℕ → VirtualApicRegs
with_tpr s x = with_word s 2 x

abbrev pub with_ppr : VirtualApicRegs → ℕ → VirtualApicRegs
with_ppr s x = with_word s 3 x

abbrev pub with_ldr : VirtualApicRegs → ℕ → VirtualApicRegs
with_ldr s x = with_word s 4 x

abbrev pub with_dfr : VirtualApicRegs → ℕ → VirtualApicRegs
with_dfr s x = with_word s 5 x

abbrev pub with_svr : VirtualApicRegs → ℕ → VirtualApicRegs
with_svr s x = with_word s 6 x

-- ESR, and the errors since it was last written
abbrev pub with_errors : VirtualApicRegs → Errors → VirtualApicRegs
with_errors s e = with_word (with_word s 7 e.esr) 8 e.esr_pending

abbrev pub with_pending : VirtualApicRegs → ℕ → VirtualApicRegs
with_pending s x = with_word s 8 x

abbrev pub with_icr_lo : VirtualApicRegs → ℕ → VirtualApicRegs
with_icr_lo s x = with_word s 9 x

abbrev pub with_icr_hi : VirtualApicRegs → ℕ → VirtualApicRegs
with_icr_hi s x = with_word s 10 x

-- both words of an interrupt command
abbrev pub with_command : VirtualApicRegs → ℕ → ℕ → VirtualApicRegs
with_command s lo hi = with_icr_hi (with_icr_lo s lo) hi

abbrev pub with_lvt_cmci : VirtualApicRegs → ℕ → VirtualApicRegs
with_lvt_cmci s x = with_word s 11 x

abbrev pub with_lvt_timer : VirtualApicRegs → ℕ → VirtualApicRegs
with_lvt_timer s x = with_word s 12 x

abbrev pub with_lvt_thermal : VirtualApicRegs → ℕ → VirtualApicRegs
with_lvt_thermal s x = with_word s 13 x

abbrev pub with_lvt_pmi : VirtualApicRegs → ℕ → VirtualApicRegs
with_lvt_pmi s x = with_word s 14 x

abbrev pub with_lvt_lint0 : VirtualApicRegs → ℕ → VirtualApicRegs
with_lvt_lint0 s x = with_word s 15 x

abbrev pub with_lvt_lint1 : VirtualApicRegs → ℕ → VirtualApicRegs
with_lvt_lint1 s x = with_word s 16 x

abbrev pub with_lvt_error : VirtualApicRegs → ℕ → VirtualApicRegs
with_lvt_error s x = with_word s 17 x
