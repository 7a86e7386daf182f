-- The local APIC in 48 lent words: the registers that any words stand for.
-- The layout, with what each word is, stands in include/sillwander.h too.
use Rattle.std.specs.Prelude.{ℕ, zero, suc, ◌+◌, ◌%◌, ◌^◌, not, List, [], ◌∷◌, eqb, get_or}
use Rattle.vlapic.specs.declared.VirtualApicRegs.{VirtualApicRegs}

-- of a word bits 31..0 count
abbrev pub word : List ℕ → ℕ → ℕ
word l k = get_or l k 0 % 2 ^ 32

-- n words from k on, and a register of eight
abbrev pub words_from : List ℕ → ℕ → ℕ → List ℕ
words_from l k zero = []
words_from l k (suc n) = word l k ∷ words_from l (k + 1) n

abbrev pub eight : List ℕ → ℕ → List ℕ
eight l k = words_from l k 8

-- word 0 is a flag: x2APIC mode where it isn't 0. Words 42 to 47 are spare: they stand for nothing
unfoldable pub view : List ℕ → VirtualApicRegs
view l = record {
  x2apic = not (eqb (get_or l 0 0) 0);
  vapic_id = word l 1;
  tpr = word l 2;
  ppr = word l 3;
  ldr = word l 4;
  dfr = word l 5;
  svr = word l 6;
  esr = word l 7;
  esr_pending = word l 8;
  icr_lo = word l 9;
  icr_hi = word l 10;
  lvt_cmci = word l 11;
  lvt_timer = word l 12;
  lvt_thermal = word l 13;
  lvt_pmi = word l 14;
  lvt_lint0 = word l 15;
  lvt_lint1 = word l 16;
  lvt_error = word l 17;
  isr = eight l 18;
  tmr = eight l 26;
  irr = eight l 34;
}
