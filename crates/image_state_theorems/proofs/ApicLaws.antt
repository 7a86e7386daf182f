-- The same of the local APIC. Assumes nothing.
use mathlib.Core.Path.{◌≡◌, refl, sym, ◌∙◌, ap}
use mathlib.Core.Bool.{true, false, cond}
use mathlib.Core.List.{List}
use Prim.Native.Nat.{ℕ, ◌*◌, ◌/◌, ◌%◌, ◌^◌, ◌<◌}
use native.Mathlib.Omega.{arith}
use lib.Dec.{eqb}
use borrow.Author.Tests.{eqb-true, eq-eqb}
use Rattle.utils.specs.Cases.{and_yes}
use Rattle.utils.specs.Set.{bit}
use Rattle.utils.specs.Vectors.{index_of, bitpos_of}
use Rattle.utils.proofs.Bools.{either, and_true}
use Rattle.utils.proofs.Laws.{same_bits, bit_cut, bit_none}
use Rattle.vlapic_regs.specs.Vectors.{in_words}
use Rattle.vlapic_regs.specs.Lvt.{lvt_timer, lvt_error, lvt_pin, lvt_monitor}
use Rattle.vlapic_regs.specs.Register.{low_byte, top_byte, model_bits, priority}
use Rattle.vlapic_icr.specs.Fields.{idle}
use Rattle.vlapic_words.specs.Words.{word, eight, view}
use Rattle.vlapic_requests.specs.Requests.{highest, ranked, write_tpr}
use Rattle.image_rules.specs.Rules.{all, id_kept, errors, legal, kept_of, word_keeps, ppr_keeps, apic_keeps}
use Rattle.image_state_theorems.specs.Rules.{ApicRules}
use Rattle.image_state_theorems.proofs.Laws.{all_true_lem, true_all}

-- ---- no vector below 16

low_none : (x v : ℕ) → x / 65536 * 65536 ≡ x → v < 16 → bit x v ≡ false
low_none x v h l =
    let e : x % 2 ^ 16 ≡ 0 = omega arith in
    sym (bit_cut x 16 v l) ∙ ap (λ (n : ℕ). bit n v) e ∙ bit_none v

none_low : (x : ℕ) → ((v : ℕ) → v < 16 → bit x v ≡ false) → x / 65536 * 65536 ≡ x
none_low x h =
    let e : x % 2 ^ 16 ≡ 0 = same_bits 16 (x % 2 ^ 16) 0 (omega arith) (omega arith) (λ v l. bit_cut x 16 v l ∙ h v l ∙ sym (bit_none v)) in
    omega arith

-- a vector below 16 is in the first of the eight words
first_word : (l : List ℕ) (k v : ℕ) → v < 16 → in_words (eight l k) v ≡ bit (word l k) v
first_word l k v h =
    let i : index_of v ≡ 0 = omega arith in
    let j : bitpos_of v ≡ v = omega arith in
    rw (i, j)

module _ (l : List ℕ) where
  module _ (h : apic_keeps l ≡ true) where
    whole : (all 42 (word_keeps l) ≡ true) × (ppr_keeps l ≡ true)
    unfolding apic_keeps
    whole = and_true (all 42 (word_keeps l)) (ppr_keeps l) h

    held : (k : ℕ) → k < 42 → kept_of (view l).x2apic k (word l k) ≡ word l k
    held k c = eqb-true _ _ (all_true_lem (word_keeps l) 42 whole.0 k c)

    pub apic_rules : ApicRules (view l)
    unfolding view kept_of write_tpr ranked
    apic_rules = record {
      local = record {
        ppr = sym (eqb-true (write_tpr (view l) (word l 2)).ppr (word l 3) whole.1) ∙ ap (λ (t : ℕ). priority t (highest (eight l 18))) (held 2 (omega arith));
        legal = λ v c. (first_word l 34 v c ∙ low_none (word l 34) v (held 34 (omega arith)) c, first_word l 18 v c ∙ low_none (word l 18) v (held 18 (omega arith)) c);
        eight = (refl, refl, refl);
      };
      id = held 1 (omega arith);
      tpr = held 2 (omega arith);
      ldr = held 4 (omega arith);
      dfr = held 5 (omega arith);
      esr = held 7 (omega arith);
      pending = held 8 (omega arith);
      icr_lo = held 9 (omega arith);
      icr_hi = held 10 (omega arith);
      cmci = held 11 (omega arith);
      timer = held 12 (omega arith);
      thermal = held 13 (omega arith);
      pmi = held 14 (omega arith);
      lint0 = held 15 (omega arith);
      lint1 = held 16 (omega arith);
      error = held 17 (omega arith);
    }

  module _ (r : ApicRules (view l)) where
    -- one test of the seventeen: word k is word j, which holds what f keeps
    by : (k j : ℕ) (f : ℕ → ℕ) (c : ℕ) → f (word l j) ≡ word l j → c ≡ word l k → cond (eqb k j) (f (word l k)) c ≡ word l k
    by k j f c h e = either (λ (x : ℕ). x ≡ word l k) (eqb k j) (f (word l k)) c (λ q. let d : k ≡ j = eqb-true k j q in rw d h) (λ q. e)

    kept : (k : ℕ) → kept_of (view l).x2apic k (word l k) ≡ word l k
    unfolding view kept_of
    kept k =
        by k 1 (id_kept (view l).x2apic) _ r.id
        (by k 2 low_byte _ r.tpr
        (by k 4 top_byte _ r.ldr
        (by k 5 model_bits _ r.dfr
        (by k 7 errors _ r.esr
        (by k 8 errors _ r.pending
        (by k 9 idle _ r.icr_lo
        (by k 10 (λ x. cond (view l).x2apic x (top_byte x)) _ r.icr_hi
        (by k 11 lvt_monitor _ r.cmci
        (by k 12 lvt_timer _ r.timer
        (by k 13 lvt_monitor _ r.thermal
        (by k 14 lvt_monitor _ r.pmi
        (by k 15 lvt_pin _ r.lint0
        (by k 16 lvt_pin _ r.lint1
        (by k 17 lvt_error _ r.error
        (by k 18 legal _ (none_low (word l 18) (λ v c. sym (first_word l 18 v c) ∙ (r.local.legal v c).1))
        (by k 34 legal _ (none_low (word l 34) (λ v c. sym (first_word l 34 v c) ∙ (r.local.legal v c).0))
        refl))))))))))))))))

    pub apic_kept : apic_keeps l ≡ true
    unfolding apic_keeps view write_tpr ranked
    apic_kept =
        and_yes (all 42 (word_keeps l)) (ppr_keeps l) (true_all (word_keeps l) 42 (λ k c. eq-eqb _ _ (kept k)))
        (eq-eqb _ _ (ap (λ (t : ℕ). priority t (highest (eight l 18))) r.tpr ∙ sym r.local.ppr))
