-- The search finds the highest vector in service, and an EOI ends it. Assumes nothing.
use mathlib.Core.Path.{◌≡◌, refl, sym, ap, ◌∙◌, subst}
use mathlib.Core.Bool.{Bool, true, false, not, cond, ◌&&◌, true≢false}
use mathlib.Core.List.{List}
use Prim.Native.Nat.{ℕ, zero, suc, ◌/◌, ◌%◌, ◌≤◌, ◌<◌}
use native.Mathlib.Omega.{arith}
use lib.Dec.{eqb, leb, ltb}
use lib.ListN.{get_or, length, get_or-eq_default}
use lib.Seq.{get_or-set_same, get_or-set_other}
use borrow.Author.Tests.{le-leb, leb-true, eqb-true, eqb-false, ne_eqb, ltb-true, ltb-false}
use Rattle.utils.specs.Set.{bit, last, without}
use Rattle.utils.proofs.Bools.{and_true, and-false, and_one}
use Rattle.utils.proofs.Search.{last_after, last_is, last_none, last_lt}
use Rattle.utils.proofs.Laws.{bit_none, bit_without_same, bit_without_other}
use Rattle.vlapic.specs.declared.VirtualApicRegs.{VirtualApicRegs}
use Rattle.vlapic_regs.specs.Vectors.{in_words, without_vector, highest_from}
use Rattle.vlapic.specs.Answers.{done}
use Rattle.vlapic.specs.Regs.{with_isr, with_ppr}
use Rattle.vlapic.specs.Priority.{find_isrv, update_ppr, handle_eoi, end_of}
use Rattle.vlapic_theorems.specs.Service.{Highest, Idle, SearchFinds, Searches, Eois}

-- ---- the search

abbrev searched : ℕ → List ℕ → ℕ → Bool
searched lowest words v = leb lowest v && in_words words v

last_nonzero : (w : ℕ) (p : ℕ → Bool) → (last w p ≡ 0 → ⊥) → p (last w p) ≡ true
last_nonzero zero p h = absurd (h refl)
last_nonzero (suc w) p h = go (λ q. last_nonzero w p q) (p w) refl h
  where
    go : ((last w p ≡ 0 → ⊥) → p (last w p) ≡ true) → (b : Bool) → p w ≡ b → (cond b w (last w p) ≡ 0 → ⊥) → p (cond b w (last w p)) ≡ true
    go rest true e q = e
    go rest false e q = rest q

module _ (lowest : ℕ) (words : List ℕ) where
  is_last : highest_from lowest words ≡ last 256 (searched lowest words)
  unfolding highest_from
  is_last = refl

  -- what is not found above the last is not in the words there
  unseen : (u : ℕ) → last 256 (searched lowest words) < u → lowest ≤ u → u < 256 → in_words words u ≡ false
  unseen u l h b = rw (le-leb lowest u h) at (last_after 256 (searched lowest words) u l b)

  low_or : Idle lowest words → (j : ℕ) → j < 256 → (b : Bool) → leb lowest j ≡ b → (b && in_words words j) ≡ false
  low_or i j l true e = i j (leb-true lowest j e) l
  low_or i j l false e = refl

  at_last : (last 256 (searched lowest words) ≡ 0 → ⊥) → Highest lowest words (last 256 (searched lowest words))
  at_last n =
      let v = last 256 (searched lowest words) in
      let t = and_true (leb lowest v) (in_words words v) (last_nonzero 256 (searched lowest words) n) in
      let f : lowest ≤ v = leb-true lowest v t.0 in
      record { from = f; vector = last_lt 256 (searched lowest words) (omega arith); served = t.1; above = λ u l b. unseen u l (omega arith) b }

pub searches : Searches
searches lowest h words = record {
  sound = λ n. rw (is_last lowest words) (at_last lowest words (λ e. n (is_last lowest words ∙ e)));
  none = λ e u l b. unseen lowest words u (omega (arith, sym (is_last lowest words) ∙ e)) l b;
  complete = λ v q.
      is_last lowest words
      ∙ last_is 256 (searched lowest words) v q.vector (rw (le-leb lowest v q.from) q.served) (λ j l b. rw (q.above j l b) (and-false (leb lowest j)));
  complete_none = λ i. is_last lowest words ∙ last_none 256 (searched lowest words) (λ j b. low_or lowest words i j b (leb lowest j) refl);
}

-- ---- the EOI

-- the words without v: v is not in them, every other vector is as it was
gone : (words : List ℕ) (v : ℕ) → in_words words v ≡ true → in_words (without_vector words v) v ≡ false
gone words v h = go (ltb (v / 32) (length words)) refl
  where
    go : (b : Bool) → ltb (v / 32) (length words) ≡ b → in_words (without_vector words v) v ≡ false
    go true e = rw (get_or-set_same words (v / 32) (without (get_or words (v / 32) 0) (v % 32)) 0 (ltb-true (v / 32) (length words) e)) (bit_without_same (get_or words (v / 32) 0) (v % 32))
    go false e =
        absurd
        (true≢false
        (sym h
        ∙ ap (λ (w : ℕ). bit w (v % 32)) (get_or-eq_default words 0 (ltb-false (v / 32) (length words) e))
        ∙ bit_none (v % 32)))

others : (words : List ℕ) (v u : ℕ) → in_words words v ≡ true → (u ≡ v → ⊥) → in_words (without_vector words v) u ≡ in_words words u
others words v u h n = go (eqb (u / 32) (v / 32)) refl (ltb (v / 32) (length words)) refl
  where
    go : (b : Bool) → eqb (u / 32) (v / 32) ≡ b → (l : Bool) → ltb (v / 32) (length words) ≡ l → in_words (without_vector words v) u ≡ in_words words u
    go false e l q = rw (get_or-set_other words (v / 32) (u / 32) (without (get_or words (v / 32) 0) (v % 32)) 0 (eqb-false (u / 32) (v / 32) e))
    go true e true q =
        let i : u / 32 ≡ v / 32 = eqb-true (u / 32) (v / 32) e in
        rw (i, get_or-set_same words (v / 32) (without (get_or words (v / 32) 0) (v % 32)) 0 (ltb-true (v / 32) (length words) q))
        (bit_without_other (get_or words (v / 32) 0) (v % 32) (u % 32) (λ r. n (omega arith)))
    go true e false q =
        absurd
        (true≢false
        (sym h
        ∙ ap (λ (w : ℕ). bit w (v % 32)) (get_or-eq_default words 0 (ltb-false (v / 32) (length words) q))
        ∙ bit_none (v % 32)))

ended_isr : (s : VirtualApicRegs) (v : ℕ) → find_isrv s ≡ v → (v ≡ 0 → ⊥) → (handle_eoi s).state.isr ≡ without_vector s.isr v
unfolding handle_eoi update_ppr
ended_isr s v e n = rw (e, ne_eqb v 0 n)

in_service_kept : (s : VirtualApicRegs) → SearchFinds 32 s.isr
in_service_kept s = searches 32 (omega arith) s.isr

pub eois : Eois
unfolding handle_eoi update_ppr
eois s = record {
  ended = λ v h u b. one v h u (eqb u v) refl;
  rest = rest (eqb (find_isrv s) 0);
  nothing = λ i. rw ((in_service_kept s).complete_none i);
}
  where
    isr : (v : ℕ) → Highest 32 s.isr v → (handle_eoi s).state.isr ≡ without_vector s.isr v
    isr v h = ended_isr s v ((in_service_kept s).complete v h) (λ z. omega (arith, h.from))

    one : (v : ℕ) → Highest 32 s.isr v → (u : ℕ) → (b : Bool) → eqb u v ≡ b → in_words (handle_eoi s).state.isr u ≡ (in_words s.isr u && not b)
    one v h u true e =
        ap (λ (words : List ℕ). in_words words u) (isr v h)
        ∙ subst (λ (x : ℕ). in_words (without_vector s.isr v) x ≡ false) (sym (eqb-true u v e)) (gone s.isr v h.served)
        ∙ sym (and-false (in_words s.isr u))
    one v h u false e =
        ap (λ (words : List ℕ). in_words words u) (isr v h) ∙ others s.isr v u h.served (eqb-false u v e) ∙ sym (and_one (in_words s.isr u))

    rest : (b : Bool) → with_ppr (with_isr (cond b (done s) (end_of s (find_isrv s))).state s.isr) s.ppr ≡ s
    rest true = refl
    rest false = refl
