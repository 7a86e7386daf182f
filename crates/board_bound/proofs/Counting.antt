-- How many vectors, where one comes or goes; and where none is. Assumes nothing.
use Prim.Native.Nat.{ℕ, zero, suc, ◌+◌, ◌<◌}
use native.Mathlib.Omega.{arith}
use mathlib.Core.Bool.{Bool, true, false, not, ◌&&◌}
use mathlib.Core.Path.{◌≡◌, refl, sym, ap, ◌∙◌}
use borrow.Author.Tests.{eqb-true, eqb-false}
use lib.Dec.{eqb}
use Rattle.utils.proofs.Bools.{and-false, and_one}
use Rattle.planner.specs.Lines.{count}
use Rattle.planner_theorems.proofs.Counting.{count_same, but, count_but}

-- p holds where q does, and at x besides
pub count_one : (n : ℕ) (p q : ℕ → Bool) (x : ℕ) → x < n → p x ≡ true → q x ≡ false → ((u : ℕ) → u < n → (u ≡ x → ⊥) → p u ≡ q u) → count n p ≡ count n q + 1
unfolding but
count_one n p q x l h z o = count_but n p x l h ∙ ap (λ (m : ℕ). m + 1) (count_same n (but p x) q (λ u m. at u m (eqb u x) refl))
  where
    at : (u : ℕ) → u < n → (b : Bool) → eqb u x ≡ b → (p u && not (eqb u x)) ≡ q u
    at u m true e = let i : u ≡ x = eqb-true u x e in rw e (and-false (p u) ∙ sym z ∙ ap q (sym i))
    at u m false e = rw e (and_one (p u) ∙ o u m (eqb-false u x e))

-- it holds nowhere
pub count_no : (n : ℕ) (p : ℕ → Bool) → ((u : ℕ) → u < n → p u ≡ false) → count n p ≡ 0
count_no zero p h = refl
count_no (suc n) p h = rw (h n (omega arith), count_no n p (λ u l. h u (omega arith)))
