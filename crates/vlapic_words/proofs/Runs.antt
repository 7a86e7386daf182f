-- Runs of words, read and stored. Assumes nothing.
use Prim.Native.Nat.{ℕ, zero, suc, ◌+◌, ◌%◌, ◌^◌, ◌≤◌, ◌<◌}
use native.Mathlib.Nat.{mod-eq_of_lt}
use native.Mathlib.Omega.{arith}
use mathlib.Core.List.{List, ◌∷◌}
use mathlib.Core.Logic.{◌⊎◌, inl, inr, ⊎_elim}
use mathlib.Core.Path.{◌≡◌, refl, ap, ap₂, ◌∙◌}
use lib.ListN.{length, get_or, set}
use lib.Seq.{get_or-set_same, get_or-set_other}
use Rattle.vlapic_words.specs.Words.{word, words_from}

-- one of a run
pub at_from : (l : List ℕ) (k n i j : ℕ) → k + i ≡ j → i < n → get_or (words_from l k n) i 0 ≡ word l j
at_from l k zero i j e h = absurd (omega arith)
at_from l k (suc n) zero j e h = let p : k ≡ j = omega arith in rw p
at_from l k (suc n) (suc i) j e h = at_from l (k + 1) n i j (omega arith) (omega arith)

-- a store elsewhere, and in it
pub from_other : (l : List ℕ) (k n j x : ℕ) → (j < k) ⊎ (k + n ≤ j) → words_from (set l j x) k n ≡ words_from l k n
from_other l k zero j x h = refl
from_other l k (suc n) j x h =
    ap₂ (λ (a : ℕ) (rest : List ℕ). a ∷ rest)
    (ap (λ (a : ℕ). a % 2 ^ 32) (get_or-set_other l j k x 0 (⊎_elim (λ q e. omega arith) (λ q e. omega arith) h)))
    (from_other l (k + 1) n j x (⊎_elim (λ q. inl (omega arith)) (λ q. inr (omega arith)) h))

pub from_set : (l : List ℕ) (k n i j x : ℕ) → k + i ≡ j → i < n → j < length l → x < 2 ^ 32 → words_from (set l j x) k n ≡ set (words_from l k n) i x
from_set l k zero i j x e h b f = absurd (omega arith)
from_set l k (suc n) zero j x e h b f =
    let p : j ≡ k = omega arith in
    ap₂ (λ (a : ℕ) (rest : List ℕ). a ∷ rest)
    (rw p (ap (λ (a : ℕ). a % 2 ^ 32) (get_or-set_same l k x 0 (omega arith)) ∙ mod-eq_of_lt f))
    (from_other l (k + 1) n j x (inl (omega arith)))
from_set l k (suc n) (suc i) j x e h b f =
    ap₂ (λ (a : ℕ) (rest : List ℕ). a ∷ rest)
    (ap (λ (a : ℕ). a % 2 ^ 32) (get_or-set_other l j k x 0 (λ q. omega arith)))
    (from_set l (k + 1) n i j x (omega arith) (omega arith) b f)
