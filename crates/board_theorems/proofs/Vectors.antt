-- One vector put into eight words, or taken out, and no other. Assumes nothing.
use Prim.Native.Nat.{ℕ, ◌/◌, ◌%◌, ◌<◌}
use native.Mathlib.Omega.{arith}
use mathlib.Core.Bool.{Bool, true, false, cond}
use mathlib.Core.List.{List}
use mathlib.Core.Path.{◌≡◌, refl, ◌∙◌}
use lib.Dec.{eqb}
use lib.ListN.{length, get_or, set, length-set}
use lib.Seq.{get_or-set_same, get_or-set_other}
use borrow.Author.Tests.{eqb-true, eqb-false}
use Rattle.utils.specs.Set.{bit, with, without}
use Rattle.utils.proofs.Laws.{bit_with_same, bit_with_other, bit_without_same, bit_without_other}
use Rattle.vlapic_regs.specs.Vectors.{in_words, with_vector, without_vector}

module _ (words : List ℕ) (v : ℕ) (n : length words ≡ 8) where
  -- v's word changed by g, in v's bit alone
  abbrev changed : (ℕ → ℕ → ℕ) → List ℕ
  changed g = set words (v / 32) (g (get_or words (v / 32) 0) (v % 32))

  changed_same : v < 256 → (g : ℕ → ℕ → ℕ) → in_words (changed g) v ≡ bit (g (get_or words (v / 32) 0) (v % 32)) (v % 32)
  changed_same h g = rw (get_or-set_same words (v / 32) (g (get_or words (v / 32) 0) (v % 32)) 0 (omega arith))

  changed_other : (g : ℕ → ℕ → ℕ) → ((n k j : ℕ) → (j ≡ k → ⊥) → bit (g n k) j ≡ bit n j) → (u : ℕ) → u < 256 → (u ≡ v → ⊥) → in_words (changed g) u ≡ in_words words u
  changed_other g same u b m = go (eqb (u / 32) (v / 32)) refl
    where
      go : (c : Bool) → eqb (u / 32) (v / 32) ≡ c → in_words (changed g) u ≡ in_words words u
      go false e = rw (get_or-set_other words (v / 32) (u / 32) (g (get_or words (v / 32) 0) (v % 32)) 0 (eqb-false (u / 32) (v / 32) e))
      go true e =
          let i : u / 32 ≡ v / 32 = eqb-true (u / 32) (v / 32) e in
          rw (i, get_or-set_same words (v / 32) (g (get_or words (v / 32) 0) (v % 32)) 0 (omega arith)) (same (get_or words (v / 32) 0) (v % 32) (u % 32) (λ r. m (omega arith)))

  pub put_same : v < 256 → in_words (with_vector words v) v ≡ true
  put_same h = changed_same h with ∙ bit_with_same (get_or words (v / 32) 0) (v % 32)

  pub put_other : (u : ℕ) → u < 256 → (u ≡ v → ⊥) → in_words (with_vector words v) u ≡ in_words words u
  put_other u b m = changed_other with bit_with_other u b m

  pub take_same : v < 256 → in_words (without_vector words v) v ≡ false
  take_same h = changed_same h without ∙ bit_without_same (get_or words (v / 32) 0) (v % 32)

  pub take_other : (u : ℕ) → u < 256 → (u ≡ v → ⊥) → in_words (without_vector words v) u ≡ in_words words u
  take_other u b m = changed_other without bit_without_other u b m

  pub put_length : length (with_vector words v) ≡ 8
  put_length = length-set words (v / 32) (with (get_or words (v / 32) 0) (v % 32)) ∙ n

  pub take-length : length (without_vector words v) ≡ 8
  take-length = length-set words (v / 32) (without (get_or words (v / 32) 0) (v % 32)) ∙ n

  -- either, by a flag
  abbrev pub marked : Bool → List ℕ
  marked up = cond up (with_vector words v) (without_vector words v)

  pub mark_same : (up : Bool) → v < 256 → in_words (marked up) v ≡ up
  mark_same true h = put_same h
  mark_same false h = take_same h

  pub mark_other : (up : Bool) (u : ℕ) → u < 256 → (u ≡ v → ⊥) → in_words (marked up) u ≡ in_words words u
  mark_other true u b m = put_other u b m
  mark_other false u b m = take_other u b m

  pub mark_length : (up : Bool) → length (marked up) ≡ 8
  mark_length true = put_length
  mark_length false = take-length
