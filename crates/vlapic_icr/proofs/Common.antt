-- `a & b` has a bit exactly where two sets have a member in common. Assumes nothing.
use mathlib.Core.Path.{◌≡◌, refl, sym, ap, ◌∙◌}
use mathlib.Core.Bool.{Bool, true, false, not, ◌&&◌, true≢false}
use Prim.Native.Nat.{ℕ, zero, suc, ◌/◌, ◌%◌, ◌≤◌, ◌<◌, min}
use native.Mathlib.Nat.{mod-lt, min-le_left, lt_of_le_of_lt}
use native.Mathlib.Omega.{arith}
use lib.Dec.{eqb, lit<}
use lib.Pow.{pow_pos}
use lib.Bits.{bit_and, and_step, and_le_l}
use borrow.Author.Tests.{eq-eqb, ne_eqb, ltb-true, ltb-false}
use Rattle.utils.specs.Set.{bit, first}
use Rattle.utils.proofs.Laws.{bit_zero, bit_suc, bit_none, same_bits}
use Rattle.utils.proofs.Search.{first_holds, first_before}
use Rattle.vlapic_icr.specs.Icr.{share}

both_digit : (a b : ℕ) → a < 2 → b < 2 → eqb (min a b) 1 ≡ (eqb a 1 && eqb b 1)
both_digit zero zero ha hb = refl
both_digit zero (suc zero) ha hb = refl
both_digit zero (suc (suc b)) ha hb = absurd (omega arith)
both_digit (suc zero) zero ha hb = refl
both_digit (suc zero) (suc zero) ha hb = refl
both_digit (suc zero) (suc (suc b)) ha hb = absurd (omega arith)
both_digit (suc (suc a)) b ha hb = absurd (omega arith)

bit_and_lem : (x y k : ℕ) → bit (bit_and x y) k ≡ (bit x k && bit y k)
bit_and_lem x y zero =
    let e : bit_and x y % 2 ≡ min (x % 2) (y % 2) = omega (arith, and_step x y, min-le_left (x % 2) (y % 2)) in
    rw (bit_zero (bit_and x y), bit_zero x, bit_zero y, e) (both_digit (x % 2) (y % 2) (mod-lt x (lit< tt)) (mod-lt y (lit< tt)))
bit_and_lem x y (suc k) =
    let e : bit_and x y / 2 ≡ bit_and (x / 2) (y / 2) = omega (arith, and_step x y, min-le_left (x % 2) (y % 2)) in
    rw (bit_suc (bit_and x y) k, bit_suc x k, bit_suc y k, e) (bit_and_lem (x / 2) (y / 2) k)

pub share_and : (a b : ℕ) → a < 256 → not (eqb (bit_and a b) 0) ≡ share a b
share_and a b h = go (share a b) refl
  where
    go : (s : Bool) → share a b ≡ s → not (eqb (bit_and a b) 0) ≡ s
    go true e =
        let k = first 8 (λ i. bit a i && bit b i) in
        let t : (bit a k && bit b k) ≡ true = first_holds 8 (λ i. bit a i && bit b i) (ltb-true k 8 e) in
        ap not (ne_eqb (bit_and a b) 0 (λ z. true≢false (sym t ∙ sym (bit_and_lem a b k) ∙ ap (λ (n : ℕ). bit n k) z ∙ bit_none k)))
    go false e =
        let q : 8 ≤ first 8 (λ i. bit a i && bit b i) = ltb-false (first 8 (λ i. bit a i && bit b i)) 8 e in
        ap not
        (eq-eqb (bit_and a b) 0
        (same_bits 8 (bit_and a b) 0 (lt_of_le_of_lt (and_le_l a b) h) (pow_pos 8)
        (λ k l. bit_and_lem a b k ∙ first_before 8 (λ i. bit a i && bit b i) k (omega arith) ∙ sym (bit_none k))))
