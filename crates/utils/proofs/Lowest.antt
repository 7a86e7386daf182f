-- Which line of a set is the lowest, by remainders: no line below it is in the set, and one up to it is. Assumes nothing.
use Rattle.std.proofs.Common.{◌≡◌, ℕ, zero, suc, ◌+◌, ◌-◌, ◌*◌, ◌/◌, ◌%◌, ◌^◌, ◌<◌, ◌≤◌, min, Bool, true, false, cond, not, ◌&&◌, eqb, ltb, sym, refl, ap, ◌∙◌, subst, ap₂, lt_of_le_of_lt, mod-lt, pow-suc, arith, lit<, pow_pos, ltb-false, ltb-true, eq-eqb, ne_eqb, eqb-true}
use native.Mathlib.Nat.{min-le_left, min-le_right, mod-le, zero-div, zero-min}
use lib.Arith.{mod-mul}
use lib.Bits.{bit_and, and_step, and_self, and_le_l, and_mask}
use borrow.Author.Tests.{eqb-false}
use Rattle.utils.specs.Set.{bit, without, outside, lowest}
use Rattle.utils.proofs.Search.{first_same}
use Rattle.utils.proofs.Laws.{bit_zero, bit_suc, lowest_le, lowest_in, same_bits, bit_outside}
use Rattle.utils.proofs.Bits.{and_not}

-- without line 0 the lowest is that of the others
lowest_next : (w n : ℕ) → lowest (suc w) n ≡ cond (bit n 0) 0 (suc (lowest w (n / 2)))
unfolding lowest
lowest_next w n = ap (λ (k : ℕ). cond (bit n 0) 0 (suc k)) (first_same w (λ k. bit n (suc k)) (bit (n / 2)) (λ k l. bit_suc n k))

-- a remainder by its lowest digit
split : (d n : ℕ) → n % 2 ^ suc d ≡ (n / 2 % 2 ^ d) * 2 + n % 2
split d n = ap (λ (m : ℕ). n % m) (pow-suc 2 d) ∙ mod-mul n (pow_pos d) (lit< tt)

even : (n : ℕ) → bit n 0 ≡ false → n % 2 ≡ 0
even n e =
    let z : n % 2 ≡ 1 → ⊥ = eqb-false (n % 2) 1 (sym (bit_zero n) ∙ e) in
    let r : n % 2 < 2 = mod-lt n (lit< tt) in
    omega (arith, z)

pub lowest_is : (w k n : ℕ) → k < w → n % 2 ^ k ≡ 0 → (n % 2 ^ suc k ≡ 0 → ⊥) → k ≡ lowest w n
lowest_is zero k n l z h = absurd (omega arith)
lowest_is (suc w) zero n l z h =
    let r : n % 2 < 2 = mod-lt n (lit< tt) in
    let odd : bit n 0 ≡ true = bit_zero n ∙ eq-eqb (n % 2) 1 (omega (arith, split 0 n, mod-lt (n / 2) (pow_pos 0), h)) in
    sym (lowest_next w n ∙ rw odd)
lowest_is (suc w) (suc k) n l z h =
    let even : bit n 0 ≡ false = bit_zero n ∙ ne_eqb (n % 2) 1 (λ q. omega (arith, split k n)) in
    let i : k ≡ lowest w (n / 2) = lowest_is w k (n / 2) (omega arith) (omega (arith, split k n)) (λ e. h (omega (arith, split k n, split (suc k) n))) in
    sym (lowest_next w n ∙ rw even (ap suc (sym i)))

-- a line below the lowest: neither it nor one below it is in the set
below_lowest : (w k n : ℕ) → k < lowest w n → n % 2 ^ suc k ≡ 0
below_lowest zero k n l = absurd (omega (arith, lowest_le 0 n))
below_lowest (suc w) k n l = go k (λ j m. below_lowest w j (n / 2) m) (bit n 0) refl (subst (λ (m : ℕ). k < m) (lowest_next w n) l)
  where
    go : (k : ℕ) → ((j : ℕ) → j < lowest w (n / 2) → n / 2 % 2 ^ suc j ≡ 0) → (b : Bool) → bit n 0 ≡ b → k < cond b 0 (suc (lowest w (n / 2))) → n % 2 ^ suc k ≡ 0
    go k i true e m = absurd (omega arith)
    go zero i false e m = omega (arith, split 0 n, mod-lt (n / 2) (pow_pos 0), even n e)
    go (suc k) i false e m = let z : n / 2 % 2 ^ suc k ≡ 0 = i k (omega arith) in omega (arith, split (suc k) n, even n e)

-- none below the lowest
none_below : (n j : ℕ) → j ≡ lowest 8 n → n % 2 ^ j ≡ 0
none_below n zero q = omega arith
none_below n (suc j) q = below_lowest 8 j n (omega arith)

-- one from the lowest up: some line up to it is
from_lowest : (w k n : ℕ) → k < w → lowest w n ≤ k → n % 2 ^ suc k ≡ 0 → ⊥
from_lowest zero k n l h e = absurd (omega arith)
from_lowest (suc w) k n l h e =
    go k l e (λ j m q z. from_lowest w j (n / 2) m q z) (bit n 0) refl (subst (λ (m : ℕ). m ≤ k) (lowest_next w n) h)
  where
    go : (k : ℕ) → k < suc w → n % 2 ^ suc k ≡ 0 → ((j : ℕ) → j < w → lowest w (n / 2) ≤ j → n / 2 % 2 ^ suc j ≡ 0 → ⊥) → (b : Bool) → bit n 0 ≡ b
        → cond b 0 (suc (lowest w (n / 2))) ≤ k → ⊥
    go k l e i true q h = let o : n % 2 ≡ 1 = eqb-true (n % 2) 1 (sym (bit_zero n) ∙ q) in omega (arith, split k n)
    go zero l e i false q h = omega arith
    go (suc k) l e i false q h = i k (omega arith) (omega arith) (omega (arith, split (suc k) n))

-- ---- `n & (n - 1)`: the lowest line goes

less_lowest : (k n : ℕ) → n % 2 ^ k ≡ 0 → (n % 2 ^ suc k ≡ 0 → ⊥) → bit_and n (n - 1) + 2 ^ k ≡ n
less_lowest zero n z h =
    let o : n % 2 < 2 = mod-lt n (lit< tt) in
    let q : n / 2 % 2 ^ 0 < 2 ^ 0 = mod-lt (n / 2) (pow_pos 0) in
    let one : n % 2 ≡ 1 = omega (arith, split 0 n, h) in
    let half : bit_and (n / 2) ((n - 1) / 2) ≡ n / 2 = ap (bit_and (n / 2)) (omega arith) ∙ and_self (n / 2) in
    omega (arith, and_step n (n - 1), min-le_right (n % 2) ((n - 1) % 2))
less_lowest (suc k) n z h =
    let none : n % 2 ≡ 0 = omega (arith, split k n) in
    let some : n / 2 % 2 ^ suc k ≡ 0 → ⊥ = λ e. h (omega (arith, split (suc k) n)) in
    let i : bit_and (n / 2) (n / 2 - 1) + 2 ^ k ≡ n / 2 = less_lowest k (n / 2) (omega (arith, split k n)) some in
    let m : 0 < n = omega (arith, pow_pos k) in
    let half : bit_and (n / 2) ((n - 1) / 2) ≡ bit_and (n / 2) (n / 2 - 1) = ap (bit_and (n / 2)) (omega arith) in
    omega (arith, and_step n (n - 1), min-le_left (n % 2) ((n - 1) % 2), pow-suc 2 k)

pub lowest_in_byte : (n : ℕ) → n < 2 ^ 8 → (n ≡ 0 → ⊥) → lowest 8 n < 8
lowest_in_byte n l h = go (ltb (lowest 8 n) 8) refl
  where
    go : (b : Bool) → ltb (lowest 8 n) 8 ≡ b → lowest 8 n < 8
    go true e = ltb-true (lowest 8 n) 8 e
    go false e = absurd (h (omega (arith, below_lowest 8 7 n (ltb-false (lowest 8 n) 8 e))))

pub without_lowest : (n : ℕ) → n < 2 ^ 8 → (n ≡ 0 → ⊥) → bit_and n (n - 1) ≡ without n (lowest 8 n)
unfolding without
without_lowest n l h =
    let k : lowest 8 n < 8 = lowest_in_byte n l h in
    rw (lowest_in 8 n k) (omega (arith, less_lowest (lowest 8 n) n (none_below n (lowest 8 n) refl) (from_lowest 8 (lowest 8 n) n k (omega arith))))

-- ---- `(n - 1) & !n`: the lines below the lowest

abbrev rest : ℕ → ℕ → ℕ
rest w n = (2 ^ w - 1) - n

-- no line is in a set and outside it
nothing_left : (w n : ℕ) → n < 2 ^ w → bit_and n (rest w n) ≡ 0
nothing_left w n l =
    same_bits w (bit_and n (rest w n)) 0 (lt_of_le_of_lt (and_le_l n (rest w n)) l) (pow_pos w)
    (λ k q. ap (λ (m : ℕ). bit m k) (and_not w n n l l) ∙ bit_outside w n n k q ∙ both (bit n k) ∙ sym (ap (λ (m : ℕ). eqb (m % 2) 1) (zero-div (2 ^ k))))
  where
    both : (b : Bool) → (b && not b) ≡ false
    both true = refl
    both false = refl

doubled : (x b p q : ℕ) → x ≡ b * 2 + 1 → b + 1 ≡ p → q ≡ p * 2 → x + 1 ≡ q
doubled x b p q e i d = omega arith

above_lowest : (w k n : ℕ) → n < 2 ^ w → n % 2 ^ k ≡ 0 → (n % 2 ^ suc k ≡ 0 → ⊥) → bit_and (n - 1) (rest w n) + 1 ≡ 2 ^ k
above_lowest zero k n l z h = absurd (h (omega (arith, mod-le n (2 ^ suc k))))
above_lowest (suc w) zero n l z h =
    let p : 2 ^ suc w ≡ 2 ^ w * 2 = pow-suc 2 w in
    let o : n % 2 < 2 = mod-lt n (lit< tt) in
    let q : n / 2 % 2 ^ 0 < 2 ^ 0 = mod-lt (n / 2) (pow_pos 0) in
    let one : n % 2 ≡ 1 = omega (arith, split 0 n, h) in
    let a : (n - 1) / 2 ≡ n / 2 = omega arith in
    let b : rest (suc w) n / 2 ≡ rest w (n / 2) = omega arith in
    let half : bit_and ((n - 1) / 2) (rest (suc w) n / 2) ≡ bit_and (n / 2) (rest w (n / 2)) = ap₂ bit_and a b in
    let none : (n - 1) % 2 ≡ 0 = omega arith in
    let digit0 : min ((n - 1) % 2) (rest (suc w) n % 2) ≡ 0 = ap (λ (d : ℕ). min d (rest (suc w) n % 2)) none ∙ zero-min (rest (suc w) n % 2) in
    ap (λ (m : ℕ). m + 1) (and_step (n - 1) (rest (suc w) n) ∙ ap₂ (λ (x y : ℕ). x * 2 + y) (half ∙ nothing_left w (n / 2) (omega arith)) digit0)
above_lowest (suc w) (suc k) n l z h =
    let p : 2 ^ suc w ≡ 2 ^ w * 2 = pow-suc 2 w in
    let none : n % 2 ≡ 0 = omega (arith, split k n) in
    let some : n / 2 % 2 ^ suc k ≡ 0 → ⊥ = λ e. h (omega (arith, split (suc k) n)) in
    let m : 0 < n / 2 = omega (arith, less_lowest k (n / 2) (omega (arith, split k n)) some, pow_pos k) in
    let i : bit_and (n / 2 - 1) (rest w (n / 2)) + 1 ≡ 2 ^ k = above_lowest w k (n / 2) (omega arith) (omega (arith, split k n)) some in
    let f : (n - 1) / 2 ≡ n / 2 - 1 = omega arith in
    let g : rest (suc w) n / 2 ≡ rest w (n / 2) = omega arith in
    let half : bit_and ((n - 1) / 2) (rest (suc w) n / 2) ≡ bit_and (n / 2 - 1) (rest w (n / 2)) = ap₂ bit_and f g in
    let a : (n - 1) % 2 ≡ 1 = omega arith in
    let b : rest (suc w) n % 2 ≡ 1 = omega arith in
    let both : min ((n - 1) % 2) (rest (suc w) n % 2) ≡ 1 = ap₂ min a b in
    doubled _ _ _ _ (and_step (n - 1) (rest (suc w) n) ∙ ap₂ (λ (x y : ℕ). x * 2 + y) half both) i (pow-suc 2 k)

-- ---- the two by the code's one less, which is 255 for the empty set

module _ (n d : ℕ) (l : n < 2 ^ 8) (m : d < 2 ^ 8) (e : (d + 1) % 2 ^ 8 ≡ n) where
  one_less : (n ≡ 0 → ⊥) → d ≡ n - 1
  one_less h = omega (arith, h)

  all_less : n ≡ 0 → d ≡ 255
  all_less z = omega arith

  pub lowest_off : bit_and n d ≡ without n (lowest 8 n)
  unfolding without lowest
  lowest_off = go (eqb n 0) refl
    where
      go : (b : Bool) → eqb n 0 ≡ b → bit_and n d ≡ without n (lowest 8 n)
      go true q = ap₂ bit_and (eqb-true n 0 q) (all_less (eqb-true n 0 q)) ∙ ap (λ (x : ℕ). without x (lowest 8 x)) (sym (eqb-true n 0 q))
      go false q = ap (bit_and n) (one_less (eqb-false n 0 q)) ∙ without_lowest n l (eqb-false n 0 q)

  under_lowest : outside 8 d n ≡ 2 ^ lowest 8 n - 1
  unfolding outside lowest
  under_lowest = go (eqb n 0) refl
    where
      go : (b : Bool) → eqb n 0 ≡ b → outside 8 d n ≡ 2 ^ lowest 8 n - 1
      go true q = ap₂ (outside 8) (all_less (eqb-true n 0 q)) (eqb-true n 0 q) ∙ ap (λ (x : ℕ). 2 ^ lowest 8 x - 1) (sym (eqb-true n 0 q))
      go false q =
          let h : n ≡ 0 → ⊥ = eqb-false n 0 q in
          let k : lowest 8 n < 8 = lowest_in_byte n l h in
          let s : bit_and (n - 1) (rest 8 n) ≡ outside 8 (n - 1) n = and_not 8 (n - 1) n (omega arith) l in
          ap (λ (x : ℕ). outside 8 x n) (one_less h)
          ∙ omega (arith, s, above_lowest 8 (lowest 8 n) n l (none_below n (lowest 8 n) refl) (from_lowest 8 (lowest 8 n) n k (omega arith)))

  pub under_lowest_in : (s a : ℕ) → a ≡ outside 8 d n → bit_and s a ≡ s % 2 ^ lowest 8 n
  under_lowest_in s a q = ap (bit_and s) (q ∙ under_lowest) ∙ and_mask s (lowest 8 n)
