-- One member of a set comes or goes, and no other does. Assumes nothing.
use Rattle.std.proofs.Common.{◌≡◌, ℕ, ◌+◌, ◌*◌, ◌/◌, ◌%◌, ◌^◌, ◌<◌, Bool, true, false, eqb, sym, refl, ap, ◌∙◌, mod-lt, arith, pow_pos, eqb-true}
use native.Mathlib.Nat.{mod-add-div', eq_of_mul-eq-mul_right}
use borrow.Author.Tests.{eqb-false}
use Rattle.utils.specs.Set.{bit, with, without, marked}
use Rattle.utils.proofs.Laws.{bit_cut, same_bits, bit_with_same, bit_with_other, bit_without_same, bit_without_other, with_member, without_member, with_without, with_lt, without_le}

pub bit_marked_same : (n k : ℕ) (up : Bool) → bit (marked n k up) k ≡ up
bit_marked_same n k true = bit_with_same n k
bit_marked_same n k false = bit_without_same n k

pub bit_marked_other : (n k j : ℕ) (up : Bool) → (j ≡ k → ⊥) → bit (marked n k up) j ≡ bit n j
bit_marked_other n k j true h = bit_with_other n k j h
bit_marked_other n k j false h = bit_without_other n k j h

-- one that stands so already
pub marked_kept : (n k : ℕ) (up : Bool) → bit n k ≡ up → marked n k up ≡ n
marked_kept n k true e = with_member n k e
marked_kept n k false e = without_member n k e

pub marked_lt : (w n k : ℕ) (up : Bool) → n < 2 ^ w → k < w → marked n k up < 2 ^ w
marked_lt w n k true h l = with_lt w n k h l
marked_lt w n k false h l = omega (arith, without_le n k, h)

-- below 2^w, whatever lies above
pub marked_cut : (w n k : ℕ) (up : Bool) → k < w → marked n k up % 2 ^ w ≡ marked (n % 2 ^ w) k up
marked_cut w n k up h =
    same_bits w (marked n k up % 2 ^ w) (marked (n % 2 ^ w) k up) (mod-lt (marked n k up) (pow_pos w)) (marked_lt w (n % 2 ^ w) k up (mod-lt n (pow_pos w)) h)
    (λ j l. bit_cut (marked n k up) w j l ∙ at j l (eqb j k) refl)
  where
    at : (j : ℕ) → j < w → (b : Bool) → eqb j k ≡ b → bit (marked n k up) j ≡ bit (marked (n % 2 ^ w) k up) j
    at j l true q =
        let i : j ≡ k = eqb-true j k q in
        rw i (bit_marked_same n k up ∙ sym (bit_marked_same (n % 2 ^ w) k up))
    at j l false q =
        let i : j ≡ k → ⊥ = eqb-false j k q in
        bit_marked_other n k j up i ∙ sym (bit_marked_other (n % 2 ^ w) k j up i ∙ bit_cut n w j l)

-- and above it nothing moves
upper : (r x m s y n d : ℕ) → r + x ≡ m → s + y ≡ n → m ≡ n + d → r ≡ s + d → x ≡ y
upper r x m s y n d a b c e = omega arith

module _ (w n k : ℕ) (below : k < w) where
  upper_same : (m d : ℕ) → m ≡ n + d → m % 2 ^ w ≡ n % 2 ^ w + d → m / 2 ^ w ≡ n / 2 ^ w
  upper_same m d e f =
      eq_of_mul-eq-mul_right (2 ^ w) (pow_pos w) (m / 2 ^ w) (n / 2 ^ w)
      (upper (m % 2 ^ w) (m / 2 ^ w * 2 ^ w) m (n % 2 ^ w) (n / 2 ^ w * 2 ^ w) n d (mod-add-div' m (2 ^ w)) (mod-add-div' n (2 ^ w)) e f)

  with_above : with n k / 2 ^ w ≡ n / 2 ^ w
  unfolding with
  with_above = go (bit n k) refl
    where
      go : (b : Bool) → bit n k ≡ b → with n k / 2 ^ w ≡ n / 2 ^ w
      go true e = ap (λ (m : ℕ). m / 2 ^ w) (with_member n k e)
      go false e =
          let h : bit (n % 2 ^ w) k ≡ false = bit_cut n w k below ∙ e in
          let x : with n k ≡ n + 2 ^ k = rw e in
          let y : with (n % 2 ^ w) k ≡ n % 2 ^ w + 2 ^ k = rw h in
          upper_same (with n k) (2 ^ k) x (marked_cut w n k true below ∙ y)

pub marked_above : (w n k : ℕ) (up : Bool) → k < w → marked n k up / 2 ^ w ≡ n / 2 ^ w
marked_above w n k true h = with_above w n k h
marked_above w n k false h = go (bit n k) refl
  where
    go : (b : Bool) → bit n k ≡ b → without n k / 2 ^ w ≡ n / 2 ^ w
    go true e = sym (with_above w (without n k) k h) ∙ ap (λ (m : ℕ). m / 2 ^ w) (with_without n k e)
    go false e = ap (λ (m : ℕ). m / 2 ^ w) (without_member n k e)
