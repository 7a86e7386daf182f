-- Decimal digits: how many a number of 64 bits takes, and that the fewest are the ones that a line has. Assumes nothing.
use mathlib.Core.Bool.{Bool, true, false, cond}
use mathlib.Core.List.{[], ◌∷◌, ◌++◌}
use mathlib.Core.Path.{◌≡◌, refl}
use Prim.Native.Nat.{ℕ, zero, suc, ◌-◌, ◌*◌, ◌/◌, ◌%◌, ◌^◌, ◌≤◌, ◌<◌}
use native.Mathlib.Nat.{pow-le-pow_right, pow-suc, mod-eq_of_lt, le-div_iff_mul-le, div-lt_iff_lt-mul}
use native.Mathlib.Omega.{arith}
use lib.Dec.{leb, ltb}
use lib.ListN.{length, length-append}
use borrow.Author.Tests.{leb-true, leb-false, lt-ltb, le-ltb}
use Rattle.io.specs.Digits.{hex_digit_ascii, last_digits, IsDigitCount}
use Rattle.reply_text.specs.Text.{decimal_in, decimal}

pub at_most_20 : (n k : ℕ) → n < 2 ^ 64 → IsDigitCount 10 1 n k → k ≤ 20
at_most_20 n k h f = go (leb k 20) refl
  where
    go : (b : Bool) → leb k 20 ≡ b → k ≤ 20
    go true e = leb-true k 20 e
    go false e =
        let l : 20 < k = leb-false k 20 e in
        let low : 10 ^ (k - 1) ≤ n = f.2 (omega arith) in
        let high : 10 ^ 20 ≤ 10 ^ (k - 1) = pow-le-pow_right {n = 10} (omega arith) {i = 20} {j = k - 1} (omega arith) in
        omega arith

last_digit : (n k : ℕ) → IsDigitCount 10 1 n (suc (suc k)) → 10 ^ suc k ≤ n
last_digit n k f = let z : suc (suc k) - 1 ≡ suc k = omega arith in rw z at (f.2 (omega arith))

-- a number of two digits or more, and its tenth part
at_least_ten : (n k : ℕ) → IsDigitCount 10 1 n (suc (suc k)) → 10 ≤ n
at_least_ten n k f =
    let low : 10 ^ suc k ≤ n = last_digit n k f in
    let high : 10 ^ 1 ≤ 10 ^ suc k = pow-le-pow_right {n = 10} (omega arith) {i = 1} {j = suc k} (omega arith) in
    omega arith

tenth : (n k : ℕ) → IsDigitCount 10 1 n (suc (suc k)) → IsDigitCount 10 1 (n / 10) (suc k)
tenth n k f =
    let high : n < 10 ^ suc k * 10 = rw pow-suc at f.1 in
    let low : 10 ^ suc k ≤ n = last_digit n k f in
    let low' : 10 ^ k * 10 ≤ n = rw pow-suc at low in
    let z : suc k - 1 ≡ k = omega arith in
    (omega arith, (div-lt_iff_lt-mul {k = 10} {x = n} {y = 10 ^ suc k} (omega arith)).1 high, λ _. rw z ((le-div_iff_mul-le {k = 10} {x = 10 ^ k} {y = n} (omega arith)).1 low'))

pub digits_decimal : (k j n : ℕ) → IsDigitCount 10 1 n k → k ≤ j → last_digits 10 k n ≡ decimal_in j n
unfolding decimal_in
digits_decimal zero j n f h = absurd (omega (arith, f.0))
digits_decimal (suc zero) zero n f h = absurd (omega arith)
digits_decimal (suc zero) (suc j) n f h =
    let l : n < 10 = f.1 in
    let t : ltb n 10 ≡ true = lt-ltb n 10 l in
    let m : n % 10 ≡ n = mod-eq_of_lt l in
    rw (m, t)
digits_decimal (suc (suc k)) zero n f h = absurd (omega arith)
digits_decimal (suc (suc k)) (suc j) n f h =
    let t : ltb n 10 ≡ false = le-ltb n 10 (at_least_ten n k f) in
    let e : last_digits 10 (suc k) (n / 10) ≡ decimal_in j (n / 10) = digits_decimal (suc k) j (n / 10) (tenth n k f) (omega arith) in
    rw (t, ← e)

-- a number below a power of ten has at most as many digits; a byte has at most three
few : (k j n : ℕ) → n < 10 ^ suc k → length (decimal_in j n) ≤ suc k
unfolding decimal_in
few k zero n h = omega arith
few zero (suc j) n h = let t : ltb n 10 ≡ true = lt-ltb n 10 h in rw t (omega arith)
few (suc k) (suc j) n h = go (ltb n 10) (few k j (n / 10) below)
  where
    below : n / 10 < 10 ^ suc k
    below = let high : n < 10 ^ suc k * 10 = rw pow-suc at h in (div-lt_iff_lt-mul {k = 10} {x = n} {y = 10 ^ suc k} (omega arith)).1 high

    go : (b : Bool) → length (decimal_in j (n / 10)) ≤ suc k → length (cond b (hex_digit_ascii n ∷ []) (decimal_in j (n / 10) ++ (hex_digit_ascii (n % 10) ∷ []))) ≤ suc (suc k)
    go true e = omega arith
    go false e = omega (arith, length-append (decimal_in j (n / 10)) (hex_digit_ascii (n % 10) ∷ []))

pub byte_digits : (n : ℕ) → n < 256 → length (decimal n) ≤ 3
byte_digits n h = few 2 20 n (omega arith)
