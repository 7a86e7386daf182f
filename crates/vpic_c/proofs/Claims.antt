-- Which numbers a claim answers: the three values in one comparison. Assumes nothing.
use mathlib.Core.Path.{◌≡◌, refl, sym, ap, ◌∙◌}
use mathlib.Core.Bool.{Bool, true, false, ◌&&◌}
use Prim.Native.Nat.{ℕ, ◌+◌, ◌*◌, ◌/◌, ◌%◌, ◌^◌, ◌<◌}
use native.Mathlib.Omega.{arith}
use lib.Dec.{ltb, eqb}
use lib.Pow.{mod-mod-pow}
use borrow.Author.Tests.{ltb-true, lt-ltb, eq-eqb, eqb-true, eqb-false}
use Rattle.utils.proofs.Bools.{and_true}
use Rattle.vpic_c.specs.Calls.{line, claim_with, is_claim, claimed_line, claim_of}

-- what a claim's code holds
pub record Claim (c : ℕ) : Type 0 where
  pub three : c / 2 ^ 48 ≡ 3
  pub vector : c % 2 ^ 16 < 256
  pub irq : c / 2 ^ 16 % 2 ^ 16 < 16
  pub flags : c / 2 ^ 32 % 2 ^ 16 < 4

pub claim_holds : (c : ℕ) → is_claim c ≡ true → Claim c
claim_holds c e =
    let p = and_true (eqb (c / 2 ^ 48) 3) (ltb (c % 2 ^ 16) 256 && (ltb (c / 2 ^ 16 % 2 ^ 16) 16 && ltb (c / 2 ^ 32 % 2 ^ 16) 4)) e in
    let q = and_true (ltb (c % 2 ^ 16) 256) (ltb (c / 2 ^ 16 % 2 ^ 16) 16 && ltb (c / 2 ^ 32 % 2 ^ 16) 4) p.1 in
    let r = and_true (ltb (c / 2 ^ 16 % 2 ^ 16) 16) (ltb (c / 2 ^ 32 % 2 ^ 16) 4) q.1 in
    record { three = eqb-true (c / 2 ^ 48) 3 p.0; vector = ltb-true (c % 2 ^ 16) 256 q.0; irq = ltb-true (c / 2 ^ 16 % 2 ^ 16) 16 r.0; flags = ltb-true (c / 2 ^ 32 % 2 ^ 16) 4 r.1 }

-- in one number: what lies outside the three values and their ranges
abbrev outer : ℕ → ℕ
outer c = c / 2 ^ 34 * 2 ^ 34 + c / 2 ^ 20 % 2 ^ 12 * 2 ^ 20 + c / 2 ^ 8 % 2 ^ 8 * 2 ^ 8

-- the upper part of each value
low_part_lem : (x : ℕ) → x % 2 ^ 16 ≡ x / 2 ^ 8 % 2 ^ 8 * 2 ^ 8 + x % 2 ^ 8
low_part_lem x = let e : x / 2 ^ 8 / 2 ^ 8 ≡ x / 2 ^ 16 = omega arith in omega (arith, e)

mid_part : (x : ℕ) → x / 2 ^ 16 % 2 ^ 16 ≡ x / 2 ^ 20 % 2 ^ 12 * 2 ^ 4 + x / 2 ^ 16 % 2 ^ 4
mid_part x =
    let d : x / 2 ^ 16 / 2 ^ 4 ≡ x / 2 ^ 20 = omega arith in
    let e : x / 2 ^ 20 / 2 ^ 12 ≡ x / 2 ^ 16 / 2 ^ 16 = omega (arith, d) in
    omega (arith, d, e)

top_part : (x : ℕ) → x / 2 ^ 32 % 2 ^ 16 ≡ x / 2 ^ 34 % 2 ^ 14 * 2 ^ 2 + x / 2 ^ 32 % 2 ^ 2
top_part x =
    let d : x / 2 ^ 32 / 2 ^ 2 ≡ x / 2 ^ 34 = omega arith in
    let e : x / 2 ^ 34 / 2 ^ 14 ≡ x / 2 ^ 32 / 2 ^ 16 = omega (arith, d) in
    omega (arith, d, e)

count_part : (x : ℕ) → x / 2 ^ 34 / 2 ^ 14 ≡ x / 2 ^ 48
count_part x = omega arith

outer_is : (c : ℕ) → Claim c → outer c ≡ 3 * 2 ^ 48
outer_is c h =
    let a : c / 2 ^ 8 % 2 ^ 8 ≡ 0 = omega (arith, h.vector, low_part_lem c) in
    let b : c / 2 ^ 20 % 2 ^ 12 ≡ 0 = omega (arith, h.irq, mid_part c) in
    let f : c / 2 ^ 34 % 2 ^ 14 ≡ 0 = omega (arith, h.flags, top_part c) in
    let t : c / 2 ^ 34 / 2 ^ 14 ≡ 3 = count_part c ∙ h.three in
    let d : c / 2 ^ 34 ≡ 3 * 2 ^ 14 = omega (arith, f, t) in
    rw (a, b, d)

outer_claim : (c : ℕ) → outer c ≡ 3 * 2 ^ 48 → Claim c
outer_claim c e =
    let d : c / 2 ^ 34 ≡ 3 * 2 ^ 14 = omega (arith, e) in
    let b : c / 2 ^ 20 % 2 ^ 12 ≡ 0 = omega (arith, e, d) in
    let a : c / 2 ^ 8 % 2 ^ 8 ≡ 0 = omega (arith, e, d, b) in
    let f : c / 2 ^ 34 % 2 ^ 14 ≡ 0 = rw d in
    let t : c / 2 ^ 34 / 2 ^ 14 ≡ 3 = rw d in
    record { three = sym (count_part c) ∙ t; vector = omega (arith, a, low_part_lem c); irq = omega (arith, b, mid_part c); flags = omega (arith, f, top_part c) }

claim_is : (c : ℕ) → Claim c → is_claim c ≡ true
claim_is c h = rw (eq-eqb (c / 2 ^ 48) 3 h.three, lt-ltb (c % 2 ^ 16) 256 h.vector, lt-ltb (c / 2 ^ 16 % 2 ^ 16) 16 h.irq, lt-ltb (c / 2 ^ 32 % 2 ^ 16) 4 h.flags)

pub claim_test : (c : ℕ) → eqb (outer c) 0x3000000000000 ≡ is_claim c
claim_test c = go (eqb (outer c) 0x3000000000000) refl (is_claim c) refl
  where
    go : (x : Bool) → eqb (outer c) 0x3000000000000 ≡ x → (y : Bool) → is_claim c ≡ y → x ≡ y
    go true p true q = refl
    go false p false q = refl
    go false p true q = absurd (eqb-false (outer c) 0x3000000000000 p (outer_is c (claim_holds c q)))
    go true p false q =
        let h = outer_claim c (eqb-true (outer c) 0x3000000000000 p) in
        sym (claim_is c h) ∙ q

-- a claim's parts are the three values
first_digit : (x : ℕ) → x % 2 ≡ x % 2 ^ 16 % 2
first_digit x = sym (mod-mod-pow x 15 1)

halved : (c : ℕ) → c / 2 ^ 33 ≡ c / 2 ^ 32 / 2
halved c = omega arith

second_digit : (x : ℕ) → x % 2 ^ 16 < 4 → x / 2 % 2 ≡ x % 2 ^ 16 / 2
second_digit x h = omega arith

pub parts_same : (c : ℕ) → is_claim c ≡ true → claim_of c ≡ claim_with (c % 2 ^ 16) (c / 2 ^ 16 % 2 ^ 16) (c / 2 ^ 32 % 2 ^ 16)
parts_same c e =
    let h = claim_holds c e in
    let v : c % 2 ^ 8 ≡ c % 2 ^ 16 = omega (arith, h.vector, low_part_lem c) in
    let l : c / 2 ^ 16 % 2 ^ 4 ≡ c / 2 ^ 16 % 2 ^ 16 = omega (arith, h.irq, mid_part c) in
    let m : c / 2 ^ 32 % 2 ≡ c / 2 ^ 32 % 2 ^ 16 % 2 = first_digit (c / 2 ^ 32) in
    let s : c / 2 ^ 33 % 2 ≡ c / 2 ^ 32 % 2 ^ 16 / 2 = ap (λ (n : ℕ). n % 2) (halved c) ∙ second_digit (c / 2 ^ 32) h.flags in
    let i : claimed_line c ≡ line (c / 2 ^ 16 % 2 ^ 16) = rw e (ap line l) in
    λ j. record { vector = record { 0 = v j }; irq = i j; master_in_service = eqb (m j) 1; slave_in_service = eqb (s j) 1 }
