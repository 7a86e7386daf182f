-- A register is read back from the word that it was put into, and so is every other. Assumes nothing.
use mathlib.Core.Path.{◌≡◌, refl, sym, ap, ap₂, ◌∙◌}
use mathlib.Core.Bool.{Bool, true, false, cond}
use Prim.Native.Nat.{ℕ, ◌+◌, ◌*◌, ◌-◌, ◌/◌, ◌%◌, ◌^◌, ◌<◌, ◌≤◌}
use native.Mathlib.Omega.{arith}
use native.Mathlib.Nat.{div-one, div-add-mod', mul_comm, add-mul, div-div-eq-div-mul}
use lib.Pow.{pow-add, field, mod-mod-pow}
use lib.Dec.{eqb}
use borrow.Author.Tests.{eqb-true, eqb-false}
use Rattle.utils.specs.Set.{bit, with, without, marked}
use Rattle.utils.proofs.Laws.{bit_at_least, with_lt, without_le}
use Rattle.std.specs.Int.{from_bool}
use Rattle.types.specs.Reply.{flag}
use Rattle.vpic_chip.specs.Registers.{Chip, registers, plain_registers, as_full, full_in, placed, with_base, with_mask, with_request, with_in_service, with_step, with_auto_eoi, with_read_isr, with_lowest, with_auto_rotation, with_special_mask, with_poll, with_nested, chip_in}
use Rattle.vpic_chip.specs.Chip.{opened, icw1, specific_eoi, command_read}

abbrev byte : ℕ → ℕ → ℕ
byte w n = w / 2 ^ n % 2 ^ 8

abbrev digit : ℕ → ℕ → ℕ
digit w n = w / 2 ^ n % 2

-- a chip by the registers of its word
parts : (r b0 b1 b2 b3 b4 f0 f1 f2 f3 sp : ℕ) → r % 2 ^ 8 ≡ b0 → byte r 8 ≡ b1 → byte r 16 ≡ b2 → byte r 24 ≡ b3 → byte r 32 ≡ b4
    → digit r 40 ≡ f0 → digit r 41 ≡ f1 → digit r 42 ≡ f2 → digit r 43 ≡ f3 → r / 2 ^ 44 ≡ sp
    → chip_in r ≡ plain_registers b0 b1 b2 b3 b4 (eqb f0 1) (eqb f1 1) (eqb f2 1) (eqb f3 1) sp
unfolding chip_in
parts r b0 b1 b2 b3 b4 f0 f1 f2 f3 sp e0 e1 e2 e3 e4 g0 g1 g2 g3 h =
    λ i. plain_registers (e0 i) (e1 i) (e2 i) (e3 i) (e4 i) (eqb (g0 i) 1) (eqb (g1 i) 1) (eqb (g2 i) 1) (eqb (g3 i) 1) (h i)

-- such a chip doesn't take rotation
pub plain : (w : ℕ) → (chip_in w).full ≡ false
unfolding chip_in
plain w = refl

-- a flag as a binary digit
digit_back : (b : Bool) → eqb (from_bool b) 1 ≡ b
digit_back true = refl
digit_back false = refl

digit_le : (b : Bool) → from_bool b ≤ 1
digit_le true = omega arith
digit_le false = omega arith

-- a word with its bit k put, by what stands above it and below
marked_is : (w k : ℕ) (b : Bool) → marked w k b ≡ (w / 2 ^ k / 2 * 2 + from_bool b) * 2 ^ k + w % 2 ^ k
unfolding with without
marked_is w k b = go b (bit w k) refl
  where
    q : ℕ
    q = w / 2 ^ k

    whole : w ≡ q * 2 ^ k + w % 2 ^ k
    whole = sym (div-add-mod' w (2 ^ k))

    by : (x : ℕ) → q ≡ x → w ≡ x * 2 ^ k + w % 2 ^ k
    by x e = whole ∙ ap (λ (y : ℕ). y * 2 ^ k + w % 2 ^ k) e

    go : (b c : Bool) → bit w k ≡ c → cond b (cond c w (w + 2 ^ k)) (cond c (w - 2 ^ k) w) ≡ (q / 2 * 2 + from_bool b) * 2 ^ k + w % 2 ^ k
    go true true e = by (q / 2 * 2 + 1) (omega (arith, eqb-true (q % 2) 1 e))
    go true false e = omega (arith, by (q / 2 * 2) (omega (arith, eqb-false (q % 2) 1 e)), add-mul (q / 2 * 2) 1 (2 ^ k))
    go false true e = omega (arith, by (q / 2 * 2 + 1) (omega (arith, eqb-true (q % 2) 1 e)), add-mul (q / 2 * 2) 1 (2 ^ k), add-mul (q / 2 * 2) 0 (2 ^ k))
    go false false e = omega (arith, by (q / 2 * 2) (omega (arith, eqb-false (q % 2) 1 e)), add-mul (q / 2 * 2) 0 (2 ^ k))

pub base_put : (w v r x : ℕ) → v < 2 ^ 8 → x ≡ v → r ≡ w / 2 ^ 8 * 2 ^ 8 + x → chip_in r ≡ with_base (chip_in w) v
unfolding chip_in
base_put w v r x h ex e =
    parts r v (byte w 8) (byte w 16) (byte w 24) (byte w 32) (digit w 40) (digit w 41) (digit w 42) (digit w 43) (w / 2 ^ 44)
    (omega arith) (omega arith) (omega arith) (omega arith) (omega arith) (omega arith) (omega arith) (omega arith) (omega arith) (omega arith)

pub mask_put : (w v r x : ℕ) → v < 2 ^ 8 → x ≡ v → r ≡ w / 2 ^ 16 * 2 ^ 16 + x * 2 ^ 8 + w % 2 ^ 8 → chip_in r ≡ with_mask (chip_in w) v
unfolding chip_in
mask_put w v r x h ex e =
    parts r (w % 2 ^ 8) v (byte w 16) (byte w 24) (byte w 32) (digit w 40) (digit w 41) (digit w 42) (digit w 43) (w / 2 ^ 44)
    (omega arith) (omega arith) (omega arith) (omega arith) (omega arith) (omega arith) (omega arith) (omega arith) (omega arith) (omega arith)

pub request_put : (w v r : ℕ) → v < 2 ^ 8 → r ≡ w / 2 ^ 24 * 2 ^ 24 + v * 2 ^ 16 + w % 2 ^ 16 → chip_in r ≡ with_request (chip_in w) v
unfolding chip_in
request_put w v r h e =
    parts r (w % 2 ^ 8) (byte w 8) v (byte w 24) (byte w 32) (digit w 40) (digit w 41) (digit w 42) (digit w 43) (w / 2 ^ 44)
    (omega arith) (omega arith) (omega arith) (omega arith) (omega arith) (omega arith) (omega arith) (omega arith) (omega arith) (omega arith)

pub service_put : (w v r x : ℕ) → v < 2 ^ 8 → x ≡ v → r ≡ w / 2 ^ 32 * 2 ^ 32 + x * 2 ^ 24 + w % 2 ^ 24 → chip_in r ≡ with_in_service (chip_in w) v
unfolding chip_in
service_put w v r x h ex e =
    parts r (w % 2 ^ 8) (byte w 8) (byte w 16) v (byte w 32) (digit w 40) (digit w 41) (digit w 42) (digit w 43) (w / 2 ^ 44)
    (omega arith) (omega arith) (omega arith) (omega arith) (omega arith) (omega arith) (omega arith) (omega arith) (omega arith) (omega arith)

-- so is what is left of it, with what went taken off the word
module _ (w s v : ℕ) (e : s ≡ (chip_in w).in_service) where
  pub less_fits : (s - v) * 2 ^ 24 ≤ w
  unfolding chip_in
  less_fits = omega arith

  pub service_less : v ≤ s → chip_in (w - (s - v) * 2 ^ 24) ≡ with_in_service (chip_in w) v
  unfolding chip_in
  service_less h = service_put w v (w - (s - v) * 2 ^ 24) v (omega arith) refl (omega arith)

pub step_put : (w v r x : ℕ) → v < 2 ^ 8 → x ≡ v → r ≡ w / 2 ^ 40 * 2 ^ 40 + x * 2 ^ 32 + w % 2 ^ 32 → chip_in r ≡ with_step (chip_in w) v
unfolding chip_in
step_put w v r x h ex e =
    parts r (w % 2 ^ 8) (byte w 8) (byte w 16) (byte w 24) v (digit w 40) (digit w 41) (digit w 42) (digit w 43) (w / 2 ^ 44)
    (omega arith) (omega arith) (omega arith) (omega arith) (omega arith) (omega arith) (omega arith) (omega arith) (omega arith) (omega arith)

pub auto_put : (w r : ℕ) (b : Bool) → r ≡ marked w 42 b → chip_in r ≡ with_auto_eoi (chip_in w) b
unfolding chip_in
auto_put w r b m =
    let v = from_bool b in
    let h : v ≤ 1 = digit_le b in
    let e : r ≡ (w / 2 ^ 42 / 2 * 2 + v) * 2 ^ 42 + w % 2 ^ 42 = m ∙ marked_is w 42 b in
    parts r (w % 2 ^ 8) (byte w 8) (byte w 16) (byte w 24) (byte w 32) (digit w 40) (digit w 41) v (digit w 43) (w / 2 ^ 44)
    (omega arith) (omega arith) (omega arith) (omega arith) (omega arith) (omega arith) (omega arith) (omega arith) (omega arith) (omega arith)
    ∙ ap (with_auto_eoi (chip_in w)) (digit_back b)

pub read_put : (w r : ℕ) (b : Bool) → r ≡ marked w 43 b → chip_in r ≡ with_read_isr (chip_in w) b
unfolding chip_in
read_put w r b m =
    let v = from_bool b in
    let h : v ≤ 1 = digit_le b in
    let e : r ≡ (w / 2 ^ 43 / 2 * 2 + v) * 2 ^ 43 + w % 2 ^ 43 = m ∙ marked_is w 43 b in
    parts r (w % 2 ^ 8) (byte w 8) (byte w 16) (byte w 24) (byte w 32) (digit w 40) (digit w 41) (digit w 42) v (w / 2 ^ 44)
    (omega arith) (omega arith) (omega arith) (omega arith) (omega arith) (omega arith) (omega arith) (omega arith) (omega arith) (omega arith)
    ∙ ap (with_read_isr (chip_in w)) (digit_back b)

pub new_put : (v r x : ℕ) → v < 2 ^ 8 → x ≡ v → r ≡ x + 0xff00 → chip_in r ≡ opened v
unfolding opened
new_put v r x h ex e = parts r v 255 0 0 0 0 0 0 0 0 (omega arith) (omega arith) (omega arith) (omega arith) (omega arith) (omega arith) (omega arith) (omega arith) (omega arith) (omega arith)

pub icw1_put : (w v r x : ℕ) → x ≡ v → r ≡ w / 2 ^ 44 * 2 ^ 44 + x % 4 * 2 ^ 40 + 2 ^ 32 + w % 2 ^ 16 → chip_in r ≡ icw1 (chip_in w) v
unfolding chip_in
icw1_put w v r x ex e =
    parts r (w % 2 ^ 8) (byte w 8) 0 0 1 (v % 2) (v / 2 % 2) 0 0 (w / 2 ^ 44)
    (omega arith) (omega arith) (omega arith) (omega arith) (omega arith) (omega arith) (omega arith) (omega arith) (omega arith) (omega arith)
    ∙ simp div-one

-- ---- one line of a byte

-- bit k of a number's byte is bit k of the number
low_bit : (x k : ℕ) → k < 8 → x % 2 ^ 8 / 2 ^ k % 2 ≡ x / 2 ^ k % 2
low_bit x k h =
    let a : 8 - k + k ≡ 8 = omega arith in
    let b : 7 - k + 1 ≡ 8 - k = omega arith in
    ap (λ (m : ℕ). x % 2 ^ m / 2 ^ k % 2) (sym a) ∙ ap (λ (m : ℕ). m % 2) (field x (8 - k) k)
    ∙ ap (λ (m : ℕ). x / 2 ^ k % 2 ^ m % 2) (sym b) ∙ mod-mod-pow (x / 2 ^ k) (7 - k) 1

-- so bit k of a byte that stands from bit n up in a word is the word's bit k + n
byte_bit : (w n s k : ℕ) → w / 2 ^ n % 2 ^ 8 ≡ s → k < 8 → bit w (k + n) ≡ bit s k
byte_bit w n s k e h =
    let a : w / 2 ^ (k + n) ≡ w / 2 ^ n / 2 ^ k = ap (λ (m : ℕ). w / m) (pow-add 2 k n ∙ mul_comm (2 ^ k) (2 ^ n)) ∙ sym (div-div-eq-div-mul w (2 ^ n) (2 ^ k)) in
    ap (λ (d : ℕ). eqb d 1) (ap (λ (m : ℕ). m % 2) a ∙ sym (low_bit (w / 2 ^ n) k h) ∙ ap (λ (m : ℕ). m / 2 ^ k % 2) e)

module _ (w r s n k : ℕ) (e : w ≡ r + s * 2 ^ n) (same : bit w (k + n) ≡ bit s k) where
  with_at : with w (k + n) ≡ r + with s k * 2 ^ n
  unfolding with
  with_at = rw same (go (bit s k))
    where
      go : (b : Bool) → cond b w (w + 2 ^ (k + n)) ≡ r + cond b s (s + 2 ^ k) * 2 ^ n
      go true = e
      go false = omega (arith, e, pow-add 2 k n, add-mul s (2 ^ k) (2 ^ n))

  without_at : without w (k + n) ≡ r + without s k * 2 ^ n
  unfolding without
  without_at = rw same (go (bit s k) refl)
    where
      go : (b : Bool) → bit s k ≡ b → cond b (w - 2 ^ (k + n)) w ≡ r + cond b (s - 2 ^ k) s * 2 ^ n
      go true q =
          let d : s ≡ s - 2 ^ k + 2 ^ k = omega (arith, bit_at_least s k q) in
          let m : s * 2 ^ n ≡ (s - 2 ^ k) * 2 ^ n + 2 ^ k * 2 ^ n = ap (λ (x : ℕ). x * 2 ^ n) d ∙ add-mul (s - 2 ^ k) (2 ^ k) (2 ^ n) in
          omega (arith, e, m, pow-add 2 k n)
      go false q = e

module _ (w k r n : ℕ) (h : k < 8) (en : n ≡ k) where
  pub requested_put : r ≡ with w (n + 16) → chip_in r ≡ with_request (chip_in w) (with (chip_in w).request k)
  unfolding chip_in
  requested_put en' =
      let e : r ≡ with w (k + 16) = en' ∙ ap (λ (m : ℕ). with w (m + 16)) en in
      request_put w (with (byte w 16) k) r (with_lt 8 (byte w 16) k (omega arith) h)
      (omega (arith, with_at w (w / 2 ^ 24 * 2 ^ 24 + w % 2 ^ 16) (byte w 16) 16 k (omega arith) (byte_bit w 16 (byte w 16) k refl h)))

  pub unrequested_put : r ≡ without w (n + 16) → chip_in r ≡ with_request (chip_in w) (without (chip_in w).request k)
  unfolding chip_in
  unrequested_put en' =
      let e : r ≡ without w (k + 16) = en' ∙ ap (λ (m : ℕ). without w (m + 16)) en in
      request_put w (without (byte w 16) k) r (omega (arith, without_le (byte w 16) k))
      (omega (arith, without_at w (w / 2 ^ 24 * 2 ^ 24 + w % 2 ^ 16) (byte w 16) 16 k (omega arith) (byte_bit w 16 (byte w 16) k refl h)))

  pub served_put : r ≡ with w (n + 24) → chip_in r ≡ with_in_service (chip_in w) (with (chip_in w).in_service k)
  unfolding chip_in
  served_put en' =
      let e : r ≡ with w (k + 24) = en' ∙ ap (λ (m : ℕ). with w (m + 24)) en in
      service_put w (with (byte w 24) k) r _ (with_lt 8 (byte w 24) k (omega arith) h) refl
      (omega (arith, with_at w (w / 2 ^ 32 * 2 ^ 32 + w % 2 ^ 24) (byte w 24) 24 k (omega arith) (byte_bit w 24 (byte w 24) k refl h)))

  pub ended_put : r ≡ without w (n + 24) → chip_in r ≡ specific_eoi (chip_in w) k
  unfolding chip_in
  ended_put en' =
      let e : r ≡ without w (k + 24) = en' ∙ ap (λ (m : ℕ). without w (m + 24)) en in
      service_put w (without (byte w 24) k) r _ (omega (arith, without_le (byte w 24) k)) refl
      (omega (arith, without_at w (w / 2 ^ 32 * 2 ^ 32 + w % 2 ^ 24) (byte w 24) 24 k (omega arith) (byte_bit w 24 (byte w 24) k refl h)))

-- ---- the registers and what is left are all of the word: a chip has one word

flag_digit : (n : ℕ) → flag (eqb (n % 2) 1) ≡ n % 2
flag_digit n = go (eqb (n % 2) 1) refl
  where
    go : (b : Bool) → eqb (n % 2) 1 ≡ b → flag b ≡ n % 2
    go true e = sym (eqb-true (n % 2) 1 e)
    go false e = omega (arith, eqb-false (n % 2) 1 e)

module _ (v w d : ℕ) where
  above_and_here : (e : ℕ) → v / (d * e) ≡ w / (d * e) → v / d % e ≡ w / d % e → v / d ≡ w / d
  above_and_here e h k =
      sym (div-add-mod' (v / d) e) ∙ ap₂ (λ (x y : ℕ). x * e + y) (div-div-eq-div-mul v d e ∙ h ∙ sym (div-div-eq-div-mul w d e)) k ∙ div-add-mod' (w / d) e

  above_and_flag : v / (d * 2) ≡ w / (d * 2) → eqb (v / d % 2) 1 ≡ eqb (w / d % 2) 1 → v / d ≡ w / d
  above_and_flag h k = above_and_here 2 h (sym (flag_digit (v / d)) ∙ ap flag k ∙ flag_digit (w / d))

pub word_same : (v w : ℕ) → chip_in v ≡ chip_in w → v ≡ w
unfolding chip_in
word_same v w q =
    let g43 : v / 2 ^ 43 ≡ w / 2 ^ 43 = above_and_flag v w (2 ^ 43) (ap (λ (c : Chip). c.spare) q) (ap (λ (c : Chip). c.read_isr) q) in
    let g42 : v / 2 ^ 42 ≡ w / 2 ^ 42 = above_and_flag v w (2 ^ 42) g43 (ap (λ (c : Chip). c.auto_eoi) q) in
    let g41 : v / 2 ^ 41 ≡ w / 2 ^ 41 = above_and_flag v w (2 ^ 41) g42 (ap (λ (c : Chip). c.single) q) in
    let g40 : v / 2 ^ 40 ≡ w / 2 ^ 40 = above_and_flag v w (2 ^ 40) g41 (ap (λ (c : Chip). c.needs_icw4) q) in
    let g32 : v / 2 ^ 32 ≡ w / 2 ^ 32 = above_and_here v w (2 ^ 32) (2 ^ 8) g40 (ap (λ (c : Chip). c.init_step) q) in
    let g24 : v / 2 ^ 24 ≡ w / 2 ^ 24 = above_and_here v w (2 ^ 24) (2 ^ 8) g32 (ap (λ (c : Chip). c.in_service) q) in
    let g16 : v / 2 ^ 16 ≡ w / 2 ^ 16 = above_and_here v w (2 ^ 16) (2 ^ 8) g24 (ap (λ (c : Chip). c.request) q) in
    let g8 : v / 2 ^ 8 ≡ w / 2 ^ 8 = above_and_here v w (2 ^ 8) (2 ^ 8) g16 (ap (λ (c : Chip). c.mask) q) in
    sym (div-add-mod' v (2 ^ 8)) ∙ ap₂ (λ (x y : ℕ). x * 2 ^ 8 + y) g8 (ap (λ (c : Chip). c.vector_base) q) ∙ div-add-mod' w (2 ^ 8)

-- ---- what the command port shows stands in a byte of the word, from a bit that the read choice says

pub status_read : (w : ℕ) → w / 2 ^ (w / 2 ^ 43 % 2 * 8 + 16) % 2 ^ 8 ≡ command_read (chip_in w)
unfolding chip_in command_read
status_read w = go (eqb (w / 2 ^ 43 % 2) 1) refl
  where
    from : ℕ → ℕ
    from n = w / 2 ^ (n * 8 + 16) % 2 ^ 8

    go : (b : Bool) → eqb (w / 2 ^ 43 % 2) 1 ≡ b → from (w / 2 ^ 43 % 2) ≡ cond b (w / 2 ^ 24 % 2 ^ 8) (w / 2 ^ 16 % 2 ^ 8)
    go true e = ap from (eqb-true (w / 2 ^ 43 % 2) 1 e)
    go false e = let z : w / 2 ^ 43 % 2 ≡ 0 = omega (arith, eqb-false (w / 2 ^ 43 % 2) 1 e) in ap from z

-- ---- the full profile's registers stand in what is left

pub lowest_line_read : (w r : ℕ) → r ≡ (w / 2 ^ 44 + 7) % 8 → r ≡ (full_in w).lowest_line
unfolding chip_in
lowest_line_read w r e = e

pub auto_rotation_read : (w : ℕ) → eqb (w / 2 ^ 47 % 2) 1 ≡ (full_in w).auto_rotation
unfolding chip_in
auto_rotation_read w = let d : w / 2 ^ 47 % 2 ≡ w / 2 ^ 44 / 2 ^ 3 % 2 = omega arith in ap (λ (n : ℕ). eqb n 1) d

module _ (w : ℕ) where
  pub special_mask_read : eqb (w / 2 ^ 48 % 2) 1 ≡ (full_in w).special_mask
  unfolding chip_in
  special_mask_read = let d : w / 2 ^ 48 % 2 ≡ w / 2 ^ 44 / 2 ^ 4 % 2 = omega arith in ap (λ (n : ℕ). eqb n 1) d

  pub poll_read_lem : eqb (w / 2 ^ 49 % 2) 1 ≡ (full_in w).poll
  unfolding chip_in
  poll_read_lem = let d : w / 2 ^ 49 % 2 ≡ w / 2 ^ 44 / 2 ^ 5 % 2 = omega arith in ap (λ (n : ℕ). eqb n 1) d

  pub nested_read : eqb (w / 2 ^ 50 % 2) 1 ≡ (full_in w).nested
  unfolding chip_in
  nested_read = let d : w / 2 ^ 50 % 2 ≡ w / 2 ^ 44 / 2 ^ 6 % 2 = omega arith in ap (λ (n : ℕ). eqb n 1) d

-- a word with something else in what is left: the chip's own registers stay
left_put : (w r x : ℕ) → r ≡ x * 2 ^ 44 + w % 2 ^ 44 → chip_in r ≡ plain_registers (w % 2 ^ 8) (byte w 8) (byte w 16) (byte w 24) (byte w 32) (bit w 40) (bit w 41) (bit w 42) (bit w 43) x
left_put w r x e =
    parts r (w % 2 ^ 8) (byte w 8) (byte w 16) (byte w 24) (byte w 32) (digit w 40) (digit w 41) (digit w 42) (digit w 43) x
    (omega arith) (omega arith) (omega arith) (omega arith) (omega arith) (omega arith) (omega arith) (omega arith) (omega arith) (omega arith)

-- a number x that is y but for its lowest three digits, or but for one of the four above them
record Digits (x y lo v3 v4 v5 v6 : ℕ) : Type 0 where
  order : (x + 7) % 2 ^ 3 ≡ lo
  three : x / 2 ^ 3 % 2 ≡ v3
  four : x / 2 ^ 4 % 2 ≡ v4
  five : x / 2 ^ 5 % 2 ≡ v5
  six : x / 2 ^ 6 % 2 ≡ v6
  left : x / 2 ^ 7 ≡ y / 2 ^ 7

abbrev order : ℕ → ℕ
order y = (y + 7) % 2 ^ 3

further : (x y m e : ℕ) → x / m ≡ y / m → x / (m * e) ≡ y / (m * e)
further x y m e h = sym (div-div-eq-div-mul x m e) ∙ ap (λ (z : ℕ). z / e) h ∙ div-div-eq-div-mul y m e

order_digits : (y v : ℕ) → v < 8 → Digits (y / 8 * 8 + (v + 1) % 8) y v (digit y 3) (digit y 4) (digit y 5) (digit y 6)
order_digits y v h =
    let x = y / 8 * 8 + (v + 1) % 8 in
    let t : x / 8 ≡ y / 8 = omega arith in
    record { order = omega arith; three = ap (λ (z : ℕ). z % 2) t; four = ap (λ (z : ℕ). z % 2) (further x y 8 2 t); five = ap (λ (z : ℕ). z % 2) (further x y 8 4 t); six = ap (λ (z : ℕ). z % 2) (further x y 8 8 t); left = further x y 8 16 t }

module _ (y v : ℕ) (h : v ≤ 1) where
  rotation_digits : Digits (y / 16 * 16 + v * 8 + y % 8) y (order y) v (digit y 4) (digit y 5) (digit y 6)
  rotation_digits =
      let x = y / 16 * 16 + v * 8 + y % 8 in
      let t : x / 16 ≡ y / 16 = omega arith in
      record { order = omega arith; three = omega arith; four = omega arith; five = ap (λ (z : ℕ). z % 2) (further x y 16 2 t); six = ap (λ (z : ℕ). z % 2) (further x y 16 4 t); left = further x y 16 8 t }

  special_digits : Digits (y / 32 * 32 + v * 16 + y % 16) y (order y) (digit y 3) v (digit y 5) (digit y 6)
  special_digits =
      let x = y / 32 * 32 + v * 16 + y % 16 in
      let t : x / 32 ≡ y / 32 = omega arith in
      record { order = omega arith; three = omega arith; four = omega arith; five = omega arith; six = ap (λ (z : ℕ). z % 2) (further x y 32 2 t); left = further x y 32 4 t }

  poll_digits : Digits (y / 64 * 64 + v * 32 + y % 32) y (order y) (digit y 3) (digit y 4) v (digit y 6)
  poll_digits = record { order = omega arith; three = omega arith; four = omega arith; five = omega arith; six = omega arith; left = omega arith }

  nested_digits : Digits (y / 128 * 128 + v * 64 + y % 64) y (order y) (digit y 3) (digit y 4) (digit y 5) v
  nested_digits = record { order = omega arith; three = omega arith; four = omega arith; five = omega arith; six = omega arith; left = omega arith }

-- the full profile's registers by the digits of what is left, x, which was w's
full_put : (w r x lo v3 v4 v5 v6 : ℕ) → r ≡ x * 2 ^ 44 + w % 2 ^ 44 → Digits x (w / 2 ^ 44) lo v3 v4 v5 v6
    → full_in r
    ≡ registers (w % 2 ^ 8) (byte w 8) (byte w 16) (byte w 24) (byte w 32) (bit w 40) (bit w 41) (bit w 42) (bit w 43) true false lo (eqb v3 1) (eqb v4 1) (eqb v5 1) (eqb v6 1) (w / 2 ^ 44 / 2 ^ 7)
full_put w r x lo v3 v4 v5 v6 e d =
    ap as_full (left_put w r x e)
    ∙ (λ i. registers (w % 2 ^ 8) (byte w 8) (byte w 16) (byte w 24) (byte w 32) (bit w 40) (bit w 41) (bit w 42) (bit w 43) true false (d.order i) (eqb (d.three i) 1) (eqb (d.four i) 1) (eqb (d.five i) 1) (eqb (d.six i) 1) (d.left i))

pub lowest_put : (w v r x : ℕ) → v < 8 → x ≡ v → r ≡ w / 2 ^ 47 * 2 ^ 47 + (x + 1) % 8 * 2 ^ 44 + w % 2 ^ 44 → full_in r ≡ with_lowest (full_in w) v
unfolding chip_in
lowest_put w v r x h ex e =
    let y = w / 2 ^ 44 in
    full_put w r (y / 8 * 8 + (v + 1) % 8) v (digit y 3) (digit y 4) (digit y 5) (digit y 6) (omega (arith, div-div-eq-div-mul w (2 ^ 44) 8)) (order_digits y v h)

-- one of its flags is put
module _ (w r : ℕ) (b : Bool) where
  abbrev v : ℕ
  v = from_bool b

  h : v ≤ 1
  h = digit_le b

  put : eqb v 1 ≡ b
  put = digit_back b

  pub rotation_put : r ≡ marked w 47 b → full_in r ≡ with_auto_rotation (full_in w) b
  unfolding chip_in
  rotation_put m =
      let e : r ≡ (w / 2 ^ 47 / 2 * 2 + v) * 2 ^ 47 + w % 2 ^ 47 = m ∙ marked_is w 47 b in
      let y = w / 2 ^ 44 in
      full_put w r (y / 16 * 16 + v * 8 + y % 8) (order y) v (digit y 4) (digit y 5) (digit y 6) (omega (arith, div-div-eq-div-mul w (2 ^ 44) 16, div-div-eq-div-mul w (2 ^ 44) 8)) (rotation_digits y v h)
      ∙ ap (with_auto_rotation (full_in w)) put

  pub special_put : r ≡ marked w 48 b → full_in r ≡ with_special_mask (full_in w) b
  unfolding chip_in
  special_put m =
      let e : r ≡ (w / 2 ^ 48 / 2 * 2 + v) * 2 ^ 48 + w % 2 ^ 48 = m ∙ marked_is w 48 b in
      let y = w / 2 ^ 44 in
      full_put w r (y / 32 * 32 + v * 16 + y % 16) (order y) (digit y 3) v (digit y 5) (digit y 6) (omega (arith, div-div-eq-div-mul w (2 ^ 44) 32, div-div-eq-div-mul w (2 ^ 44) 16)) (special_digits y v h)
      ∙ ap (with_special_mask (full_in w)) put

  pub poll_put : r ≡ marked w 49 b → full_in r ≡ with_poll (full_in w) b
  unfolding chip_in
  poll_put m =
      let e : r ≡ (w / 2 ^ 49 / 2 * 2 + v) * 2 ^ 49 + w % 2 ^ 49 = m ∙ marked_is w 49 b in
      let y = w / 2 ^ 44 in
      full_put w r (y / 64 * 64 + v * 32 + y % 32) (order y) (digit y 3) (digit y 4) v (digit y 6) (omega (arith, div-div-eq-div-mul w (2 ^ 44) 64, div-div-eq-div-mul w (2 ^ 44) 32)) (poll_digits y v h)
      ∙ ap (with_poll (full_in w)) put

  pub nested_put : r ≡ marked w 50 b → full_in r ≡ with_nested (full_in w) b
  unfolding chip_in
  nested_put m =
      let e : r ≡ (w / 2 ^ 50 / 2 * 2 + v) * 2 ^ 50 + w % 2 ^ 50 = m ∙ marked_is w 50 b in
      let y = w / 2 ^ 44 in
      full_put w r (y / 128 * 128 + v * 64 + y % 64) (order y) (digit y 3) (digit y 4) (digit y 5) v (omega (arith, div-div-eq-div-mul w (2 ^ 44) 128, div-div-eq-div-mul w (2 ^ 44) 64)) (nested_digits y v h)
      ∙ ap (with_nested (full_in w)) put

pub full_icw1_put : (w v r x : ℕ) → x ≡ v → r ≡ w / 2 ^ 51 * 2 ^ 51 + x % 4 * 2 ^ 40 + 2 ^ 32 + w % 2 ^ 8 → full_in r ≡ icw1 (full_in w) v
unfolding chip_in
full_icw1_put w v r x ex e =
    let s = w / 2 ^ 51 * 128 in
    let a : (s + 7) % 2 ^ 3 ≡ 7 = omega arith in
    let b3 : s / 2 ^ 3 % 2 ≡ 0 = omega arith in
    let b4 : s / 2 ^ 4 % 2 ≡ 0 = omega arith in
    let b5 : s / 2 ^ 5 % 2 ≡ 0 = omega arith in
    let b6 : s / 2 ^ 6 % 2 ≡ 0 = omega arith in
    let c : s / 2 ^ 7 ≡ w / 2 ^ 44 / 2 ^ 7 = omega arith in
    ap as_full
    (parts r (w % 2 ^ 8) 0 0 0 1 (v % 2) (v / 2 % 2) 0 0 s
    (omega arith) (omega arith) (omega arith) (omega arith) (omega arith) (omega arith) (omega arith) (omega arith) (omega arith) (omega arith))
    ∙ (λ i. registers (w % 2 ^ 8) 0 0 0 1 (eqb (v % 2) 1) (eqb (v / 2 % 2) 1) false false true false (a i) (eqb (b3 i) 1) (eqb (b4 i) 1) (eqb (b5 i) 1) (eqb (b6 i) 1) (c i))
    ∙ simp div-one

eighths : (x y : ℕ) → x / 2 ^ 3 ≡ y / 2 ^ 3 → (x + 7) % 2 ^ 3 ≡ (y + 7) % 2 ^ 3 → x ≡ y
eighths x y d h = omega arith

-- so has a chip of the full profile, at either place of a pair: its registers and what is left are all that is left of the word
pub full_word_same : (b : Bool) (v w : ℕ) → placed b (full_in v) ≡ placed b (full_in w) → v ≡ w
unfolding chip_in
full_word_same b v w q =
    let x = v / 2 ^ 44 in
    let y = w / 2 ^ 44 in
    let g7 : x / 2 ^ 7 ≡ y / 2 ^ 7 = ap (λ (c : Chip). c.spare) q in
    let g6 : x / 2 ^ 6 ≡ y / 2 ^ 6 = above_and_flag x y (2 ^ 6) g7 (ap (λ (c : Chip). c.nested) q) in
    let g5 : x / 2 ^ 5 ≡ y / 2 ^ 5 = above_and_flag x y (2 ^ 5) g6 (ap (λ (c : Chip). c.poll) q) in
    let g4 : x / 2 ^ 4 ≡ y / 2 ^ 4 = above_and_flag x y (2 ^ 4) g5 (ap (λ (c : Chip). c.special_mask) q) in
    let g3 : x / 2 ^ 3 ≡ y / 2 ^ 3 = above_and_flag x y (2 ^ 3) g4 (ap (λ (c : Chip). c.auto_rotation) q) in
    let h : (x + 7) % 2 ^ 3 ≡ (y + 7) % 2 ^ 3 = ap (λ (c : Chip). c.lowest_line) q in
    let s : x ≡ y = eighths x y g3 h in
    word_same v w
    (λ i. plain_registers (q i).vector_base (q i).mask (q i).request (q i).in_service (q i).init_step (q i).needs_icw4 (q i).single (q i).auto_eoi (q i).read_isr (s i))
