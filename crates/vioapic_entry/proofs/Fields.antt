-- What setting and clearing Remote IRR, and writing a half of the register, do to its fields. Assumes nothing.
use Prim.Native.Nat.{ℕ, zero, suc, ◌+◌, ◌-◌, ◌*◌, ◌/◌, ◌%◌, ◌^◌, ◌<◌}
use native.Mathlib.Omega.{arith}
use mathlib.Core.Bool.{Bool, true, false, cond}
use mathlib.Core.Path.{◌≡◌, refl, sym, ◌∙◌, ap}
use borrow.Author.Tests.{eq-eqb, ne_eqb, eqb-true, eqb-false}
use Rattle.utils.specs.Set.{bit, with, without}
use Rattle.types.specs.declared.Vector.{Vector}
use Rattle.vioapic_entry.specs.Redirection.{remote_irr, is_level, is_fit, has_vector, with_remote_irr, without_remote_irr, low_part, replace_low, replace_high, without_status, keeps_flight, replace_low20}

-- two registers with the same vector, delivery mode, trigger mode and mask
pub record Alike (u w : ℕ) : Type 0 where
  pub vector : u % 256 ≡ w % 256
  pub mode : u / 256 % 8 ≡ w / 256 % 8
  pub trigger : u / 32768 % 2 ≡ w / 32768 % 2
  pub mask : u / 65536 % 2 ≡ w / 65536 % 2

pub alike_refl : (w : ℕ) → Alike w w
alike_refl w = record { vector = refl; mode = refl; trigger = refl; mask = refl }

pub alike_then : {t u w : ℕ} → Alike t u → Alike u w → Alike t w
alike_then a b = record { vector = a.vector ∙ b.vector; mode = a.mode ∙ b.mode; trigger = a.trigger ∙ b.trigger; mask = a.mask ∙ b.mask }

module _ {u w : ℕ} (a : Alike u w) where
  pub same_fit : is_fit u ≡ is_fit w
  same_fit = rw (a.mask, a.mode, a.vector)

  pub same_level : is_level u ≡ is_level w
  same_level = rw a.trigger

  pub same_vector : (v : Vector) → has_vector u v ≡ has_vector w v
  same_vector v = rw a.vector

bit_down : (n : ℕ) → n < 2 → (n ≡ 1 → ⊥) → n ≡ 0
bit_down zero h k = refl
bit_down (suc zero) h k = absurd (k refl)
bit_down (suc (suc n)) h k = absurd (omega arith)

-- as the word's set has it
module _ (w : ℕ) where
  pub with_irr : with w 14 ≡ with_remote_irr w
  unfolding with
  with_irr = go (bit w 14) refl
    where
      go : (b : Bool) → bit w 14 ≡ b → cond b w (w + 2 ^ 14) ≡ with_remote_irr w
      go true h = let e : w / 2 ^ 14 % 2 ≡ 1 = eqb-true _ _ h in omega (arith, e)
      go false h = let e : w / 2 ^ 14 % 2 ≡ 0 = bit_down _ (omega arith) (eqb-false _ _ h) in omega (arith, e)

  pub without_irr : without w 14 ≡ without_remote_irr w
  unfolding without
  without_irr = go (bit w 14) refl
    where
      go : (b : Bool) → bit w 14 ≡ b → cond b (w - 2 ^ 14) w ≡ without_remote_irr w
      go true h = let e : w / 2 ^ 14 % 2 ≡ 1 = eqb-true _ _ h in omega (arith, e)
      go false h = let e : w / 2 ^ 14 % 2 ≡ 0 = bit_down _ (omega arith) (eqb-false _ _ h) in omega (arith, e)

  pub without_status_bit : without w 12 ≡ without_status w
  unfolding without
  without_status_bit = go (bit w 12) refl
    where
      go : (b : Bool) → bit w 12 ≡ b → cond b (w - 2 ^ 12) w ≡ without_status w
      go true h = let e : w / 2 ^ 12 % 2 ≡ 1 = eqb-true _ _ h in omega (arith, e)
      go false h = let e : w / 2 ^ 12 % 2 ≡ 0 = bit_down _ (omega arith) (eqb-false _ _ h) in omega (arith, e)

-- bits 15 and 16 stand above Remote IRR
upper : (u w : ℕ) → u / 32768 ≡ w / 32768 → (u / 32768 % 2 ≡ w / 32768 % 2) × (u / 65536 % 2 ≡ w / 65536 % 2)
upper u w e =
    let p : u / 65536 ≡ u / 32768 / 2 = omega arith in
    let q : w / 65536 ≡ w / 32768 / 2 = omega arith in
    (ap (λ (n : ℕ). n % 2) e, ap (λ (n : ℕ). n % 2) (p ∙ ap (λ (n : ℕ). n / 2) e ∙ sym q))

alike_upper : (u w : ℕ) → u % 256 ≡ w % 256 → u / 256 % 8 ≡ w / 256 % 8 → u / 32768 ≡ w / 32768 → Alike u w
alike_upper u w v m e = let p = upper u w e in record { vector = v; mode = m; trigger = p.0; mask = p.1 }

pub alike_with : (w : ℕ) → Alike (with_remote_irr w) w
alike_with w = alike_upper (with_remote_irr w) w (omega arith) (omega arith) (omega arith)

pub alike_without : (w : ℕ) → Alike (without_remote_irr w) w
alike_without w = alike_upper (without_remote_irr w) w (omega arith) (omega arith) (omega arith)

pub alike_high : (w x : ℕ) → Alike (replace_high w x) w
alike_high w x = record { vector = omega arith; mode = omega arith; trigger = omega arith; mask = omega arith }

pub irr_with : (w : ℕ) → remote_irr (with_remote_irr w) ≡ true
irr_with w = eq-eqb (with_remote_irr w / 16384 % 2) 1 (omega arith)

pub irr_without : (w : ℕ) → remote_irr (without_remote_irr w) ≡ false
irr_without w = ne_eqb (without_remote_irr w / 16384 % 2) 1 (omega arith)

pub irr_low : (w x : ℕ) → remote_irr (replace_low w x) ≡ false
irr_low w x = ne_eqb (replace_low w x / 16384 % 2) 1 (omega arith)

irr_bit_high : (w x : ℕ) → replace_high w x / 16384 % 2 ≡ w / 16384 % 2
irr_bit_high w x = omega arith

pub irr_high : (w x : ℕ) → remote_irr (replace_high w x) ≡ remote_irr w
irr_high w x = rw (irr_bit_high w x)

-- another low word is the one that was written
pub low_written : (w x : ℕ) → x < 4294967296 → low_part (replace_low w x) ≡ without_remote_irr x
low_written w x h = omega arith

-- ---- version 0x20

-- a level word: Remote IRR is taken over as it stands
pub level_low : (w x : ℕ) → w / 4294967296 * 4294967296 + w / 16384 % 2 * 16384 + without_remote_irr x ≡ cond (remote_irr w) (with_remote_irr (replace_low w x)) (replace_low w x)
level_low w x = go (remote_irr w) refl
  where
    go : (b : Bool) → remote_irr w ≡ b → w / 4294967296 * 4294967296 + w / 16384 % 2 * 16384 + without_remote_irr x ≡ cond b (with_remote_irr (replace_low w x)) (replace_low w x)
    go true h = let e : w / 16384 % 2 ≡ 1 = eqb-true (w / 16384 % 2) 1 h in omega (arith, e)
    go false h =
        let e : w / 16384 % 2 ≡ 0 = bit_down (w / 16384 % 2) (omega arith) (eqb-false (w / 16384 % 2) 1 h) in
        omega (arith, e)

pub status_clear : (w : ℕ) → bit w 12 ≡ false → without_status w ≡ w
status_clear w h =
    let e : w / 4096 % 2 ≡ 0 = bit_down (w / 4096 % 2) (omega arith) (eqb-false (w / 4096 % 2) 1 h) in
    omega (arith, e)

alike_status : (x : ℕ) → Alike (without_status x) x
alike_status x =
    let e : without_status x / 8192 ≡ x / 8192 = omega arith in
    let t : (n : ℕ) → n / 32768 ≡ n / 8192 / 4 = λ n. omega arith in
    alike_upper (without_status x) x (omega arith) (omega arith) (t (without_status x) ∙ ap (λ (n : ℕ). n / 4) e ∙ sym (t x))

low_bit : (u a y : ℕ) → u ≡ a * 2 + y → u % 2 ≡ y % 2
low_bit u a y e = omega arith

alike_low : (w x : ℕ) → Alike (replace_low w x) x
alike_low w x =
    let e : replace_low w x / 32768 ≡ w / 4294967296 * 131072 + x / 32768 = omega arith in
    let f : replace_low w x / 65536 ≡ w / 4294967296 * 65536 + x / 65536 = omega arith in
    record { vector = omega arith; mode = omega arith; trigger = low_bit _ (w / 4294967296 * 65536) _ (omega (arith, e)); mask = low_bit _ (w / 4294967296 * 32768) _ (omega (arith, f)) }

-- another low word has the fields of the one that was written
pub alike_low20 : (w x : ℕ) → Alike (replace_low20 w x) x
alike_low20 w x = go (keeps_flight w x)
  where
    fields : Alike (replace_low w (without_status x)) x
    fields = alike_then (alike_low w (without_status x)) (alike_status x)

    go : (b : Bool) → Alike (cond b (with_remote_irr (replace_low w (without_status x))) (replace_low w (without_status x))) x
    go true = alike_then (alike_with (replace_low w (without_status x))) fields
    go false = fields

-- and it is in flight as before if it is level, else not
pub irr_low20 : (w x : ℕ) → remote_irr (replace_low20 w x) ≡ keeps_flight w x
irr_low20 w x = go (keeps_flight w x)
  where
    go : (b : Bool) → remote_irr (cond b (with_remote_irr (replace_low w (without_status x))) (replace_low w (without_status x))) ≡ b
    go true = irr_with (replace_low w (without_status x))
    go false = irr_low w (without_status x)
