-- How each test of the pair ends. Assumes nothing.
use mathlib.Core.Path.{◌≡◌, refl, sym, ◌∙◌, ap}
use mathlib.Core.Bool.{Bool, true, false, cond}
use mathlib.Core.List.{List}
use Prim.Native.Nat.{ℕ, ◌/◌, ◌%◌}
use lib.Dec.{eqb}
use lib.ListN.{get_or}
use borrow.Author.Tests.{eqb-true}
use Rattle.utils.specs.Set.{bit}
use Rattle.vpic_chip.specs.Registers.{Chip, chip_in, as_full, full_in, placed}
use Rattle.vpic_chip.specs.Chip.{asks}
use Rattle.vpic.specs.declared.PicRule.{PicRule}
use Rattle.vpic.specs.declared.PicRule.TheVariants.{Latch, Cascade, Full}
use Rattle.vpic.specs.Words.{is_full, plain_view, view}
use Rattle.vpic.specs.Pair.{rule_in}
use Rattle.image_rules.specs.Rules.{same, chip_keeps, cascade_keeps}

-- ---- one chip

abbrev chip_of : Bool → ℕ → Chip
chip_of full w = cond full (full_in w) (chip_in w)

module _ (w : ℕ) where
  -- a chip's place in the pair doesn't count
  pub chip_placed : (place full : Bool) → chip_keeps (cond full (placed place (full_in w)) (chip_in w)) ≡ chip_keeps (chip_of full w)
  chip_placed place true = refl
  chip_placed place false = refl

-- ---- the cascade

abbrev rule_by : Bool → Bool → PicRule
rule_by a b = cond a Cascade (cond b Full Latch)

by_cascade : (a b : Bool) → rule_by a b ≡ Cascade → a ≡ true
by_cascade true b e = refl
by_cascade false true e = cc
by_cascade false false e = cc

by_full : (a b : Bool) → rule_by a b ≡ Full → b ≡ true
by_full true b e = cc
by_full false true e = refl
by_full false false e = cc

module _ (l : List ℕ) where
  pub cascade_latch : (r : PicRule) → r ≡ rule_in (plain_view l).rule → r ≡ Latch → true ≡ cascade_keeps (view l)
  unfolding plain_view view
  cascade_latch r e h = let x : rule_in (get_or l 2 0) ≡ Latch = sym e ∙ h in rw x

  module _ (m s q : ℕ) (em : chip_in m ≡ (plain_view l).master) (es : chip_in s ≡ (plain_view l).slave) (eq : q ≡ (chip_in m).request) where
    pub cascade_plain : (r : PicRule) (a t : Bool) → r ≡ rule_in (plain_view l).rule → r ≡ Cascade → a ≡ asks (chip_in s) → t ≡ same (eqb (q / 4 % 2) 1) a → t ≡ cascade_keeps (view l)
    unfolding plain_view view
    cascade_plain r a t e h ea et =
        let x : rule_in (get_or l 2 0) ≡ Cascade = sym e ∙ h in
        let one : get_or l 2 0 ≡ 1 = eqb-true (get_or l 2 0) 1 (by_cascade (eqb (get_or l 2 0) 1) (eqb (get_or l 2 0) 2) x) in
        let f : is_full (get_or l 2 0) ≡ false = ap is_full one in
        rw (x, f) (et ∙ ap (λ (b : Bool). same (eqb (q / 4 % 2) 1) b) (ea ∙ ap asks es) ∙ ap (λ (n : ℕ). same (bit n 2) (asks (plain_view l).slave)) (eq ∙ ap (λ (c : Chip). c.request) em))

    pub cascade_full : (r : PicRule) (a t : Bool) → r ≡ rule_in (plain_view l).rule → r ≡ Full → a ≡ asks (placed false (full_in s)) → t ≡ same (eqb (q / 4 % 2) 1) a → t ≡ cascade_keeps (view l)
    unfolding plain_view view
    cascade_full r a t e h ea et =
        let x : rule_in (get_or l 2 0) ≡ Full = sym e ∙ h in
        let f : is_full (get_or l 2 0) ≡ true = by_full (eqb (get_or l 2 0) 1) (eqb (get_or l 2 0) 2) x in
        rw (x, f) (et ∙ ap (λ (b : Bool). same (eqb (q / 4 % 2) 1) b) (ea ∙ ap (λ (c : Chip). asks (placed false (as_full c))) es) ∙ ap (λ (n : ℕ). same (bit n 2) (asks (placed false (as_full (plain_view l).slave)))) (eq ∙ ap (λ (c : Chip). c.request) em))
