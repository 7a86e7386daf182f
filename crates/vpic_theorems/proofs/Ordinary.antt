-- Where the lines in service are in every line's way, as in fully nested mode without special mask mode; and a chip with nothing in service. Assumes nothing.
use mathlib.Core.Path.{◌≡◌, sym, ap, subst, ◌∙◌}
use mathlib.Core.Bool.{Bool, true, false, not, ◌&&◌}
use Prim.Native.Nat.{ℕ, ◌<◌}
use lib.Dec.{ltb, eqb}
use Rattle.vpic_priority.specs.Ring.{rank, first_rank}
use Rattle.vpic_priority.proofs.Ring.{first_rank_same, by_same}
use Rattle.utils.specs.Set.{bit}
use Rattle.utils.proofs.Bools.{and_true, not_is}
use Rattle.utils.proofs.Laws.{bit_none}
use Rattle.vpic_chip.specs.Registers.{Chip}
use Rattle.vpic_chip.specs.Chip.{lowest_by, first_of, is_above_all, is_special, is_nested, blocks, blocks_line, counts}
use Rattle.vpic_chip.proofs.Laws.{ordinary, ordinary_blocks, counted_above}
use Rattle.vpic_theorems.specs.Rotation.{is_ordinary}

-- every line in service ends by a plain EOI, and is in every line's way
abbrev pub Ended : Chip → Type 0
Ended c = (j : ℕ) → blocks c j ≡ bit c.in_service j

abbrev pub Plainly : Chip → Type 0
Plainly c = (k j : ℕ) → blocks_line c k j ≡ bit c.in_service j

pub special_off : (c : Chip) → is_ordinary c ≡ true → is_special c ≡ false
special_off c o = not_is (is_special c) (and_true (not (is_special c)) (not (is_nested c)) o).0

pub nested_off : (c : Chip) → is_ordinary c ≡ true → is_nested c ≡ false
nested_off c o = not_is (is_nested c) (and_true (not (is_special c)) (not (is_nested c)) o).1

pub ordinary_plainly : (c : Chip) → is_ordinary c ≡ true → Plainly c
ordinary_plainly c o = ordinary c (special_off c o) (nested_off c o)

pub ordinary_ended : (c : Chip) → is_ordinary c ≡ true → Ended c
ordinary_ended c o = ordinary_blocks c (special_off c o)

pub idle_ended : (c : Chip) → c.in_service ≡ 0 → Ended c
idle_ended c i j = let z : bit c.in_service j ≡ false = ap (λ (s : ℕ). bit s j) i ∙ bit_none j in ap (λ (b : Bool). b && not (is_special c && bit c.mask j)) z ∙ sym z

pub idle_plainly : (c : Chip) → c.in_service ≡ 0 → Plainly c
idle_plainly c i k j =
    let z : bit c.in_service j ≡ false = ap (λ (s : ℕ). bit s j) i ∙ bit_none j in
    ap (λ (b : Bool). b && not (is_special c && bit c.mask j) && not (is_nested c && eqb k 2 && eqb j 2)) z ∙ sym z

module _ (c : Chip) (h : Plainly c) where
  pub plainly_all : (k : ℕ) → is_above_all c k (blocks_line c k) ≡ is_above_all c k (bit c.in_service)
  plainly_all k = ap (ltb (rank (lowest_by c) k)) (first_rank_same (lowest_by c) (blocks_line c k) (bit c.in_service) (λ j l. h k j))

  pub plainly_counts : (k : ℕ) → counts c k ≡ (bit c.request k && not (bit c.mask k) && is_above_all c k (bit c.in_service))
  unfolding counts
  plainly_counts k = ap (λ (b : Bool). bit c.request k && not (bit c.mask k) && b) (plainly_all k)

  pub plainly_above : (k : ℕ) → counts c k ≡ true → rank (lowest_by c) k < first_rank (lowest_by c) (bit c.in_service)
  plainly_above k e =
      subst (λ (n : ℕ). rank (lowest_by c) k < n) (first_rank_same (lowest_by c) (blocks_line c k) (bit c.in_service) (λ j l. h k j)) (counted_above c k e)

pub ended_highest : (c : Chip) → Ended c → first_of c (blocks c) ≡ first_of c (bit c.in_service)
ended_highest c h = by_same (lowest_by c) (blocks c) (bit c.in_service) (λ j l. h j)
