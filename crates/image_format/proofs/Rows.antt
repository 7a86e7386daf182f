-- What is true of each row. Assumes nothing.
use mathlib.Core.Path.{◌≡◌, refl}
use mathlib.Core.Bool.{Bool, true, cond, ◌&&◌}
use mathlib.Core.List.{List, [], ◌∷◌}
use Prim.Native.Nat.{ℕ, zero, suc, ◌<◌, ◌≤◌}
use lib.Dec.{leb, ltb}
use lib.ListN.{get_or, length}
use borrow.Author.Tests.{ltb-true, leb-true}
use Rattle.utils.proofs.Bools.{and_true}
use Rattle.image_format.specs.declared.Row.{Row}
use Rattle.image_format.specs.Format.{row, IsRow, is_number, format, row_at, rise, TagsRise}

-- a test that holds of each row holds of row k, and of what stands past the last
each : (Row → Bool) → List Row → Bool
each p [] = p (row 0 0 0)
each p (r ∷ rows) = p r && each p rows

each_at : (p : Row → Bool) (rows : List Row) (k : ℕ) → each p rows ≡ true → p (get_or rows k (row 0 0 0)) ≡ true
unfolding each
each_at p [] k h = h
each_at p (r ∷ rows) zero h = (and_true (p r) (each p rows) h).0
each_at p (r ∷ rows) (suc k) h = each_at p rows k (and_true (p r) (each p rows) h).1

pub slot_small : (k : ℕ) → (row_at k).slot < 84
unfolding format each
slot_small k = ltb-true _ _ (each_at (λ (r : Row). ltb r.slot 84) format k refl)

pub number_small : (k : ℕ) → is_number (row_at k) ≡ true → (row_at k).size ≤ 8
unfolding format each
number_small k h = leb-true _ _ (go (is_number (row_at k)) h (each_at (λ (r : Row). cond (is_number r) (leb r.size 8) true) format k refl))
  where
    go : (b : Bool) → b ≡ true → cond b (leb (row_at k).size 8) true ≡ true → leb (row_at k).size 8 ≡ true
    go b e t = rw e at t

pub is_row : (k : ℕ) → IsRow (row_at k)
is_row k = (slot_small k, number_small k)

pub rows_are : length format ≡ 80
unfolding format
rows_are = refl

pub tags_rise : TagsRise
unfolding format rise
tags_rise = record { board = refl; ioapic = refl; apic = refl; pair = refl }
