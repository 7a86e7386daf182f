-- How restoring ends. Assumes nothing.
use Rattle.std.proofs.Common.{◌≡◌, ℕ, ◌≤◌, Bool, true, false, cond, List, length, refl, sym, ◌∙◌, ap, arith, le-ltb, Option, Some, None}
use Rattle.std.proofs.lemmas.Option.{none-some}
use Rattle.std.specs.Option.{unwrap_or}
use Rattle.types.specs.declared.Reply.TheVariants.{Refused, Nothing}
use Rattle.types.specs.declared.Refusal.TheVariants.{BadImage}
use Rattle.types.specs.Reply.{outcome_of}
use Rattle.image_format.specs.Image.{loaded_from}
use Rattle.image_format.specs.Reading.{is_read}
use Rattle.image_theorems.proofs.Exact.{read_length}
use Rattle.image.specs.Restore.{Chips, chips, io_of, apic_of, pair_of, chips_of, row_keeps, kept_chips, blank, row_in, not_restored, put_back, restored}

abbrev Three : Type 0
Three = List ℕ × List ℕ × List ℕ

abbrev three : List ℕ → Three
three row = (io_of row, apic_of row, pair_of row)

-- an image that is read isn't too short
module _ (s : List ℕ) (before : Chips) (r : Bool) (er : r ≡ is_read s) where
  pub not_read : r ≡ false → outcome_of before (Refused BadImage) ≡ restored s before
  unfolding restored
  not_read h = let x : is_read s ≡ false = sym er ∙ h in rw x

  module _ (h : r ≡ true) where
    was_read : restored s before ≡ put_back (row_in s) before
    unfolding restored
    was_read = let x : is_read s ≡ true = sym er ∙ h in rw x

    module _ (row : List ℕ) (ew : row ≡ loaded_from s blank) (o : Option Three) (eo : o ≡ kept_chips row) where
      row_is : row ≡ row_in s
      unfolding row_in
      row_is = let n : 628 ≤ length s = omega (arith, read_length s (sym er ∙ h)) in ew ∙ rw (le-ltb (length s) 628 n)

      pub not_kept : o ≡ None → outcome_of before (Refused BadImage) ≡ restored s before
      unfolding put_back
      not_kept e = rw was_read (go (row_keeps (row_in s)) (rw row_is at (sym eo ∙ e)))
        where
          go : (k : Bool) → cond {A = Option Three} k (Some (three (row_in s))) None ≡ None → outcome_of before (Refused BadImage) ≡ cond k (outcome_of (chips_of (row_in s)) Nothing) (not_restored before)
          go true q = absurd (none-some _ (sym q))
          go false q = refl

      pub all_kept : (t : Three) → o ≡ Some t → outcome_of (chips t.0 t.1 t.2) Nothing ≡ restored s before
      unfolding put_back
      all_kept t e = rw was_read (go (row_keeps (row_in s)) (rw row_is at (sym eo ∙ e)))
        where
          go : (k : Bool) → cond {A = Option Three} k (Some (three (row_in s))) None ≡ Some t → outcome_of (chips t.0 t.1 t.2) Nothing ≡ cond k (outcome_of (chips_of (row_in s)) Nothing) (not_restored before)
          go true q = ap (λ (p : Option Three). outcome_of (chips (unwrap_or p t).0 (unwrap_or p t).1 (unwrap_or p t).2) Nothing) (sym q)
          go false q = absurd (none-some _ q)
