-- A field by its header, a group by its first field, with any number of steps that is enough. Assumes nothing.
use mathlib.Core.Path.{◌≡◌, sym, ◌∙◌}
use mathlib.Core.Bool.{Bool, true, false}
use mathlib.Core.List.{List}
use Prim.Native.Nat.{ℕ, zero, suc, ◌+◌, ◌-◌, ◌<◌, ◌≤◌}
use native.Mathlib.Omega.{arith}
use lib.Dec.{leb, ltb}
use lib.ListN.{length}
use borrow.Author.Tests.{lt-ltb, ltb-true, leb-true}
use Rattle.utils.specs.Cases.{cases}
use Rattle.utils.proofs.Bools.{and_true}
use Rattle.image_format.specs.Format.{is_number, row_at}
use Rattle.image_format.specs.declared.Row.{Row}
use Rattle.std.specs.Prelude.{Option, Some, None}
use Rattle.image_format.specs.Reading.{place, refused, is_head, has_field, stands, field_by', group_by', field_by, group_by, field_from}
use Rattle.image_format.specs.declared.Place.{Place}

module _ (s : List ℕ) (at end k : ℕ) where
  pub stands_row : stands s at end k ≡ true → k < 80
  unfolding stands
  stands_row h = ltb-true _ _ (and_true (ltb k 80) _ h).0

  pub stands_fits : stands s at end k ≡ true → at + 3 + (row_at k).size ≤ end
  unfolding stands
  stands_fits h = leb-true _ _ (and_true (leb (at + 3 + (row_at k).size) end) (is_head s at (row_at k)) (and_true (ltb k 80) _ h).1).0

  -- by its row
  pub stands_by : (r : Row) (b : Bool) → k < 80 → r ≡ row_at k → b ≡ has_field s at end r → stands s at end k ≡ b
  unfolding stands
  stands_by r b l e h = rw (lt-ltb k 80 l, sym e) (sym h)

  pub no_row : 80 ≤ k → stands s at end k ≡ false
  unfolding stands
  no_row l = search cases

module _ (s : List ℕ) (at end depth k : ℕ) (g r : Option Place) where
  pub of_unread : stands s at end k ≡ false → r ≡ refused → r ≡ field_by' s at end depth k g
  unfolding field_by'
  of_unread o e = search cases

  module _ (o : stands s at end k ≡ true) where
    pub of_number : is_number (row_at k) ≡ true → r ≡ place (at + 3 + (row_at k).size) (k + 1) → r ≡ field_by' s at end depth k g
    unfolding field_by'
    of_number n e = search cases

    pub of_deep : is_number (row_at k) ≡ false → depth ≡ 0 → r ≡ refused → r ≡ field_by' s at end depth k g
    unfolding field_by'
    of_deep n d e = search cases

    pub of_group : is_number (row_at k) ≡ false → ((depth ≡ 0) → ⊥) → r ≡ g → r ≡ field_by' s at end depth k g
    unfolding field_by'
    of_group n d e = search cases

module _ (at end k : ℕ) (f : Option Place) (rest : Place → Option Place) (r : Option Place) where
  pub of_end : at ≡ end → r ≡ place at k → r ≡ group_by' at end k f rest
  unfolding group_by'
  of_end o e = search cases

  module _ (o : (at ≡ end) → ⊥) where
    pub of_refused : f ≡ None → r ≡ refused → r ≡ group_by' at end k f rest
    unfolding group_by'
    of_refused n e = rw n (search cases)

    pub of_more : (p : Place) → f ≡ Some p → r ≡ rest p → r ≡ group_by' at end k f rest
    unfolding group_by'
    of_more p n e = rw n (search cases)

module _ (s : List ℕ) (at end depth k : ℕ) (r : Option Place) where
  pub open_field : (m n : ℕ) → m < n → ((j : ℕ) → m ≤ j → r ≡ field_by' s at end depth k (group_by j s (at + 3) (at + 3 + (row_at k).size) (depth - 1) (k + 1))) → r ≡ field_by n s at end depth k
  unfolding field_by
  open_field m zero l go = absurd (omega arith)
  open_field m (suc j) l go = go j (omega arith)

  open_group : (m n : ℕ) → m < n → ((j : ℕ) → m ≤ j → r ≡ group_by' at end k (field_by j s at end depth k) (λ (next : Place). group_by j s next.at end depth next.row)) → r ≡ group_by n s at end depth k
  unfolding group_by
  open_group m zero l go = absurd (omega arith)
  open_group m (suc j) l go = go j (omega arith)

  module _ (m n : ℕ) (l : m < n) where
    pub group_end : at ≡ end → r ≡ place at k → r ≡ group_by n s at end depth k
    group_end o q = open_group m n l (λ j le. of_end at end k _ _ r o q)

    -- the first field is f
    module _ (f : Option Place) (ef : (j : ℕ) → m ≤ j → f ≡ field_by j s at end depth k) (o : (at ≡ end) → ⊥) where
      pub group_refused : f ≡ None → r ≡ refused → r ≡ group_by n s at end depth k
      group_refused u q = open_group m n l (λ j le. of_refused at end k _ _ r o (sym (ef j le) ∙ u) q)

      pub group_more : (p : Place) → f ≡ Some p → ((j : ℕ) → m ≤ j → r ≡ group_by j s p.at end depth p.row) → r ≡ group_by n s at end depth k
      group_more p u q = open_group m n l (λ j le. of_more at end k _ _ r o p (sym (ef j le) ∙ u) (q j le))

-- what a group answers from a place on; and it answers from here whatever it answers from a later one on
abbrev pub GroupIs : List ℕ → ℕ → ℕ → ℕ → ℕ → Option Place → Type 0
GroupIs s end depth at k r = (n : ℕ) → (end - at) + (end - at) + 1 < n → r ≡ group_by n s at end depth k

abbrev pub GoesOn : List ℕ → ℕ → ℕ → ℕ → ℕ → ℕ → ℕ → Type 0
GoesOn s end depth at k later row = (r : Option Place) → GroupIs s end depth later row r → GroupIs s end depth at k r

module _ (s : List ℕ) (at k : ℕ) (r : Option Place) where
  pub from_past : length s < at → r ≡ refused → r ≡ field_from s at k
  unfolding field_from
  from_past l e = search cases

  pub from_within : at ≤ length s → r ≡ field_by (length s + length s + 1) s at (length s) 3 k → r ≡ field_from s at k
  unfolding field_from
  from_within l e = search cases
