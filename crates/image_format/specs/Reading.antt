-- How an image is read: a field by its row's header, a group by its fields. Each is told which row comes next, and answers which comes after it.
use Rattle.std.specs.Prelude.{ℕ, zero, suc, ◌+◌, ◌-◌, ◌/◌, ◌%◌, Bool, false, cond, ◌&&◌, List, ltb, leb, eqb, get_or, length, Option, Some, None}
use Rattle.std.specs.Option.{option_and_then}
use Rattle.image_format.specs.declared.Row.{Row}
use Rattle.image_format.specs.Format.{is_number, row_at}
use Rattle.image_format.specs.declared.Place.{Place}

-- where the next field starts, and its row; or that the image is refused
abbrev pub place : ℕ → ℕ → Option Place
place at k = Some record { at = at; row = k }

abbrev pub refused : Option Place
refused = None

-- the header of row r stands at `at`
abbrev pub is_head : List ℕ → ℕ → Row → Bool
is_head s at r = eqb (get_or s at 0) r.tag && (eqb (get_or s (at + 1) 0) (r.size % 256) && eqb (get_or s (at + 2) 0) (r.size / 256))

-- and its body ends by `end`
abbrev pub has_field : List ℕ → ℕ → ℕ → Row → Bool
has_field s at end r = leb (at + 3 + r.size) end && is_head s at r

-- the field of row k; the format has 80 rows
unfoldable pub stands : List ℕ → ℕ → ℕ → ℕ → Bool
stands s at end k = ltb k 80 && has_field s at end (row_at k)

-- a field by its header: g is what its body is as a group
unfoldable pub field_by' : List ℕ → ℕ → ℕ → ℕ → ℕ → Option Place → Option Place
field_by' s at end depth k g =
    cond (stands s at end k)
    (cond (is_number (row_at k)) (place (at + 3 + (row_at k).size) (k + 1))
    (cond (eqb depth 0) refused g))
    refused

-- a group by its first field f: rest is what follows the place where that ends
unfoldable pub group_by' : ℕ → ℕ → ℕ → Option Place → (Place → Option Place) → Option Place
group_by' at end k f rest = cond (eqb at end) (place at k) (option_and_then rest f)

-- a field and a group, in fewer than n steps. Remaining bytes and depth fall
unfoldable mutual
  pub field_by : ℕ → List ℕ → ℕ → ℕ → ℕ → ℕ → Option Place
  field_by zero s at end depth k = refused
  field_by (suc n) s at end depth k = field_by' s at end depth k (group_by n s (at + 3) (at + 3 + (row_at k).size) (depth - 1) (k + 1))

  pub group_by : ℕ → List ℕ → ℕ → ℕ → ℕ → ℕ → Option Place
  group_by zero s at end depth k = refused
  group_by (suc n) s at end depth k =
      group_by' at end k (field_by n s at end depth k) (λ next. group_by n s next.at end depth next.row)

-- the field at a place, to the end: a board's chips' words are four deep, so that three groups may open
unfoldable pub field_from : List ℕ → ℕ → ℕ → Option Place
field_from s at k = cond (ltb (length s) at) refused (field_by (length s + length s + 1) s at (length s) 3 k)

-- the whole of it is read: one field, up to the end, of all rows
abbrev pub is_whole : Option Place → ℕ → Bool
is_whole (Some p) n = eqb p.at n && eqb p.row 80
is_whole None n = false

unfoldable pub is_read : List ℕ → Bool
is_read s = is_whole (field_from s 0 0) (length s)
