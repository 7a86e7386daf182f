-- A tag that is none of the table's: what the last arm of a `match` knows, as the table says it. Assumes nothing.
use mathlib.Core.Path.{◌≡◌, refl, ◌∙◌, sym, ap}
use mathlib.Core.Bool.{Bool, true, cond, ◌&&◌}
use mathlib.Core.List.{List, [], ◌∷◌, ◌++◌}
use Prim.Native.Nat.{ℕ, ◌≤◌, ◌<◌}
use native.Mathlib.Omega.{arith}
use lib.Dec.{eqb, leb, ltb}
use borrow.Author.Tests.{ne_eqb, leb-true, ltb-true}
use Rattle.utils.proofs.Bools.{and_true}
use Rattle.std.specs.Prelude.{Option, None}
use Rattle.script_format.specs.declared.Call.{Call}
use Rattle.script_format.specs.Format.{Format, decoded_by, decoded_in, decoded, io_formats, pic_formats, apic_formats, board_formats}

-- the rows in the order of the source, the last one first
abbrev pub onto : List Format → List Format → List Format
onto [] gs = gs
onto (f ∷ fs) gs = onto fs (f ∷ gs)

-- the tag is none of theirs
abbrev pub Apart : ℕ → List Format → Type 0
Apart tag [] = Unit
Apart tag (f ∷ fs) = Apart tag fs × (tag ≡ f.tag → ⊥)

pub apart : (tag : ℕ) (body : List ℕ) (fs gs : List Format) → Apart tag fs → decoded_in (onto fs gs) tag body ≡ decoded_in gs tag body
apart tag body [] gs h = refl
apart tag body (f ∷ fs) gs h = apart tag body fs (f ∷ gs) h.0 ∙ rw (ne_eqb tag f.tag h.1)

-- ---- a table of parts: their tags lie below k, or from k on

abbrev pub below : ℕ → List Format → Bool
below k [] = true
below k (f ∷ fs) = ltb f.tag k && below k fs

abbrev pub from : ℕ → List Format → Bool
from k [] = true
from k (f ∷ fs) = leb k f.tag && from k fs

unlike : (tag : ℕ) (f : Format) (fs : List Format) (body : List ℕ) → (tag ≡ f.tag → ⊥) → decoded_in (f ∷ fs) tag body ≡ decoded_in fs tag body
unlike tag f fs body n = rw (ne_eqb tag f.tag n)

pub passed : (k tag : ℕ) (body : List ℕ) (fs gs : List Format) → below k fs ≡ true → k ≤ tag → decoded_in (fs ++ gs) tag body ≡ decoded_in gs tag body
passed k tag body [] gs h l = refl
passed k tag body (f ∷ fs) gs h l =
    let p : (ltb f.tag k ≡ true) × (below k fs ≡ true) = and_true (ltb f.tag k) (below k fs) h in
    let q : f.tag < k = ltb-true f.tag k p.0 in
    unlike tag f (fs ++ gs) body (λ e. omega arith) ∙ passed k tag body fs gs p.1 l

none : (k tag : ℕ) (body : List ℕ) (gs : List Format) → from k gs ≡ true → tag < k → decoded_in gs tag body ≡ None
none k tag body [] h l = refl
none k tag body (g ∷ gs) h l =
    let p : (leb k g.tag ≡ true) × (from k gs ≡ true) = and_true (leb k g.tag) (from k gs) h in
    let q : k ≤ g.tag = leb-true k g.tag p.0 in
    unlike tag g gs body (λ e. omega arith) ∙ none k tag body gs p.1 l

pub kept : (k tag : ℕ) (body : List ℕ) (fs gs : List Format) → from k gs ≡ true → tag < k → decoded_in (fs ++ gs) tag body ≡ decoded_in fs tag body
kept k tag body [] gs h l = none k tag body gs h l
kept k tag body (f ∷ fs) gs h l = ap (λ (x : Option Call). cond (eqb tag f.tag) (decoded_by f body) x) (kept k tag body fs gs h l)

-- a tag is looked for in its chip's part of the table
module _ (tag : ℕ) (body : List ℕ) (r : Option Call) where
  pub decoded_io : tag < 0x10 → r ≡ decoded_in io_formats tag body → r ≡ decoded tag body
  unfolding decoded
  decoded_io h e = e ∙ sym (kept 0x10 tag body io_formats (pic_formats ++ (apic_formats ++ board_formats)) refl h)

  from_10 : 0x10 ≤ tag → decoded tag body ≡ decoded_in (pic_formats ++ (apic_formats ++ board_formats)) tag body
  unfolding decoded
  from_10 h = passed 0x10 tag body io_formats (pic_formats ++ (apic_formats ++ board_formats)) refl h

  pub decoded_pic : 0x10 ≤ tag → tag < 0x20 → r ≡ decoded_in pic_formats tag body → r ≡ decoded tag body
  decoded_pic h l e = e ∙ sym (from_10 h ∙ kept 0x20 tag body pic_formats (apic_formats ++ board_formats) refl l)

  from_20 : 0x20 ≤ tag → decoded tag body ≡ decoded_in (apic_formats ++ board_formats) tag body
  from_20 h = from_10 (omega arith) ∙ passed 0x20 tag body pic_formats (apic_formats ++ board_formats) refl h

  pub decoded_apic : 0x20 ≤ tag → tag < 0x30 → r ≡ decoded_in apic_formats tag body → r ≡ decoded tag body
  decoded_apic h l e = e ∙ sym (from_20 h ∙ kept 0x30 tag body apic_formats board_formats refl l)

  pub decoded_board : 0x30 ≤ tag → r ≡ decoded_in board_formats tag body → r ≡ decoded tag body
  decoded_board h e = e ∙ sym (from_20 (omega arith) ∙ passed 0x30 tag body apic_formats board_formats refl h)
