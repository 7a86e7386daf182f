-- Where a field that is performed stands, and where the next one starts. Assumes nothing.
use mathlib.Core.Path.{◌≡◌, refl, sym, ap}
use mathlib.Core.Bool.{Bool, true, false, cond}
use mathlib.Core.List.{List}
use Prim.Native.Nat.{ℕ, ◌+◌, ◌≤◌}
use native.Mathlib.Omega.{arith}
use lib.Dec.{leb, ltb}
use lib.ListN.{length, get_or}
use borrow.Author.Tests.{ltb-false}
use Rattle.types.specs.declared.Reply.{Reply}
use Rattle.script_format.specs.declared.Call.{Call}
use Rattle.std.specs.Prelude.{Option, Some, None, Result, Ok, Err}
use Rattle.script_format.specs.declared.Cursor.{Cursor}
use Rattle.script_format.specs.declared.Field.{Field}
use Rattle.script_format.specs.declared.BadField.{BadField}
use Rattle.script_format.specs.Format.{decoded}
use Rattle.script_format.specs.Fields.{end_at, body_at, Good, Bad, End, field_of, field_at}
use Rattle.script_machine.specs.declared.Used.{Used}
use Rattle.script_machine.specs.Late.{is_late, taken, field_for}
use Rattle.script_machine.specs.Machine.{Machine}
use Rattle.script_machine.specs.Run.{by_field, Step, did, step_by, step_of}

-- a field that isn't late stands there by itself
taken_good : (used : Used) (f : Result (Option (Field Call)) BadField) (tag : ℕ) (c : Call) (next : Cursor) → taken used f ≡ Good tag c next → f ≡ Good tag c next
taken_good used (Ok (Some x)) tag c next e = go (is_late used x.call) e
  where
    go : (b : Bool) → cond b Bad (Ok (Some x)) ≡ Good tag c next → Ok (Some x) ≡ Good tag c next
    go true p = let z : ◌≡◌ {A = ℕ} 0 1 = cc in absurd (omega arith)
    go false p = p
taken_good used (Err b) tag c next e = let z : ◌≡◌ {A = ℕ} 0 1 = cc in absurd (omega arith)
taken_good used (Ok None) tag c next e = let z : ◌≡◌ {A = ℕ} 0 1 = cc in absurd (omega arith)

pub good_at : (s : List ℕ) (used : Used) (at tag : ℕ) (c : Call) (next : Cursor) → field_for s used at ≡ Good tag c next → field_at s at ≡ Good tag c next
unfolding field_for
good_at s used at tag c next e = taken_good used (field_at s at) tag c next e

-- a field that is good is all there
body_ends : (tag next : ℕ) (b : Option Call) (tag' : ℕ) (c : Call) (after : Cursor) → field_of tag b next ≡ Good tag' c after → after.at ≡ next
body_ends tag next (Some call) tag' c after e = ap (λ (f : Result (Option (Field Call)) BadField). by_field f (λ call at. at) 0 0) (sym e)
body_ends tag next None tag' c after e = let z : ◌≡◌ {A = ℕ} 0 1 = cc in absurd (omega arith)

pub good_whole : (s : List ℕ) (at tag : ℕ) (c : Call) (next : Cursor) → field_at s at ≡ Good tag c next → (next.at ≡ end_at s at) × (end_at s at ≤ length s)
unfolding field_at
good_whole s at tag c next e = go (leb (length s) at) (ltb (length s) (at + 3)) (ltb (length s) (end_at s at)) refl e
  where
    go : (b₁ b₂ b₃ : Bool) → ltb (length s) (end_at s at) ≡ b₃
        → cond b₁ End (cond b₂ Bad (cond b₃ Bad (field_of (get_or s at 0) (decoded (get_or s at 0) (body_at s at)) (end_at s at)))) ≡ Good tag c next
        → (next.at ≡ end_at s at) × (end_at s at ≤ length s)
    go true b₂ b₃ t p = let z : ◌≡◌ {A = ℕ} 0 1 = cc in absurd (omega arith)
    go false true b₃ t p = let z : ◌≡◌ {A = ℕ} 0 1 = cc in absurd (omega arith)
    go false false true t p = let z : ◌≡◌ {A = ℕ} 0 1 = cc in absurd (omega arith)
    go false false false t p =
        (body_ends (get_or s at 0) (end_at s at) (decoded (get_or s at 0) (body_at s at)) tag c next p, ltb-false (length s) (end_at s at) t)

-- so it ends three bytes behind its tag's place or later, and within the script
pub good_lies : (s : List ℕ) (used : Used) (at tag : ℕ) (c : Call) (next : Cursor) → field_for s used at ≡ Good tag c next → (at + 3 ≤ next.at) × (next.at ≤ length s)
good_lies s used at tag c next e =
    let w = good_whole s at tag c next (good_at s used at tag c next e) in (omega (arith, w.0), omega (arith, w.0, w.1))

-- the same of a step
pub did_lies : (s : List ℕ) (m : Machine) (at : ℕ) (x : Step) (tag : ℕ) (r : Reply) → x ≡ step_of s m at → x.said ≡ did tag r → (at + 3 ≤ x.next.at) × (x.next.at ≤ length s)
unfolding step_of
did_lies s m at x tag r g h = rw g (go (field_for s m.used at) refl (rw g at h))
  where
    go : (f : Result (Option (Field Call)) BadField) → field_for s m.used at ≡ f → (step_by m at f).said ≡ did tag r → (at + 3 ≤ (step_by m at f).next.at) × ((step_by m at f).next.at ≤ length s)
    go (Ok (Some y)) f p = good_lies s m.used at y.tag y.call y.next f
    go (Err b) f p = let z : ◌≡◌ {A = ℕ} 0 1 = cc in absurd (omega arith)
    go (Ok None) f p = let z : ◌≡◌ {A = ℕ} 0 1 = cc in absurd (omega arith)
