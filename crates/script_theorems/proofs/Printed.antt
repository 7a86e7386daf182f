-- What is printed, and runs. Each law follows the fields one by one. Assumes nothing.
use mathlib.Core.Path.{◌≡◌, refl, sym, ap}
use mathlib.Core.Bool.{Bool, true, false, cond}
use mathlib.Core.List.{List, ◌++◌, append_assoc}
use Prim.Native.Nat.{ℕ, zero, suc, ◌+◌, ◌-◌, ◌<◌}
use native.Mathlib.Omega.{arith}
use lib.Dec.{leb, ltb}
use lib.ListN.{length, get_or}
use Rattle.reply_text.specs.Text.{line}
use Rattle.script_format.specs.declared.Call.{Call}
use Rattle.std.specs.Prelude.{Option, Some, None, Result, Ok, Err}
use Rattle.script_format.specs.declared.BadField.{BadField}
use Rattle.script_format.specs.declared.Cursor.{Cursor}
use Rattle.script_format.specs.declared.Field.{Field}
use Rattle.script_format.specs.Format.{decoded}
use Rattle.script_format.specs.Fields.{end_at, body_at, Good, Bad, End, field_of, field_at}
use Rattle.script_machine.specs.declared.Stop.TheVariants as stop
use Rattle.script_machine.specs.declared.Used.{Used}
use Rattle.script_machine.specs.Late.{used_after, field_for}
use Rattle.script_machine.specs.Machine.{Machine, performed}
use Rattle.script_machine.specs.Run.{by_field, step_of, place_after, stop_after, calls_from, replies}
use Rattle.script_machine.proofs.Places.{good_at, good_lies}
use Rattle.script_machine.proofs.Runs.{remembers}
use Rattle.script_print.specs.Printed.{stop_text, steps_text, lines_from}
use Rattle.script_theorems.specs.Runs.{answers_of}
use Rattle.script_theorems.specs.Printed.{tags_from, lines_of, PrintedByRun, EndsItself}

abbrev tag_in : Result (Option (Field Call)) BadField → ℕ
tag_in (Ok (Some y)) = y.tag
tag_in (Ok None) = 0
tag_in (Err _) = 0

-- a field's tag is the byte at its place
body_tag : (t next : ℕ) (b : Option Call) (tag : ℕ) (c : Call) (after : Cursor) → field_of t b next ≡ Good tag c after → tag ≡ t
body_tag t next (Some call) tag c after e = ap tag_in (sym e)
body_tag t next None tag c after e = let z : ◌≡◌ {A = ℕ} 0 1 = cc in absurd (omega arith)

tag_at : (s : List ℕ) (at tag : ℕ) (c : Call) (next : Cursor) → field_at s at ≡ Good tag c next → tag ≡ get_or s at 0
unfolding field_at
tag_at s at tag c next e = go (leb (length s) at) (ltb (length s) (at + 3)) (ltb (length s) (end_at s at)) e
  where
    go : (b₁ b₂ b₃ : Bool)
        → cond b₁ End (cond b₂ Bad (cond b₃ Bad (field_of (get_or s at 0) (decoded (get_or s at 0) (body_at s at)) (end_at s at)))) ≡ Good tag c next
        → tag ≡ get_or s at 0
    go true b₂ b₃ p = let z : ◌≡◌ {A = ℕ} 0 1 = cc in absurd (omega arith)
    go false true b₃ p = let z : ◌≡◌ {A = ℕ} 0 1 = cc in absurd (omega arith)
    go false false true p = let z : ◌≡◌ {A = ℕ} 0 1 = cc in absurd (omega arith)
    go false false false p = body_tag (get_or s at 0) (end_at s at) (decoded (get_or s at 0) (body_at s at)) tag c next p

-- what n steps print
abbrev Prints : List ℕ → Machine → ℕ → ℕ → Type 0
Prints s m at n =
    steps_text s m at n
    ≡ lines_of (tags_from s m.used at n) (answers_of s m at n) ++ stop_text (stop_after s m.used at n) (place_after s m.used at n)

prints : (s : List ℕ) (n : ℕ) (m : Machine) (at : ℕ) → Prints s m at n
unfolding steps_text tags_from calls_from replies stop_after place_after step_of
prints s zero m at = refl
prints s (suc n) m at = go (field_for s m.used at) refl (λ x next. prints s n x next)
  where
    go : (f : Result (Option (Field Call)) BadField) → field_for s m.used at ≡ f → ((x : Machine) (next : ℕ) → Prints s x next n) → Prints s m at (suc n)
    go (Ok (Some y)) e ih =
        let t : y.tag ≡ get_or s at 0 = tag_at s at y.tag y.call y.next (good_at s m.used at y.tag y.call y.next e) in
        let h = ih (performed m y.call).state y.next.at in
        rw (e, ← t, h, remembers m y.call) (sym (append_assoc (line y.tag (performed m y.call).reply) _ _))
    go (Err _) e ih = rw e
    go (Ok None) e ih = rw e

pub printed_by_run : PrintedByRun
unfolding lines_from
printed_by_run s m at = prints s (suc (length s - at)) m at

ends : (s : List ℕ) (n : ℕ) (used : Used) (at : ℕ) → length s - at < n → stop_after s used at n ≡ stop.Allowance → ⊥
unfolding stop_after
ends s zero used at h e = omega arith
ends s (suc n) used at h e = go (field_for s used at) refl (λ u next. ends s n u next) e
  where
    go : (f : Result (Option (Field Call)) BadField) → field_for s used at ≡ f → ((u : Used) (next : ℕ) → length s - next < n → stop_after s u next n ≡ stop.Allowance → ⊥)
        → by_field f (λ call next. stop_after s (used_after used call) next n) stop.BadField stop.End ≡ stop.Allowance → ⊥
    go (Ok (Some y)) g ih p = ih (used_after used y.call) y.next.at (omega (arith, good_lies s used at y.tag y.call y.next g)) p
    go (Err _) g ih p = let z : ◌≡◌ {A = ℕ} 0 1 = cc in omega arith
    go (Ok None) g ih p = let z : ◌≡◌ {A = ℕ} 0 1 = cc in omega arith

pub ends_itself : EndsItself
ends_itself s m at n h e = ends s n m.used at h e
