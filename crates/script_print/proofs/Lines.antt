-- What is printed from a place on, step by step. Assumes nothing.
use mathlib.Core.Path.{◌≡◌, refl, sym, ap, ◌∙◌}
use mathlib.Core.List.{List, ◌++◌}
use Prim.Native.Nat.{ℕ, zero, suc, ◌-◌, ◌≤◌}
use native.Mathlib.Omega.{arith}
use lib.ListN.{length}
use Rattle.types.specs.declared.Reply.{Reply}
use Rattle.reply_text.specs.Text.{line}
use Rattle.std.specs.Prelude.{Option, Some, None, Result, Ok, Err}
use Rattle.script_format.specs.declared.BadField.{BadField}
use Rattle.script_format.specs.declared.Call.{Call}
use Rattle.script_format.specs.declared.Field.{Field}
use Rattle.script_machine.specs.declared.Stop.{Stop}
use Rattle.script_machine.specs.Late.{field_for}
use Rattle.script_machine.specs.Machine.{Machine}
use Rattle.script_machine.specs.Run.{Said, Step, did, stopped, step_by, step_of}
use Rattle.script_machine.proofs.Places.{did_lies}
use Rattle.script_print.specs.Printed.{stop_text, said_text, steps_text, lines_from}

same_rest : (x : Said) (place : ℕ) (a b : List ℕ) → ((tag : ℕ) (r : Reply) → x ≡ did tag r → a ≡ b) → said_text x place a ≡ said_text x place b
same_rest (Ok d) place a b h = rw (h d.tag d.reply refl)
same_rest (Err why) place a b h = refl

-- as many steps as are left bytes, and one more, are enough
enough : (s : List ℕ) (n k : ℕ) (m : Machine) (at : ℕ) → length s - at ≤ n → length s - at ≤ k → steps_text s m at (suc n) ≡ steps_text s m at (suc k)
unfolding steps_text
enough s zero k m at h g =
    same_rest (step_of s m at).said at _ _ (λ tag r e. absurd (omega (arith, did_lies s m at (step_of s m at) tag r refl e)))
enough s (suc n) zero m at h g =
    same_rest (step_of s m at).said at _ _ (λ tag r e. absurd (omega (arith, did_lies s m at (step_of s m at) tag r refl e)))
enough s (suc n) (suc k) m at h g =
    same_rest (step_of s m at).said at _ _ (λ tag r e.
    let l = did_lies s m at (step_of s m at) tag r refl e in
    enough s n k (step_of s m at).machine (step_of s m at).next.at (omega (arith, l)) (omega (arith, l)))

-- what is printed from a place on is what the step there prints, and then what is printed from the next place on
pub by_step : (s : List ℕ) (m : Machine) (at : ℕ)
    → lines_from s m at ≡ said_text (step_of s m at).said at (lines_from s (step_of s m at).machine (step_of s m at).next.at)
unfolding lines_from steps_text
by_step s m at =
    same_rest (step_of s m at).said at _ _ (λ tag r e.
    let l = did_lies s m at (step_of s m at) tag r refl e in
    let z : length s - at ≡ suc (length s - at - 1) = omega (arith, l) in
    rw z (enough s (length s - at - 1) (length s - (step_of s m at).next.at) (step_of s m at).machine (step_of s m at).next.at (omega (arith, l)) (omega arith)))

pub lines_did : (s : List ℕ) (m : Machine) (at : ℕ) (x : Step) (tag : ℕ) (r : Reply) → x ≡ step_of s m at → x.said ≡ did tag r
    → lines_from s m at ≡ line tag r ++ lines_from s x.machine x.next.at
lines_did s m at x tag r g h = by_step s m at ∙ rw (← g) (rw h)

-- a step that performs nothing leaves the place
stopped_stays : (s : List ℕ) (m : Machine) (at : ℕ) (x : Step) (why : Stop) → x ≡ step_of s m at → x.said ≡ stopped why → x.next.at ≡ at
unfolding step_of
stopped_stays s m at x why g h = rw g (go (field_for s m.used at) (rw g at h))
  where
    go : (f : Result (Option (Field Call)) BadField) → (step_by m at f).said ≡ stopped why → (step_by m at f).next.at ≡ at
    go (Ok (Some x)) p = let z : ◌≡◌ {A = ℕ} 0 1 = cc in absurd (omega arith)
    go (Err b) p = refl
    go (Ok None) p = refl

pub lines_stopped : (s : List ℕ) (m : Machine) (at : ℕ) (x : Step) (why : Stop) → x ≡ step_of s m at → x.said ≡ stopped why
    → lines_from s m at ≡ stop_text why x.next.at
lines_stopped s m at x why g h =
    let e : (step_of s m at).said ≡ stopped why = ap (λ (y : Step). y.said) (sym g) ∙ h in
    let p : x.next.at ≡ at = stopped_stays s m at x why g h in
    by_step s m at ∙ rw (e, p)
