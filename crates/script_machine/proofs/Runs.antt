-- Laws of a run: what one more field does. Assumes nothing.
use mathlib.Core.Path.{◌≡◌, refl}
use mathlib.Core.List.{List}
use Prim.Native.Nat.{ℕ, suc, ◌+◌}
use native.Mathlib.Numerals.{add-one}
use native.Mathlib.Omega.{arith}
use Rattle.script_format.specs.declared.Call.{Call}
use Rattle.script_format.specs.declared.Cursor.{Cursor}
use Rattle.std.specs.Prelude.{Option, Some, None, Result, Ok, Err}
use Rattle.script_format.specs.declared.Field.{Field}
use Rattle.script_format.specs.declared.BadField.{BadField}
use Rattle.script_format.specs.Fields.{Good, Bad, End}
use Rattle.script_machine.specs.declared.Stop.{Stop}
use Rattle.script_machine.specs.declared.Stop.TheVariants as stop
use Rattle.types.specs.declared.Reply.{Reply}
use Rattle.script_machine.specs.Late.{used_after, field_for}
use Rattle.script_machine.specs.Machine.{Machine, performed}
use Rattle.script_machine.specs.Run.{Step, did, stopped, step_by, step_of, Run, field_count, place_after, stop_after, calls_from, after_calls, run_of}

-- the machine remembers which chips were used
pub remembers : (m : Machine) (c : Call) → (performed m c).state.used ≡ used_after m.used c
unfolding performed
remembers m c = refl

-- a run after k fields that were performed before it
abbrev pub further : ℕ → Run → Run
further k r = record { machine = r.machine; done = k + r.done; next = r.next; stop = r.stop }

-- a run that performs nothing
abbrev pub idle : Machine → ℕ → ℕ → Stop → Run
idle m k at why = record { machine = m; done = k; next = record { at = at }; stop = why }

pub further_none : (r : Run) → r ≡ further 0 r
further_none r = let z : r.done ≡ 0 + r.done = omega arith in rw (← z)

module _ (s : List ℕ) (m : Machine) (at k : ℕ) where
  pub run_out : (n : ℕ) → n ≡ 0 → further k (run_of s m at n) ≡ idle m k at stop.Allowance
  unfolding calls_from field_count place_after stop_after after_calls
  run_out n e = let z : k + 0 ≡ k = omega arith in rw (e, z)

  module _ (n l : ℕ) (e : n ≡ l + 1) where
    run_good : (tag : ℕ) (c : Call) (next : Cursor) (m' : Machine) → field_for s m.used at ≡ Good tag c next → m' ≡ (performed m c).state
        → further k (run_of s m at n) ≡ further (k + 1) (run_of s m' next.at l)
    unfolding calls_from field_count place_after stop_after after_calls
    run_good tag c next m' f g =
        let u = used_after m.used c in
        let z : k + suc (field_count s u next.at l) ≡ k + 1 + field_count s u next.at l = omega arith in
        rw (e, add-one l, f, z, g, remembers m c)

    run_bad : field_for s m.used at ≡ Bad → further k (run_of s m at n) ≡ idle m k at stop.BadField
    unfolding calls_from field_count place_after stop_after after_calls
    run_bad f = let z : k + 0 ≡ k = omega arith in rw (e, add-one l, f, z)

    run_end : field_for s m.used at ≡ End → further k (run_of s m at n) ≡ idle m k at stop.End
    unfolding calls_from field_count place_after stop_after after_calls
    run_end f = let z : k + 0 ≡ k = omega arith in rw (e, add-one l, f, z)

    -- the same by steps
    pub run_did : (x : Step) (tag : ℕ) (r : Reply) → x ≡ step_of s m at → x.said ≡ did tag r → further k (run_of s m at n) ≡ further (k + 1) (run_of s x.machine x.next.at l)
    unfolding step_of
    run_did x tag r g h = rw g (go (field_for s m.used at) refl (rw g at h))
      where
        go : (f : Result (Option (Field Call)) BadField) → field_for s m.used at ≡ f → (step_by m at f).said ≡ did tag r → further k (run_of s m at n) ≡ further (k + 1) (run_of s (step_by m at f).machine (step_by m at f).next.at l)
        go (Ok (Some x)) f p = run_good x.tag x.call x.next _ f refl
        go (Err b) f p = let z : ◌≡◌ {A = ℕ} 0 1 = cc in absurd (omega arith)
        go (Ok None) f p = let z : ◌≡◌ {A = ℕ} 0 1 = cc in absurd (omega arith)

    pub run_stopped : (x : Step) (why : Stop) → x ≡ step_of s m at → x.said ≡ stopped why → further k (run_of s m at n) ≡ idle x.machine k x.next.at why
    unfolding step_of
    run_stopped x why g h = rw g (go (field_for s m.used at) refl (rw g at h))
      where
        go : (f : Result (Option (Field Call)) BadField) → field_for s m.used at ≡ f → (step_by m at f).said ≡ stopped why → further k (run_of s m at n) ≡ idle (step_by m at f).machine k (step_by m at f).next.at why
        go (Ok (Some x)) f p = let z : ◌≡◌ {A = ℕ} 0 1 = cc in absurd (omega arith)
        go (Err b) f p = let z : why ≡ stop.BadField = cc in rw z (run_bad f)
        go (Ok None) f p = let z : why ≡ stop.End = cc in rw z (run_end f)
