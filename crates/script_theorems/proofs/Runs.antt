-- The laws of runs. Each follows the fields one by one. Assumes nothing.
use mathlib.Core.Path.{◌≡◌, refl, sym, ap, ◌∙◌}
use mathlib.Core.Bool.{Bool, true, false, cond, ◌||◌}
use mathlib.Core.List.{List, [], ◌∷◌, ◌++◌}
use mathlib.Core.Logic.{inl, inr, ⊎_elim}
use Prim.Native.Nat.{ℕ, zero, suc, ◌+◌, ◌≤◌, ◌<◌}
use native.Mathlib.Nat.{suc-add, zero-add}
use native.Mathlib.Omega.{arith}
use lib.Dec.{leb, ltb}
use lib.ListN.{length, get_or, drop, length-append, length-drop, get_or-append}
use lib.Seq.{take-append-le, drop-append-le}
use borrow.Author.Tests.{le-leb, lt-leb, le-ltb, leb-true}
use Rattle.utils.proofs.Bools.{or_false}
use Rattle.types.specs.declared.Reply.{Reply}
use Rattle.script_format.specs.declared.Call.{Call}
use Rattle.script_format.specs.declared.Call.TheVariants as call
use Rattle.script_format.specs.declared.Chip.{Chip}
use Rattle.script_format.specs.declared.Chip.TheVariants.{IoApic, Pic, LocalApic, Board}
use Rattle.script_format.specs.Chips.{chip_of, same}
use Rattle.std.specs.Prelude.{Option, Some, None, Result, Ok, Err}
use Rattle.script_format.specs.declared.BadField.{BadField}
use Rattle.script_format.specs.declared.Cursor.{Cursor}
use Rattle.script_format.specs.declared.Field.{Field}
use Rattle.script_format.specs.Format.{number_at, decoded}
use Rattle.script_format.specs.Fields.{length_at, end_at, body_at, Good, Bad, End, field_of, field_at}
use Rattle.script_machine.specs.declared.Used.{Used}
use Rattle.script_machine.specs.declared.Stop.{Stop}
use Rattle.script_machine.specs.declared.Stop.TheVariants as stop
use Rattle.script_machine.specs.Late.{was_used, now_used, is_late, used_after, taken, field_for}
use Rattle.script_machine.specs.Machine.{Machine, unused, new_machine, performed}
use Rattle.script_machine.specs.Run.{Run, by_field, field_count, place_after, stop_after, calls_from, after_calls, replies, run_of}
use Rattle.script_machine.proofs.Places.{good_at, good_whole, good_lies}
use Rattle.script_machine.proofs.Runs.{remembers}
use Rattle.script_theorems.specs.Runs.{Counted, Together, InTwo, answers_of, AnsweredInTwo, bars, barred, Remembered, LateIsBad, in_time, InTime, Within, Beyond, Ended, Ends, NothingAtBad, NothingBehindBad}

-- ---- the count

calls_counted : (s : List ℕ) (used : Used) (at n : ℕ) → length (calls_from s used at n) ≡ field_count s used at n
unfolding calls_from field_count
calls_counted s used at zero = refl
calls_counted s used at (suc n) = go (field_for s used at) (λ u next. calls_counted s u next n)
  where
    go : (f : Result (Option (Field Call)) BadField) → ((u : Used) (next : ℕ) → length (calls_from s u next n) ≡ field_count s u next n)
        → length (by_field f (λ call next. call ∷ calls_from s (used_after used call) next n) [] []) ≡ by_field f (λ call next. suc (field_count s (used_after used call) next n)) 0 0
    go (Ok (Some y)) ih = ap suc (ih (used_after used y.call) y.next.at)
    go (Err _) ih = refl
    go (Ok None) ih = refl

pub counted : Counted
counted s m at n = (refl, calls_counted s m.used at n)

-- ---- a field that isn't late stands there by itself

taken_end : (used : Used) (f : Result (Option (Field Call)) BadField) → taken used f ≡ End → f ≡ End
taken_end used (Ok (Some y)) e = go (is_late used y.call) e
  where
    go : (b : Bool) → cond b Bad (Ok (Some y)) ≡ End → Ok (Some y) ≡ End
    go true p = let z : ◌≡◌ {A = ℕ} 0 1 = cc in absurd (omega arith)
    go false p = p
taken_end used (Err _) e = let z : ◌≡◌ {A = ℕ} 0 1 = cc in absurd (omega arith)
taken_end used (Ok None) e = refl

good_in_time : (s : List ℕ) (used : Used) (at tag : ℕ) (c : Call) (next : Cursor) → field_for s used at ≡ Good tag c next → is_late used c ≡ false
unfolding field_for
good_in_time s used at tag c next e = go (is_late used c) refl (sym (ap (taken used) (good_at s used at tag c next e)) ∙ e)
  where
    go : (b : Bool) → is_late used c ≡ b → cond (is_late used c) Bad (Good tag c next) ≡ Good tag c next → is_late used c ≡ false
    go true t p = let q : Bad ≡ Good tag c next = rw t at p in let z : ◌≡◌ {A = ℕ} 0 1 = cc in absurd (omega arith)
    go false t p = t

pub in_time_lem : InTime
unfolding calls_from in_time
in_time_lem s used at zero = refl
in_time_lem s used at (suc n) = go (field_for s used at) refl (λ u next. in_time_lem s u next n)
  where
    go : (f : Result (Option (Field Call)) BadField) → field_for s used at ≡ f → ((u : Used) (next : ℕ) → in_time u (calls_from s u next n) ≡ true)
        → in_time used (by_field f (λ call next. call ∷ calls_from s (used_after used call) next n) [] []) ≡ true
    go (Ok (Some y)) e ih = rw (good_in_time s used at y.tag y.call y.next e) (ih (used_after used y.call) y.next.at)
    go (Err _) e ih = refl
    go (Ok None) e ih = refl

-- ---- what the machine remembers

swapped : (a b c : Bool) → b || (a || c) ≡ (a || b) || c
swapped true true c = refl
swapped true false c = refl
swapped false b c = refl

used_io : (used : Used) (chip : Chip) → was_used (now_used used chip) IoApic ≡ same chip IoApic || was_used used IoApic
used_io used IoApic = refl
used_io used Pic = refl
used_io used LocalApic = refl
used_io used Board = refl

used_pic : (used : Used) (chip : Chip) → was_used (now_used used chip) Pic ≡ same chip Pic || was_used used Pic
used_pic used IoApic = refl
used_pic used Pic = refl
used_pic used LocalApic = refl
used_pic used Board = refl

late_after : (used : Used) (c d : Call) → is_late (used_after used c) d ≡ bars c d || is_late used d
late_after used c (call.Io d) = refl
late_after used c (call.IoVersion version) = used_io used (chip_of c)
late_after used c (call.Pic d) = refl
late_after used c (call.PicRule rule) = used_pic used (chip_of c)
late_after used c (call.Apic d) = refl
late_after used c (call.Board d) = refl

pub remembered : Remembered
unfolding after_calls barred
remembered m [] d = refl
remembered m (c ∷ cs) d =
    remembered (performed m c).state cs d ∙ ap (λ (u : Used). barred cs d || is_late u d) (remembers m c) ∙ ap (λ (b : Bool). barred cs d || b) (late_after m.used c d) ∙ swapped (bars c d) (barred cs d) (is_late m.used d)

-- and a new machine remembers nothing
new_unused : new_machine.used ≡ unused
unfolding new_machine
new_unused = refl

never_late : (d : Call) → is_late unused d ≡ false
never_late (call.Io d) = refl
never_late (call.IoVersion version) = refl
never_late (call.Pic d) = refl
never_late (call.PicRule rule) = refl
never_late (call.Apic d) = refl
never_late (call.Board d) = refl

pub late_is_bad : LateIsBad
unfolding field_for
late_is_bad s a tag d next e =
    let u = remembered new_machine (calls_from s new_machine.used 0 a) d in
    rw (e, u, new_unused, never_late d, or_false (barred (calls_from s unused 0 a) d))

-- ---- places

pub within : Within
unfolding place_after
within s used at zero h = h
within s used at (suc n) h = go (field_for s used at) refl (λ u next k. within s u next n k)
  where
    go : (f : Result (Option (Field Call)) BadField) → field_for s used at ≡ f → ((u : Used) (next : ℕ) → next ≤ length s → place_after s u next n ≤ length s)
        → by_field f (λ call next. place_after s (used_after used call) next n) at at ≤ length s
    go (Ok (Some y)) e ih = ih (used_after used y.call) y.next.at (good_lies s used at y.tag y.call y.next e).1
    go (Err _) e ih = h
    go (Ok None) e ih = h

ends_at_lem : (s : List ℕ) (used : Used) (at : ℕ) → length s ≤ at → field_for s used at ≡ End
unfolding field_for field_at
ends_at_lem s used at h = rw (le-leb (length s) at h)

pub beyond : Beyond
unfolding calls_from field_count place_after after_calls
beyond s m at zero h = (refl, (refl, refl))
beyond s m at (suc n) h = rw (ends_at_lem s m.used at h) (refl, (refl, refl))

-- ---- the end

by_end : (s : List ℕ) (at : ℕ) → field_at s at ≡ End → length s ≤ at
unfolding field_at
by_end s at e = go (leb (length s) at) (ltb (length s) (at + 3)) (ltb (length s) (end_at s at)) (decoded (get_or s at 0) (body_at s at)) refl e
  where
    go : (b₁ b₂ b₃ : Bool) (b : Option Call) → leb (length s) at ≡ b₁
        → cond b₁ End (cond b₂ Bad (cond b₃ Bad (field_of (get_or s at 0) b (end_at s at)))) ≡ End
        → length s ≤ at
    go true b₂ b₃ b t p = leb-true (length s) at t
    go false true b₃ b t p = let z : ◌≡◌ {A = ℕ} 0 1 = cc in absurd (omega arith)
    go false false true b t p = let z : ◌≡◌ {A = ℕ} 0 1 = cc in absurd (omega arith)
    go false false false (Some call) t p = let z : ◌≡◌ {A = ℕ} 0 1 = cc in absurd (omega arith)
    go false false false None t p = let z : ◌≡◌ {A = ℕ} 0 1 = cc in absurd (omega arith)

end_at_lem : (s : List ℕ) (used : Used) (at : ℕ) → field_for s used at ≡ End → field_at s at ≡ End
unfolding field_for
end_at_lem s used at e = taken_end used (field_at s at) e

-- a run with one more field before it
abbrev one_more : Run → Run
one_more q = record { machine = q.machine; done = suc q.done; next = q.next; stop = q.stop }

one_more_lem : (s : List ℕ) (n : ℕ) (q : Run) → Ended q s n → Ended (one_more q) s (suc n)
one_more_lem s n q h = ⊎_elim (λ w. inl (w.0, ap suc w.1)) (λ w. inr w) h

pub ends : Ends
unfolding calls_from field_count place_after stop_after after_calls
ends s m at zero = inl (refl, refl)
ends s m at (suc n) = go (field_for s m.used at) refl (λ m' next. ends s m' next n)
  where
    go : (f : Result (Option (Field Call)) BadField) → field_for s m.used at ≡ f → ((m' : Machine) (next : ℕ) → Ended (run_of s m' next n) s n) → Ended (run_of s m at (suc n)) s (suc n)
    go (Ok (Some y)) e ih =
        rw e (rw (remembers m y.call) at (one_more_lem s n (run_of s (performed m y.call).state y.next.at n) (ih (performed m y.call).state y.next.at)))
    go (Err _) e ih = rw e (inr (inr (refl, e)))
    go (Ok None) e ih = rw e (inr (inl (refl, by_end s at (end_at_lem s m.used at e))))

-- ---- in two

-- a run from a place where there is no good field
record Idle (s : List ℕ) (m : Machine) (at b : ℕ) (why : Stop) : Type 0 where
  machine : after_calls m (calls_from s m.used at b) ≡ m
  answers : replies m (calls_from s m.used at b) ≡ []
  done : field_count s m.used at b ≡ 0
  place : place_after s m.used at b ≡ at
  stop : 0 < b → stop_after s m.used at b ≡ why

idle_bad : (s : List ℕ) (m : Machine) (at b : ℕ) → field_for s m.used at ≡ Bad → Idle s m at b stop.BadField
unfolding calls_from field_count place_after stop_after after_calls replies
idle_bad s m at zero e = record { machine = refl; answers = refl; done = refl; place = refl; stop = λ h. absurd (omega arith) }
idle_bad s m at (suc b) e = record { machine = rw e; answers = rw e; done = rw e; place = rw e; stop = λ h. rw e }

idle_end : (s : List ℕ) (m : Machine) (at b : ℕ) → field_for s m.used at ≡ End → Idle s m at b stop.End
unfolding calls_from field_count place_after stop_after after_calls replies
idle_end s m at zero e = record { machine = refl; answers = refl; done = refl; place = refl; stop = λ h. absurd (omega arith) }
idle_end s m at (suc b) e = record { machine = rw e; answers = rw e; done = rw e; place = rw e; stop = λ h. rw e }

abbrev cursor : ℕ → Cursor
cursor k = record { at = k }

-- nothing, and then such a run
after_nothing : (s : List ℕ) (m : Machine) (at b : ℕ) (why w : Stop) → Idle s m at b why
    → Together (record { machine = m; done = 0; next = record { at = at }; stop = w }) (run_of s m at b) (record { machine = m; done = 0; next = record { at = at }; stop = why }) b
after_nothing s m at b why w h = record {
  machine = sym h.machine;
  done = omega (arith, h.done);
  next = ap cursor (sym h.place);
  stop = λ k. sym (h.stop k);
}

pub in_two : InTwo
unfolding calls_from field_count place_after stop_after after_calls
in_two s m at zero b = rw (zero-add b) (record { machine = refl; done = omega arith; next = refl; stop = λ h. refl })
in_two s m at (suc a) b = go (field_for s m.used at) refl (λ m' next. in_two s m' next a b)
  where
    go : (f : Result (Option (Field Call)) BadField) → field_for s m.used at ≡ f
        → ((m' : Machine) (next : ℕ) → Together (run_of s m' next a) (run_of s (run_of s m' next a).machine (run_of s m' next a).next.at b) (run_of s m' next (a + b)) b)
        → Together (run_of s m at (suc a)) (run_of s (run_of s m at (suc a)).machine (run_of s m at (suc a)).next.at b) (run_of s m at (suc a + b)) b
    go (Ok (Some y)) e ih =
        let h = rw (remembers m y.call) at (ih (performed m y.call).state y.next.at) in
        rw (suc-add a b, e) (record { machine = h.machine; done = omega (arith, h.done); next = h.next; stop = h.stop })
    go (Err _) e ih = rw (suc-add a b, e) (after_nothing s m at b stop.BadField stop.BadField (idle_bad s m at b e))
    go (Ok None) e ih = rw (suc-add a b, e) (after_nothing s m at b stop.End stop.End (idle_end s m at b e))

pub answered_in_two : AnsweredInTwo
unfolding calls_from field_count place_after stop_after after_calls replies
answered_in_two s m at zero b = rw (zero-add b)
answered_in_two s m at (suc a) b = go (field_for s m.used at) refl (λ m' next. answered_in_two s m' next a b)
  where
    go : (f : Result (Option (Field Call)) BadField) → field_for s m.used at ≡ f
        → ((m' : Machine) (next : ℕ) → answers_of s m' next (a + b) ≡ answers_of s m' next a ++ answers_of s (run_of s m' next a).machine (run_of s m' next a).next.at b)
        → answers_of s m at (suc a + b) ≡ answers_of s m at (suc a) ++ answers_of s (run_of s m at (suc a)).machine (run_of s m at (suc a)).next.at b
    go (Ok (Some y)) e ih =
        let h = rw (remembers m y.call) at (ih (performed m y.call).state y.next.at) in
        rw (suc-add a b, e) (ap (λ (l : List Reply). (performed m y.call).reply ∷ l) h)
    go (Err _) e ih = rw (suc-add a b, e) (sym (idle_bad s m at b e).answers)
    go (Ok None) e ih = rw (suc-add a b, e) (sym (idle_end s m at b e).answers)

-- ---- a bad field

pub nothing_at_bad : NothingAtBad
nothing_at_bad s m at n e h =
    let i = idle_bad s m at n e in rw (i.machine, i.done, i.place, i.stop h)

-- a field that is all there is the same with bytes behind it
module _ (s x : List ℕ) (at : ℕ) where
  length_behind : at + 3 ≤ length s → length_at (s ++ x) at ≡ length_at s at
  unfolding number_at
  length_behind h = rw (get_or-append s x 0 (at + 1) (omega arith), get_or-append s x 0 (suc (at + 1)) (omega arith))

  body_behind : end_at s at ≤ length s → body_at (s ++ x) at ≡ body_at s at
  body_behind h =
      rw (length_behind (omega arith), drop-append-le (at + 3) s x (omega arith))
      (take-append-le (length_at s at) (drop (at + 3) s) x (omega (arith, length-drop (at + 3) s)))

  field_behind : end_at s at ≤ length s → field_at (s ++ x) at ≡ field_at s at
  unfolding field_at
  field_behind h =
      let n = length-append s x in
      rw (body_behind h, length_behind (omega arith), get_or-append s x 0 at (omega arith), lt-leb (length s) at (omega arith), le-ltb (length s) (at + 3) (omega arith), le-ltb (length s) (end_at s at) h, lt-leb (length (s ++ x)) at (omega arith), le-ltb (length (s ++ x)) (at + 3) (omega arith), le-ltb (length (s ++ x)) (end_at s at) (omega arith))

for_behind : (s x : List ℕ) (used : Used) (at : ℕ) → end_at s at ≤ length s → field_for (s ++ x) used at ≡ field_for s used at
unfolding field_for
for_behind s x used at h = ap (taken used) (field_behind s x at h)

-- what is read off the bytes, of both scripts
record Alike (s t : List ℕ) (used : Used) (at n : ℕ) : Type 0 where
  calls : calls_from t used at n ≡ calls_from s used at n
  done : field_count t used at n ≡ field_count s used at n
  place : place_after t used at n ≡ place_after s used at n
  stop : stop_after t used at n ≡ stop_after s used at n

alike_behind : (s x : List ℕ) (used : Used) (at n : ℕ) → stop_after s used at n ≡ stop.BadField → end_at s (place_after s used at n) ≤ length s → Alike s (s ++ x) used at n
unfolding calls_from field_count place_after stop_after
alike_behind s x used at zero b h = let z : ◌≡◌ {A = ℕ} 0 1 = cc in absurd (omega arith)
alike_behind s x used at (suc n) b h = go (field_for s used at) refl b h (λ u next. alike_behind s x u next n)
  where
    go : (f : Result (Option (Field Call)) BadField) → field_for s used at ≡ f
        → by_field f (λ call next. stop_after s (used_after used call) next n) stop.BadField stop.End ≡ stop.BadField
        → end_at s (by_field f (λ call next. place_after s (used_after used call) next n) at at) ≤ length s
        → ((u : Used) (next : ℕ) → stop_after s u next n ≡ stop.BadField → end_at s (place_after s u next n) ≤ length s → Alike s (s ++ x) u next n)
        → Alike s (s ++ x) used at (suc n)
    go (Ok (Some y)) e p w ih =
        let a = ih (used_after used y.call) y.next.at p w in
        let f = for_behind s x used at (good_whole s at y.tag y.call y.next (good_at s used at y.tag y.call y.next e)).1 in
        record { calls = rw (f, e, a.calls); done = rw (f, e, a.done); place = rw (f, e, a.place); stop = rw (f, e, a.stop) }
    go (Err _) e p w ih = let f = for_behind s x used at w in record { calls = rw (f, e); done = rw (f, e); place = rw (f, e); stop = rw (f, e) }
    go (Ok None) e p w ih = let z : ◌≡◌ {A = ℕ} 0 1 = cc in absurd (omega arith)

pub nothing_behind_bad : NothingBehindBad
nothing_behind_bad s x m at n b h =
    let a = alike_behind s x m.used at n b h in (rw (a.calls, a.done, a.place, a.stop), rw a.calls)
