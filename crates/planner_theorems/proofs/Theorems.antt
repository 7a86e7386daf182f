-- The theorems of specs/Statements.antt. Assumes nothing.
use mathlib.Core.Path.{◌≡◌, refl, sym, ap, ◌∙◌, subst}
use mathlib.Core.Bool.{Bool, true, false, not, cond, ◌&&◌, true≢false}
use mathlib.Core.List.{List, [], ◌∷◌, ◌++◌}
use mathlib.Core.Logic.{⊎_elim}
use Prim.Native.Nat.{ℕ, zero, suc, ◌≤◌, ◌<◌}
use native.Mathlib.Omega.{arith}
use lib.Dec.{eqb, leb, ltb}
use lib.ListN.{get_or, length, take, drop}
use borrow.Author.Tests.{eqb-true, eqb-false, ne_eqb, leb-true, leb-false, le-leb, ltb-true, ltb-false, lt-ltb, le-ltb, not-true, not-false}
use Rattle.utils.specs.Set.{bit, set_of}
use Rattle.utils.proofs.Laws.{bit_above, bit_set_of, set_of_lt}
use Rattle.utils.proofs.Search.{first_holds}
use Rattle.types.specs.declared.Refusal.{Refusal}
use Rattle.types.specs.declared.Refusal.TheVariants.{InvalidRegister, OutOfRange, NoPlan, TooShort}
use Rattle.types.specs.declared.Reply.{Reply}
use Rattle.types.specs.declared.Reply.TheVariants.{Refused, Nothing, Three}
use Rattle.types.specs.Reply.{reply_number, Outcome}
use Rattle.types.proofs.Replies.{refused_not_done}
use Rattle.planner.specs.Lines.{every, lowest_of, highest_of, is_taken, is_free, allows}
use Rattle.planner.specs.Check.{has_vector, among, line_passes, passes}
use Rattle.planner.specs.Plan.{planned, in_order, ordered, refused, written, plan}
use Rattle.planner.specs.Shortage.{confined, crowded, ends_at, end_line, starts_at, start_line, shown, shown_from, shortage}
use Rattle.planner.proofs.Laws.{every_at, every_yes, none_at, some_no}
use Rattle.planner.proofs.Loops.{length_planned, start_shown}
use Rattle.planner_theorems.specs.Statements.{Passes, CheckExact, Words, Admitted, ManyExactly, ShortExactly, InvertedExactly, RefusedKeeps, PlanPasses, RefusesExactly, DoneExactly, Shows, ShownIsSo, AlwaysShown, NothingShown}
use Rattle.planner_theorems.proofs.Counting.{every_not, first_lt}
use Rattle.planner_theorems.proofs.Giving.{and_left, and_right, allowed, apart}
use Rattle.planner_theorems.proofs.Hall.{confined_low, confined_high, confined_so, crowded_is, no_plan, shown_by}

-- ---- the check

pub record Allows (range : ℕ) (taken : List ℕ) (v : ℕ) : Type 0 where
  pub lowest : lowest_of range ≤ v
  pub highest : v ≤ highest_of range
  pub own : 32 ≤ v
  pub untaken : is_taken taken v ≡ false

allows_is : (range : ℕ) (t : List ℕ) (v : ℕ) → allows range t v ≡ true → Allows range t v
unfolding allows is_free
allows_is range t v h =
    let lh = and_left (leb (lowest_of range) v && leb v (highest_of range)) (leb 32 v && not (is_taken t v)) h in
    let f = and_right (leb (lowest_of range) v && leb v (highest_of range)) (leb 32 v && not (is_taken t v)) h in
    record {
      lowest = leb-true (lowest_of range) v (and_left (leb (lowest_of range) v) (leb v (highest_of range)) lh);
      highest = leb-true v (highest_of range) (and_right (leb (lowest_of range) v) (leb v (highest_of range)) lh);
      own = leb-true 32 v (and_left (leb 32 v) (not (is_taken t v)) f);
      untaken = not-true (is_taken t v) (and_right (leb 32 v) (not (is_taken t v)) f);
    }

allows_so : (range : ℕ) (t : List ℕ) (v : ℕ) → lowest_of range ≤ v → v ≤ highest_of range → 32 ≤ v → is_taken t v ≡ false → allows range t v ≡ true
unfolding allows is_free
allows_so range t v a b c d = rw (le-leb (lowest_of range) v a, le-leb v (highest_of range) b, le-leb 32 v c, d)

module _ (r t p : List ℕ) where
  line_allows : (k : ℕ) → line_passes r t p k ≡ true → Allows (get_or r k 0) t (get_or p k 0)
  unfolding line_passes
  line_allows k h = allows_is (get_or r k 0) t (get_or p k 0) (and_left (allows (get_or r k 0) t (get_or p k 0)) (not (among p k (get_or p k 0))) h)

  line_apart : (j k : ℕ) → j < k → line_passes r t p k ≡ true → get_or p j 0 ≡ get_or p k 0 → ⊥
  unfolding line_passes among has_vector
  line_apart j k l h =
      eqb-false (get_or p j 0) (get_or p k 0)
      (none_at (has_vector p (get_or p k 0)) k j (not-true (among p k (get_or p k 0)) (and_right (allows (get_or r k 0) t (get_or p k 0)) (not (among p k (get_or p k 0))) h)) l)

  line_passes_lem : (k : ℕ) → allows (get_or r k 0) t (get_or p k 0) ≡ true → ((j : ℕ) → j < k → get_or p j 0 ≡ get_or p k 0 → ⊥) → line_passes r t p k ≡ true
  unfolding line_passes among has_vector
  line_passes_lem k a h = rw (a, some_no (has_vector p (get_or p k 0)) k (λ j l. ne_eqb (get_or p j 0) (get_or p k 0) (h j l)))

  passes_length : passes r t p ≡ true → length r ≤ length p
  unfolding passes
  passes_length h = leb-true (length r) (length p) (and_left (leb (length r) (length p)) (every (length r) (line_passes r t p)) h)

  passes_at : passes r t p ≡ true → (k : ℕ) → k < length r → line_passes r t p k ≡ true
  unfolding passes
  passes_at h k l = every_at (line_passes r t p) (length r) k (and_right (leb (length r) (length p)) (every (length r) (line_passes r t p)) h) l

  passes_so : length r ≤ length p → ((k : ℕ) → k < length r → line_passes r t p k ≡ true) → passes r t p ≡ true
  unfolding passes
  passes_so l h = rw (le-leb (length r) (length p) l) (every_yes (line_passes r t p) (length r) h)

  passes_is : passes r t p ≡ true → Passes r t p
  passes_is h = record {
    enough = passes_length h;
    lowest = λ k l. (line_allows k (passes_at h k l)).lowest;
    highest = λ k l. (line_allows k (passes_at h k l)).highest;
    own = λ k l. (line_allows k (passes_at h k l)).own;
    untaken = λ k l. (line_allows k (passes_at h k l)).untaken;
    apart = λ j k l q. line_apart j k l (passes_at h k q);
  }

  passes_if : Passes r t p → passes r t p ≡ true
  passes_if ok = passes_so ok.enough (λ k l. line_passes_lem k (allows_so (get_or r k 0) t (get_or p k 0) (ok.lowest k l) (ok.highest k l) (ok.own k l) (ok.untaken k l)) (λ j q. ok.apart j k q l))

pub check_exact : CheckExact
check_exact r t p = (passes_is r t p, passes_if r t p)

-- ---- a plan that doesn't pass leaves a line waiting

left_line : (r t : List ℕ) → length r ≤ 24 → passes r t (planned r t) ≡ false → (k : ℕ) × (k < length r) × (get_or (planned r t) k 0 ≡ 0)
unfolding planned
left_line r t few h = go (every (length r) served) refl
  where
    served : ℕ → Bool
    served k = not (eqb (get_or (planned r t) k 0) 0)

    has : (k : ℕ) → served k ≡ true → get_or (planned r t) k 0 ≡ 0 → ⊥
    has k e = eqb-false (get_or (planned r t) k 0) 0 (not-true (eqb (get_or (planned r t) k 0) 0) e)

    line : ((k : ℕ) → k < length r → served k ≡ true) → (k : ℕ) → k < length r → line_passes r t (planned r t) k ≡ true
    line all k l =
        line_passes_lem r t (planned r t) k
        (⊎_elim (λ z. absurd (has k (all k l) z)) (λ z. z.1) (allowed r t 224 k))
        (λ j q e. has j (all j (omega arith)) (apart r t 224 j k (λ z. omega arith) e))

    go : (b : Bool) → every (length r) served ≡ b → (k : ℕ) × (k < length r) × (get_or (planned r t) k 0 ≡ 0)
    go true e = absurd (true≢false (sym (passes_so r t (planned r t) (omega (arith, length_planned r t)) (line (λ k l. every_at served (length r) k e l))) ∙ h))
    go false e = let w = every_not (length r) served e in (w.0, w.1, eqb-true (get_or (planned r t) w.0 0) 0 (not-false (eqb (get_or (planned r t) w.0 0) 0) w.2))

-- and so a crowded range, from line i's lowest vector to line k's highest
pub record Crowd (r t : List ℕ) : Type 0 where
  pub i : ℕ
  pub k : ℕ
  pub start : i < length r
  pub end : k < length r
  pub crowd : crowded r t (lowest_of (get_or r i 0)) (highest_of (get_or r k 0)) ≡ true

crowd_of : (r t : List ℕ) → Words r → length r ≤ 24 → passes r t (planned r t) ≡ false → Crowd r t
crowd_of r t words few h =
    let w = left_line r t few h in
    let s = shown_by r t words few w.0 w.1 w.2 in
    record { i = s.0; k = w.0; start = s.1; end = w.1; crowd = s.2 }

-- ---- the planner's answers

not_done : (why : Refusal) {A : Type 0} → ◌≡◌ {A = Reply} (Refused why) Nothing → A
not_done why e = absurd (refused_not_done why (ap reply_number e))

-- every line's range is in order, or there is a line whose range isn't
ordered_is : (r : List ℕ) → ordered r ≡ true → (k : ℕ) → k < length r → lowest_of (get_or r k 0) ≤ highest_of (get_or r k 0)
unfolding ordered in_order
ordered_is r h k l = leb-true (lowest_of (get_or r k 0)) (highest_of (get_or r k 0)) (every_at (in_order r) (length r) k h l)

ordered_so : (r : List ℕ) → ((k : ℕ) → k < length r → lowest_of (get_or r k 0) ≤ highest_of (get_or r k 0)) → ordered r ≡ true
unfolding ordered in_order
ordered_so r h = every_yes (in_order r) (length r) (λ k l. le-leb (lowest_of (get_or r k 0)) (highest_of (get_or r k 0)) (h k l))

inverted_is : (r : List ℕ) → ordered r ≡ false → (k : ℕ) × (k < length r) × (highest_of (get_or r k 0) < lowest_of (get_or r k 0))
unfolding ordered in_order
inverted_is r h = let w = every_not (length r) (in_order r) h in (w.0, w.1, leb-false (lowest_of (get_or r w.0 0)) (highest_of (get_or r w.0 0)) w.2)

inverted_so : (r : List ℕ) (k : ℕ) → k < length r → highest_of (get_or r k 0) < lowest_of (get_or r k 0) → ordered r ≡ false
inverted_so r k l h = go (ordered r) refl
  where
    go : (b : Bool) → ordered r ≡ b → b ≡ false
    go true e = absurd (omega (arith, h, ordered_is r e k l))
    go false e = refl

-- by the four tests
module _ (r t lent : List ℕ) where
  abbrev by : Bool → Bool → Bool → Bool → Outcome (List ℕ)
  by many short inorder pass =
      cond many (refused lent OutOfRange)
      (cond short (refused lent TooShort)
      (cond (not inorder) (refused lent InvalidRegister)
      (cond (not pass) (refused lent NoPlan)
      (record { state = written (length r) (planned r t) lent; reply = Nothing }))))

  plan_by : plan r t lent ≡ by (ltb 24 (length r)) (ltb (length lent) (length r)) (ordered r) (passes r t (planned r t))
  unfolding plan
  plan_by = refl

  keeps : (m s o p : Bool) (why : Refusal) → (by m s o p).reply ≡ Refused why → (by m s o p).state ≡ lent
  keeps true s o p why e = refl
  keeps false true o p why e = refl
  keeps false false false p why e = refl
  keeps false false true false why e = refl
  keeps false false true true why e = not_done why (sym e)

  pub record Tests (pass : Bool) : Type 0 where
    pub few : length r ≤ 24
    pub room : length r ≤ length lent
    pub inorder : ordered r ≡ true
    pub checked : passes r t (planned r t) ≡ pass

  -- done, or refused with 8: what each test said
  tests_done : (m s o p : Bool) → ltb 24 (length r) ≡ m → ltb (length lent) (length r) ≡ s → ordered r ≡ o → passes r t (planned r t) ≡ p → (by m s o p).reply ≡ Nothing → Tests true
  tests_done true s o p a b c d e = not_done OutOfRange e
  tests_done false true o p a b c d e = not_done TooShort e
  tests_done false false false p a b c d e = not_done InvalidRegister e
  tests_done false false true false a b c d e = not_done NoPlan e
  tests_done false false true true a b c d e = record { few = ltb-false 24 (length r) a; room = ltb-false (length lent) (length r) b; inorder = c; checked = d }

  tests_refused : (m s o p : Bool) → ltb 24 (length r) ≡ m → ltb (length lent) (length r) ≡ s → ordered r ≡ o → passes r t (planned r t) ≡ p → (by m s o p).reply ≡ Refused NoPlan → Tests false
  tests_refused true s o p a b c d e = absurd (omega (arith, ap reply_number e))
  tests_refused false true o p a b c d e = absurd (omega (arith, ap reply_number e))
  tests_refused false false false p a b c d e = absurd (omega (arith, ap reply_number e))
  tests_refused false false true true a b c d e = not_done NoPlan (sym e)
  tests_refused false false true false a b c d e = record { few = ltb-false 24 (length r) a; room = ltb-false (length lent) (length r) b; inorder = c; checked = d }

  only_many : (m s o p : Bool) → (by m s o p).reply ≡ Refused OutOfRange → m ≡ true
  only_many true s o p e = refl
  only_many false true o p e = absurd (omega (arith, ap reply_number e))
  only_many false false false p e = absurd (omega (arith, ap reply_number e))
  only_many false false true false e = absurd (omega (arith, ap reply_number e))
  only_many false false true true e = not_done OutOfRange (sym e)

  only_short : (m s o p : Bool) → (by m s o p).reply ≡ Refused TooShort → (m ≡ false) × (s ≡ true)
  only_short true s o p e = absurd (omega (arith, ap reply_number e))
  only_short false true o p e = (refl, refl)
  only_short false false false p e = absurd (omega (arith, ap reply_number e))
  only_short false false true false e = absurd (omega (arith, ap reply_number e))
  only_short false false true true e = not_done TooShort (sym e)

  only_inverted : (m s o p : Bool) → (by m s o p).reply ≡ Refused InvalidRegister → (m ≡ false) × (s ≡ false) × (o ≡ false)
  only_inverted true s o p e = absurd (omega (arith, ap reply_number e))
  only_inverted false true o p e = absurd (omega (arith, ap reply_number e))
  only_inverted false false false p e = (refl, refl, refl)
  only_inverted false false true false e = absurd (omega (arith, ap reply_number e))
  only_inverted false false true true e = not_done InvalidRegister (sym e)

  reply_by : {why : Reply} → (plan r t lent).reply ≡ why → (by (ltb 24 (length r)) (ltb (length lent) (length r)) (ordered r) (passes r t (planned r t))).reply ≡ why
  reply_by e = ap (λ (o : Outcome (List ℕ)). o.reply) (sym plan_by) ∙ e

  reply_many : 24 < length r → (plan r t lent).reply ≡ Refused OutOfRange
  unfolding plan
  reply_many l = rw (lt-ltb 24 (length r) l)

  reply_short : length r ≤ 24 → length lent < length r → (plan r t lent).reply ≡ Refused TooShort
  unfolding plan
  reply_short few l = rw (le-ltb 24 (length r) few, lt-ltb (length lent) (length r) l)

  reply_inverted : length r ≤ 24 → length r ≤ length lent → ordered r ≡ false → (plan r t lent).reply ≡ Refused InvalidRegister
  unfolding plan
  reply_inverted few room h = rw (le-ltb 24 (length r) few, le-ltb (length lent) (length r) room, h)

  done : (plan r t lent).reply ≡ Nothing → Tests true
  done e = tests_done (ltb 24 (length r)) (ltb (length lent) (length r)) (ordered r) (passes r t (planned r t)) refl refl refl refl (reply_by e)

  refused_8 : (plan r t lent).reply ≡ Refused NoPlan → Tests false
  refused_8 e = tests_refused (ltb 24 (length r)) (ltb (length lent) (length r)) (ordered r) (passes r t (planned r t)) refl refl refl refl (reply_by e)

  state_done : Tests true → (plan r t lent).state ≡ written (length r) (planned r t) lent
  unfolding plan
  state_done h = rw (le-ltb 24 (length r) h.few, le-ltb (length lent) (length r) h.room, h.inorder, h.checked)

  reply_done : Tests true → (plan r t lent).reply ≡ Nothing
  unfolding plan
  reply_done h = rw (le-ltb 24 (length r) h.few, le-ltb (length lent) (length r) h.room, h.inorder, h.checked)

  reply_refused : Tests false → (plan r t lent).reply ≡ Refused NoPlan
  unfolding plan
  reply_refused h = rw (le-ltb 24 (length r) h.few, le-ltb (length lent) (length r) h.room, h.inorder, h.checked)

pub many_exactly : ManyExactly
many_exactly r t lent = (λ e. ltb-true 24 (length r) (only_many r t lent (ltb 24 (length r)) (ltb (length lent) (length r)) (ordered r) (passes r t (planned r t)) (reply_by r t lent e)), reply_many r t lent)

pub short_exactly : ShortExactly
short_exactly r t lent = (only, λ h. reply_short r t lent h.0 h.1)
  where
    only : (plan r t lent).reply ≡ Refused TooShort → (length r ≤ 24) × (length lent < length r)
    only e = let h = only_short r t lent (ltb 24 (length r)) (ltb (length lent) (length r)) (ordered r) (passes r t (planned r t)) (reply_by r t lent e) in (ltb-false 24 (length r) h.0, ltb-true (length lent) (length r) h.1)

pub inverted_exactly : InvertedExactly
inverted_exactly r t lent = (only, λ h. reply_inverted r t lent h.0 h.1 (inverted_so r h.2 h.3 h.4))
  where
    only : (plan r t lent).reply ≡ Refused InvalidRegister → (length r ≤ 24) × (length r ≤ length lent) × (k : ℕ) × (k < length r) × (highest_of (get_or r k 0) < lowest_of (get_or r k 0))
    only e =
        let h = only_inverted r t lent (ltb 24 (length r)) (ltb (length lent) (length r)) (ordered r) (passes r t (planned r t)) (reply_by r t lent e) in
        let w = inverted_is r h.2 in
        (ltb-false 24 (length r) h.0, ltb-false (length lent) (length r) h.1, w.0, w.1, w.2)

pub refused_keeps : RefusedKeeps
refused_keeps r t lent why e =
    ap (λ (o : Outcome (List ℕ)). o.state) (plan_by r t lent)
    ∙ keeps r t lent (ltb 24 (length r)) (ltb (length lent) (length r)) (ordered r) (passes r t (planned r t)) why (reply_by r t lent e)

-- ---- what is written

get_d_written : (n : ℕ) (p l : List ℕ) (k : ℕ) → n ≤ length p → k < n → get_or (written n p l) k 0 ≡ get_or p k 0
get_d_written zero p l k a b = absurd (omega arith)
get_d_written (suc n) [] l k a b = absurd (omega arith)
get_d_written (suc n) (x ∷ p) l zero a b = refl
get_d_written (suc n) (x ∷ p) [] (suc k) a b = at n p k (omega arith) (omega arith)
  where
    at : (n : ℕ) (p : List ℕ) (k : ℕ) → n ≤ length p → k < n → get_or (take n p ++ []) k 0 ≡ get_or p k 0
    at zero p k a b = absurd (omega arith)
    at (suc n) [] k a b = absurd (omega arith)
    at (suc n) (x ∷ p) zero a b = refl
    at (suc n) (x ∷ p) (suc k) a b = at n p k (omega arith) (omega arith)
get_d_written (suc n) (x ∷ p) (y ∷ l) (suc k) a b = get_d_written n p l k (omega arith) (omega arith)

length_written : (n : ℕ) (p l : List ℕ) → n ≤ length p → n ≤ length l → length (written n p l) ≡ length l
length_written zero p l a b = refl
length_written (suc n) [] l a b = absurd (omega arith)
length_written (suc n) (x ∷ p) [] a b = absurd (omega arith)
length_written (suc n) (x ∷ p) (y ∷ l) a b = ap suc (length_written n p l (omega arith) (omega arith))

drop_written : (n : ℕ) (p l : List ℕ) → n ≤ length p → n ≤ length l → drop n (written n p l) ≡ drop n l
drop_written zero p l a b = refl
drop_written (suc n) [] l a b = absurd (omega arith)
drop_written (suc n) (x ∷ p) [] a b = absurd (omega arith)
drop_written (suc n) (x ∷ p) (y ∷ l) a b = drop_written n p l (omega arith) (omega arith)

-- the check looks at the lines' bytes alone
passes_written : (r t p l : List ℕ) → length r ≤ length p → length r ≤ length l → Passes r t p → Passes r t (written (length r) p l)
passes_written r t p l a b ok = record {
  enough = omega (arith, length_written (length r) p l a b);
  lowest = λ k q. omega (arith, same k q, ok.lowest k q);
  highest = λ k q. omega (arith, same k q, ok.highest k q);
  own = λ k q. omega (arith, same k q, ok.own k q);
  untaken = λ k q. ap (is_taken t) (same k q) ∙ ok.untaken k q;
  apart = λ j k q s e. ok.apart j k q s (sym (same j (omega arith)) ∙ e ∙ same k s);
}
  where
    same : (k : ℕ) → k < length r → get_or (written (length r) p l) k 0 ≡ get_or p k 0
    same k q = get_d_written (length r) p l k a q

pub plan_passes : PlanPasses
plan_passes r t lent e =
    let h = done r t lent e in
    let s = state_done r t lent h in
    let long : length r ≤ length (planned r t) = omega (arith, length_planned r t, h.few) in (
      subst (λ (x : List ℕ). Passes r t x) (sym s) (passes_written r t (planned r t) lent long h.room (passes_is r t (planned r t) h.checked)),
      ap length s ∙ length_written (length r) (planned r t) lent long h.room,
      ap (drop (length r)) s ∙ drop_written (length r) (planned r t) lent long h.room,
    )

-- ---- refused with 8 exactly when no plan would pass

pub refuses_exactly : RefusesExactly
refuses_exactly r t lent words = (only, always)
  where
    only : (plan r t lent).reply ≡ Refused NoPlan → (Admitted r lent) × ((p : List ℕ) → Passes r t p → ⊥)
    only e =
        let h = refused_8 r t lent e in
        let c = crowd_of r t words h.few h.checked in
        (record { few = h.few; room = h.room; inorder = ordered_is r h.inorder }, λ p ok. no_plan r t p (lowest_of (get_or r c.i 0)) (highest_of (get_or r c.k 0)) words c.crowd ok)

    always : (Admitted r lent) × ((p : List ℕ) → Passes r t p → ⊥) → (plan r t lent).reply ≡ Refused NoPlan
    always h = go (passes r t (planned r t)) refl
      where
        go : (b : Bool) → passes r t (planned r t) ≡ b → (plan r t lent).reply ≡ Refused NoPlan
        go true e = absurd (h.1 (planned r t) (passes_is r t (planned r t) e))
        go false e = reply_refused r t lent (record { few = h.0.few; room = h.0.room; inorder = ordered_so r h.0.inorder; checked = e })

-- and done exactly when some would: the plan itself, or one that refusal 8 would deny

pub done_exactly : DoneExactly
done_exactly r t lent words = (only, always)
  where
    only : (plan r t lent).reply ≡ Nothing → (Admitted r lent) × (p : List ℕ) × Passes r t p
    only e =
        let h = done r t lent e in
        (record { few = h.few; room = h.room; inorder = ordered_is r h.inorder }, planned r t, passes_is r t (planned r t) h.checked)

    always : (Admitted r lent) × (p : List ℕ) × Passes r t p → (plan r t lent).reply ≡ Nothing
    always h = go (passes r t (planned r t)) refl
      where
        go : (b : Bool) → passes r t (planned r t) ≡ b → (plan r t lent).reply ≡ Nothing
        go true e = reply_done r t lent (record { few = h.0.few; room = h.0.room; inorder = ordered_so r h.0.inorder; checked = e })
        go false e =
            let c = crowd_of r t words h.0.few e in
            absurd (no_plan r t h.1 (lowest_of (get_or r c.i 0)) (highest_of (get_or r c.k 0)) words c.crowd h.2)

-- ---- the shortage

-- the lines of a set are those that are confined, and there is no other number in it
named_is : (r : List ℕ) (a b k : ℕ) → k < length r → bit (set_of (length r) (confined r a b)) k ≡ true → (a ≤ lowest_of (get_or r k 0)) × (highest_of (get_or r k 0) ≤ b)
named_is r a b k l e = let c : confined r a b k ≡ true = sym (bit_set_of (length r) (confined r a b) k l) ∙ e in (confined_low r a b k c, confined_high r a b k c)

named_so : (r : List ℕ) (a b k : ℕ) → k < length r → a ≤ lowest_of (get_or r k 0) → highest_of (get_or r k 0) ≤ b → bit (set_of (length r) (confined r a b)) k ≡ true
named_so r a b k l low high = bit_set_of (length r) (confined r a b) k l ∙ confined_so r a b k low high

no_more : (r : List ℕ) (a b k : ℕ) → length r ≤ k → bit (set_of (length r) (confined r a b)) k ≡ false
no_more r a b k l = bit_above (length r) (set_of (length r) (confined r a b)) k (set_of_lt (length r) (confined r a b)) l

module _ (r t : List ℕ) where
  -- where a range is crowded there is a line that it starts at
  started : Crowd r t → start_line r t < length r
  unfolding start_line starts_at end_line ends_at
  started c =
      first_lt (length r) (starts_at r t) c.i c.start
      (lt-ltb (end_line r t (lowest_of (get_or r c.i 0))) (length r) (first_lt (length r) (ends_at r t (lowest_of (get_or r c.i 0))) c.k c.end c.crowd))

  -- and from such a line up to the one where it ends it is crowded
  start : ℕ
  start = lowest_of (get_or r (start_line r t) 0)

  end : ℕ
  end = highest_of (get_or r (end_line r t start) 0)

  ended : start_line r t < length r → crowded r t start end ≡ true
  unfolding start end end_line ends_at
  ended l = first_holds (length r) (ends_at r t start) (start_shown r t (start_line r t) start refl l refl)

  abbrev answer : Bool → Bool → Bool → Reply
  answer many inorder some = cond many (Refused OutOfRange) (cond (not inorder) (Refused InvalidRegister) (cond some (Three start end (set_of (length r) (confined r start end))) Nothing))

  shortage_by : shortage r t ≡ answer (ltb 24 (length r)) (ordered r) (ltb (start_line r t) (length r))
  unfolding shortage shown_from shown start end
  shortage_by = refl

  shows : (m o s : Bool) → ltb (start_line r t) (length r) ≡ s → (a b lines : ℕ) → answer m o s ≡ Three a b lines → (Shows r t a b lines) × (crowded r t a b ≡ true)
  shows true o s e a b lines q = let z : ◌≡◌ {A = ℕ} 0 1 = cc in absurd (omega arith)
  shows false false s e a b lines q = let z : ◌≡◌ {A = ℕ} 0 1 = cc in absurd (omega arith)
  shows false true false e a b lines q = let z : ◌≡◌ {A = ℕ} 0 1 = cc in absurd (omega arith)
  shows false true true e a b lines q =
      let ea : start ≡ a = cc in
      let eb : end ≡ b = cc in
      let el : set_of (length r) (confined r start end) ≡ lines = cc in
      let c : crowded r t a b ≡ true = rw (← ea, ← eb) (ended (ltb-true (start_line r t) (length r) e)) in
      let set : set_of (length r) (confined r a b) ≡ lines = rw (← ea, ← eb) el in (
        record {
          crowd = crowded_is r t a b c;
          named = λ k l. (λ q. named_is r a b k l (ap (λ (n : ℕ). bit n k) set ∙ q), λ q. sym (ap (λ (n : ℕ). bit n k) set) ∙ named_so r a b k l q.0 q.1);
          nomore = λ k l. sym (ap (λ (n : ℕ). bit n k) set) ∙ no_more r a b k l;
        },
        c,
      )

pub shown_is_so : ShownIsSo
shown_is_so r t a b lines words e =
    let s = shows r t (ltb 24 (length r)) (ordered r) (ltb (start_line r t) (length r)) refl a b lines (sym (shortage_by r t) ∙ e) in
    (s.0, λ p ok. no_plan r t p a b words s.1 ok)

pub always_shown : AlwaysShown
always_shown r t lent words e =
    let h = refused_8 r t lent e in
    let l : start_line r t < length r = started r t (crowd_of r t words h.few h.checked) in
    record {
      a = start r t;
      b = end r t;
      lines = set_of (length r) (confined r (start r t) (end r t));
      shown = shortage_by r t ∙ rw (le-ltb 24 (length r) h.few, h.inorder, lt-ltb (start_line r t) (length r) l);
    }

pub nothing_shown : NothingShown
nothing_shown r t lent words e = go (ltb (start_line r t) (length r)) refl
  where
    h : Tests r t lent true
    h = done r t lent e

    go : (b : Bool) → ltb (start_line r t) (length r) ≡ b → shortage r t ≡ Nothing
    go true q = absurd (no_plan r t (planned r t) (start r t) (end r t) words (ended r t (ltb-true (start_line r t) (length r) q)) (passes_is r t (planned r t) h.checked))
    go false q = shortage_by r t ∙ rw (le-ltb 24 (length r) h.few, h.inorder, q)
