-- What each loop and each return of the planner's code shows. Assumes nothing.
use mathlib.Core.Path.{◌≡◌, refl, sym, ap, ◌∙◌}
use mathlib.Core.Bool.{Bool, true, false, not, cond, ◌&&◌}
use mathlib.Core.List.{List, [], ◌∷◌}
use Prim.Native.Nat.{ℕ, zero, suc, ◌+◌, ◌-◌, ◌≤◌, ◌<◌}
use native.Mathlib.Nat.{le_antisymm}
use native.Mathlib.Omega.{arith}
use native.Mathlib.Numerals.{add-one}
use lib.Dec.{eqb, leb, ltb}
use Rattle.std.specs.List.{count_by, list_any, list_all, range_with_len, position, position_or_len}
use Rattle.std.proofs.Common.{Option, Some, None}
use lib.ListN.{length, get_or, set, take, length-set, length-replicate}
use borrow.Author.Tests.{lt-leb, le-leb, lt-ltb, le-ltb, ltb-true, ltb-false}
use Rattle.utils.specs.Cases.{so_true, so_false}
use Rattle.utils.specs.Set.{first, set_of, with}
use Rattle.utils.proofs.Search.{first_le, first_holds}
use Rattle.utils.proofs.Laws.{set_of_next}
use Rattle.types.specs.declared.Refusal.TheVariants.{InvalidRegister, OutOfRange, NoPlan, TooShort}
use Rattle.types.specs.declared.Reply.{Reply}
use Rattle.types.specs.declared.Reply.TheVariants.{Refused, Nothing, Three}
use Rattle.types.specs.Reply.{outcome_of, option_reply}
use Rattle.planner.specs.Lines.{count, lowest_of, highest_of, is_free, allows}
use Rattle.planner.specs.Check.{has_vector, among, line_passes, passes}
use Rattle.planner.specs.Plan.{next_line, give, giving, planned, in_order, ordered, written, plan}
use Rattle.planner.specs.declared.shortage.CrowdedRange.{CrowdedRange}
use Rattle.planner.specs.Answers.{shown_reply}
use Rattle.planner.specs.Shortage.{lies_within, confined, crowded, ends_at, end_line, starts_at, start_line, shown, shown_from, IsFirst, IsShown, shortage}
use Rattle.std.specs.Option.{is_some}
use Rattle.planner.proofs.Laws.{every_all, count_all, every_range, some_any, take_all}

-- ---- the check

pub among_any : (plan : List ℕ) (n v : ℕ) → n ≤ length plan → list_any (λ y. eqb y v) (take n plan) ≡ among plan n v
unfolding among has_vector
among_any plan n v h = some_any (λ y. eqb y v) plan n h

pub line_allowed : (r t plan : List ℕ) (k : ℕ) (b : Bool) → allows (get_or r k 0) t (get_or plan k 0) ≡ true → k ≤ length plan
    → b ≡ list_any (λ y. eqb y (get_or plan k 0)) (take k plan) → not b ≡ line_passes r t plan k
unfolding line_passes
line_allowed r t plan k b h l e = rw (h, ← among_any plan k (get_or plan k 0) l, ← e) refl

pub passes_short : (r t plan : List ℕ) → length plan < length r → leb (length r) (length plan) ≡ passes r t plan
unfolding passes
passes_short r t plan h = rw (lt-leb (length r) (length plan) h)

pub passes_all : (r t plan : List ℕ) → length r ≤ length plan → list_all (line_passes r t plan) (range_with_len 0 (length r)) ≡ passes r t plan
unfolding passes
passes_all r t plan s = rw (le-leb (length r) (length plan) s) (every_range (line_passes r t plan) (length r))

-- ---- the planner

-- a store past the end changes nothing
pub set_past : (l : List ℕ) (k v : ℕ) → length l ≤ k → set l k v ≡ l
set_past [] k v h = refl
set_past (x ∷ l) zero v h = absurd (omega arith)
set_past (x ∷ l) (suc k) v h = ap (λ (m : List ℕ). x ∷ m) (set_past l k v (omega arith))

pub give_none : (r t given : List ℕ) (v : ℕ) → is_free t v ≡ false → given ≡ give r t given v
unfolding give
give_none r t given v h = rw h

pub give_line : (r t given : List ℕ) (v k : ℕ) → is_free t v ≡ true → k ≡ next_line r given v → set given k v ≡ give r t given v
unfolding give
give_line r t given v k h e = rw (h, e)

pub give_past : (r t given : List ℕ) (v k : ℕ) → is_free t v ≡ true → k ≡ next_line r given v → length given ≤ k → given ≡ give r t given v
give_past r t given v k h e l = sym (set_past given k v l) ∙ give_line r t given v k h e

pub length_give : (r t given : List ℕ) (v : ℕ) → length (give r t given v) ≡ length given
unfolding give
length_give r t given v = go (is_free t v)
  where
    go : (b : Bool) → length (cond b (set given (next_line r given v) v) given) ≡ length given
    go true = length-set given (next_line r given v) v
    go false = refl

pub length_giving : (r t : List ℕ) (d : ℕ) → length (giving r t d) ≡ 24
length_giving r t zero = length-replicate {A = ℕ} 24 0
length_giving r t (suc d) = length_give r t (giving r t d) (32 + d) ∙ length_giving r t d

-- after 255, the last, all are given
pub giving_last : (r t given after : List ℕ) (v : ℕ) → given ≡ giving r t (v - 32) → v ≡ 255 → after ≡ give r t given v → after ≡ planned r t
unfolding planned
giving_last r t given after v e l h = let d : v - 32 ≡ 223 = omega arith in h ∙ ap (λ (n : ℕ). give r t given n) l ∙ ap (λ (g : List ℕ). give r t g 255) (e ∙ ap (giving r t) d)

pub length_planned : (r t : List ℕ) → length (planned r t) ≡ 24
unfolding planned
length_planned r t = length_giving r t 224

pub ordered_all : (r : List ℕ) → list_all (λ range. leb (lowest_of range) (highest_of range)) r ≡ ordered r
unfolding ordered in_order
ordered_all r = sym (ap (list_all (λ range. leb (lowest_of range) (highest_of range))) (take_all r)) ∙ every_all (λ range. leb (lowest_of range) (highest_of range)) r (length r) (omega arith)

-- the five answers
module _ (r t lent : List ℕ) where
  pub plan_many : 24 < length r → outcome_of lent (Refused OutOfRange) ≡ plan r t lent
  unfolding plan
  plan_many h = rw (lt-ltb 24 (length r) h)

  module _ (few : length r ≤ 24) where
    pub plan_short : length lent < length r → outcome_of lent (Refused TooShort) ≡ plan r t lent
    unfolding plan
    plan_short h = rw (le-ltb 24 (length r) few, lt-ltb (length lent) (length r) h)

    module _ (room : length r ≤ length lent) (b : Bool) (tested : b ≡ ordered r) where
      pub plan_unordered : not b ≡ true → outcome_of lent (Refused InvalidRegister) ≡ plan r t lent
      unfolding plan
      plan_unordered h = rw (le-ltb 24 (length r) few, le-ltb (length lent) (length r) room, so_false tested h)

      module _ (inorder : not b ≡ false) (given : List ℕ) (is : given ≡ planned r t) (a : Bool) (checked : a ≡ passes r t given) where
        pub plan_none : not a ≡ true → outcome_of lent (Refused NoPlan) ≡ plan r t lent
        unfolding plan
        plan_none h = rw (le-ltb 24 (length r) few, le-ltb (length lent) (length r) room, so_true tested inorder, so_false (checked ∙ ap (passes r t) is) h)

        pub plan_done : (after : List ℕ) → not a ≡ false → after ≡ written (length r) given lent → outcome_of after Nothing ≡ plan r t lent
        unfolding plan
        plan_done after h w = rw (le-ltb 24 (length r) few, le-ltb (length lent) (length r) room, so_true tested inorder, so_true (checked ∙ ap (passes r t) is) h, w, is)

-- ---- the shortage

pub confined_all : (r : List ℕ) (a b : ℕ) → count_by (λ range. lies_within range a b) r ≡ count (length r) (confined r a b)
unfolding lies_within confined
confined_all r a b =
    ap (count_by (λ range. leb a (lowest_of range) && leb (highest_of range) b)) (sym (take_all r)) ∙ count_all (λ range. leb a (lowest_of range) && leb (highest_of range) b) r (length r) (omega arith)

pub confined_at : (r : List ℕ) (a b k : ℕ) → lies_within (get_or r k 0) a b ≡ confined r a b k
unfolding lies_within confined
confined_at r a b k = refl

pub counted_all : (p : ℕ → Bool) (k m n : ℕ) → n ≡ count k p → k ≤ m → m ≤ k → n ≡ count m p
counted_all p k m n e a b = e ∙ ap (λ (i : ℕ). count i p) (le_antisymm a b)

-- the first at which a list's test holds is where the list's own search stops
first_position : (p : ℕ → Bool) (xs : List ℕ) → first (length xs) (λ k. p (get_or xs k 0)) ≡ position_or_len p xs
first_position p [] = refl
first_position p (x ∷ xs) = go (first_position p xs) (p x)
  where
    go : first (length xs) (λ k. p (get_or xs k 0)) ≡ position_or_len p xs → (b : Bool) → cond b zero (suc (first (length xs) (λ k. p (get_or xs k 0)))) ≡ cond (not b) (1 + position_or_len p xs) zero
    go rest true = refl
    go rest false = omega (arith, rest)

first_of : (p : ℕ → Bool) (xs : List ℕ) → IsFirst (length xs) (first (length xs) (λ k. p (get_or xs k 0))) (position p xs)
first_of p xs = rw (first_position p xs) (go (ltb (position_or_len p xs) (length xs)) refl)
  where
    go : (b : Bool) → ltb (position_or_len p xs) (length xs) ≡ b → IsFirst (length xs) (position_or_len p xs) (cond b (Some (position_or_len p xs)) None)
    go true e = (refl, ltb-true (position_or_len p xs) (length xs) e)
    go false e =
        let l : length xs ≤ position_or_len p xs = ltb-false (position_or_len p xs) (length xs) e in
        let m : position_or_len p xs ≤ length xs = omega (arith, first_position p xs, first_le (length xs) (λ k. p (get_or xs k 0))) in omega arith

-- a first line was found where there is one
pub first_found : (n line : ℕ) (o : Option ℕ) → IsFirst n line o → is_some o ≡ ltb line n
first_found n line (Some k) h = sym (lt-ltb line n (omega (arith, h.0, h.1)))
first_found n line None h = sym (le-ltb line n (omega (arith, h)))

pub end_position : (r t : List ℕ) (a : ℕ) (o : Option ℕ) → o ≡ position (λ range. crowded r t a (highest_of range)) r → IsFirst (length r) (end_line r t a) o
unfolding end_line ends_at
end_position r t a o e = rw e (first_of (λ range. crowded r t a (highest_of range)) r)

pub start_position : (r t : List ℕ) (o : Option ℕ) → o ≡ position (λ range. ltb (end_line r t (lowest_of range)) (length r)) r → IsFirst (length r) (start_line r t) o
unfolding start_line starts_at
start_position r t o e = rw e (first_of (λ range. ltb (end_line r t (lowest_of range)) (length r)) r)

pub lines_with : (p : ℕ → Bool) (k s m : ℕ) → s ≡ set_of k p → p k ≡ true → m ≡ with s k → m ≡ set_of (k + 1) p
lines_with p k s m e h g = rw (add-one k) (g ∙ ap (λ (n : ℕ). with n k) e ∙ sym (set_of_next k p ∙ rw h refl))

pub lines_without : (p : ℕ → Bool) (k s : ℕ) → s ≡ set_of k p → p k ≡ false → s ≡ set_of (k + 1) p
lines_without p k s e h = rw (add-one k) (e ∙ sym (set_of_next k p ∙ rw h refl))

-- the line where a crowded range starts is one from which it is crowded up to some line's highest
pub start_shown : (r t : List ℕ) (start low : ℕ) → start ≡ start_line r t → start < length r → low ≡ lowest_of (get_or r start 0) → end_line r t low < length r
unfolding start_line starts_at
start_shown r t start low e l q =
    let h : starts_at r t start ≡ true = rw e (first_holds (length r) (starts_at r t) (omega (arith, e))) in
    rw q (ltb-true (end_line r t (lowest_of (get_or r start 0))) (length r) h)

pub shown_is : (r t : List ℕ) (a b end lines : ℕ) → end ≡ end_line r t a → b ≡ highest_of (get_or r end 0) → lines ≡ set_of (length r) (confined r a b) → Three a b lines ≡ shown_from r t a
unfolding shown_from shown
shown_is r t a b end lines e f g = rw (g, f, e)

-- so what shows it from there on is shown
pub shown_so : (r t : List ℕ) (a : ℕ) (o : Option CrowdedRange) → IsShown r t a o → end_line r t a < length r → option_reply shown_reply o ≡ shown_from r t a
shown_so r t a (Some s) h l = h
shown_so r t a None h l = absurd (omega arith)

-- the four answers
module _ (r t : List ℕ) where
  pub shortage_many : 24 < length r → Refused OutOfRange ≡ shortage r t
  unfolding shortage
  shortage_many h = rw (lt-ltb 24 (length r) h)

  module _ (few : length r ≤ 24) (b : Bool) (tested : b ≡ ordered r) where
    pub shortage_unordered : not b ≡ true → Refused InvalidRegister ≡ shortage r t
    unfolding shortage
    shortage_unordered h = rw (le-ltb 24 (length r) few, so_false tested h)

    module _ (inorder : not b ≡ false) (start : ℕ) (is : start ≡ start_line r t) where
      pub shortage_shown : (low : ℕ) (x : Reply) → start < length r → low ≡ lowest_of (get_or r start 0) → x ≡ shown_from r t low → x ≡ shortage r t
      unfolding shortage
      shortage_shown low x l e h = rw (le-ltb 24 (length r) few, so_true tested inorder, ← is, lt-ltb start (length r) l, ← e) h

      pub shortage_none : length r ≤ start → Nothing ≡ shortage r t
      unfolding shortage
      shortage_none l = rw (le-ltb 24 (length r) few, so_true tested inorder, ← is, le-ltb start (length r) l)
