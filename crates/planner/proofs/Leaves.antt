-- What each return of the planner's small tests shows. Assumes nothing.
use mathlib.Core.Path.{◌≡◌, refl, sym, ap, ◌∙◌}
use mathlib.Core.Bool.{Bool, true, false}
use mathlib.Core.List.{List, [], ◌∷◌}
use Prim.Native.Nat.{ℕ, zero, suc, ◌/◌, ◌≤◌, ◌<◌}
use native.Mathlib.Omega.{arith}
use lib.ListN.{length, get_or}
use borrow.Author.Tests.{lt-ltb, le-ltb}
use Rattle.planner.specs.Lines.{lowest_of, highest_of}
use Rattle.planner.specs.Plan.{waits, reach, line_number, better}
use Rattle.std.proofs.Common.{Option, Some, None}
use Rattle.planner.specs.Shortage.{crowded, ends_at, starts_at, end_line}

-- past the end of a list stands what is handed in
pub get_d_past : (l : List ℕ) (k d : ℕ) → length l ≤ k → get_or l k d ≡ d
get_d_past [] k d h = refl
get_d_past (x ∷ l) zero d h = absurd (omega arith)
get_d_past (x ∷ l) (suc k) d h = get_d_past l k d (omega arith)

pub get_d_any : (l : List ℕ) (k d e : ℕ) → k < length l → get_or l k d ≡ get_or l k e
get_d_any [] k d e h = absurd (omega arith)
get_d_any (x ∷ l) zero d e h = refl
get_d_any (x ∷ l) (suc k) d e h = get_d_any l k d e (omega arith)

pub reach_line : (r : List ℕ) (k : ℕ) → k < length r → get_or r k 0 / 256 ≡ reach r k
unfolding reach
reach_line r k h = ap (λ (n : ℕ). n / 256) (get_d_any r k 0 65536 h)

pub reach_past : (r : List ℕ) (k : ℕ) → length r ≤ k → 256 ≡ reach r k
unfolding reach
reach_past r k h = rw (get_d_past r k 65536 h)

-- the first line that waits: its vectors are below 256, as far as no line reaches
better_first : (r given : List ℕ) (v k m : ℕ) (b : Bool) → length r ≤ 24 → m ≡ reach r k → m < 256 → b ≡ waits (get_or r k 0) (get_or given k 0) v → b ≡ true → k ≡ better r given v 24 k
unfolding better
better_first r given v k m b few f l e h = rw (← e, h, ← reach_past r 24 few, lt-ltb (reach r k) 256 (omega arith))

pub better_waits_not : (r given : List ℕ) (v best k : ℕ) (b : Bool) → b ≡ waits (get_or r k 0) (get_or given k 0) v → b ≡ false → best ≡ better r given v best k
unfolding better
better_waits_not r given v best k b e h = rw (← e, h)

pub better_yes : (r given : List ℕ) (v best k m n : ℕ) (b : Bool) → b ≡ waits (get_or r k 0) (get_or given k 0) v → b ≡ true → m ≡ reach r k → n ≡ reach r best → m < n → k ≡ better r given v best k
unfolding better
better_yes r given v best k m n b e h f g l = rw (← e, h, lt-ltb (reach r k) (reach r best) (omega arith))

pub better_no : (r given : List ℕ) (v best k m n : ℕ) (b : Bool) → b ≡ waits (get_or r k 0) (get_or given k 0) v → b ≡ true → m ≡ reach r k → n ≡ reach r best → n ≤ m → best ≡ better r given v best k
unfolding better
better_no r given v best k m n b e h f g l = rw (← e, h, le-ltb (reach r k) (reach r best) (omega arith))

-- the same where the best so far is known
pub better_taken : (r given : List ℕ) (v line k m n : ℕ) (best : Option ℕ) (b : Bool) → best ≡ Some line → b ≡ waits (get_or r k 0) (get_or given k 0) v → b ≡ true → m ≡ reach r k → n ≡ reach r line → m < n → k ≡ better r given v (line_number best) k
better_taken r given v line k m n best b s e h f g l = rw s (better_yes r given v line k m n b e h f g l)

pub better_kept : (r given : List ℕ) (v line k m n : ℕ) (best : Option ℕ) (b : Bool) → best ≡ Some line → b ≡ waits (get_or r k 0) (get_or given k 0) v → b ≡ true → m ≡ reach r k → n ≡ reach r line → n ≤ m → line ≡ better r given v (line_number best) k
better_kept r given v line k m n best b s e h f g l = rw s (better_no r given v line k m n b e h f g l)

pub better_none : (r given : List ℕ) (v k m : ℕ) (best : Option ℕ) (b : Bool) → best ≡ None → length r ≤ 24 → m ≡ reach r k → m < 256
    → b ≡ waits (get_or r k 0) (get_or given k 0) v → b ≡ true → k ≡ better r given v (line_number best) k
better_none r given v k m best b s few f l e h = rw s (better_first r given v k m b few f l e h)

pub ends_at_lem : (r t : List ℕ) (a k high : ℕ) (x y : Bool) → high ≡ highest_of (get_or r k 0) → x ≡ crowded r t a high → x ≡ y → ends_at r t a k ≡ y
unfolding ends_at
ends_at_lem r t a k high x y e h q = ap (crowded r t a) (sym e) ∙ sym h ∙ q

pub starts_at_lem : (r t : List ℕ) (k low end : ℕ) → low ≡ lowest_of (get_or r k 0) → end ≡ end_line r t low → end < length r → starts_at r t k ≡ true
unfolding starts_at
starts_at_lem r t k low end e h l = lt-ltb (end_line r t (lowest_of (get_or r k 0))) (length r) (omega (arith, ap (end_line r t) e))

pub starts_not : (r t : List ℕ) (k low end : ℕ) → low ≡ lowest_of (get_or r k 0) → end ≡ end_line r t low → length r ≤ end → starts_at r t k ≡ false
unfolding starts_at
starts_not r t k low end e h l = le-ltb (end_line r t (lowest_of (get_or r k 0))) (length r) (omega (arith, ap (end_line r t) e))
