-- The words, viewed as registers, move as the definitions of IRR and PPR say. Assumes nothing.
use Prim.Native.Nat.{ℕ, ◌+◌, ◌/◌, ◌%◌, ◌^◌, ◌≤◌, ◌<◌}
use native.Mathlib.Nat.{mod-lt}
use native.Mathlib.Omega.{arith}
use mathlib.Core.Bool.{Bool, true, false, not}
use mathlib.Core.List.{List}
use mathlib.Core.Logic.{inr}
use mathlib.Core.Path.{◌≡◌, refl, sym, ap, ◌∙◌}
use lib.Dec.{eqb}
use lib.ListN.{length, get_or, set}
use lib.Seq.{get_or-set_other}
use Rattle.utils.specs.Set.{marked}
use Rattle.utils.proofs.Marked.{marked_lt}
use Rattle.vlapic_regs.specs.Register.{priority}
use Rattle.vlapic_words.specs.Words.{word, eight, view}
use Rattle.vlapic_words.specs.Calls.{Stored}
use Rattle.vlapic_words.specs.Steps.{marked_in}
use Rattle.vlapic_words.proofs.Runs.{at_from, from_other, from_set}
use Rattle.vlapic_words.proofs.View.{cut_small, view_of, put_view, moved, priority_small, stored_set}
use Rattle.vlapic_requests.specs.Requests.{with_irr, highest, ranked}
use Rattle.vlapic_requests.specs.Promise.{ranked_words}

-- a word of IRR
irr_view : (l : List ℕ) → length l ≡ 48 → (i x : ℕ) → i < 8 → x < 2 ^ 32 → view (set l (34 + i) x) ≡ with_irr (view l) (set (view l).irr i x)
unfolding view
irr_view l n i x b h =
    view_of (set l (34 + i) x) (not (eqb (get_or l 0 0) 0)) (word l) (eight l 18) (eight l 26) (set (eight l 34) i x)
    (ap (λ (y : ℕ). not (eqb y 0)) (get_or-set_other l (34 + i) 0 x 0 (λ q. omega arith)))
    (λ j q. ap (λ (y : ℕ). y % 2 ^ 32) (get_or-set_other l (34 + i) j x 0 (λ e. omega arith)))
    (from_other l 18 8 (34 + i) x (inr (omega arith)))
    (from_other l 26 8 (34 + i) x (inr (omega arith)))
    (from_set l 34 8 i (34 + i) x refl b (omega arith) h)

moved_is : (words : List ℕ) (v : ℕ) (up : Bool) → set words (v / 32) (marked (get_or words (v / 32) 0) (v % 32) up) ≡ moved words v up
moved_is words v true = refl
moved_is words v false = refl

-- a vector of it
small : (l : List ℕ) (base v : ℕ) (up : Bool) → v < 256 → marked (word l (base + v / 32)) (v % 32) up < 2 ^ 32
small l base v up h = marked_lt 32 (word l (base + v / 32)) (v % 32) up (cut_small (get_or l (base + v / 32) 0)) (mod-lt v (omega arith))

pub mark_irr : (l : List ℕ) → length l ≡ 48 → (v : ℕ) (up : Bool) → v < 256 → view (marked_in l 34 v up) ≡ with_irr (view l) (moved (view l).irr v up)
unfolding view
mark_irr l n v up h =
    let here : get_or (eight l 34) (v / 32) 0 ≡ word l (34 + v / 32) = at_from l 34 8 (v / 32) (34 + v / 32) refl (omega arith) in
    irr_view l n (v / 32) (marked (word l (34 + v / 32)) (v % 32) up) (omega arith) (small l 34 v up h)
    ∙ ap (with_irr (view l)) (ap (λ (x : ℕ). set (eight l 34) (v / 32) (marked x (v % 32) up)) (sym here) ∙ moved_is (eight l 34) v up)

-- PPR
pub rank_view : (l : List ℕ) → length l ≡ 48 → view (ranked_words l) ≡ ranked (view l)
unfolding view ranked
rank_view l n =
    put_view l n 3 (priority (word l 2) (highest (eight l 18))) (omega arith) (omega arith)
    (priority_small (word l 2) (highest (eight l 18)) (cut_small (get_or l 2 0)))

-- what is stored
pub stored_mark : (l : List ℕ) (base v : ℕ) (up : Bool) → length l ≡ 48 → v < 256 → 1 ≤ base → base + 8 ≤ 42 → Stored l (marked_in l base v up)
stored_mark l base v up n h a b =
    stored_set l (base + v / 32) (marked (word l (base + v / 32)) (v % 32) up) n (omega arith, omega arith) (small l base v up h)

pub stored_rank : (l : List ℕ) → length l ≡ 48 → Stored l (ranked_words l)
stored_rank l n =
    stored_set l 3 (priority (word l 2) (highest (eight l 18))) n (omega arith, omega arith)
    (priority_small (word l 2) (highest (eight l 18)) (cut_small (get_or l 2 0)))
