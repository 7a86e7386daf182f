-- A test of the numbers below n: at every one, at some, and at how many it holds. Assumes nothing.
use mathlib.Core.List.{List, [], ◌∷◌}
use lib.ListN.{length, get_or, take}
use Rattle.std.proofs.lemmas.List.Sums.{count_by_more_yes, count_by_more_no}
use Rattle.std.specs.List.{count_by, list_any, list_all, range_with_len}
use Rattle.std.proofs.lemmas.List.FromFn.{length-range_with_len, get_or-range_with_len}
use Rattle.std.proofs.lemmas.List.Folds.{list_any_more, list_all_more}
use mathlib.Core.Path.{◌≡◌, refl, sym, ap, ap₂, ◌∙◌}
use mathlib.Core.Bool.{Bool, true, false, ◌&&◌, ◌||◌, true≢false}
use Prim.Native.Nat.{ℕ, zero, suc, ◌+◌, ◌≤◌, ◌<◌, zero-le}
use native.Mathlib.Omega.{arith}
use native.Mathlib.Numerals.{add-one}
use lib.Dec.{eqb}
use borrow.Author.Tests.{eqb-true, eqb-false}
use Rattle.utils.specs.Cases.{and_left_no, and_right_no, or_left_yes, or_right_yes}
use Rattle.types.specs.Reply.{flag}
use Rattle.planner.specs.Lines.{every, some, count}

pub flag_small : (b : Bool) → flag b ≤ 1
flag_small true = omega arith
flag_small false = omega arith

module _ (p : ℕ → Bool) where
  -- at one of them it doesn't hold; at one it does
  pub every_fails : (n k : ℕ) → k < n → p k ≡ false → every n p ≡ false
  every_fails zero k l h = absurd (omega arith)
  every_fails (suc n) k l h = go (λ q. every_fails n k q h) (eqb k n) refl
    where
      go : (k < n → every n p ≡ false) → (b : Bool) → eqb k n ≡ b → (p n && every n p) ≡ false
      go rest true e = and_left_no (p n) (every n p) (ap p (sym (eqb-true k n e)) ∙ h)
      go rest false e = and_right_no (p n) (every n p) (rest (omega (arith, eqb-false k n e)))

  pub some_found : (n k : ℕ) → k < n → p k ≡ true → some n p ≡ true
  some_found zero k l h = absurd (omega arith)
  some_found (suc n) k l h = go (λ q. some_found n k q h) (eqb k n) refl
    where
      go : (k < n → some n p ≡ true) → (b : Bool) → eqb k n ≡ b → (p n || some n p) ≡ true
      go rest true e = or_left_yes (p n) (some n p) (ap p (sym (eqb-true k n e)) ∙ h)
      go rest false e = or_right_yes (p n) (some n p) (rest (omega (arith, eqb-false k n e)))

  -- so it holds at each one where it holds at every one, and at none where it doesn't hold at some
  pub every_at : (n k : ℕ) → every n p ≡ true → k < n → p k ≡ true
  every_at n k e l = go (p k) refl
    where
      go : (b : Bool) → p k ≡ b → b ≡ true
      go true h = refl
      go false h = absurd (true≢false (sym e ∙ every_fails n k l h))

  pub none_at : (n k : ℕ) → some n p ≡ false → k < n → p k ≡ false
  none_at n k e l = go (p k) refl
    where
      go : (b : Bool) → p k ≡ b → b ≡ false
      go true h = absurd (true≢false (sym (some_found n k l h) ∙ e))
      go false h = refl

  pub every_yes : (n : ℕ) → ((k : ℕ) → k < n → p k ≡ true) → every n p ≡ true
  every_yes zero h = refl
  every_yes (suc n) h = rw (h n (omega arith)) (every_yes n (λ k l. h k (omega arith)))

  pub some_no : (n : ℕ) → ((k : ℕ) → k < n → p k ≡ false) → some n p ≡ false
  some_no zero h = refl
  some_no (suc n) h = rw (h n (omega arith)) (some_no n (λ k l. h k (omega arith)))

  pub count_le : (n : ℕ) → count n p ≤ n
  count_le zero = zero-le
  count_le (suc n) = let h : count n p ≤ n = count_le n in let f : flag (p n) ≤ 1 = flag_small (p n) in omega arith

-- over the numbers of a list's elements it is what the list's own functions say
module _ (q : ℕ → Bool) (xs : List ℕ) where
  abbrev at_element : ℕ → Bool
  at_element k = q (get_or xs k 0)

  swapped_and : (a b : Bool) → (a && b) ≡ (b && a)
  swapped_and true true = refl
  swapped_and true false = refl
  swapped_and false true = refl
  swapped_and false false = refl

  swapped_or : (a b : Bool) → (a || b) ≡ (b || a)
  swapped_or true true = refl
  swapped_or true false = refl
  swapped_or false true = refl
  swapped_or false false = refl

  pub every_all : (n : ℕ) → n ≤ length xs → list_all q (take n xs) ≡ every n at_element
  every_all zero h = refl
  every_all (suc n) h =
      rw (← add-one n) (list_all_more q xs n 0 (omega arith) ∙ ap (λ (b : Bool). b && q (get_or xs n 0)) (every_all n (omega arith)) ∙ swapped_and (every n at_element) (q (get_or xs n 0)))

  pub some_any : (n : ℕ) → n ≤ length xs → list_any q (take n xs) ≡ some n at_element
  some_any zero h = refl
  some_any (suc n) h =
      rw (← add-one n) (list_any_more q xs n 0 (omega arith) ∙ ap (λ (b : Bool). b || q (get_or xs n 0)) (some_any n (omega arith)) ∙ swapped_or (some n at_element) (q (get_or xs n 0)))

pub count_all : (q : ℕ → Bool) (xs : List ℕ) (n : ℕ) → n ≤ length xs → count_by q (take n xs) ≡ count n (λ k. q (get_or xs k 0))
count_all q xs zero h = refl
count_all q xs (suc n) h = rw (← add-one n) (go (q (get_or xs n 0)) refl (count_all q xs n (omega arith)))
  where
    go : (b : Bool) → q (get_or xs n 0) ≡ b → count_by q (take n xs) ≡ count n (λ k. q (get_or xs k 0)) → count_by q (take (n + 1) xs) ≡ count n (λ k. q (get_or xs k 0)) + flag (q (get_or xs n 0))
    go true e r = rw e (omega (arith, r, count_by_more_yes q xs n 0 (omega arith) e))
    go false e r = rw e (omega (arith, r, count_by_more_no q xs n 0 (omega arith) e))

pub take_all : (xs : List ℕ) → take (length xs) xs ≡ xs
take_all [] = refl
take_all (x ∷ xs) = ap (λ (l : List ℕ). x ∷ l) (take_all xs)

every_same : (n : ℕ) (p q : ℕ → Bool) → ((k : ℕ) → k < n → p k ≡ q k) → every n p ≡ every n q
every_same zero p q h = refl
every_same (suc n) p q h = ap₂ (λ (a b : Bool). a && b) (h n (omega arith)) (every_same n p q (λ k l. h k (omega arith)))

-- and over the numbers below n themselves
pub every_range : (q : ℕ → Bool) (n : ℕ) → list_all q (range_with_len 0 n) ≡ every n q
every_range q n =
    let l : length (range_with_len 0 n) ≡ n = length-range_with_len 0 n in
    let t : take n (range_with_len 0 n) ≡ range_with_len 0 n = ap (λ (m : ℕ). take m (range_with_len 0 n)) (sym l) ∙ take_all (range_with_len 0 n) in
    ap (list_all q) (sym t) ∙ every_all q (range_with_len 0 n) n (omega (arith, l)) ∙ every_same n (at_element q (range_with_len 0 n)) q (λ k h. let e : get_or (range_with_len 0 n) k 0 ≡ k = omega (arith, get_or-range_with_len 0 n k 0 h) in ap q e)
