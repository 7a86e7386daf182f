-- Laws of the ring: ranks and lines, and the first line at which a test holds. Assumes nothing.
use mathlib.Core.Path.{◌≡◌, refl, sym, ap, subst, ◌∙◌}
use mathlib.Core.Bool.{Bool, true, false, cond}
use Prim.Native.Nat.{ℕ, ◌+◌, ◌-◌, ◌%◌, ◌<◌, ◌≤◌}
use native.Mathlib.Omega.{arith}
use lib.Dec.{ltb}
use borrow.Author.Tests.{lt-ltb, le-ltb, ltb-true, ltb-false}
use Rattle.utils.specs.Set.{first}
use Rattle.utils.proofs.Search.{first_same, first_le, first_holds, first_before, first_is, first_none}
use Rattle.vpic_priority.specs.Ring.{rank, above, line_at, first_rank, first_by}

-- ---- lines and their ranks

pub rank_in : (lowest k : ℕ) → k < 8 → rank lowest k ≡ (k + 7 - lowest % 8) % 8
rank_in lowest k h = rw (lt-ltb k 8 h)

pub rank_out : (lowest k : ℕ) → 8 ≤ k → rank lowest k ≡ 8
rank_out lowest k h = rw (le-ltb k 8 h)

pub rank_lt : (lowest k : ℕ) → k < 8 → rank lowest k < 8
rank_lt lowest k h = omega (arith, rank_in lowest k h)

-- a line that has a rank is one of the chip's
pub rank_low : (lowest k : ℕ) → rank lowest k < 8 → k < 8
rank_low lowest k h = go (ltb k 8) refl
  where
    go : (b : Bool) → ltb k 8 ≡ b → k < 8
    go true e = ltb-true k 8 e
    go false e = absurd (omega (arith, rank_out lowest k (ltb-false k 8 e)))

pub line_low : (lowest r : ℕ) → line_at lowest r < 8
line_low lowest r = omega arith

pub line_of_rank : (lowest k : ℕ) → k < 8 → line_at lowest (rank lowest k) ≡ k
line_of_rank lowest k h = rw (rank_in lowest k h) (omega arith)

pub rank_of_line : (lowest r : ℕ) → r < 8 → rank lowest (line_at lowest r) ≡ r
rank_of_line lowest r h = rank_in lowest (line_at lowest r) (line_low lowest r) ∙ omega arith

-- ---- the first line at which a test holds

module _ (lowest : ℕ) (p : ℕ → Bool) where
  pub first_rank_le : first_rank lowest p ≤ 8
  unfolding first_rank
  first_rank_le = first_le 8 (λ r. p (line_at lowest r))

  pub by_in : first_rank lowest p < 8 → first_by lowest p ≡ line_at lowest (first_rank lowest p)
  unfolding first_by
  by_in h = rw (lt-ltb (first_rank lowest p) 8 h)

  pub by_out : 8 ≤ first_rank lowest p → first_by lowest p ≡ 8
  unfolding first_by
  by_out h = rw (le-ltb (first_rank lowest p) 8 h)

  -- its rank is the first rank
  pub by_rank : rank lowest (first_by lowest p) ≡ first_rank lowest p
  by_rank = go (ltb (first_rank lowest p) 8) refl
    where
      go : (b : Bool) → ltb (first_rank lowest p) 8 ≡ b → rank lowest (first_by lowest p) ≡ first_rank lowest p
      go true e =
          let h : first_rank lowest p < 8 = ltb-true (first_rank lowest p) 8 e in
          ap (rank lowest) (by_in h) ∙ rank_of_line lowest (first_rank lowest p) h
      go false e =
          let h : 8 ≤ first_rank lowest p = ltb-false (first_rank lowest p) 8 e in
          ap (rank lowest) (by_out h) ∙ omega (arith, first_rank_le)

  pub by_low : first_by lowest p < 8 → first_rank lowest p < 8
  by_low h = omega (arith, by_rank, rank_lt lowest (first_by lowest p) h)

  -- the test holds there, and at no line above it
  pub by_holds : first_by lowest p < 8 → p (first_by lowest p) ≡ true
  unfolding first_rank
  by_holds h = subst (λ (n : ℕ). p n ≡ true) (sym (by_in (by_low h))) (first_holds 8 (λ r. p (line_at lowest r)) (by_low h))

  pub by_before : (j : ℕ) → rank lowest j < first_rank lowest p → p j ≡ false
  unfolding first_rank
  by_before j h =
      subst (λ (n : ℕ). p n ≡ false) (line_of_rank lowest j (rank_low lowest j (omega (arith, first_rank_le)))) (first_before 8 (λ r. p (line_at lowest r)) (rank lowest j) h)

  -- these two say which line it is
  pub by_is : (k : ℕ) → k < 8 → p k ≡ true → ((j : ℕ) → rank lowest j < rank lowest k → p j ≡ false) → first_by lowest p ≡ k
  unfolding first_rank
  by_is k l h n =
      let here : first 8 (λ r. p (line_at lowest r)) ≡ rank lowest k =
      first_is 8 (λ r. p (line_at lowest r)) (rank lowest k) (rank_lt lowest k l) (subst (λ (m : ℕ). p m ≡ true) (sym (line_of_rank lowest k l)) h)
      (λ r q. n (line_at lowest r) (omega (arith, rank_of_line lowest r (omega (arith, rank_lt lowest k l))))) in
      by_in (omega (arith, here, rank_lt lowest k l)) ∙ ap (line_at lowest) here ∙ line_of_rank lowest k l

  pub by_none : ((j : ℕ) → j < 8 → p j ≡ false) → first_by lowest p ≡ 8
  unfolding first_rank
  by_none n = by_out (omega (arith, first_none 8 (λ r. p (line_at lowest r)) (λ r l. n (line_at lowest r) (line_low lowest r))))

-- only what the test answers matters
pub first_rank_same : (lowest : ℕ) (p q : ℕ → Bool) → ((k : ℕ) → k < 8 → p k ≡ q k) → first_rank lowest p ≡ first_rank lowest q
unfolding first_rank
first_rank_same lowest p q h = first_same 8 (λ r. p (line_at lowest r)) (λ r. q (line_at lowest r)) (λ r l. h (line_at lowest r) (line_low lowest r))

pub by_same : (lowest : ℕ) (p q : ℕ → Bool) → ((k : ℕ) → k < 8 → p k ≡ q k) → first_by lowest p ≡ first_by lowest q
unfolding first_by
by_same lowest p q h = ap (λ (r : ℕ). cond (ltb r 8) (line_at lowest r) 8) (first_rank_same lowest p q h)

-- a lowest line counts by its remainder
pub by_remainder : (lowest : ℕ) (p : ℕ → Bool) → first_by (lowest % 8) p ≡ first_by lowest p
unfolding first_by first_rank
by_remainder lowest p = rw (ranks) (lines (first 8 (λ r. p (line_at lowest r))))
  where
    line : (r : ℕ) → line_at (lowest % 8) r ≡ line_at lowest r
    line r = omega arith

    ranks : first 8 (λ r. p (line_at (lowest % 8) r)) ≡ first 8 (λ r. p (line_at lowest r))
    ranks = first_same 8 (λ r. p (line_at (lowest % 8) r)) (λ r. p (line_at lowest r)) (λ r l. ap p (line r))

    lines : (n : ℕ) → cond (ltb n 8) (line_at (lowest % 8) n) 8 ≡ cond (ltb n 8) (line_at lowest n) 8
    lines n = ap (λ (k : ℕ). cond (ltb n 8) k 8) (line n)

-- ---- where line 7 is lowest, the order is that of the numbers

pub nested_rank : (k : ℕ) → k < 8 → rank 7 k ≡ k
nested_rank k h = rank_in 7 k h ∙ omega arith

nested_line : (r : ℕ) → r < 8 → line_at 7 r ≡ r
nested_line r h = omega arith

pub nested_first_rank : (p : ℕ → Bool) → first_rank 7 p ≡ first 8 p
unfolding first_rank
nested_first_rank p = first_same 8 (λ r. p (line_at 7 r)) p (λ r l. ap p (nested_line r l))

pub nested_first : (p : ℕ → Bool) → first_by 7 p ≡ first 8 p
nested_first p = go (ltb (first_rank 7 p) 8) refl
  where
    go : (b : Bool) → ltb (first_rank 7 p) 8 ≡ b → first_by 7 p ≡ first 8 p
    go true e =
        let h : first_rank 7 p < 8 = ltb-true (first_rank 7 p) 8 e in
        by_in 7 p h ∙ nested_line (first_rank 7 p) h ∙ nested_first_rank p
    go false e =
        let h : 8 ≤ first_rank 7 p = ltb-false (first_rank 7 p) 8 e in
        by_out 7 p h ∙ omega (arith, first_rank_le 7 p, nested_first_rank p)

pub nested_above : (j k : ℕ) → j < 8 → k < 8 → above 7 j k ≡ ltb j k
unfolding above
nested_above j k h l = rw (nested_rank j h, nested_rank k l)
