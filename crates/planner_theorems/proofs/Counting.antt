-- How many numbers below n a test holds at: where one set goes into another without two at one place, it isn't larger. Assumes nothing.
use mathlib.Core.Path.{◌≡◌, refl, sym, ap, ap₂, ◌∙◌, subst}
use mathlib.Core.Bool.{Bool, true, false, not, ◌&&◌, true≢false}
use Prim.Native.Nat.{ℕ, zero, suc, ◌+◌, ◌≤◌, ◌<◌, zero-le}
use native.Mathlib.Omega.{arith}
use lib.Dec.{eqb, leb, ltb}
use borrow.Author.Tests.{eqb-true, eqb-false, eq-eqb, ne_eqb, leb-true, leb-false, ltb-true, ltb-false, not-true, not-false}
use Rattle.utils.specs.Cases.{and_right_no}
use Rattle.utils.specs.Set.{first}
use Rattle.utils.proofs.Search.{first_before}
use Rattle.types.specs.Reply.{flag}
use Rattle.planner.specs.Lines.{every, count}
use Rattle.planner.proofs.Laws.{every_at}

pub count_same : (n : ℕ) (p q : ℕ → Bool) → ((k : ℕ) → k < n → p k ≡ q k) → count n p ≡ count n q
count_same zero p q h = refl
count_same (suc n) p q h = ap₂ (λ (m : ℕ) (b : Bool). m + flag b) (count_same n p q (λ k l. h k (omega arith))) (h n (omega arith))

-- all but x
unfoldable pub but : (ℕ → Bool) → ℕ → ℕ → Bool
but q x y = q y && not (eqb y x)

but_other : (q : ℕ → Bool) (x y : ℕ) → (y ≡ x → ⊥) → q y ≡ but q x y
unfolding but
but_other q x y h = rw (ne_eqb y x h) (go (q y))
  where
    go : (b : Bool) → b ≡ (b && true)
    go true = refl
    go false = refl

but_same : (q : ℕ → Bool) (x : ℕ) → but q x x ≡ false
unfolding but
but_same q x = and_right_no (q x) (not (eqb x x)) (rw (eq-eqb x x refl) refl)

pub count_but : (m : ℕ) (q : ℕ → Bool) (x : ℕ) → x < m → q x ≡ true → count m q ≡ count m (but q x) + 1
count_but zero q x l h = absurd (omega arith)
count_but (suc m) q x l h = go (λ k. count_but m q x k h) (eqb x m) refl
  where
    go : (x < m → count m q ≡ count m (but q x) + 1) → (b : Bool) → eqb x m ≡ b → count m q + flag (q m) ≡ count m (but q x) + flag (but q x m) + 1
    go rest true e =
        let s : x ≡ m = eqb-true x m e in
        let here : q m ≡ true = ap q (sym s) ∙ h in
        let gone : but q x m ≡ false = ap (but q x) (sym s) ∙ but_same q x in
        let below : count m q ≡ count m (but q x) = count_same m q (but q x) (λ k l. but_other q x k (omega arith)) in
        rw (here, gone) (omega (arith, below))
    go rest false e =
        let d : x ≡ m → ⊥ = eqb-false x m e in
        let r : count m q ≡ count m (but q x) + 1 = rest (omega (arith, d)) in
        rw (← but_other q x m (λ z. d (sym z))) (omega (arith, r))

-- a map that sends what p holds at to what q holds at, no two to one
pub into : (n m : ℕ) (p q : ℕ → Bool) (f : ℕ → ℕ)
    → ((i : ℕ) → i < n → p i ≡ true → f i < m)
    → ((i : ℕ) → i < n → p i ≡ true → q (f i) ≡ true)
    → ((i j : ℕ) → i < j → j < n → p i ≡ true → p j ≡ true → f i ≡ f j → ⊥)
    → count n p ≤ count m q
into zero m p q f below holds apart = zero-le
into (suc n) m p q f below holds apart = go (λ r. into n m p r f) (p n) refl
  where
    go : ((r : ℕ → Bool)
        → ((i : ℕ) → i < n → p i ≡ true → f i < m)
        → ((i : ℕ) → i < n → p i ≡ true → r (f i) ≡ true)
        → ((i j : ℕ) → i < j → j < n → p i ≡ true → p j ≡ true → f i ≡ f j → ⊥)
        → count n p ≤ count m r)
        → (b : Bool) → p n ≡ b → count n p + flag b ≤ count m q
    go rest false e =
        let h : count n p ≤ count m q = rest q (λ i l. below i (omega arith)) (λ i l. holds i (omega arith)) (λ i j l k. apart i j l (omega arith)) in
        omega arith
    go rest true e =
        let h : count n p ≤ count m (but q (f n)) = rest (but q (f n)) (λ i l. below i (omega arith))
        (λ i l t. sym (but_other q (f n) (f i) (apart i n l (omega arith) t e)) ∙ holds i (omega arith) t)
        (λ i j l k. apart i j l (omega arith)) in
        omega (arith, count_but m q (f n) (below n (omega arith) e) (holds n (omega arith) e))

pub count_more : (n : ℕ) (p q : ℕ → Bool) → ((k : ℕ) → k < n → p k ≡ true → q k ≡ true) → count n p ≤ count n q
count_more n p q h = into n n p q (λ k. k) (λ i l t. l) h (λ i j l k s t e. omega arith)

-- a number at which it doesn't hold, where it doesn't hold at every one
pub every_not : (n : ℕ) (p : ℕ → Bool) → every n p ≡ false → (k : ℕ) × (k < n) × (p k ≡ false)
every_not zero p h = absurd (true≢false h)
every_not (suc n) p h = go (every_not n p) (p n) refl h
  where
    go : (every n p ≡ false → (k : ℕ) × (k < n) × (p k ≡ false)) → (b : Bool) → p n ≡ b → (b && every n p) ≡ false → (k : ℕ) × (k < suc n) × (p k ≡ false)
    go rest true e q = let r = rest q in (r.0, omega (arith, r.1), r.2)
    go rest false e q = (n, omega arith, e)

-- of those at which it holds, one with the least f
pub record Least (n : ℕ) (p : ℕ → Bool) (f : ℕ → ℕ) : Type 0 where
  pub at : ℕ
  pub below : at < n
  pub holds : p at ≡ true
  pub is : (j : ℕ) → j < n → p j ≡ true → f at ≤ f j

module _ (p : ℕ → Bool) (f : ℕ → ℕ) where
  -- n is another such number, or it isn't
  also : (n : ℕ) → Least n p f → Least (suc n) p f
  also n m = go (p n) refl (leb (f m.at) (f n)) refl
    where
      upto : (b : ℕ) → (p n ≡ true → b ≤ f n) → ((j : ℕ) → j < n → p j ≡ true → b ≤ f j) → (j : ℕ) → j < suc n → p j ≡ true → b ≤ f j
      upto b here rest j l h = pick (eqb j n) refl
        where
          pick : (c : Bool) → eqb j n ≡ c → b ≤ f j
          pick true e = let s : j ≡ n = eqb-true j n e in subst (λ (x : ℕ). b ≤ f x) (sym s) (here (subst (λ (x : ℕ). p x ≡ true) s h))
          pick false e = rest j (omega (arith, eqb-false j n e)) h

      go : (b : Bool) → p n ≡ b → (c : Bool) → leb (f m.at) (f n) ≡ c → Least (suc n) p f
      go false e c q = record { at = m.at; below = omega (arith, m.below); holds = m.holds; is = upto (f m.at) (λ t. absurd (true≢false (sym t ∙ e))) m.is }
      go true e true q = record { at = m.at; below = omega (arith, m.below); holds = m.holds; is = upto (f m.at) (λ t. leb-true (f m.at) (f n) q) m.is }
      go true e false q = record { at = n; below = omega arith; holds = e; is = upto (f n) (λ t. omega arith) (λ j l h. omega (arith, leb-false (f m.at) (f n) q, m.is j l h)) }

  pub least : (n k : ℕ) → k < n → p k ≡ true → Least n p f
  least zero k l h = absurd (omega arith)
  least (suc n) k l h = go (λ j q t. also n (least n j q t)) (every n (λ j. not (p j))) refl
    where
      go : ((j : ℕ) → j < n → p j ≡ true → Least (suc n) p f) → (b : Bool) → every n (λ j. not (p j)) ≡ b → Least (suc n) p f
      go rest false e = let w = every_not n (λ j. not (p j)) e in rest w.0 w.1 (not-false (p w.0) w.2)
      go rest true e = record { at = k; below = l; holds = h; is = λ j q t. same j q t (eqb j k) refl }
        where
          none : (j : ℕ) → j < n → p j ≡ true → ⊥
          none j q t = true≢false (sym t ∙ not-true (p j) (every_at (λ i. not (p i)) n j e q))

          last : (j : ℕ) → j < suc n → p j ≡ true → j ≡ n
          last j q t = pick (eqb j n) refl
            where
              pick : (b : Bool) → eqb j n ≡ b → j ≡ n
              pick true d = eqb-true j n d
              pick false d = absurd (none j (omega (arith, eqb-false j n d)) t)

          same : (j : ℕ) → j < suc n → p j ≡ true → (b : Bool) → eqb j k ≡ b → f k ≤ f j
          same j q t b d = omega (arith, ap f (last j q t ∙ sym (last k l h)))

-- the first at which it holds is below n where it holds at some number below n
pub first_lt : (w : ℕ) (p : ℕ → Bool) (k : ℕ) → k < w → p k ≡ true → first w p < w
first_lt w p k l h = go (ltb (first w p) w) refl
  where
    go : (b : Bool) → ltb (first w p) w ≡ b → first w p < w
    go true e = ltb-true (first w p) w e
    go false e = let q : w ≤ first w p = ltb-false (first w p) w e in absurd (true≢false (sym h ∙ first_before w p k (omega arith)))
