-- Eight lines in a ring, the lowest last: ranks, how they move when a line becomes the lowest, and how many lines of a set stand before one. Assumes nothing.
use mathlib.Core.Path.{◌≡◌, refl, sym, ap, ap₂, ◌∙◌}
use mathlib.Core.Bool.{Bool, true, false, cond}
use Prim.Native.Nat.{ℕ, zero, suc, ◌+◌, ◌-◌, ◌%◌, ◌<◌, ◌≤◌, zero-le}
use native.Mathlib.Omega.{arith}
use native.Mathlib.Nat.{zero-add}
use lib.Dec.{ltb, eqb}
use borrow.Author.Tests.{ltb-true, ltb-false, eqb-true, eqb-false}
use Rattle.utils.specs.Set.{bit, with, without}
use Rattle.vpic_priority.specs.Ring.{rank, line_at}
use Rattle.vpic_priority.proofs.Ring.{rank_in, rank_lt, line_low, line_of_rank, rank_of_line}
use Rattle.utils.proofs.Bools.{never}
use Rattle.utils.proofs.Laws.{bit_none, bit_with_same, bit_with_other, bit_without_same, bit_without_other, with_without}

-- without remainders: a line after the lowest, and one up to it
data Ranked (l k r : ℕ) : Type 0 where
  after : l < k → r + l + 1 ≡ k → Ranked l k r
  upto : k ≤ l → r + l ≡ k + 7 → Ranked l k r

rank_is : (l k : ℕ) → k < 8 → Ranked (l % 8) k (rank l k)
rank_is l k h = rw (rank_in l k h) (go (ltb (l % 8) k) refl)
  where
    go : (b : Bool) → ltb (l % 8) k ≡ b → Ranked (l % 8) k ((k + 7 - l % 8) % 8)
    go true e = after (omega (arith, ltb-true (l % 8) k e)) (omega (arith, ltb-true (l % 8) k e))
    go false e = upto (omega (arith, ltb-false (l % 8) k e)) (omega (arith, ltb-false (l % 8) k e))

pub rank_same : (l j k : ℕ) → j < 8 → k < 8 → rank l j ≡ rank l k → j ≡ k
rank_same l j k h i e = sym (line_of_rank l j h) ∙ ap (line_at l) e ∙ line_of_rank l k i

-- where k becomes the lowest, each line after it comes nearer by what stood up to k
pub rank_turn : (l k n : ℕ) → k < 8 → n < 8 → rank l k < rank l n → rank k n + rank l k + 1 ≡ rank l n
rank_turn l k n h i e = let m : k % 8 ≡ k = omega arith in go (rank_is l k h) (rank_is l n i) (rank_is k n i)
  where
    go : Ranked (l % 8) k (rank l k) → Ranked (l % 8) n (rank l n) → Ranked (k % 8) n (rank k n) → rank k n + rank l k + 1 ≡ rank l n
    go (after a x) (after b y) (after c z) = omega arith
    go (after a x) (after b y) (upto c z) = omega arith
    go (after a x) (upto b y) (after c z) = omega arith
    go (after a x) (upto b y) (upto c z) = omega arith
    go (upto a x) (after b y) (after c z) = omega arith
    go (upto a x) (after b y) (upto c z) = omega arith
    go (upto a x) (upto b y) (after c z) = omega arith
    go (upto a x) (upto b y) (upto c z) = omega arith

line_turn : (l k i : ℕ) → k < 8 → line_at k i ≡ line_at l (suc (rank l k + i))
line_turn l k i h = rw (rank_in l k h) (omega arith)

-- how many of the first r hold
abbrev count : ℕ → (ℕ → Bool) → ℕ
count zero p = 0
count (suc r) p = cond (p zero) 1 0 + count r (λ i. p (suc i))

count_le : (r : ℕ) (p : ℕ → Bool) → count r p ≤ r
count_le zero p = zero-le
count_le (suc r) p = go (p zero) (count_le r (λ i. p (suc i)))
  where
    go : (b : Bool) → count r (λ i. p (suc i)) ≤ r → cond b 1 0 + count r (λ i. p (suc i)) ≤ suc r
    go true h = omega arith
    go false h = omega arith

count_same : (r : ℕ) (p q : ℕ → Bool) → ((i : ℕ) → i < r → p i ≡ q i) → count r p ≡ count r q
count_same zero p q h = refl
count_same (suc r) p q h =
    ap₂ (λ (b : Bool) (m : ℕ). cond b 1 0 + m) (h zero (omega arith)) (count_same r (λ i. p (suc i)) (λ i. q (suc i)) (λ i l. h (suc i) (omega arith)))

-- one more
count_more : (r : ℕ) (p q : ℕ → Bool) (k : ℕ) → k < r → p k ≡ false → q k ≡ true → ((i : ℕ) → i < r → (i ≡ k → ⊥) → p i ≡ q i) → count r q ≡ suc (count r p)
count_more zero p q k l f t h = absurd (omega arith)
count_more (suc r) p q zero l f t h =
    let e : count r (λ i. p (suc i)) ≡ count r (λ i. q (suc i)) = count_same r (λ i. p (suc i)) (λ i. q (suc i)) (λ i m. h (suc i) (omega arith) (λ z. omega arith)) in
    rw (f, t) (omega arith)
count_more (suc r) p q (suc k) l f t h =
    let e : count r (λ i. q (suc i)) ≡ suc (count r (λ i. p (suc i))) =
    count_more r (λ i. p (suc i)) (λ i. q (suc i)) k (omega arith) f t (λ i m d. h (suc i) (omega arith) (λ z. d (omega arith))) in
    rw (h zero (omega arith) (λ z. omega arith)) (omega arith)

-- none of the first m holds: m is counted, and those after it
count_split : (r m s : ℕ) (p q : ℕ → Bool) → r ≡ suc (m + s) → ((i : ℕ) → i < m → p i ≡ false) → ((i : ℕ) → i < s → p (suc (m + i)) ≡ q i)
    → count r p ≡ cond (p m) 1 0 + count s q
count_split zero m s p q e h k = absurd (omega arith)
count_split (suc r) zero s p q e h k =
    let t : r ≡ s = omega arith in
    rw t (ap (λ (n : ℕ). cond (p zero) 1 0 + n) (count_same s (λ i. p (suc i)) q (λ i l. let z : suc i ≡ suc (0 + i) = omega arith in ap p z ∙ k i l)))
count_split (suc r) (suc m) s p q e h k =
    rw (h zero (omega arith))
    (zero-add (count r (λ i. p (suc i)))
    ∙ count_split r m s (λ i. p (suc i)) q (omega arith) (λ i l. h (suc i) (omega arith)) (λ i l. let z : suc (suc (m + i)) ≡ suc (suc m + i) = omega arith in ap p z ∙ k i l))

-- ---- the lines of a set before line n

pub before : ℕ → ℕ → ℕ → ℕ
before l s n = count (rank l n) (λ i. bit s (line_at l i))

pub before_le : (l s n : ℕ) → before l s n ≤ rank l n
unfolding before
before_le l s n = count_le (rank l n) (λ i. bit s (line_at l i))

-- every line of the set stands before line n
abbrev pub AllBefore : ℕ → ℕ → ℕ → Type 0
AllBefore l s n = (j : ℕ) → j < 8 → bit s j ≡ true → rank l j < rank l n

-- line k stands before every line of the set
abbrev pub Above : ℕ → ℕ → ℕ → Type 0
Above l s k = (j : ℕ) → j < 8 → bit s j ≡ true → rank l k < rank l j

count_none : (r : ℕ) (p : ℕ → Bool) → ((i : ℕ) → i < r → p i ≡ false) → count r p ≡ 0
count_none zero p h = refl
count_none (suc r) p h = rw (h zero (omega arith)) (zero-add (count r (λ i. p (suc i))) ∙ count_none r (λ i. p (suc i)) (λ i l. h (suc i) (omega arith)))

pub before_none : (l n : ℕ) → before l 0 n ≡ 0
unfolding before
before_none l n = count_none (rank l n) (λ i. bit 0 (line_at l i)) (λ i h. bit_none (line_at l i))

module _ (l s n k : ℕ) (low : k < 8) (nlow : n < 8) (nearer : rank l k < rank l n) where
  -- k goes in
  pub all_with : AllBefore l s n → AllBefore l (with s k) n
  all_with h j q e = go (eqb j k) refl
    where
      go : (b : Bool) → eqb j k ≡ b → rank l j < rank l n
      go true d = rw (eqb-true j k d) nearer
      go false d = h j q (sym (bit_with_other s k j (eqb-false j k d)) ∙ e)

  pub before_with : bit s k ≡ false → before l (with s k) n ≡ suc (before l s n)
  unfolding before
  before_with f =
      count_more (rank l n) (λ i. bit s (line_at l i)) (λ i. bit (with s k) (line_at l i)) (rank l k) nearer (rw (line_of_rank l k low) f) (rw (line_of_rank l k low) (bit_with_same s k))
      (λ i h d. sym (bit_with_other s k (line_at l i) (λ e. d (sym (rank_of_line l i (omega (arith, rank_lt l n nlow))) ∙ ap (rank l) e))))

  -- k becomes the lowest, where it stands before every line of the set
  pub all_turn : Above l s k → AllBefore l s n → AllBefore k s n
  all_turn a h j q e = omega (arith, rank_turn l k n low nlow nearer, rank_turn l k j low q (a j q e), h j q e)

  nothing_before : Above l s k → (i : ℕ) → i ≤ rank l k → bit s (line_at l i) ≡ false
  nothing_before a i h = go (bit s (line_at l i)) refl
    where
      go : (b : Bool) → bit s (line_at l i) ≡ b → b ≡ false
      go true e = absurd (omega (arith, a (line_at l i) (line_low l i) e, rank_of_line l i (omega (arith, rank_lt l k low))))
      go false e = refl

  pub before_turn : Above l s k → before k s n ≡ before l s n
  unfolding before
  before_turn a = sym
      (count_split (rank l n) (rank l k) (rank k n) (λ i. bit s (line_at l i)) (λ i. bit s (line_at k i)) (omega (arith, rank_turn l k n low nlow nearer))
      (λ i h. nothing_before a i (omega arith)) (λ i h. ap (bit s) (sym (line_turn l k i low)))
      ∙ rw (nothing_before a (rank l k) (omega arith)) (zero-add _))

-- the first line b of the set goes out, and becomes the lowest
abbrev pub Top : ℕ → ℕ → ℕ → Type 0
Top l s b = (j : ℕ) → j < 8 → bit s j ≡ true → rank l b ≤ rank l j

module _ (l s n b : ℕ) (low : b < 8) (nlow : n < 8) (in' : bit s b ≡ true) (top : Top l s b) (h : AllBefore l s n) where
  left : (j : ℕ) → bit (without s b) j ≡ true → (j ≡ b → ⊥) × (bit s j ≡ true)
  left j e =
      let d : j ≡ b → ⊥ = λ q. never e (ap (bit (without s b)) q ∙ bit_without_same s b) in
      (d, sym (bit_without_other s b j d) ∙ e)

  above_left : Above l (without s b) b
  above_left j q e =
      let d : rank l b ≡ rank l j → ⊥ = λ z. (left j e).0 (sym (rank_same l b j low q z)) in
      omega (arith, top j q (left j e).1, d)

  all_left : AllBefore l (without s b) n
  all_left j q e = h j q (left j e).1

  pub all_ended : AllBefore b (without s b) n
  all_ended = all_turn l (without s b) n b low nlow (h b low in') above_left all_left

  pub before_ended : suc (before b (without s b) n) ≡ before l s n
  before_ended =
      ap suc (before_turn l (without s b) n b low nlow (h b low in') above_left)
      ∙ sym (before_with l (without s b) n b low nlow (h b low in') (bit_without_same s b))
      ∙ ap (λ (x : ℕ). before l x n) (with_without s b in')
