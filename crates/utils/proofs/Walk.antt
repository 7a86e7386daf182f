-- A set gone through by its lowest member, again and again until it is empty: a search among the members, and a change for each of them. Laws over any width,
-- any test and any change. Assumes nothing.
use Rattle.std.proofs.Common.{◌≡◌, ℕ, zero, suc, ◌+◌, ◌^◌, ◌<◌, ◌≤◌, Bool, true, false, cond, ◌&&◌, eqb, ltb, sym, refl, ap, ◌∙◌, zero-le, arith, pow_pos, ltb-false, ltb-true, eqb-true}
use borrow.Author.Tests.{eqb-false}
use Rattle.utils.specs.Cases.{and_right_no}
use Rattle.utils.specs.Set.{bit, without, first, lowest}
use Rattle.utils.proofs.Search.{first_same, first_is, first_none}
use Rattle.utils.proofs.Laws.{bit_none, same_bits, bit_at_least, bit_without_same, bit_without_other, lowest_in, lowest_before}

pub without_lt : (n k : ℕ) → bit n k ≡ true → without n k < n
unfolding without
without_lt n k h =
    let l : 2 ^ k ≤ n = bit_at_least n k h in
    let p : 0 < 2 ^ k = pow_pos k in
    rw h (omega arith)

-- the lowest member of a set that isn't empty, whose members are below w
module _ (w u n g : ℕ) (wide : w ≤ u) (small : n < 2 ^ w) (some : n ≡ 0 → ⊥) (at : g ≡ lowest u n) where
  pub lowest_below : g < w
  lowest_below = rw at (go (ltb (lowest u n) w) refl)
    where
      go : (b : Bool) → ltb (lowest u n) w ≡ b → lowest u n < w
      go true e = ltb-true (lowest u n) w e
      go false e =
          let h : w ≤ lowest u n = ltb-false (lowest u n) w e in
          absurd (some (same_bits w n 0 small (pow_pos w) (λ k l. lowest_before u n k (omega arith) ∙ sym (bit_none k))))

  pub lowest_member : bit n g ≡ true
  lowest_member = let l : lowest u n < u = omega (arith, lowest_below, at) in rw at (lowest_in u n l)

  lower_none : (k : ℕ) → k < g → bit n k ≡ false
  lower_none k l = lowest_before u n k (omega (arith, at))

  pub lowest_left : without n g < n
  lowest_left = without_lt n g lowest_member

-- ---- a search

-- the first member below w at which the test holds, or w
unfoldable pub first_of : (ℕ → Bool) → ℕ → ℕ → ℕ
first_of p w n = first w (λ k. bit n k && p k)

module _ (p : ℕ → Bool) where
  -- a member at which it doesn't hold may be left out
  pub first_without : (w n g : ℕ) → p g ≡ false → first_of p w (without n g) ≡ first_of p w n
  unfolding first_of
  first_without w n g h = first_same w (λ k. bit (without n g) k && p k) (λ k. bit n k && p k) (λ k l. go k (eqb k g) refl)
    where
      go : (k : ℕ) → (b : Bool) → eqb k g ≡ b → (bit (without n g) k && p k) ≡ (bit n k && p k)
      go k true e =
          let q : p k ≡ false = ap p (eqb-true k g e) ∙ h in
          and_right_no (bit (without n g) k) (p k) q ∙ sym (and_right_no (bit n k) (p k) q)
      go k false e = ap (λ (b : Bool). b && p k) (bit_without_other n g k (eqb-false k g e))

  -- if it holds at the lowest, that is the first
  pub first_lowest : (w u n g : ℕ) → w ≤ u → n < 2 ^ w → (n ≡ 0 → ⊥) → g ≡ lowest u n → p g ≡ true → g ≡ first_of p w n
  unfolding first_of
  first_lowest w u n g a b c d h =
      let m : bit n g ≡ true = lowest_member w u n g a b c d in
      let y : (bit n g && p g) ≡ true = rw m h in
      sym (first_is w (λ k. bit n k && p k) g (lowest_below w u n g a b c d) y (λ j l. rw (lower_none w u n g a b c d j l)))

  pub first_empty : (w n : ℕ) → n ≡ 0 → w ≡ first_of p w n
  unfolding first_of
  first_empty w n e = sym (first_none w (λ k. bit n k && p k) (λ j l. rw (e, bit_none j)))

  -- where every number at which it holds is a member, the search among the members is the search
  pub first_among : (w n : ℕ) → ((k : ℕ) → k < w → p k ≡ true → bit n k ≡ true) → first_of p w n ≡ first w p
  unfolding first_of
  first_among w n h = first_same w (λ k. bit n k && p k) p (λ k l. go k l (p k) refl)
    where
      go : (k : ℕ) → k < w → (b : Bool) → p k ≡ b → (bit n k && p k) ≡ p k
      go k l true e = rw (h k l e)
      go k l false e = and_right_no (bit n k) (p k) e ∙ sym e

-- ---- a change for each member

-- the members from i up, w numbers long, lowest first
unfoldable pub walk : {A : Type 0} → (A → ℕ → A) → ℕ → ℕ → ℕ → A → A
walk step zero i n a = a
walk step (suc w) i n a = walk step w (suc i) n (cond (bit n i) (step a i) a)

module _ (A : Type 0) (step : A → ℕ → A) where
  walk_same : (w i n m : ℕ) (a : A) → ((k : ℕ) → i ≤ k → bit n k ≡ bit m k) → walk step w i n a ≡ walk step w i m a
  unfolding walk
  walk_same zero i n m a h = refl
  walk_same (suc w) i n m a h =
      ap (λ (b : Bool). walk step w (suc i) n (cond b (step a i) a)) (h i (omega arith))
      ∙ walk_same w (suc i) n m (cond (bit m i) (step a i) a) (λ k l. h k (omega arith))

  pub walk_empty : (w i n : ℕ) (a : A) → n ≡ 0 → walk step w i n a ≡ a
  unfolding walk
  walk_empty zero i n a e = refl
  walk_empty (suc w) i n a e =
      ap (λ (b : Bool). walk step w (suc i) n (cond b (step a i) a)) (ap (λ (m : ℕ). bit m i) e ∙ bit_none i) ∙ walk_empty w (suc i) n a e

  take : (w i n g : ℕ) (a : A) → i ≤ g → g < i + w → bit n g ≡ true → ((k : ℕ) → k < g → bit n k ≡ false)
      → walk step w i n a ≡ walk step w i (without n g) (step a g)
  unfolding walk
  take zero i n g a l h y z = absurd (omega arith)
  take (suc w) i n g a l h y z = go (λ k. take w (suc i) n g a k (omega arith) y z) (eqb i g) refl
    where
      go : (suc i ≤ g → walk step w (suc i) n a ≡ walk step w (suc i) (without n g) (step a g))
          → (b : Bool) → eqb i g ≡ b → walk step (suc w) i n a ≡ walk step (suc w) i (without n g) (step a g)
      go rest true e =
          let q : i ≡ g = eqb-true i g e in
          ap (λ (b : Bool). walk step w (suc i) n (cond b (step a i) a)) (ap (bit n) q ∙ y)
          ∙ walk_same w (suc i) n (without n g) (step a i) (λ k j. sym (bit_without_other n g k (omega arith)))
          ∙ ap (λ (j : ℕ). walk step w (suc i) (without n g) (step a j)) q
          ∙ sym (ap (λ (b : Bool). walk step w (suc i) (without n g) (cond b (step (step a g) i) (step a g))) (ap (bit (without n g)) q ∙ bit_without_same n g))
      go rest false e =
          let q : i ≡ g → ⊥ = eqb-false i g e in
          let j : i < g = omega (arith, q) in
          ap (λ (b : Bool). walk step w (suc i) n (cond b (step a i) a)) (z i j)
          ∙ rest (omega arith)
          ∙ sym (ap (λ (b : Bool). walk step w (suc i) (without n g) (cond b (step (step a g) i) (step a g))) (bit_without_other n g i q ∙ z i j))

  -- the lowest member has its turn, and the others are left
  pub walk_lowest : (w u n g : ℕ) (a : A) → w ≤ u → n < 2 ^ w → (n ≡ 0 → ⊥) → g ≡ lowest u n → walk step w 0 n a ≡ walk step w 0 (without n g) (step a g)
  walk_lowest w u n g a h b c d =
      take w 0 n g a zero-le (omega (arith, lowest_below w u n g h b c d)) (lowest_member w u n g h b c d) (lower_none w u n g h b c d)

  -- where a turn leads from each stage to the next, and where no member stands the two stages are the same, all turns lead to the last stage
  pub walk_stages : (stage : ℕ → A) (w i n : ℕ) → ((k : ℕ) → i ≤ k → k < i + w → cond (bit n k) (step (stage k) k) (stage k) ≡ stage (suc k))
      → walk step w i n (stage i) ≡ stage (i + w)
  unfolding walk
  walk_stages stage zero i n h = let e : i ≡ i + 0 = omega arith in ap stage e
  walk_stages stage (suc w) i n h =
      let e : suc i + w ≡ i + suc w = omega arith in
      ap (λ (a : A). walk step w (suc i) n a) (h i (omega arith) (omega arith)) ∙ walk_stages stage w (suc i) n (λ k l j. h k (omega arith) (omega arith)) ∙ ap stage e
