-- The search for the highest vector in service, word by word from the top, and that it may start at the word of a vector that was the highest. Assumes nothing.
use Prim.Native.Nat.{ℕ, zero, suc, ◌+◌, ◌*◌, ◌/◌, ◌%◌, ◌^◌, ◌≤◌, ◌<◌}
use native.Mathlib.Nat.{mod-lt, pow-suc, div-eq_of_lt-le}
use native.Mathlib.Omega.{arith}
use mathlib.Core.Bool.{Bool, true, false, ◌&&◌}
use mathlib.Core.List.{List}
use mathlib.Core.Path.{◌≡◌, refl, sym, ap, ◌∙◌}
use lib.Bits.{bit_and, bit_or, and_zero_r, or_add_and, and_le_l}
use lib.Count.{leading_top}
use lib.Dec.{eqb, leb}
use lib.ListN.{get_or}
use borrow.Author.Tests.{le-leb, lt-leb, ne_eqb, eqb-true, eqb-false}
use Rattle.utils.specs.Set.{bit, last, highest, last_set32}
use Rattle.utils.proofs.Bools.{and-false}
use Rattle.utils.proofs.Laws.{bit_none}
use Rattle.utils.proofs.Search.{last_holds, last_after, last_lt, last_is, last_none}
use Rattle.vlapic_regs.specs.Vectors.{in_words, highest_from}
use Rattle.vlapic_words.specs.Words.{word, eight}
use Rattle.vlapic_words.specs.Steps.{served}
use Rattle.vlapic_words.proofs.Runs.{at_from}

abbrev is_served : List ℕ → ℕ → Bool
is_served words v = leb 32 v && in_words words v

-- the highest below n
abbrev highest_below : ℕ → List ℕ → ℕ
highest_below n words = last n (is_served words)

-- the last of more is the last of fewer, where the test fails between
last_shrinks : (p : ℕ → Bool) (m n : ℕ) → n ≤ m → ((j : ℕ) → n ≤ j → j < m → p j ≡ false) → last m p ≡ last n p
last_shrinks p zero zero h none = refl
last_shrinks p zero (suc n) h none = absurd (omega arith)
last_shrinks p (suc m) n h none = go (λ l. last_shrinks p m n l (λ j a b. none j a (omega arith))) (eqb n (suc m)) refl
  where
    go : (n ≤ m → last m p ≡ last n p) → (b : Bool) → eqb n (suc m) ≡ b → last (suc m) p ≡ last n p
    go rest true e = ap (λ (k : ℕ). last k p) (sym (eqb-true n (suc m) e))
    go rest false e =
        let l : n ≤ m = omega (arith, eqb-false n (suc m) e) in
        rw (none m l (omega arith)) (rest l)

module _ (words : List ℕ) (w : ℕ) where
  at : (j : ℕ) → w * 32 ≤ j → j < w * 32 + 32 → in_words words j ≡ bit (get_or words w 0) (j % 32)
  at j a b =
      let q : j / 32 ≡ w = omega arith in
      rw q

  -- an empty word has none
  passed : get_or words w 0 ≡ 0 → highest_below (w * 32 + 32) words ≡ highest_below (w * 32) words
  passed h =
      last_shrinks (is_served words) (w * 32 + 32) (w * 32) (omega arith)
      (λ j a b. rw (at j a b, h, bit_none (j % 32)) (and-false (leb 32 j)))

  -- of another the highest bit counts
  top_bit : (n j : ℕ) → 2 ^ j ≤ n → n < 2 ^ suc j → bit n j ≡ true
  top_bit n j l h =
      let p : 2 ^ suc j ≡ 2 ^ j * 2 = pow-suc 2 j in
      rw (div-eq_of_lt-le {k = 1} (2 ^ j) {m = n} (omega arith) (omega arith))

  holds : (n : ℕ) → 0 < n → n < 2 ^ 32 → bit n (last 32 (bit n)) ≡ true
  holds n p h =
      let t = leading_top 32 n p h in
      last_holds 32 (bit n) t.0 (omega arith) (top_bit n t.0 t.2 t.3)

  found : 1 ≤ w → (get_or words w 0 ≡ 0 → ⊥) → get_or words w 0 < 2 ^ 32 → highest_below (w * 32 + 32) words ≡ w * 32 + last_set32 (get_or words w 0)
  unfolding last_set32 highest
  found l h b =
      let n = get_or words w 0 in
      let k = last 32 (bit n) in
      let s : k < 32 = last_lt 32 (bit n) (omega arith) in
      let q : (w * 32 + k) % 32 ≡ k = omega arith in
      rw (ne_eqb n 0 h)
      (last_is (w * 32 + 32) (is_served words) (w * 32 + k) (omega arith)
      (rw (le-leb 32 (w * 32 + k) (omega arith), at (w * 32 + k) (omega arith) (omega arith), q) (holds n (omega arith) b))
      (λ j a c. rw (at j (omega arith) c, last_after 32 (bit n) (j % 32) (omega arith) (mod-lt j (omega arith))) (and-false (leb 32 j))))

-- below 32 none counts
none_low : (words : List ℕ) (n : ℕ) → n ≤ 32 → highest_below n words ≡ 0
none_low words n h = last_none n (is_served words) (λ j q. rw (lt-leb 32 j (omega arith)))

-- the highest bit of a word that isn't empty
pub small : (n : ℕ) → (n ≡ 0 → ⊥) → last_set32 n < 32
unfolding last_set32 highest
small n h = rw (ne_eqb n 0 h) (last_lt 32 (bit n) (omega arith))

-- ---- the words in turn

-- of several words one isn't empty
pub or_none : (x y : ℕ) → bit_or x y ≡ 0 → (x ≡ 0) × (y ≡ 0)
or_none x y e =
    let z : y ≡ 0 = omega (arith, or_add_and x y, and_le_l x y) in
    let k : bit_and x y ≡ 0 = rw z (and_zero_r x) in
    (omega (arith, or_add_and x y, k), z)

pub or_last : (x y : ℕ) → x ≡ 0 → (bit_or x y ≡ 0 → ⊥) → y ≡ 0 → ⊥
or_last x y e h z = h (rw (e, z))

pub or_last_2 : (x y z : ℕ) → x ≡ 0 → y ≡ 0 → (bit_or (bit_or x y) z ≡ 0 → ⊥) → z ≡ 0 → ⊥
or_last_2 x y z p q h = or_last (bit_or x y) z (rw (p, q)) h

module _ (l : List ℕ) where
  pub served_small : served l < 256
  unfolding highest_from
  served_small = last_lt 256 (is_served (eight l 18)) (omega arith)

  -- words w up are empty
  abbrev Above : ℕ → Type 0
  Above w = served l ≡ highest_below (w * 32) (eight l 18)

  above_8 : Above 8
  unfolding highest_from
  above_8 = refl

  module _ (w n : ℕ) (a : Above (suc w)) (h : n ≡ word l (18 + w)) (b : w < 8) where
    here : get_or (eight l 18) w 0 ≡ n
    here = at_from l 18 8 w (18 + w) refl b ∙ sym h

    up : suc w * 32 ≡ w * 32 + 32
    up = omega arith

    empty : n ≡ 0 → Above w
    empty z = a ∙ ap (λ (k : ℕ). highest_below k (eight l 18)) up ∙ passed (eight l 18) w (here ∙ z)

    at_word : (r : ℕ) → 1 ≤ w → (n ≡ 0 → ⊥) → r ≡ w * 32 + last_set32 n → r ≡ served l
    at_word r k z e =
        e
        ∙ rw (← here) (sym (found (eight l 18) w k (λ q. z (sym here ∙ q)) (rw (here, h) (mod-lt (get_or l (18 + w) 0) (omega arith)))))
        ∙ sym (a ∙ ap (λ (k : ℕ). highest_below k (eight l 18)) up)

-- ---- word 7, then 6 to 4 together, then the others

pub found_7 : (l : List ℕ) (n r : ℕ) → n ≡ word l 25 → (n ≡ 0 → ⊥) → r ≡ 7 * 32 + last_set32 n → r ≡ served l
found_7 l n r h z e = at_word l 7 n (above_8 l) h (omega arith) r (omega arith) z e

module _ (l : List ℕ) (n₇ n₆ n₅ n₄ : ℕ) (h₇ : n₇ ≡ word l 25) (h₆ : n₆ ≡ word l 24) (h₅ : n₅ ≡ word l 23) (h₄ : n₄ ≡ word l 22) (z₇ : n₇ ≡ 0) where
  to_7 : Above l 7
  to_7 = empty l 7 n₇ (above_8 l) h₇ (omega arith) z₇

  to_6 : n₆ ≡ 0 → Above l 6
  to_6 z₆ = empty l 6 n₆ to_7 h₆ (omega arith) z₆

  to_5 : n₆ ≡ 0 → n₅ ≡ 0 → Above l 5
  to_5 z₆ z₅ = empty l 5 n₅ (to_6 z₆) h₅ (omega arith) z₅

  pub found_6 : (r : ℕ) → (n₆ ≡ 0 → ⊥) → r ≡ 6 * 32 + last_set32 n₆ → r ≡ served l
  found_6 r z e = at_word l 6 n₆ to_7 h₆ (omega arith) r (omega arith) z e

  pub found_5 : (r : ℕ) → n₆ ≡ 0 → (n₅ ≡ 0 → ⊥) → r ≡ 5 * 32 + last_set32 n₅ → r ≡ served l
  found_5 r z₆ z e = at_word l 5 n₅ (to_6 z₆) h₅ (omega arith) r (omega arith) z e

  pub found_4 : (r : ℕ) → n₆ ≡ 0 → n₅ ≡ 0 → (bit_or (bit_or n₆ n₅) n₄ ≡ 0 → ⊥) → r ≡ 4 * 32 + last_set32 n₄ → r ≡ served l
  found_4 r z₆ z₅ h e = at_word l 4 n₄ (to_5 z₆ z₅) h₄ (omega arith) r (omega arith) (or_last_2 n₆ n₅ n₄ z₆ z₅ h) e

  module _ (u : bit_or (bit_or n₆ n₅) n₄ ≡ 0) where
    to_4 : Above l 4
    to_4 =
        let x = or_none (bit_or n₆ n₅) n₄ u in
        let y = or_none n₆ n₅ x.0 in
        empty l 4 n₄ (to_5 y.0 y.1) h₄ (omega arith) x.1

    pub found_3 : (n₃ r : ℕ) → n₃ ≡ word l 21 → (n₃ ≡ 0 → ⊥) → r ≡ 3 * 32 + last_set32 n₃ → r ≡ served l
    found_3 n₃ r h₃ z e = at_word l 3 n₃ to_4 h₃ (omega arith) r (omega arith) z e

    module _ (n₃ n₂ : ℕ) (h₃ : n₃ ≡ word l 21) (h₂ : n₂ ≡ word l 20) (z₃ : n₃ ≡ 0) where
      to_3 : Above l 3
      to_3 = empty l 3 n₃ to_4 h₃ (omega arith) z₃

      pub found_2 : (r : ℕ) → (n₂ ≡ 0 → ⊥) → r ≡ 2 * 32 + last_set32 n₂ → r ≡ served l
      found_2 r z e = at_word l 2 n₂ to_3 h₂ (omega arith) r (omega arith) z e

      module _ (z₂ : n₂ ≡ 0) (n₁ : ℕ) (h₁ : n₁ ≡ word l 19) where
        to_2 : Above l 2
        to_2 = empty l 2 n₂ to_3 h₂ (omega arith) z₂

        pub found_1 : (r : ℕ) → (n₁ ≡ 0 → ⊥) → r ≡ 1 * 32 + last_set32 n₁ → r ≡ served l
        found_1 r z e = at_word l 1 n₁ to_2 h₁ (omega arith) r (omega arith) z e

        pub found_none : n₁ ≡ 0 → 0 ≡ served l
        found_none z = sym (empty l 1 n₁ to_2 h₁ (omega arith) z ∙ none_low (eight l 18) (1 * 32) (omega arith))
