-- The search for the highest legal vector of eight words, word by word from the top. Assumes nothing.
use Prim.Native.Nat.{ℕ, suc, ◌+◌, ◌*◌, ◌/◌, ◌%◌, ◌^◌, ◌≤◌, ◌<◌}
use native.Mathlib.Nat.{mod-lt, pow-suc, div-eq_of_lt-le}
use native.Mathlib.Omega.{arith}
use mathlib.Core.Bool.{Bool, true, false, ◌&&◌}
use mathlib.Core.List.{List}
use mathlib.Core.Path.{◌≡◌, refl, sym, ap, ◌∙◌}
use lib.Count.{leading_top}
use lib.Dec.{leb}
use lib.ListN.{get_or}
use borrow.Author.Tests.{le-leb, leb-true, ne_eqb}
use Rattle.utils.specs.Set.{bit, last, highest, last_set32}
use Rattle.utils.proofs.Bools.{and-false}
use Rattle.utils.proofs.Search.{last_holds, last_after, last_lt, last_is, last_none}
use Rattle.vlapic_regs.specs.Vectors.{in_words, highest_from}
use Rattle.vlapic_regs.proofs.Highest.{Left, served}
use Rattle.vlapic_regs.proofs.Highest as step
use Rattle.vlapic_words.specs.Words.{word, eight}
use Rattle.vlapic_words.proofs.Runs.{at_from}

-- the words from w up are empty
abbrev pub Above : List ℕ → ℕ → ℕ → Type 0
Above l base w = Left 0 (eight l base) (w * 32)

pub above_8 : (l : List ℕ) (base : ℕ) → Above l base 8
above_8 l base = step.start 0 (eight l base)

-- another name for the place
pub down : (l : List ℕ) (base w v : ℕ) → Above l base w → w ≡ v → Above l base v
down l base w v a e = step.moved a (ap (λ (k : ℕ). k * 32) e)

-- from 0 up every vector counts
any : (words : List ℕ) (j : ℕ) → served 0 words j ≡ in_words words j
any words j = rw (le-leb 0 j (omega arith))

-- the highest bit of a word that isn't empty
top_bit : (n j : ℕ) → 2 ^ j ≤ n → n < 2 ^ suc j → bit n j ≡ true
top_bit n j l h =
    let p : 2 ^ suc j ≡ 2 ^ j * 2 = pow-suc 2 j in
    rw (div-eq_of_lt-le {k = 1} (2 ^ j) {m = n} (omega arith) (omega arith))

holds : (n : ℕ) → 0 < n → n < 2 ^ 32 → bit n (last 32 (bit n)) ≡ true
holds n p h =
    let t = leading_top 32 n p h in
    last_holds 32 (bit n) t.0 (omega arith) (top_bit n t.0 t.2 t.3)

pub small : (n : ℕ) → (n ≡ 0 → ⊥) → last_set32 n < 32
unfolding last_set32 highest
small n h = rw (ne_eqb n 0 h) (last_lt 32 (bit n) (omega arith))

-- the search from 16 by the one from 0, whose answer is v
module _ (words : List ℕ) (v : ℕ) (e : last 256 (served 0 words) ≡ v) (b : v < 256) where
  none_above : (j : ℕ) → v < j → j < 256 → in_words words j ≡ false
  none_above j a c = sym (any words j) ∙ last_after 256 (served 0 words) j (rw e a) c

  pub illegal : v < 16 → highest_from 16 words ≡ 0
  unfolding highest_from
  illegal h = last_none 256 (served 16 words) (λ j c. go j c (leb 16 j) refl)
    where
      go : (j : ℕ) → j < 256 → (t : Bool) → leb 16 j ≡ t → (t && in_words words j) ≡ false
      go j c true q = none_above j (omega (arith, leb-true 16 j q)) c
      go j c false q = refl

  pub legal : in_words words v ≡ true → 16 ≤ v → highest_from 16 words ≡ v
  unfolding highest_from
  legal t h =
      last_is 256 (served 16 words) v b (rw (le-leb 16 v h) t) (λ j a c. rw (none_above j a c) (and-false (leb 16 j)))

module _ (l : List ℕ) (base w n : ℕ) (a : Above l base (w + 1)) (h : n ≡ word l (base + w)) (b : w < 8) where
  here : get_or (eight l base) w 0 ≡ n
  here = at_from l base 8 w (base + w) refl b ∙ sym h

  pub empty : n ≡ 0 → Above l base w
  empty z = step.empty (eight l base) w a (omega arith) (omega arith) (here ∙ z)

  n_small : n < 2 ^ 32
  n_small = rw h (mod-lt _ (omega arith))

  at : (j : ℕ) → w * 32 ≤ j → j < w * 32 + 32 → in_words (eight l base) j ≡ bit n (j % 32)
  at j p q =
      let r : j / 32 ≡ w = omega arith in
      rw (r, here)

  module _ (z : n ≡ 0 → ⊥) where
    found_in : in_words (eight l base) (w * 32 + last_set32 n) ≡ true
    unfolding last_set32 highest
    found_in =
        let s : last 32 (bit n) < 32 = last_lt 32 (bit n) (omega arith) in
        let q : (w * 32 + last 32 (bit n)) % 32 ≡ last 32 (bit n) = omega arith in
        rw (ne_eqb n 0 z, at (w * 32 + last 32 (bit n)) (omega arith) (omega arith), q) (holds n (omega arith) n_small)

    none_in : (j : ℕ) → w * 32 + last_set32 n < j → j < w * 32 + 32 → in_words (eight l base) j ≡ false
    unfolding last_set32 highest
    none_in j p q =
        let p' : w * 32 + last 32 (bit n) < j = rw (ne_eqb n 0 z) at p in
        rw (at j (omega arith) q) (last_after 32 (bit n) (j % 32) (omega arith) (mod-lt j (omega arith)))

    is_highest : last 256 (served 0 (eight l base)) ≡ w * 32 + last_set32 n
    unfolding highest_from
    is_highest =
        let up : (w + 1) * 32 ≡ w * 32 + 32 = omega arith in
        a.rest
        ∙ ap (λ (m : ℕ). last m (served 0 (eight l base))) up
        ∙ last_is (w * 32 + 32) (served 0 (eight l base)) (w * 32 + last_set32 n) (omega (arith, small n z))
        (any (eight l base) (w * 32 + last_set32 n) ∙ found_in) (λ j p q. any (eight l base) j ∙ none_in j p q)

    pub found_low : (r : ℕ) → r ≡ w * 32 + last_set32 n → r < 16 → 0 ≡ highest_from 16 (eight l base)
    found_low r e q = sym (illegal (eight l base) r (is_highest ∙ sym e) (omega (arith, small n z)) q)

    pub found : (r : ℕ) → r ≡ w * 32 + last_set32 n → 16 ≤ r → r ≡ highest_from 16 (eight l base)
    found r e q = sym (legal (eight l base) r (is_highest ∙ sym e) (omega (arith, small n z)) (rw e found_in) q)

-- no word is left
pub none : (l : List ℕ) (base w : ℕ) → Above l base w → w ≡ 0 → 0 ≡ highest_from 16 (eight l base)
unfolding highest_from
none l base w a z =
    let e : last 256 (served 0 (eight l base)) ≡ 0 = a.rest ∙ ap (λ (m : ℕ). last (m * 32) (served 0 (eight l base))) z in
    sym (illegal (eight l base) 0 e (omega arith) (omega arith))
