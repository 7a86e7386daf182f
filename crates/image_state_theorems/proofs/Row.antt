-- The row of 84 words that an image of any words holds. Assumes nothing.
use mathlib.Core.Path.{◌≡◌, refl, sym, ◌∙◌, ap}
use mathlib.Core.Bool.{cond}
use mathlib.Core.List.{List}
use Prim.Native.Nat.{ℕ, zero, suc, ◌+◌, ◌-◌, ◌%◌, ◌^◌, ◌<◌, ◌≤◌}
use native.Mathlib.Omega.{arith}
use lib.Dec.{eqb, ltb}
use lib.ListN.{get_or, length}
use borrow.Author.Tests.{lt-ltb, le-ltb, ne_eqb}
use Rattle.image_format.specs.Format.{format}
use Rattle.image_format.specs.Image.{image_of, loaded, words_in}
use Rattle.image_theorems.specs.Exact.{carried}
use Rattle.image_theorems.proofs.Exact.{read_back, carried_image}
use Rattle.image.specs.Words.{word_at, listed, gathered}
use Rattle.image.specs.Restore.{Chips, blank, row_in}
use Rattle.image_state_theorems.specs.States.{image_in}

-- ---- words that are listed

get_d_from : (f : ℕ → ℕ) (i n k : ℕ) → k < n → get_or (listed f i n) k 0 ≡ f (i + k)
unfolding listed
get_d_from f i zero k h = absurd (omega arith)
get_d_from f i (suc n) zero h = let e : i ≡ i + 0 = omega arith in ap f e
get_d_from f i (suc n) (suc k) h = get_d_from f (suc i) n k (omega arith) ∙ (let e : suc i + k ≡ i + suc k = omega arith in ap f e)

pub get_d_listed : (f : ℕ → ℕ) (k : ℕ) → k < 84 → get_or (listed f 0 84) k 0 ≡ f k
get_d_listed f k h = get_d_from f 0 84 k h ∙ (let e : 0 + k ≡ k = omega arith in ap f e)

listed_same : (f g : ℕ → ℕ) (i n : ℕ) → ((k : ℕ) → i ≤ k → k < i + n → f k ≡ g k) → listed f i n ≡ listed g i n
unfolding listed
listed_same f g i zero h = refl
listed_same f g i (suc n) h = let q : listed f (suc i) n ≡ listed g (suc i) n = listed_same f g (suc i) n (λ k a b. h k (omega arith) (omega arith)) in rw (h i (omega arith) (omega arith), q)

pub same_listed : (f g : ℕ → ℕ) → ((k : ℕ) → k < 84 → f k ≡ g k) → listed f 0 84 ≡ listed g 0 84
same_listed f g h = listed_same f g 0 84 (λ k a b. h k (omega arith))

-- ---- what the format carries of the words f: each cut to its field; base, size and 0 where it has none

abbrev pub cut_to : ℕ → ℕ → ℕ
cut_to k x =
    cond (ltb k 24) (x % 2 ^ 64)
    (cond (ltb k 26) (x % 2 ^ 24)
    (cond (eqb k 26) (x % 2 ^ 32)
    (cond (eqb k 27) 0xfec00000
    (cond (eqb k 28) 0x1000
    (cond (eqb k 29) (x % 2 ^ 8)
    (cond (eqb k 30) (x % 2 ^ 24)
    (cond (eqb k 31) 0
    (cond (eqb k 32) (x % 2 ^ 8)
    (cond (ltb k 74) (x % 2 ^ 32)
    (cond (ltb k 80) 0
    (cond (ltb k 82) (x % 2 ^ 64)
    (cond (eqb k 82) (x % 2 ^ 8)
    0))))))))))))

unfoldable pub cut : List ℕ → List ℕ
cut words = listed (λ k. cut_to k (get_or words k 0)) 0 84

pub carried_is : (words : List ℕ) → carried format words blank ≡ cut words
unfolding carried format listed blank cut
carried_is words = refl

blank_length : length blank ≡ 84
unfolding blank
blank_length = refl

module _ (c : Chips) where
  pub row_of_lem : row_in (image_in c) ≡ cut (gathered c.io c.apic c.pair)
  unfolding row_in image_in
  row_of_lem = read_back (gathered c.io c.apic c.pair) blank ∙ carried_is (gathered c.io c.apic c.pair)

  pub image_of_lem : image_of (cut (gathered c.io c.apic c.pair)) ≡ image_in c
  unfolding image_in
  image_of_lem = ap image_of (sym (carried_is (gathered c.io c.apic c.pair))) ∙ carried_image (gathered c.io c.apic c.pair) blank blank_length

-- word k of the row that an image of them holds
module _ (io apic pair : List ℕ) where
  abbrev pub row_of : List ℕ
  row_of = cut (gathered io apic pair)

  pub row_at : (k : ℕ) → k < 84 → get_or row_of k 0 ≡ cut_to k (word_at io apic pair k)
  unfolding cut gathered
  row_at k h = get_d_listed (λ j. cut_to j (get_or (listed (word_at io apic pair) 0 84) j 0)) k h ∙ ap (cut_to k) (get_d_listed (word_at io apic pair) k h)

  pub row_same : (io' apic' pair' : List ℕ) → ((k : ℕ) → k < 84 → cut_to k (word_at io apic pair k) ≡ cut_to k (word_at io' apic' pair' k)) → row_of ≡ cut (gathered io' apic' pair')
  unfolding cut gathered
  row_same io' apic' pair' h = same_listed (λ j. cut_to j (get_or (listed (word_at io apic pair) 0 84) j 0)) (λ j. cut_to j (get_or (listed (word_at io' apic' pair') 0 84) j 0)) (λ k l. ap (cut_to k) (get_d_listed (word_at io apic pair) k l) ∙ h k l ∙ sym (ap (cut_to k) (get_d_listed (word_at io' apic' pair') k l)))

  -- of the chips' words
  pub word_io : (k : ℕ) → k < 32 → (k ≡ 29 → ⊥) → word_at io apic pair k ≡ get_or io k 0
  unfolding word_at
  word_io k h n = rw (ne_eqb k 29 n, ne_eqb k 32 (λ e. omega arith), ne_eqb k 82 (λ e. omega arith), lt-ltb k 32 h)

  pub word_apic : (k : ℕ) → 32 < k → k < 80 → word_at io apic pair k ≡ get_or apic (k - 32) 0
  unfolding word_at
  word_apic k a h = rw (ne_eqb k 29 (λ e. omega arith), ne_eqb k 32 (λ e. omega arith), ne_eqb k 82 (λ e. omega arith), le-ltb k 32 (omega arith), lt-ltb k 80 h)

-- a row that was read has 84 words, base and size
pub row_length : (s : List ℕ) → length (row_in s) ≡ 84
unfolding row_in words_in loaded format blank
row_length s = refl

pub row_base : (s : List ℕ) → get_or (row_in s) 27 0 ≡ 0xfec00000
unfolding row_in words_in loaded format blank
row_base s = refl

pub row_size : (s : List ℕ) → get_or (row_in s) 28 0 ≡ 0x1000
unfolding row_in words_in loaded format blank
row_size s = refl
