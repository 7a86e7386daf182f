-- The words are listed one by one. Assumes nothing.
use Rattle.std.proofs.Common.{◌≡◌, ℕ, zero, suc, ◌+◌, ◌<◌, List, length, get_or, set, take, refl, sym, ◌∙◌, ap, arith, add-one}
use lib.Seq.{take-suc, take-suc-set, take-length}
use Rattle.image.specs.Words.{word_at, listed, gathered}

length_listed : (f : ℕ → ℕ) (k n : ℕ) → length (listed f k n) ≡ n
unfolding listed
length_listed f k zero = refl
length_listed f k (suc n) = ap suc (length_listed f (suc k) n)

listed_at : (f : ℕ → ℕ) (k n i : ℕ) → i < n → get_or (listed f k n) i 0 ≡ f (k + i)
unfolding listed
listed_at f k zero i h = absurd (omega arith)
listed_at f k (suc n) zero h = let e : k + 0 ≡ k = omega arith in rw e
listed_at f k (suc n) (suc i) h = let e : suc k + i ≡ k + suc i = omega arith in rw e at (listed_at f (suc k) n i (omega arith))

module _ (io apic pair : List ℕ) where
  pub gather_more : (l : List ℕ) (k x : ℕ) → k < 84 → length l ≡ 84 → x ≡ word_at io apic pair k → take k l ≡ take k (gathered io apic pair) → take (k + 1) (set l k x) ≡ take (k + 1) (gathered io apic pair)
  unfolding gathered
  gather_more l k x h n e q =
      let w : List ℕ = listed (word_at io apic pair) 0 84 in
      let f : k < length (listed (word_at io apic pair) 0 84) = rw (length_listed (word_at io apic pair) 0 84) h in
      let z : 0 + k ≡ k = omega arith in
      let g : get_or (listed (word_at io apic pair) 0 84) k 0 ≡ x = listed_at (word_at io apic pair) 0 84 k h ∙ rw (z, e) in
      rw add-one (take-suc-set l k x (rw n h) ∙ rw (q, sym g) (sym (take-suc (listed (word_at io apic pair) 0 84) k 0 f)))

  pub gather_end : (l : List ℕ) (k : ℕ) → k ≡ 84 → length l ≡ 84 → take k l ≡ take k (gathered io apic pair) → l ≡ gathered io apic pair
  unfolding gathered
  gather_end l k h n q =
      let a : take 84 l ≡ l = rw n at (take-length l) in
      let b : take 84 (listed (word_at io apic pair) 0 84) ≡ listed (word_at io apic pair) 0 84 = rw (length_listed (word_at io apic pair) 0 84) at (take-length (listed (word_at io apic pair) 0 84)) in
      sym a ∙ rw h at q ∙ b
