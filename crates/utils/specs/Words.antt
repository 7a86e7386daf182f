-- Words of 64 bits of which the lower 32 count, and the eight of them that hold 256 vectors.
use Rattle.std.specs.Prelude.{ℕ, zero, suc, ◌+◌, ◌%◌, ◌^◌, Bool, List, [], ◌∷◌, get_or, set}
use Rattle.utils.specs.Set.{bit, marked}
use Rattle.utils.specs.Vectors.{index_of, bitpos_of}

-- what counts of word k, and of n words from k on
abbrev pub low_word : List ℕ → ℕ → ℕ
low_word l k = get_or l k 0 % 2 ^ 32

abbrev pub low_words : List ℕ → ℕ → ℕ → List ℕ
low_words l k zero = []
low_words l k (suc n) = low_word l k ∷ low_words l (k + 1) n

-- whether vector v is in eight words
abbrev pub in_low_words : List ℕ → ℕ → Bool
in_low_words words v = bit (get_or words (index_of v) 0) (bitpos_of v)

-- vector v up or down in the eight words from `base` on: one word is stored
abbrev pub marked_at : List ℕ → ℕ → ℕ → Bool → List ℕ
marked_at l base v up = set l (base + index_of v) (marked (low_word l (base + index_of v)) (bitpos_of v) up)
