-- Vectors in the eight words of an IRR, ISR or TMR.
-- Intel SDM volume 3, the APIC chapter: interrupt acceptance for fixed interrupts (IRR, ISR, TMR, one bit for each vector).
use Rattle.std.specs.Prelude.{ℕ, Bool, ◌&&◌, List, leb, get_or, set}
use Rattle.utils.specs.Set.{bit, with, without, last}
use Rattle.utils.specs.Vectors.{index_of, bitpos_of}

-- vector v is in the words
abbrev pub in_words : List ℕ → ℕ → Bool
in_words words v = bit (get_or words (index_of v) 0) (bitpos_of v)

-- the words with vector v, and without it
abbrev pub with_vector : List ℕ → ℕ → List ℕ
with_vector words v = set words (index_of v) (with (get_or words (index_of v) 0) (bitpos_of v))

abbrev pub without_vector : List ℕ → ℕ → List ℕ
without_vector words v = set words (index_of v) (without (get_or words (index_of v) 0) (bitpos_of v))

-- the highest vector from `lowest` to 255 that is in the words, or 0 where there is none
unfoldable pub highest_from : ℕ → List ℕ → ℕ
highest_from lowest words = last 256 (λ v. leb lowest v && in_words words v)
