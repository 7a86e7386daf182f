-- What the steps of the calls do to the words.
use Rattle.std.specs.Prelude.{ℕ, ◌+◌, Bool, false, List, [], ◌∷◌, ◌++◌, get_or, set, replicate}
use Rattle.utils.specs.Set.{marked}
use Rattle.utils.specs.Vectors.{index_of, bitpos_of}
use Rattle.types.specs.Reply.{flag}
use Rattle.vlapic_regs.specs.Vectors.{highest_from}
use Rattle.vlapic_regs.specs.Register.{priority}
use Rattle.vlapic_words.specs.Words.{word, eight}

-- a local APIC after reset, and six spare words
abbrev pub six_of : List ℕ → List ℕ
six_of l = get_or l 0 0 ∷ get_or l 1 0 ∷ get_or l 2 0 ∷ get_or l 3 0 ∷ get_or l 4 0 ∷ get_or l 5 0 ∷ []

abbrev pub registers_at_reset : Bool → ℕ → List ℕ
registers_at_reset x2apic id = (flag x2apic ∷ id ∷ 0 ∷ 0 ∷ 0 ∷ 0xffffffff ∷ 0xff ∷ 0 ∷ 0 ∷ 0 ∷ 0 ∷ []) ++ (replicate 7 0x10000 ++ replicate 24 0)

abbrev pub start_words : Bool → ℕ → List ℕ → List ℕ
start_words x2apic id spare = registers_at_reset x2apic id ++ six_of spare

-- the highest vector in service, or 0
abbrev pub served : List ℕ → ℕ
served l = highest_from 32 (eight l 18)

-- vector v up or down in the eight words from `base` on: one word is stored
abbrev pub marked_in : List ℕ → ℕ → ℕ → Bool → List ℕ
marked_in l base v up = set l (base + index_of v) (marked (word l (base + index_of v)) (bitpos_of v) up)

-- PPR follows
abbrev pub ranked : List ℕ → List ℕ
ranked l = set l 3 (priority (word l 2) (served l))

-- the end of a vector
abbrev pub ended : List ℕ → ℕ → List ℕ
ended l v = ranked (marked_in l 18 v false)
