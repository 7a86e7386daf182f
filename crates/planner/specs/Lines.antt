-- Lines that want a vector each: the range of each, and the vectors that may be given. Document 02, T-10.
-- 82093AA: IOREDTBL (a line's entry holds its vector); Intel SDM volume 3, interrupt vectors: 0 to 31 are the processor's own.
use Rattle.std.specs.Prelude.{ℕ, zero, suc, ◌+◌, ◌/◌, ◌%◌, Bool, true, false, not, ◌&&◌, ◌||◌, List, leb, get_or}
use Rattle.utils.specs.Set.{bit}
use Rattle.types.specs.Reply.{flag}

-- ---- tests of numbers from 0 up

-- it holds at every number below n; it holds at some; at how many
abbrev pub every : ℕ → (ℕ → Bool) → Bool
every zero p = true
every (suc n) p = p n && every n p

abbrev pub some : ℕ → (ℕ → Bool) → Bool
some zero p = false
some (suc n) p = p n || some n p

abbrev pub count : ℕ → (ℕ → Bool) → ℕ
count zero p = 0
count (suc n) p = count n p + flag (p n)

-- ---- a line's range: a word with the lowest vector in its low byte and the highest in its high byte

abbrev pub lowest_of : ℕ → ℕ
lowest_of range = range % 256

abbrev pub highest_of : ℕ → ℕ
highest_of range = range / 256

-- ---- the vectors taken: a set of 256 in four words

abbrev pub is_taken : List ℕ → ℕ → Bool
is_taken taken v = bit (get_or taken (v / 64) 0) (v % 64)

-- a vector that may be given at all, and one that a line with this range may have
unfoldable pub is_free : List ℕ → ℕ → Bool
is_free taken v = leb 32 v && not (is_taken taken v)

unfoldable pub allows : ℕ → List ℕ → ℕ → Bool
allows range taken v = leb (lowest_of range) v && leb v (highest_of range) && is_free taken v
