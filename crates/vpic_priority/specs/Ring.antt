-- The 8259A's priorities (automatic rotation, specific rotation): its eight lines stand on a ring, and one of them is lowest today. The line after the lowest is highest, and so
-- on round the ring down to the lowest itself. Any number is taken for a lowest line, by its remainder. Where line 7 is lowest, line 0 is highest: fully nested mode's order.
use Rattle.std.specs.Prelude.{ℕ, ◌+◌, ◌-◌, ◌%◌, Bool, cond, ltb}
use Rattle.utils.specs.Set.{first}

-- a line's rank, 0 for the highest and 7 for the lowest; a line that a chip hasn't is below all
abbrev pub rank : ℕ → ℕ → ℕ
rank lowest k = cond (ltb k 8) ((k + 7 - lowest % 8) % 8) 8

-- line j is above line k
unfoldable pub above : ℕ → ℕ → ℕ → Bool
above lowest j k = ltb (rank lowest j) (rank lowest k)

-- the line of a rank
abbrev pub line_at : ℕ → ℕ → ℕ
line_at lowest r = (lowest + 1 + r) % 8

-- the rank of the highest line at which p holds, or 8 where there is none
unfoldable pub first_rank : ℕ → (ℕ → Bool) → ℕ
first_rank lowest p = first 8 (λ r. p (line_at lowest r))

-- that line: the first after the lowest, going round; or 8
unfoldable pub first_by : ℕ → (ℕ → Bool) → ℕ
first_by lowest p = cond (ltb (first_rank lowest p) 8) (line_at lowest (first_rank lowest p)) 8
