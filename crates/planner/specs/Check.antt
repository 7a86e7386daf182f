-- The check of a proposal: every line has a vector that it may have, and no two have one. Document 02, T-10.
use Rattle.std.specs.Prelude.{ℕ, Bool, not, ◌&&◌, List, eqb, leb, get_or, length}
use Rattle.planner.specs.Lines.{every, some, allows}

-- line k has vector v; one of the first n lines has it
unfoldable pub has_vector : List ℕ → ℕ → ℕ → Bool
has_vector plan v k = eqb (get_or plan k 0) v

unfoldable pub among : List ℕ → ℕ → ℕ → Bool
among plan n v = some n (has_vector plan v)

-- line k may have its vector, and no line before it has the same
unfoldable pub line_passes : List ℕ → List ℕ → List ℕ → ℕ → Bool
line_passes ranges taken plan k = allows (get_or ranges k 0) taken (get_or plan k 0) && not (among plan k (get_or plan k 0))

-- a proposal has a byte for each line; what it has after them doesn't count
unfoldable pub passes : List ℕ → List ℕ → List ℕ → Bool
passes ranges taken plan = leb (length ranges) (length plan) && every (length ranges) (line_passes ranges taken plan)
