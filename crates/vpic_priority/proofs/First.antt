-- The table's rule: every entry is the first line after the lowest, going round. One test says so of the whole table, which the checker computes. Assumes nothing.
use mathlib.Core.Path.{◌≡◌, refl, ap, ap₂, ◌∙◌}
use mathlib.Core.Bool.{Bool, true, ◌&&◌}
use mathlib.Core.List.{List, [], ◌∷◌}
use Prim.Native.Nat.{ℕ, zero, suc, ◌+◌, ◌*◌, ◌/◌, ◌%◌, ◌<◌}
use native.Mathlib.Omega.{arith}
use lib.Dec.{eqb}
use lib.ListN.{length, get_or}
use borrow.Author.Tests.{eqb-true}
use Rattle.utils.specs.Set.{bit}
use Rattle.utils.proofs.Bools.{and_true}
use Rattle.vpic_priority.specs.Ring.{first_rank, first_by}
use Rattle.vpic_priority.proofs.Entries.{entries}

-- what belongs at place n: the lowest line is n / 256, and the set n % 256
abbrev pub ruled : ℕ → ℕ
ruled n = first_by (n / 256) (bit (n % 256))

-- from place n on every entry is what belongs there
abbrev pub all_ruled : ℕ → List ℕ → Bool
all_ruled n [] = true
all_ruled n (x ∷ l) = eqb x (ruled n) && all_ruled (suc n) l

carried : (l : List ℕ) (n : ℕ) → all_ruled n l ≡ true → (k : ℕ) → k < length l → get_or l k 0 ≡ ruled (n + k)
carried [] n t k h = absurd (omega arith)
carried (x ∷ l) n t zero h = let z : n ≡ n + zero = omega arith in eqb-true x (ruled n) (and_true (eqb x (ruled n)) (all_ruled (suc n) l) t).0 ∙ ap ruled z
carried (x ∷ l) n t (suc k) h =
    let z : suc n + k ≡ n + suc k = omega arith in
    carried l (suc n) (and_true (eqb x (ruled n)) (all_ruled (suc n) l) t).1 k (omega arith) ∙ ap ruled z

-- the test over the whole table
pub table_ruled : all_ruled 0 entries ≡ true
unfolding entries first_rank first_by
table_ruled = refl

table_long : length entries ≡ 2048
unfolding entries
table_long = refl

-- and what it says of each entry
pub entry_ruled : (lowest set : ℕ) → lowest < 8 → set < 256 → get_or entries (lowest * 256 + set) 0 ≡ first_by lowest (bit set)
entry_ruled lowest set h l =
    let a : (0 + (lowest * 256 + set)) / 256 ≡ lowest = omega arith in
    let b : (0 + (lowest * 256 + set)) % 256 ≡ set = omega arith in
    carried entries 0 table_ruled (lowest * 256 + set) (omega (arith, table_long)) ∙ ap₂ (λ (x y : ℕ). first_by x (bit y)) a b
