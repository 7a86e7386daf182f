-- What the loops leave, one turn after the other. No promise of a public call cites this file.
use Rattle.std.specs.Prelude.{ℕ, zero, suc, ◌+◌, ◌-◌, ◌*◌, ◌%◌, ltb, Result, Ok, Err, ◌≤◌, cond, List, [], ◌∷◌, eqb, ◌≡◌, length, get_or, set}
use Rattle.types.specs.declared.Refusal.{Refusal}
use Rattle.types.specs.declared.Refusal.TheVariants.{OutOfRange}
use Rattle.types.specs.declared.VcpuId.{VcpuId}
use Rattle.waiting.specs.Waiting.{around}
use Rattle.waiting.specs.Lists.{vcpus_in}

-- where a vCPU's list starts in bytes of this number
abbrev pub start_in : ℕ → VcpuId → Result ℕ Refusal
start_in bytes id = cond (ltb id.0 (vcpus_in bytes)) (Ok (id.0 * 66)) (Err OutOfRange)

-- the number of those before the first that equals v, or of all
abbrev pub index_of : ℕ → List ℕ → ℕ
index_of v [] = zero
index_of v (w ∷ l) = cond (eqb w v) zero (suc (index_of v l))

-- the bytes after m places from p + 1 on moved to the place before them, and the last one of these was cleared
abbrev pub closed : List ℕ → ℕ → ℕ → List ℕ
closed l p zero = set l (p % 64) 0
closed l p (suc m) = closed (set l (p % 64) (get_or l (suc p % 64) 0)) (suc p) m

-- m places are left to move at p, of m₀ at p₀
pub record Closing (l₀ : List ℕ) (p₀ m₀ : ℕ) (l : List ℕ) (p m : ℕ) : Type 0 where
  pub same : closed l p m ≡ closed l₀ p₀ m₀
  pub long : length l ≡ length l₀
  pub sum : p + m ≡ p₀ + m₀

-- the first k of n vectors were passed, and none was v
pub record Passed (l : List ℕ) (h n v k : ℕ) : Type 0 where
  pub within : k ≤ n
  pub index : index_of v (around l h n) ≡ k + index_of v (around l (h + k) (n - k))
