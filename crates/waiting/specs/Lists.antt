-- The waiting lists of a host's vCPUs, one behind the other in bytes that the caller lends: 66 bytes a vCPU, for at most 64 of them.
use Rattle.std.specs.Prelude.{ℕ, zero, suc, ◌*◌, ◌/◌, Bool, cond, List, [], ◌∷◌, ltb, length, get_or, drop, set}
use Rattle.std.proofs.Math.ListN as listN
use Rattle.types.specs.declared.Refusal.TheVariants.{OutOfRange}
use Rattle.types.specs.declared.Reply.TheVariants.{Refused, Nothing}
use Rattle.types.specs.declared.VcpuId.{VcpuId}
use Rattle.types.specs.declared.Vector.{Vector}
use Rattle.types.specs.Reply.{Outcome, outcome_of}
use Rattle.waiting.specs.Waiting as one
use Rattle.waiting.specs.Waiting.{Waiting, view, new_list}

pub record Lists : Type 0 where
  pub lists : List Waiting  -- a vCPU's list stands at its id
  pub rest : List ℕ  -- the bytes behind them, which stand for nothing

-- how many vCPUs bytes of this number have: as many as fit, and no more than 64
abbrev pub vcpus_in : ℕ → ℕ
vcpus_in bytes = cond (ltb (bytes / 66) 64) (bytes / 66) 64

-- the first n lists
abbrev pub lists_from : ℕ → List ℕ → List Waiting
lists_from zero l = []
lists_from (suc n) l = view (listN.take 66 l) ∷ lists_from n (drop 66 l)

unfoldable pub lists_in : List ℕ → Lists
lists_in l = record { lists = lists_from (vcpus_in (length l)) l; rest = drop (vcpus_in (length l) * 66) l }

abbrev pub known_in : Lists → VcpuId → Bool
known_in s id = ltb id.0 (length s.lists)

abbrev pub list_at : Lists → VcpuId → Waiting
list_at s id = get_or s.lists id.0 new_list

abbrev pub with_list : Lists → VcpuId → Waiting → Lists
with_list s id q = record { lists = set s.lists id.0 q; rest = s.rest }

-- a call of one vCPU's list, in the place of the list: an unknown vCPU is refused with 5, before anything else
unfoldable pub on_list : Lists → VcpuId → (Waiting → Outcome Waiting) → Outcome Lists
on_list s id call =
    cond (known_in s id)
    (outcome_of (with_list s id (call (list_at s id)).state) (call (list_at s id)).reply)
    (outcome_of s (Refused OutOfRange))

-- ---- the calls

abbrev pub new : Lists → VcpuId → Outcome Lists
new s id = on_list s id (λ q. outcome_of new_list Nothing)

abbrev pub take : Lists → VcpuId → Vector → Outcome Lists
take s id v = on_list s id (λ q. one.take q v)

abbrev pub deliver : Lists → VcpuId → Outcome Lists
deliver s id = on_list s id one.deliver

abbrev pub cancel : Lists → VcpuId → Vector → Outcome Lists
cancel s id v = on_list s id (λ q. one.cancel q v)

abbrev pub count : Lists → VcpuId → Outcome Lists
count s id = on_list s id one.count

abbrev pub peek : Lists → VcpuId → ℕ → Outcome Lists
peek s id k = on_list s id (λ q. one.peek q k)
