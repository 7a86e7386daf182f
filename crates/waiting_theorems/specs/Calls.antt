-- Calls of the lists one after another, and what is counted of them: from the calls and their replies alone.
use Rattle.vpic.specs.declared.PicInterruptClaim.{PicInterruptClaim}
use Rattle.std.specs.Prelude.{ℕ, ◌+◌, Bool, true, false, cond, List, [], ◌∷◌, ◌++◌, ◌≡◌, eqb, leb, length, take, drop, Option, Some, None}
use Rattle.types.specs.declared.PicLine.{PicLine}
use Rattle.types.specs.declared.Reply.{Reply}
use Rattle.types.specs.declared.Reply.TheVariants.{Nothing}
use Rattle.types.specs.declared.VcpuId.{VcpuId}
use Rattle.types.specs.declared.Vector.{Vector}
use Rattle.types.specs.Reply.{Outcome, outcome_of, reply_number, reply_values}
use Rattle.vpic.specs.Words.{PicState}
use Rattle.vpic.specs.Pair.{claim_irq, claim_pending}
use Rattle.waiting.specs.Waiting.{removed}
use Rattle.waiting.specs.Lists as lists
use Rattle.waiting.specs.Lists.{Lists, known_in, list_at}
use Rattle.waiting_claims.specs.Claims.{Host, host, claim_irq_for, claim_pending_for}

-- every call of the lists but `new`, which drops what waits, with any arguments; and meanwhile the pair may become any other, by its own calls
pub data Call : Type 0 where
  take_in : VcpuId → Vector → Call
  deliver : VcpuId → Call
  cancel : VcpuId → Vector → Call
  count : VcpuId → Call
  peek : VcpuId → ℕ → Call
  call_claim_irq : VcpuId → PicLine → Call
  claim_pending_interrupt : VcpuId → Call
  meanwhile : PicState → Call

abbrev pub on_lists : Host → Outcome Lists → Outcome Host
on_lists h o = outcome_of (host o.state h.pair) o.reply

-- what the call leaves: what its promise says
abbrev pub outcome : Host → Call → Outcome Host
outcome h (take_in id v) = on_lists h (lists.take h.lists id v)
outcome h (deliver id) = on_lists h (lists.deliver h.lists id)
outcome h (cancel id v) = on_lists h (lists.cancel h.lists id v)
outcome h (count id) = on_lists h (lists.count h.lists id)
outcome h (peek id k) = on_lists h (lists.peek h.lists id k)
outcome h (call_claim_irq id l) = claim_irq_for h id l
outcome h (claim_pending_interrupt id) = claim_pending_for h id
outcome h (meanwhile p) = outcome_of (host h.lists p) Nothing

abbrev pub run : Host → List Call → Host
run h [] = h
run h (c ∷ cs) = run (outcome h c).state cs

-- ---- whose call it is

abbrev pub is_for : VcpuId → Call → Bool
is_for k (take_in id v) = eqb id.0 k.0
is_for k (deliver id) = eqb id.0 k.0
is_for k (cancel id v) = eqb id.0 k.0
is_for k (count id) = eqb id.0 k.0
is_for k (peek id n) = eqb id.0 k.0
is_for k (call_claim_irq id l) = eqb id.0 k.0
is_for k (claim_pending_interrupt id) = eqb id.0 k.0
is_for k (meanwhile p) = false

abbrev pub mine : VcpuId → Call → List ℕ → List ℕ
mine k c l = cond (is_for k c) l []

-- ---- what a call took in, delivered and cancelled for a vCPU, by its reply: a vector or none

abbrev pub in_by : Call → Reply → List ℕ
in_by (take_in id v) r = cond (eqb (reply_number r) 0) (v.0 ∷ []) []
in_by (call_claim_irq id l) r = take 1 (reply_values r)
in_by (claim_pending_interrupt id) r = take 1 (reply_values r)
in_by (deliver id) r = []
in_by (cancel id v) r = []
in_by (count id) r = []
in_by (peek id k) r = []
in_by (meanwhile p) r = []

abbrev pub out_by : Call → Reply → List ℕ
out_by (deliver id) r = reply_values r
out_by (take_in id v) r = []
out_by (call_claim_irq id l) r = []
out_by (claim_pending_interrupt id) r = []
out_by (cancel id v) r = []
out_by (count id) r = []
out_by (peek id k) r = []
out_by (meanwhile p) r = []

abbrev pub off_by : Call → Reply → List ℕ
off_by (cancel id v) r = reply_values r
off_by (deliver id) r = []
off_by (take_in id v) r = []
off_by (call_claim_irq id l) r = []
off_by (claim_pending_interrupt id) r = []
off_by (count id) r = []
off_by (peek id k) r = []
off_by (meanwhile p) r = []

-- ---- over calls: the vectors taken in, delivered and cancelled for a vCPU, in the order of the calls

abbrev pub taken : VcpuId → Host → List Call → List ℕ
taken k h [] = []
taken k h (c ∷ cs) = mine k c (in_by c (outcome h c).reply) ++ taken k (outcome h c).state cs

abbrev pub delivered : VcpuId → Host → List Call → List ℕ
delivered k h [] = []
delivered k h (c ∷ cs) = mine k c (out_by c (outcome h c).reply) ++ delivered k (outcome h c).state cs

abbrev pub cancelled : VcpuId → Host → List Call → List ℕ
cancelled k h [] = []
cancelled k h (c ∷ cs) = mine k c (off_by c (outcome h c).reply) ++ cancelled k (outcome h c).state cs

-- a cancellation: its vector, and how many were delivered before it
pub record Cancellation : Type 0 where
  pub behind : ℕ
  pub vector : ℕ

abbrev pub each : ℕ → List ℕ → List Cancellation
each n [] = []
each n (v ∷ l) = record { behind = n; vector = v } ∷ each n l

abbrev pub joined : List Cancellation → List Cancellation → List Cancellation
joined [] m = m
joined (c ∷ l) m = c ∷ joined l m

-- those of the calls, after n deliveries
abbrev pub cancellations : VcpuId → ℕ → Host → List Call → List Cancellation
cancellations k n h [] = []
cancellations k n h (c ∷ cs) =
    joined (each n (mine k c (off_by c (outcome h c).reply)))
    (cancellations k (n + length (mine k c (out_by c (outcome h c).reply))) (outcome h c).state cs)

-- a sequence less cancellations: each takes away the first of its vector that stands behind those delivered before it
abbrev pub less : List ℕ → List Cancellation → List ℕ
less l [] = l
less l (c ∷ cs) = less (take c.behind l ++ removed c.vector (drop c.behind l)) cs

-- the vectors that wait for a vCPU, the oldest first
abbrev pub waiting_for : VcpuId → Host → List ℕ
waiting_for k h = (list_at h.lists k).waiting

-- ---- the answers that a vCPU's calls get, and its calls alone

abbrev pub answers_to : VcpuId → Host → List Call → List Reply
answers_to k h [] = []
answers_to k h (c ∷ cs) = cond (is_for k c) ((outcome h c).reply ∷ answers_to k (outcome h c).state cs) (answers_to k (outcome h c).state cs)

abbrev pub only : VcpuId → List Call → List Call
only k [] = []
only k (c ∷ cs) = cond (is_for k c) (c ∷ only k cs) (only k cs)

-- calls of the lists alone: no claim of the pair
abbrev pub is_claim : Call → Bool
is_claim (call_claim_irq id l) = true
is_claim (claim_pending_interrupt id) = true
is_claim (take_in id v) = false
is_claim (deliver id) = false
is_claim (cancel id v) = false
is_claim (count id) = false
is_claim (peek id k) = false
is_claim (meanwhile p) = false

abbrev pub NoClaims : List Call → Type 0
NoClaims [] = Unit
NoClaims (c ∷ cs) = (is_claim c ≡ false) × NoClaims cs

-- ---- the number of a reply

-- a claim that finds something
abbrev pub finds : Option PicInterruptClaim → Bool
finds (Some c) = true
finds None = false

-- the call's vCPU has a list
abbrev pub knows : Lists → Call → Bool
knows s (take_in id v) = known_in s id
knows s (deliver id) = known_in s id
knows s (cancel id v) = known_in s id
knows s (count id) = known_in s id
knows s (peek id k) = known_in s id
knows s (call_claim_irq id l) = known_in s id
knows s (claim_pending_interrupt id) = known_in s id
knows s (meanwhile p) = true

-- the call has a vector for its vCPU's list
abbrev pub brings : PicState → Call → Bool
brings p (take_in id v) = true
brings p (call_claim_irq id l) = finds (claim_irq p l).claim
brings p (claim_pending_interrupt id) = finds (claim_pending p).claim
brings p (deliver id) = false
brings p (cancel id v) = false
brings p (count id) = false
brings p (peek id k) = false
brings p (meanwhile q) = false

-- and 64 wait there
abbrev pub is_full_for : Lists → Call → Bool
is_full_for s (take_in id v) = leb 64 (length (list_at s id).waiting)
is_full_for s (call_claim_irq id l) = leb 64 (length (list_at s id).waiting)
is_full_for s (claim_pending_interrupt id) = leb 64 (length (list_at s id).waiting)
is_full_for s (deliver id) = false
is_full_for s (cancel id v) = false
is_full_for s (count id) = false
is_full_for s (peek id k) = false
is_full_for s (meanwhile p) = false
