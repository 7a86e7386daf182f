-- Theorems about the waiting lists that belong to no one call (document 02, T-13): nothing is lost, the oldest comes first, and one vCPU's list is no other's matter.
use Rattle.std.specs.Prelude.{ℕ, ◌+◌, ◌≤◌, true, cond, ◌&&◌, List, [], ◌∷◌, ◌++◌, ◌≡◌, length, take, replicate}
use Rattle.types.specs.declared.PicLine.{PicLine}
use Rattle.types.specs.declared.Refusal.TheVariants.{ListFull, OutOfRange}
use Rattle.types.specs.declared.Reply.TheVariants.{Refused, Nothing, Three}
use Rattle.types.specs.declared.VcpuId.{VcpuId}
use Rattle.types.specs.Reply.{reply_number}
use Rattle.vpic.specs.Words.{PicState}
use Rattle.vpic.specs.declared.PicRule.TheVariants.{Cascade}
use Rattle.vpic.specs.Pair.{Keeps, settled, latched, claim_irq, claim_pending}
use Rattle.vpic.specs.Departures.{open', line}
use Rattle.vpic_theorems.specs.Statements.{BothSteady}
use Rattle.vpic_theorems.specs.Rotation.{with_priorities}
use Rattle.waiting.specs.Waiting.{Waiting, new_list}
use Rattle.waiting.specs.Lists.{known_in, list_at, lists_in}
use Rattle.waiting_claims.specs.Claims.{Host, host, claim_irq_for, claim_pending_for}
use Rattle.waiting_theorems.specs.Calls.{Call, call_claim_irq, claim_pending_interrupt, outcome, run, is_for, taken, delivered, cancelled, cancellations, less, waiting_for, answers_to, only, NoClaims, knows, brings, is_full_for}

-- ---- nothing is lost

-- what waited and what was taken in is what was delivered, what was cancelled and what waits, each counted from the calls; any lists, and any calls but `new`
abbrev pub Conserved : Type 0
Conserved =
    (k : VcpuId) (h : Host) (cs : List Call)
    → length (waiting_for k h) + length (taken k h cs) ≡ length (delivered k h cs) + length (cancelled k h cs) + length (waiting_for k (run h cs))

-- and in order: what was delivered, then what waits, is what waited, then what was taken in, less the cancellations
abbrev pub InOrder : Type 0
InOrder =
    (k : VcpuId) (h : Host) (cs : List Call)
    → delivered k h cs ++ waiting_for k (run h cs) ≡ less (waiting_for k h ++ taken k h cs) (cancellations k 0 h cs)

-- so the oldest comes first, also after cancellations: the vectors delivered are the first of that sequence
abbrev pub OldestFirst : Type 0
OldestFirst =
    (k : VcpuId) (h : Host) (cs : List Call)
    → delivered k h cs ≡ take (length (delivered k h cs)) (less (waiting_for k h ++ taken k h cs) (cancellations k 0 h cs))

-- and without a cancellation they are the first of what waited and was taken in
abbrev pub FirstInFirstOut : Type 0
FirstInFirstOut =
    (k : VcpuId) (h : Host) (cs : List Call) → cancelled k h cs ≡ [] → delivered k h cs ++ waiting_for k (run h cs) ≡ waiting_for k h ++ taken k h cs

-- ---- refusals

-- 5 exactly where the vCPU has no list; 9 exactly where it has one, the call has a vector for it, and 64 wait there; no other call is refused
abbrev pub NumbersExactly : Type 0
NumbersExactly =
    (h : Host) (c : Call)
    → reply_number (outcome h c).reply ≡ cond (knows h.lists c) (cond (is_full_for h.lists c && brings h.pair c) 9 0) 5

-- in any bytes no more than 64 wait
abbrev pub AtMost64 : Type 0
AtMost64 = (l : List ℕ) (k : VcpuId) → length (list_at (lists_in l) k).waiting ≤ 64

-- a refused call leaves every list as it was; and refused with 5 the pair too
abbrev pub RefusedKeepsLists : Type 0
RefusedKeepsLists = (h : Host) (c : Call) → (reply_number (outcome h c).reply ≡ 0 → ⊥) → (outcome h c).state.lists ≡ h.lists

abbrev pub UnknownKeeps : Type 0
UnknownKeeps = (h : Host) (c : Call) → (outcome h c).reply ≡ Refused OutOfRange → (outcome h c).state ≡ h

-- the lists say what every byte is, also in bytes that no call leaves: so each promise, an equation of lists, gives every byte after the call
abbrev pub SameBytes : Type 0
SameBytes = (l m : List ℕ) → length l ≡ length m → lists_in l ≡ lists_in m → l ≡ m

-- over lent bytes: l before the call, and m what it leaves. A refused call leaves every byte as it was
abbrev pub RefusedKeepsBytes : Type 0
RefusedKeepsBytes =
    (l m : List ℕ) (p : PicState) (c : Call) → length l ≡ length m → lists_in m ≡ (outcome (host (lists_in l) p) c).state.lists
    → (reply_number (outcome (host (lists_in l) p) c).reply ≡ 0 → ⊥) → m ≡ l

-- a claim that was refused with 9 is restored: the pair is settled as it was, but for the priorities that the claim turned (T-04); of any pair, of every rule
abbrev pub RefusedPendingRestored : Type 0
RefusedPendingRestored =
    (h : Host) (id : VcpuId) → (claim_pending_for h id).reply ≡ Refused ListFull
    → (claim_pending_for h id).state ≡ host h.lists (settled (with_priorities h.pair (claim_pending h.pair).state))

-- after a raised line, that line is left latched
abbrev pub RefusedIrqRestored : Type 0
RefusedIrqRestored =
    (h : Host) (id : VcpuId) (l : PicLine) → (claim_irq_for h id l).reply ≡ Refused ListFull
    → (claim_irq_for h id l).state ≡ host h.lists (settled (with_priorities (latched h.pair l) (claim_irq h.pair l).state))

-- so where no chip turns priorities by an acknowledgement, a pair that keeps its rule is as it was, and after a raised line any pair is, with that line latched
abbrev pub RefusedPendingUnchanged : Type 0
RefusedPendingUnchanged =
    (h : Host) (id : VcpuId) → Keeps h.pair → BothSteady h.pair → (claim_pending_for h id).reply ≡ Refused ListFull → (claim_pending_for h id).state ≡ h

abbrev pub RefusedIrqLatched : Type 0
RefusedIrqLatched =
    (h : Host) (id : VcpuId) (l : PicLine) → BothSteady h.pair → (claim_irq_for h id l).reply ≡ Refused ListFull
    → (claim_irq_for h id l).state ≡ host h.lists (latched h.pair l)

-- ---- apart

-- without claims of its own, a vCPU's answers are those of its own calls alone, whatever is called for others, claims of the pair too
abbrev pub Apart : Type 0
Apart = (k : VcpuId) (h : Host) (cs : List Call) → NoClaims (only k cs) → answers_to k h cs ≡ answers_to k h (only k cs)

-- a vCPU's list in two hosts, where both know it or neither does
pub record Alike (k : VcpuId) (g h : Host) : Type 0 where
  pub known : known_in g.lists k ≡ known_in h.lists k
  pub list : list_at g.lists k ≡ list_at h.lists k

-- so two runs may differ in all that other vCPUs have waiting, in all that is called for them, and in the pair: where a vCPU's own list is the same, and its own calls, which
-- are no claims, they are answered the same, and leave its list the same
abbrev pub ApartLists : Type 0
ApartLists =
    (k : VcpuId) (g h : Host) (cs ds : List Call) → Alike k g h → only k cs ≡ only k ds → NoClaims (only k cs)
    → (answers_to k g cs ≡ answers_to k h ds) × Alike k (run g cs) (run h ds)

-- a claim goes by the pair too: with the pair in the same state, a vCPU's call is answered by its own list alone, and leaves that and the pair alike
pub record SameAnswer (k : VcpuId) (c : Call) (g h : Host) : Type 0 where
  pub reply : (outcome g c).reply ≡ (outcome h c).reply
  pub list : list_at (outcome g c).state.lists k ≡ list_at (outcome h c).state.lists k
  pub pair : (outcome g c).state.pair ≡ (outcome h c).state.pair

abbrev pub ApartWithPair : Type 0
ApartWithPair = (k : VcpuId) (c : Call) (g h : Host) → is_for k c ≡ true → Alike k g h → g.pair ≡ h.pair → SameAnswer k c g h

-- and with claims the pair needn't be in the same state: two vCPUs, the first's list full or empty, and two calls, a claim of line 1 for the first, and a claim for the
-- second. Where the first's list is full, its claim is refused and goes back to the pair, and the second gets line 1
abbrev pub vcpu : ℕ → VcpuId
vcpu k = record { 0 = k }

abbrev pub full_list : Waiting
full_list = record { head = 0; waiting = replicate 64 0x41; free = []; head_rest = 0; count_rest = 0 }

abbrev pub two : Waiting → Host
two first = host (record { lists = first ∷ new_list ∷ []; rest = [] }) (open' Cascade)

abbrev pub both : List Call
both = call_claim_irq (vcpu 0) (line 1) ∷ claim_pending_interrupt (vcpu 1) ∷ []

abbrev pub NotApartByClaims : Type 0
NotApartByClaims = (answers_to (vcpu 1) (two full_list) both ≡ Three 9 1 1 ∷ []) × (answers_to (vcpu 1) (two new_list) both ≡ Nothing ∷ [])
