-- When a call is refused, and what it leaves then. Assumes nothing.
use Prim.Native.Nat.{ℕ, zero, suc, ◌≤◌}
use mathlib.Core.Bool.{Bool, true, false, cond, ◌&&◌}
use mathlib.Core.List.{List, [], ◌∷◌}
use mathlib.Core.Path.{◌≡◌, refl, sym, ap, ◌∙◌}
use native.Mathlib.Omega.{arith}
use lib.ListN.{length, get_or, set, drop}
use lib.ListN as listN
use lib.Seq.{set-get_or}
use Rattle.std.proofs.Common.{Option, Some, None}
use Rattle.types.specs.declared.Refusal.TheVariants.{OutOfRange, ListFull}
use Rattle.types.specs.declared.Reply.TheVariants.{Refused, Nothing, One}
use Rattle.types.specs.declared.VcpuId.{VcpuId}
use Rattle.types.specs.declared.Vector.{Vector}
use Rattle.types.specs.Reply.{Outcome, outcome_of, reply_number}
use Rattle.vpic.specs.Words.{PicState}
use Rattle.vpic.specs.declared.PicInterruptClaim.{PicInterruptClaim}
use Rattle.vpic.specs.Pair.{StateClaim, claim_reply, claim_irq, claim_pending, restore_interrupt}
use Rattle.vpic_theorems.proofs.Restore.{restored_at_once, restored_after_raise}
use Rattle.vpic_theorems.proofs.Turned.{restored_but_priorities, restored_after_raise_but_priorities}
use Rattle.waiting.specs.Waiting as one
use Rattle.waiting.specs.Waiting.{Waiting, new_list, is_full, is_empty, among}
use Rattle.waiting.specs.Lists as lists
use Rattle.waiting.specs.Lists.{Lists, known_in, list_at, with_list, on_list, lists_in, lists_from, vcpus_in}
use Rattle.waiting.proofs.Ring.{view_few}
use Rattle.waiting_claims.specs.Claims.{Host, host, handed, claim_for}
use Rattle.waiting_theorems.specs.Calls.{Call, take_in, deliver, cancel, count, peek, call_claim_irq, claim_pending_interrupt, meanwhile, outcome, finds, knows, brings, is_full_for}
use Rattle.waiting_theorems.specs.Statements.{NumbersExactly, AtMost64, RefusedKeepsLists, UnknownKeeps, RefusedPendingRestored, RefusedIrqRestored, RefusedPendingUnchanged, RefusedIrqLatched}
use Rattle.waiting_theorems.proofs.Steps.{on_unknown}

-- ---- numbers

take_number_lem : (q : Waiting) (v : Vector) → reply_number (one.take q v).reply ≡ cond (is_full q && true) 9 0
take_number_lem q v = go (is_full q)
  where
    go : (b : Bool) → reply_number (cond b (outcome_of q (Refused ListFull)) (outcome_of (one.taken q v) Nothing)).reply ≡ cond (b && true) 9 0
    go true = refl
    go false = refl

deliver_number : (q : Waiting) → reply_number (one.deliver q).reply ≡ 0
deliver_number q = go q.waiting
  where
    go : (w : List ℕ) → reply_number (cond (is_empty w) (outcome_of q Nothing) (outcome_of (one.delivered q) (one.oldest w))).reply ≡ 0
    go [] = refl
    go (v ∷ w) = refl

cancel_number_lem : (q : Waiting) (v : Vector) → reply_number (one.cancel q v).reply ≡ 0
cancel_number_lem q v = go (among v.0 q.waiting)
  where
    go : (b : Bool) → reply_number (cond b (outcome_of (one.cancelled q v) (One v.0)) (outcome_of q Nothing)).reply ≡ 0
    go true = refl
    go false = refl

peek_number : (w : List ℕ) → reply_number (one.oldest w) ≡ 0
peek_number [] = refl
peek_number (v ∷ w) = refl

on_number : (s : Lists) (id : VcpuId) (f : Waiting → Outcome Waiting) (n : ℕ) → reply_number (f (list_at s id)).reply ≡ n → reply_number (on_list s id f).reply ≡ cond (known_in s id) n 5
unfolding on_list
on_number s id f n e = go (known_in s id)
  where
    go : (b : Bool) → reply_number (cond b (outcome_of (with_list s id (f (list_at s id)).state) (f (list_at s id)).reply) (outcome_of s (Refused OutOfRange))).reply ≡ cond b n 5
    go true = e
    go false = refl

handed_number : (s : Lists) (p : PicState) (id : VcpuId) (c : Option PicInterruptClaim) → reply_number (handed s p id c).reply ≡ cond (is_full (list_at s id) && finds c) 9 0
handed_number s p id None = go (is_full (list_at s id))
  where
    go : (b : Bool) → ◌≡◌ {A = ℕ} 0 (cond (b && false) 9 0)
    go true = refl
    go false = refl
handed_number s p id (Some c) = go (is_full (list_at s id))
  where
    go : (b : Bool)
        → reply_number (cond b (outcome_of (host s (restore_interrupt p c).state) (Refused ListFull)) (outcome_of (host (lists.take s id c.vector).state p) (claim_reply (Some c)))).reply
        ≡ cond (b && true) 9 0
    go true = refl
    go false = refl

claim_number_lem : (h : Host) (id : VcpuId) (claim : PicState → StateClaim)
    → reply_number (claim_for h id claim).reply ≡ cond (known_in h.lists id) (cond (is_full (list_at h.lists id) && finds (claim h.pair).claim) 9 0) 5
unfolding claim_for
claim_number_lem h id claim = go (known_in h.lists id)
  where
    go : (b : Bool) → reply_number (cond b (handed h.lists (claim h.pair).state id (claim h.pair).claim) (outcome_of h (Refused OutOfRange))).reply
        ≡ cond b (cond (is_full (list_at h.lists id) && finds (claim h.pair).claim) 9 0) 5
    go true = handed_number h.lists (claim h.pair).state id (claim h.pair).claim
    go false = refl

pub numbers_exactly : NumbersExactly
numbers_exactly h (take_in id v) = on_number h.lists id (λ q. one.take q v) _ (take_number_lem (list_at h.lists id) v)
numbers_exactly h (deliver id) = on_number h.lists id one.deliver 0 (deliver_number (list_at h.lists id))
numbers_exactly h (cancel id v) = on_number h.lists id (λ q. one.cancel q v) 0 (cancel_number_lem (list_at h.lists id) v)
numbers_exactly h (count id) = on_number h.lists id one.count 0 refl
numbers_exactly h (peek id k) = on_number h.lists id (λ q. one.peek q k) 0 (peek_number (drop k (list_at h.lists id).waiting))
numbers_exactly h (call_claim_irq id l) = claim_number_lem h id (λ p. claim_irq p l)
numbers_exactly h (claim_pending_interrupt id) = claim_number_lem h id claim_pending
numbers_exactly h (meanwhile p) = refl

-- ---- at most 64

few_lists : (n k : ℕ) (l : List ℕ) → length (get_or (lists_from n l) k new_list).waiting ≤ 64
unfolding new_list
few_lists zero k l = omega arith
few_lists (suc n) zero l = view_few (listN.take 66 l)
few_lists (suc n) (suc k) l = few_lists n k (drop 66 l)

pub at_most_64 : AtMost64
unfolding lists_in
at_most_64 l k = few_lists (vcpus_in (length l)) k.0 l

-- ---- what a refused call leaves

back : (s : Lists) (id : VcpuId) → with_list s id (list_at s id) ≡ s
back s id = λ i. record { lists = set-get_or s.lists id.0 new_list i; rest = s.rest }

on_kept : (s : Lists) (id : VcpuId) (f : Waiting → Outcome Waiting) → ((reply_number (f (list_at s id)).reply ≡ 0 → ⊥) → (f (list_at s id)).state ≡ list_at s id)
    → (reply_number (on_list s id f).reply ≡ 0 → ⊥) → (on_list s id f).state ≡ s
unfolding on_list
on_kept s id f kept = go (known_in s id)
  where
    go : (b : Bool) → (reply_number (cond b (outcome_of (with_list s id (f (list_at s id)).state) (f (list_at s id)).reply) (outcome_of s (Refused OutOfRange))).reply ≡ 0 → ⊥)
        → (cond b (outcome_of (with_list s id (f (list_at s id)).state) (f (list_at s id)).reply) (outcome_of s (Refused OutOfRange))).state ≡ s
    go true r = ap (with_list s id) (kept r) ∙ back s id
    go false r = refl

take_kept : (q : Waiting) (v : Vector) → (reply_number (one.take q v).reply ≡ 0 → ⊥) → (one.take q v).state ≡ q
take_kept q v = go (is_full q)
  where
    go : (b : Bool) → (reply_number (cond b (outcome_of q (Refused ListFull)) (outcome_of (one.taken q v) Nothing)).reply ≡ 0 → ⊥)
        → (cond b (outcome_of q (Refused ListFull)) (outcome_of (one.taken q v) Nothing)).state ≡ q
    go true r = refl
    go false r = absurd (r refl)

handed_kept : (s : Lists) (p : PicState) (id : VcpuId) (c : Option PicInterruptClaim) → (reply_number (handed s p id c).reply ≡ 0 → ⊥) → (handed s p id c).state.lists ≡ s
handed_kept s p id None r = refl
handed_kept s p id (Some c) r = go (is_full (list_at s id)) r
  where
    go : (b : Bool)
        → (reply_number (cond b (outcome_of (host s (restore_interrupt p c).state) (Refused ListFull)) (outcome_of (host (lists.take s id c.vector).state p) (claim_reply (Some c)))).reply
        ≡ 0 → ⊥)
        → (cond b (outcome_of (host s (restore_interrupt p c).state) (Refused ListFull)) (outcome_of (host (lists.take s id c.vector).state p) (claim_reply (Some c)))).state.lists ≡ s
    go true q = refl
    go false q = absurd (q refl)

claim_kept : (h : Host) (id : VcpuId) (claim : PicState → StateClaim) → (reply_number (claim_for h id claim).reply ≡ 0 → ⊥) → (claim_for h id claim).state.lists ≡ h.lists
unfolding claim_for
claim_kept h id claim = go (known_in h.lists id)
  where
    go : (b : Bool) → (reply_number (cond b (handed h.lists (claim h.pair).state id (claim h.pair).claim) (outcome_of h (Refused OutOfRange))).reply ≡ 0 → ⊥)
        → (cond b (handed h.lists (claim h.pair).state id (claim h.pair).claim) (outcome_of h (Refused OutOfRange))).state.lists ≡ h.lists
    go true r = handed_kept h.lists (claim h.pair).state id (claim h.pair).claim r
    go false r = refl

pub refused_keeps_lists : RefusedKeepsLists
refused_keeps_lists h (take_in id v) r = on_kept h.lists id (λ q. one.take q v) (take_kept (list_at h.lists id) v) r
refused_keeps_lists h (deliver id) r = on_kept h.lists id one.deliver (λ n. absurd (n (deliver_number (list_at h.lists id)))) r
refused_keeps_lists h (cancel id v) r = on_kept h.lists id (λ q. one.cancel q v) (λ n. absurd (n (cancel_number_lem (list_at h.lists id) v))) r
refused_keeps_lists h (count id) r = on_kept h.lists id one.count (λ n. refl) r
refused_keeps_lists h (peek id k) r = on_kept h.lists id (λ q. one.peek q k) (λ n. refl) r
refused_keeps_lists h (call_claim_irq id l) r = claim_kept h id (λ p. claim_irq p l) r
refused_keeps_lists h (claim_pending_interrupt id) r = claim_kept h id claim_pending r
refused_keeps_lists h (meanwhile p) r = refl

-- a vCPU whose call is refused with 5 has no list
is_five : (b : Bool) → ◌≡◌ {A = ℕ} (cond b 9 0) 5 → ⊥
is_five true e = omega arith
is_five false e = omega arith

not_known : (a b : Bool) → ◌≡◌ {A = ℕ} (cond a (cond b 9 0) 5) 5 → a ≡ false
not_known true b e = absurd (is_five b e)
not_known false b e = refl

unknown_for : (h : Host) (c : Call) → (outcome h c).reply ≡ Refused OutOfRange → knows h.lists c ≡ false
unknown_for h c e = not_known (knows h.lists c) (is_full_for h.lists c && brings h.pair c) (sym (numbers_exactly h c) ∙ ap reply_number e)

on_gone : (h : Host) (id : VcpuId) (f : Waiting → Outcome Waiting) → known_in h.lists id ≡ false → host (on_list h.lists id f).state h.pair ≡ h
on_gone h id f e = ap (λ (o : Outcome Lists). host o.state h.pair) (on_unknown h.lists id f e)

claim_gone : (h : Host) (id : VcpuId) (claim : PicState → StateClaim) → known_in h.lists id ≡ false → (claim_for h id claim).state ≡ h
unfolding claim_for
claim_gone h id claim e = rw e refl

pub unknown_keeps : UnknownKeeps
unknown_keeps h (take_in id v) e = on_gone h id (λ q. one.take q v) (unknown_for h (take_in id v) e)
unknown_keeps h (deliver id) e = on_gone h id one.deliver (unknown_for h (deliver id) e)
unknown_keeps h (cancel id v) e = on_gone h id (λ q. one.cancel q v) (unknown_for h (cancel id v) e)
unknown_keeps h (count id) e = on_gone h id one.count (unknown_for h (count id) e)
unknown_keeps h (peek id k) e = on_gone h id (λ q. one.peek q k) (unknown_for h (peek id k) e)
unknown_keeps h (call_claim_irq id l) e = claim_gone h id (λ p. claim_irq p l) (unknown_for h (call_claim_irq id l) e)
unknown_keeps h (claim_pending_interrupt id) e = claim_gone h id claim_pending (unknown_for h (claim_pending_interrupt id) e)
unknown_keeps h (meanwhile p) e = absurd (let z : ◌≡◌ {A = ℕ} 0 5 = ap reply_number e in omega arith)

-- ---- a claim that was refused with 9: what it found went back

record Gone (h : Host) (id : VcpuId) (claim : PicState → StateClaim) : Type 0 where
  found : PicInterruptClaim
  is : (claim h.pair).claim ≡ Some found
  leaves : (claim_for h id claim).state ≡ host h.lists (restore_interrupt (claim h.pair).state found).state

handed_back : (h : Host) (id : VcpuId) (claim : PicState → StateClaim) (c : Option PicInterruptClaim) → (claim h.pair).claim ≡ c → (handed h.lists (claim h.pair).state id c).reply ≡ Refused ListFull
    → (claim_for h id claim).state ≡ (handed h.lists (claim h.pair).state id c).state → Gone h id claim
handed_back h id claim None d e s = absurd (let z : ◌≡◌ {A = ℕ} 0 9 = ap reply_number e in omega arith)
handed_back h id claim (Some c) d e s = record { found = c; is = d; leaves = s ∙ go (is_full (list_at h.lists id)) e }
  where
    go : (b : Bool)
        → (cond b (outcome_of (host h.lists (restore_interrupt (claim h.pair).state c).state) (Refused ListFull))
        (outcome_of (host (lists.take h.lists id c.vector).state (claim h.pair).state) (claim_reply (Some c)))).reply ≡ Refused ListFull
        → (cond b (outcome_of (host h.lists (restore_interrupt (claim h.pair).state c).state) (Refused ListFull))
        (outcome_of (host (lists.take h.lists id c.vector).state (claim h.pair).state) (claim_reply (Some c)))).state
        ≡ host h.lists (restore_interrupt (claim h.pair).state c).state
    go true q = refl
    go false q = absurd (let z : ◌≡◌ {A = ℕ} 0 9 = ap reply_number q in omega arith)

for_known : (h : Host) (id : VcpuId) (claim : PicState → StateClaim) → known_in h.lists id ≡ true
    → claim_for h id claim ≡ handed h.lists (claim h.pair).state id (claim h.pair).claim
unfolding claim_for
for_known h id claim e = rw e refl

for_unknown : (h : Host) (id : VcpuId) (claim : PicState → StateClaim) → known_in h.lists id ≡ false → claim_for h id claim ≡ outcome_of h (Refused OutOfRange)
unfolding claim_for
for_unknown h id claim e = rw e refl

gone : (h : Host) (id : VcpuId) (claim : PicState → StateClaim) → (claim_for h id claim).reply ≡ Refused ListFull → Gone h id claim
gone h id claim e = go (known_in h.lists id) refl
  where
    go : (b : Bool) → known_in h.lists id ≡ b → Gone h id claim
    go true k =
        handed_back h id claim (claim h.pair).claim refl (sym (ap (λ (o : Outcome Host). o.reply) (for_known h id claim k)) ∙ e)
        (ap (λ (o : Outcome Host). o.state) (for_known h id claim k))
    go false k = absurd (let z : ◌≡◌ {A = ℕ} 5 9 = sym (ap (λ (o : Outcome Host). reply_number o.reply) (for_unknown h id claim k)) ∙ ap reply_number e in omega arith)

pub refused_pending_restored : RefusedPendingRestored
refused_pending_restored h id e =
    let g = gone h id claim_pending e in
    g.leaves ∙ ap (λ (o : Outcome PicState). host h.lists o.state) (restored_but_priorities h.pair g.found g.is)

pub refused_irq_restored : RefusedIrqRestored
refused_irq_restored h id l e =
    let g = gone h id (λ p. claim_irq p l) e in
    g.leaves ∙ ap (λ (o : Outcome PicState). host h.lists o.state) (restored_after_raise_but_priorities h.pair l g.found g.is)

pub refused_pending_unchanged : RefusedPendingUnchanged
refused_pending_unchanged h id keeps steady e =
    let g = gone h id claim_pending e in
    g.leaves ∙ ap (λ (o : Outcome PicState). host h.lists o.state) (restored_at_once h.pair g.found keeps steady g.is)

pub refused_irq_latched : RefusedIrqLatched
refused_irq_latched h id l steady e =
    let g = gone h id (λ p. claim_irq p l) e in
    g.leaves ∙ ap (λ (o : Outcome PicState). host h.lists o.state) (restored_after_raise h.pair l g.found steady g.is)
