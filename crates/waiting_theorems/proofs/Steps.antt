-- What one call does to what waits for a vCPU. Assumes nothing.
use Prim.Native.Nat.{ℕ}
use mathlib.Core.Bool.{Bool, true, false, cond}
use mathlib.Core.List.{List, [], ◌∷◌, ◌++◌}
use mathlib.Core.Path.{◌≡◌, refl, sym, ap, ◌∙◌}
use lib.Dec.{eqb}
use lib.ListN.{length, take}
use lib.Seq.{get_or-set_same, get_or-set_other}
use borrow.Author.Tests.{ltb-true, eqb-true, eqb-false}
use Rattle.std.proofs.Common.{Option, Some, None}
use Rattle.types.specs.declared.Refusal.TheVariants.{OutOfRange, ListFull}
use Rattle.types.specs.declared.Reply.{Reply}
use Rattle.types.specs.declared.Reply.TheVariants.{Refused, Nothing, One}
use Rattle.types.specs.declared.VcpuId.{VcpuId}
use Rattle.types.specs.declared.Vector.{Vector}
use Rattle.types.specs.Reply.{Outcome, outcome_of, reply_number, reply_values}
use Rattle.vpic.specs.Words.{PicState}
use Rattle.vpic.specs.declared.PicInterruptClaim.{PicInterruptClaim}
use Rattle.vpic.specs.Pair.{StateClaim, claim_reply, claim_irq, claim_pending, restore_interrupt}
use Rattle.waiting.specs.Waiting as one
use Rattle.waiting.specs.Waiting.{Waiting, new_list, is_full, is_empty, among, removed}
use Rattle.waiting.specs.Lists as lists
use Rattle.waiting.specs.Lists.{Lists, known_in, list_at, with_list, on_list}
use Rattle.waiting_claims.specs.Claims.{Host, host, handed, claim_for}
use Rattle.waiting_theorems.specs.Calls.{Call, take_in, deliver, cancel, count, peek, call_claim_irq, claim_pending_interrupt, meanwhile, outcome, mine, in_by, out_by, off_by, waiting_for}

-- nothing, or one more waits behind the others, or the oldest went, or the oldest of a vector did
pub data Stepped : List ℕ → List ℕ → List ℕ → List ℕ → List ℕ → Type 0 where
  stays : {w w' ins outs offs : List ℕ} → w' ≡ w → ins ≡ [] → outs ≡ [] → offs ≡ [] → Stepped w w' ins outs offs
  grows : {w w' ins outs offs : List ℕ} (v : ℕ) → w' ≡ w ++ (v ∷ []) → ins ≡ v ∷ [] → outs ≡ [] → offs ≡ [] → Stepped w w' ins outs offs
  gives : {w w' ins outs offs : List ℕ} (v : ℕ) → w ≡ v ∷ w' → ins ≡ [] → outs ≡ v ∷ [] → offs ≡ [] → Stepped w w' ins outs offs
  drops : {w w' ins outs offs : List ℕ} (v : ℕ) → among v w ≡ true → w' ≡ removed v w → ins ≡ [] → outs ≡ [] → offs ≡ v ∷ [] → Stepped w w' ins outs offs

none_mine : (b : Bool) → ◌≡◌ {A = List ℕ} (cond b [] []) []
none_mine true = refl
none_mine false = refl

-- ---- one list

take_step : (q : Waiting) (v : Vector) → Stepped q.waiting (one.take q v).state.waiting (cond (eqb (reply_number (one.take q v).reply) 0) (v.0 ∷ []) []) [] []
unfolding one.taken
take_step q v = go (is_full q)
  where
    go : (b : Bool) → Stepped q.waiting (cond b (outcome_of q (Refused ListFull)) (outcome_of (one.taken q v) Nothing)).state.waiting
        (cond (eqb (reply_number (cond b (outcome_of q (Refused ListFull)) (outcome_of (one.taken q v) Nothing)).reply) 0) (v.0 ∷ []) []) [] []
    go true = stays refl refl refl refl
    go false = grows v.0 refl refl refl refl

deliver_step : (q : Waiting) → Stepped q.waiting (one.deliver q).state.waiting [] (reply_values (one.deliver q).reply) []
unfolding one.delivered
deliver_step q = go q.waiting refl
  where
    go : (w : List ℕ) → w ≡ q.waiting
        → Stepped q.waiting (cond (is_empty q.waiting) (outcome_of q Nothing) (outcome_of (one.delivered q) (one.oldest q.waiting))).state.waiting []
        (reply_values (cond (is_empty q.waiting) (outcome_of q Nothing) (outcome_of (one.delivered q) (one.oldest q.waiting))).reply) []
    go [] e = rw (← e) (stays refl refl refl refl)
    go (v ∷ w) e = rw (← e) (gives v refl refl refl refl)

cancel_step : (q : Waiting) (v : Vector) → Stepped q.waiting (one.cancel q v).state.waiting [] [] (reply_values (one.cancel q v).reply)
unfolding one.cancelled
cancel_step q v = go (among v.0 q.waiting) refl
  where
    go : (b : Bool) → among v.0 q.waiting ≡ b
        → Stepped q.waiting (cond b (outcome_of (one.cancelled q v) (One v.0)) (outcome_of q Nothing)).state.waiting [] []
        (reply_values (cond b (outcome_of (one.cancelled q v) (One v.0)) (outcome_of q Nothing)).reply)
    go true e = drops v.0 e refl refl refl refl
    go false e = stays refl refl refl refl

-- ---- of a host's lists

pub on_known : (s : Lists) (id : VcpuId) (f : Waiting → Outcome Waiting) → known_in s id ≡ true
    → on_list s id f ≡ outcome_of (with_list s id (f (list_at s id)).state) (f (list_at s id)).reply
unfolding on_list
on_known s id f e = rw e refl

pub on_unknown : (s : Lists) (id : VcpuId) (f : Waiting → Outcome Waiting) → known_in s id ≡ false → on_list s id f ≡ outcome_of s (Refused OutOfRange)
unfolding on_list
on_unknown s id f e = rw e refl

pub same_id : (id k : VcpuId) → eqb id.0 k.0 ≡ true → id ≡ k
same_id id k e = let n : id.0 ≡ k.0 = eqb-true id.0 k.0 e in λ i. record { 0 = n i }

pub put_same : (s : Lists) (id : VcpuId) (q : Waiting) → known_in s id ≡ true → list_at (with_list s id q) id ≡ q
put_same s id q e = get_or-set_same s.lists id.0 q new_list (ltb-true id.0 (length s.lists) e)

pub put_other : (s : Lists) (id k : VcpuId) (q : Waiting) → eqb id.0 k.0 ≡ false → list_at (with_list s id q) k ≡ list_at s k
put_other s id k q e = get_or-set_other s.lists id.0 k.0 q new_list (λ d. eqb-false id.0 k.0 e (sym d))

module _ (s : Lists) (id k : VcpuId) (f : Waiting → Outcome Waiting) (Fi Fo Ff : Reply → List ℕ) (zi : Fi (Refused OutOfRange) ≡ []) (zo : Fo (Refused OutOfRange) ≡ [])
    (zf : Ff (Refused OutOfRange) ≡ []) (step : (q : Waiting) → Stepped q.waiting (f q).state.waiting (Fi (f q).reply) (Fo (f q).reply) (Ff (f q).reply)) where
  on_list_lem : Stepped (list_at s k).waiting (list_at (on_list s id f).state k).waiting (cond (eqb id.0 k.0) (Fi (on_list s id f).reply) [])
      (cond (eqb id.0 k.0) (Fo (on_list s id f).reply) []) (cond (eqb id.0 k.0) (Ff (on_list s id f).reply) [])
  on_list_lem = go (known_in s id) (eqb id.0 k.0) refl refl
    where
      go : (a b : Bool) → known_in s id ≡ a → eqb id.0 k.0 ≡ b
          → Stepped (list_at s k).waiting (list_at (on_list s id f).state k).waiting (cond b (Fi (on_list s id f).reply) []) (cond b (Fo (on_list s id f).reply) [])
          (cond b (Ff (on_list s id f).reply) [])
      go false true ea eb = rw (on_unknown s id f ea) (stays refl zi zo zf)
      go false false ea eb = rw (on_unknown s id f ea) (stays refl refl refl refl)
      go true false ea eb = rw (on_known s id f ea) (stays (ap (λ (q : Waiting). q.waiting) (put_other s id k (f (list_at s id)).state eb)) refl refl refl)
      go true true ea eb = rw (on_known s id f ea, ← same_id id k eb, put_same s id (f (list_at s id)).state ea) (step (list_at s id))

-- ---- a claim of the pair

take_room : (s : Lists) (id : VcpuId) (v : Vector) → known_in s id ≡ true → is_full (list_at s id) ≡ false → (lists.take s id v).state ≡ with_list s id (one.taken (list_at s id) v)
take_room s id v e f = ap (λ (o : Outcome Lists). o.state) (on_known s id (λ q. one.take q v) e) ∙ rw f refl

-- what a claim that found a place leaves
placed : (s : Lists) (id k : VcpuId) (v : Vector) → known_in s id ≡ true → is_full (list_at s id) ≡ false
    → Stepped (list_at s k).waiting (list_at (lists.take s id v).state k).waiting (cond (eqb id.0 k.0) (v.0 ∷ []) []) [] []
unfolding one.taken
placed s id k v e f = rw (take_room s id v e f) (go (eqb id.0 k.0) refl)
  where
    go : (b : Bool) → eqb id.0 k.0 ≡ b → Stepped (list_at s k).waiting (list_at (with_list s id (one.taken (list_at s id) v)) k).waiting (cond b (v.0 ∷ []) []) [] []
    go true d =
        let there : list_at (with_list s id (one.taken (list_at s id) v)) k ≡ one.taken (list_at s k) v =
        ap (λ (j : VcpuId). list_at (with_list s id (one.taken (list_at s id) v)) j) (sym (same_id id k d))
        ∙ put_same s id (one.taken (list_at s id) v) e
        ∙ ap (λ (j : VcpuId). one.taken (list_at s j) v) (same_id id k d) in
        grows v.0 (ap (λ (q : Waiting). q.waiting) there) refl refl refl
    go false d = stays (ap (λ (q : Waiting). q.waiting) (put_other s id k (one.taken (list_at s id) v) d)) refl refl refl

handed_step : (s : Lists) (p : PicState) (id k : VcpuId) (c : Option PicInterruptClaim) → known_in s id ≡ true
    → Stepped (list_at s k).waiting (list_at (handed s p id c).state.lists k).waiting (cond (eqb id.0 k.0) (take 1 (reply_values (handed s p id c).reply)) []) [] []
handed_step s p id k None e = stays refl (none_mine (eqb id.0 k.0)) refl refl
handed_step s p id k (Some c) e = go (is_full (list_at s id)) refl
  where
    go : (b : Bool) → is_full (list_at s id) ≡ b
        → Stepped (list_at s k).waiting
        (list_at (cond b (outcome_of (host s (restore_interrupt p c).state) (Refused ListFull)) (outcome_of (host (lists.take s id c.vector).state p) (claim_reply (Some c)))).state.lists k).waiting
        (cond (eqb id.0 k.0)
        (take 1 (reply_values (cond b (outcome_of (host s (restore_interrupt p c).state) (Refused ListFull)) (outcome_of (host (lists.take s id c.vector).state p) (claim_reply (Some c)))).reply))
        []) [] []
    go true f = stays refl (none_mine (eqb id.0 k.0)) refl refl
    go false f = placed s id k c.vector e f

claimed_step : (h : Host) (id k : VcpuId) (claim : PicState → StateClaim)
    → Stepped (list_at h.lists k).waiting (list_at (claim_for h id claim).state.lists k).waiting (cond (eqb id.0 k.0) (take 1 (reply_values (claim_for h id claim).reply)) [])
    [] []
unfolding claim_for
claimed_step h id k claim = go (known_in h.lists id) refl
  where
    go : (a : Bool) → known_in h.lists id ≡ a
        → Stepped (list_at h.lists k).waiting
        (list_at (cond a (handed h.lists (claim h.pair).state id (claim h.pair).claim) (outcome_of h (Refused OutOfRange))).state.lists k).waiting
        (cond (eqb id.0 k.0) (take 1 (reply_values (cond a (handed h.lists (claim h.pair).state id (claim h.pair).claim) (outcome_of h (Refused OutOfRange))).reply)) [])
        [] []
    go false e = stays refl (none_mine (eqb id.0 k.0)) refl refl
    go true e = handed_step h.lists (claim h.pair).state id k (claim h.pair).claim e

-- ---- any call

pub step : (k : VcpuId) (h : Host) (c : Call)
    → Stepped (waiting_for k h) (waiting_for k (outcome h c).state) (mine k c (in_by c (outcome h c).reply)) (mine k c (out_by c (outcome h c).reply)) (mine k c (off_by c (outcome h c).reply))
step k h (take_in id v) =
    on_list_lem h.lists id k (λ q. one.take q v) (λ r. cond (eqb (reply_number r) 0) (v.0 ∷ []) []) (λ r. []) (λ r. []) refl refl refl (λ q. take_step q v)
step k h (deliver id) = on_list_lem h.lists id k one.deliver (λ r. []) reply_values (λ r. []) refl refl refl deliver_step
step k h (cancel id v) = on_list_lem h.lists id k (λ q. one.cancel q v) (λ r. []) (λ r. []) reply_values refl refl refl (λ q. cancel_step q v)
step k h (count id) = on_list_lem h.lists id k one.count (λ r. []) (λ r. []) (λ r. []) refl refl refl (λ q. stays refl refl refl refl)
step k h (peek id n) = on_list_lem h.lists id k (λ q. one.peek q n) (λ r. []) (λ r. []) (λ r. []) refl refl refl (λ q. stays refl refl refl refl)
step k h (call_claim_irq id l) = rw (none_mine (eqb id.0 k.0)) (claimed_step h id k (λ p. claim_irq p l))
step k h (claim_pending_interrupt id) = rw (none_mine (eqb id.0 k.0)) (claimed_step h id k claim_pending)
step k h (meanwhile p) = stays refl refl refl refl
