-- One vCPU's list is no other's matter. Assumes nothing.
use Prim.Native.Nat.{ℕ}
use mathlib.Core.Bool.{Bool, true, false, cond}
use mathlib.Core.List.{List, [], ◌∷◌}
use mathlib.Core.Path.{◌≡◌, refl, sym, ap, ◌∙◌}
use native.Mathlib.Omega.{arith}
use lib.Dec.{eqb, ltb}
use lib.ListN.{length-set}
use Rattle.std.proofs.Common.{Option, Some, None}
use Rattle.types.specs.declared.Refusal.TheVariants.{OutOfRange, ListFull}
use Rattle.types.specs.declared.Reply.TheVariants.{Refused}
use Rattle.types.specs.declared.VcpuId.{VcpuId}
use Rattle.types.specs.Reply.{Outcome, outcome_of}
use Rattle.vpic.specs.Words.{PicState}
use Rattle.vpic.specs.declared.PicInterruptClaim.{PicInterruptClaim}
use Rattle.vpic.specs.Pair.{StateClaim, claim_reply, claim_irq, claim_pending, restore_interrupt}
use Rattle.waiting.specs.Waiting as one
use Rattle.waiting.specs.Waiting.{Waiting, is_full}
use Rattle.waiting.specs.Lists as lists
use Rattle.waiting.specs.Lists.{Lists, known_in, list_at, with_list, on_list}
use Rattle.waiting_claims.specs.Claims.{Host, host, handed, claim_for}
use Rattle.waiting_theorems.specs.Calls.{Call, take_in, deliver, cancel, count, peek, call_claim_irq, claim_pending_interrupt, meanwhile, outcome, run, is_for, answers_to, only, is_claim, NoClaims}
use Rattle.waiting_theorems.specs.Statements.{Apart, Alike, ApartLists, ApartWithPair}
use Rattle.waiting_theorems.proofs.Steps.{on_known, on_unknown, same_id, put_same, put_other}

-- ---- the lists of two hosts

record Same (k : VcpuId) (s t : Lists) : Type 0 where
  known : known_in s k ≡ known_in t k
  list : list_at s k ≡ list_at t k

known_put : (s : Lists) (id k : VcpuId) (q : Waiting) → known_in (with_list s id q) k ≡ known_in s k
known_put s id k q = ap (ltb k.0) (length-set s.lists id.0 q)

-- another vCPU's call leaves a vCPU's list
on_other : (s : Lists) (id k : VcpuId) (f : Waiting → Outcome Waiting) → eqb id.0 k.0 ≡ false → Same k (on_list s id f).state s
on_other s id k f e = go (known_in s id) refl
  where
    go : (b : Bool) → known_in s id ≡ b → Same k (on_list s id f).state s
    go true d = rw (on_known s id f d) (record { known = known_put s id k (f (list_at s id)).state; list = put_other s id k (f (list_at s id)).state e })
    go false d = rw (on_unknown s id f d) (record { known = refl; list = refl })

-- its own is answered by that list alone
record Answered (k : VcpuId) (a b : Outcome Lists) : Type 0 where
  reply : a.reply ≡ b.reply
  same : Same k a.state b.state

on_own : (s t : Lists) (k : VcpuId) (f : Waiting → Outcome Waiting) → Same k s t → Answered k (on_list s k f) (on_list t k f)
on_own s t k f m = go (known_in s k) refl
  where
    go : (b : Bool) → known_in s k ≡ b → Answered k (on_list s k f) (on_list t k f)
    go true d =
        let e : known_in t k ≡ true = sym m.known ∙ d in
        rw (on_known s k f d, on_known t k f e)
        (record {
          reply = ap (λ (q : Waiting). (f q).reply) m.list;
          same = record {
            known = known_put s k k (f (list_at s k)).state ∙ m.known ∙ sym (known_put t k k (f (list_at t k)).state);
            list = put_same s k (f (list_at s k)).state d ∙ ap (λ (q : Waiting). (f q).state) m.list ∙ sym (put_same t k (f (list_at t k)).state e);
          };
        })
    go false d =
        let e : known_in t k ≡ false = sym m.known ∙ d in
        rw (on_unknown s k f d, on_unknown t k f e) (record { reply = refl; same = m })

-- ---- claims

handed_other : (s : Lists) (p : PicState) (id k : VcpuId) (c : Option PicInterruptClaim) → eqb id.0 k.0 ≡ false → Same k (handed s p id c).state.lists s
handed_other s p id k None e = record { known = refl; list = refl }
handed_other s p id k (Some c) e = go (is_full (list_at s id))
  where
    go : (b : Bool)
        → Same k (cond b (outcome_of (host s (restore_interrupt p c).state) (Refused ListFull)) (outcome_of (host (lists.take s id c.vector).state p) (claim_reply (Some c)))).state.lists s
    go true = record { known = refl; list = refl }
    go false = on_other s id k (λ q. one.take q c.vector) e

claim_other : (h : Host) (id k : VcpuId) (claim : PicState → StateClaim) → eqb id.0 k.0 ≡ false → Same k (claim_for h id claim).state.lists h.lists
unfolding claim_for
claim_other h id k claim e = go (known_in h.lists id)
  where
    go : (b : Bool) → Same k (cond b (handed h.lists (claim h.pair).state id (claim h.pair).claim) (outcome_of h (Refused OutOfRange))).state.lists h.lists
    go true = handed_other h.lists (claim h.pair).state id k (claim h.pair).claim e
    go false = record { known = refl; list = refl }

record Claims (k : VcpuId) (a b : Outcome Host) : Type 0 where
  reply : a.reply ≡ b.reply
  list : list_at a.state.lists k ≡ list_at b.state.lists k
  pair : a.state.pair ≡ b.state.pair

handed_own : (s t : Lists) (p : PicState) (k : VcpuId) (c : Option PicInterruptClaim) → Same k s t → Claims k (handed s p k c) (handed t p k c)
handed_own s t p k None m = record { reply = refl; list = m.list; pair = refl }
handed_own s t p k (Some c) m = go (is_full (list_at s k)) (is_full (list_at t k)) (ap is_full m.list)
  where
    part : Lists → Bool → Outcome Host
    part u b = cond b (outcome_of (host u (restore_interrupt p c).state) (Refused ListFull)) (outcome_of (host (lists.take u k c.vector).state p) (claim_reply (Some c)))

    go : (a b : Bool) → a ≡ b → Claims k (part s a) (part t b)
    go true true e = record { reply = refl; list = m.list; pair = refl }
    go false false e = record { reply = refl; list = (on_own s t k (λ q. one.take q c.vector) m).same.list; pair = refl }
    go true false e = absurd (let z : ◌≡◌ {A = ℕ} 0 1 = cc in omega arith)
    go false true e = absurd (let z : ◌≡◌ {A = ℕ} 0 1 = cc in omega arith)

claim_own : (g h : Host) (k : VcpuId) (claim : PicState → StateClaim) → Same k g.lists h.lists → g.pair ≡ h.pair → Claims k (claim_for g k claim) (claim_for h k claim)
unfolding claim_for
claim_own g h k claim m e = go (known_in g.lists k) (known_in h.lists k) m.known
  where
    part : Host → Bool → Outcome Host
    part u b = cond b (handed u.lists (claim u.pair).state k (claim u.pair).claim) (outcome_of u (Refused OutOfRange))

    go : (a b : Bool) → a ≡ b → Claims k (part g a) (part h b)
    go true true d = rw e (handed_own g.lists h.lists (claim h.pair).state k (claim h.pair).claim m)
    go false false d = record { reply = refl; list = m.list; pair = e }
    go true false d = absurd (let z : ◌≡◌ {A = ℕ} 0 1 = cc in omega arith)
    go false true d = absurd (let z : ◌≡◌ {A = ℕ} 0 1 = cc in omega arith)

-- ---- any call

of : (k : VcpuId) (g h : Host) → Same k g.lists h.lists → Alike k g h
of k g h m = record { known = m.known; list = m.list }

to : (k : VcpuId) (g h : Host) → Alike k g h → Same k g.lists h.lists
to k g h a = record { known = a.known; list = a.list }

other : (k : VcpuId) (c : Call) (h : Host) → is_for k c ≡ false → Same k (outcome h c).state.lists h.lists
other k (take_in id v) h e = on_other h.lists id k (λ q. one.take q v) e
other k (deliver id) h e = on_other h.lists id k one.deliver e
other k (cancel id v) h e = on_other h.lists id k (λ q. one.cancel q v) e
other k (count id) h e = on_other h.lists id k one.count e
other k (peek id n) h e = on_other h.lists id k (λ q. one.peek q n) e
other k (call_claim_irq id l) h e = claim_other h id k (λ p. claim_irq p l) e
other k (claim_pending_interrupt id) h e = claim_other h id k claim_pending e
other k (meanwhile p) h e = record { known = refl; list = refl }

own_list : (k id : VcpuId) (f : Waiting → Outcome Waiting) (g h : Host) → eqb id.0 k.0 ≡ true → Same k g.lists h.lists → Answered k (on_list g.lists id f) (on_list h.lists id f)
own_list k id f g h e m = rw (same_id id k e) (on_own g.lists h.lists k f m)

own : (k : VcpuId) (c : Call) (g h : Host) → is_for k c ≡ true → is_claim c ≡ false → Same k g.lists h.lists
    → ((outcome g c).reply ≡ (outcome h c).reply) × Same k (outcome g c).state.lists (outcome h c).state.lists
own k (take_in id v) g h e n m = let a = own_list k id (λ q. one.take q v) g h e m in (a.reply, a.same)
own k (deliver id) g h e n m = let a = own_list k id one.deliver g h e m in (a.reply, a.same)
own k (cancel id v) g h e n m = let a = own_list k id (λ q. one.cancel q v) g h e m in (a.reply, a.same)
own k (count id) g h e n m = let a = own_list k id one.count g h e m in (a.reply, a.same)
own k (peek id i) g h e n m = let a = own_list k id (λ q. one.peek q i) g h e m in (a.reply, a.same)
own k (call_claim_irq id l) g h e n m = absurd (let z : ◌≡◌ {A = ℕ} 0 1 = cc in omega arith)
own k (claim_pending_interrupt id) g h e n m = absurd (let z : ◌≡◌ {A = ℕ} 0 1 = cc in omega arith)
own k (meanwhile p) g h e n m = absurd (let z : ◌≡◌ {A = ℕ} 0 1 = cc in omega arith)

joined_same : (k : VcpuId) (s t u : Lists) → Same k s t → Same k t u → Same k s u
joined_same k s t u a b = record { known = a.known ∙ b.known; list = a.list ∙ b.list }

-- a run and the vCPU's own calls alone, from lists that are the same for it: the same answers, and its list the same
Alone : VcpuId → Host → Host → List Call → List Call → Type 0
Alone k g h cs ds = (answers_to k g cs ≡ answers_to k h ds) × Same k (run g cs).lists (run h ds).lists

alone : (k : VcpuId) (g h : Host) (cs : List Call) → NoClaims (only k cs) → Same k g.lists h.lists → Alone k g h cs (only k cs)
unfolding Alone
alone k g h [] n m = (refl, m)
alone k g h (c ∷ cs) n m = go (is_for k c) refl n (λ g' h' n' m'. alone k g' h' cs n' m')
  where
    go : (b : Bool) → is_for k c ≡ b → NoClaims (cond b (c ∷ only k cs) (only k cs))
        → ((g' h' : Host) → NoClaims (only k cs) → Same k g'.lists h'.lists → Alone k g' h' cs (only k cs))
        → (cond b ((outcome g c).reply ∷ answers_to k (outcome g c).state cs) (answers_to k (outcome g c).state cs) ≡ answers_to k h (cond b (c ∷ only k cs) (only k cs)))
        × Same k (run (outcome g c).state cs).lists (run h (cond b (c ∷ only k cs) (only k cs))).lists
    go true e l rest =
        let a = own k c g h e l.0 m in
        let r = rest (outcome g c).state (outcome h c).state l.1 a.1 in
        rw e ((λ i. a.0 i ∷ r.0 i), r.1)
    go false e l rest = rest (outcome g c).state h l (joined_same k (outcome g c).state.lists g.lists h.lists (other k c g e) m)

pub apart : Apart
unfolding Alone
apart k h cs n = (alone k h h cs n (record { known = refl; list = refl })).0

turned_same : (k : VcpuId) (s t : Lists) → Same k s t → Same k t s
turned_same k s t a = record { known = sym a.known; list = sym a.list }

pub apart_lists : ApartLists
unfolding Alone
apart_lists k g h cs ds a e n =
    let x = alone k g h cs n (to k g h a) in
    let y = alone k h h ds (rw e at n) (record { known = refl; list = refl }) in
    let z : Alone k g h cs (only k ds) = rw e at x in
    (z.0 ∙ sym y.0, of k (run g cs) (run h ds) (joined_same k (run g cs).lists (run h (only k ds)).lists (run h ds).lists z.1 (turned_same k (run h ds).lists (run h (only k ds)).lists y.1)))

by_claim : (k id : VcpuId) (claim : PicState → StateClaim) (g h : Host) → eqb id.0 k.0 ≡ true → Alike k g h → g.pair ≡ h.pair → Claims k (claim_for g id claim) (claim_for h id claim)
by_claim k id claim g h e a p = rw (same_id id k e) (claim_own g h k claim (to k g h a) p)

pub apart_with_pair : ApartWithPair
apart_with_pair k (take_in id v) g h e a p = let x = own_list k id (λ q. one.take q v) g h e (to k g h a) in record { reply = x.reply; list = x.same.list; pair = p }
apart_with_pair k (deliver id) g h e a p = let x = own_list k id one.deliver g h e (to k g h a) in record { reply = x.reply; list = x.same.list; pair = p }
apart_with_pair k (cancel id v) g h e a p = let x = own_list k id (λ q. one.cancel q v) g h e (to k g h a) in record { reply = x.reply; list = x.same.list; pair = p }
apart_with_pair k (count id) g h e a p = let x = own_list k id one.count g h e (to k g h a) in record { reply = x.reply; list = x.same.list; pair = p }
apart_with_pair k (peek id n) g h e a p = let x = own_list k id (λ q. one.peek q n) g h e (to k g h a) in record { reply = x.reply; list = x.same.list; pair = p }
apart_with_pair k (call_claim_irq id l) g h e a p = let x = by_claim k id (λ q. claim_irq q l) g h e a p in record { reply = x.reply; list = x.list; pair = x.pair }
apart_with_pair k (claim_pending_interrupt id) g h e a p = let x = by_claim k id claim_pending g h e a p in record { reply = x.reply; list = x.list; pair = x.pair }
apart_with_pair k (meanwhile q) g h e a p = absurd (let z : ◌≡◌ {A = ℕ} 0 1 = cc in omega arith)
