-- Rotation on the pair is fair. Assumes nothing.
use Rattle.std.proofs.Common.{Option, Some, None}
use mathlib.Core.Path.{◌≡◌, refl, sym, ap, ap₂, subst, ◌∙◌}
use mathlib.Core.Bool.{Bool, true, false, not, cond, ◌||◌}
use mathlib.Core.List.{List, [], ◌∷◌, ◌++◌}
use Prim.Native.Nat.{ℕ, zero, suc, ◌+◌, ◌*◌, ◌<◌, ◌≤◌}
use native.Mathlib.Omega.{arith}
use lib.Dec.{eqb}
use lib.ListN.{length}
use borrow.Author.Tests.{eqb-true, eqb-false}
use Rattle.utils.specs.Set.{bit, with, without, outside}
use Rattle.utils.proofs.Bools.{and_true}
use Rattle.utils.proofs.Laws.{bit_with_same, bit_with_other, bit_without_same, bit_without_other}
use Rattle.types.specs.declared.PicLine.{PicLine}
use Rattle.types.specs.declared.PicPlace.{PicPlace}
use Rattle.types.specs.declared.PicPlace.TheVariants.{Master, Slave}
use Rattle.types.specs.Counters.{place_of}
use Rattle.vpic_chip.specs.Registers.{Chip}
use Rattle.vpic_priority.specs.Ring.{rank, first_rank, first_by}
use Rattle.vpic_priority.proofs.Ring.{rank_lt}
use Rattle.vpic_chip.specs.Chip.{counts, lowest_by, pending_line, pending_irq, asks, driven, acknowledged, unacknowledged, pulsed, commanded, cascade_irq}
use Rattle.vpic.specs.Words.{PicState}
use Rattle.vpic.specs.Pair.{StateClaim, nothing_claimed, cascade_place, chips, is_cascade, Keeps, settled, latched_at, latched, master_claim, slave_claim, claim_at, claim_irq, claim_pending, restored, port_written, written_at}
use Rattle.vpic_theorems.specs.Statements.{outcome}
use Rattle.vpic_theorems.specs.Rotation.{within, turns, Round, edge_on, waiting, pair_rounds, known_in, are_known, claim_line, claims, Rotating, SlaveWaits, MasterWaits, slave_bound, FairSlave, FairMaster, SixtyFour, LastIsSixtyFourth, NeededOnPair}
use Rattle.vpic_theorems.proofs.Settled.{settled_cascade}
use Rattle.vpic_theorems.proofs.Ring.{rank_turn}
use Rattle.vpic_theorems.proofs.Ordinary.{idle_plainly}
use Rattle.vpic_theorems.proofs.Turns.{Becomes, becomes_same, raise_becomes, raise_keeps, ack_idle, taken_still, eoi_taken, eoi_is, eoi_none, Next, next, asks_for}

-- ---- a chip whose line 2 is driven

driven_becomes : (c : Chip) (k : ℕ) (up : Bool) → Becomes c (driven c k up) (driven c k up).request c.in_service (lowest_by c)
unfolding driven
driven_becomes c k up = record { full = refl; mask = refl; auto_eoi = refl; auto_rotation = refl; request = refl; in_service = refl; lowest = refl }

driven_other : (c : Chip) (k n : ℕ) (up : Bool) → (n ≡ k → ⊥) → bit (driven c k up).request n ≡ bit c.request n
unfolding driven
driven_other c k n true d = bit_with_other c.request k n d
driven_other c k n false d = bit_without_other c.request k n d

driven_same : (c : Chip) (k : ℕ) (up : Bool) → bit (driven c k up).request k ≡ up
unfolding driven
driven_same c k true = bit_with_same c.request k
driven_same c k false = bit_without_same c.request k

-- ---- the pair after a call

-- e is c but for requests
abbrev Like : Chip → Chip → Type 0
Like c e = Becomes c e e.request c.in_service (lowest_by c)

like_then : (c d e : Chip) → Like c d → Like d e → Like c e
like_then c d e h k = record {
  full = k.full ∙ h.full;
  mask = k.mask ∙ h.mask;
  auto_eoi = k.auto_eoi ∙ h.auto_eoi;
  auto_rotation = k.auto_rotation ∙ h.auto_rotation;
  request = refl;
  in_service = k.in_service ∙ h.in_service;
  lowest = k.lowest ∙ h.lowest;
}

-- both EOIs
eois : PicState → PicState
eois p = port_written (port_written p 0xa0 0xa0) 0x20 0xa0

eois_is : (p : PicState) → is_cascade p ≡ true
    → eois (settled p)
    ≡ chips p (driven (commanded (driven (driven p.master 2 (asks p.slave)) 2 (asks (commanded p.slave 0xa0))) 0xa0) 2 (asks (commanded p.slave 0xa0))) (commanded p.slave 0xa0)
unfolding eois port_written written_at
eois_is p e =
    let m = driven p.master 2 (asks p.slave) in
    let s = commanded p.slave 0xa0 in
    ap eois (settled_cascade p e) ∙ ap (λ (x : PicState). port_written x 0x20 0xa0) (settled_cascade (chips p m s) e) ∙ settled_cascade (chips p (commanded (driven m 2 (asks s)) 0xa0) s) e

-- what holds of a chip between rounds
record Idle (c : Chip) : Type 0 where
  full : c.full ≡ true
  idle : c.in_service ≡ 0
  turns : turns c ≡ true

abbrev master_of : (p : PicState) → Rotating p → Idle p.master
master_of p h = record { full = h.master; idle = h.«master-idle»; turns = h.«master_turns» }

abbrev slave_of : (p : PicState) → Rotating p → Idle p.slave
slave_of p h = record { full = h.slave; idle = h.«slave-idle»; turns = h.«slave_turns_lem» }

rotating : (p : PicState) → is_cascade p ≡ true → Keeps p → Idle p.master → Idle p.slave → Rotating p
rotating p c k m s = record {
  cascade = c;
  keeps = k;
  master = m.full;
  slave = s.full;
  «master-idle» = m.idle;
  «slave-idle» = s.idle;
  «master_turns» = m.turns;
  «slave_turns_lem» = s.turns;
}

-- line k was served in the round that turned c into e; another line that had asked still asks (on the master, but for line 2)
record Left (c e : Chip) (k : ℕ) (driven' : ℕ → Type 0) : Type 0 where
  idle : Idle e
  mask : e.mask ≡ c.mask
  lowest : lowest_by e ≡ k
  asked : (n : ℕ) → (n ≡ k → ⊥) → (driven' n → ⊥) → bit c.request n ≡ true → bit e.request n ≡ true

abbrev NoLine : ℕ → Type 0
NoLine n = ⊥

abbrev Two : ℕ → Type 0
Two n = n ≡ 2

left : (D : ℕ → Type 0) (c x : Chip) (k : ℕ) → Idle c → k < 8 → bit c.mask k ≡ false → Like (acknowledged c k) x → ((n : ℕ) → (D n → ⊥) → bit x.request n ≡ bit (acknowledged c k).request n)
    → Left c (commanded x 0xa0) k D
left D c x k h q u b r =
    let a = ack_idle c k h.full h.idle h.turns in
    let e = eoi_taken x k (b.full ∙ a.full ∙ h.full) q (ap (λ (s : ℕ). bit s k) (b.mask ∙ a.mask) ∙ u) (taken_still (acknowledged c k) x k b.in_service b.lowest a.taken) in
    record {
      idle = record {
        full = e.full ∙ b.full ∙ a.full ∙ h.full;
        idle = e.in_service;
        turns = ap₂ (λ (x y : Bool). not x || y) (e.auto_eoi ∙ b.auto_eoi ∙ a.auto_eoi) (e.auto_rotation ∙ b.auto_rotation ∙ a.auto_rotation) ∙ h.turns;
      };
      mask = e.mask ∙ b.mask ∙ a.mask;
      lowest = e.lowest;
      asked = λ n d t z.
          ap (λ (s : ℕ). bit s n) e.request ∙ r n t ∙ ap (λ (s : ℕ). bit s n) a.request ∙ bit_without_other c.request k n d ∙ z;
    }

left_slave : (c : Chip) (k : ℕ) → Idle c → k < 8 → bit c.mask k ≡ false → Left c (commanded (acknowledged c k) 0xa0) k NoLine
left_slave c k h q u = left NoLine c (acknowledged c k) k h q u (becomes_same (acknowledged c k)) (λ n t. refl)

left_driven : (c e : Chip) (k : ℕ) (d : Bool) → Left c e k Two → Left c (driven e 2 d) k Two
left_driven c e k d l =
    let b = driven_becomes e 2 d in
    record {
      idle = record { full = b.full ∙ l.idle.full; idle = b.in_service ∙ l.idle.idle; turns = ap₂ (λ (x y : Bool). not x || y) b.auto_eoi b.auto_rotation ∙ l.idle.turns };
      mask = b.mask ∙ l.mask;
      lowest = b.lowest ∙ l.lowest;
      asked = λ n f t z. driven_other e 2 n d t ∙ l.asked n f t z;
    }

left_master : (c : Chip) (k : ℕ) (a b d : Bool) → Idle c → k < 8 → bit c.mask k ≡ false → Left c (driven (commanded (driven (driven (acknowledged c k) 2 a) 2 b) 0xa0) 2 d) k Two
left_master c k a b d h q u =
    let m = acknowledged c k in
    left_driven c (commanded (driven (driven m 2 a) 2 b) 0xa0) k d
    (left Two c (driven (driven m 2 a) 2 b) k h q u (like_then m (driven m 2 a) (driven (driven m 2 a) 2 b) (driven_becomes m 2 a) (driven_becomes (driven m 2 a) 2 b))
    (λ n t. driven_other (driven m 2 a) 2 n b t ∙ driven_other m 2 n a t))

-- nothing was served on c
eoi_quiet : (c : Chip) → Idle c → commanded c 0xa0 ≡ c
eoi_quiet c h = eoi_is c ∙ eoi_none c h.idle

-- ---- which claim is made

-- the pair after a claim of the master's line k and both EOIs, and of the slave's line j
record ByMaster (p q : PicState) (k : ℕ) : Type 0 where
  other : k ≡ 2 → ⊥
  rotates : Rotating q
  next : Next p.master k
  master : Left p.master q.master k Two
  slave : q.slave ≡ p.slave

record BySlave (p q : PicState) (j : ℕ) : Type 0 where
  rotates : Rotating q
  cascade : Next p.master 2
  next : Next p.slave j
  master : Left p.master q.master 2 Two
  slave : Left p.slave q.slave j NoLine

data Claim (p : PicState) (r : StateClaim) : Type 0 where
  by_master : (k : ℕ) → claim_line r.claim ≡ k ∷ [] → ByMaster p (eois r.state) k → Claim p r
  by_slave : (j : ℕ) → claim_line r.claim ≡ (j + 8) ∷ [] → BySlave p (eois r.state) j → Claim p r

final_keeps : (p : PicState) (m s : Chip) → is_cascade p ≡ true → Keeps (chips p (driven m 2 (asks s)) s)
final_keeps p m s e c = driven_same m 2 (asks s)

master_claim_lem : (p : PicState) (k : PicLine) → Rotating p → Next p.master k.0 → (k.0 ≡ 2 → ⊥) → Claim p (master_claim p k)
unfolding master_claim
master_claim_lem p k h n o =
    let y = chips p (acknowledged p.master k.0) p.slave in
    let s : commanded p.slave 0xa0 ≡ p.slave = eoi_quiet p.slave (slave_of p h) in
    let l = left_master p.master k.0 (asks p.slave) (asks (commanded p.slave 0xa0)) (asks (commanded p.slave 0xa0)) (master_of p h) n.low n.unmasked in
    by_master k.0 refl (rw (eois_is y h.cascade) (record {
      other = o;
      rotates = rotating _ h.cascade (final_keeps p _ (commanded p.slave 0xa0) h.cascade) l.idle (rw s (slave_of p h));
      next = n;
      master = l;
      slave = s;
    }))

slave_claim_lem : (p : PicState) (j : PicLine) → Rotating p → Next p.master 2 → Next p.slave j.0 → Claim p (slave_claim p j)
unfolding slave_claim
slave_claim_lem p j h m n =
    let t = acknowledged p.slave j.0 in
    let y = chips p (acknowledged p.master 2) t in
    let l = left_master p.master 2 (asks t) (asks (commanded t 0xa0)) (asks (commanded t 0xa0)) (master_of p h) m.low m.unmasked in
    let k = left_slave p.slave j.0 (slave_of p h) n.low n.unmasked in
    by_slave j.0 refl (rw (eois_is y h.cascade) (record {
      rotates = rotating _ h.cascade (final_keeps p _ (commanded t 0xa0) h.cascade) l.idle k.idle;
      cascade = m;
      next = n;
      master = l;
      slave = k;
    }))

-- where the master asks, there is a claim
pending_is : (c : Chip) → asks c ≡ true → pending_irq c ≡ Some (record { 0 = pending_line c })
unfolding pending_irq asks
pending_is c e = rw e

claim_made : (p : PicState) → Rotating p → asks p.master ≡ true → Claim p (claim_pending p)
unfolding claim_pending
claim_made p h a = rw (pending_is p.master a) (go (eqb (pending_line p.master) 2) refl)
  where
    line : PicLine
    line = record { 0 = pending_line p.master }

    go : (b : Bool) → eqb (pending_line p.master) 2 ≡ b → Claim p (claim_at p (cond b (cascade_place (pending_irq p.slave)) (Some (Master (record { 0 = pending_line p.master })))))
    go true e =
        let n = next p.master (idle_plainly p.master h.«master-idle») a in
        let two : pending_line p.master ≡ 2 = eqb-true (pending_line p.master) 2 e in
        let n2 : Next p.master 2 = subst (Next p.master) two n in
        let s : asks p.slave ≡ true = sym (h.keeps h.cascade) ∙ n2.asked in
        rw (pending_is p.slave s) (slave_claim_lem p (record { 0 = pending_line p.slave }) h n2 (next p.slave (idle_plainly p.slave h.«slave-idle») s))
    go false e = master_claim_lem p (record { 0 = pending_line p.master }) h (next p.master (idle_plainly p.master h.«master-idle») a) (eqb-false (pending_line p.master) 2 e)

-- ---- an edge before the claim

record Prepared (p q : PicState) : Type 0 where
  rotates : Rotating q
  master : Like p.master q.master
  slave : Like p.slave q.slave
  «master-asked» : (n : ℕ) → (n ≡ 2 → ⊥) → bit p.master.request n ≡ true → bit q.master.request n ≡ true
  «slave-asked» : (n : ℕ) → bit p.slave.request n ≡ true → bit q.slave.request n ≡ true

like_idle : (c e : Chip) → Idle c → Like c e → Idle e
like_idle c e h b = record {
  full = b.full ∙ h.full;
  idle = b.in_service ∙ h.idle;
  turns = ap₂ (λ (x y : Bool). not x || y) b.auto_eoi b.auto_rotation ∙ h.turns;
}

settled_prepared : (p : PicState) (m s : Chip) → Rotating p → Like p.master m → Like p.slave s
    → ((n : ℕ) → bit p.master.request n ≡ true → bit m.request n ≡ true) → ((n : ℕ) → bit p.slave.request n ≡ true → bit s.request n ≡ true)
    → Prepared p (settled (chips p m s))
settled_prepared p m s h a b i j =
    let d = driven_becomes m 2 (asks s) in
    let l = like_then p.master m (driven m 2 (asks s)) a d in
    rw (settled_cascade (chips p m s) h.cascade) (record {
      rotates = rotating _ h.cascade (final_keeps p m s h.cascade) (like_idle p.master (driven m 2 (asks s)) (master_of p h) l) (like_idle p.slave s (slave_of p h) b);
      master = l;
      slave = b;
      «master-asked» = λ n t z. driven_other m 2 n (asks s) t ∙ i n z;
      «slave-asked» = j;
    })

latched_prepared : (p : PicState) (l : PicLine) → Rotating p → Prepared p (latched p l)
unfolding latched
latched_prepared p l h = go (place_of l)
  where
    go : (a : Option PicPlace) → Prepared p (settled (latched_at p a))
    go (Some (Master k)) = settled_prepared p _ _ h (raise_becomes p.master k) (becomes_same p.slave) (raise_keeps p.master k) (λ n z. z)
    go (Some (Slave k)) =
        settled_prepared p _ _ h (raise_becomes p.master cascade_irq) (raise_becomes p.slave k) (raise_keeps p.master cascade_irq) (raise_keeps p.slave k)
    go None = settled_prepared p p.master p.slave h (becomes_same p.master) (becomes_same p.slave) (λ n z. z) (λ n z. z)

-- the pair that the claim is made of
before_claim : PicState → Round → PicState
before_claim p (edge_on l) = latched p l
before_claim p waiting = p

prepared : (p : PicState) (r : Round) → Rotating p → Prepared p (before_claim p r)
unfolding before_claim
prepared p (edge_on l) h = latched_prepared p l h
prepared p waiting h = record { rotates = h; master = becomes_same p.master; slave = becomes_same p.slave; «master-asked» = λ n t z. z; «slave-asked» = λ n z. z }

-- the claims of a round and those after it
round_claims : (p : PicState) (r : Round) (rs : List Round) → known_in r ≡ true
    → claims p (pair_rounds (r ∷ rs)) ≡ claim_line (claim_pending (before_claim p r)).claim ++ claims (eois (claim_pending (before_claim p r)).state) (pair_rounds rs)
unfolding before_claim outcome eois claim_irq
round_claims p (edge_on l) rs k =
    ap (λ (b : Bool). claim_line (cond b (claim_pending (latched p l)) (nothing_claimed p)).claim ++ claims (eois (cond b (claim_pending (latched p l)) (nothing_claimed p)).state) (pair_rounds rs)) k
round_claims p waiting rs k = refl

-- ---- a line of the slave

-- the slave's line n still waits after a claim of another
slave_still : (n : ℕ) (p q : PicState) → Prepared p q → SlaveWaits p n → SlaveWaits q n
slave_still n p q h w = record {
  low = w.low;
  asked = h.«slave-asked» n w.asked;
  unmasked = ap (λ (s : ℕ). bit s n) h.slave.mask ∙ w.unmasked;
  cascade = ap (λ (s : ℕ). bit s 2) h.master.mask ∙ w.cascade;
}

abbrev slave_turns_lem : PicState → ℕ → ℕ
slave_turns_lem p n = rank (lowest_by p.master) 2 + 8 * rank (lowest_by p.slave) n

-- the slave asks, so line 2 of the master is requested, so the master asks
heard : (p : PicState) (n : ℕ) → Rotating p → SlaveWaits p n → bit p.master.request 2 ≡ true
heard p n h w = h.keeps h.cascade ∙ asks_for p.slave n w.low w.asked w.unmasked h.«slave-idle»

-- the first claim is of line n, or n waits with fewer turns before it
slave_round : (n b : ℕ) (rs : List Round) (p : PicState) (r : StateClaim) → Rotating p → SlaveWaits p n → slave_turns_lem p n < suc b → Claim p r
    → ((e : PicState) → Rotating e → SlaveWaits e n → slave_turns_lem e n < b → within (n + 8) b (claims e (pair_rounds rs)) ≡ true)
    → within (n + 8) (suc b) (claim_line r.claim ++ claims (eois r.state) (pair_rounds rs)) ≡ true
slave_round n b rs p r h w t (by_master k c f) rest = rw c (go (eqb k (n + 8)))
  where
    near : rank (lowest_by p.master) k < rank (lowest_by p.master) 2
    near = f.next.nearest 2 (omega arith) (heard p n h w) w.cascade f.other

    left' : within (n + 8) b (claims (eois r.state) (pair_rounds rs)) ≡ true
    left' = rest (eois r.state) f.rotates (record {
      low = w.low;
      asked = rw f.slave w.asked;
      unmasked = rw f.slave w.unmasked;
      cascade = ap (λ (s : ℕ). bit s 2) f.master.mask ∙ w.cascade;
    }) (rw (f.master.lowest, f.slave) (omega (arith, rank_turn (lowest_by p.master) k 2 f.next.low (omega arith) near)))

    go : (z : Bool) → (z || within (n + 8) b (claims (eois r.state) (pair_rounds rs))) ≡ true
    go true = refl
    go false = left'
slave_round n b rs p r h w t (by_slave j c f) rest = rw c (go (eqb (j + 8) (n + 8)) refl)
  where
    go : (z : Bool) → eqb (j + 8) (n + 8) ≡ z → (z || within (n + 8) b (claims (eois r.state) (pair_rounds rs))) ≡ true
    go true e = refl
    go false e =
        let d : j ≡ n → ⊥ = λ y. eqb-false (j + 8) (n + 8) e (ap (λ (m : ℕ). m + 8) y) in
        let near : rank (lowest_by p.slave) j < rank (lowest_by p.slave) n = f.next.nearest n w.low w.asked w.unmasked d in
        rest (eois r.state) f.rotates (record {
          low = w.low;
          asked = f.slave.asked n (λ y. d (sym y)) (λ y. y) w.asked;
          unmasked = ap (λ (s : ℕ). bit s n) f.slave.mask ∙ w.unmasked;
          cascade = ap (λ (s : ℕ). bit s 2) f.master.mask ∙ w.cascade;
        }) (rw (f.master.lowest, f.slave.lowest) (omega (arith, rank_turn (lowest_by p.slave) j n f.next.low w.low near, rank_lt 2 2 (omega arith))))

slave_served_lem : (n : ℕ) (rs : List Round) (p : PicState) (b : ℕ) → Rotating p → SlaveWaits p n → are_known rs ≡ true → slave_turns_lem p n < b → b ≤ length rs
    → within (n + 8) b (claims p (pair_rounds rs)) ≡ true
slave_served_lem n [] p b h w k t q = absurd (omega arith)
slave_served_lem n (r ∷ rs) p zero h w k t q = absurd (omega arith)
slave_served_lem n (r ∷ rs) p (suc b) h w k t q =
    let x = before_claim p r in
    let f = prepared p r h in
    let v = slave_still n p x f w in
    let known = and_true (known_in r) (are_known rs) k in
    ap (within (n + 8) (suc b)) (round_claims p r rs known.0)
    ∙ slave_round n b rs x (claim_pending x) f.rotates v (rw (f.master.lowest, f.slave.lowest) t)
    (claim_made x f.rotates (asks_for x.master 2 (omega arith) (heard x n f.rotates v) v.cascade f.rotates.«master-idle»))
    (λ e i j l. slave_served_lem n rs e b i j known.1 l (omega arith))

pub fair_slave : FairSlave
fair_slave p n r h w k t =
    slave_served_lem n r p (suc (slave_bound p n)) h w k (omega arith) t

pub sixty_four : SixtyFour
sixty_four p n r h w k t = slave_served_lem n r p 64 h w k (omega (arith, rank_lt (lowest_by p.master) 2 (omega arith), rank_lt (lowest_by p.slave) n w.low)) t

-- ---- a line of the master

master_still : (n : ℕ) (p q : PicState) → Prepared p q → MasterWaits p n → MasterWaits q n
master_still n p q h w = record {
  low = w.low;
  other = w.other;
  asked = h.«master-asked» n w.other w.asked;
  unmasked = ap (λ (s : ℕ). bit s n) h.master.mask ∙ w.unmasked;
}

abbrev master_turns : PicState → ℕ → ℕ
master_turns p n = rank (lowest_by p.master) n

master_round : (n b : ℕ) (rs : List Round) (p : PicState) (r : StateClaim) → Rotating p → MasterWaits p n → master_turns p n < suc b → Claim p r
    → ((e : PicState) → Rotating e → MasterWaits e n → master_turns e n < b → within n b (claims e (pair_rounds rs)) ≡ true)
    → within n (suc b) (claim_line r.claim ++ claims (eois r.state) (pair_rounds rs)) ≡ true
master_round n b rs p r h w t (by_master k c f) rest = rw c (go (eqb k n) refl)
  where
    go : (z : Bool) → eqb k n ≡ z → (z || within n b (claims (eois r.state) (pair_rounds rs))) ≡ true
    go true e = refl
    go false e =
        let d : k ≡ n → ⊥ = eqb-false k n e in
        let near : rank (lowest_by p.master) k < rank (lowest_by p.master) n = f.next.nearest n w.low w.asked w.unmasked d in
        rest (eois r.state) f.rotates (record {
          low = w.low;
          other = w.other;
          asked = f.master.asked n (λ y. d (sym y)) w.other w.asked;
          unmasked = ap (λ (s : ℕ). bit s n) f.master.mask ∙ w.unmasked;
        }) (rw f.master.lowest (omega (arith, rank_turn (lowest_by p.master) k n f.next.low w.low near)))
master_round n b rs p r h w t (by_slave j c f) rest = rw c (go (eqb (j + 8) n))
  where
    near : rank (lowest_by p.master) 2 < rank (lowest_by p.master) n
    near = f.cascade.nearest n w.low w.asked w.unmasked (λ y. w.other (sym y))

    go : (z : Bool) → (z || within n b (claims (eois r.state) (pair_rounds rs))) ≡ true
    go true = refl
    go false = rest (eois r.state) f.rotates (record {
      low = w.low;
      other = w.other;
      asked = f.master.asked n w.other w.other w.asked;
      unmasked = ap (λ (s : ℕ). bit s n) f.master.mask ∙ w.unmasked;
    }) (rw f.master.lowest (omega (arith, rank_turn (lowest_by p.master) 2 n (omega arith) w.low near)))

master_served_lem : (n : ℕ) (rs : List Round) (p : PicState) (b : ℕ) → Rotating p → MasterWaits p n → are_known rs ≡ true → master_turns p n < b → b ≤ length rs
    → within n b (claims p (pair_rounds rs)) ≡ true
master_served_lem n [] p b h w k t q = absurd (omega arith)
master_served_lem n (r ∷ rs) p zero h w k t q = absurd (omega arith)
master_served_lem n (r ∷ rs) p (suc b) h w k t q =
    let x = before_claim p r in
    let f = prepared p r h in
    let v = master_still n p x f w in
    let known = and_true (known_in r) (are_known rs) k in
    ap (within n (suc b)) (round_claims p r rs known.0)
    ∙ master_round n b rs x (claim_pending x) f.rotates v (rw f.master.lowest t)
    (claim_made x f.rotates (asks_for x.master n v.low v.asked v.unmasked f.rotates.«master-idle»))
    (λ e i j l. master_served_lem n rs e b i j known.1 l (omega arith))

pub fair_master : FairMaster
fair_master p n r h w k t = master_served_lem n r p (suc (rank (lowest_by p.master) n)) h w k (omega arith) t

-- ---- computed runs

pub last_is_sixty_fourth : LastIsSixtyFourth
unfolding asks driven pending_line pending_irq counts first_by first_rank acknowledged pulsed commanded with without outside settled latched master_claim slave_claim claim_irq claim_pending port_written written_at outcome
last_is_sixty_fourth = refl

pub needed_on_pair : NeededOnPair
unfolding asks driven pending_line pending_irq counts first_by first_rank acknowledged unacknowledged pulsed commanded with without outside settled latched master_claim slave_claim claim_irq claim_pending restored port_written written_at outcome
needed_on_pair = record {
  «master-eoi» = refl;
  «slave-eoi» = refl;
  restored = refl;
  «set-priority» = refl;
  «specific-rotation» = refl;
  output = refl;
  «master_turns» = refl;
  «slave_turns_lem» = refl;
  «master-plain» = refl;
  «slave-plain» = refl;
  «master-masked» = refl;
  «cascade-masked» = refl;
  «slave-masked» = refl;
  unknown = refl;
  rule = refl;
  keeps = refl;
  «master-idle» = refl;
  «slave-idle» = refl;
  other = refl;
}
