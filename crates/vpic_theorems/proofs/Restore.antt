-- A claim that is restored at once gives back the pair as it was, and serves the highest request of each chip; what its flags say. Assumes nothing.
use Rattle.std.proofs.Common.{Option, Some, None}
use mathlib.Core.Path.{◌≡◌, refl, sym, ap, ap₂, subst, ◌∙◌}
use mathlib.Core.Bool.{Bool, true, false, not, cond, ◌&&◌}
use Prim.Native.Nat.{ℕ, ◌+◌, ◌-◌, ◌<◌}
use native.Mathlib.Omega.{arith}
use lib.Dec.{ltb, eqb}
use lib.ListN.{get_or}
use borrow.Author.Tests.{lt-ltb, le-ltb, eq-eqb, eqb-true}
use Rattle.utils.specs.Set.{bit, with, without, outside, lowest}
use Rattle.utils.proofs.Bools.{both, and-false, and_one}
use Rattle.utils.proofs.Laws.{with_without, without_with, with_member}
use Rattle.types.specs.declared.PicLine.{PicLine}
use Rattle.types.specs.declared.Vector.{Vector}
use Rattle.types.specs.declared.PicPlace.{PicPlace}
use Rattle.types.specs.declared.PicPlace.TheVariants.{Master, Slave}
use Rattle.types.specs.declared.Reply.TheVariants as reply
use Rattle.types.specs.Counters.{place_of, line_vector}
use Rattle.vpic_chip.specs.Registers.{Chip, chip_in, full_in, placed, with_request, with_in_service, with_lowest}
use Rattle.vpic_priority.specs.Ring.{first_rank, first_by}
use Rattle.vpic.specs.Words.{PicState, is_full, view}
use Rattle.vpic.specs.declared.PicInterruptClaim.{PicInterruptClaim}
use Rattle.vpic_chip.specs.Chip.{cascade_irq, is_nested, opened, commanded, fed, pulsed, driven, counts, pending_line, Highest, pending_irq, acknowledged, unacknowledged}
use Rattle.vpic.specs.Pair.{StateClaim, is_cascade, Keeps, chips, grew, new_state, settled, latched_at, latched, master_claim, slave_claim, cascade_place, place_from, claim_at, claim_pending, claim_irq, port_written, written_at, restored_at, restored, restore_interrupt}
use Rattle.vpic_chip.proofs.Laws.{pended, counted_asked, counted_idle}
use Rattle.vpic_theorems.specs.Rule.{LatchedKeeps, WrittenKeeps, RestoredKeeps}
use Rattle.vpic_theorems.proofs.Settled.{settled_between}
use Rattle.vpic.proofs.Settled.{settled_kept, settled_keeps}
use Rattle.vpic.proofs.Laws.{none_new, grew_taken, grew_other}
use Rattle.vpic_theorems.specs.Statements.{Steady, BothSteady, PlainWords, PlainSteady, RestoredAtOnce, RestoredAfterRaise, PlainRestoredAtOnce, PlainRestoredAfterRaise, Served, ServedBy, HighestServed, SecondCallerUnheard, sets, Flagged, FlagsSay, FlagsSayAfterRaise, FlaggedByMode, FlagsByMode}

-- ---- one chip: acknowledged, and taken back

-- an acknowledgement that turns no priorities
steady_taken : (c : Chip) (k : ℕ) → Steady c → acknowledged c k ≡ with_in_service (with_request c (without c.request k)) (cond c.auto_eoi c.in_service (with c.in_service k))
unfolding acknowledged
steady_taken c k s =
    ap (λ (b : Bool). with_lowest (with_in_service (with_request c (without c.request k)) (cond c.auto_eoi c.in_service (with c.in_service k))) (cond b k c.lowest_line)) s

in_service_kept : (c : Chip) (k : ℕ) → bit c.in_service k ≡ true → (acknowledged c k).in_service ≡ c.in_service
unfolding acknowledged
in_service_kept c k e = both (λ (n : ℕ). n ≡ c.in_service) c.auto_eoi _ _ refl (with_member c.in_service k e)

-- a chip's in-service set grew where its line wasn't there, and automatic EOI mode is off
pub grew_sets : (c : Chip) (k : ℕ) → k < 8 → grew c (acknowledged c k) ≡ sets c k
grew_sets c k l = go (bit c.in_service k) refl
  where
    go : (b : Bool) → bit c.in_service k ≡ b → grew c (acknowledged c k) ≡ (not c.auto_eoi && not b)
    go true e =
        grew_other c k l ∙ ap (λ (n : ℕ). not (eqb n c.in_service)) (in_service_kept c k e) ∙ ap not (eq-eqb c.in_service c.in_service refl)
        ∙ sym (and-false (not c.auto_eoi))
    go false e = grew_taken c k l e ∙ sym (and_one (not c.auto_eoi))

chip_back : (c : Chip) (k : PicLine) → Steady c → Highest c k.0 → unacknowledged (acknowledged c k.0) k (grew c (acknowledged c k.0)) ≡ c
unfolding unacknowledged pulsed
chip_back c k s h =
    ap (unacknowledged (acknowledged c k.0) k) (grew_sets c k.0 h.low)
    ∙ ap (λ (d : Chip). unacknowledged d k (sets c k.0)) (steady_taken c k.0 s) ∙ go c.auto_eoi (bit c.in_service k.0) refl
  where
    asked : bit c.request k.0 ≡ true
    asked = counted_asked c k.0 h.counted

    go : (b d : Bool) → bit c.in_service k.0 ≡ d
        → unacknowledged (with_in_service (with_request c (without c.request k.0)) (cond b c.in_service (with c.in_service k.0))) k (not b && not d) ≡ c
    go true d e = rw (lt-ltb k.0 8 h.low, with_without c.request k.0 asked)
    go false true e = rw (lt-ltb k.0 8 h.low, with_without c.request k.0 asked, with_member c.in_service k.0 e)
    go false false e = rw (lt-ltb k.0 8 h.low, with_without c.request k.0 asked, without_with c.in_service k.0 e)

-- ---- the pair: a claim of the master's line, and of the slave's

pub place_low : (k : PicLine) → k.0 < 8 → place_of k ≡ Some (Master k)
place_low k h = rw (lt-ltb k.0 8 h)

pub place_high : (k : PicLine) → k.0 < 8 → place_of (record { 0 = k.0 + 8 }) ≡ Some (Slave k)
place_high k h = rw (le-ltb (k.0 + 8) 8 (omega arith), lt-ltb (k.0 + 8) 16 (omega arith)) (ap (λ (n : ℕ). Some (Slave (record { 0 = n }))) e)
  where
    e : k.0 + 8 - 8 ≡ k.0
    e = omega arith

-- which claim a claim is
unfoldable pub the_claim : (p q : PicState) (v : Vector) (l : PicLine) → PicInterruptClaim
the_claim p q v l = record { vector = v; irq = l; master_in_service = grew p.master q.master; slave_in_service = grew p.slave q.slave }

master_back : (p : PicState) (k : PicLine) (c : PicInterruptClaim) → Keeps p → BothSteady p → Highest p.master k.0 → (master_claim p k).claim ≡ Some c
    → restored (master_claim p k).state c ≡ p
unfolding master_claim restored the_claim
master_back p k c keeps s h e =
    let q = chips p (acknowledged p.master k.0) p.slave in
    let f : c ≡ the_claim p q (line_vector p.master.vector_base k) k = cc in
    rw (f, place_low k h.low)
    (settled_between q k (grew p.master q.master) (λ d. d) h.low
    ∙ ap (λ (m : Chip). settled (chips p m p.slave)) (chip_back p.master k s.0 h)
    ∙ settled_kept p keeps)

slave_back_lem : (p : PicState) (k : PicLine) (c : PicInterruptClaim) → Keeps p → BothSteady p → Highest p.master 2 → Highest p.slave k.0 → (slave_claim p k).claim ≡ Some c
    → restored (slave_claim p k).state c ≡ p
unfolding slave_claim restored the_claim
slave_back_lem p k c keeps s m h e =
    let q = chips p (acknowledged p.master 2) (acknowledged p.slave k.0) in
    let f : c ≡ the_claim p q (line_vector p.slave.vector_base k) (record { 0 = k.0 + 8 }) = cc in
    rw (f, place_high k h.low)
    (settled_between q cascade_irq (grew p.master q.master) (λ d. unacknowledged d k (grew p.slave q.slave)) m.low
    ∙ ap₂ (λ (a b : Chip). settled (chips p a b)) (chip_back p.master cascade_irq s.0 m) (chip_back p.slave k s.1 h)
    ∙ settled_kept p keeps)

-- ---- any claim is one of the two

-- what is shown of the master's and of the slave's claims holds of every claim
pub by_claim : (P : StateClaim → PicInterruptClaim → Type 0) (p : PicState)
    → ((k : PicLine) (c : PicInterruptClaim) → Highest p.master k.0 → (master_claim p k).claim ≡ Some c → P (master_claim p k) c)
    → ((k : PicLine) (c : PicInterruptClaim) → Highest p.master 2 → Highest p.slave k.0 → (slave_claim p k).claim ≡ Some c → P (slave_claim p k) c)
    → (c : PicInterruptClaim) → (claim_pending p).claim ≡ Some c → P (claim_pending p) c
unfolding claim_pending
by_claim P p m s c e = by_master (pending_irq p.master) refl e
  where
    by_slave : (b : Option PicLine) → pending_irq p.slave ≡ b → Highest p.master 2 → (claim_at p (cascade_place b)).claim ≡ Some c → P (claim_at p (cascade_place b)) c
    by_slave (Some k) q h f = s k c h (pended p.slave k q) f
    by_slave None q h f = m cascade_irq c h f

    by_line : (k : PicLine) (b : Bool) → eqb k.0 2 ≡ b → Highest p.master k.0 → (claim_at p (cond b (cascade_place (pending_irq p.slave)) (Some (Master k)))).claim ≡ Some c
        → P (claim_at p (cond b (cascade_place (pending_irq p.slave)) (Some (Master k)))) c
    by_line k true q h f = by_slave (pending_irq p.slave) refl (subst (Highest p.master) (eqb-true k.0 2 q) h) f
    by_line k false q h f = m k c h f

    by_master : (a : Option PicLine) → pending_irq p.master ≡ a → (claim_at p (place_from p a)).claim ≡ Some c → P (claim_at p (place_from p a)) c
    by_master (Some k) q f = by_line k (eqb k.0 2) refl (pended p.master k q) f
    by_master None q f = let z : ◌≡◌ {A = ℕ} 0 1 = cc in absurd (omega arith)

-- the line of a claim
pub master_line : (p : PicState) (k : PicLine) (c : PicInterruptClaim) → (master_claim p k).claim ≡ Some c → c.irq ≡ k
unfolding master_claim
master_line p k c e = cc

pub slave_line : (p : PicState) (k : PicLine) (c : PicInterruptClaim) → (slave_claim p k).claim ≡ Some c → c.irq.0 ≡ k.0 + 8
unfolding slave_claim
slave_line p k c e = let f : c.irq ≡ record { 0 = k.0 + 8 } = cc in ap (λ (l : PicLine). l.0) f

-- every claim names a line of the pair
pub below_16 : (p : PicState) (c : PicInterruptClaim) → (claim_pending p).claim ≡ Some c → c.irq.0 < 16
below_16 p =
    by_claim (λ r c. c.irq.0 < 16) p (λ k c h e. omega (arith, h.low, ap (λ (l : PicLine). l.0) (master_line p k c e)))
    (λ k c m h e. omega (arith, h.low, slave_line p k c e))

pub restored_at_once : RestoredAtOnce
restored_at_once p c keeps steady e =
    rw (lt-ltb c.irq.0 16 (below_16 p c e))
    (rw (by_claim (λ r d. restored r.state d ≡ p) p (λ k d h f. master_back p k d keeps steady h f) (λ k d m h f. slave_back_lem p k d keeps steady m h f) c e))

pub latched_keeps : LatchedKeeps
unfolding latched
latched_keeps p l = settled_keeps (latched_at p (place_of l))

pub written_keeps : WrittenKeeps
unfolding port_written
written_keeps p port byte = settled_keeps (written_at p port byte)

pub restored_keeps : RestoredKeeps
unfolding restored
restored_keeps p c = settled_keeps (restored_at p (place_of c.irq) c.master_in_service c.slave_in_service)

-- to latch a line turns no priorities, and leaves the modes
pulsed_steady : (c : Chip) (l : PicLine) → Steady c → Steady (pulsed c l)
unfolding pulsed
pulsed_steady c l s = both Steady (ltb l.0 8) _ _ s s

latched_steady : (p : PicState) (l : PicLine) → BothSteady p → BothSteady (latched p l)
unfolding latched settled driven
latched_steady p l s = both BothSteady (is_cascade (latched_at p (place_of l))) _ _ (go (place_of l)) (go (place_of l))
  where
    go : (a : Option PicPlace) → BothSteady (latched_at p a)
    go (Some (Master k)) = (pulsed_steady p.master k s.0, s.1)
    go (Some (Slave k)) = (pulsed_steady p.master cascade_irq s.0, pulsed_steady p.slave k s.1)
    go None = s

pub restored_after_raise : RestoredAfterRaise
unfolding claim_irq
restored_after_raise p l c steady e = go (ltb l.0 16) e
  where
    go : (b : Bool) → (cond b (claim_pending (latched p l)) (record { state = p; claim = None })).claim ≡ Some c
        → restore_interrupt (cond b (claim_pending (latched p l)) (record { state = p; claim = None })).state c ≡ record { state = latched p l; reply = reply.Nothing }
    go true f = restored_at_once (latched p l) c (latched_keeps p l) (latched_steady p l steady) f
    go false f = let z : ◌≡◌ {A = ℕ} 0 1 = cc in absurd (omega arith)

-- ---- rules 0 and 1

pub plain_words : PlainWords
unfolding view chip_in
plain_words l e = (go true (get_or l 0 0), go false (get_or l 1 0))
  where
    go : (place : Bool) (w : ℕ) → (cond (is_full (get_or l 2 0)) (placed place (full_in w)) (chip_in w)).full ≡ false
    go place w = ap (λ (b : Bool). (cond b (placed place (full_in w)) (chip_in w)).full) e

plain_chip_lem : (c : Chip) → c.full ≡ false → Steady c
plain_chip_lem c f = ap (λ (b : Bool). b && (c.auto_eoi && c.auto_rotation)) f

pub plain_steady : PlainSteady
plain_steady p h = (plain_chip_lem p.master h.0, plain_chip_lem p.slave h.1)

pub plain_restored_at_once : PlainRestoredAtOnce
plain_restored_at_once p c h keeps e = restored_at_once p c keeps (plain_steady p h) e

pub plain_restored_after_raise : PlainRestoredAfterRaise
plain_restored_after_raise p l c h e = restored_after_raise p l c (plain_steady p h) e

-- ---- the highest request is served

serves : (c : Chip) (k : ℕ) → Highest c k → Served c (acknowledged c k) k
serves c k h = record { highest = h; done = refl }

master_serves : (p : PicState) (k : PicLine) → Highest p.master k.0 → ServedBy p (master_claim p k).state k.0
unfolding master_claim
master_serves p k h = record {
  m = acknowledged p.master k.0;
  s = p.slave;
  settles = refl;
  master = λ l. serves p.master k.0 h;
  alone = λ l. refl;
  cascade = λ l. absurd (omega (arith, h.low));
  slave = λ l. absurd (omega (arith, h.low));
}

slave_serves : (p : PicState) (k : PicLine) → Highest p.master 2 → Highest p.slave k.0 → ServedBy p (slave_claim p k).state (k.0 + 8)
unfolding slave_claim
slave_serves p k m h = record {
  m = acknowledged p.master 2;
  s = acknowledged p.slave k.0;
  settles = refl;
  master = λ l. absurd (omega arith);
  alone = λ l. absurd (omega arith);
  cascade = λ l. serves p.master 2 m;
  slave = λ l. let e : k.0 + 8 - 8 ≡ k.0 = omega arith in rw e (serves p.slave k.0 h);
}

pub highest_served : HighestServed
highest_served p =
    by_claim (λ r c. ServedBy p r.state c.irq.0) p (λ k c h e. rw (master_line p k c e) (master_serves p k h))
    (λ k c m h e. rw (slave_line p k c e) (slave_serves p k m h))

pub second_caller_unheard : SecondCallerUnheard
unfolding first_rank first_by opened commanded fed pulsed counts pending_line pending_irq acknowledged new_state settled latched master_claim slave_claim claim_pending claim_irq port_written written_at with without outside lowest
second_caller_unheard = (refl, refl, refl)

-- ---- what a claim's flags say

master_flagged : (p : PicState) (k : PicLine) (c : PicInterruptClaim) → Highest p.master k.0 → (master_claim p k).claim ≡ Some c → Flagged p c
unfolding master_claim the_claim
master_flagged p k c h e =
    let f : c ≡ the_claim p (chips p (acknowledged p.master k.0) p.slave) (line_vector p.master.vector_base k) k = cc in
    let l = h.low in
    rw f (record {
      master = λ m. grew_sets p.master k.0 l;
      cascade = λ m. absurd (omega arith);
      slave = λ m. absurd (omega arith);
      alone = λ m. ap not (none_new p.slave.in_service);
    })

slave_flagged : (p : PicState) (k : PicLine) (c : PicInterruptClaim) → Highest p.master 2 → Highest p.slave k.0 → (slave_claim p k).claim ≡ Some c → Flagged p c
unfolding slave_claim the_claim
slave_flagged p k c m h e =
    let f : c ≡ the_claim p (chips p (acknowledged p.master 2) (acknowledged p.slave k.0)) (line_vector p.slave.vector_base k) (record { 0 = k.0 + 8 }) = cc in
    let d : k.0 + 8 - 8 ≡ k.0 = omega arith in
    rw f (record {
      master = λ l. absurd (omega arith);
      cascade = λ l. grew_sets p.master 2 m.low;
      slave = λ l. grew_sets p.slave k.0 h.low ∙ ap (sets p.slave) (sym d);
      alone = λ l. absurd (omega arith);
    })

pub flags_say : FlagsSay
flags_say p = by_claim (λ r c. Flagged p c) p (master_flagged p) (slave_flagged p)

-- outside special fully nested mode a line that is claimed wasn't in service
idle_sets : (c : Chip) (k : ℕ) → Highest c k → is_nested c ≡ false → sets c k ≡ not c.auto_eoi
idle_sets c k h n =
    ap (λ (b : Bool). not c.auto_eoi && not b) (counted_idle c k h.counted (ap (λ (b : Bool). b && eqb k 2) n)) ∙ and_one (not c.auto_eoi)

pub flags_by_mode : FlagsByMode
flags_by_mode p = by_claim (λ r c. FlaggedByMode p c) p by_master by_slave
  where
    by_master : (k : PicLine) (c : PicInterruptClaim) → Highest p.master k.0 → (master_claim p k).claim ≡ Some c → FlaggedByMode p c
    by_master k c h e =
        let f = master_flagged p k c h e in
        let l : c.irq.0 ≡ k.0 = ap (λ (x : PicLine). x.0) (master_line p k c e) in
        record { master = λ n. f.master (omega (arith, l, h.low)) ∙ ap (sets p.master) l ∙ idle_sets p.master k.0 h n; slave = λ n m. absurd (omega (arith, l, h.low)) }

    by_slave : (k : PicLine) (c : PicInterruptClaim) → Highest p.master 2 → Highest p.slave k.0 → (slave_claim p k).claim ≡ Some c → FlaggedByMode p c
    by_slave k c m h e =
        let f = slave_flagged p k c m h e in
        let l : c.irq.0 ≡ k.0 + 8 = slave_line p k c e in
        let d : c.irq.0 - 8 ≡ k.0 = omega (arith, l) in
        record {
          master = λ n. f.cascade (omega (arith, l)) ∙ idle_sets p.master 2 m n;
          slave = λ n b. f.slave b ∙ ap (sets p.slave) d ∙ idle_sets p.slave k.0 h n;
        }

-- to latch a line changes no mode, and puts nothing into service
abbrev SameSets : Chip → Chip → Type 0
SameSets c d = (d.auto_eoi ≡ c.auto_eoi) × (d.in_service ≡ c.in_service)

pulsed_sets : (c : Chip) (l : PicLine) → SameSets c (pulsed c l)
unfolding pulsed
pulsed_sets c l = both (SameSets c) (ltb l.0 8) _ _ (refl, refl) (refl, refl)

abbrev SameMode : PicState → PicState → Type 0
SameMode p q = SameSets p.master q.master × SameSets p.slave q.slave

latched_mode : (p : PicState) (l : PicLine) → SameMode p (latched p l)
unfolding latched settled driven
latched_mode p l = both (SameMode p) (is_cascade (latched_at p (place_of l))) _ _ (go (place_of l)) (go (place_of l))
  where
    go : (a : Option PicPlace) → SameMode p (latched_at p a)
    go (Some (Master k)) = (pulsed_sets p.master k, (refl, refl))
    go (Some (Slave k)) = (pulsed_sets p.master cascade_irq, pulsed_sets p.slave k)
    go None = ((refl, refl), (refl, refl))

sets_same : (c d : Chip) (k : ℕ) → SameSets c d → sets d k ≡ sets c k
sets_same c d k s = ap₂ (λ (b : Bool) (n : ℕ). not b && not (bit n k)) s.0 s.1

pub flags_say_after_raise : FlagsSayAfterRaise
unfolding claim_irq
flags_say_after_raise p l c e = go (ltb l.0 16) e
  where
    go : (b : Bool) → (cond b (claim_pending (latched p l)) (record { state = p; claim = None })).claim ≡ Some c → Flagged p c
    go true f =
        let r = flags_say (latched p l) c f in
        let s = latched_mode p l in
        record {
          master = λ m. r.master m ∙ sets_same p.master (latched p l).master c.irq.0 s.0;
          cascade = λ m. r.cascade m ∙ sets_same p.master (latched p l).master 2 s.0;
          slave = λ m. r.slave m ∙ sets_same p.slave (latched p l).slave (c.irq.0 - 8) s.1;
          alone = r.alone;
        }
    go false f = let z : ◌≡◌ {A = ℕ} 0 1 = cc in absurd (omega arith)
