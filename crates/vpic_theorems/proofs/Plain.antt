-- Where line 7 is lowest before a call, rule 2 answers as rule 1. Assumes nothing.
use Rattle.std.proofs.Common.{Option, Some, None, Ok}
use mathlib.Core.Path.{◌≡◌, refl, sym, ap, ap₂, subst, ◌∙◌}
use mathlib.Core.Bool.{Bool, true, false, not, cond, ◌&&◌, ◌||◌}
use Prim.Native.Nat.{ℕ, ◌%◌}
use lib.Dec.{ltb, eqb}
use Rattle.vpic.specs.declared.PicInterruptClaim.{PicInterruptClaim}
use Rattle.utils.specs.Set.{bit, with, without, outside}
use Rattle.utils.proofs.Bools.{never, both}
use Rattle.utils.proofs.Laws.{bit_without_same, without_with, with_member, without_member}
use Rattle.types.specs.declared.PicLine.{PicLine}
use Rattle.types.specs.declared.PicPlace.{PicPlace}
use Rattle.types.specs.declared.PicPlace.TheVariants.{Master, Slave}
use Rattle.types.specs.declared.Refusal.{Refusal}
use Rattle.types.specs.declared.Refusal.TheVariants.{Unsupported, OutOfRange}
use Rattle.types.specs.declared.Reply.TheVariants as reply
use Rattle.types.specs.Counters.{place_of}
use Rattle.types.specs.Reply.{Outcome}
use Rattle.vpic_priority.specs.Ring.{rank, first_rank, first_by, above}
use Rattle.vpic_priority.proofs.Ring.{by_same}
use Rattle.vpic_chip.specs.Registers.{Chip, with_request}
use Rattle.vpic_chip.proofs.Laws.{ordinary, ordinary_blocks}
use Rattle.vpic_theorems.proofs.Ordinary.{plainly_counts, ordinary_plainly, ordinary_ended, ended_highest}
use Rattle.vpic_chip.specs.Chip.{vector_reply, lowest_by, first_of, blocks, is_polled, poll_shown, polled, read_shown, icw1, ocw3, ocw2, cascade_irq, turned, opened, specific_eoi, non_specific_eoi, commanded, fed, command_read, pulsed, driven, counts, asks, pending_line, irq_of, pending_irq, acknowledged, unacknowledged}
use Rattle.vpic.specs.Words.{PicState}
use Rattle.vpic.specs.Pair.{claim_reply, claim_vector, value_reply, new_state, drives, rule_in, StateClaim, chips, is_cascade, settled, latched_at, latched, master_claim, slave_claim, cascade_place, place_from, pending_place, claim_at, claim_pending, claim_irq, nothing_claimed, restored_at, restored, refused, Port, master_command, master_data, slave_command, slave_data, no_port, port_at, is_port, read_from, left_after, port_read, port_left, written_to, written_at, port_written}
use Rattle.vpic_theorems.proofs.Settled.{settled_cascade}
use Rattle.vpic_theorems.proofs.Turns.{raise_becomes}
use Rattle.vpic_theorems.specs.Statements.{Call, call_claim_irq, claim_pending_interrupt, pulse_irq, next_interrupt, call_restore_interrupt, call_handle_read, call_handle_write, outcome}
use Rattle.vpic_theorems.specs.Rotation.{is_ordinary, plain_chip, by_rule_one, but_two, Alike, Ordinary, chooses_mode, writes_mode, is_mode_call, AsCascade, RequestTwoTurned, ModesNeeded}

plain_cond : (b : Bool) (x y u v : Chip) → plain_chip x ≡ u → plain_chip y ≡ v → plain_chip (cond b x y) ≡ cond b u v
plain_cond true x y u v e f = e
plain_cond false x y u v e f = f

-- ---- one chip whose line 7 is lowest, without a mode

module _ (c : Chip) (e : lowest_by c ≡ 7) (o : is_ordinary c ≡ true) where
  plain_counts : (k : ℕ) → counts (plain_chip c) k ≡ counts c k
  plain_counts k =
      plainly_counts (plain_chip c) (ordinary (plain_chip c) refl refl) k
      ∙ ap (λ (l : ℕ). bit c.request k && not (bit c.mask k) && ltb (rank l k) (first_rank l (bit c.in_service))) (sym e)
      ∙ sym (plainly_counts c (ordinary_plainly c o) k)

  plain_pending : pending_line (plain_chip c) ≡ pending_line c
  unfolding pending_line
  plain_pending = by_same 7 (counts (plain_chip c)) (counts c) (λ k h. plain_counts k) ∙ ap (λ (l : ℕ). first_by l (counts c)) (sym e)

  pub plain_asks : asks (plain_chip c) ≡ asks c
  unfolding asks
  plain_asks = ap (λ (k : ℕ). ltb k 8) plain_pending

  pub plain_irq : pending_irq (plain_chip c) ≡ pending_irq c
  unfolding pending_irq
  plain_irq = ap irq_of plain_pending

  plain_top : first_of (plain_chip c) (blocks (plain_chip c)) ≡ first_of c (blocks c)
  plain_top =
      ended_highest (plain_chip c) (ordinary_blocks (plain_chip c) refl) ∙ ap (λ (l : ℕ). first_by l (bit c.in_service)) (sym e) ∙ sym (ended_highest c (ordinary_ended c o))

  ended : (r : Bool) → plain_chip (non_specific_eoi c r) ≡ non_specific_eoi (plain_chip c) r
  ended r =
      plain_cond (ltb (first_of c (blocks c)) 8) _ _ _ _ refl refl
      ∙ ap (λ (n : ℕ). cond (ltb n 8) (turned (specific_eoi (plain_chip c) n) r n) (plain_chip c)) (sym plain_top)

  -- of a command that is neither ICW1 nor OCW3
  plain_commanded : (v : ℕ) → chooses_mode v ≡ false → plain_chip (commanded c v) ≡ commanded (plain_chip c) v
  unfolding commanded
  plain_commanded v m = go (bit v 4) (bit v 3) m
    where
      go : (x y : Bool) → (x || y) ≡ false → plain_chip (cond x (icw1 c v) (cond y (ocw3 c v) (ocw2 c v))) ≡ cond x (icw1 (plain_chip c) v) (cond y (ocw3 (plain_chip c) v) (ocw2 (plain_chip c) v))
      go true y q = never refl q
      go false true q = never refl q
      go false false q = plain_cond (bit v 5) _ _ _ _ (plain_cond (bit v 6) _ _ _ _ refl (ended (bit v 7))) (plain_cond (bit v 6) _ _ _ _ refl refl)

-- ---- any chip

plain_pulsed : (c : Chip) (l : PicLine) → plain_chip (pulsed c l) ≡ pulsed (plain_chip c) l
unfolding pulsed
plain_pulsed c l = plain_cond (ltb l.0 8) _ _ _ _ refl refl

pub plain_unacknowledged : (c : Chip) (l : PicLine) (f : Bool) → plain_chip (unacknowledged c l f) ≡ unacknowledged (plain_chip c) l f
unfolding unacknowledged
plain_unacknowledged c l f =
    plain_cond f _ _ _ _ (plain_cond (ltb l.0 8) _ _ _ _ (ap (λ (x : Chip). specific_eoi x l.0) (plain_pulsed c l)) (plain_pulsed c l)) (plain_pulsed c l)

plain_fed : (c : Chip) (v : ℕ) → plain_chip (fed c v) ≡ fed (plain_chip c) v
unfolding fed
plain_fed c v =
    plain_cond (eqb c.init_step 1) _ _ _ _ refl (plain_cond (eqb c.init_step 2) _ _ _ _ refl (plain_cond (eqb c.init_step 3) _ _ _ _ refl refl))

-- ---- settling

abbrev pub SameBut : PicState → PicState → Type 0
SameBut x y = (but_two (by_rule_one x) ≡ but_two y) × (lowest_by x.slave ≡ 7 → is_ordinary x.slave ≡ true → by_rule_one x ≡ y)

-- what line 2 was driven to doesn't matter without it
off : (n : ℕ) (up : Bool) → without (cond up (with n 2) (without n 2)) 2 ≡ without n 2
off n false = without_member (without n 2) 2 (bit_without_same n 2)
off n true = go (bit n 2) refl
  where
    go : (b : Bool) → bit n 2 ≡ b → without (with n 2) 2 ≡ without n 2
    go true e = ap (λ (m : ℕ). without m 2) (with_member n 2 e)
    go false e = without_with n 2 e ∙ sym (without_member n 2 e)

settled_alike : (q : PicState) → is_cascade q ≡ true → SameBut (settled q) (settled (by_rule_one q))
unfolding driven
settled_alike q e =
    rw (settled_cascade q e, settled_cascade (by_rule_one q) refl) (
      ap (λ (n : ℕ). but_two' n) (off q.master.request (asks q.slave) ∙ sym (off q.master.request (asks (plain_chip q.slave)))),
      λ l o. ap (λ (b : Bool). chips (by_rule_one q) (driven (plain_chip q.master) 2 b) (plain_chip q.slave)) (sym (plain_asks q.slave l o)),
    )
  where
    but_two' : ℕ → PicState
    but_two' n = chips (by_rule_one q) (with_request (plain_chip q.master) n) (plain_chip q.slave)

-- ---- the pair whose lines 7 are lowest, without a mode

pub record Nested (p : PicState) : Type 0 where
  pub cascade : is_cascade p ≡ true
  pub master : lowest_by p.master ≡ 7
  pub slave : lowest_by p.slave ≡ 7
  pub «master-mode» : is_ordinary p.master ≡ true
  pub «slave-mode» : is_ordinary p.slave ≡ true

settled_nested : (q : PicState) → Nested q → Nested (settled q)
unfolding driven
settled_nested q h = rw (settled_cascade q h.cascade) (record { cascade = h.cascade; master = h.master; slave = h.slave; «master-mode» = h.«master-mode»; «slave-mode» = h.«slave-mode» })

pulsed_lowest : (c : Chip) (l : PicLine) → lowest_by c ≡ 7 → lowest_by (pulsed c l) ≡ 7
pulsed_lowest c l e = (raise_becomes c l).lowest ∙ e

pulsed_ordinary : (c : Chip) (l : PicLine) → is_ordinary c ≡ true → is_ordinary (pulsed c l) ≡ true
unfolding pulsed
pulsed_ordinary c l o = both (λ (d : Chip). is_ordinary d ≡ true) (ltb l.0 8) _ _ o o

-- ---- an edge

latch_nested : (p : PicState) (a : Option PicPlace) → Nested p → Nested (latched_at p a)
latch_nested p (Some (Master k)) h = record {
  cascade = h.cascade;
  master = pulsed_lowest p.master k h.master;
  slave = h.slave;
  «master-mode» = pulsed_ordinary p.master k h.«master-mode»;
  «slave-mode» = h.«slave-mode»;
}
latch_nested p (Some (Slave k)) h = record {
  cascade = h.cascade;
  master = pulsed_lowest p.master cascade_irq h.master;
  slave = pulsed_lowest p.slave k h.slave;
  «master-mode» = pulsed_ordinary p.master cascade_irq h.«master-mode»;
  «slave-mode» = pulsed_ordinary p.slave k h.«slave-mode»;
}
latch_nested p None h = h

latch_alike : (p : PicState) (a : Option PicPlace) → by_rule_one (latched_at p a) ≡ latched_at (by_rule_one p) a
latch_alike p (Some (Master k)) = ap (λ (m : Chip). chips (by_rule_one p) m (plain_chip p.slave)) (plain_pulsed p.master k)
latch_alike p (Some (Slave k)) = ap₂ (λ (m s : Chip). chips (by_rule_one p) m s) (plain_pulsed p.master cascade_irq) (plain_pulsed p.slave k)
latch_alike p None = refl

pub latched_nested : (p : PicState) (l : PicLine) → Nested p → Nested (latched p l)
unfolding latched
latched_nested p l h = settled_nested (latched_at p (place_of l)) (latch_nested p (place_of l) h)

pub latched_alike : (p : PicState) (l : PicLine) → Nested p → by_rule_one (latched p l) ≡ latched (by_rule_one p) l
unfolding latched
latched_alike p l h =
    let n = latch_nested p (place_of l) h in
    (settled_alike (latched_at p (place_of l)) n.cascade).1 (settled_nested (latched_at p (place_of l)) n).slave (settled_nested (latched_at p (place_of l)) n).«slave-mode» ∙ ap settled (latch_alike p (place_of l))

-- ---- a claim

record SameClaim (x y : StateClaim) : Type 0 where
  claim : x.claim ≡ y.claim
  state : SameBut x.state y.state

pub place_alike : (p : PicState) → Nested p → pending_place (by_rule_one p) ≡ pending_place p
place_alike p h = go (pending_irq (plain_chip p.master)) ∙ ap (place_from p) (plain_irq p.master h.master h.«master-mode»)
  where
    go : (a : Option PicLine) → place_from (by_rule_one p) a ≡ place_from p a
    go (Some k) = ap (λ (x : Option PicLine). cond (eqb k.0 cascade_irq.0) (cascade_place x) (Some (Master k))) (plain_irq p.slave h.slave h.«slave-mode»)
    go None = refl

claim_at_alike : (p : PicState) → Nested p → (a : Option PicPlace) → SameClaim (claim_at p a) (claim_at (by_rule_one p) a)
unfolding master_claim slave_claim acknowledged
claim_at_alike p h (Some (Master k)) = record { claim = refl; state = settled_alike (chips p (acknowledged p.master k.0) p.slave) h.cascade }
claim_at_alike p h (Some (Slave k)) = record { claim = refl; state = settled_alike (chips p (acknowledged p.master cascade_irq.0) (acknowledged p.slave k.0)) h.cascade }
claim_at_alike p h None = record { claim = refl; state = settled_alike p h.cascade }

claim_alike : (p : PicState) → Nested p → SameClaim (claim_pending p) (claim_pending (by_rule_one p))
unfolding claim_pending
claim_alike p h = rw (place_alike p h) (claim_at_alike p h (pending_place p))

same : (p : PicState) → SameBut p (by_rule_one p)
same p = (refl, λ l o. refl)

raise_alike : (p : PicState) (l : PicLine) → Nested p → SameClaim (claim_irq p l) (claim_irq (by_rule_one p) l)
unfolding claim_irq
raise_alike p l h = go (ltb l.0 16)
  where
    go : (b : Bool) → SameClaim (cond b (claim_pending (latched p l)) (nothing_claimed p)) (cond b (claim_pending (latched (by_rule_one p) l)) (nothing_claimed (by_rule_one p)))
    go true = rw (sym (latched_alike p l h)) (claim_alike (latched p l) (latched_nested p l h))
    go false = record { claim = refl; state = same p }

-- ---- a restore, a read, a write

pub restore_alike : (p : PicState) (a : Option PicPlace) (m s : Bool) → by_rule_one (restored_at p a m s) ≡ restored_at (by_rule_one p) a m s
restore_alike p (Some (Master k)) m s = ap (λ (x : Chip). chips (by_rule_one p) x (plain_chip p.slave)) (plain_unacknowledged p.master k m)
restore_alike p (Some (Slave k)) m s = ap₂ (λ (x y : Chip). chips (by_rule_one p) x y) (plain_unacknowledged p.master cascade_irq m) (plain_unacknowledged p.slave k s)
restore_alike p None m s = refl

pub restore_cascade : (p : PicState) (a : Option PicPlace) (m s : Bool) → is_cascade (restored_at p a m s) ≡ is_cascade p
restore_cascade p (Some (Master k)) m s = refl
restore_cascade p (Some (Slave k)) m s = refl
restore_cascade p None m s = refl

-- where no poll waits
read_alike : (p : PicState) (port : ℕ) → is_polled p.master ≡ false → is_polled p.slave ≡ false → port_read p port ≡ port_read (by_rule_one p) port
unfolding port_read command_read read_shown
read_alike p port m s = go (port_at port)
  where
    go : (a : Port) → read_from p a ≡ read_from (by_rule_one p) a
    go master_command = ap (λ (b : Bool). Ok (cond b (poll_shown p.master) (cond p.master.read_isr p.master.in_service p.master.request))) m
    go master_data = ap (λ (b : Bool). Ok (cond b (poll_shown p.master) p.master.mask)) m
    go slave_command = ap (λ (b : Bool). Ok (cond b (poll_shown p.slave) (cond p.slave.read_isr p.slave.in_service p.slave.request))) s
    go slave_data = ap (λ (b : Bool). Ok (cond b (poll_shown p.slave) p.slave.mask)) s
    go no_port = refl

pub left_alike : (p : PicState) (port : ℕ) → is_polled p.master ≡ false → is_polled p.slave ≡ false → (port_left p port ≡ p) × (port_left (by_rule_one p) port ≡ by_rule_one p)
unfolding port_left
left_alike p port m s = go (port_at port)
  where
    go : (a : Port) → (left_after p a ≡ p) × (left_after (by_rule_one p) a ≡ by_rule_one p)
    go master_command = (ap (λ (b : Bool). cond b (settled (chips p (polled p.master) p.slave)) p) m, refl)
    go master_data = (ap (λ (b : Bool). cond b (settled (chips p (polled p.master) p.slave)) p) m, refl)
    go slave_command = (ap (λ (b : Bool). cond b (settled (chips p p.master (polled p.slave))) p) s, refl)
    go slave_data = (ap (λ (b : Bool). cond b (settled (chips p p.master (polled p.slave))) p) s, refl)
    go no_port = (refl, refl)

pub write_alike : (p : PicState) → Nested p → (port byte : ℕ) → writes_mode p (port_at port) byte ≡ false → by_rule_one (written_at p port byte) ≡ written_at (by_rule_one p) port byte
unfolding written_at
write_alike p h port byte m = go (port_at port) m
  where
    go : (a : Port) → writes_mode p a byte ≡ false → by_rule_one (written_to p a byte) ≡ written_to (by_rule_one p) a byte
    go master_command m = ap (λ (x : Chip). chips (by_rule_one p) x (plain_chip p.slave)) (plain_commanded p.master h.master h.«master-mode» byte m)
    go master_data m = ap (λ (x : Chip). chips (by_rule_one p) x (plain_chip p.slave)) (plain_fed p.master byte)
    go slave_command m = ap (λ (x : Chip). chips (by_rule_one p) (plain_chip p.master) x) (plain_commanded p.slave h.slave h.«slave-mode» byte m)
    go slave_data m = ap (λ (x : Chip). chips (by_rule_one p) (plain_chip p.master) x) (plain_fed p.slave byte)
    go no_port m = refl

pub write_cascade : (p : PicState) (port byte : ℕ) → is_cascade (written_at p port byte) ≡ is_cascade p
unfolding written_at
write_cascade p port byte = go (port_at port)
  where
    go : (a : Port) → is_cascade (written_to p a byte) ≡ is_cascade p
    go master_command = refl
    go master_data = refl
    go slave_command = refl
    go slave_data = refl
    go no_port = refl

settled_as : (q r : PicState) → is_cascade q ≡ true → by_rule_one q ≡ r → SameBut (settled q) (settled r)
settled_as q r c e = subst (λ (x : PicState). SameBut (settled q) (settled x)) e (settled_alike q c)

-- ---- every call

alike_cond : (b : Bool) (x y u v : Outcome PicState) → Alike x u → Alike y v → Alike (cond b x y) (cond b u v)
alike_cond true x y u v h k = h
alike_cond false x y u v h k = k

done : (x y : PicState) → SameBut x y → Alike (record { state = x; reply = reply.Nothing }) (record { state = y; reply = reply.Nothing })
done x y h = record { reply = refl; state = h.0; exact = h.1 }

refused_alike : (p : PicState) (why : Refusal) → Alike (refused p why) (refused (by_rule_one p) why)
refused_alike p why = record { reply = refl; state = refl; exact = λ l o. refl }

call_alike : (p : PicState) (c : Call) → Nested p → is_polled p.master ≡ false → is_polled p.slave ≡ false → is_mode_call p c ≡ false → Alike (outcome p c) (outcome (by_rule_one p) c)
unfolding outcome restored port_written
call_alike p (call_claim_irq l) h x y m = let a = raise_alike p l h in record { reply = ap claim_reply a.claim; state = a.state.0; exact = a.state.1 }
call_alike p claim_pending_interrupt h x y m = let a = claim_alike p h in record { reply = ap claim_reply a.claim; state = a.state.0; exact = a.state.1 }
call_alike p (pulse_irq l) h x y m = let a = raise_alike p l h in record { reply = ap (λ (x : Option PicInterruptClaim). vector_reply (claim_vector x)) a.claim; state = a.state.0; exact = a.state.1 }
call_alike p next_interrupt h x y m = let a = claim_alike p h in record { reply = ap (λ (x : Option PicInterruptClaim). vector_reply (claim_vector x)) a.claim; state = a.state.0; exact = a.state.1 }
call_alike p (call_restore_interrupt c) h x y m =
    alike_cond (ltb c.irq.0 16) _ _ _ _
    (done _ _
    (settled_as (restored_at p (place_of c.irq) c.master_in_service c.slave_in_service) (restored_at (by_rule_one p) (place_of c.irq) c.master_in_service c.slave_in_service)
    (restore_cascade p (place_of c.irq) c.master_in_service c.slave_in_service ∙ h.cascade)
    (restore_alike p (place_of c.irq) c.master_in_service c.slave_in_service)))
    (refused_alike p OutOfRange)
call_alike p (call_handle_read port width) h x y m =
    let l = left_alike p port x y in
    alike_cond (eqb width 1) _ _ _ _ (rw (l.0, l.1) (record { reply = ap value_reply (read_alike p port x y); state = refl; exact = λ l o. refl })) (refused_alike p Unsupported)
call_alike p (call_handle_write port width value) h x y m =
    alike_cond (eqb width 1) _ _ _ _
    (alike_cond (is_port port) _ _ _ _
    (done _ _
    (settled_as (written_at p port (value % 256)) (written_at (by_rule_one p) port (value % 256)) (write_cascade p port (value % 256) ∙ h.cascade) (write_alike p h port (value % 256) m)))
    (refused_alike p Unsupported))
    (refused_alike p Unsupported)

pub nested_pair_lem : (p : PicState) → Ordinary p → Nested p
nested_pair_lem p h = record { cascade = ap (λ (n : ℕ). drives (rule_in n)) h.rule; master = h.master; slave = h.slave; «master-mode» = h.«master-mode»; «slave-mode» = h.«slave-mode» }

pub as_cascade : AsCascade
as_cascade p c h m = call_alike p c (nested_pair_lem p h) h.«master-poll» h.«slave-poll» m

pub request_two_turned : RequestTwoTurned
unfolding commanded asks driven counts pending_line settled port_written written_at with without first_rank first_by above
request_two_turned = (refl, refl)

pub modes_needed : ModesNeeded
unfolding first_rank first_by opened commanded fed command_read read_shown poll_shown pulsed counts pending_line pending_irq acknowledged asks driven new_state settled master_claim slave_claim claim_pending port_written written_at port_read with without outside
modes_needed = record { «icw1-full» = refl; «icw1-cascade» = refl; «ocw3-full» = refl; «ocw3-cascade» = refl; «icw4-full» = refl; «icw4-cascade» = refl }
