-- What calls on the pair do to its master, event by event. Assumes nothing.
use Rattle.std.proofs.Common.{Option, Some, None}
use Prim.Native.Nat.{ℕ, suc, ◌+◌, ◌-◌, ◌%◌, ◌<◌}
use mathlib.Core.Path.{◌≡◌, refl, sym, ap, subst, ◌∙◌}
use mathlib.Core.Bool.{Bool, true, false, cond}
use mathlib.Core.List.{List, [], ◌∷◌, ◌++◌, append-nil, append_assoc}
use lib.Dec.{ltb, eqb}
use lib.ListN.{length}
use native.Mathlib.Omega.{arith}
use borrow.Author.Tests.{lt-ltb, ltb-true, eqb-true}
use Rattle.types.specs.declared.PicLine.{PicLine}
use Rattle.types.specs.declared.PicPlace.{PicPlace}
use Rattle.types.specs.declared.PicPlace.TheVariants.{Master, Slave}
use Rattle.types.specs.Counters.{place_of}
use Rattle.utils.specs.Set.{with, without, outside}
use Rattle.vpic_priority.specs.Ring.{rank, first_rank, first_by}
use Rattle.vpic_chip.specs.Registers.{Chip}
use Rattle.vpic_chip.specs.Chip.{cascade_irq, lowest_by, is_polled, asks, driven, counts, pending_line, pending_irq, acknowledged, poll_shown, polled, pulsed, commanded}
use Rattle.types.specs.declared.Reply.TheVariants as reply
use Rattle.types.specs.declared.Refusal.TheVariants.{OutOfRange, Unsupported}
use Rattle.vpic.specs.declared.PicInterruptClaim.{PicInterruptClaim}
use Rattle.vpic.specs.Words.{PicState}
use Rattle.vpic.specs.Pair.{StateClaim, nothing_claimed, Port, master_command, master_data, slave_command, slave_data, no_port, port_at, is_there, chips, is_cascade, settled, latched_at, latched, master_claim, slave_claim, cascade_place, place_from, pending_place, claim_at, claim_pending, claim_irq, restored_at, restored, left_after, port_left, written_to, written_at, port_written, drives, rule_in, port_read, value_reply, refused, restore_interrupt, handle_read, handle_write}
use Rattle.vpic_theorems.specs.Statements.{Call, call_claim_irq, claim_pending_interrupt, pulse_irq, next_interrupt, call_restore_interrupt, call_handle_read, call_handle_write, outcome}
use Rattle.vpic_theorems.specs.Rotation.{Event, after, lines_of, lines, within, fairly, Waits, claim_line, acknowledge, read_poll, drive}
use Rattle.vpic_theorems.specs.OnPair.{drive_from, edges_at, latch_events, claim_events, irq_events, back_at, read_events, write_events, master_events, after_all, MasterIs, on_master, shown_line, polled_line, master_served, MasterServedAre, along, FairOnMaster, slave_edges, slave_claims, slave_back, slave_reads, slave_writes, slave_irq, slave_events, SlaveIs, on_slave, slave_polled, slave_served, SlaveServedAre, FairOnSlave, NestedOnPair, NestedOnSlave}
use Rattle.vpic_theorems.proofs.Settled.{settled_cascade}
use Rattle.vpic_theorems.proofs.Rule.{calls_keep_number}
use Rattle.vpic_theorems.proofs.Rotation.{fair}

-- ---- lists of events

after_both : (l m : List Event) (c : Chip) → after_all c (l ++ m) ≡ after_all (after_all c l) m
after_both [] m c = refl
after_both (e ∷ l) m c = after_both l m (after c e)

lines_both : (l m : List Event) (c : Chip) → lines c (l ++ m) ≡ lines c l ++ lines (after_all c l) m
lines_both [] m c = refl
lines_both (e ∷ l) m c = ap (λ (x : List ℕ). lines_of c e ++ x) (lines_both l m (after c e)) ∙ sym (append_assoc (lines_of c e) (lines (after c e) l) (lines (after_all (after c e) l) m))

-- the line that a poll acknowledges is the one that it shows
poll_lines : (c : Chip) → lines_of c read_poll ≡ shown_line (poll_shown c)
unfolding poll_shown
poll_lines c = go (asks c)
  where
    some : (k : ℕ) (b : Bool) → ltb (0x80 + k) 0x80 ≡ b → k ∷ [] ≡ cond b [] ((0x80 + k - 0x80) ∷ [])
    some k true e = absurd (omega (arith, ltb-true (0x80 + k) 0x80 e))
    some k false e = ap (λ (x : ℕ). x ∷ []) (omega arith)

    go : (a : Bool) → cond a (pending_line c ∷ []) [] ≡ shown_line (cond a (0x80 + pending_line c) 0)
    go true = some (pending_line c) (ltb (0x80 + pending_line c) 0x80) refl
    go false = refl

-- from p to q the chip at a place goes through these events, which serve the lines k
record Does (chip : PicState → Chip) (p q : PicState) (l : List Event) (k : List ℕ) : Type 0 where
  state : chip q ≡ after_all (chip p) l
  lines : lines (chip p) l ≡ k

abbrev MasterDoes : PicState → PicState → List Event → List ℕ → Type 0
MasterDoes = Does (λ p. p.master)

abbrev SlaveDoes : PicState → PicState → List Event → List ℕ → Type 0
SlaveDoes = Does (λ p. p.slave)

-- one after the other
then : (chip : PicState → Chip) (p q r : PicState) (l m : List Event) (j k : List ℕ) → Does chip p q l j → Does chip q r m k → Does chip p r (l ++ m) (j ++ k)
then chip p q r l m j k a b = record {
  state = b.state ∙ ap (λ (c : Chip). after_all c m) a.state ∙ sym (after_both l m (chip p));
  lines = lines_both l m (chip p) ∙ ap (λ (x : List ℕ). x ++ lines (after_all (chip p) l) m) a.lines ∙ ap (λ (c : Chip). j ++ lines c m) (sym a.state) ∙ ap (λ (x : List ℕ). j ++ x) b.lines;
}

-- a run, on pairs of which I holds and is kept
module _ (chip : PicState → Chip) (events : PicState → Call → List Event) (served : PicState → Call → List ℕ) (I : PicState → Type 0)
    (does : (p : PicState) (c : Call) → I p → Does chip p (outcome p c).state (events p c) (served p c)) (kept : (p : PicState) (c : Call) → I p → I (outcome p c).state) where
  run_lines : (l : List Call) (p : PicState) → I p → lines (chip p) (along events p l) ≡ along served p l
  run_lines [] p i = refl
  run_lines (c ∷ l) p i =
      let q = (outcome p c).state in
      let d = does p c i in
      lines_both (events p c) (along events q l) (chip p)
      ∙ ap (λ (x : List ℕ). x ++ lines (after_all (chip p) (events p c)) (along events q l)) d.lines
      ∙ ap (λ (m : Chip). served p c ++ lines m (along events q l)) (sym d.state)
      ∙ ap (λ (x : List ℕ). served p c ++ x) (run_lines l q (kept p c i))

  fair_along : (p : PicState) (n : ℕ) (l : List Call) → I p → Waits (chip p) n → fairly n (chip p) (along events p l) ≡ true → rank (lowest_by (chip p)) n < length (along served p l)
      → within n (suc (rank (lowest_by (chip p)) n)) (along served p l) ≡ true
  fair_along p n l i w f h =
      let r = rank (lowest_by (chip p)) n in
      let s = run_lines l p i in
      subst (λ (x : List ℕ). within n (suc r) x ≡ true) s (fair (chip p) n (along events p l) w f (subst (λ (x : List ℕ). r < length x) (sym s) h))

-- ---- what settling does to the master

settled_master : (q : PicState) → is_cascade q ≡ true → (settled q).master ≡ driven q.master 2 (asks (settled q).slave)
settled_master q e = rw (settled_cascade q e)

settled_still : (q : PicState) → is_cascade q ≡ true → is_cascade (settled q) ≡ true
settled_still q e = rw (settled_cascade q e) e

-- ---- an edge

master_latched : (p : PicState) (l : PicLine) → is_cascade p ≡ true → MasterDoes p (latched p l) (latch_events p l) []
unfolding latched
master_latched p l e = go (place_of l)
  where
    go : (a : Option PicPlace) → MasterDoes p (settled (latched_at p a)) (edges_at a ++ drive cascade_irq (asks (settled (latched_at p a)).slave) ∷ []) []
    go (Some (Master k)) = record { state = settled_master (latched_at p (Some (Master k))) e; lines = refl }
    go (Some (Slave k)) = record { state = settled_master (latched_at p (Some (Slave k))) e; lines = refl }
    go None = record { state = settled_master p e; lines = refl }

latched_still : (p : PicState) (l : PicLine) → is_cascade p ≡ true → is_cascade (latched p l) ≡ true
unfolding latched
latched_still p l e = go (place_of l)
  where
    go : (a : Option PicPlace) → is_cascade (settled (latched_at p a)) ≡ true
    go (Some (Master k)) = settled_still (latched_at p (Some (Master k))) e
    go (Some (Slave k)) = settled_still (latched_at p (Some (Slave k))) e
    go None = settled_still p e

-- ---- a claim

-- the claim r, where the master asks (a) or not: its pending line is acknowledged, and it is the claim's own or line 2
record ClaimIs (p : PicState) (r : StateClaim) (a : Bool) : Type 0 where
  state : r.state.master ≡ driven (cond a (acknowledged p.master (pending_line p.master)) p.master) 2 (asks r.state.slave)
  line : cond a (pending_line p.master ∷ []) [] ≡ on_master (claim_line r.claim)

-- the master's line k
own_line : (k : ℕ) → k < 8 → k ∷ [] ≡ on_master (k ∷ [])
own_line k h = rw (lt-ltb k 8 h)

-- the slave's line j is line 2 there
slave_line : (j : ℕ) → on_master ((j + 8) ∷ []) ≡ 2 ∷ []
slave_line j = go (ltb (j + 8) 8) refl
  where
    go : (b : Bool) → ltb (j + 8) 8 ≡ b → cond b (j + 8) 2 ∷ [] ≡ 2 ∷ []
    go true e = absurd (omega (arith, ltb-true (j + 8) 8 e))
    go false e = refl

module _ (p : PicState) (e : is_cascade p ≡ true) where
  by_master : (k : PicLine) → k.0 < 8 → k.0 ≡ pending_line p.master → ClaimIs p (master_claim p k) true
  unfolding master_claim
  by_master k h i = record {
    state = settled_master (chips p (acknowledged p.master k.0) p.slave) e
        ∙ ap (λ (x : ℕ). driven (acknowledged p.master x) 2 (asks (settled (chips p (acknowledged p.master k.0) p.slave)).slave)) i;
    line = ap (λ (x : ℕ). x ∷ []) (sym i) ∙ own_line k.0 h;
  }

  by_slave : (j : PicLine) → 2 ≡ pending_line p.master → ClaimIs p (slave_claim p j) true
  unfolding slave_claim
  by_slave j i = record {
    state = settled_master (chips p (acknowledged p.master 2) (acknowledged p.slave j.0)) e
        ∙ ap (λ (x : ℕ). driven (acknowledged p.master x) 2 (asks (settled (chips p (acknowledged p.master 2) (acknowledged p.slave j.0))).slave)) i;
    line = ap (λ (x : ℕ). x ∷ []) (sym i) ∙ sym (slave_line j.0);
  }

  by_two : (s : Option PicLine) → 2 ≡ pending_line p.master → ClaimIs p (claim_at p (cascade_place s)) true
  by_two (Some j) i = by_slave j i
  by_two None i = by_master cascade_irq (omega arith) i

  by_line : (k : PicLine) → k.0 < 8 → k.0 ≡ pending_line p.master → (b : Bool) → eqb k.0 2 ≡ b → ClaimIs p (claim_at p (cond b (cascade_place (pending_irq p.slave)) (Some (Master k)))) true
  by_line k h i true t = by_two (pending_irq p.slave) (sym (eqb-true k.0 2 t) ∙ i)
  by_line k h i false t = by_master k h i

  claim_is : ClaimIs p (claim_pending p) (asks p.master)
  unfolding claim_pending asks pending_irq
  claim_is = go (ltb (pending_line p.master) 8) refl
    where
      go : (a : Bool) → ltb (pending_line p.master) 8 ≡ a → ClaimIs p (claim_at p (place_from p (cond a (Some (record { 0 = pending_line p.master })) None))) a
      go true h = by_line (record { 0 = pending_line p.master }) (ltb-true (pending_line p.master) 8 h) refl (eqb (pending_line p.master) 2) refl
      go false h = record { state = settled_master p e; line = refl }

  master_claims : MasterDoes p (claim_pending p).state (claim_events p) (on_master (claim_line (claim_pending p).claim))
  master_claims = record { state = claim_is.state; lines = append-nil (lines_of p.master acknowledge) ∙ claim_is.line }

-- ---- an edge and a claim

master_irq : (p : PicState) (l : PicLine) → is_cascade p ≡ true → MasterDoes p (claim_irq p l).state (irq_events p l) (on_master (claim_line (claim_irq p l).claim))
unfolding claim_irq
master_irq p l e = go (ltb l.0 16)
  where
    go : (b : Bool) → MasterDoes p (cond b (claim_pending (latched p l)) (nothing_claimed p)).state (cond b (latch_events p l ++ claim_events (latched p l)) [])
        (on_master (claim_line (cond b (claim_pending (latched p l)) (nothing_claimed p)).claim))
    go true = then (λ q. q.master) p (latched p l) _ (latch_events p l) (claim_events (latched p l)) [] _ (master_latched p l e) (master_claims (latched p l) (latched_still p l e))
    go false = record { state = refl; lines = refl }

-- ---- a restore, a read, a write

master_restore : (p : PicState) (c : PicInterruptClaim) → is_cascade p ≡ true → MasterDoes p (restore_interrupt p c).state (master_events p (call_restore_interrupt c)) []
unfolding restored
master_restore p c e = go (ltb c.irq.0 16) (place_of c.irq)
  where
    go : (b : Bool) (a : Option PicPlace)
        → MasterDoes p
        (cond b (record { state = settled (restored_at p a c.master_in_service c.slave_in_service); reply = reply.Nothing }) (refused p OutOfRange)).state
        (cond b (back_at a c.master_in_service ++ drive cascade_irq (asks (settled (restored_at p a c.master_in_service c.slave_in_service)).slave) ∷ []) [])
        []
    go true (Some (Master k)) = record { state = settled_master (restored_at p (Some (Master k)) c.master_in_service c.slave_in_service) e; lines = refl }
    go true (Some (Slave k)) = record { state = settled_master (restored_at p (Some (Slave k)) c.master_in_service c.slave_in_service) e; lines = refl }
    go true None = record { state = settled_master p e; lines = refl }
    go false a = record { state = refl; lines = refl }

driven_by : (q : PicState) → is_cascade q ≡ true → (settled q).master ≡ driven q.master 2 (asks q.slave)
driven_by q e = rw (settled_cascade q e)

master_read_lem : (p : PicState) (port width : ℕ) → is_cascade p ≡ true → MasterDoes p (handle_read p port width).state (master_events p (call_handle_read port width)) (master_served p (call_handle_read port width))
unfolding port_left
master_read_lem p port width e = go (eqb width 1) (port_at port)
  where
    at_master : (b : Bool) → MasterDoes p (cond b (settled (chips p (polled p.master) p.slave)) p) (cond b (read_poll ∷ drive_from p ∷ []) []) (cond b (shown_line (poll_shown p.master)) [])
    at_master true = record { state = driven_by (chips p (polled p.master) p.slave) e; lines = append-nil (lines_of p.master read_poll) ∙ poll_lines p.master }
    at_master false = record { state = refl; lines = refl }

    at_slave : (b : Bool) → MasterDoes p (cond b (settled (chips p p.master (polled p.slave))) p)
        (cond b (drive cascade_irq (asks (cond b (settled (chips p p.master (polled p.slave))) p).slave) ∷ []) []) []
    at_slave true = record { state = settled_master (chips p p.master (polled p.slave)) e; lines = refl }
    at_slave false = record { state = refl; lines = refl }

    at_port : (a : Port) → MasterDoes p (left_after p a) (read_events p a) (polled_line p a)
    at_port master_command = at_master (is_polled p.master)
    at_port master_data = at_master (is_polled p.master)
    at_port slave_command = at_slave (is_polled p.slave)
    at_port slave_data = at_slave (is_polled p.slave)
    at_port no_port = record { state = refl; lines = refl }

    go : (b : Bool) (a : Port)
        → MasterDoes p (cond b (record { state = left_after p a; reply = value_reply (port_read p port) }) (refused p Unsupported)).state (cond b (read_events p a) []) (cond b (polled_line p a) [])
    go true a = at_port a
    go false a = record { state = refl; lines = refl }

master_write : (p : PicState) (port width value : ℕ) → is_cascade p ≡ true → MasterDoes p (handle_write p port width value).state (master_events p (call_handle_write port width value)) []
unfolding port_written written_at
master_write p port width value e = go (eqb width 1) (port_at port)
  where
    go : (b : Bool) (a : Port)
        → MasterDoes p
        (cond b (cond (is_there a) (record { state = settled (written_to p a (value % 256)); reply = reply.Nothing }) (refused p Unsupported)) (refused p Unsupported)).state
        (cond b (write_events p a (value % 256)) [])
        []
    go true master_command = record { state = driven_by (written_to p master_command (value % 256)) e; lines = refl }
    go true master_data = record { state = driven_by (written_to p master_data (value % 256)) e; lines = refl }
    go true slave_command = record { state = driven_by (written_to p slave_command (value % 256)) e; lines = refl }
    go true slave_data = record { state = driven_by (written_to p slave_data (value % 256)) e; lines = refl }
    go true no_port = record { state = refl; lines = refl }
    go false a = record { state = refl; lines = refl }

-- ---- every call

master_does : (p : PicState) (c : Call) → is_cascade p ≡ true → MasterDoes p (outcome p c).state (master_events p c) (master_served p c)
unfolding outcome
master_does p (call_claim_irq l) e = master_irq p l e
master_does p claim_pending_interrupt e = master_claims p e
master_does p (pulse_irq l) e = master_irq p l e
master_does p next_interrupt e = master_claims p e
master_does p (call_restore_interrupt c) e = master_restore p c e
master_does p (call_handle_read port width) e = master_read_lem p port width e
master_does p (call_handle_write port width value) e = master_write p port width value e

pub master_is : MasterIs
master_is p c e = (master_does p c e).state

pub master_served_are : MasterServedAre
master_served_are p c e = (master_does p c e).lines

kept : (p : PicState) (c : Call) → is_cascade p ≡ true → is_cascade (outcome p c).state ≡ true
kept p c e = ap (λ (n : ℕ). drives (rule_in n)) (calls_keep_number p c) ∙ e

pub fair_on_master : FairOnMaster
fair_on_master = fair_along (λ p. p.master) master_events master_served (λ p. is_cascade p ≡ true) master_does kept

-- ---- the slave

settled_slave : (q : PicState) → (settled q).slave ≡ q.slave
unfolding settled
settled_slave q = go (is_cascade q)
  where
    go : (b : Bool) → (cond b (chips q (driven q.master 2 (asks q.slave)) q.slave) q).slave ≡ q.slave
    go true = refl
    go false = refl

own_slave : (j : ℕ) → on_slave ((j + 8) ∷ []) ≡ j ∷ []
own_slave j = go (ltb (j + 8) 8) refl
  where
    go : (b : Bool) → ltb (j + 8) 8 ≡ b → cond b [] ((j + 8 - 8) ∷ []) ≡ j ∷ []
    go true e = absurd (omega (arith, ltb-true (j + 8) 8 e))
    go false e = ap (λ (x : ℕ). x ∷ []) (omega arith)

no_slave : (k : ℕ) → k < 8 → [] ≡ on_slave (k ∷ [])
no_slave k h = rw (lt-ltb k 8 h)

module _ (p : PicState) where
  -- a claim of the master's line
  beside : (k : PicLine) → k.0 < 8 → SlaveDoes p (master_claim p k).state [] (on_slave (claim_line (master_claim p k).claim))
  unfolding master_claim
  beside k h = record { state = settled_slave (chips p (acknowledged p.master k.0) p.slave); lines = no_slave k.0 h }

  -- one that comes through line 2
  through : (b : Bool) → asks p.slave ≡ b
      → SlaveDoes p (claim_at p (cascade_place (cond b (Some (record { 0 = pending_line p.slave })) None))).state (slave_claims (cascade_place (cond b (Some (record { 0 = pending_line p.slave })) None)))
      (on_slave (claim_line (claim_at p (cascade_place (cond b (Some (record { 0 = pending_line p.slave })) None))).claim))
  unfolding slave_claim
  through true h =
      let k = pending_line p.slave in
      record {
        state = settled_slave (chips p (acknowledged p.master 2) (acknowledged p.slave k)) ∙ sym (ap (λ (b : Bool). cond b (acknowledged p.slave k) p.slave) h);
        lines = append-nil (lines_of p.slave acknowledge) ∙ ap (λ (b : Bool). cond b (k ∷ []) []) h ∙ sym (own_slave k);
      }
  through false h = beside cascade_irq (omega arith)

  slave_claims_lem : SlaveDoes p (claim_pending p).state (slave_claims (pending_place p)) (on_slave (claim_line (claim_pending p).claim))
  unfolding claim_pending asks pending_irq
  slave_claims_lem = go (ltb (pending_line p.master) 8) refl
    where
      at : (k : PicLine) → k.0 < 8 → (b : Bool)
          → SlaveDoes p (claim_at p (cond b (cascade_place (pending_irq p.slave)) (Some (Master k)))).state (slave_claims (cond b (cascade_place (pending_irq p.slave)) (Some (Master k))))
          (on_slave (claim_line (claim_at p (cond b (cascade_place (pending_irq p.slave)) (Some (Master k)))).claim))
      at k h true = through (ltb (pending_line p.slave) 8) refl
      at k h false = beside k h

      go : (a : Bool) → ltb (pending_line p.master) 8 ≡ a
          → SlaveDoes p (claim_at p (place_from p (cond a (Some (record { 0 = pending_line p.master })) None))).state
          (slave_claims (place_from p (cond a (Some (record { 0 = pending_line p.master })) None)))
          (on_slave (claim_line (claim_at p (place_from p (cond a (Some (record { 0 = pending_line p.master })) None))).claim))
      go true h = at (record { 0 = pending_line p.master }) (ltb-true (pending_line p.master) 8 h) (eqb (pending_line p.master) 2)
      go false h = record { state = settled_slave p; lines = refl }

slave_latched : (p : PicState) (l : PicLine) → SlaveDoes p (latched p l) (slave_edges (place_of l)) []
unfolding latched
slave_latched p l = go (place_of l)
  where
    go : (a : Option PicPlace) → SlaveDoes p (settled (latched_at p a)) (slave_edges a) []
    go (Some (Master k)) = record { state = settled_slave (latched_at p (Some (Master k))); lines = refl }
    go (Some (Slave k)) = record { state = settled_slave (latched_at p (Some (Slave k))); lines = refl }
    go None = record { state = settled_slave p; lines = refl }

slave_irq_lem : (p : PicState) (l : PicLine) → SlaveDoes p (claim_irq p l).state (slave_irq p l) (on_slave (claim_line (claim_irq p l).claim))
unfolding claim_irq
slave_irq_lem p l = go (ltb l.0 16)
  where
    go : (b : Bool) → SlaveDoes p (cond b (claim_pending (latched p l)) (nothing_claimed p)).state (cond b (slave_edges (place_of l) ++ slave_claims (pending_place (latched p l))) [])
        (on_slave (claim_line (cond b (claim_pending (latched p l)) (nothing_claimed p)).claim))
    go true = then (λ q. q.slave) p (latched p l) _ (slave_edges (place_of l)) (slave_claims (pending_place (latched p l))) [] _ (slave_latched p l) (slave_claims_lem (latched p l))
    go false = record { state = refl; lines = refl }

slave_restore : (p : PicState) (c : PicInterruptClaim) → SlaveDoes p (restore_interrupt p c).state (slave_events p (call_restore_interrupt c)) []
unfolding restored
slave_restore p c = go (ltb c.irq.0 16) (place_of c.irq)
  where
    go : (b : Bool) (a : Option PicPlace)
        → SlaveDoes p
        (cond b (record { state = settled (restored_at p a c.master_in_service c.slave_in_service); reply = reply.Nothing }) (refused p OutOfRange)).state
        (cond b (slave_back a c.slave_in_service) [])
        []
    go true (Some (Master k)) = record { state = settled_slave (restored_at p (Some (Master k)) c.master_in_service c.slave_in_service); lines = refl }
    go true (Some (Slave k)) = record { state = settled_slave (restored_at p (Some (Slave k)) c.master_in_service c.slave_in_service); lines = refl }
    go true None = record { state = settled_slave p; lines = refl }
    go false a = record { state = refl; lines = refl }

slave_read_lem : (p : PicState) (port width : ℕ) → SlaveDoes p (handle_read p port width).state (slave_events p (call_handle_read port width)) (slave_served p (call_handle_read port width))
unfolding port_left
slave_read_lem p port width = go (eqb width 1) (port_at port)
  where
    at_master : (b : Bool) → SlaveDoes p (cond b (settled (chips p (polled p.master) p.slave)) p) [] []
    at_master true = record { state = settled_slave (chips p (polled p.master) p.slave); lines = refl }
    at_master false = record { state = refl; lines = refl }

    at_slave : (b : Bool) → SlaveDoes p (cond b (settled (chips p p.master (polled p.slave))) p) (cond b (read_poll ∷ []) []) (cond b (shown_line (poll_shown p.slave)) [])
    at_slave true = record { state = settled_slave (chips p p.master (polled p.slave)); lines = append-nil (lines_of p.slave read_poll) ∙ poll_lines p.slave }
    at_slave false = record { state = refl; lines = refl }

    at_port : (a : Port) → SlaveDoes p (left_after p a) (slave_reads p a) (slave_polled p a)
    at_port master_command = at_master (is_polled p.master)
    at_port master_data = at_master (is_polled p.master)
    at_port slave_command = at_slave (is_polled p.slave)
    at_port slave_data = at_slave (is_polled p.slave)
    at_port no_port = record { state = refl; lines = refl }

    go : (b : Bool) (a : Port)
        → SlaveDoes p (cond b (record { state = left_after p a; reply = value_reply (port_read p port) }) (refused p Unsupported)).state (cond b (slave_reads p a) []) (cond b (slave_polled p a) [])
    go true a = at_port a
    go false a = record { state = refl; lines = refl }

slave_write : (p : PicState) (port width value : ℕ) → SlaveDoes p (handle_write p port width value).state (slave_events p (call_handle_write port width value)) []
unfolding port_written written_at
slave_write p port width value = go (eqb width 1) (port_at port)
  where
    go : (b : Bool) (a : Port)
        → SlaveDoes p
        (cond b (cond (is_there a) (record { state = settled (written_to p a (value % 256)); reply = reply.Nothing }) (refused p Unsupported)) (refused p Unsupported)).state
        (cond b (slave_writes a (value % 256)) [])
        []
    go true master_command = record { state = settled_slave (written_to p master_command (value % 256)); lines = refl }
    go true master_data = record { state = settled_slave (written_to p master_data (value % 256)); lines = refl }
    go true slave_command = record { state = settled_slave (written_to p slave_command (value % 256)); lines = refl }
    go true slave_data = record { state = settled_slave (written_to p slave_data (value % 256)); lines = refl }
    go true no_port = record { state = refl; lines = refl }
    go false a = record { state = refl; lines = refl }

slave_does : (p : PicState) (c : Call) → SlaveDoes p (outcome p c).state (slave_events p c) (slave_served p c)
unfolding outcome
slave_does p (call_claim_irq l) = slave_irq_lem p l
slave_does p claim_pending_interrupt = slave_claims_lem p
slave_does p (pulse_irq l) = slave_irq_lem p l
slave_does p next_interrupt = slave_claims_lem p
slave_does p (call_restore_interrupt c) = slave_restore p c
slave_does p (call_handle_read port width) = slave_read_lem p port width
slave_does p (call_handle_write port width value) = slave_write p port width value

pub slave_is : SlaveIs
slave_is p c = (slave_does p c).state

pub slave_served_are : SlaveServedAre
slave_served_are p c = (slave_does p c).lines

pub fair_on_slave : FairOnSlave
fair_on_slave p n l = fair_along (λ q. q.slave) slave_events slave_served (λ q. Unit) (λ q c i. slave_does q c) (λ q c i. i) p n l tt

-- ---- a computed run

pub nested_on_pair : NestedOnPair
unfolding asks driven pending_line pending_irq poll_shown counts first_by first_rank acknowledged polled pulsed commanded with without outside settled latched master_claim slave_claim claim_irq claim_pending port_written written_at port_left outcome
nested_on_pair = record { waits = record { full = refl; low = omega arith; asked = refl; idle = refl }; fair = refl; master = refl; slave = refl; claims = refl }

pub nested_on_slave : NestedOnSlave
unfolding asks driven pending_line pending_irq poll_shown counts first_by first_rank acknowledged polled pulsed commanded with without outside settled latched master_claim slave_claim claim_irq claim_pending port_written written_at port_left outcome
nested_on_slave = record { waits = record { full = refl; low = omega arith; asked = refl; idle = refl }; fair = refl; slave = refl; claims = refl }
