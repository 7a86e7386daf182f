-- No call changes the rule's number, a chip's profile, nor what stands for nothing. Assumes nothing.
use Rattle.std.proofs.Common.{Option, Some, None}
use mathlib.Core.Path.{◌≡◌, refl, sym, ap, ◌∙◌}
use mathlib.Core.Bool.{Bool, true, false, cond}
use Prim.Native.Nat.{ℕ, ◌/◌, ◌%◌, ◌^◌}
use native.Mathlib.Omega.{arith}
use lib.Dec.{ltb, eqb}
use lib.ListN.{get_or}
use Rattle.utils.specs.Set.{bit}
use Rattle.utils.proofs.Bools.{both}
use Rattle.types.specs.declared.PicLine.{PicLine}
use Rattle.types.specs.declared.PicPlace.{PicPlace}
use Rattle.types.specs.declared.PicPlace.TheVariants.{Master, Slave}
use Rattle.types.specs.Counters.{place_of}
use Rattle.types.specs.Reply.{Outcome}
use Rattle.vpic_chip.specs.Registers.{Chip, with_poll, chip_in, full_in, placed}
use Rattle.vpic_chip.specs.Chip.{cascade_irq, first_of, blocks, asks, is_polled, polled, commanded, fed, pulsed, driven, acknowledged, unacknowledged}
use Rattle.vpic.specs.Words.{PicState, chip_by, view}
use Rattle.vpic.specs.Pair.{StateClaim, is_cascade, settled, latched_at, latched, master_claim, slave_claim, pending_place, claim_at, claim_pending, claim_irq, restored_at, restored, Port, master_command, master_data, slave_command, slave_data, no_port, port_at, is_port, master_read, slave_read, left_after, port_left, written_to, written_at, port_written}
use Rattle.vpic_theorems.specs.Statements.{Call, call_claim_irq, claim_pending_interrupt, pulse_irq, next_interrupt, call_restore_interrupt, call_handle_read, call_handle_write, outcome, spare_from, CallsKeepRest}

-- ---- one chip

-- what stands for nothing, and the profile
abbrev pub Same : Chip → Chip → Type 0
Same c d = (d.spare ≡ c.spare) × (d.full ≡ c.full)

commanded_same : (c : Chip) (v : ℕ) → Same c (commanded c v)
unfolding commanded
commanded_same c v =
    both (Same c) (bit v 4) _ _ (refl, refl)
    (both (Same c) (bit v 3) _ _ (both (Same c) c.full _ _ (refl, refl) (refl, refl))
    (both (Same c) (bit v 5) _ _ (both (Same c) (bit v 6) _ _ (refl, refl) (both (Same c) (ltb (first_of c (blocks c)) 8) _ _ (refl, refl) (refl, refl))) (both (Same c) (bit v 6) _ _ (refl, refl) (refl, refl))))

fed_same : (c : Chip) (v : ℕ) → Same c (fed c v)
unfolding fed
fed_same c v = both (Same c) (eqb c.init_step 1) _ _ (refl, refl) (both (Same c) (eqb c.init_step 2) _ _ (refl, refl) (both (Same c) (eqb c.init_step 3) _ _ (refl, refl) (refl, refl)))

polled_same : (c : Chip) → Same c (polled c)
unfolding polled acknowledged
polled_same c = both (λ (d : Chip). Same c (with_poll d false)) (asks c) _ _ (refl, refl) (refl, refl)

pulsed_same : (c : Chip) (l : PicLine) → Same c (pulsed c l)
unfolding pulsed
pulsed_same c l = both (Same c) (ltb l.0 8) _ _ (refl, refl) (refl, refl)

unacknowledged_same : (c : Chip) (l : PicLine) (f : Bool) → Same c (unacknowledged c l f)
unfolding unacknowledged
unacknowledged_same c l f = both (Same c) f _ _ (both (Same c) (ltb l.0 8) _ _ (pulsed_same c l) (pulsed_same c l)) (pulsed_same c l)

-- ---- the pair

pub record Stays (p q : PicState) : Type 0 where
  pub rule : q.rule ≡ p.rule
  pub spare : q.spare ≡ p.spare
  pub master : Same p.master q.master
  pub slave : Same p.slave q.slave

same : (p : PicState) → Stays p p
same p = record { rule = refl; spare = refl; master = (refl, refl); slave = (refl, refl) }

then : (p q r : PicState) → Stays p q → Stays q r → Stays p r
then p q r h k = record { rule = k.rule ∙ h.rule; spare = k.spare ∙ h.spare; master = (k.master.0 ∙ h.master.0, k.master.1 ∙ h.master.1); slave = (k.slave.0 ∙ h.slave.0, k.slave.1 ∙ h.slave.1) }

settled_stays : (p q : PicState) → Stays p q → Stays p (settled q)
unfolding settled driven
settled_stays p q h = both (Stays p) (is_cascade q) _ _ (record { rule = h.rule; spare = h.spare; master = h.master; slave = h.slave }) h

claim_stays : (p : PicState) → Stays p (claim_pending p).state
unfolding claim_pending master_claim slave_claim acknowledged
claim_stays p = go (pending_place p)
  where
    go : (a : Option PicPlace) → Stays p (claim_at p a).state
    go (Some (Master k)) = settled_stays p _ (record { rule = refl; spare = refl; master = (refl, refl); slave = (refl, refl) })
    go (Some (Slave k)) = settled_stays p _ (record { rule = refl; spare = refl; master = (refl, refl); slave = (refl, refl) })
    go None = settled_stays p p (same p)

latched_stays : (p : PicState) (a : Option PicPlace) → Stays p (latched_at p a)
latched_stays p (Some (Master k)) = record { rule = refl; spare = refl; master = pulsed_same p.master k; slave = (refl, refl) }
latched_stays p (Some (Slave k)) = record { rule = refl; spare = refl; master = pulsed_same p.master cascade_irq; slave = pulsed_same p.slave k }
latched_stays p None = same p

raise_stays : (p : PicState) (l : PicLine) → Stays p (claim_irq p l).state
unfolding claim_irq latched
raise_stays p l =
    both (λ (r : StateClaim). Stays p r.state) (ltb l.0 16) _ _
    (then p (latched p l) _ (settled_stays p _ (latched_stays p (place_of l))) (claim_stays (latched p l)))
    (same p)

restored_stays : (p : PicState) (a : Option PicPlace) (m s : Bool) → Stays p (restored_at p a m s)
restored_stays p (Some (Master k)) m s = record { rule = refl; spare = refl; master = unacknowledged_same p.master k m; slave = (refl, refl) }
restored_stays p (Some (Slave k)) m s = record { rule = refl; spare = refl; master = unacknowledged_same p.master cascade_irq m; slave = unacknowledged_same p.slave k s }
restored_stays p None m s = same p

written_stays : (p : PicState) (port byte : ℕ) → Stays p (written_at p port byte)
unfolding written_at
written_stays p port byte = go (port_at port)
  where
    go : (a : Port) → Stays p (written_to p a byte)
    go master_command = record { rule = refl; spare = refl; master = commanded_same p.master byte; slave = (refl, refl) }
    go master_data = record { rule = refl; spare = refl; master = fed_same p.master byte; slave = (refl, refl) }
    go slave_command = record { rule = refl; spare = refl; master = (refl, refl); slave = commanded_same p.slave byte }
    go slave_data = record { rule = refl; spare = refl; master = (refl, refl); slave = fed_same p.slave byte }
    go no_port = same p

left_stays : (p : PicState) (port : ℕ) → Stays p (port_left p port)
unfolding port_left
left_stays p port = go (port_at port)
  where
    of_master : Stays p (master_read p)
    of_master = both (Stays p) (is_polled p.master) _ _ (settled_stays p _ (record { rule = refl; spare = refl; master = polled_same p.master; slave = (refl, refl) })) (same p)

    of_slave : Stays p (slave_read p)
    of_slave = both (Stays p) (is_polled p.slave) _ _ (settled_stays p _ (record { rule = refl; spare = refl; master = (refl, refl); slave = polled_same p.slave })) (same p)

    go : (a : Port) → Stays p (left_after p a)
    go master_command = of_master
    go master_data = of_master
    go slave_command = of_slave
    go slave_data = of_slave
    go no_port = same p

abbrev Leaves : PicState → Outcome PicState → Type 0
Leaves p o = Stays p o.state

pub calls_kept : (p : PicState) (c : Call) → Stays p (outcome p c).state
unfolding outcome restored port_written
calls_kept p (call_claim_irq l) = raise_stays p l
calls_kept p claim_pending_interrupt = claim_stays p
calls_kept p (pulse_irq l) = raise_stays p l
calls_kept p next_interrupt = claim_stays p
calls_kept p (call_restore_interrupt c) = both (Leaves p) (ltb c.irq.0 16) _ _ (settled_stays p _ (restored_stays p (place_of c.irq) c.master_in_service c.slave_in_service)) (same p)
calls_kept p (call_handle_read port width) = both (Leaves p) (eqb width 1) _ _ (left_stays p port) (same p)
calls_kept p (call_handle_write port width value) =
    both (Leaves p) (eqb width 1) _ _ (both (Leaves p) (is_port port) _ _ (settled_stays p _ (written_stays p port (value % 256))) (same p)) (same p)

-- where the words of a chip begin to stand for nothing
left_is : (place : Bool) (rule v w : ℕ) → (chip_by place rule v).spare ≡ (chip_by place rule w).spare → v / 2 ^ spare_from rule ≡ w / 2 ^ spare_from rule
unfolding chip_in
left_is place rule v w = go (eqb rule 2)
  where
    go : (b : Bool) → (cond b (placed place (full_in v)) (chip_in v)).spare ≡ (cond b (placed place (full_in w)) (chip_in w)).spare → v / 2 ^ cond b 51 44 ≡ w / 2 ^ cond b 51 44
    go true q = omega arith
    go false q = q

pub calls_keep_rest : CallsKeepRest
unfolding view
calls_keep_rest l m c e =
    let h = calls_kept (view l) c in
    let r : get_or m 2 0 ≡ get_or l 2 0 = ap (λ (p : PicState). p.rule) e ∙ h.rule in
    record {
      master = left_is true (get_or l 2 0) (get_or m 0 0) (get_or l 0 0) (ap (λ (n : ℕ). (chip_by true n (get_or m 0 0)).spare) (sym r) ∙ ap (λ (p : PicState). p.master.spare) e ∙ h.master.0);
      slave = left_is false (get_or l 2 0) (get_or m 1 0) (get_or l 1 0) (ap (λ (n : ℕ). (chip_by false n (get_or m 1 0)).spare) (sym r) ∙ ap (λ (p : PicState). p.slave.spare) e ∙ h.slave.0);
      rule = r;
      last = ap (λ (p : PicState). p.spare) e ∙ h.spare;
    }
