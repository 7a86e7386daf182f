-- Every call of the pair keeps its rules. Assumes nothing.
use Rattle.std.proofs.Common.{Option, Some, None}
use mathlib.Core.Path.{◌≡◌, refl, sym, ◌∙◌, ap}
use mathlib.Core.Bool.{Bool, true, false, cond, ◌&&◌, true≢false}
use Prim.Native.Nat.{ℕ, ◌%◌, ◌<◌}
use native.Mathlib.Omega.{arith}
use lib.Dec.{ltb, eqb}
use borrow.Author.Tests.{ltb-true}
use Rattle.utils.specs.Set.{bit, without, with}
use Rattle.utils.proofs.Bools.{both, either}
use Rattle.types.specs.declared.PicLine.{PicLine}
use Rattle.types.specs.declared.PicPlace.{PicPlace}
use Rattle.types.specs.declared.PicPlace.TheVariants.{Master, Slave}
use Rattle.types.specs.Counters.{place_of}
use Rattle.types.specs.Reply.{Outcome}
use Rattle.vpic_chip.specs.Registers.{Chip, with_request, with_in_service}
use Rattle.vpic_chip.specs.Chip.{turned, cascade_irq, first_of, blocks, icw1, full_ocw3, ocw3, specific_eoi, non_specific_eoi, auto_rotated, ocw2, commanded, icw2, icw3, icw4, fed, pulsed, pending_line, pending_irq, asks, driven, acknowledged, unacknowledged, is_polled, polled, opened}
use Rattle.vpic.specs.declared.PicRule.{PicRule}
use Rattle.vpic.specs.declared.PicRule.TheVariants.{Latch, Cascade, Full}
use Rattle.vpic.specs.Words.{PicState}
use Rattle.vpic.specs.Pair.{StateClaim, new_state, is_rule, is_cascade, settled, latched_at, latched, master_claim, slave_claim, cascade_place, place_from, pending_place, claim_at, claim_pending, claim_irq, restored_at, restored, Port, master_command, master_data, slave_command, slave_data, no_port, port_at, is_port, master_read, slave_read, left_after, port_left, written_to, written_at, port_written}
use Rattle.vpic_theorems.specs.Statements.{Call, call_claim_irq, claim_pending_interrupt, pulse_irq, next_interrupt, call_restore_interrupt, call_handle_read, call_handle_write, outcome}
use Rattle.vpic_theorems.proofs.Kept.{calls_kept}
use Rattle.vpic_theorems.proofs.Rule.{new_keeps, calls_keep}
use Rattle.image_state_theorems.specs.Rules.{PicRules}
use Rattle.image_state_theorems.specs.Made.{NewPairKeeps, PairCallsKeep}

-- ---- one chip: its rules, in one product

abbrev Ruled : Chip → Type 0
Ruled c = (c.vector_base % 8 ≡ 0) × (c.init_step < 4) × (c.lowest_line < 8) × (c.spare ≡ 0)
    × (c.full ≡ false → (c.lowest_line ≡ 7) × (c.auto_rotation ≡ false) × (c.special_mask ≡ false) × (c.poll ≡ false) × (c.nested ≡ false))

ruled : (c : Chip) → PicRules c → Ruled c
ruled c r = (r.base, r.step, r.lowest, r.spare, λ e. ((r.plain e).lowest, (r.plain e).rotation, (r.plain e).special, (r.plain e).poll, (r.plain e).nested))

rules : (c : Chip) → Ruled c → PicRules c
rules c k = record { base = k.0; step = k.1; lowest = k.2; spare = k.3; plain = λ e. let p = k.4 e in record { lowest = p.0; rotation = p.1; special = p.2; poll = p.3; nested = p.4 } }

turned_ruled : (c : Chip) (rotates : Bool) (j : ℕ) → j < 8 → Ruled c → Ruled (turned c rotates j)
turned_ruled c rotates j l k = (
  k.0,
  k.1,
  both (λ (n : ℕ). n < 8) (c.full && rotates) j c.lowest_line l k.2,
  k.3,
  λ e. (rw e (k.4 e).0, (k.4 e).1, (k.4 e).2, (k.4 e).3, (k.4 e).4),
)

commanded_ruled : (c : Chip) (v : ℕ) → Ruled c → Ruled (commanded c v)
unfolding commanded
commanded_ruled c v k =
    both Ruled (bit v 4) (icw1 c v) _ (k.0, omega arith, omega arith, k.3, λ e. (refl, refl, refl, refl, refl))
    (both Ruled (bit v 3) (ocw3 c v) (ocw2 c v) of_ocw3 of_ocw2)
  where
    of_ocw3 : Ruled (ocw3 c v)
    of_ocw3 = either Ruled c.full (full_ocw3 c v) _ (λ f. (k.0, k.1, k.2, k.3, λ e. absurd (true≢false (sym f ∙ e)))) (λ f. k)

    of_plain : Ruled (non_specific_eoi c (bit v 7))
    of_plain = either Ruled (ltb (first_of c (blocks c)) 8) (turned (specific_eoi c (first_of c (blocks c))) (bit v 7) (first_of c (blocks c))) c
        (λ t. turned_ruled (specific_eoi c (first_of c (blocks c))) (bit v 7) (first_of c (blocks c)) (ltb-true (first_of c (blocks c)) 8 t) k) (λ t. k)

    of_auto : Ruled (auto_rotated c (bit v 7))
    of_auto = (k.0, k.1, k.2, k.3, λ e. ((k.4 e).0, rw e (k.4 e).1, (k.4 e).2, (k.4 e).3, (k.4 e).4))

    of_ocw2 : Ruled (ocw2 c v)
    of_ocw2 =
        both Ruled (bit v 5) _ _
        (both Ruled (bit v 6) (turned (specific_eoi c (v % 8)) (bit v 7) (v % 8)) (non_specific_eoi c (bit v 7)) (turned_ruled (specific_eoi c (v % 8)) (bit v 7) (v % 8) (omega arith) k) of_plain)
        (both Ruled (bit v 6) (turned c (bit v 7) (v % 8)) (auto_rotated c (bit v 7)) (turned_ruled c (bit v 7) (v % 8) (omega arith) k) of_auto)

fed_ruled : (c : Chip) (v : ℕ) → Ruled c → Ruled (fed c v)
unfolding fed
fed_ruled c v k =
    both Ruled (eqb c.init_step 1) (icw2 c v) _ (omega arith, both (λ (n : ℕ). n < 4) c.single (cond c.needs_icw4 3 0) 2 after (omega arith), k.2, k.3, k.4)
    (both Ruled (eqb c.init_step 2) (icw3 c) _ (k.0, after, k.2, k.3, k.4)
    (both Ruled (eqb c.init_step 3) (icw4 c v) _ (k.0, omega arith, k.2, k.3, λ e. ((k.4 e).0, (k.4 e).1, (k.4 e).2, (k.4 e).3, rw e (k.4 e).4))
    k))
  where
    after : cond c.needs_icw4 3 0 < 4
    after = both (λ (n : ℕ). n < 4) c.needs_icw4 3 0 (omega arith) (omega arith)

pulsed_ruled : (c : Chip) (l : PicLine) → Ruled c → Ruled (pulsed c l)
unfolding pulsed
pulsed_ruled c l k = both Ruled (ltb l.0 8) _ _ k k

acknowledged_ruled : (c : Chip) (j : ℕ) → j < 8 → Ruled c → Ruled (acknowledged c j)
unfolding acknowledged
acknowledged_ruled c j l k = turned_ruled (with_in_service (with_request c (without c.request j)) (cond c.auto_eoi c.in_service (with c.in_service j))) (c.auto_eoi && c.auto_rotation) j l k

unacknowledged_ruled : (c : Chip) (l : PicLine) (f : Bool) → Ruled c → Ruled (unacknowledged c l f)
unfolding unacknowledged
unacknowledged_ruled c l f k = both Ruled f _ _ (both Ruled (ltb l.0 8) _ _ (pulsed_ruled c l k) (pulsed_ruled c l k)) (pulsed_ruled c l k)

polled_ruled : (c : Chip) → Ruled c → Ruled (polled c)
unfolding polled asks
polled_ruled c k =
    let d : Ruled (cond (ltb (pending_line c) 8) (acknowledged c (pending_line c)) c) = either Ruled (ltb (pending_line c) 8) (acknowledged c (pending_line c)) c (λ t. acknowledged_ruled c (pending_line c) (ltb-true (pending_line c) 8 t) k) (λ t. k) in
    (d.0, d.1, d.2, d.3, λ e. ((d.4 e).0, (d.4 e).1, (d.4 e).2, refl, (d.4 e).4))

-- ---- both chips

abbrev Both : PicState → Type 0
Both p = Ruled p.master × Ruled p.slave

settled_both : (p : PicState) → Both p → Both (settled p)
unfolding settled driven
settled_both p k = both Both (is_cascade p) _ _ k k

latched_both : (p : PicState) (a : Option PicPlace) → Both p → Both (latched_at p a)
latched_both p (Some (Master j)) k = (pulsed_ruled p.master j k.0, k.1)
latched_both p (Some (Slave j)) k = (pulsed_ruled p.master cascade_irq k.0, pulsed_ruled p.slave j k.1)
latched_both p None k = k

-- what answers is a line of its chip
LowIrq : Option PicLine → Type 0
LowIrq (Some l) = l.0 < 8
LowIrq None = Unit

Low : Option PicPlace → Type 0
Low (Some (Master l)) = l.0 < 8
Low (Some (Slave l)) = l.0 < 8
Low None = Unit

pending_low : (c : Chip) → LowIrq (pending_irq c)
unfolding pending_irq LowIrq
pending_low c = either LowIrq (ltb (pending_line c) 8) (Some (record { 0 = pending_line c })) None (λ t. ltb-true (pending_line c) 8 t) (λ t. tt)

cascade_low : (i : Option PicLine) → LowIrq i → Low (cascade_place i)
unfolding LowIrq Low
cascade_low (Some l) h = h
cascade_low None h = omega arith

from_low : (p : PicState) (i : Option PicLine) → LowIrq i → Low (place_from p i)
unfolding LowIrq Low
from_low p (Some l) h = both Low (eqb l.0 2) (cascade_place (pending_irq p.slave)) (Some (Master l)) (cascade_low (pending_irq p.slave) (pending_low p.slave)) h
from_low p None h = tt

claim_both : (p : PicState) (a : Option PicPlace) → Low a → Both p → Both (claim_at p a).state
unfolding master_claim slave_claim Low
claim_both p (Some (Master l)) h k = settled_both _ (acknowledged_ruled p.master l.0 h k.0, k.1)
claim_both p (Some (Slave l)) h k = settled_both _ (acknowledged_ruled p.master 2 (omega arith) k.0, acknowledged_ruled p.slave l.0 h k.1)
claim_both p None h k = settled_both p k

pending_both : (p : PicState) → Both p → Both (claim_pending p).state
unfolding claim_pending
pending_both p k = claim_both p (pending_place p) (from_low p (pending_irq p.master) (pending_low p.master)) k

raise_both : (p : PicState) (l : PicLine) → Both p → Both (claim_irq p l).state
unfolding claim_irq latched
raise_both p l k = both (λ (r : StateClaim). Both r.state) (ltb l.0 16) _ _ (pending_both (latched p l) (settled_both _ (latched_both p (place_of l) k))) k

restored_both : (p : PicState) (a : Option PicPlace) (m s : Bool) → Both p → Both (restored_at p a m s)
restored_both p (Some (Master j)) m s k = (unacknowledged_ruled p.master j m k.0, k.1)
restored_both p (Some (Slave j)) m s k = (unacknowledged_ruled p.master cascade_irq m k.0, unacknowledged_ruled p.slave j s k.1)
restored_both p None m s k = k

written_both : (p : PicState) (port byte : ℕ) → Both p → Both (written_at p port byte)
unfolding written_at
written_both p port byte k = go (port_at port)
  where
    go : (a : Port) → Both (written_to p a byte)
    go master_command = (commanded_ruled p.master byte k.0, k.1)
    go master_data = (fed_ruled p.master byte k.0, k.1)
    go slave_command = (k.0, commanded_ruled p.slave byte k.1)
    go slave_data = (k.0, fed_ruled p.slave byte k.1)
    go no_port = k

left_both : (p : PicState) (port : ℕ) → Both p → Both (port_left p port)
unfolding port_left
left_both p port k = go (port_at port)
  where
    of_master : Both (master_read p)
    of_master = both Both (is_polled p.master) _ _ (settled_both _ (polled_ruled p.master k.0, k.1)) k

    of_slave : Both (slave_read p)
    of_slave = both Both (is_polled p.slave) _ _ (settled_both _ (k.0, polled_ruled p.slave k.1)) k

    go : (a : Port) → Both (left_after p a)
    go master_command = of_master
    go master_data = of_master
    go slave_command = of_slave
    go slave_data = of_slave
    go no_port = k

abbrev Leaves : Outcome PicState → Type 0
Leaves o = Both o.state

calls_both : (p : PicState) (c : Call) → Both p → Both (outcome p c).state
unfolding outcome restored port_written
calls_both p (call_claim_irq l) k = raise_both p l k
calls_both p claim_pending_interrupt k = pending_both p k
calls_both p (pulse_irq l) k = raise_both p l k
calls_both p next_interrupt k = pending_both p k
calls_both p (call_restore_interrupt c) k = both Leaves (ltb c.irq.0 16) _ _ (settled_both _ (restored_both p (place_of c.irq) c.master_in_service c.slave_in_service k)) k
calls_both p (call_handle_read port width) k = both Leaves (eqb width 1) _ _ (left_both p port k) k
calls_both p (call_handle_write port width value) k =
    both Leaves (eqb width 1) _ _ (both Leaves (is_port port) _ _ (settled_both _ (written_both p port (value % 256) k)) k) k

pub pair_calls_keep : PairCallsKeep
pair_calls_keep p c r =
    let k = calls_kept p c in
    let b = calls_both p c (ruled p.master r.master, ruled p.slave r.slave) in
    record {
      rule = ap is_rule k.rule ∙ r.rule;
      master = rules (outcome p c).state.master b.0;
      slave = rules (outcome p c).state.slave b.1;
      cascade = calls_keep p c r.cascade;
      spare = k.spare ∙ r.spare;
    }

pub new_pair_keeps : NewPairKeeps
unfolding new_state opened
new_pair_keeps rule = record { rule = of_rule_lem rule; master = of_master rule; slave = of_slave rule; cascade = new_keeps rule; spare = of_spare rule }
  where
    of_rule_lem : (rule : PicRule) → is_rule (new_state rule).rule ≡ true
    of_rule_lem Latch = refl
    of_rule_lem Cascade = refl
    of_rule_lem Full = refl

    of_spare : (rule : PicRule) → (new_state rule).spare ≡ 0
    of_spare rule = refl

    of_master : (rule : PicRule) → PicRules (new_state rule).master
    of_master Latch = record { base = refl; step = omega arith; lowest = omega arith; spare = refl; plain = λ e. record { lowest = refl; rotation = refl; special = refl; poll = refl; nested = refl } }
    of_master Cascade = record { base = refl; step = omega arith; lowest = omega arith; spare = refl; plain = λ e. record { lowest = refl; rotation = refl; special = refl; poll = refl; nested = refl } }
    of_master Full = record { base = refl; step = omega arith; lowest = omega arith; spare = refl; plain = λ e. absurd (true≢false e) }

    of_slave : (rule : PicRule) → PicRules (new_state rule).slave
    of_slave Latch = record { base = refl; step = omega arith; lowest = omega arith; spare = refl; plain = λ e. record { lowest = refl; rotation = refl; special = refl; poll = refl; nested = refl } }
    of_slave Cascade = record { base = refl; step = omega arith; lowest = omega arith; spare = refl; plain = λ e. record { lowest = refl; rotation = refl; special = refl; poll = refl; nested = refl } }
    of_slave Full = record { base = refl; step = omega arith; lowest = omega arith; spare = refl; plain = λ e. absurd (true≢false e) }
