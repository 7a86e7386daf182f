-- A claim of any pair that is restored at once gives the pair back but for priorities, and settled. Assumes nothing.
use mathlib.Core.Path.{◌≡◌, refl, sym, ap, ap₂, ◌∙◌}
use mathlib.Core.Bool.{Bool, true, false, not, cond, ◌&&◌}
use Prim.Native.Nat.{ℕ, ◌+◌}
use native.Mathlib.Omega.{arith}
use lib.Dec.{ltb}
use borrow.Author.Tests.{lt-ltb}
use Rattle.std.proofs.Common.{Some}
use Rattle.utils.specs.Set.{bit, with, without, outside}
use Rattle.utils.proofs.Bools.{both}
use Rattle.utils.proofs.Laws.{with_without, without_with, with_member}
use Rattle.types.specs.declared.PicLine.{PicLine}
use Rattle.types.specs.declared.Reply.TheVariants as reply
use Rattle.types.specs.Counters.{line_vector}
use Rattle.vpic_priority.specs.Ring.{above, first_rank, first_by}
use Rattle.vpic_chip.specs.Registers.{Chip, with_request, with_in_service, with_lowest}
use Rattle.vpic_chip.specs.Chip.{Highest, cascade_irq, pulsed, driven, counts, asks, pending_line, pending_irq, acknowledged, unacknowledged}
use Rattle.vpic_chip.proofs.Laws.{counted_asked}
use Rattle.vpic.specs.Words.{PicState}
use Rattle.vpic.specs.declared.PicInterruptClaim.{PicInterruptClaim}
use Rattle.vpic.specs.Pair.{StateClaim, chips, grew, is_cascade, settled, master_claim, slave_claim, claim_pending, claim_irq, nothing_claimed, latched, restored, restore_interrupt}
use Rattle.vpic_theorems.proofs.Settled.{settled_between}
use Rattle.vpic_theorems.proofs.Restore.{grew_sets, place_low, place_high, the_claim, by_claim, below_16}
use Rattle.vpic_theorems.specs.Rotation.{with_priorities, RestoredButPriorities, RestoredAfterRaiseButPriorities, RequestTwoLost}

-- ---- one chip: acknowledged, and taken back

chip_back : (c : Chip) (k : PicLine) → Highest c k.0
    → unacknowledged (acknowledged c k.0) k (grew c (acknowledged c k.0)) ≡ with_lowest c (acknowledged c k.0).lowest_line
unfolding unacknowledged acknowledged pulsed
chip_back c k h =
    ap (unacknowledged (acknowledged c k.0) k) (grew_sets c k.0 h.low)
    ∙ go c.auto_eoi (cond (c.full && (c.auto_eoi && c.auto_rotation)) k.0 c.lowest_line) (bit c.in_service k.0) refl
  where
    asked : bit c.request k.0 ≡ true
    asked = counted_asked c k.0 h.counted

    go : (b : Bool) (l : ℕ) (d : Bool) → bit c.in_service k.0 ≡ d
        → unacknowledged (with_lowest (with_in_service (with_request c (without c.request k.0)) (cond b c.in_service (with c.in_service k.0))) l) k (not b && not d)
        ≡ with_lowest c l
    go true l d e = rw (lt-ltb k.0 8 h.low, with_without c.request k.0 asked)
    go false l true e = rw (lt-ltb k.0 8 h.low, with_without c.request k.0 asked, with_member c.in_service k.0 e)
    go false l false e = rw (lt-ltb k.0 8 h.low, with_without c.request k.0 asked, without_with c.in_service k.0 e)

-- ---- the pair: a claim of the master's line, and of the slave's

-- settling changes no priorities
settled_master : (q : PicState) → (settled q).master.lowest_line ≡ q.master.lowest_line
unfolding settled driven
settled_master q = both (λ (x : PicState). x.master.lowest_line ≡ q.master.lowest_line) (is_cascade q) _ _ refl refl

settled_slave : (q : PicState) → (settled q).slave ≡ q.slave
unfolding settled
settled_slave q = both (λ (x : PicState). x.slave ≡ q.slave) (is_cascade q) _ _ refl refl

-- what a restored claim leaves
abbrev Back : PicState → StateClaim → PicInterruptClaim → Type 0
Back p r c = restored r.state c ≡ settled (with_priorities p r.state)

master_back : (p : PicState) (k : PicLine) (c : PicInterruptClaim) → Highest p.master k.0 → (master_claim p k).claim ≡ Some c → Back p (master_claim p k) c
unfolding master_claim restored the_claim
master_back p k c h e =
    let q = chips p (acknowledged p.master k.0) p.slave in
    let f : c ≡ the_claim p q (line_vector p.master.vector_base k) k = cc in
    rw (f, place_low k h.low)
    (settled_between q k (grew p.master q.master) (λ s. s) h.low
    ∙ ap₂ (λ (m s : Chip). settled (chips p m s)) (chip_back p.master k h ∙ ap (with_lowest p.master) (sym (settled_master q)))
    (ap (λ (s : Chip). with_lowest p.slave s.lowest_line) (sym (settled_slave q))))

slave_back_lem : (p : PicState) (k : PicLine) (c : PicInterruptClaim) → Highest p.master cascade_irq.0 → Highest p.slave k.0 → (slave_claim p k).claim ≡ Some c → Back p (slave_claim p k) c
unfolding slave_claim restored the_claim
slave_back_lem p k c m h e =
    let q = chips p (acknowledged p.master cascade_irq.0) (acknowledged p.slave k.0) in
    let f : c ≡ the_claim p q (line_vector p.slave.vector_base k) (record { 0 = k.0 + 8 }) = cc in
    rw (f, place_high k h.low)
    (settled_between q cascade_irq (grew p.master q.master) (λ s. unacknowledged s k (grew p.slave q.slave)) m.low
    ∙ ap₂ (λ (a b : Chip). settled (chips p a b)) (chip_back p.master cascade_irq m ∙ ap (with_lowest p.master) (sym (settled_master q)))
    (chip_back p.slave k h ∙ ap (λ (s : Chip). with_lowest p.slave s.lowest_line) (sym (settled_slave q))))

pub restored_but_priorities : RestoredButPriorities
restored_but_priorities p c e =
    rw (lt-ltb c.irq.0 16 (below_16 p c e)) (rw (by_claim (Back p) p (λ k d h f. master_back p k d h f) (λ k d m h f. slave_back_lem p k d m h f) c e))

pub restored_after_raise_but_priorities : RestoredAfterRaiseButPriorities
unfolding claim_irq
restored_after_raise_but_priorities p l c e = go (ltb l.0 16) e
  where
    go : (b : Bool) → (cond b (claim_pending (latched p l)) (nothing_claimed p)).claim ≡ Some c
        → restore_interrupt (cond b (claim_pending (latched p l)) (nothing_claimed p)).state c
        ≡ record { state = settled (with_priorities (latched p l) (cond b (claim_pending (latched p l)) (nothing_claimed p)).state); reply = reply.Nothing }
    go true f = restored_but_priorities (latched p l) c f
    go false f = let z : ◌≡◌ {A = ℕ} 0 1 = cc in absurd (omega arith)

pub request_two_lost : RequestTwoLost
unfolding pulsed asks driven counts pending_line pending_irq acknowledged unacknowledged settled master_claim slave_claim claim_pending restored with without outside first_rank first_by above
request_two_lost = record { claim = refl; before = refl; after = refl; slave = refl }
