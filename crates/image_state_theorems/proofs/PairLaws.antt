-- The same of the pair. Assumes nothing.
use mathlib.Core.Path.{◌≡◌, refl}
use mathlib.Core.Bool.{Bool, true, false, cond, ◌&&◌, true≢false}
use mathlib.Core.List.{List}
use Prim.Native.Nat.{ℕ, ◌%◌}
use native.Mathlib.Omega.{arith}
use lib.Dec.{ltb, eqb}
use lib.ListN.{get_or}
use borrow.Author.Tests.{eqb-true, ltb-true, eq-eqb, lt-ltb}
use Rattle.utils.specs.Cases.{and_yes}
use Rattle.utils.specs.Set.{bit}
use Rattle.utils.proofs.Bools.{either, and_true}
use Rattle.vpic_chip.specs.Registers.{Chip, chip_in, full_in, placed}
use Rattle.vpic_chip.specs.Chip.{cascade_irq, asks}
use Rattle.vpic.specs.Words.{PicState, chip_by, view}
use Rattle.vpic.specs.Pair.{is_rule, is_cascade}
use Rattle.image_rules.specs.Rules.{same, chip_keeps, cascade_keeps, keeps_pair}
use Rattle.image_state_theorems.specs.Rules.{PicRules, PairRules}
use Rattle.image_state_theorems.proofs.Laws.{same_is, is_same}

abbrev chip_at : Bool → ℕ → Bool → Chip
chip_at place w full = cond full (placed place (full_in w)) (chip_in w)

chip_by_lem : (place : Bool) (w : ℕ) (b : Bool) → chip_keeps (chip_at place w b) ≡ true → PicRules (chip_at place w b)
unfolding chip_in
chip_by_lem place w true h =
    let a = and_true (eqb ((chip_at place w true).vector_base % 8) 0) (ltb (chip_at place w true).init_step 4 && eqb (chip_at place w true).spare 0) h in
    let c = and_true (ltb (chip_at place w true).init_step 4) (eqb (chip_at place w true).spare 0) a.1 in
    record { base = eqb-true _ _ a.0; step = ltb-true _ _ c.0; lowest = omega arith; spare = eqb-true _ _ c.1; plain = λ e. absurd (true≢false e) }
chip_by_lem place w false h =
    let a = and_true (eqb ((chip_at place w false).vector_base % 8) 0) (ltb (chip_at place w false).init_step 4 && eqb (chip_at place w false).spare 0) h in
    let c = and_true (ltb (chip_at place w false).init_step 4) (eqb (chip_at place w false).spare 0) a.1 in
    record { base = eqb-true _ _ a.0; step = ltb-true _ _ c.0; lowest = omega arith; spare = eqb-true _ _ c.1; plain = λ e. record { lowest = refl; rotation = refl; special = refl; poll = refl; nested = refl } }

chip_rules : (place : Bool) (rule w : ℕ) → chip_keeps (chip_by place rule w) ≡ true → PicRules (chip_by place rule w)
chip_rules place rule w = chip_by_lem place w (eqb rule 2)

chip_kept : (c : Chip) → PicRules c → chip_keeps c ≡ true
chip_kept c r = and_yes (eqb (c.vector_base % 8) 0) (ltb c.init_step 4 && eqb c.spare 0) (eq-eqb _ _ r.base) (and_yes (ltb c.init_step 4) (eqb c.spare 0) (lt-ltb _ _ r.step) (eq-eqb _ _ r.spare))

pub pair_rules : (l : List ℕ) → keeps_pair (view l) ≡ true → PairRules (view l)
unfolding keeps_pair view
pair_rules l h =
    let p : PicState = view l in
    let a = and_true (is_rule p.rule) (eqb p.spare 0 && (chip_keeps p.master && (chip_keeps p.slave && cascade_keeps p))) h in
    let b = and_true (eqb p.spare 0) (chip_keeps p.master && (chip_keeps p.slave && cascade_keeps p)) a.1 in
    let c = and_true (chip_keeps p.master) (chip_keeps p.slave && cascade_keeps p) b.1 in
    let d = and_true (chip_keeps p.slave) (cascade_keeps p) c.1 in
    record {
      rule = a.0;
      master = chip_rules true (get_or l 2 0) (get_or l 0 0) c.0;
      slave = chip_rules false (get_or l 2 0) (get_or l 1 0) d.0;
      cascade = λ e. same_is (bit p.master.request cascade_irq.0) (asks p.slave) (rw e at d.1);
      spare = eqb-true _ _ b.0;
    }

pub pair_kept : (p : PicState) → PairRules p → keeps_pair p ≡ true
unfolding keeps_pair
pair_kept p r =
    and_yes (is_rule p.rule) (eqb p.spare 0 && (chip_keeps p.master && (chip_keeps p.slave && cascade_keeps p))) r.rule
    (and_yes (eqb p.spare 0) (chip_keeps p.master && (chip_keeps p.slave && cascade_keeps p)) (eq-eqb _ _ r.spare)
    (and_yes (chip_keeps p.master) (chip_keeps p.slave && cascade_keeps p) (chip_kept p.master r.master)
    (and_yes (chip_keeps p.slave) (cascade_keeps p) (chip_kept p.slave r.slave)
    (either (λ (b : Bool). b ≡ true) (is_cascade p) (same (bit p.master.request cascade_irq.0) (asks p.slave)) true (λ e. is_same (bit p.master.request cascade_irq.0) (asks p.slave) (r.cascade e)) (λ e. refl)))))
