-- Laws of a settled pair: settling leaves the rule kept, and changes nothing where it is. Assumes nothing.
use Rattle.std.proofs.Common.{Some, Option, None}
use mathlib.Core.Path.{◌≡◌, refl, sym, ap, ◌∙◌}
use mathlib.Core.Bool.{Bool, true, false, cond}
use Prim.Native.Nat.{ℕ}
use native.Mathlib.Omega.{arith}
use lib.Dec.{eqb, ltb}
use borrow.Author.Tests.{eqb-true, eqb-false}
use Rattle.utils.specs.Set.{bit, with, without}
use Rattle.utils.proofs.Laws.{bit_with_same, bit_without_same, bit_without_other, with_member, without_member}
use Rattle.types.specs.declared.PicLine.{PicLine}
use Rattle.types.specs.declared.PicPlace.TheVariants.{Master, Slave}
use Rattle.vpic_chip.specs.Registers.{Chip, with_request}
use Rattle.vpic_chip.specs.Chip.{asks, driven, pending_line, pending_irq, acknowledged}
use Rattle.vpic_chip.proofs.Laws.{quiet_taken}
use Rattle.vpic.specs.Words.{PicState}
use Rattle.vpic.specs.Pair.{is_cascade, settled, Keeps, chips, state_claim, cascade_place, place_from, pending_place, master_claim, slave_claim}
use Rattle.vpic.specs.Claim.{master_taken, slave_taken}
use Rattle.vpic.proofs.Ready.{ready_slave}

-- ---- a set with k put in or taken out

abbrev pub drive : Bool → ℕ → ℕ → ℕ
drive up n k = cond up (with n k) (without n k)

-- k is in it exactly if it was put in
bit_drive : (up : Bool) (n k : ℕ) → bit (drive up n k) k ≡ up
bit_drive true n k = bit_with_same n k
bit_drive false n k = bit_without_same n k

-- to put it where it was changes nothing
drive_same : (n k : ℕ) → drive (bit n k) n k ≡ n
drive_same n k = go (bit n k) refl
  where
    go : (b : Bool) → bit n k ≡ b → drive b n k ≡ n
    go true e = with_member n k e
    go false e = without_member n k e

pub driven_same : (c : Chip) (k : ℕ) → driven c k (bit c.request k) ≡ c
unfolding driven
driven_same c k = ap (with_request c) (drive_same c.request k)

-- a settled pair keeps the rule
pub settled_keeps : (p : PicState) → Keeps (settled p)
unfolding settled driven
settled_keeps p = go (is_cascade p) refl
  where
    go : (b : Bool) → is_cascade p ≡ b → Keeps (cond b (chips p (driven p.master 2 (asks p.slave)) p.slave) p)
    go true e = λ i. bit_drive (asks p.slave) p.master.request 2
    go false e = λ i. let z : ◌≡◌ {A = Bool} true false = sym i ∙ e in cc

-- and settling changes nothing on a pair that keeps it
pub settled_kept : (p : PicState) → Keeps p → settled p ≡ p
unfolding settled
settled_kept p keeps = go (is_cascade p) refl
  where
    go : (b : Bool) → is_cascade p ≡ b → cond b (chips p (driven p.master 2 (asks p.slave)) p.slave) p ≡ p
    go true e = ap (λ (m : Chip). chips p m p.slave) (ap (driven p.master 2) (sym (keeps e)) ∙ driven_same p.master 2)
    go false e = refl

pub settled_twice : (q r : PicState) → r ≡ settled q → settled r ≡ r
settled_twice q r e = ap settled e ∙ settled_kept (settled q) (settled_keeps q) ∙ sym e

-- a pair that is settled keeps the rule
pub kept_settled : (p : PicState) → settled p ≡ p → Keeps p
kept_settled p e i = sym (ap (λ (q : PicState). bit q.master.request 2) e) ∙ settled_keeps p (ap is_cascade e ∙ i) ∙ ap (λ (q : PicState). asks q.slave) e

-- ---- what is taken from a settled pair leaves it settled

-- the master answers for line 2 only where the slave has nothing
cascade_quiet : (p : PicState) (k : PicLine) → pending_place p ≡ Some (Master k) → k.0 ≡ 2 → asks p.slave ≡ false
unfolding pending_irq asks
cascade_quiet p k e two = by_master (pending_irq p.master) e
  where
    by_slave : (b : Bool) → ltb (pending_line p.slave) 8 ≡ b → cascade_place (cond b (Some (record { 0 = pending_line p.slave })) None) ≡ Some (Master k) → b ≡ false
    by_slave true h q = let z : ◌≡◌ {A = ℕ} 0 1 = cc in absurd (omega arith)
    by_slave false h q = refl

    by_line : (j : PicLine) (b : Bool) → eqb j.0 2 ≡ b → cond b (cascade_place (pending_irq p.slave)) (Some (Master j)) ≡ Some (Master k) → ltb (pending_line p.slave) 8 ≡ false
    by_line j true h q = by_slave (ltb (pending_line p.slave) 8) refl q
    by_line j false h q =
        let s : j ≡ k = cc in
        absurd (eqb-false j.0 2 h (ap (λ (l : PicLine). l.0) s ∙ two))

    by_master : (a : Option PicLine) → place_from p a ≡ Some (Master k) → ltb (pending_line p.slave) 8 ≡ false
    by_master (Some j) q = by_line j (eqb j.0 2) refl q
    by_master None q = let z : ◌≡◌ {A = ℕ} 0 1 = cc in absurd (omega arith)

pub master_leaves : (p : PicState) (k : PicLine) → settled p ≡ p → pending_place p ≡ Some (Master k) → master_taken p k ≡ master_claim p k
unfolding master_claim acknowledged
master_leaves p k s e =
    ap (λ (q : PicState). state_claim q (master_claim p k).claim) (sym (settled_kept (chips p (acknowledged p.master k.0) p.slave) (λ i. go i (eqb k.0 2) refl)))
  where
    go : is_cascade p ≡ true → (b : Bool) → eqb k.0 2 ≡ b → bit (without p.master.request k.0) 2 ≡ asks p.slave
    go i true h =
        let two : k.0 ≡ 2 = eqb-true k.0 2 h in
        ap (λ (n : ℕ). bit (without p.master.request n) 2) two ∙ bit_without_same p.master.request 2 ∙ sym (cascade_quiet p k e two)
    go i false h = bit_without_other p.master.request k.0 2 (λ q. eqb-false k.0 2 h (sym q)) ∙ kept_settled p s i

taken_down : (m : Chip) → bit (acknowledged m 2).request 2 ≡ false
unfolding acknowledged
taken_down m = bit_without_same m.request 2

pub slave_leaves : (p : PicState) (k : PicLine) → pending_place p ≡ Some (Slave k) → p.slave.auto_eoi ≡ false → slave_taken p k ≡ slave_claim p k
unfolding slave_claim
slave_leaves p k e a =
    ap (λ (q : PicState). state_claim q (slave_claim p k).claim)
    (sym (settled_kept (chips p (acknowledged p.master 2) (acknowledged p.slave k.0)) (λ i. taken_down p.master ∙ sym (quiet_taken p.slave k.0 (ready_slave p k e).1 a))))
