-- The modes of the full profile. Assumes nothing.
use Rattle.std.proofs.Common.{Some, Option, None}
use mathlib.Core.Path.{◌≡◌, refl, sym, ap, ap₂, ◌∙◌}
use mathlib.Core.Bool.{Bool, true, false, not, cond, ◌&&◌, true≢false}
use Prim.Native.Nat.{ℕ, ◌+◌, ◌-◌, ◌<◌}
use native.Mathlib.Omega.{arith}
use lib.Dec.{ltb, eqb}
use borrow.Author.Tests.{lt-ltb, le-ltb, ltb-true, ltb-false, eqb-true, eqb-false, ne_eqb}
use Rattle.utils.specs.Set.{bit, with, without, outside}
use Rattle.utils.specs.Cases.{and_right_no}
use Rattle.utils.proofs.Bools.{not_is, and_true, and-false}
use Rattle.utils.proofs.Laws.{bit_without_same, bit_without_other}
use Rattle.types.specs.declared.PicLine.{PicLine}
use Rattle.types.specs.declared.PicPlace.TheVariants.{Master}
use Rattle.vpic_priority.specs.Ring.{rank, above, first_rank, first_by}
use Rattle.vpic_priority.proofs.Ring.{first_rank_same, by_holds, by_is, nested_above}
use Rattle.vpic_chip.specs.Registers.{Chip, with_in_service, with_poll, with_nested, placed}
use Rattle.vpic_chip.specs.Chip.{lowest_by, first_of, is_above_all, is_special, is_nested, blocks, blocks_line, turned, specific_eoi, commanded, pulsed, counts, pending_line, Highest, asks, driven, pending_irq, acknowledged, unacknowledged, command_read, poll_shown, polled, read_shown}
use Rattle.vpic_chip.proofs.Laws.{above_each, each_above, first_top, asks_not}
use Rattle.vpic.specs.declared.PicInterruptClaim.{PicInterruptClaim}
use Rattle.vpic.specs.Words.{PicState}
use Rattle.vpic.specs.Pair.{chips, is_cascade, settled, master_claim, slave_claim, cascade_place, place_from, claim_at, claim_pending, restored, port_read, port_left, port_written, written_at}
use Rattle.vpic_theorems.specs.Modes.{PollTakes, PollIdle, PollZero, MasterSilent, NothingToClaim, unpolled, PollsBeside, PollsAsClaims, SlavePollsAlone, CountsIf, CountsOnlyIf, MaskedLetsBy, MaskedStays, ServedBlocks, TwoLetsItselfBy, NoOtherLetBy, BelowTwoBlocked, ThreeToSevenBlocked, SlaveUnnested, FlagsKept, Computed}
use Rattle.vpic_theorems.proofs.Rule.{asks_if_counts}
use Rattle.vpic_theorems.proofs.Restore.{by_claim, master_line, slave_line}

-- ---- poll

-- the highest line that counts is the one that the search finds
highest_is : (c : Chip) (k : ℕ) → Highest c k → pending_line c ≡ k
unfolding pending_line above
highest_is c k h = by_is (lowest_by c) (counts c) k h.low h.counted (λ j l. h.above j (lt-ltb (rank (lowest_by c) j) (rank (lowest_by c) k) l))

pub poll_takes : PollTakes
unfolding poll_shown polled
poll_takes c k h =
    let a : asks c ≡ true = asks_if_counts c k h.counted in
    let e : pending_line c ≡ k = highest_is c k h in
    record {
      shown = ap (λ (b : Bool). cond b (0x80 + pending_line c) 0) a ∙ ap (λ (n : ℕ). 0x80 + n) e;
      taken = ap (λ (b : Bool). with_poll (cond b (acknowledged c (pending_line c)) c) false) a ∙ ap (λ (n : ℕ). with_poll (acknowledged c n) false) e;
    }

silent : (c : Chip) → asks c ≡ false → (poll_shown c ≡ 0) × (polled c ≡ with_poll c false)
unfolding poll_shown polled
silent c a = (ap (λ (b : Bool). cond b (0x80 + pending_line c) 0) a, ap (λ (b : Bool). with_poll (cond b (acknowledged c (pending_line c)) c) false) a)

pub poll_idle : PollIdle
poll_idle c n = silent c (asks_not c (λ j l. n j))

-- 0 is shown only where the chip doesn't ask
zero_quiet : (c : Chip) → poll_shown c ≡ 0 → asks c ≡ false
unfolding poll_shown
zero_quiet c e = go (asks c) e
  where
    go : (b : Bool) → cond b (0x80 + pending_line c) 0 ≡ 0 → b ≡ false
    go true q = absurd (omega arith)
    go false q = refl

pub poll_zero : PollZero
poll_zero c e k = go (counts c k) refl
  where
    go : (b : Bool) → counts c k ≡ b → b ≡ false
    go true q = absurd (true≢false (sym (asks_if_counts c k q) ∙ zero_quiet c e))
    go false q = refl

-- ---- beside the pair's claims

irq_none : (c : Chip) → asks c ≡ false → pending_irq c ≡ None
unfolding pending_irq asks
irq_none c e = rw e

irq_some : (c : Chip) → asks c ≡ true → pending_irq c ≡ Some (record { 0 = pending_line c })
unfolding pending_irq asks
irq_some c e = rw e

pub nothing_to_claim : NothingToClaim
unfolding claim_pending
nothing_to_claim p e = rw (irq_none p.master (zero_quiet p.master e))

pub master_silent : MasterSilent
unfolding claim_pending master_claim slave_claim
master_silent p e = go (asks p.master) refl
  where
    claimed : (b : Option PicLine) → (claim_at p (cascade_place b)).claim ≡ None → ⊥
    claimed (Some k) q = let z : ◌≡◌ {A = ℕ} 0 1 = cc in omega arith
    claimed None q = let z : ◌≡◌ {A = ℕ} 0 1 = cc in omega arith

    taken : (k : PicLine) (b : Bool) → (claim_at p (cond b (cascade_place (pending_irq p.slave)) (Some (Master k)))).claim ≡ None → ⊥
    taken k true q = claimed (pending_irq p.slave) q
    taken k false q = let z : ◌≡◌ {A = ℕ} 0 1 = cc in omega arith

    go : (b : Bool) → asks p.master ≡ b → poll_shown p.master ≡ 0
    go true a = absurd (taken (record { 0 = pending_line p.master }) (eqb (pending_line p.master) 2) (ap (λ (x : Option PicLine). (claim_at p (place_from p x)).claim) (sym (irq_some p.master a)) ∙ e))
    go false a = (silent p.master a).0

-- settling and the poll's flag leave each other alone
settled_unpolled : (p : PicState) (m s : Chip) → settled (chips p (with_poll m false) s) ≡ unpolled (settled (chips p m s))
unfolding settled driven
settled_unpolled p m s = go (is_cascade p)
  where
    go : (b : Bool) → cond b (chips p (driven (with_poll m false) 2 (asks s)) s) (chips p (with_poll m false) s) ≡ unpolled (cond b (chips p (driven m 2 (asks s)) s) (chips p m s))
    go true = refl
    go false = refl

master_beside : (p : PicState) (k : PicLine) → Highest p.master k.0 → PollsBeside p (master_claim p k).state k.0
unfolding master_claim
master_beside p k h =
    let t = poll_takes p.master k.0 h in
    record {
      master = λ l. t.shown;
      state = λ l. ap (λ (m : Chip). settled (chips p m p.slave)) t.taken ∙ settled_unpolled p (acknowledged p.master k.0) p.slave;
      cascade = λ l. absurd (omega (arith, h.low));
      slave = λ l. absurd (omega (arith, h.low));
    }

slave_beside : (p : PicState) (k : PicLine) → Highest p.master 2 → Highest p.slave k.0 → PollsBeside p (slave_claim p k).state (k.0 + 8)
slave_beside p k m h =
    let d : k.0 + 8 - 8 ≡ k.0 = omega arith in
    record {
      master = λ l. absurd (omega arith);
      state = λ l. absurd (omega arith);
      cascade = λ l. (poll_takes p.master 2 m).shown;
      slave = λ l. (poll_takes p.slave k.0 h).shown ∙ ap (λ (n : ℕ). 0x80 + n) (sym d);
    }

pub polls_as_claims : PollsAsClaims
polls_as_claims p = by_claim (λ r c. PollsBeside p r.state c.irq.0) p of_master of_slave
  where
    of_master : (k : PicLine) (c : PicInterruptClaim) → Highest p.master k.0 → (master_claim p k).claim ≡ Some c → PollsBeside p (master_claim p k).state c.irq.0
    of_master k c h e = rw (master_line p k c e) (master_beside p k h)

    of_slave : (k : PicLine) (c : PicInterruptClaim) → Highest p.master 2 → Highest p.slave k.0 → (slave_claim p k).claim ≡ Some c → PollsBeside p (slave_claim p k).state c.irq.0
    of_slave k c m h e = rw (slave_line p k c e) (slave_beside p k m h)

pub slave_polls_alone : SlavePollsAlone
unfolding poll_shown asks pending_line counts pending_irq claim_pending settled driven first_rank first_by without with
slave_polls_alone = (refl, refl)

-- ---- special mask mode

-- where the same lines are in the way, the same requests count
same_counts : (c d : Chip) (k : ℕ) → d.request ≡ c.request → d.mask ≡ c.mask → lowest_by d ≡ lowest_by c → ((j : ℕ) → j < 8 → blocks_line c k j ≡ blocks_line d k j) → counts c k ≡ counts d k
unfolding counts
same_counts c d k r m l h =
    ap (λ (n : ℕ). bit c.request k && not (bit c.mask k) && ltb (rank (lowest_by c) k) n) (first_rank_same (lowest_by c) (blocks_line c k) (blocks_line d k) h)
    ∙ (λ i. bit (sym r i) k && not (bit (sym m i) k) && ltb (rank (sym l i) k) (first_rank (sym l i) (blocks_line d k)))

pub masked_lets_by : MaskedLetsBy
masked_lets_by c j s m k = same_counts c (with_in_service c (without c.in_service j)) k refl refl refl (λ i l. go i (eqb i j) refl)
  where
    go : (i : ℕ) (b : Bool) → eqb i j ≡ b → blocks_line c k i ≡ blocks_line (with_in_service c (without c.in_service j)) k i
    go i true q =
        let e : i ≡ j = eqb-true i j q in
        let x : blocks c i ≡ false = ap (λ (b : Bool). bit c.in_service i && not b) (ap₂ (λ (a b : Bool). a && b) s (ap (bit c.mask) e ∙ m)) ∙ and-false (bit c.in_service i) in
        let y : bit (without c.in_service j) i ≡ false = ap (bit (without c.in_service j)) e ∙ bit_without_same c.in_service j in
        ap (λ (b : Bool). b && not (is_nested c && eqb k 2 && eqb i 2)) x
        ∙ sym (ap (λ (b : Bool). b && not (is_special c && bit c.mask i) && not (is_nested c && eqb k 2 && eqb i 2)) y)
    go i false q =
        ap (λ (b : Bool). b && not (is_special c && bit c.mask i) && not (is_nested c && eqb k 2 && eqb i 2)) (sym (bit_without_other c.in_service j i (eqb-false i j q)))

pub masked_stays : MaskedStays
masked_stays c j r s m = go (ltb n 8) refl
  where
    n : ℕ
    n = first_of c (blocks c)

    other : n < 8 → j ≡ n → ⊥
    other h e =
        let a : blocks c n ≡ true = by_holds (lowest_by c) (blocks c) h in
        let x : blocks c n ≡ false = ap (λ (b : Bool). bit c.in_service n && not b) (ap₂ (λ (a b : Bool). a && b) s (ap (bit c.mask) (sym e) ∙ m)) ∙ and-false (bit c.in_service n) in
        true≢false (sym a ∙ x)

    go : (b : Bool) → ltb n 8 ≡ b → bit (cond b (turned (specific_eoi c n) r n) c).in_service j ≡ bit c.in_service j
    go true q = bit_without_other c.in_service n j (other (ltb-true n 8 q))
    go false q = refl

-- ---- what counts

pub counts_if : CountsIf
unfolding counts
counts_if c k l r m h = ap₂ (λ (x y : Bool). x && y) (ap₂ (λ (x y : Bool). x && not y) r m) (each_above c k (blocks_line c k) l h)

pub counts_only_if : CountsOnlyIf
unfolding counts
counts_only_if c k e =
    let p = and_true (bit c.request k && not (bit c.mask k)) (is_above_all c k (blocks_line c k)) e in
    let q = and_true (bit c.request k) (not (bit c.mask k)) p.0 in
    record { requested = q.0; unmasked = not_is (bit c.mask k) q.1; above = above_each c k (blocks_line c k) p.1 }

pub served_blocks : ServedBlocks
unfolding counts above
served_blocks c j k l s m a n =
    let b : blocks c j ≡ true = ap₂ (λ (x y : Bool). x && not y) s m in
    let w : blocks_line c k j ≡ true = ap₂ (λ (x y : Bool). x && not y) b n in
    and_right_no (bit c.request k && not (bit c.mask k)) (is_above_all c k (blocks_line c k))
    (le-ltb (rank (lowest_by c) k) (first_rank (lowest_by c) (blocks_line c k))
    (omega (arith, first_top (lowest_by c) (blocks_line c k) j w, ltb-false (rank (lowest_by c) k) (rank (lowest_by c) j) a)))

-- ---- special fully nested mode

pub two_lets_itself_by : TwoLetsItselfBy
two_lets_itself_by c n = same_counts c (with_in_service c (without c.in_service 2)) 2 refl refl refl (λ i l. go i (eqb i 2) refl)
  where
    go : (i : ℕ) (b : Bool) → eqb i 2 ≡ b → blocks_line c 2 i ≡ blocks_line (with_in_service c (without c.in_service 2)) 2 i
    go i true q =
        let x : blocks_line c 2 i ≡ false = ap₂ (λ (a b : Bool). blocks c i && not (a && true && b)) n q ∙ and-false (blocks c i) in
        let y : bit (without c.in_service 2) i ≡ false = ap (bit (without c.in_service 2)) (eqb-true i 2 q) ∙ bit_without_same c.in_service 2 in
        x ∙ sym (ap (λ (b : Bool). b && not (is_special c && bit c.mask i) && not (is_nested c && true && eqb i 2)) y)
    go i false q =
        ap (λ (b : Bool). b && not (is_special c && bit c.mask i) && not (is_nested c && true && eqb i 2)) (sym (bit_without_other c.in_service 2 i (eqb-false i 2 q)))

pub no_other_let_by : NoOtherLetBy
no_other_let_by c k d = same_counts c (with_nested c false) k refl refl refl (λ i l. ap (λ (b : Bool). blocks c i && not b) (off (is_nested c) i ∙ sym (off (is_nested (with_nested c false)) i)))
  where
    off : (b : Bool) (i : ℕ) → (b && eqb k 2 && eqb i 2) ≡ false
    off b i = ap (λ (x : Bool). b && x && eqb i 2) (ne_eqb k 2 d) ∙ ap (λ (x : Bool). x && eqb i 2) (and-false b)

pub below_two_blocked : BelowTwoBlocked
below_two_blocked c k s m a d = served_blocks c 2 k (omega arith) s m a (ap (λ (x : Bool). is_nested c && x && true) (ne_eqb k 2 d) ∙ ap (λ (x : Bool). x && true) (and-false (is_nested c)))

pub three_to_seven_blocked : ThreeToSevenBlocked
three_to_seven_blocked c k s m e h l =
    below_two_blocked c k s m (ap (λ (n : ℕ). above n k 2) e ∙ nested_above k 2 l (omega arith) ∙ le-ltb k 2 (omega arith)) (λ z. omega arith)

pub slave_unnested : SlaveUnnested
slave_unnested c k =
    same_counts (with_nested (placed false c) true) (with_nested (placed false c) false) k refl refl refl
    (λ i l. ap (λ (b : Bool). blocks c i && not (b && eqb k 2 && eqb i 2)) (off true ∙ sym (off false)))
  where
    off : (b : Bool) → (c.full && false && b) ≡ false
    off b = ap (λ (x : Bool). x && b) (and-false c.full)

-- ---- computed examples

pub flags_kept : FlagsKept
unfolding pulsed asks driven counts pending_line pending_irq acknowledged unacknowledged settled master_claim slave_claim claim_pending restored with without outside first_rank first_by above
flags_kept = record { claim = refl; restored = refl; before = refl }

pub computed : Computed
unfolding commanded command_read read_shown poll_shown polled asks driven counts pending_line pending_irq acknowledged settled port_written written_at port_read port_left with without outside first_rank first_by above
computed = record {
  special = refl;
  unspecial = refl;
  off = refl;
  kept = refl;
  ended = refl;
  poll = refl;
  polled = refl;
  silent = refl;
  written = refl;
  cascade = refl;
  «special-poll» = refl;
  «nested-poll» = refl;
  «nested-special» = refl;
  «nested-alone» = refl;
  «special-alone» = refl;
  «nested-rotated» = refl;
  «rotated-alone» = refl;
}
