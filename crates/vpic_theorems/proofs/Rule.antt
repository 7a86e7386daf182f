-- Every call keeps the cascade rule, and by it no slave request that counts goes unheard. Assumes nothing.
use Rattle.std.proofs.Common.{Option, Some, None}
use mathlib.Core.Path.{◌≡◌, refl, sym, ap, subst, ◌∙◌}
use mathlib.Core.Bool.{Bool, true, false, cond, not, ◌&&◌, true≢false}
use mathlib.Core.List.{List, [], ◌∷◌}
use Prim.Native.Nat.{ℕ, ◌%◌, ◌<◌, ◌≤◌}
use native.Mathlib.Omega.{arith}
use lib.Dec.{ltb, eqb}
use borrow.Author.Tests.{lt-ltb, le-ltb, ltb-true, ltb-false}
use Rattle.utils.specs.Set.{bit, with, without, outside, lowest}
use Rattle.utils.specs.Cases.{and_left_no}
use Rattle.vpic_priority.specs.Ring.{rank, above, first_rank, first_by}
use Rattle.vpic_priority.proofs.Ring.{rank_out, rank_lt, rank_low, first_rank_le, by_rank, by_holds, by_before, by_is}
use Rattle.vpic_chip.proofs.Laws.{counted_above}
use Rattle.types.specs.declared.PicLine.{PicLine}
use Rattle.types.specs.declared.PicPlace.{PicPlace}
use Rattle.types.specs.declared.PicPlace.TheVariants.{Master, Slave}
use Rattle.types.specs.declared.Reply.TheVariants as reply
use Rattle.types.specs.declared.Refusal.{Refusal}
use Rattle.types.specs.declared.Refusal.TheVariants.{Unsupported, OutOfRange}
use Rattle.types.specs.Counters.{place_of}
use Rattle.types.specs.Reply.{Outcome, reply_number}
use Rattle.vpic_chip.specs.Registers.{Chip}
use Rattle.vpic.specs.declared.PicRule.TheVariants.{Latch, Cascade, Full}
use Rattle.vpic.specs.Words.{PicState}
use Rattle.vpic_chip.specs.Chip.{lowest_by, first_of, is_above_all, blocks_line, is_polled, polled, opened, pulsed, asks, cascade_irq, driven, counts, pending_line, Highest, pending_irq, acknowledged, unacknowledged}
use Rattle.vpic.specs.Pair.{chips, Keeps, new_state, settled, latched_at, latched, master_claim, slave_claim, pending_place, claim_at, claim_pending, claim_irq, nothing_claimed, restored_at, restored, Port, master_command, master_data, slave_command, slave_data, no_port, port_at, master_read, slave_read, left_after, port_left, is_port, written_at, port_written, port_read, value_reply, refused}
use Rattle.vpic_theorems.specs.Statements.{Call, call_claim_irq, claim_pending_interrupt, pulse_irq, next_interrupt, call_restore_interrupt, call_handle_read, call_handle_write, outcome}
use Rattle.vpic_theorems.specs.Rule.{AsksIfCounts, CountsIfAsks, run, NewHasRule, NewKeeps, CallsKeep, CallsKeepNumber, RunsKeep, CallsSettle, ReadsUnchanged, polled_at, LineTwoLatchesNothing, Clear, SlaveHeard, UnkeptNotRestored}
use Rattle.vpic_theorems.proofs.Settled.{settled_cascade, driven_with}
use Rattle.vpic.proofs.Settled.{settled_keeps, settled_kept}
use Rattle.vpic_theorems.proofs.Kept.{calls_kept}

-- ---- a chip's output

count_low : (c : Chip) (k : ℕ) → counts c k ≡ true → k < 8
count_low c k e = rank_low (lowest_by c) k (omega (arith, counted_above c k e, first_rank_le (lowest_by c) (blocks_line c k)))

pub asks_if_counts : AsksIfCounts
unfolding asks pending_line
asks_if_counts c k e = go (ltb (first_of c (counts c)) 8) refl
  where
    go : (b : Bool) → ltb (first_of c (counts c)) 8 ≡ b → b ≡ true
    go true h = refl
    go false h =
        let out : 8 ≤ first_rank (lowest_by c) (counts c) = omega (arith, by_rank (lowest_by c) (counts c), rank_out (lowest_by c) (first_of c (counts c)) (ltb-false (first_of c (counts c)) 8 h)) in
        let n : counts c k ≡ false = by_before (lowest_by c) (counts c) k (omega (arith, rank_lt (lowest_by c) k (count_low c k e))) in
        sym n ∙ e

pub counts_if_asks : CountsIfAsks
unfolding asks pending_line above
counts_if_asks c e =
    let l : first_of c (counts c) < 8 = ltb-true (first_of c (counts c)) 8 e in
    record {
      low = l;
      counted = by_holds (lowest_by c) (counts c) l;
      above = λ j h. by_before (lowest_by c) (counts c) j (omega (arith, by_rank (lowest_by c) (counts c), ltb-true (rank (lowest_by c) j) (rank (lowest_by c) (first_of c (counts c))) h));
    }

-- ---- the rule is kept

pub new_has_rule : NewHasRule
unfolding new_state
new_has_rule Latch = refl
new_has_rule Cascade = refl
new_has_rule Full = refl

pub new_keeps : NewKeeps
unfolding new_state opened asks pending_line counts first_rank first_by
new_keeps Latch e = refl
new_keeps Cascade e = refl
new_keeps Full e = refl

-- a claim settles the pair
claim_keeps : (p : PicState) → Keeps (claim_pending p).state
unfolding claim_pending master_claim slave_claim
claim_keeps p = go (pending_place p)
  where
    go : (a : Option PicPlace) → Keeps (claim_at p a).state
    go (Some (Master k)) = settled_keeps (chips p (acknowledged p.master k.0) p.slave)
    go (Some (Slave k)) = settled_keeps (chips p (acknowledged p.master 2) (acknowledged p.slave k.0))
    go None = settled_keeps p

raise_keeps : (p : PicState) (l : PicLine) → Keeps p → Keeps (claim_irq p l).state
unfolding claim_irq
raise_keeps p l keeps = go (ltb l.0 16)
  where
    go : (b : Bool) → Keeps (cond b (claim_pending (latched p l)) (nothing_claimed p)).state
    go true = claim_keeps (latched p l)
    go false = keeps

-- a poll settles the pair, and another read leaves it
read_settles : (p : PicState) (a : Port) → polled_at p a ≡ true → Keeps (left_after p a)
read_settles p a e = go a e
  where
    of_master : is_polled p.master ≡ true → Keeps (master_read p)
    of_master q = rw q (settled_keeps (chips p (polled p.master) p.slave))

    of_slave : is_polled p.slave ≡ true → Keeps (slave_read p)
    of_slave q = rw q (settled_keeps (chips p p.master (polled p.slave)))

    go : (a : Port) → polled_at p a ≡ true → Keeps (left_after p a)
    go master_command q = of_master q
    go master_data q = of_master q
    go slave_command q = of_slave q
    go slave_data q = of_slave q
    go no_port q = absurd (true≢false (sym q))

read_leaves : (p : PicState) (a : Port) → polled_at p a ≡ false → left_after p a ≡ p
read_leaves p master_command e = ap (λ (b : Bool). cond b (settled (chips p (polled p.master) p.slave)) p) e
read_leaves p master_data e = ap (λ (b : Bool). cond b (settled (chips p (polled p.master) p.slave)) p) e
read_leaves p slave_command e = ap (λ (b : Bool). cond b (settled (chips p p.master (polled p.slave))) p) e
read_leaves p slave_data e = ap (λ (b : Bool). cond b (settled (chips p p.master (polled p.slave))) p) e
read_leaves p no_port e = refl

read_keeps : (p : PicState) (port : ℕ) → Keeps p → Keeps (port_left p port)
unfolding port_left
read_keeps p port keeps = go (polled_at p (port_at port)) refl
  where
    go : (b : Bool) → polled_at p (port_at port) ≡ b → Keeps (left_after p (port_at port))
    go true e = read_settles p (port_at port) e
    go false e = subst Keeps (sym (read_leaves p (port_at port) e)) keeps

-- a test between an outcome whose pair keeps the rule, and a refusal
or_kept : (P : PicState → Type 0) (p : PicState) (why : Refusal) (b : Bool) (o : Outcome PicState) → P o.state → P p → P (cond b o (refused p why)).state
or_kept P p why true o h k = h
or_kept P p why false o h k = k

pub calls_keep : CallsKeep
unfolding outcome restored port_written
calls_keep p (call_claim_irq l) keeps = raise_keeps p l keeps
calls_keep p claim_pending_interrupt keeps = claim_keeps p
calls_keep p (pulse_irq l) keeps = raise_keeps p l keeps
calls_keep p next_interrupt keeps = claim_keeps p
calls_keep p (call_restore_interrupt c) keeps =
    or_kept Keeps p OutOfRange (ltb c.irq.0 16) _ (settled_keeps (restored_at p (place_of c.irq) c.master_in_service c.slave_in_service)) keeps
calls_keep p (call_handle_read port width) keeps = or_kept Keeps p Unsupported (eqb width 1) _ (read_keeps p port keeps) keeps
calls_keep p (call_handle_write port width value) keeps =
    or_kept Keeps p Unsupported (eqb width 1) _ (or_kept Keeps p Unsupported (is_port port) _ (settled_keeps (written_at p port (value % 256))) keeps) keeps

-- whatever the pair was, where the call isn't refused
raise_settles : (p : PicState) (l : PicLine) → ltb l.0 16 ≡ true → Keeps (claim_irq p l).state
unfolding claim_irq
raise_settles p l e = rw e (claim_keeps (latched p l))

or_settled : (p : PicState) (why : Refusal) (b : Bool) (o : Outcome PicState) → (reply_number (reply.Refused why) ≡ 0 → ⊥) → (reply_number o.reply ≡ 0 → Keeps o.state)
    → reply_number (cond b o (refused p why)).reply ≡ 0 → Keeps (cond b o (refused p why)).state
or_settled p why true o r h n = h n
or_settled p why false o r h n = absurd (r n)

pub calls_settle : CallsSettle
unfolding outcome restored port_written port_left
calls_settle p (call_claim_irq l) s n = raise_settles p l s
calls_settle p claim_pending_interrupt s n = claim_keeps p
calls_settle p (pulse_irq l) s n = raise_settles p l s
calls_settle p next_interrupt s n = claim_keeps p
calls_settle p (call_restore_interrupt c) s n =
    or_settled p OutOfRange (ltb c.irq.0 16) _ (λ z. omega arith) (λ d. settled_keeps (restored_at p (place_of c.irq) c.master_in_service c.slave_in_service)) n
calls_settle p (call_handle_read port width) s n = or_settled p Unsupported (eqb width 1) _ (λ z. omega arith) (λ d. read_settles p (port_at port) s) n
calls_settle p (call_handle_write port width value) s n =
    or_settled p Unsupported (eqb width 1) _ (λ z. omega arith) (or_settled p Unsupported (is_port port) _ (λ z. omega arith) (λ d. settled_keeps (written_at p port (value % 256)))) n

-- and the rule's number stays
pub calls_keep_number : CallsKeepNumber
calls_keep_number p c = (calls_kept p c).rule

pub runs_keep : RunsKeep
runs_keep rule l = go (new_state rule) l (new_keeps rule)
  where
    go : (p : PicState) (l : List Call) → Keeps p → Keeps (run p l)
    go p [] keeps = keeps
    go p (c ∷ t) keeps = go (outcome p c).state t (calls_keep p c keeps)

pub reads_unchanged : ReadsUnchanged
unfolding port_left
reads_unchanged p port width e = go (eqb width 1)
  where
    go : (b : Bool) → (cond b (record { state = left_after p (port_at port); reply = value_reply (port_read p port) }) (refused p Unsupported)).state ≡ p
    go true = read_leaves p (port_at port) e
    go false = refl

pub line_two_latches_nothing : LineTwoLatchesNothing
unfolding latched pulsed
line_two_latches_nothing p e keeps =
    settled_cascade (latched_at p (Some (Master cascade_irq))) e
    ∙ ap (λ (m : Chip). chips p m p.slave) (driven_with p.master 2 (asks p.slave))
    ∙ sym (settled_cascade p e)
    ∙ settled_kept p keeps

-- ---- no slave request that counts goes unheard

-- the master's line 2 is the highest that counts
line_two_next : (m : Chip) → Clear m → bit m.request 2 ≡ true → pending_line m ≡ 2
unfolding pending_line counts above
line_two_next m clear e =
    by_is (lowest_by m) (counts m) 2 (omega arith)
    (rw (e, clear.unmasked) (lt-ltb (rank (lowest_by m) 2) (first_rank (lowest_by m) (blocks_line m 2)) idle))
    (λ j l. and_left_no (bit m.request j && not (bit m.mask j)) (is_above_all m j (blocks_line m j)) (unasked j (lt-ltb (rank (lowest_by m) j) (rank (lowest_by m) 2) l) (bit m.request j) refl))
  where
    two : ℕ
    two = rank (lowest_by m) 2

    served : (b : Bool) → ltb two (first_rank (lowest_by m) (blocks_line m 2)) ≡ b → two < first_rank (lowest_by m) (blocks_line m 2)
    served true h = ltb-true two (first_rank (lowest_by m) (blocks_line m 2)) h
    served false h =
        let low : first_rank (lowest_by m) (blocks_line m 2) ≤ two = ltb-false two (first_rank (lowest_by m) (blocks_line m 2)) h in
        let k = first_of m (blocks_line m 2) in
        let same : rank (lowest_by m) k ≡ first_rank (lowest_by m) (blocks_line m 2) = by_rank (lowest_by m) (blocks_line m 2) in
        let in' : blocks_line m 2 k ≡ true =
        by_holds (lowest_by m) (blocks_line m 2) (rank_low (lowest_by m) k (omega (arith, rank_lt (lowest_by m) 2 (omega arith)))) in
        absurd (true≢false (sym in' ∙ clear.idle k (le-ltb two (rank (lowest_by m) k) (omega arith))))

    idle : two < first_rank (lowest_by m) (blocks_line m 2)
    idle = served (ltb two (first_rank (lowest_by m) (blocks_line m 2))) refl

    unasked : (j : ℕ) → above (lowest_by m) j 2 ≡ true → (b : Bool) → bit m.request j ≡ b → (b && not (bit m.mask j)) ≡ false
    unasked j l true h = rw (clear.quiet j l h)
    unasked j l false h = refl

pub slave_heard : SlaveHeard
unfolding claim_pending pending_irq
slave_heard p j cascade keeps e clear =
    let up : asks p.slave ≡ true = asks_if_counts p.slave j e in
    let h : Highest p.slave (pending_line p.slave) = counts_if_asks p.slave up in
    record {
      highest = h;
      served = rw (line_two_next p.master clear (keeps cascade ∙ up), lt-ltb (pending_line p.slave) 8 h.low);
    }

-- ---- a computed example

pub unkept_not_restored : UnkeptNotRestored
unfolding first_rank first_by pulsed asks driven counts pending_line pending_irq acknowledged unacknowledged settled master_claim slave_claim claim_pending restored with without outside lowest
unkept_not_restored = (refl, refl, refl)
