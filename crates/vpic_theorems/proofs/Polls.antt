-- What begins a poll, and what ends it, over all calls. Assumes nothing.
use Rattle.std.proofs.Common.{Option, Some, None}
use mathlib.Core.Path.{◌≡◌, refl, sym, subst, ◌∙◌}
use mathlib.Core.Bool.{Bool, true, false, not, cond, ◌&&◌, ◌||◌}
use Prim.Native.Nat.{ℕ, ◌%◌}
use lib.Dec.{ltb, eqb}
use borrow.Author.Tests.{eqb-true}
use Rattle.utils.specs.Set.{bit}
use Rattle.utils.proofs.Bools.{never, either, both, and-false, and_one}
use Rattle.types.specs.declared.PicLine.{PicLine}
use Rattle.types.specs.declared.PicPlace.{PicPlace}
use Rattle.types.specs.declared.PicPlace.TheVariants.{Master, Slave}
use Rattle.types.specs.declared.Refusal.TheVariants.{Unsupported}
use Rattle.types.specs.declared.Reply.TheVariants as reply
use Rattle.types.specs.Counters.{place_of}
use Rattle.types.specs.Reply.{Outcome}
use Rattle.vpic_chip.specs.Registers.{Chip}
use Rattle.vpic_chip.specs.Chip.{cascade_irq, first_of, blocks, is_polled, polled, icw1, ocw2, ocw3, commanded, fed, pulsed, driven, acknowledged, unacknowledged}
use Rattle.vpic.specs.Words.{PicState}
use Rattle.vpic.specs.Pair.{StateClaim, is_cascade, settled, latched_at, latched, master_claim, slave_claim, pending_place, claim_at, claim_pending, claim_irq, restored_at, restored, port_at, is_port, master_read, slave_read, left_after, port_read, port_left, written_at, port_written, value_reply, refused}
use Rattle.vpic_theorems.specs.Statements.{Call, call_claim_irq, claim_pending_interrupt, pulse_irq, next_interrupt, call_restore_interrupt, call_handle_read, call_handle_write, outcome}
use Rattle.vpic_theorems.specs.Modes.{is_poll_command, PollsAfter, CallsKeepFull, is_at_port, SamePolls, ClaimsLeavePolls}
use Rattle.vpic_theorems.proofs.Kept.{calls_kept}

-- ---- one chip

-- the poll that a chip has after what begins one, or not, and ends one, or not
abbrev after : Chip → Bool → Bool → Bool
after c begins ends = (c.full && begins) || (is_polled c && not ends)

kept : (c : Chip) → is_polled c ≡ after c false false
kept c = go c.full c.poll
  where
    go : (f b : Bool) → (f && b) ≡ ((f && false) || (f && b && true))
    go true true = refl
    go true false = refl
    go false b = refl

over : (c : Chip) → false ≡ after c false true
over c = go c.full c.poll
  where
    go : (f b : Bool) → false ≡ ((f && false) || (f && b && false))
    go true true = refl
    go true false = refl
    go false b = refl

abbrev Same : Chip → Chip → Type 0
Same c d = is_polled d ≡ is_polled c

ocw2_same : (c : Chip) (v : ℕ) → Same c (ocw2 c v)
ocw2_same c v = both (Same c) (bit v 5) _ _ (both (Same c) (bit v 6) _ _ refl (both (Same c) (ltb (first_of c (blocks c)) 8) _ _ refl refl)) (both (Same c) (bit v 6) _ _ refl refl)

ocw3_after : (c : Chip) (v : ℕ) → is_polled (ocw3 c v) ≡ after c (bit v 2) false
ocw3_after c v = either (λ (d : Chip). is_polled d ≡ after c (bit v 2) false) c.full _ _ (λ e. rw e (full (bit v 2) c.poll)) (λ e. rw e)
  where
    full : (z b : Bool) → (z || b) ≡ (z || (b && true))
    full true b = refl
    full false b = sym (and_one b)

commanded_after : (c : Chip) (v : ℕ) → is_polled (commanded c v) ≡ after c (is_poll_command v) (bit v 4)
unfolding commanded
commanded_after c v = go (bit v 4) (bit v 3)
  where
    go : (i o : Bool) → is_polled (cond i (icw1 c v) (cond o (ocw3 c v) (ocw2 c v))) ≡ after c (not i && o && bit v 2) i
    go true o = and-false c.full ∙ over c
    go false true = ocw3_after c v
    go false false = ocw2_same c v ∙ kept c

fed_same : (c : Chip) (v : ℕ) → Same c (fed c v)
unfolding fed
fed_same c v = both (Same c) (eqb c.init_step 1) _ _ refl (both (Same c) (eqb c.init_step 2) _ _ refl (both (Same c) (eqb c.init_step 3) _ _ refl refl))

pulsed_same : (c : Chip) (l : PicLine) → Same c (pulsed c l)
unfolding pulsed
pulsed_same c l = both (Same c) (ltb l.0 8) _ _ refl refl

unacknowledged_same : (c : Chip) (l : PicLine) (f : Bool) → Same c (unacknowledged c l f)
unfolding unacknowledged
unacknowledged_same c l f = both (Same c) f _ _ (both (Same c) (ltb l.0 8) _ _ (pulsed_same c l) (pulsed_same c l)) (pulsed_same c l)

polled_over : (c : Chip) → is_polled (polled c) ≡ false
unfolding polled
polled_over c = and-false (polled c).full

-- ---- calls at no port

settled_same : (p q : PicState) → SamePolls p q → SamePolls p (settled q)
unfolding settled driven
settled_same p q h = both (SamePolls p) (is_cascade q) _ _ h h

claim_same : (p : PicState) → SamePolls p (claim_pending p).state
unfolding claim_pending master_claim slave_claim acknowledged
claim_same p = go (pending_place p)
  where
    go : (a : Option PicPlace) → SamePolls p (claim_at p a).state
    go (Some (Master k)) = settled_same p _ (refl, refl)
    go (Some (Slave k)) = settled_same p _ (refl, refl)
    go None = settled_same p p (refl, refl)

latched_same : (p : PicState) (a : Option PicPlace) → SamePolls p (latched_at p a)
latched_same p (Some (Master k)) = (pulsed_same p.master k, refl)
latched_same p (Some (Slave k)) = (pulsed_same p.master cascade_irq, pulsed_same p.slave k)
latched_same p None = (refl, refl)

raise_same : (p : PicState) (l : PicLine) → SamePolls p (claim_irq p l).state
unfolding claim_irq latched
raise_same p l =
    let h = settled_same p _ (latched_same p (place_of l)) in
    let k = claim_same (latched p l) in
    both (λ (r : StateClaim). SamePolls p r.state) (ltb l.0 16) _ _ (k.0 ∙ h.0, k.1 ∙ h.1) (refl, refl)

restored_same : (p : PicState) (a : Option PicPlace) (m s : Bool) → SamePolls p (restored_at p a m s)
restored_same p (Some (Master k)) m s = (unacknowledged_same p.master k m, refl)
restored_same p (Some (Slave k)) m s = (unacknowledged_same p.master cascade_irq m, unacknowledged_same p.slave k s)
restored_same p None m s = (refl, refl)

off_port : (p : PicState) (c : Call) → is_at_port c ≡ false → SamePolls p (outcome p c).state
unfolding outcome restored
off_port p (call_claim_irq l) e = raise_same p l
off_port p claim_pending_interrupt e = claim_same p
off_port p (pulse_irq l) e = raise_same p l
off_port p next_interrupt e = claim_same p
off_port p (call_restore_interrupt c) e =
    both (λ (o : Outcome PicState). SamePolls p o.state) (ltb c.irq.0 16) _ _
    (settled_same p _ (restored_same p (place_of c.irq) c.master_in_service c.slave_in_service))
    (refl, refl)
off_port p (call_handle_read port width) e = never refl e
off_port p (call_handle_write port width value) e = never refl e

pub claims_leave_polls : ClaimsLeavePolls
claims_leave_polls = off_port

-- ---- the ports

-- what holds at a port, and at every other one, holds
or_at : (P : ℕ → Type 0) (n port : ℕ) → P n → (eqb port n ≡ false → P port) → P port
or_at P n port h other = go (eqb port n) refl
  where
    go : (b : Bool) → eqb port n ≡ b → P port
    go true e = subst P (sym (eqb-true port n e)) h
    go false e = other e

at_each : (P : ℕ → Type 0) (port : ℕ) → P 0x20 → P 0x21 → P 0xa0 → P 0xa1
    → (eqb port 0x20 ≡ false → eqb port 0x21 ≡ false → eqb port 0xa0 ≡ false → eqb port 0xa1 ≡ false → P port) → P port
at_each P port a b c d none = or_at P 0x20 port a (λ h. or_at P 0x21 port b (λ i. or_at P 0xa0 port c (λ j. or_at P 0xa1 port d (λ k. none h i j k))))

-- both chips' polls in q, by what begins and ends them, where they were those of p
abbrev Left : PicState → PicState → Bool → Bool → Bool → Bool → Type 0
Left p q mb me sb se = (is_polled q.master ≡ after p.master mb me) × (is_polled q.slave ≡ after p.slave sb se)

unchanged : (p : PicState) → Left p p false false false false
unchanged p = (kept p.master, kept p.slave)

settled_left : {m s : Bool} (q : PicState) → is_polled q.master ≡ m → is_polled q.slave ≡ s → (is_polled (settled q).master ≡ m) × (is_polled (settled q).slave ≡ s)
settled_left q m s = let k = settled_same q q (refl, refl) in (k.0 ∙ m, k.1 ∙ s)

off_left : (p : PicState) (c : Call) → is_at_port c ≡ false → Left p (outcome p c).state false false false false
off_left p c e = let h = off_port p c e in (h.0 ∙ kept p.master, h.1 ∙ kept p.slave)

-- a read of one byte
abbrev Read : PicState → ℕ → Type 0
Read p port = Left p (left_after p (port_at port)) false (eqb port 0x20 || eqb port 0x21) false (eqb port 0xa0 || eqb port 0xa1)

read_after : (p : PicState) (port : ℕ) → Read p port
read_after p port = at_each (Read p) port of_master of_master of_slave of_slave (λ a b c d. rw (a, b, c, d) (unchanged p))
  where
    of_master : Left p (master_read p) false true false false
    of_master =
        either (λ (q : PicState). Left p q false true false false) (is_polled p.master) _ _
        (λ e. settled_left _ (polled_over p.master ∙ over p.master) (kept p.slave))
        (λ e. (e ∙ over p.master, kept p.slave))

    of_slave : Left p (slave_read p) false false false true
    of_slave =
        either (λ (q : PicState). Left p q false false false true) (is_polled p.slave) _ _
        (λ e. settled_left _ (kept p.master) (polled_over p.slave ∙ over p.slave))
        (λ e. (kept p.master, e ∙ over p.slave))

-- a write of one byte
abbrev Wrote : PicState → ℕ → ℕ → Type 0
Wrote p v port =
    Left p (cond (is_port port) (record { state = port_written p port v; reply = reply.Nothing }) (refused p Unsupported)).state
    (eqb port 0x20 && is_poll_command v) (eqb port 0x20 && bit v 4) (eqb port 0xa0 && is_poll_command v) (eqb port 0xa0 && bit v 4)

write_after : (p : PicState) (v port : ℕ) → Wrote p v port
unfolding port_written written_at
write_after p v port =
    at_each (Wrote p v) port
    (settled_left _ (commanded_after p.master v) (kept p.slave))
    (settled_left _ (fed_same p.master v ∙ kept p.master) (kept p.slave))
    (settled_left _ (kept p.master) (commanded_after p.slave v))
    (settled_left _ (kept p.master) (fed_same p.slave v ∙ kept p.slave))
    (λ a b c d. rw (a, b, c, d) (unchanged p))

-- every call; a width other than a byte is refused
pub polls_after : PollsAfter
unfolding outcome port_left
polls_after p (call_claim_irq l) = off_left p (call_claim_irq l) refl
polls_after p claim_pending_interrupt = off_left p claim_pending_interrupt refl
polls_after p (pulse_irq l) = off_left p (pulse_irq l) refl
polls_after p next_interrupt = off_left p next_interrupt refl
polls_after p (call_restore_interrupt c) = off_left p (call_restore_interrupt c) refl
polls_after p (call_handle_read port width) = go (eqb width 1)
  where
    go : (b : Bool)
        → Left p (cond b (record { state = port_left p port; reply = value_reply (port_read p port) }) (refused p Unsupported)).state
        false (b && (eqb port 0x20 || eqb port 0x21)) false (b && (eqb port 0xa0 || eqb port 0xa1))
    go true = read_after p port
    go false = unchanged p
polls_after p (call_handle_write port width value) = go (eqb width 1)
  where
    v : ℕ
    v = value % 256

    go : (b : Bool)
        → Left p (cond b (cond (is_port port) (record { state = port_written p port v; reply = reply.Nothing }) (refused p Unsupported)) (refused p Unsupported)).state
        (b && eqb port 0x20 && is_poll_command v) (b && eqb port 0x20 && bit v 4) (b && eqb port 0xa0 && is_poll_command v) (b && eqb port 0xa0 && bit v 4)
    go true = write_after p v port
    go false = unchanged p

-- ---- the profile

pub calls_keep_full : CallsKeepFull
calls_keep_full p c = let k = calls_kept p c in (k.master.1, k.slave.1)
