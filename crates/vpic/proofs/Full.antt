-- The full profile's road, and where it and the other come together in a public call: p, q are pairs, and l, m the words before and after. Assumes nothing.
use Rattle.std.proofs.Common.{Option, Some, None, Result, Ok, Err}
use mathlib.Core.Path.{◌≡◌, refl, sym, ap, ap₂, ◌∙◌}
use mathlib.Core.Bool.{Bool, true, false, not, cond}
use mathlib.Core.List.{List, [], ◌∷◌}
use Prim.Native.Nat.{ℕ, ◌%◌, ◌<◌}
use native.Mathlib.Omega.{arith}
use lib.Dec.{ltb}
use lib.ListN.{set, length, get_or}
use borrow.Author.Tests.{lt-ltb}
use Rattle.utils.proofs.Bools.{both}
use Rattle.types.specs.declared.Refusal.{Refusal}
use Rattle.types.specs.declared.Vector.{Vector}
use Rattle.types.specs.declared.PicLine.{PicLine}
use Rattle.types.specs.declared.PicPlace.{PicPlace}
use Rattle.types.specs.declared.PicPlace.TheVariants.{Master, Slave}
use Rattle.types.specs.Counters.{place_of}
use Rattle.vpic_chip.specs.Registers.{Chip, chip_in, full_in, placed}
use Rattle.types.specs.Reply.{Outcome}
use Rattle.vpic_chip.specs.Chip.{asks, driven, acknowledged, is_polled, polled}
use Rattle.vpic.specs.declared.PicInterruptClaim.{PicInterruptClaim}
use Rattle.vpic.specs.Words.{PicState, is_full, plain_view, full_view, view}
use Rattle.vpic.specs.Pair.{is_cascade, chips, settled, latched_at, latched, StateClaim, state_claim, master_claim, slave_claim, pending_place, claim_at, claim_pending, claim_irq, restored_at, restored, restore_interrupt, Port, master_command, master_data, slave_command, slave_data, no_port, port_at, written_to, written_at, is_port, master_read, slave_read, left_after, port_read, port_left, port_written, value_reply, handle_read, handle_write, claim_vector, with_claim, with_vector, claim_outcome, vector_outcome, done_outcome, value_outcome, done_reply}
use Rattle.vpic.specs.Claim.{claim_in, claim_number, numbered, with_number, master_taken, slave_taken, is_quiet, port_outcome, settled_outcome, byte_shown, plain_shown}
use Rattle.vpic.proofs.Laws.{settle_off, settle_on, claim_known, irq_reply, irq_vector, pending_vector, quiet, unasked, restore_way, restore_done, write_by}

-- ---- the full road

pub full_master_set : (l : List ℕ) (w : ℕ) → length l ≡ 4 → full_view (set l 0 w) ≡ chips (full_view l) (placed true (full_in w)) (full_view l).slave
unfolding full_view
full_master_set [] w h = absurd (omega arith)
full_master_set (x ∷ l) w h = refl

pub full_slave_set : (l : List ℕ) (w : ℕ) → length l ≡ 4 → full_view (set l 1 w) ≡ chips (full_view l) (full_view l).master (placed false (full_in w))
unfolding full_view
full_slave_set [] w h = absurd (omega arith)
full_slave_set (x ∷ []) w h = absurd (omega arith)
full_slave_set (x ∷ y ∷ l) w h = refl

-- the rule is the same, however the chips are taken
same_rule : (l : List ℕ) → is_cascade (plain_view l) ≡ is_cascade (full_view l)
unfolding plain_view full_view
same_rule l = refl

module _ (l : List ℕ) (b : Bool) (e : b ≡ is_cascade (plain_view l)) where
  pub full_settle_off : not b ≡ true → full_view l ≡ settled (full_view l)
  full_settle_off n = settle_off (full_view l) b (e ∙ same_rule l) n

  pub full_settle_on : (q : PicState) (s m d : Chip) (up : Bool) → not b ≡ false → s ≡ (full_view l).slave → up ≡ asks s → m ≡ (full_view l).master → d ≡ driven m 2 up → q ≡ chips (full_view l) d (full_view l).slave
      → q ≡ settled (full_view l)
  full_settle_on q s m d up n es eu em ed eq = settle_on (full_view l) q s m d b up (e ∙ same_rule l) n es eu em ed eq

-- a claim, settled
module _ (p q r : PicState) (a : Option PicPlace) (k : PicLine) (c : Option PicInterruptClaim) (ea : a ≡ pending_place p) (er : r ≡ settled q) where
  pub full_claim_master : (y : PicPlace) → a ≡ Some y → y ≡ Master k → state_claim q c ≡ master_taken p k → state_claim r c ≡ claim_pending p
  unfolding master_claim
  full_claim_master y ay ey e =
      let h : a ≡ Some (Master k) = ay ∙ ap Some ey in
      ap (λ (x : PicState). state_claim x c) er ∙ ap (λ (x : StateClaim). state_claim (settled x.state) x.claim) e ∙ claim_known p (Some (Master k)) (sym ea ∙ h)

  pub full_claim_slave : (y : PicPlace) → a ≡ Some y → y ≡ Slave k → state_claim q c ≡ slave_taken p k → state_claim r c ≡ claim_pending p
  unfolding slave_claim
  full_claim_slave y ay ey e =
      let h : a ≡ Some (Slave k) = ay ∙ ap Some ey in
      ap (λ (x : PicState). state_claim x c) er ∙ ap (λ (x : StateClaim). state_claim (settled x.state) x.claim) e ∙ claim_known p (Some (Slave k)) (sym ea ∙ h)

pub full_claim_none : (p r : PicState) (a : Option PicPlace) → a ≡ pending_place p → a ≡ None → r ≡ settled p → state_claim r None ≡ claim_pending p
full_claim_none p r a ea h er = ap (λ (x : PicState). state_claim x None) er ∙ claim_known p None (sym ea ∙ h)

pub full_restored : (p q r : PicState) (x : Option PicPlace) (f g : Bool) → q ≡ restored_at p x f g → r ≡ settled q → r ≡ settled (restored_at p x f g)
full_restored p q r x f g eq er = er ∙ ap settled eq

-- ---- no call changes the rule

settled_rule : (p : PicState) → (settled p).rule ≡ p.rule
unfolding settled
settled_rule p = both (λ (q : PicState). q.rule ≡ p.rule) (is_cascade p) _ _ refl refl

claim_rule : (p : PicState) → (claim_pending p).state.rule ≡ p.rule
unfolding master_claim slave_claim
claim_rule p = sym (ap (λ (x : StateClaim). x.state.rule) (claim_known p (pending_place p) refl)) ∙ go (pending_place p)
  where
    go : (a : Option PicPlace) → (claim_at p a).state.rule ≡ p.rule
    go (Some (Master k)) = settled_rule (chips p (acknowledged p.master k.0) p.slave)
    go (Some (Slave k)) = settled_rule (chips p (acknowledged p.master 2) (acknowledged p.slave k.0))
    go None = settled_rule p

raise_rule : (l : PicLine) (p : PicState) → (claim_irq p l).state.rule ≡ p.rule
unfolding claim_irq latched
raise_rule l p = both (λ (r : StateClaim). r.state.rule ≡ p.rule) (ltb l.0 16) _ _ (claim_rule (latched p l) ∙ settled_rule (latched_at p (place_of l)) ∙ go (place_of l)) refl
  where
    go : (a : Option PicPlace) → (latched_at p a).rule ≡ p.rule
    go (Some (Master k)) = refl
    go (Some (Slave k)) = refl
    go None = refl

restored_rule : (c : PicInterruptClaim) (p : PicState) → (restored p c).rule ≡ p.rule
unfolding restored
restored_rule c p = settled_rule (restored_at p (place_of c.irq) c.master_in_service c.slave_in_service) ∙ go (place_of c.irq)
  where
    go : (a : Option PicPlace) → (restored_at p a c.master_in_service c.slave_in_service).rule ≡ p.rule
    go (Some (Master k)) = refl
    go (Some (Slave k)) = refl
    go None = refl

written_rule : (port byte : ℕ) (p : PicState) → (port_written p port byte).rule ≡ p.rule
unfolding port_written written_at
written_rule port byte p = settled_rule (written_to p (port_at port) byte) ∙ go (port_at port)
  where
    go : (a : Port) → (written_to p a byte).rule ≡ p.rule
    go master_command = refl
    go master_data = refl
    go slave_command = refl
    go slave_data = refl
    go no_port = refl

-- ---- the two roads come together

view_plain : (l : List ℕ) → is_full (view l).rule ≡ false → view l ≡ plain_view l
unfolding view plain_view
view_plain l e = rw e

view_full : (l : List ℕ) → is_full (view l).rule ≡ true → view l ≡ full_view l
unfolding view full_view
view_full l e = rw e

plain_rule : (l : List ℕ) → (plain_view l).rule ≡ (view l).rule
unfolding view plain_view
plain_rule l = refl

full_rule : (l : List ℕ) → (full_view l).rule ≡ (view l).rule
unfolding view full_view
full_rule l = refl

module _ (l m : List ℕ) (f : PicState → PicState) (keeps : (p : PicState) → (f p).rule ≡ p.rule) where
  by_plain : is_full (view l).rule ≡ false → plain_view m ≡ f (plain_view l) → view m ≡ f (view l)
  by_plain e q =
      let r : (view m).rule ≡ (view l).rule = sym (plain_rule m) ∙ ap (λ (p : PicState). p.rule) q ∙ keeps (plain_view l) ∙ plain_rule l in
      view_plain m (ap is_full r ∙ e) ∙ q ∙ ap f (sym (view_plain l e))

  by_full : is_full (view l).rule ≡ true → full_view m ≡ f (full_view l) → view m ≡ f (view l)
  by_full e q =
      let r : (view m).rule ≡ (view l).rule = sym (full_rule m) ∙ ap (λ (p : PicState). p.rule) q ∙ keeps (full_view l) ∙ full_rule l in
      view_full m (ap is_full r ∙ e) ∙ q ∙ ap f (sym (view_full l e))

module _ (l m : List ℕ) (c : Option PicInterruptClaim) (f : PicState → StateClaim) (keeps : (p : PicState) → (f p).state.rule ≡ p.rule) where
  claim_plain : is_full (view l).rule ≡ false → state_claim (plain_view m) c ≡ f (plain_view l) → state_claim (view m) c ≡ f (view l)
  claim_plain e q =
      ap₂ state_claim (by_plain l m (λ p. (f p).state) keeps e (ap (λ (x : StateClaim). x.state) q)) (ap (λ (x : StateClaim). x.claim) q ∙ ap (λ (p : PicState). (f p).claim) (sym (view_plain l e)))

  claim_full : is_full (view l).rule ≡ true → state_claim (full_view m) c ≡ f (full_view l) → state_claim (view m) c ≡ f (view l)
  claim_full e q =
      ap₂ state_claim (by_full l m (λ p. (f p).state) keeps e (ap (λ (x : StateClaim). x.state) q)) (ap (λ (x : StateClaim). x.claim) q ∙ ap (λ (p : PicState). (f p).claim) (sym (view_full l e)))

-- a claim, by either road
module _ (l m : List ℕ) (b : Bool) (c d : Option PicInterruptClaim) (eb : b ≡ is_full (view l).rule) (e : d ≡ c) where
  pub irq_plain : (i : PicLine) → b ≡ false → state_claim (plain_view m) c ≡ claim_irq (plain_view l) i → claim_outcome (view m) d ≡ with_claim (claim_irq (view l) i)
  irq_plain i n h = irq_reply (view l) (view m) c d e i (claim_plain l m c (λ p. claim_irq p i) (raise_rule i) (sym eb ∙ n) h)

  pub irq_full : (i : PicLine) → b ≡ true → state_claim (full_view m) c ≡ claim_irq (full_view l) i → claim_outcome (view m) d ≡ with_claim (claim_irq (view l) i)
  irq_full i n h = irq_reply (view l) (view m) c d e i (claim_full l m c (λ p. claim_irq p i) (raise_rule i) (sym eb ∙ n) h)

  pub pulse_plain : (i : PicLine) (v : Option Vector) → b ≡ false → v ≡ claim_vector d → state_claim (plain_view m) c ≡ claim_irq (plain_view l) i → vector_outcome (view m) v ≡ with_vector (claim_irq (view l) i)
  pulse_plain i v n w h = irq_vector (view l) (view m) c d e i v w (claim_plain l m c (λ p. claim_irq p i) (raise_rule i) (sym eb ∙ n) h)

  pub pulse_full : (i : PicLine) (v : Option Vector) → b ≡ true → v ≡ claim_vector d → state_claim (full_view m) c ≡ claim_irq (full_view l) i → vector_outcome (view m) v ≡ with_vector (claim_irq (view l) i)
  pulse_full i v n w h = irq_vector (view l) (view m) c d e i v w (claim_full l m c (λ p. claim_irq p i) (raise_rule i) (sym eb ∙ n) h)

-- and its number
pub claim_numbered : (q : PicState) (n : ℕ) (x : StateClaim) → n ≡ claim_number (claim_in n) → state_claim q (claim_in n) ≡ x → numbered q n ≡ with_number x
claim_numbered q n x e h = ap (numbered q) e ∙ ap with_number h

module _ (l m : List ℕ) (b : Bool) (n : ℕ) (eb : b ≡ is_full (view l).rule) (e : n ≡ claim_number (claim_in n)) where
  pub irq_plain_number : (i : PicLine) → b ≡ false → state_claim (plain_view m) (claim_in n) ≡ claim_irq (plain_view l) i → numbered (view m) n ≡ with_number (claim_irq (view l) i)
  irq_plain_number i f h = claim_numbered (view m) n _ e (claim_plain l m (claim_in n) (λ p. claim_irq p i) (raise_rule i) (sym eb ∙ f) h)

  pub irq_full_number : (i : PicLine) → b ≡ true → state_claim (full_view m) (claim_in n) ≡ claim_irq (full_view l) i → numbered (view m) n ≡ with_number (claim_irq (view l) i)
  irq_full_number i f h = claim_numbered (view m) n _ e (claim_full l m (claim_in n) (λ p. claim_irq p i) (raise_rule i) (sym eb ∙ f) h)

-- what can be delivered, claimed by either road
module _ (l m : List ℕ) (b : Bool) (n : ℕ) (eb : b ≡ is_full (view l).rule) where
  pub open_plain : b ≡ false → state_claim (plain_view m) (claim_in n) ≡ claim_pending (plain_view l) → state_claim (view m) (claim_in n) ≡ claim_pending (view l)
  open_plain f h = claim_plain l m (claim_in n) claim_pending claim_rule (sym eb ∙ f) h

  pub open_full : b ≡ true → state_claim (full_view m) (claim_in n) ≡ claim_pending (full_view l) → state_claim (view m) (claim_in n) ≡ claim_pending (view l)
  open_full f h = claim_full l m (claim_in n) claim_pending claim_rule (sym eb ∙ f) h

module _ (l m : List ℕ) (b a : Bool) (c : Chip) (eb : b ≡ is_full (view l).rule) (n : b ≡ false) (ec : c ≡ (plain_view l).master) (ea : a ≡ asks c) (u : not a ≡ true) (em : plain_view m ≡ settled (plain_view l)) where
  pub open_unasked : state_claim (view m) (claim_in 0) ≡ claim_pending (view l)
  open_unasked = open_plain l m b 0 eb n (unasked (plain_view l) (plain_view m) c a ec ea u em)

  pub unasked_vector : vector_outcome (view m) None ≡ with_vector (claim_pending (view l))
  unasked_vector = ap with_vector open_unasked

pub next_plain : (l m : List ℕ) (b : Bool) (n : ℕ) (d : Option PicInterruptClaim) (v : Option Vector) → b ≡ is_full (view l).rule → b ≡ false → d ≡ claim_in n → v ≡ claim_vector d
    → state_claim (plain_view m) (claim_in n) ≡ claim_pending (plain_view l) → vector_outcome (view m) v ≡ with_vector (claim_pending (view l))
next_plain l m b n d v eb f e w h = pending_vector (view l) (view m) (claim_in n) d e v w (open_plain l m b n eb f h)

-- nothing to claim, found at once by either road
same_quiet : (l : List ℕ) → is_quiet (plain_view l) ≡ is_quiet (view l)
unfolding view plain_view
same_quiet l = go (is_full (get_or l 2 0))
  where
    go : (b : Bool) → is_quiet (record { rule = get_or l 2 0; master = chip_in (get_or l 0 0); slave = chip_in (get_or l 1 0); spare = get_or l 3 0 })
        ≡ is_quiet (record { rule = get_or l 2 0; master = cond b (placed true (full_in (get_or l 0 0))) (chip_in (get_or l 0 0)); slave = cond b (placed false (full_in (get_or l 1 0))) (chip_in (get_or l 1 0)); spare = get_or l 3 0 })
    go true = refl
    go false = refl

module _ (l : List ℕ) (q : Bool) (eq : q ≡ is_quiet (plain_view l)) (t : q ≡ true) where
  pub quiet_reply : claim_outcome (view l) None ≡ with_claim (claim_pending (view l))
  quiet_reply = ap with_claim (quiet (view l) q (eq ∙ same_quiet l) t)

  pub quiet_number : numbered (view l) 0 ≡ with_number (claim_pending (view l))
  quiet_number = ap with_number (quiet (view l) q (eq ∙ same_quiet l) t)

  pub quiet_vector : vector_outcome (view l) None ≡ with_vector (claim_pending (view l))
  quiet_vector = ap with_vector (quiet (view l) q (eq ∙ same_quiet l) t)

-- a claim restored, by either road
module _ (l m : List ℕ) (b : Bool) (c : PicInterruptClaim) (o : Option PicPlace) (x : PicPlace) (eo : o ≡ place_of c.irq) (ex : o ≡ Some x) (eb : b ≡ is_full (view l).rule) where
  pub restore_plain : (q : PicState) → b ≡ false → q ≡ restored_at (plain_view l) (Some x) c.master_in_service c.slave_in_service → plain_view m ≡ settled q
      → done_outcome (view m) (Ok tt) ≡ restore_interrupt (view l) c
  restore_plain q n eq em =
      restore_done (view l) c o eo (view m) x ex (by_plain l m (λ p. restored p c) (restored_rule c) (sym eb ∙ n) (restore_way (plain_view l) c o eo q (plain_view m) x ex eq em))

  pub restore_full : b ≡ true → full_view m ≡ settled (restored_at (full_view l) (Some x) c.master_in_service c.slave_in_service)
      → done_outcome (view m) (Ok tt) ≡ restore_interrupt (view l) c
  restore_full n e =
      restore_done (view l) c o eo (view m) x ex (by_full l m (λ p. restored p c) (restored_rule c) (sym eb ∙ n) (restore_way (full_view l) c o eo _ (full_view m) x ex refl e))

  pub restore_full_low : (i : PicLine) → b ≡ true → i ≡ c.irq → i.0 < 8 → full_view m ≡ settled (restored_at (full_view l) (Some (Master i)) c.master_in_service c.slave_in_service)
      → done_outcome (view m) (Ok tt) ≡ restore_interrupt (view l) c
  restore_full_low i n ei k e =
      let low : Some (Master i) ≡ place_of c.irq = rw (sym ei, lt-ltb i.0 8 k) in
      restore_full n (e ∙ ap (λ (y : Option PicPlace). settled (restored_at (full_view l) y c.master_in_service c.slave_in_service)) (low ∙ sym eo ∙ ex))

-- a port written, by either road
settled_rule_of : (port byte : ℕ) (p : PicState) → (settled_outcome p port byte).state.rule ≡ p.rule
settled_rule_of port byte p = both (λ (o : Outcome PicState). o.state.rule ≡ p.rule) (is_port port) _ _ (written_rule port byte p) refl

module _ (l m : List ℕ) (port width value byte : ℕ) (b : Bool) (d : Result (Unit {0}) Refusal) (h : width ≡ 1) (eb : b ≡ is_full (view l).rule) (ey : byte ≡ value % 256) where
  pub write_plain : b ≡ false → done_outcome (plain_view m) d ≡ settled_outcome (plain_view l) port byte → done_outcome (view m) d ≡ handle_write (view l) port width value
  write_plain n e =
      let f : is_full (view l).rule ≡ false = sym eb ∙ n in
      let s : view m ≡ (settled_outcome (view l) port byte).state = by_plain l m (λ p. (settled_outcome p port byte).state) (settled_rule_of port byte) f (ap (λ (o : Outcome PicState). o.state) e) in
      let r : done_reply d ≡ (settled_outcome (view l) port byte).reply = ap (λ (o : Outcome PicState). o.reply) e ∙ ap (λ (p : PicState). (settled_outcome p port byte).reply) (sym (view_plain l f)) in
      write_by (view l) _ port width value byte h ey (λ i. record { state = s i; reply = r i })

  pub write_full : b ≡ true → done_outcome (full_view m) d ≡ settled_outcome (full_view l) port byte → done_outcome (view m) d ≡ handle_write (view l) port width value
  write_full n e =
      let f : is_full (view l).rule ≡ true = sym eb ∙ n in
      let s : view m ≡ (settled_outcome (view l) port byte).state = by_full l m (λ p. (settled_outcome p port byte).state) (settled_rule_of port byte) f (ap (λ (o : Outcome PicState). o.state) e) in
      let r : done_reply d ≡ (settled_outcome (view l) port byte).reply = ap (λ (o : Outcome PicState). o.reply) e ∙ ap (λ (p : PicState). (settled_outcome p port byte).reply) (sym (view_full l f)) in
      write_by (view l) _ port width value byte h ey (λ i. record { state = s i; reply = r i })

pub write_plain_refused : (l m : List ℕ) (port width value byte : ℕ) (b : Bool) (why : Refusal) → width ≡ 1 → b ≡ is_full (view l).rule → byte ≡ value % 256 → b ≡ false
    → done_outcome (plain_view m) (Err why) ≡ settled_outcome (plain_view l) port byte → done_outcome (view m) (Err why) ≡ handle_write (view l) port width value
write_plain_refused l m port width value byte b why h eb ey n e = write_plain l m port width value byte b (Err why) h eb ey n e

-- a port read, by either road
left_rule : (port : ℕ) (p : PicState) → (port_left p port).rule ≡ p.rule
unfolding port_left
left_rule port p = go (port_at port)
  where
    of_master : (master_read p).rule ≡ p.rule
    of_master = both (λ (q : PicState). q.rule ≡ p.rule) (is_polled p.master) _ _ (settled_rule (chips p (polled p.master) p.slave)) refl

    of_slave : (slave_read p).rule ≡ p.rule
    of_slave = both (λ (q : PicState). q.rule ≡ p.rule) (is_polled p.slave) _ _ (settled_rule (chips p p.master (polled p.slave))) refl

    go : (a : Port) → (left_after p a).rule ≡ p.rule
    go master_command = of_master
    go master_data = of_master
    go slave_command = of_slave
    go slave_data = of_slave
    go no_port = refl

-- without a poll nothing changes
plain_left : (l : List ℕ) (port : ℕ) → port_left (plain_view l) port ≡ plain_view l
unfolding plain_view chip_in port_left
plain_left l port = go (port_at port)
  where
    go : (a : Port) → left_after (plain_view l) a ≡ plain_view l
    go master_command = refl
    go master_data = refl
    go slave_command = refl
    go slave_data = refl
    go no_port = refl

module _ (l : List ℕ) (port width : ℕ) (b : Bool) (v : Result ℕ Refusal) (w : width ≡ 1) (eb : b ≡ is_full (view l).rule) where
  pub read_plain : b ≡ false → v ≡ port_read (plain_view l) port → value_outcome (view l) v ≡ handle_read (view l) port width
  read_plain n e =
      let q : view l ≡ plain_view l = view_plain l (sym eb ∙ n) in
      rw w (ap₂ value_outcome (q ∙ sym (plain_left l port) ∙ ap (λ (p : PicState). port_left p port) (sym q)) (e ∙ ap (λ (p : PicState). port_read p port) (sym q)))

  pub read_full : (m : List ℕ) → b ≡ true → value_outcome (full_view m) v ≡ port_outcome (full_view l) port → value_outcome (view m) v ≡ handle_read (view l) port width
  read_full m n e =
      let f : is_full (view l).rule ≡ true = sym eb ∙ n in
      let s : view m ≡ port_left (view l) port = by_full l m (λ p. port_left p port) (left_rule port) f (ap (λ (o : Outcome PicState). o.state) e) in
      let r : value_reply v ≡ value_reply (port_read (view l) port) = ap (λ (o : Outcome PicState). o.reply) e ∙ ap (λ (p : PicState). value_reply (port_read p port)) (sym (view_full l f)) in
      rw w (λ i. record { state = s i; reply = r i })

-- what a read shows where that is all that it does
module _ (l : List ℕ) (port : ℕ) (b : Bool) (eb : b ≡ is_full (view l).rule) where
  pub shown_full : b ≡ true → None ≡ plain_shown (view l) port
  shown_full t = ap (λ (x : Bool). cond x None (byte_shown (port_read (view l) port))) (sym t ∙ eb)

  pub shown_plain : (v : Result ℕ Refusal) (o : Option ℕ) → b ≡ false → v ≡ port_read (plain_view l) port → o ≡ byte_shown v → o ≡ plain_shown (view l) port
  shown_plain v o f e eo =
      let z : is_full (view l).rule ≡ false = sym eb ∙ f in
      eo ∙ ap byte_shown e ∙ ap (λ (p : PicState). byte_shown (port_read p port)) (sym (view_plain l z)) ∙ ap (λ (x : Bool). cond x None (byte_shown (port_read (view l) port))) (sym z)

-- where it shows a byte, the read is that
pub shown_read : (l : List ℕ) (port n : ℕ) (o : Option ℕ) → o ≡ plain_shown (view l) port → o ≡ Some n → value_outcome (view l) (Ok n) ≡ handle_read (view l) port 1
shown_read l port n o e h = go (is_full (view l).rule) refl (sym h ∙ e)
  where
    value : (v : Result ℕ Refusal) → Some n ≡ byte_shown v → Ok n ≡ v
    value (Ok byte) q = let k : n ≡ byte = cc in ap Ok k
    value (Err why) q = let z : ◌≡◌ {A = ℕ} 0 1 = cc in absurd (omega (arith, z))

    go : (b : Bool) → is_full (view l).rule ≡ b → Some n ≡ cond b None (byte_shown (port_read (view l) port)) → value_outcome (view l) (Ok n) ≡ handle_read (view l) port 1
    go true f q = let z : ◌≡◌ {A = ℕ} 0 1 = cc in absurd (omega (arith, z))
    go false f q =
        read_plain l port 1 false (Ok n) refl (sym f) refl (value (port_read (view l) port) q ∙ ap (λ (p : PicState). port_read p port) (view_plain l f))
