-- A law for each way out of the pair's functions, in views alone: p is the pair before, and each later one is said from the last. Assumes nothing.
use Rattle.std.proofs.Common.{Option, Some, None, Result, Ok, Err}
use mathlib.Core.Path.{◌≡◌, refl, sym, ap, ap₂, ◌∙◌}
use mathlib.Core.Bool.{Bool, true, false, not, cond, ◌&&◌}
use mathlib.Core.List.{List, [], ◌∷◌}
use Prim.Native.Nat.{ℕ, ◌+◌, ◌-◌, ◌%◌, ◌^◌, ◌<◌}
use native.Mathlib.Omega.{arith}
use native.Mathlib.Nat.{zero-div}
use lib.Dec.{ltb, eqb}
use lib.ListN.{set, length}
use borrow.Author.Tests.{lt-ltb, ltb-true, ltb-false, not-true, not-false, ne_eqb, eq-eqb, eqb-true}
use Rattle.types.specs.declared.Vector.{Vector}
use Rattle.utils.specs.Set.{bit, with, outside}
use Rattle.utils.proofs.Bools.{never}
use Rattle.utils.proofs.Laws.{bit_outside, bit_with_same, with_member, set_of_same}
use Rattle.types.specs.declared.PicLine.{PicLine}
use Rattle.types.specs.declared.PicPlace.{PicPlace}
use Rattle.types.specs.declared.PicPlace.TheVariants.{Master, Slave}
use Rattle.types.specs.declared.Refusal.TheVariants.{Unsupported, OutOfRange}
use Rattle.types.specs.Counters.{place_of, line_vector}
use Rattle.types.specs.declared.Reply.{Reply}
use Rattle.types.specs.declared.Reply.TheVariants as reply
use Rattle.types.specs.Reply.{Outcome}
use Rattle.vpic_chip.specs.declared.PicChip.{PicChip}
use Rattle.vpic_chip.specs.Registers.{Chip, chip_in, as_full, placed}
use Rattle.vpic_chip.specs.Chip.{pulsed, asks, cascade_irq, driven, pending_irq, acknowledged, acknowledge, unacknowledged, commanded, fed, command_read, opened, vector_reply, counts, is_polled, poll_shown, polled, read_shown, poll_read}
use Rattle.vpic_chip.proofs.Laws.{asks_none, counted_idle, vector_reply_same}
use Rattle.vpic.specs.declared.PicRule.{PicRule}
use Rattle.vpic.specs.declared.PicRule.TheVariants.{Latch, Cascade, Full}
use Rattle.vpic.specs.declared.PicInterruptClaim.{PicInterruptClaim}
use Rattle.vpic.specs.declared.PicPort.{PicPort}
use Rattle.vpic.specs.declared.PicPort.TheVariants.{MasterCommand, MasterData, SlaveCommand, SlaveData}
use Rattle.types.specs.declared.Refusal.{Refusal}
use Rattle.vpic.specs.Words.{PicState, plain_view, view}
use Rattle.vpic.specs.Pair.{rule_number, rule_in, drives, chips, is_cascade, settled, Keeps, is_place, latched_at, latched, StateClaim, state_claim, grew, claim_of, master_claim, slave_claim, pending_place, claim_at, claim_pending, claim_irq, restored_at, restored, restore_interrupt, Port, master_command, master_data, slave_command, slave_data, no_port, port_at, is_there, written_to, written_at, is_port, port_written, handle_write, master_read, slave_read, port_read, port_left, new_state, claim_vector, with_claim, with_vector, claim_outcome, vector_outcome, done_outcome, value_outcome, at_port, found_at, port_found, read_from, left_after, value_reply, refused, done_reply}
use Rattle.vpic.specs.Claim.{master_taken, slave_taken, taken_at, is_quiet, ReadOf, port_outcome, write_outcome, settled_outcome}
use Rattle.vpic.proofs.Ready.{ready_master, ready_slave, low_slave}
use Rattle.vpic.proofs.Settled.{settled_kept, settled_twice, master_leaves, slave_leaves}

-- ---- the words

pub master_set : (l : List ℕ) (w : ℕ) → length l ≡ 4 → plain_view (set l 0 w) ≡ chips (plain_view l) (chip_in w) (plain_view l).slave
unfolding plain_view
master_set [] w h = absurd (omega arith)
master_set (x ∷ l) w h = refl

pub slave_set : (l : List ℕ) (w : ℕ) → length l ≡ 4 → plain_view (set l 1 w) ≡ chips (plain_view l) (plain_view l).master (chip_in w)
unfolding plain_view
slave_set [] w h = absurd (omega arith)
slave_set (x ∷ []) w h = absurd (omega arith)
slave_set (x ∷ y ∷ l) w h = refl

-- ---- a new pair

pub new_done : (l : List ℕ) (m s : PicChip) (n : ℕ) (rule : PicRule) → length l ≡ 4 → chip_in m.0 ≡ opened 0x08 → chip_in s.0 ≡ opened 0x70 → n ≡ rule_number rule
    → view (set (set (set (set l 0 m.0) 1 s.0) 2 n) 3 0) ≡ new_state rule
unfolding view new_state
new_done [] m s n rule h em es en = absurd (omega arith)
new_done (x ∷ []) m s n rule h em es en = absurd (omega arith)
new_done (x ∷ y ∷ []) m s n rule h em es en = absurd (omega arith)
new_done (x ∷ y ∷ z ∷ []) m s n rule h em es en = absurd (omega arith)
new_done (x ∷ y ∷ z ∷ u ∷ l) m s n Latch h em es en =
    λ i. record { rule = en i; master = cond (eqb (en i) 2) (placed true (as_full (em i))) (em i); slave = cond (eqb (en i) 2) (placed false (as_full (es i))) (es i); spare = 0 }
new_done (x ∷ y ∷ z ∷ u ∷ l) m s n Cascade h em es en =
    λ i. record { rule = en i; master = cond (eqb (en i) 2) (placed true (as_full (em i))) (em i); slave = cond (eqb (en i) 2) (placed false (as_full (es i))) (es i); spare = 0 }
new_done (x ∷ y ∷ z ∷ u ∷ l) m s n Full h em es en =
    λ i. record { rule = en i; master = cond (eqb (en i) 2) (placed true (as_full (em i))) (em i); slave = cond (eqb (en i) 2) (placed false (as_full (es i))) (es i); spare = 0 }

-- the rule that drives line 2
pub cascade_not : (p : PicState) (r : PicRule) → r ≡ rule_in p.rule → r ≡ Latch → false ≡ is_cascade p
cascade_not p r e f = ap drives (sym f ∙ e)

pub cascade_is : (p : PicState) (r : PicRule) → r ≡ rule_in p.rule → r ≡ Cascade → true ≡ is_cascade p
cascade_is p r e f = ap drives (sym f ∙ e)

pub cascade_full : (p : PicState) (r : PicRule) → r ≡ rule_in p.rule → r ≡ Full → true ≡ is_cascade p
cascade_full p r e f = ap drives (sym f ∙ e)

-- ---- settling and latching

pub settle_off : (p : PicState) (b : Bool) → b ≡ is_cascade p → not b ≡ true → p ≡ settled p
unfolding settled
settle_off p b e n = rw (sym e ∙ not-true b n)

pub settle_none : (p q : PicState) (s m d : Chip) (b : Bool) (n : ℕ) → b ≡ is_cascade p → not b ≡ false → s ≡ p.slave → n ≡ s.request → n ≡ 0 → m ≡ p.master → d ≡ driven m 2 false → q ≡ chips p d p.slave
    → q ≡ settled p
unfolding settled
settle_none p q s m d b n e t es en z em ed eq = let eu : false ≡ asks s = asks_none s n en z in rw (sym e ∙ not-false b t) (cc)

pub settle_on : (p q : PicState) (s m d : Chip) (b up : Bool) → b ≡ is_cascade p → not b ≡ false → s ≡ p.slave → up ≡ asks s → m ≡ p.master → d ≡ driven m 2 up → q ≡ chips p d p.slave
    → q ≡ settled p
unfolding settled
settle_on p q s m d b up e n es eu em ed eq = rw (sym e ∙ not-false b n) (cc)

module _ (p q : PicState) (x : PicPlace) (m d : Chip) (k : PicLine) (em : m ≡ p.master) (eq : q ≡ chips p d p.slave) where
  pub latch_master : x ≡ Master k → d ≡ pulsed m k → q ≡ latched_at p (Some x)
  latch_master ex ed = rw ex (cc)

  pub latch_slave : (r : PicState) (s e : Chip) → x ≡ Slave k → d ≡ pulsed m cascade_irq → s ≡ q.slave → e ≡ pulsed s k → r ≡ chips q q.master e → r ≡ latched_at p (Some x)
  latch_slave r s e ex ed es ee er = rw ex (cc)

  pub back_master : (f g : Bool) → x ≡ Master k → d ≡ unacknowledged m k f → q ≡ restored_at p (Some x) f g
  back_master f g ex ed = rw ex (cc)

  pub back_slave : (r : PicState) (s e : Chip) (f g : Bool) → x ≡ Slave k → d ≡ unacknowledged m cascade_irq f → s ≡ q.slave → e ≡ unacknowledged s k g → r ≡ chips q q.master e → r ≡ restored_at p (Some x) f g
  back_slave r s e f g ex ed es ee er = rw ex (cc)

-- ---- whose line is pending

module _ (p : PicState) (m : Chip) (a : Option PicLine) (em : m ≡ p.master) (ea : a ≡ pending_irq m) where
  pub place_nowhere : a ≡ None → None ≡ pending_place p
  place_nowhere e = rw (← em, ← ea, e)

  pub place_master : (k : PicLine) → a ≡ Some k → (k.0 ≡ 2 → ⊥) → Some (Master k) ≡ pending_place p
  place_master k e n = rw (← em, ← ea, e, ne_eqb k.0 2 n)

  pub place_cascade : (k : PicLine) (s : Chip) (b : Option PicLine) → a ≡ Some k → k.0 ≡ 2 → s ≡ p.slave → b ≡ pending_irq s → b ≡ None → Some (Master cascade_irq) ≡ pending_place p
  place_cascade k s b e n es eb f = rw (← em, ← ea, e, n, ← es, ← eb, f)

  pub place_slave : (k : PicLine) (s : Chip) (b : Option PicLine) (j : PicLine) → a ≡ Some k → k.0 ≡ 2 → s ≡ p.slave → b ≡ pending_irq s → b ≡ Some j → Some (Slave j) ≡ pending_place p
  place_slave k s b j e n es eb f = rw (← em, ← ea, e, n, ← es, ← eb, f)

-- ---- a line is taken

-- nothing comes into a set that stays as it is, and where k comes in, it isn't empty
pub none_new : (n : ℕ) → eqb (outside 8 n n) 0 ≡ true
unfolding outside
none_new n = ap (λ (m : ℕ). eqb m 0) (set_of_same 8 (λ (k : ℕ). bit n k && not (bit n k)) (λ (k : ℕ). false) (λ k l. go (bit n k)))
  where
    go : (b : Bool) → (b && not b) ≡ false
    go true = refl
    go false = refl

one_new : (n k : ℕ) → k < 8 → bit n k ≡ false → eqb (outside 8 (with n k) n) 0 ≡ false
one_new n k l e = ne_eqb (outside 8 (with n k) n) 0 (λ z. never there (ap (λ (m : ℕ). bit m k) z ∙ ap (λ (m : ℕ). eqb (m % 2) 1) (zero-div (2 ^ k))))
  where
    there : bit (outside 8 (with n k) n) k ≡ true
    there = bit_outside 8 (with n k) n k l ∙ rw (bit_with_same n k, e)

-- a line that wasn't in service is put there by its acknowledgement, but in automatic EOI mode
pub grew_taken : (c : Chip) (k : ℕ) → k < 8 → bit c.in_service k ≡ false → grew c (acknowledged c k) ≡ not c.auto_eoi
unfolding acknowledged
grew_taken c k l e = go c.auto_eoi
  where
    go : (b : Bool) → not (eqb (outside 8 (cond b c.in_service (with c.in_service k)) c.in_service) 0) ≡ not b
    go true = ap not (none_new c.in_service)
    go false = ap not (one_new c.in_service k l e)

-- in every mode: the set is another one then
pub grew_other : (c : Chip) (k : ℕ) → k < 8 → grew c (acknowledged c k) ≡ not (eqb (acknowledged c k).in_service c.in_service)
unfolding acknowledged
grew_other c k l = go c.auto_eoi (bit c.in_service k) refl
  where
    same : not (eqb (outside 8 c.in_service c.in_service) 0) ≡ not (eqb c.in_service c.in_service)
    same = ap not (none_new c.in_service ∙ sym (eq-eqb c.in_service c.in_service refl))

    go : (a b : Bool) → bit c.in_service k ≡ b
        → not (eqb (outside 8 (cond a c.in_service (with c.in_service k)) c.in_service) 0) ≡ not (eqb (cond a c.in_service (with c.in_service k)) c.in_service)
    go true b e = same
    go false true e = ap (λ (n : ℕ). not (eqb (outside 8 n c.in_service) 0)) (with_member c.in_service k e) ∙ same ∙ ap (λ (n : ℕ). not (eqb n c.in_service)) (sym (with_member c.in_service k e))
    go false false e =
        ap not (one_new c.in_service k l e)
        ∙ sym (ap not (ne_eqb (with c.in_service k) c.in_service (λ z. never (bit_with_same c.in_service k) (ap (λ (n : ℕ). bit n k) z ∙ e))))

-- without the full profile a line that counts isn't in service
pub plain_idle : (c : Chip) (k : ℕ) → c.full ≡ false → counts c k ≡ true → bit c.in_service k ≡ false
plain_idle c k f e = counted_idle c k e (rw f)

-- what a chip's acknowledgement of one of its lines left
module _ (c a : Chip) (k : PicLine) (v : Option Vector) (l : k.0 < 8) (e : ◌≡◌ {A = Outcome Chip} (record { state = a; reply = vector_reply v }) (acknowledge c k)) where
  ack_is : ◌≡◌ {A = Outcome Chip} (record { state = a; reply = vector_reply v }) (record { state = acknowledged c k.0; reply = vector_reply (Some (line_vector c.vector_base k)) })
  unfolding acknowledge
  ack_is = e ∙ rw (lt-ltb k.0 8 l)

  ack_chip : a ≡ acknowledged c k.0
  ack_chip = ap (λ (o : Outcome Chip). o.state) ack_is

  ack_vector : v ≡ Some (line_vector c.vector_base k)
  ack_vector = vector_reply_same _ _ (ap (λ (o : Outcome Chip). o.reply) ack_is)

  -- its flag: by the set, and without the full profile by the mode
  ack_flag : (f : Bool) → f ≡ not (eqb a.in_service c.in_service) → f ≡ grew c (acknowledged c k.0)
  ack_flag f e = e ∙ ap (λ (d : Chip). not (eqb d.in_service c.in_service)) ack_chip ∙ sym (grew_other c k.0 l)

  mode_flag : (g : Bool) → g ≡ c.auto_eoi → c.full ≡ false → counts c k.0 ≡ true → not g ≡ grew c (acknowledged c k.0)
  mode_flag g eg f n = ap not eg ∙ sym (grew_taken c k.0 l (plain_idle c k.0 f n))

-- the master answers: f is whether its in-service set grew
module _ (p q : PicState) (m a : Chip) (k : PicLine) (v : Option Vector) (c : Option PicInterruptClaim) (em : m ≡ p.master) (eq : q ≡ chips p a p.slave) where
  master_is : (f : Bool) → pending_place p ≡ Some (Master k) → ◌≡◌ {A = Outcome Chip} (record { state = a; reply = vector_reply v }) (acknowledge m k) → f ≡ grew m (acknowledged m k.0) → c ≡ claim_of v k f false
      → state_claim q c ≡ master_taken p k
  unfolding master_claim
  master_is f ep ea ef ec =
      let low : k.0 < 8 = (ready_master p k ep).low in
      let b : a ≡ acknowledged m k.0 = ack_chip m a k v low ea in
      let w : v ≡ Some (line_vector m.vector_base k) = ack_vector m a k v low ea in
      let i : f ≡ grew p.master (acknowledged p.master k.0) = ef ∙ ap (λ (d : Chip). grew d (acknowledged d k.0)) em in
      let n : c ≡ claim_of (Some (line_vector m.vector_base k)) k f false = ec ∙ ap (λ (x : Option Vector). claim_of x k f false) w in
      rw (none_new p.slave.in_service) (cc)

  -- the slave answers
  slave_is : (r : PicState) (s b : Chip) (u : Option Vector) (f g : Bool) → pending_place p ≡ Some (Slave k) → ◌≡◌ {A = Outcome Chip} (record { state = a; reply = vector_reply u }) (acknowledge m cascade_irq)
      → s ≡ p.slave → ◌≡◌ {A = Outcome Chip} (record { state = b; reply = vector_reply v }) (acknowledge s k) → r ≡ chips q q.master b
      → f ≡ grew m (acknowledged m 2) → g ≡ grew s (acknowledged s k.0) → c ≡ claim_of v (record { 0 = k.0 + 8 }) f g → state_claim r c ≡ slave_taken p k
  unfolding slave_claim
  slave_is r s b u f g ep ea es eb er ef eg ec =
      let x : a ≡ acknowledged m 2 = ack_chip m a cascade_irq u (omega arith) ea in
      let y : b ≡ acknowledged s k.0 = ack_chip s b k v (low_slave p k ep) eb in
      let w : v ≡ Some (line_vector s.vector_base k) = ack_vector s b k v (low_slave p k ep) eb in
      let i : f ≡ grew p.master (acknowledged p.master 2) = ef ∙ ap (λ (d : Chip). grew d (acknowledged d 2)) em in
      let j : g ≡ grew p.slave (acknowledged p.slave k.0) = eg ∙ ap (λ (d : Chip). grew d (acknowledged d k.0)) es in
      let n : c ≡ claim_of (Some (line_vector s.vector_base k)) (record { 0 = k.0 + 8 }) f g = ec ∙ ap (λ (z : Option Vector). claim_of z (record { 0 = k.0 + 8 }) f g) w in
      let z : r ≡ chips p (acknowledged p.master 2) (acknowledged p.slave k.0) =
      er ∙ ap (λ (o : PicState). chips o o.master b) eq
      ∙ ap₂ (λ (d f : Chip). chips p d f) (x ∙ ap (λ (d : Chip). acknowledged d 2) em) (y ∙ ap (λ (d : Chip). acknowledged d k.0) es) in
      let o : c ≡ (slave_claim p k).claim = cc in
      ap₂ state_claim z o

  pub master_taken_lem : (g : Bool) → m.full ≡ false → g ≡ m.auto_eoi → pending_place p ≡ Some (Master k) → ◌≡◌ {A = Outcome Chip} (record { state = a; reply = vector_reply v }) (acknowledge m k) → c ≡ claim_of v k (not g) false
      → state_claim q c ≡ master_taken p k
  master_taken_lem g f eg ep ea ec =
      let h = ready_master p k ep in
      master_is (not g) ep ea (mode_flag m a k v h.low ea g eg f (ap (λ (d : Chip). counts d k.0) em ∙ h.counted)) ec

  pub slave_taken_lem : (g : Bool) (r : PicState) (s b : Chip) (u : Option Vector) (h : Bool) → m.full ≡ false → g ≡ m.auto_eoi → pending_place p ≡ Some (Slave k)
      → ◌≡◌ {A = Outcome Chip} (record { state = a; reply = vector_reply u }) (acknowledge m cascade_irq) → s ≡ p.slave → s.full ≡ false
      → ◌≡◌ {A = Outcome Chip} (record { state = b; reply = vector_reply v }) (acknowledge s k) → r ≡ chips q q.master b → h ≡ s.auto_eoi → c ≡ claim_of v (record { 0 = k.0 + 8 }) (not g) (not h)
      → state_claim r c ≡ slave_taken p k
  slave_taken_lem g r s b u h fm eg ep ea es fs eb er eh ec =
      let y = ready_slave p k ep in
      slave_is r s b u (not g) (not h) ep ea es eb er
      (mode_flag m a cascade_irq u (omega arith) ea g eg fm (ap (λ (d : Chip). counts d 2) em ∙ y.0.counted))
      (mode_flag s b k v y.1.low eb h eh fs (ap (λ (d : Chip). counts d k.0) es ∙ y.1.counted)) ec

  pub full_master_taken : (g : Bool) → g ≡ not (eqb a.in_service m.in_service) → pending_place p ≡ Some (Master k) → ◌≡◌ {A = Outcome Chip} (record { state = a; reply = vector_reply v }) (acknowledge m k)
      → c ≡ claim_of v k g false → state_claim q c ≡ master_taken p k
  full_master_taken g eg ep ea ec = master_is g ep ea (ack_flag m a k v (ready_master p k ep).low ea g eg) ec

  pub full_slave_taken : (g : Bool) (r : PicState) (s b : Chip) (u : Option Vector) (h : Bool) → g ≡ not (eqb a.in_service m.in_service) → pending_place p ≡ Some (Slave k)
      → ◌≡◌ {A = Outcome Chip} (record { state = a; reply = vector_reply u }) (acknowledge m cascade_irq) → s ≡ p.slave
      → ◌≡◌ {A = Outcome Chip} (record { state = b; reply = vector_reply v }) (acknowledge s k) → r ≡ chips q q.master b → h ≡ not (eqb b.in_service s.in_service)
      → c ≡ claim_of v (record { 0 = k.0 + 8 }) g h → state_claim r c ≡ slave_taken p k
  full_slave_taken g r s b u h eg ep ea es eb er eh ec =
      slave_is r s b u g h ep ea es eb er (ack_flag m a cascade_irq u (omega arith) ea g eg) (ack_flag s b k v (low_slave p k ep) eb h eh) ec

-- a slave's line is taken, and the pair settled; or it is in service, and nothing is left to settle
module _ (p q : PicState) (k : PicLine) (c : Option PicInterruptClaim) (e : state_claim q c ≡ slave_taken p k) where
  pub slave_settled : (r : PicState) → r ≡ settled q → state_claim r c ≡ slave_claim p k
  unfolding slave_claim
  slave_settled r er = ap (λ (x : PicState). state_claim x c) er ∙ ap (λ (x : StateClaim). state_claim (settled x.state) x.claim) e

  pub slave_quiet : (s : Chip) (b : Bool) → pending_place p ≡ Some (Slave k) → s ≡ p.slave → b ≡ s.auto_eoi → b ≡ false → state_claim q c ≡ slave_claim p k
  slave_quiet s b ep es eb f = e ∙ slave_leaves p k ep (ap (λ (d : Chip). d.auto_eoi) (sym es) ∙ sym eb ∙ f)

-- a claim at the place that is pending
pub place_known : (p : PicState) (a b : Option PicPlace) → a ≡ pending_place p → a ≡ b → pending_place p ≡ b
place_known p a b e f = sym e ∙ f

pub takes_at : (p : PicState) (a b : Option PicPlace) (x : StateClaim) → a ≡ pending_place p → a ≡ b → x ≡ taken_at p b → x ≡ taken_at p (pending_place p)
takes_at p a b x e f h = h ∙ ap (taken_at p) (sym f ∙ e)

pub takes_none : (p : PicState) (a : Option PicPlace) → a ≡ pending_place p → a ≡ None → state_claim p None ≡ taken_at p (pending_place p)
takes_none p a e f = takes_at p a None (state_claim p None) e f refl

-- the claim of what is pending, by its place. Here and below the place is made a variable first: to find that two sides differ in what is stuck on `pending_place p` takes the check very long
pub claim_known : (p : PicState) (x : Option PicPlace) → pending_place p ≡ x → claim_at p x ≡ claim_pending p
unfolding claim_pending
claim_known p x e = ap (claim_at p) (sym e) ∙ known x e
  where
    known : (y : Option PicPlace) → pending_place p ≡ y → claim_at p (pending_place p) ≡ claim_pending p
    known y f = rw f

-- from a settled pair all is claimed with that
taken_kept : (p : PicState) → settled p ≡ p → taken_at p (pending_place p) ≡ claim_pending p
unfolding claim_pending
taken_kept p s = known (pending_place p) refl
  where
    go : (x : Option PicPlace) → pending_place p ≡ x → taken_at p x ≡ claim_at p x
    go (Some (Master k)) e = master_leaves p k s e
    go (Some (Slave k)) e = refl
    go None e = cc

    known : (x : Option PicPlace) → pending_place p ≡ x → taken_at p (pending_place p) ≡ claim_pending p
    known x e = rw e (go x e)

-- from any pair what is taken is claimed, and the pair is settled then
pub taken_settled : (p q r : PicState) (c : Option PicInterruptClaim) → state_claim q c ≡ taken_at p (pending_place p) → r ≡ settled q → state_claim r c ≡ claim_pending p
unfolding master_claim slave_claim
taken_settled p q r c e er =
    ap (λ (x : PicState). state_claim x c) er ∙ ap (λ (x : StateClaim). state_claim (settled x.state) x.claim) e ∙ go (pending_place p) ∙ claim_known p (pending_place p) refl
  where
    go : (x : Option PicPlace) → state_claim (settled (taken_at p x).state) (taken_at p x).claim ≡ claim_at p x
    go (Some (Master k)) = refl
    go (Some (Slave k)) = ap (λ (x : PicState). state_claim x (slave_claim p k).claim) (settled_twice _ (slave_claim p k).state refl)
    go None = refl

place_there : (l : PicLine) → is_place (place_of l) ≡ ltb l.0 16
place_there l = go (ltb l.0 8) refl (ltb l.0 16) refl
  where
    go : (a : Bool) → ltb l.0 8 ≡ a → (b : Bool) → ltb l.0 16 ≡ b → is_place (cond a (Some (Master l)) (cond b (Some (Slave (record { 0 = l.0 - 8 }))) None)) ≡ b
    go true h true k = refl
    go true h false k = absurd (omega (arith, ltb-true l.0 8 h, ltb-false l.0 16 k))
    go false h true k = refl
    go false h false k = refl

is_there' : (x : PicPlace) → is_place (Some x) ≡ true
is_there' (Master k) = refl
is_there' (Slave k) = refl

-- a line that the pair has is below 16, and its edge is latched
module _ (l : PicLine) (o : Option PicPlace) (eo : o ≡ place_of l) where
  there : (b : Option PicPlace) → o ≡ b → ltb l.0 16 ≡ is_place b
  there b h = sym (place_there l) ∙ ap is_place (sym eo ∙ h)

  there_some : (x : PicPlace) → o ≡ Some x → ltb l.0 16 ≡ true
  there_some x h = there (Some x) h ∙ is_there' x

  pub irq_none : (p : PicState) → o ≡ None → state_claim p None ≡ claim_irq p l
  unfolding claim_irq
  irq_none p h = rw (there None h)

  module _ (p q r : PicState) (x : PicPlace) (s : StateClaim) (ex : o ≡ Some x) (eq : q ≡ latched_at p (Some x)) (er : r ≡ settled q) where
    line_latched : r ≡ latched p l
    unfolding latched
    line_latched = er ∙ ap settled (eq ∙ ap (latched_at p) (sym ex ∙ eo))

    pub irq_some : s ≡ taken_at r (pending_place r) → s ≡ claim_irq p l
    unfolding claim_irq
    irq_some es = es ∙ taken_kept r (settled_twice q r er) ∙ ap claim_pending line_latched ∙ rw (there_some x ex)

    pub irq_claimed : s ≡ claim_pending r → s ≡ claim_irq p l
    unfolding claim_irq
    irq_claimed es = es ∙ ap claim_pending line_latched ∙ rw (there_some x ex)

-- where the master doesn't ask, nothing is claimed, and the pair is settled too
module _ (p q : PicState) (m : Chip) (b : Bool) (em : m ≡ p.master) (eb : b ≡ asks m) (n : not b ≡ true) (eq : q ≡ settled p) where
  place_unasked : pending_place p ≡ None
  unfolding pending_irq asks
  place_unasked = let a : asks p.master ≡ b = ap asks (sym em) ∙ sym eb in rw (a ∙ not-true b n)

  pub unasked : state_claim q None ≡ claim_pending p
  unasked = ap (λ (x : PicState). state_claim x None) eq ∙ claim_known p None place_unasked

-- where nothing is requested, the master doesn't ask, and nothing is left to settle
module _ (p : PicState) (b : Bool) (eb : b ≡ is_quiet p) (t : b ≡ true) where
  none_asked : p.master.request + p.slave.request ≡ 0
  none_asked = eqb-true (p.master.request + p.slave.request) 0 (sym eb ∙ t)

  quiet_kept : Keeps p
  quiet_kept i =
      let m : p.master.request ≡ 0 = omega (arith, none_asked) in
      let s : p.slave.request ≡ 0 = omega (arith, none_asked) in
      ap (λ (n : ℕ). bit n 2) m ∙ asks_none p.slave p.slave.request refl s

  pub quiet : state_claim p None ≡ claim_pending p
  quiet =
      let m : p.master.request ≡ 0 = omega (arith, none_asked) in
      unasked p p p.master (asks p.master) refl refl (ap not (sym (asks_none p.master p.master.request refl m))) (sym (settled_kept p quiet_kept))

module _ (p : PicState) (m : Chip) (a : ℕ) (em : m ≡ p.master) (ea : a ≡ m.request) where
  pub quiet_not : (a ≡ 0 → ⊥) → false ≡ is_quiet p
  quiet_not h = sym (ne_eqb (p.master.request + p.slave.request) 0 (λ z. h (ea ∙ ap (λ (c : Chip). c.request) em ∙ omega (arith, z))))

  pub quiet_is : (s : Chip) (b : ℕ) → a ≡ 0 → s ≡ p.slave → b ≡ s.request → eqb b 0 ≡ is_quiet p
  quiet_is s b z es eb =
      let x : p.master.request ≡ 0 = sym (ea ∙ ap (λ (c : Chip). c.request) em) ∙ z in
      let y : b ≡ p.slave.request = eb ∙ ap (λ (c : Chip). c.request) es in
      let t : b ≡ p.master.request + p.slave.request = omega (arith, x, y) in
      ap (λ (n : ℕ). eqb n 0) t

-- the public calls say the same by the reply
module _ (p q : PicState) (c d : Option PicInterruptClaim) (e : d ≡ c) where
  pub irq_reply : (l : PicLine) → state_claim q c ≡ claim_irq p l → claim_outcome q d ≡ with_claim (claim_irq p l)
  irq_reply l h = ap (claim_outcome q) e ∙ ap with_claim h

  pub pending_reply_lem : state_claim q c ≡ claim_pending p → claim_outcome q d ≡ with_claim (claim_pending p)
  pending_reply_lem h = ap (claim_outcome q) e ∙ ap with_claim h

  pub irq_vector : (l : PicLine) (v : Option Vector) → v ≡ claim_vector d → state_claim q c ≡ claim_irq p l → vector_outcome q v ≡ with_vector (claim_irq p l)
  irq_vector l v w h = ap (vector_outcome q) (w ∙ ap claim_vector e) ∙ ap with_vector h

  pub pending_vector : (v : Option Vector) → v ≡ claim_vector d → state_claim q c ≡ claim_pending p → vector_outcome q v ≡ with_vector (claim_pending p)
  pending_vector v w h = ap (vector_outcome q) (w ∙ ap claim_vector e) ∙ ap with_vector h

-- ---- a claim is restored

module _ (p : PicState) (c : PicInterruptClaim) (o : Option PicPlace) (eo : o ≡ place_of c.irq) where
  pub restore_out : o ≡ None → done_outcome p (Err OutOfRange) ≡ restore_interrupt p c
  restore_out h = ap (λ (b : Bool). cond b (record { state = restored p c; reply = reply.Nothing }) (refused p OutOfRange)) (sym (there c.irq o eo None h))

  pub restore_way : (q r : PicState) (x : PicPlace) → o ≡ Some x → q ≡ restored_at p (Some x) c.master_in_service c.slave_in_service → r ≡ settled q → r ≡ restored p c
  unfolding restored
  restore_way q r x ex eq er = er ∙ ap settled (eq ∙ ap (λ (y : Option PicPlace). restored_at p y c.master_in_service c.slave_in_service) (sym ex ∙ eo))

  pub restore_done : (r : PicState) (x : PicPlace) → o ≡ Some x → r ≡ restored p c → done_outcome r (Ok tt) ≡ restore_interrupt p c
  restore_done r x ex er = ap (λ (s : PicState). done_outcome s (Ok tt)) er ∙ rw (there_some c.irq o eo x ex)

-- ---- the ports

module _ (p q : PicState) (a : PicPort) (v : ℕ) (m d : Chip) where
  pub write_master_command : a ≡ MasterCommand → m ≡ p.master → d ≡ commanded m v → q ≡ chips p d p.slave → q ≡ written_to p (at_port a) v
  write_master_command h em ed eq = rw h (cc)

  pub write_master_data : a ≡ MasterData → m ≡ p.master → d ≡ fed m v → q ≡ chips p d p.slave → q ≡ written_to p (at_port a) v
  write_master_data h em ed eq = rw h (cc)

  pub write_slave_command : a ≡ SlaveCommand → m ≡ p.slave → d ≡ commanded m v → q ≡ chips p p.master d → q ≡ written_to p (at_port a) v
  write_slave_command h em ed eq = rw h (cc)

  pub write_slave_data : a ≡ SlaveData → m ≡ p.slave → d ≡ fed m v → q ≡ chips p p.master d → q ≡ written_to p (at_port a) v
  write_slave_data h em ed eq = rw h (cc)

-- a read of a port, by where it stands
abbrev outcome_at : PicState → Port → Outcome PicState
outcome_at p a = record { state = left_after p a; reply = value_reply (read_from p a) }

-- a port that is found stands there, and one that isn't nowhere
module _ (port : ℕ) (x : Result PicPort Refusal) (ex : x ≡ port_found port) where
  pub port_there : (a : PicPort) → x ≡ Ok a → port_at port ≡ at_port a
  port_there a h = go (port_at port) (sym ex ∙ h)
    where
      go : (c : Port) → found_at c ≡ Ok a → c ≡ at_port a
      go master_command e = let k : MasterCommand ≡ a = cc in ap at_port k
      go master_data e = let k : MasterData ≡ a = cc in ap at_port k
      go slave_command e = let k : SlaveCommand ≡ a = cc in ap at_port k
      go slave_data e = let k : SlaveData ≡ a = cc in ap at_port k
      go no_port e = let z : ◌≡◌ {A = ℕ} 0 1 = cc in absurd (omega (arith, z))

  pub port_missing : (why : Refusal) → x ≡ Err why → (port_at port ≡ no_port) × (why ≡ Unsupported)
  port_missing why h = go (port_at port) (sym ex ∙ h)
    where
      go : (c : Port) → found_at c ≡ Err why → (c ≡ no_port) × (why ≡ Unsupported)
      go master_command e = let z : ◌≡◌ {A = ℕ} 0 1 = cc in absurd (omega (arith, z))
      go master_data e = let z : ◌≡◌ {A = ℕ} 0 1 = cc in absurd (omega (arith, z))
      go slave_command e = let z : ◌≡◌ {A = ℕ} 0 1 = cc in absurd (omega (arith, z))
      go slave_data e = let z : ◌≡◌ {A = ℕ} 0 1 = cc in absurd (omega (arith, z))
      go no_port e = let k : Unsupported ≡ why = cc in (refl, sym k)

  module _ (p : PicState) (why : Refusal) (h : x ≡ Err why) where
    pub write_out : (byte : ℕ) → done_outcome p (Err why) ≡ write_outcome p port byte
    write_out byte = let m = port_missing why h in rw (m.0, m.1)

    pub read_out : Err why ≡ port_read p port
    unfolding port_read
    read_out = let m = port_missing why h in rw (m.0, m.1)

    pub full_read_out : value_outcome p (Err why) ≡ port_outcome p port
    unfolding port_left port_read
    full_read_out = let m = port_missing why h in rw (m.0, m.1)

  module _ (p : PicState) (a : PicPort) (h : x ≡ Ok a) where
    there_port : is_port port ≡ true
    there_port = ap is_there (port_there a h) ∙ go a
      where
        go : (c : PicPort) → is_there (at_port c) ≡ true
        go MasterCommand = refl
        go MasterData = refl
        go SlaveCommand = refl
        go SlaveData = refl

    pub write_found : (q : PicState) (byte : ℕ) → q ≡ written_to p (at_port a) byte → done_outcome q (Ok tt) ≡ write_outcome p port byte
    unfolding written_at
    write_found q byte e = rw there_port (ap (λ (s : PicState). done_outcome s (Ok tt)) (e ∙ ap (λ (c : Port). written_to p c byte) (sym (port_there a h))))

    pub read_found : (v : ℕ) → Ok v ≡ read_from p (at_port a) → Ok v ≡ port_read p port
    unfolding port_read
    read_found v e = e ∙ ap (read_from p) (sym (port_there a h))

    pub full_read_found : (q : PicState) (v : ℕ) → value_outcome q (Ok v) ≡ outcome_at p (at_port a) → value_outcome q (Ok v) ≡ port_outcome p port
    unfolding port_left port_read
    full_read_found q v e = e ∙ ap (outcome_at p) (sym (port_there a h))

-- what is written is settled
module _ (p q r : PicState) (port byte : ℕ) (d : Result (Unit {0}) Refusal) (e : done_outcome q d ≡ write_outcome p port byte) where
  written_known : (b : Bool) → is_port port ≡ b → done_outcome q d ≡ cond b (record { state = written_at p port byte; reply = reply.Nothing }) (refused p Unsupported)
  written_known b f = e ∙ ap (λ (x : Bool). cond x (record { state = written_at p port byte; reply = reply.Nothing }) (refused p Unsupported)) f

  -- refused exactly where the pair hasn't that port
  pub write_refused : (why : Refusal) → d ≡ Err why → (q ≡ p) × (is_port port ≡ false)
  write_refused why h = go (is_port port) refl
    where
      go : (b : Bool) → is_port port ≡ b → (q ≡ p) × (is_port port ≡ false)
      go true f =
          let z : ◌≡◌ {A = Reply} (reply.Refused why) reply.Nothing = ap done_reply (sym h) ∙ ap (λ (o : Outcome PicState). o.reply) (written_known true f) in
          let y : ◌≡◌ {A = ℕ} 0 1 = cc in absurd (omega (arith, y))
      go false f = (ap (λ (o : Outcome PicState). o.state) (written_known false f), f)

  pub write_made : (u : Unit {0}) → d ≡ Ok u → (q ≡ written_at p port byte) × (is_port port ≡ true)
  write_made u h = go (is_port port) refl
    where
      go : (b : Bool) → is_port port ≡ b → (q ≡ written_at p port byte) × (is_port port ≡ true)
      go true f = (ap (λ (o : Outcome PicState). o.state) (written_known true f), f)
      go false f =
          let z : ◌≡◌ {A = Reply} reply.Nothing (reply.Refused Unsupported) = ap done_reply (sym h) ∙ ap (λ (o : Outcome PicState). o.reply) (written_known false f) in
          let y : ◌≡◌ {A = ℕ} 0 1 = cc in absurd (omega (arith, y))

  pub settle_refused : (why : Refusal) → d ≡ Err why → done_outcome q (Err why) ≡ settled_outcome p port byte
  settle_refused why h = ap (done_outcome q) (sym h) ∙ e ∙ rw ((write_refused why h).1)

  pub settle_made : (u : Unit {0}) → d ≡ Ok u → r ≡ settled q → done_outcome r (Ok tt) ≡ settled_outcome p port byte
  unfolding port_written
  settle_made u h er = let f = write_made u h in rw (f.1) (ap (λ (s : PicState). done_outcome s (Ok tt)) (er ∙ ap settled f.0))

-- so a write of the value's low byte
pub write_by : (p : PicState) (o : Outcome PicState) (port width value byte : ℕ) → width ≡ 1 → byte ≡ value % 256 → o ≡ settled_outcome p port byte → o ≡ handle_write p port width value
write_by p o port width value byte w ey e = rw w (e ∙ ap (settled_outcome p port) ey)

-- a read without a poll shows its register
module _ (p : PicState) (a : PicPort) (v : ℕ) (m : Chip) (f : m.full ≡ false) where
  pub read_master_command : a ≡ MasterCommand → m ≡ p.master → v ≡ command_read m → Ok v ≡ read_from p (at_port a)
  unfolding read_shown command_read
  read_master_command h em ev = rw (h, ← em, f) (ap Ok ev)

  pub read_master_data : a ≡ MasterData → m ≡ p.master → v ≡ m.mask → Ok v ≡ read_from p (at_port a)
  unfolding read_shown
  read_master_data h em ev = rw (h, ← em, f) (ap Ok ev)

  pub read_slave_command : a ≡ SlaveCommand → m ≡ p.slave → v ≡ command_read m → Ok v ≡ read_from p (at_port a)
  unfolding read_shown command_read
  read_slave_command h em ev = rw (h, ← em, f) (ap Ok ev)

  pub read_slave_data : a ≡ SlaveData → m ≡ p.slave → v ≡ m.mask → Ok v ≡ read_from p (at_port a)
  unfolding read_shown
  read_slave_data h em ev = rw (h, ← em, f) (ap Ok ev)

-- a read of a port of the full profile's: no poll waits, or the poll is answered and the pair settled
module _ (p : PicState) (c : Chip) (b : Bool) (register : ℕ) (f : c.full ≡ true) (eb : b ≡ c.poll) where
  polled_is : is_polled c ≡ b
  polled_is = rw f (sym eb)

  pub read_unpolled_master : c ≡ p.master → not b ≡ true → ReadOf p.master (master_read p) p register register
  unfolding read_shown
  read_unpolled_master ec n =
      let z : is_polled p.master ≡ false = ap is_polled (sym ec) ∙ polled_is ∙ not-true b n in
      record { state = sym (ap (λ (x : Bool). cond x (settled (chips p (polled p.master) p.slave)) p) z); answer = sym (ap (λ (x : Bool). cond x (poll_shown p.master) register) z) }

  pub read_unpolled_slave : c ≡ p.slave → not b ≡ true → ReadOf p.slave (slave_read p) p register register
  unfolding read_shown
  read_unpolled_slave ec n =
      let z : is_polled p.slave ≡ false = ap is_polled (sym ec) ∙ polled_is ∙ not-true b n in
      record { state = sym (ap (λ (x : Bool). cond x (settled (chips p p.master (polled p.slave))) p) z); answer = sym (ap (λ (x : Bool). cond x (poll_shown p.slave) register) z) }

  module _ (q r : PicState) (d : Chip) (shown : ℕ) (e : ◌≡◌ {A = Outcome Chip} (record { state = d; reply = reply.One shown }) (poll_read c)) (er : r ≡ settled q) (t : not b ≡ false) where
    after : d ≡ polled c
    unfolding poll_read
    after = ap (λ (o : Outcome Chip). o.state) e

    said : shown ≡ poll_shown c
    unfolding poll_read
    said = let x : ◌≡◌ {A = Reply} (reply.One shown) (reply.One (poll_shown c)) = ap (λ (o : Outcome Chip). o.reply) e in cc

    pub read_polled_master : c ≡ p.master → q ≡ chips p d p.slave → ReadOf p.master (master_read p) r register shown
    unfolding read_shown
    read_polled_master ec eq =
        let z : is_polled p.master ≡ true = ap is_polled (sym ec) ∙ polled_is ∙ not-false b t in
        record {
          state = er ∙ ap settled (eq ∙ ap (λ (x : Chip). chips p x p.slave) (after ∙ ap polled ec)) ∙ sym (ap (λ (x : Bool). cond x (settled (chips p (polled p.master) p.slave)) p) z);
          answer = said ∙ ap poll_shown ec ∙ sym (ap (λ (x : Bool). cond x (poll_shown p.master) register) z);
        }

    pub read_polled_slave : c ≡ p.slave → q ≡ chips p p.master d → ReadOf p.slave (slave_read p) r register shown
    unfolding read_shown
    read_polled_slave ec eq =
        let z : is_polled p.slave ≡ true = ap is_polled (sym ec) ∙ polled_is ∙ not-false b t in
        record {
          state = er ∙ ap settled (eq ∙ ap (λ (x : Chip). chips p p.master x) (after ∙ ap polled ec)) ∙ sym (ap (λ (x : Bool). cond x (settled (chips p p.master (polled p.slave))) p) z);
          answer = said ∙ ap poll_shown ec ∙ sym (ap (λ (x : Bool). cond x (poll_shown p.slave) register) z);
        }

-- the status is the same of a full chip
pub full_status : (b : Bool) (x : Chip) (v : ℕ) → v ≡ command_read x → v ≡ command_read (placed b (as_full x))
unfolding command_read
full_status b x v e = e

module _ (p q : PicState) (a : PicPort) (register shown : ℕ) (m : Chip) where
  pub full_master_command : a ≡ MasterCommand → m ≡ p.master → register ≡ command_read m → ReadOf p.master (master_read p) q register shown → value_outcome q (Ok shown) ≡ outcome_at p (at_port a)
  full_master_command h em er e =
      rw h (ap₂ (λ (x : PicState) (n : ℕ). value_outcome x (Ok n)) e.state (e.answer ∙ ap (read_shown p.master) (er ∙ ap command_read em)))

  pub full_master_data : a ≡ MasterData → m ≡ p.master → register ≡ m.mask → ReadOf p.master (master_read p) q register shown → value_outcome q (Ok shown) ≡ outcome_at p (at_port a)
  full_master_data h em er e =
      rw h (ap₂ (λ (x : PicState) (n : ℕ). value_outcome x (Ok n)) e.state (e.answer ∙ ap (read_shown p.master) (er ∙ ap (λ (c : Chip). c.mask) em)))

  pub full_slave_command : a ≡ SlaveCommand → m ≡ p.slave → register ≡ command_read m → ReadOf p.slave (slave_read p) q register shown → value_outcome q (Ok shown) ≡ outcome_at p (at_port a)
  full_slave_command h em er e =
      rw h (ap₂ (λ (x : PicState) (n : ℕ). value_outcome x (Ok n)) e.state (e.answer ∙ ap (read_shown p.slave) (er ∙ ap command_read em)))

  pub full_slave_data : a ≡ SlaveData → m ≡ p.slave → register ≡ m.mask → ReadOf p.slave (slave_read p) q register shown → value_outcome q (Ok shown) ≡ outcome_at p (at_port a)
  full_slave_data h em er e =
      rw h (ap₂ (λ (x : PicState) (n : ℕ). value_outcome x (Ok n)) e.state (e.answer ∙ ap (read_shown p.slave) (er ∙ ap (λ (c : Chip). c.mask) em)))

pub grew_is : (x y a b : ℕ) → a ≡ x → b ≡ y → not (eqb a b) ≡ not (eqb x y)
grew_is x y a b ea eb = ap₂ (λ (m n : ℕ). not (eqb m n)) ea eb
