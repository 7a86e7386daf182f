-- An acknowledgement that makes its line lowest leaves the same requests counting; so by rule 2 a claim leaves request 2 as by rule 1. Assumes nothing.
use Rattle.std.proofs.Common.{Option, Some, None}
use mathlib.Core.Path.{◌≡◌, refl, sym, ap, ap₂, subst, ◌∙◌}
use mathlib.Core.Bool.{Bool, true, false, not, cond, ◌&&◌}
use Prim.Native.Nat.{ℕ, ◌+◌, ◌%◌, ◌<◌}
use native.Mathlib.Omega.{arith}
use lib.Dec.{ltb, eqb}
use borrow.Author.Tests.{lt-ltb, le-ltb, ltb-true, ltb-false}
use Rattle.vpic_priority.specs.Ring.{rank, above, first_rank, first_by}
use Rattle.vpic_priority.proofs.Ring.{rank_lt, rank_low, rank_out, by_rank, by_holds, by_before, by_is, by_none}
use Rattle.utils.specs.Set.{bit, without}
use Rattle.utils.proofs.Bools.{never, both, and-false}
use Rattle.utils.proofs.Laws.{bit_without_same, bit_without_other}
use Rattle.types.specs.declared.PicLine.{PicLine}
use Rattle.types.specs.declared.PicPlace.{PicPlace}
use Rattle.types.specs.declared.PicPlace.TheVariants.{Master, Slave}
use Rattle.types.specs.Counters.{place_of}
use Rattle.types.specs.Reply.{Outcome}
use Rattle.vpic_chip.specs.Registers.{Chip}
use Rattle.vpic_chip.specs.Chip.{cascade_irq, lowest_by, Highest, is_above, is_above_all, is_special, is_polled, icw2, icw3, icw4, ocw1, pulsed, fed, counts, asks, driven, pending_line, pending_irq, acknowledged, unacknowledged}
use Rattle.vpic_chip.proofs.Laws.{pended, ordinary}
use Rattle.vpic_theorems.proofs.Ordinary.{ordinary_plainly, plainly_above, plainly_counts, special_off}
use Rattle.vpic.specs.Words.{PicState}
use Rattle.vpic.specs.Pair.{chips, is_cascade, settled, latched, master_claim, slave_claim, cascade_place, place_from, claim_at, claim_pending, claim_irq, nothing_claimed, restored_at, restored, master_command, master_data, slave_command, slave_data, no_port, port_at, is_port, written_to, written_at, port_written}
use Rattle.vpic_theorems.specs.Statements.{Call, call_claim_irq, claim_pending_interrupt, pulse_irq, next_interrupt, call_restore_interrupt, call_handle_read, call_handle_write, outcome}
use Rattle.vpic_theorems.specs.Rotation.{is_ordinary, plain_chip, by_rule_one, sets_nested, writes_mode, is_mode_call, commands_slave, AsCascadeExactly}
use Rattle.vpic_theorems.proofs.Settled.{settled_cascade}
use Rattle.vpic_theorems.proofs.Plain.{nested_pair_lem, left_alike, plain_asks, Nested, latched_nested, latched_alike, place_alike, restore_alike, restore_cascade, write_alike, write_cascade}
use Rattle.vpic_theorems.proofs.Ring.{rank_turn, rank_same}
use Rattle.vpic_theorems.proofs.Rule.{asks_if_counts, counts_if_asks}
use Rattle.vpic_theorems.proofs.Turns.{count_is, ack_turns, raise_becomes, fed_keeps}

-- the same number on both sides of a comparison
ltb_shift : (a b x y c : ℕ) → a + c ≡ x → b + c ≡ y → ltb a b ≡ ltb x y
ltb_shift a b x y c e f = go (ltb a b) refl
  where
    go : (t : Bool) → ltb a b ≡ t → t ≡ ltb x y
    go true h = sym (lt-ltb x y (omega (arith, ltb-true a b h)))
    go false h = sym (le-ltb x y (omega (arith, ltb-false a b h)))

-- where k is above a set and becomes lowest, a line after k is above the set exactly if it was
module _ (l k : ℕ) (p : ℕ → Bool) (low : k < 8) (over : rank l k < first_rank l p) where
  first_stays : first_by l p < 8 → first_by k p ≡ first_by l p
  first_stays h = by_is k p b h (by_holds l p h) none
    where
      b : ℕ
      b = first_by l p

      none : (j : ℕ) → rank k j < rank k b → p j ≡ false
      none j q = go (ltb (rank l k) (rank l j)) refl
        where
          jlow : j < 8
          jlow = rank_low k j (omega (arith, rank_lt k b h))

          go : (t : Bool) → ltb (rank l k) (rank l j) ≡ t → p j ≡ false
          go true e =
              let f : rank l k < rank l j = ltb-true (rank l k) (rank l j) e in
              by_before l p j (omega (arith, by_rank l p, rank_turn l k j low jlow f, rank_turn l k b low h (omega (arith, by_rank l p))))
          go false e = by_before l p j (omega (arith, ltb-false (rank l k) (rank l j) e))

  pub above_stays : (j : ℕ) → j < 8 → rank l k < rank l j → ltb (rank k j) (first_rank k p) ≡ ltb (rank l j) (first_rank l p)
  above_stays j q f = go (ltb (first_by l p) 8) refl
    where
      go : (t : Bool) → ltb (first_by l p) 8 ≡ t → ltb (rank k j) (first_rank k p) ≡ ltb (rank l j) (first_rank l p)
      go true e =
          let h : first_by l p < 8 = ltb-true (first_by l p) 8 e in
          let r : first_rank k p ≡ rank k (first_by l p) = sym (by_rank k p) ∙ ap (rank k) (first_stays h) in
          ltb_shift (rank k j) (first_rank k p) (rank l j) (first_rank l p) (rank l k + 1) (omega (arith, rank_turn l k j low q f))
          (omega (arith, r, by_rank l p, rank_turn l k (first_by l p) low h (omega (arith, by_rank l p))))
      go false e =
          let z : first_rank l p ≡ 8 = omega (arith, by_rank l p, rank_out l (first_by l p) (ltb-false (first_by l p) 8 e)) in
          let y : first_rank k p ≡ 8 = sym (by_rank k p) ∙ ap (rank k) (by_none k p (λ i h. by_before l p i (omega (arith, rank_lt l i h)))) in
          lt-ltb (rank k j) (first_rank k p) (omega (arith, rank_lt k j q)) ∙ sym (lt-ltb (rank l j) (first_rank l p) (omega (arith, rank_lt l j q)))

-- ---- one chip

acknowledged_ordinary : (c : Chip) (k : ℕ) → is_ordinary c ≡ true → is_ordinary (acknowledged c k) ≡ true
unfolding acknowledged
acknowledged_ordinary c k o = o

module _ (c : Chip) (k : ℕ) (h : Highest c k) (o : is_ordinary c ≡ true) where
  over : rank (lowest_by c) k < first_rank (lowest_by c) (bit c.in_service)
  over = plainly_above c (ordinary_plainly c o) k h.counted

  -- another line that is requested and unmasked stands after the highest
  after_highest : (j : ℕ) → j < 8 → (j ≡ k → ⊥) → bit c.request j ≡ true → bit c.mask j ≡ false → rank (lowest_by c) k < rank (lowest_by c) j
  unfolding above
  after_highest j q d r m = go (is_above_all c j (bit c.in_service)) refl (is_above c j k) refl
    where
      l : ℕ
      l = lowest_by c

      go : (b : Bool) → is_above_all c j (bit c.in_service) ≡ b → (t : Bool) → is_above c j k ≡ t → rank l k < rank l j
      go true b true t = never (count_is c j (ordinary_plainly c o) r m b) (h.above j t)
      go true b false t =
          let u : rank l j ≡ rank l k → ⊥ = λ z. d (rank_same l j k q h.low z) in
          omega (arith, ltb-false (rank l j) (rank l k) t, u)
      go false b t z = omega (arith, over, ltb-false (rank l j) (first_rank l (bit c.in_service)) b)

  -- it is acknowledged in automatic EOI mode and becomes lowest: the same requests count as if it hadn't become so
  module _ (e : lowest_by c ≡ 7) (f : c.full ≡ true) (a : c.auto_eoi ≡ true) (t : c.auto_rotation ≡ true) where
    still_above : (j : ℕ) → j < 8 → bit (acknowledged c k).request j ≡ true → bit (acknowledged c k).mask j ≡ false
        → ltb (rank 7 j) (first_rank 7 (bit (acknowledged c k).in_service)) ≡ is_above_all (acknowledged c k) j (bit (acknowledged c k).in_service)
    still_above j q r m =
        let b = ack_turns c k f a t in
        let left : bit (without c.request k) j ≡ true = ap (λ (s : ℕ). bit s j) (sym b.request) ∙ r in
        let d : j ≡ k → ⊥ = λ z. never left (ap (bit (without c.request k)) z ∙ bit_without_same c.request k) in
        let g : rank (lowest_by c) k < rank (lowest_by c) j =
        after_highest j q d (sym (bit_without_other c.request k j d) ∙ left) (ap (λ (s : ℕ). bit s j) (sym b.mask) ∙ m) in
        let g7 : rank 7 k < rank 7 j = subst (λ (l : ℕ). rank l k < rank l j) e g in
        let o7 : rank 7 k < first_rank 7 (bit c.in_service) = subst (λ (l : ℕ). rank l k < first_rank l (bit c.in_service)) e over in
        ap (λ (s : ℕ). ltb (rank 7 j) (first_rank 7 (bit s))) b.in_service
        ∙ sym (above_stays 7 k (bit c.in_service) h.low o7 j q g7)
        ∙ ap₂ (λ (l s : ℕ). ltb (rank l j) (first_rank l (bit s))) (sym b.lowest) (sym b.in_service)

    same_counts : (j : ℕ) → j < 8 → counts (plain_chip (acknowledged c k)) j ≡ counts (acknowledged c k) j
    same_counts j q =
        plainly_counts (plain_chip (acknowledged c k)) (ordinary (plain_chip (acknowledged c k)) refl refl) j
        ∙ go (bit (acknowledged c k).request j) (bit (acknowledged c k).mask j) refl refl
        ∙ sym (plainly_counts (acknowledged c k) (ordinary_plainly (acknowledged c k) (acknowledged_ordinary c k o)) j)
      where
        go : (r m : Bool) → bit (acknowledged c k).request j ≡ r → bit (acknowledged c k).mask j ≡ m
            → (r && not m && ltb (rank 7 j) (first_rank 7 (bit (acknowledged c k).in_service))) ≡ (r && not m && is_above_all (acknowledged c k) j (bit (acknowledged c k).in_service))
        go true false x y = still_above j q x y
        go true true x y = refl
        go false m x y = refl

-- a chip asks where one with the same counts does
asks_same : (x y : Chip) → ((j : ℕ) → j < 8 → counts x j ≡ counts y j) → asks x ≡ asks y
asks_same x y s = go (asks x) refl (asks y) refl
  where
    up : (v w : Chip) → ((j : ℕ) → j < 8 → counts v j ≡ counts w j) → asks v ≡ true → asks w ≡ true
    up v w z e = let h = counts_if_asks v e in asks_if_counts w (pending_line v) (sym (z (pending_line v) h.low) ∙ h.counted)

    go : (a : Bool) → asks x ≡ a → (b : Bool) → asks y ≡ b → a ≡ b
    go true e b f = sym (up x y s e) ∙ f
    go false e true f = never (up y x (λ j q. sym (s j q)) f) e
    go false e false f = refl

-- an acknowledgement that turns no priorities
stays : (c : Chip) (k : ℕ) → lowest_by c ≡ 7 → (f a t : Bool) → c.full ≡ f → c.auto_eoi ≡ a → c.auto_rotation ≡ t → (f && (a && t)) ≡ false → lowest_by (acknowledged c k) ≡ 7
unfolding acknowledged
stays c k e f a t x y z w =
    let v : (c.full && (c.auto_eoi && c.auto_rotation)) ≡ false = ap₂ (λ (g h : Bool). g && h) x (ap₂ (λ (g h : Bool). g && h) y z) ∙ w in
    ap (λ (b : Bool). cond c.full (cond b k c.lowest_line) 7) v ∙ e

highest_asks : (c : Chip) (k : ℕ) → Highest c k → lowest_by c ≡ 7 → is_ordinary c ≡ true → asks (plain_chip (acknowledged c k)) ≡ asks (acknowledged c k)
highest_asks c k h e o = go c.full c.auto_eoi c.auto_rotation refl refl refl
  where
    go : (f a t : Bool) → c.full ≡ f → c.auto_eoi ≡ a → c.auto_rotation ≡ t → asks (plain_chip (acknowledged c k)) ≡ asks (acknowledged c k)
    go true true true f a t = asks_same (plain_chip (acknowledged c k)) (acknowledged c k) (same_counts c k h o e f a t)
    go true true false f a t = plain_asks (acknowledged c k) (stays c k e true true false f a t refl) (acknowledged_ordinary c k o)
    go true false t f a x = plain_asks (acknowledged c k) (stays c k e true false t f a x refl) (acknowledged_ordinary c k o)
    go false a t f x y = plain_asks (acknowledged c k) (stays c k e false a t f x y refl) (acknowledged_ordinary c k o)

-- ---- the pair

settled_exact : (q r : PicState) → is_cascade q ≡ true → asks (plain_chip q.slave) ≡ asks q.slave → by_rule_one q ≡ r → by_rule_one (settled q) ≡ settled r
unfolding driven
settled_exact q r c a e =
    ap by_rule_one (settled_cascade q c) ∙ ap (λ (b : Bool). chips (by_rule_one q) (driven (plain_chip q.master) 2 b) (plain_chip q.slave)) (sym a)
    ∙ sym (settled_cascade (by_rule_one q) refl) ∙ ap settled e

claim_exact : (p : PicState) → Nested p → by_rule_one (claim_pending p).state ≡ (claim_pending (by_rule_one p)).state
unfolding claim_pending master_claim slave_claim acknowledged
claim_exact p n = by_master (pending_irq p.master) ∙ ap (λ (a : Option PicPlace). (claim_at (by_rule_one p) a).state) (sym (place_alike p n))
  where
    Exact : Option PicPlace → Type 0
    Exact a = by_rule_one (claim_at p a).state ≡ (claim_at (by_rule_one p) a).state

    of_master : (k : PicLine) → Exact (Some (Master k))
    of_master k = settled_exact (chips p (acknowledged p.master k.0) p.slave) _ n.cascade (plain_asks p.slave n.slave n.«slave-mode») refl

    by_slave : (b : Option PicLine) → pending_irq p.slave ≡ b → Exact (cascade_place b)
    by_slave (Some k) q =
        settled_exact (chips p (acknowledged p.master cascade_irq.0) (acknowledged p.slave k.0)) _ n.cascade
        (highest_asks p.slave k.0 (pended p.slave k q) n.slave n.«slave-mode») refl
    by_slave None q = of_master cascade_irq

    by_line : (k : PicLine) (b : Bool) → Exact (cond b (cascade_place (pending_irq p.slave)) (Some (Master k)))
    by_line k true = by_slave (pending_irq p.slave) refl
    by_line k false = of_master k

    by_master : (a : Option PicLine) → Exact (place_from p a)
    by_master (Some k) = by_line k (eqb k.0 cascade_irq.0)
    by_master None = settled_exact p _ n.cascade (plain_asks p.slave n.slave n.«slave-mode») refl

raise_exact : (p : PicState) (l : PicLine) → Nested p → by_rule_one (claim_irq p l).state ≡ (claim_irq (by_rule_one p) l).state
unfolding claim_irq
raise_exact p l n = go (ltb l.0 16)
  where
    go : (b : Bool) → by_rule_one (cond b (claim_pending (latched p l)) (nothing_claimed p)).state ≡ (cond b (claim_pending (latched (by_rule_one p) l)) (nothing_claimed (by_rule_one p))).state
    go true = claim_exact (latched p l) (latched_nested p l n) ∙ ap (λ (x : PicState). (claim_pending x).state) (latched_alike p l n)
    go false = refl

-- a restore turns no priorities
restored_lowest : (c : Chip) (l : PicLine) (f : Bool) → lowest_by (unacknowledged c l f) ≡ lowest_by c
unfolding unacknowledged
restored_lowest c l f =
    both (λ (x : Chip). lowest_by x ≡ lowest_by c) f _ _ (both (λ (x : Chip). lowest_by x ≡ lowest_by c) (ltb l.0 8) _ _ (raise_becomes c l).lowest (raise_becomes c l).lowest) (raise_becomes c l).lowest

restore_slave : (p : PicState) (a : Option PicPlace) (m s : Bool) → Nested p → lowest_by (restored_at p a m s).slave ≡ 7
restore_slave p (Some (Master k)) m s n = n.slave
restore_slave p (Some (Slave k)) m s n = restored_lowest p.slave k s ∙ n.slave
restore_slave p None m s n = n.slave

restored_ordinary : (c : Chip) (l : PicLine) (f : Bool) → is_ordinary c ≡ true → is_ordinary (unacknowledged c l f) ≡ true
unfolding unacknowledged pulsed
restored_ordinary c l f o =
    both Fine f _ _ (both Fine (ltb l.0 8) _ _ (both Fine (ltb l.0 8) _ _ o o) (both Fine (ltb l.0 8) _ _ o o)) (both Fine (ltb l.0 8) _ _ o o)
  where
    Fine : Chip → Type 0
    Fine x = is_ordinary x ≡ true

restore_mode : (p : PicState) (a : Option PicPlace) (m s : Bool) → Nested p → is_ordinary (restored_at p a m s).slave ≡ true
restore_mode p (Some (Master k)) m s n = n.«slave-mode»
restore_mode p (Some (Slave k)) m s n = restored_ordinary p.slave k s n.«slave-mode»
restore_mode p None m s n = n.«slave-mode»

restore_exact : (p : PicState) (a : Option PicPlace) (m s : Bool) → Nested p → by_rule_one (settled (restored_at p a m s)) ≡ settled (restored_at (by_rule_one p) a m s)
restore_exact p a m s n =
    settled_exact (restored_at p a m s) (restored_at (by_rule_one p) a m s) (restore_cascade p a m s ∙ n.cascade) (plain_asks (restored_at p a m s).slave (restore_slave p a m s n) (restore_mode p a m s n))
    (restore_alike p a m s)

-- nor does a write to another port than the slave's command port turn the slave's
write_slave : (p : PicState) (port byte : ℕ) → Nested p → eqb port 0xa0 ≡ false → lowest_by (written_at p port byte).slave ≡ 7
unfolding written_at
write_slave p port byte n e = go (eqb port 0x20) (eqb port 0x21) (eqb port 0xa0) (eqb port 0xa1) e
  where
    go : (x y z w : Bool) → z ≡ false
        → lowest_by (written_to p (cond x master_command (cond y master_data (cond z slave_command (cond w slave_data no_port)))) byte).slave ≡ 7
    go true y z w e = n.slave
    go false true z w e = n.slave
    go false false true w e = never refl e
    go false false false true e = (fed_keeps p.slave byte).lowest ∙ n.slave
    go false false false false e = n.slave

-- and a byte at the data port puts no mode on but ICW4 with bit 4
fed_ordinary : (c : Chip) (v : ℕ) → is_ordinary c ≡ true → sets_nested c v ≡ false → is_ordinary (fed c v) ≡ true
unfolding fed
fed_ordinary c v o n = go (eqb c.init_step 1) (eqb c.init_step 2) (eqb c.init_step 3) n
  where
    off : (not (is_special c) && not (c.full && c.cascades && false)) ≡ true
    off = ap₂ (λ (x y : Bool). not x && not y) (special_off c o) (and-false (c.full && c.cascades))

    icw4_ordinary : bit v 4 ≡ false → is_ordinary (icw4 c v) ≡ true
    icw4_ordinary z = full c.full refl
      where
        full : (f : Bool) → c.full ≡ f → is_ordinary (icw4 c v) ≡ true
        full true q = ap (λ (b : Bool). not (is_special c) && not (c.full && c.cascades && b)) (ap (λ (f : Bool). cond f (bit v 4) c.nested) q ∙ z) ∙ off
        full false q = ap (λ (f : Bool). not (f && c.special_mask) && not (f && c.cascades && cond c.full (bit v 4) c.nested)) q

    go : (x y w : Bool) → (w && bit v 4) ≡ false → is_ordinary (cond x (icw2 c v) (cond y (icw3 c) (cond w (icw4 c v) (ocw1 c v)))) ≡ true
    go true y w z = o
    go false true w z = o
    go false false true z = icw4_ordinary z
    go false false false z = o

write_mode : (p : PicState) (port byte : ℕ) → Nested p → writes_mode p (port_at port) byte ≡ false → eqb port 0xa0 ≡ false → is_ordinary (written_at p port byte).slave ≡ true
unfolding written_at
write_mode p port byte n m e = go (eqb port 0x20) (eqb port 0x21) (eqb port 0xa0) (eqb port 0xa1) m e
  where
    go : (x y z w : Bool) → writes_mode p (cond x master_command (cond y master_data (cond z slave_command (cond w slave_data no_port)))) byte ≡ false → z ≡ false
        → is_ordinary (written_to p (cond x master_command (cond y master_data (cond z slave_command (cond w slave_data no_port)))) byte).slave ≡ true
    go true y z w m e = n.«slave-mode»
    go false true z w m e = n.«slave-mode»
    go false false true w m e = never refl e
    go false false false true m e = fed_ordinary p.slave byte n.«slave-mode» m
    go false false false false m e = n.«slave-mode»

write_exact : (p : PicState) (port byte : ℕ) → Nested p → writes_mode p (port_at port) byte ≡ false → eqb port 0xa0 ≡ false
    → by_rule_one (settled (written_at p port byte)) ≡ settled (written_at (by_rule_one p) port byte)
write_exact p port byte n m e =
    settled_exact (written_at p port byte) (written_at (by_rule_one p) port byte) (write_cascade p port byte ∙ n.cascade)
    (plain_asks (written_at p port byte).slave (write_slave p port byte n e) (write_mode p port byte n m e)) (write_alike p n port byte m)

-- ---- every call

exact_cond : (b : Bool) (x y u v : Outcome PicState) → by_rule_one x.state ≡ u.state → by_rule_one y.state ≡ v.state → by_rule_one (cond b x y).state ≡ (cond b u v).state
exact_cond true x y u v h k = h
exact_cond false x y u v h k = k

call_exact : (p : PicState) (c : Call) → Nested p → is_polled p.master ≡ false → is_polled p.slave ≡ false → is_mode_call p c ≡ false → commands_slave c ≡ false → by_rule_one (outcome p c).state ≡ (outcome (by_rule_one p) c).state
unfolding outcome restored port_written
call_exact p (call_claim_irq l) n x y m e = raise_exact p l n
call_exact p claim_pending_interrupt n x y m e = claim_exact p n
call_exact p (pulse_irq l) n x y m e = raise_exact p l n
call_exact p next_interrupt n x y m e = claim_exact p n
call_exact p (call_restore_interrupt c) n x y m e = exact_cond (ltb c.irq.0 16) _ _ _ _ (restore_exact p (place_of c.irq) c.master_in_service c.slave_in_service n) refl
call_exact p (call_handle_read port width) n x y m e =
    let l = left_alike p port x y in
    exact_cond (eqb width 1) _ _ _ _ (ap by_rule_one l.0 ∙ sym l.1) refl
call_exact p (call_handle_write port width value) n x y m e = exact_cond (eqb width 1) _ _ _ _ (exact_cond (is_port port) _ _ _ _ (write_exact p port (value % 256) n m e) refl) refl

pub as_cascade_exactly : AsCascadeExactly
as_cascade_exactly p c h m e = call_exact p c (nested_pair_lem p h) h.«master-poll» h.«slave-poll» m e
