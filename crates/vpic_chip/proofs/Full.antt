-- Laws of a chip of the full profile: what the plain registers' functions leave of it, and a law for each way out of its own. Assumes nothing.
use mathlib.Core.Path.{◌≡◌, refl, sym, ap, ap₂, subst, ◌∙◌}
use mathlib.Core.Bool.{Bool, true, false, not, cond, ◌&&◌, ◌||◌}
use Prim.Native.Nat.{ℕ, ◌+◌, ◌/◌, ◌%◌, ◌^◌, ◌<◌, ◌≤◌}
use native.Mathlib.Omega.{arith}
use native.Mathlib.Nat.{div-one}
use lib.Dec.{ltb, eqb}
use Rattle.std.specs.Prelude.{Option, Some, None, is_some}
use borrow.Author.Tests.{ltb-true, ltb-false, lt-ltb, le-ltb, ne_eqb, eqb-true, eqb-false, not-true, not-false}
use Rattle.vpic_priority.specs.Ring.{rank, above, line_at, first_rank, first_by}
use Rattle.vpic_priority.proofs.Ring.{rank_lt, rank_low, line_of_rank, first_rank_le, first_rank_same, by_same, by_rank, by_holds, by_before, by_is, by_none}
use Rattle.utils.specs.Set.{bit, with, without, outside, set_of}
use Rattle.utils.specs.Cases.{and_left_no}
use Rattle.utils.proofs.Bools.{never, and-false, and_one}
use Rattle.utils.proofs.Laws.{bit_outside, bit_none, bit_set_of, set_of_same, set_of_bits, bit_without_same, bit_without_other}
use Rattle.types.specs.declared.PicLine.{PicLine}
use Rattle.types.specs.declared.Reply.{Reply}
use Rattle.types.specs.declared.Reply.TheVariants as reply
use Rattle.types.specs.Counters.{line_vector}
use Rattle.types.specs.Reply.{Outcome}
use Rattle.vpic_chip.specs.Registers.{Chip, as_full, placed, with_request, with_in_service, with_read_isr, with_lowest, with_auto_rotation, with_special_mask, with_poll, with_nested}
use Rattle.vpic_chip.specs.Chip.{lowest_by, first_of, is_above_all, turned, is_nested, blocks, blocks_line, icw1, full_ocw3, ocw3, specific_eoi, non_specific_eoi, auto_rotated, ocw2, commanded, icw2, icw3, icw4, ocw1, fed, pulsed, counts, pending_line, irq_of, pending_irq, asks, driven, acknowledged, acknowledge, unacknowledged, poll_shown, polled, poll_read}
use Rattle.vpic_chip.proofs.Laws.{first_top, ordinary_blocks, blocks_other, pending_is_line}

-- ---- what is done to the plain registers is done to the full ones, at either place of a pair

module _ (p : Bool) (x y : Chip) where
  pub full_driven : (k : ℕ) (up : Bool) → y ≡ driven x k up → placed p (as_full y) ≡ driven (placed p (as_full x)) k up
  unfolding driven
  full_driven k up e = ap (λ (c : Chip). placed p (as_full c)) e

  pub full_pulsed : (l : PicLine) → y ≡ pulsed x l → placed p (as_full y) ≡ pulsed (placed p (as_full x)) l
  unfolding pulsed
  full_pulsed l e = ap (λ (c : Chip). placed p (as_full c)) e ∙ go (ltb l.0 8)
    where
      go : (b : Bool) → placed p (as_full (cond b (with_request x (with x.request l.0)) x)) ≡ cond b (with_request (placed p (as_full x)) (with x.request l.0)) (placed p (as_full x))
      go true = refl
      go false = refl

  pub full_back : (l : PicLine) (f : Bool) → y ≡ unacknowledged x l f → placed p (as_full y) ≡ unacknowledged (placed p (as_full x)) l f
  unfolding unacknowledged pulsed
  full_back l f e = ap (λ (c : Chip). placed p (as_full c)) e ∙ go f (ltb l.0 8)
    where
      raised : Bool → Chip → Chip
      raised b c = cond b (with_request c (with c.request l.0)) c

      go : (f b : Bool) → placed p (as_full (cond f (cond b (specific_eoi (raised b x) l.0) (raised b x)) (raised b x)))
          ≡ cond f (cond b (specific_eoi (raised b (placed p (as_full x))) l.0) (raised b (placed p (as_full x)))) (raised b (placed p (as_full x)))
      go true true = refl
      go true false = refl
      go false true = refl
      go false false = refl

-- ---- a write to a port and an acknowledgement don't ask for the place

module _ (p : Bool) (c d : Chip) where
  pub placed_command : (v : ℕ) → d ≡ commanded c v → placed p d ≡ commanded (placed p c) v
  unfolding commanded
  placed_command v e = ap (placed p) e ∙ go (bit v 4) (bit v 3) c.full (bit v 5) (bit v 6) (ltb (first_of c (blocks c)) 8)
    where
      go : (i o f e s t : Bool)
          → placed p
          (cond i (icw1 c v)
          (cond o (cond f (full_ocw3 c v) (with_read_isr c (bit v 1)))
          (cond e (cond s (turned (specific_eoi c (v % 8)) (bit v 7) (v % 8)) (cond t (turned (specific_eoi c (first_of c (blocks c))) (bit v 7) (first_of c (blocks c))) c))
          (cond s (turned c (bit v 7) (v % 8)) (auto_rotated c (bit v 7))))))
          ≡ cond i (icw1 (placed p c) v)
          (cond o (cond f (full_ocw3 (placed p c) v) (with_read_isr (placed p c) (bit v 1)))
          (cond e (cond s (turned (specific_eoi (placed p c) (v % 8)) (bit v 7) (v % 8)) (cond t (turned (specific_eoi (placed p c) (first_of c (blocks c))) (bit v 7) (first_of c (blocks c))) (placed p c)))
          (cond s (turned (placed p c) (bit v 7) (v % 8)) (auto_rotated (placed p c) (bit v 7)))))
      go true o f e s t = refl
      go false true true e s t = refl
      go false true false e s t = refl
      go false false f true true t = refl
      go false false f true false true = refl
      go false false f true false false = refl
      go false false f false true t = refl
      go false false f false false t = refl

  pub placed_data : (v : ℕ) → d ≡ fed c v → placed p d ≡ fed (placed p c) v
  unfolding fed
  placed_data v e = ap (placed p) e ∙ go (eqb c.init_step 1) (eqb c.init_step 2) (eqb c.init_step 3)
    where
      go : (x y z : Bool) → placed p (cond x (icw2 c v) (cond y (icw3 c) (cond z (icw4 c v) (ocw1 c v))))
          ≡ cond x (icw2 (placed p c) v) (cond y (icw3 (placed p c)) (cond z (icw4 (placed p c) v) (ocw1 (placed p c) v)))
      go true y z = refl
      go false true z = refl
      go false false true = refl
      go false false false = refl

  pub placed_taken : (k : ℕ) → d ≡ acknowledged c k → placed p d ≡ acknowledged (placed p c) k
  unfolding acknowledged
  placed_taken k e = ap (placed p) e

  pub placed_acknowledge : (l : PicLine) (r : Reply) → ◌≡◌ {A = Outcome Chip} (record { state = d; reply = r }) (acknowledge c l) → ◌≡◌ {A = Outcome Chip} (record { state = placed p d; reply = r }) (acknowledge (placed p c) l)
  unfolding acknowledge acknowledged
  placed_acknowledge l r e = ap (λ (o : Outcome Chip). record { state = placed p o.state; reply = o.reply }) e ∙ go (ltb l.0 8)
    where
      away : Outcome Chip → Outcome Chip
      away o = record { state = placed p o.state; reply = o.reply }

      go : (b : Bool) → away (cond b (record { state = acknowledged c l.0; reply = reply.One (line_vector c.vector_base l).0 }) (record { state = c; reply = reply.Nothing }))
          ≡ cond b (record { state = acknowledged (placed p c) l.0; reply = reply.One (line_vector c.vector_base l).0 }) (record { state = placed p c; reply = reply.Nothing })
      go true = refl
      go false = refl

-- ---- OCW3 and ICW4

module _ (x y : Chip) (v : ℕ) where
  pub register_chosen : v / 2 % 2 ≡ 1 → y ≡ with_read_isr x (eqb (v % 2) 1) → as_full y ≡ with_read_isr (as_full x) (cond (bit v 1) (bit v 0) x.read_isr)
  register_chosen h e = ap as_full e ∙ rw h (ap (λ (n : ℕ). with_read_isr (as_full x) (eqb (n % 2) 1)) (sym (div-one v)))

module _ (c : Chip) (v : ℕ) where
  pub register_kept : (v / 2 % 2 ≡ 1 → ⊥) → c ≡ with_read_isr c (cond (bit v 1) (bit v 0) c.read_isr)
  register_kept h = rw (ne_eqb (v / 2 % 2) 1 h)

  pub special_kept : (v / 64 % 2 ≡ 1 → ⊥) → c ≡ with_special_mask c (cond (bit v 6) (bit v 5) c.special_mask)
  special_kept h = rw (ne_eqb (v / 64 % 2) 1 h)

  pub poll_kept : (v / 4 % 2 ≡ 1 → ⊥) → c ≡ with_poll c (bit v 2 || c.poll)
  poll_kept h = rw (ne_eqb (v / 4 % 2) 1 h)

module _ (x d : Chip) (v : ℕ) where
  pub special_chosen : v / 64 % 2 ≡ 1 → d ≡ with_special_mask (as_full x) (bit v 5) → d ≡ with_special_mask (as_full x) (cond (bit v 6) (bit v 5) (as_full x).special_mask)
  special_chosen h e = e ∙ rw h

  pub poll_chosen : v / 4 % 2 ≡ 1 → d ≡ with_poll (as_full x) true → d ≡ with_poll (as_full x) (bit v 2 || (as_full x).poll)
  poll_chosen h e = e ∙ rw h

  pub full_ocw3_lem : (a b : Chip) → a ≡ with_read_isr (as_full x) (cond (bit v 1) (bit v 0) x.read_isr) → b ≡ with_special_mask a (cond (bit v 6) (bit v 5) a.special_mask)
      → d ≡ with_poll b (bit v 2 || b.poll) → d ≡ ocw3 (as_full x) v
  full_ocw3_lem a b ea eb ed =
      ed ∙ ap (λ (z : Chip). with_poll z (bit v 2 || z.poll)) (eb ∙ ap (λ (z : Chip). with_special_mask z (cond (bit v 6) (bit v 5) z.special_mask)) ea)

module _ (x y : Chip) (v : ℕ) where
  pub full_icw4 : (z : Chip) → y ≡ icw4 x v → z ≡ with_nested (as_full y) (bit v 4) → z ≡ icw4 (as_full x) v
  full_icw4 z e h = h ∙ ap (λ (c : Chip). with_nested (as_full c) (bit v 4)) e

  -- no other byte at the data port does more in the full profile
  pub full_fed : (s : ℕ) → s ≡ x.init_step → (s ≡ 3 → ⊥) → y ≡ fed x v → as_full y ≡ fed (as_full x) v
  unfolding fed
  full_fed s es n e = ap as_full e ∙ go (eqb x.init_step 1) (eqb x.init_step 2) (eqb x.init_step 3) (ne_eqb x.init_step 3 (λ z. n (es ∙ z)))
    where
      go : (a b c : Bool) → c ≡ false → as_full (cond a (icw2 x v) (cond b (icw3 x) (cond c (icw4 x v) (ocw1 x v))))
          ≡ cond a (icw2 (as_full x) v) (cond b (icw3 (as_full x)) (cond c (icw4 (as_full x) v) (ocw1 (as_full x) v)))
      go true b c q = refl
      go false true c q = refl
      go false false true q = never refl q
      go false false false q = refl

-- ---- the lines in the way

module _ (c : Chip) (i : ℕ) (b : Bool) (ei : i ≡ c.in_service) (l : i < 2 ^ 8) (f : c.full ≡ true) (eb : b ≡ c.special_mask) where
  pub blocking_all : b ≡ false → i ≡ set_of 8 (blocks c)
  blocking_all n =
      sym (set_of_bits 8 i l)
      ∙ set_of_same 8 (bit i) (blocks c)
      (λ j h. ap (λ (s : ℕ). bit s j) ei ∙ sym (ordinary_blocks c (ap₂ (λ (x y : Bool). x && y) f (sym eb ∙ n)) j))

  pub blocking_open : (m o : ℕ) → b ≡ true → m ≡ c.mask → o ≡ outside 8 i m → o ≡ set_of 8 (blocks c)
  unfolding outside
  blocking_open m o t em eo =
      eo
      ∙ set_of_same 8 (λ (j : ℕ). bit i j && not (bit m j)) (blocks c)
      (λ j h. ap₂ (λ (x y : ℕ). bit x j && not (bit y j)) ei em ∙ ap (λ (x : Bool). bit c.in_service j && not (x && bit c.mask j)) (sym (ap₂ (λ (x y : Bool). x && y) f (sym eb ∙ t))))

module _ (x : Chip) (p : Bool) (all : ℕ) (k : ℕ) (ea : all ≡ set_of 8 (blocks x)) where
  abbrev c : Chip
  c = placed p x

  same_all : ((j : ℕ) → not (is_nested c && eqb k 2 && eqb j 2) ≡ true) → all ≡ set_of 8 (blocks_line c k)
  same_all h = ea ∙ set_of_same 8 (blocks x) (blocks_line c k) (λ j l. sym (ap (λ (b : Bool). blocks x j && b) (h j) ∙ and_one (blocks x j)))

  pub line_other : (k ≡ 2 → ⊥) → all ≡ set_of 8 (blocks_line c k)
  line_other n = same_all (λ j. ap (λ (b : Bool). not (is_nested c && b && eqb j 2)) (ne_eqb k 2 n) ∙ ap (λ (b : Bool). not (b && eqb j 2)) (and-false (is_nested c)))

  pub line_slave : not p ≡ true → all ≡ set_of 8 (blocks_line c k)
  line_slave n = same_all (λ j. ap (λ (b : Bool). not (x.full && b && x.nested && eqb k 2 && eqb j 2)) (not-true p n) ∙ ap (λ (b : Bool). not (b && x.nested && eqb k 2 && eqb j 2)) (and-false x.full))

  pub line_plain : (m : Bool) → m ≡ x.nested → not m ≡ true → all ≡ set_of 8 (blocks_line c k)
  line_plain m em n =
      same_all (λ j. ap (λ (b : Bool). not (x.full && p && b && eqb k 2 && eqb j 2)) (sym em ∙ not-true m n) ∙ ap (λ (b : Bool). not (b && eqb k 2 && eqb j 2)) (and-false (x.full && p)))

  pub line_nested : (m : Bool) (r n : ℕ) → x.full ≡ true → k ≡ 2 → not p ≡ false → m ≡ x.nested → not m ≡ false → n ≡ 2 → r ≡ without all n → r < 2 ^ 8 → r ≡ set_of 8 (blocks_line c k)
  line_nested m r n f two np em nm en er' l = sym (set_of_bits 8 r l) ∙ set_of_same 8 (bit r) (blocks_line c k) same
    where
      on : is_nested c ≡ true
      on = rw (f, not-false p np, sym em ∙ not-false m nm)

      there : (j : ℕ) → j < 8 → bit all j ≡ blocks x j
      there j h = ap (λ (s : ℕ). bit s j) ea ∙ bit_set_of 8 (blocks x) j h

      er : r ≡ without all 2
      er = er' ∙ ap (without all) en

      same : (j : ℕ) → j < 8 → bit r j ≡ blocks_line c k j
      same j h = ap (λ (s : ℕ). bit s j) er ∙ go (eqb j 2) refl ∙ ap₂ (λ (x y : Bool). blocks c j && not (x && y && eqb j 2)) (sym on) (sym (ap (λ (s : ℕ). eqb s 2) two))
        where
          go : (b : Bool) → eqb j 2 ≡ b → bit (without all 2) j ≡ (blocks x j && not b)
          go true q = ap (bit (without all 2)) (eqb-true j 2 q) ∙ bit_without_same all 2 ∙ sym (and-false (blocks x j))
          go false q = bit_without_other all 2 j (eqb-false j 2 q) ∙ there j h ∙ sym (and_one (blocks x j))

-- ---- the line that is pending

module _ (c : Chip) (lowest q m o i a s : ℕ) (b : Bool) (f : c.full ≡ true) (el : lowest ≡ c.lowest_line) (eq : q ≡ c.request) (em : m ≡ c.mask) (eo : o ≡ outside 8 q m)
    (ea : a ≡ first_by lowest (bit o)) (ei : i ≡ set_of 8 (blocks_line c a)) (es : s ≡ first_by lowest (bit i)) (eb : b ≡ above lowest a s) where
  own : lowest_by c ≡ lowest
  own = rw f (sym el)

  -- a request counts if it is open and its rank below that of the highest line in its way
  counted : (k : ℕ) → k < 8 → counts c k ≡ (bit o k && ltb (rank lowest k) (first_rank lowest (blocks_line c k)))
  unfolding counts
  counted k h =
      let x : bit o k ≡ (bit c.request k && not (bit c.mask k)) = ap (λ (n : ℕ). bit n k) (eo ∙ (λ j. outside 8 (eq j) (em j))) ∙ bit_outside 8 c.request c.mask k h in
      (λ j. sym x j && ltb (rank (own j) k) (first_rank (own j) (blocks_line c k)))

  in_way : first_rank lowest (bit i) ≡ first_rank lowest (blocks_line c a)
  in_way = first_rank_same lowest (bit i) (blocks_line c a) (λ j h. ap (λ (n : ℕ). bit n j) ei ∙ bit_set_of 8 (blocks_line c a) j h)

  served_rank : rank lowest s ≡ first_rank lowest (blocks_line c a)
  served_rank = ap (rank lowest) es ∙ by_rank lowest (bit i) ∙ in_way

  asked_rank : rank lowest a ≡ first_rank lowest (bit o)
  asked_rank = ap (rank lowest) ea ∙ by_rank lowest (bit o)

  asked_low : b ≡ true → a < 8
  unfolding above
  asked_low t =
      let r : rank lowest a < rank lowest s = ltb-true (rank lowest a) (rank lowest s) (sym eb ∙ t) in
      rank_low lowest a (omega (arith, served_rank, first_rank_le lowest (blocks_line c a)))

  asked_pends : b ≡ true → a ≡ pending_line c
  unfolding pending_line above
  asked_pends t =
      let r : rank lowest a < rank lowest s = ltb-true (rank lowest a) (rank lowest s) (sym eb ∙ t) in
      let low : a < 8 = asked_low t in
      let on : bit o a ≡ true = ap (bit o) ea ∙ by_holds lowest (bit o) (omega (arith, ea)) in
      let here : counts c a ≡ true = counted a low ∙ rw (on, lt-ltb (rank lowest a) (first_rank lowest (blocks_line c a)) (omega (arith, served_rank))) in
      sym
      (ap (λ (n : ℕ). first_by n (counts c)) own
      ∙ by_is lowest (counts c) a low here
      (λ j l. counted j (rank_low lowest j (omega (arith, served_rank, first_rank_le lowest (blocks_line c a))))
      ∙ and_left_no (bit o j) (ltb (rank lowest j) (first_rank lowest (blocks_line c j))) (by_before lowest (bit o) j (omega (arith, asked_rank)))))

  pub full_some : b ≡ true → Some (record { 0 = a }) ≡ pending_irq c
  unfolding pending_irq
  full_some t = rw (sym (asked_pends t), lt-ltb a 8 (asked_low t))

  none_pends : b ≡ false → 8 ≡ pending_line c
  unfolding pending_line above
  none_pends t = sym (ap (λ (n : ℕ). first_by n (counts c)) own ∙ by_none lowest (counts c) (λ j l. counted j l ∙ go j l (bit o j) refl))
    where
      r : first_rank lowest (blocks_line c a) ≤ rank lowest a
      r = omega (arith, served_rank, ltb-false (rank lowest a) (rank lowest s) (sym eb ∙ t))

      -- what is in the way of the first open line is in the way of every other
      behind : (j : ℕ) → j < 8 → rank lowest a ≤ rank lowest j → first_rank lowest (blocks_line c j) ≤ rank lowest j
      behind j l up = here (eqb j a) refl
        where
          here : (d : Bool) → eqb j a ≡ d → first_rank lowest (blocks_line c j) ≤ rank lowest j
          here true e = subst (λ (n : ℕ). first_rank lowest (blocks_line c n) ≤ rank lowest n) (sym (eqb-true j a e)) r
          here false e =
              let n = first_by lowest (blocks_line c a) in
              let same : rank lowest n ≡ first_rank lowest (blocks_line c a) = by_rank lowest (blocks_line c a) in
              let in' : blocks_line c a n ≡ true = by_holds lowest (blocks_line c a) (rank_low lowest n (omega (arith, r, rank_lt lowest j l))) in
              let low : a < 8 = rank_low lowest a (omega (arith, rank_lt lowest j l)) in
              let far : rank lowest j ≡ rank lowest a → ⊥ = λ z. eqb-false j a e (sym (line_of_rank lowest j l) ∙ ap (line_at lowest) z ∙ line_of_rank lowest a low) in
              let other : j ≡ n → ⊥ = λ z. far (omega (arith, r, ap (rank lowest) z)) in
              omega (arith, r, first_top lowest (blocks_line c j) n (blocks_other c j a n in' other))

      go : (j : ℕ) → j < 8 → (d : Bool) → bit o j ≡ d → (d && ltb (rank lowest j) (first_rank lowest (blocks_line c j))) ≡ false
      go j l true e = le-ltb (rank lowest j) (first_rank lowest (blocks_line c j)) (behind j l (omega (arith, asked_rank, first_top lowest (bit o) j e)))
      go j l false e = refl

  pub full_none : b ≡ false → None ≡ pending_irq c
  unfolding pending_irq
  full_none t = ap irq_of (none_pends t)

-- without an open request
pub full_empty : (c : Chip) (q m o : ℕ) → q ≡ c.request → m ≡ c.mask → o ≡ outside 8 q m → o ≡ 0 → None ≡ pending_irq c
unfolding pending_irq pending_line counts
full_empty c q m o eq em eo z =
    sym
    (ap irq_of
    (by_none (lowest_by c) (counts c)
    (λ k h. and_left_no (bit c.request k && not (bit c.mask k)) (is_above_all c k (blocks_line c k))
    (sym (bit_outside 8 c.request c.mask k h) ∙ ap (λ (n : ℕ). bit n k) (sym (eo ∙ (λ j. outside 8 (eq j) (em j))) ∙ z) ∙ bit_none k))))

-- a chip asks exactly where a line is pending
asked : (c : Chip) → is_some (pending_irq c) ≡ asks c
unfolding pending_irq asks
asked c = go (ltb (pending_line c) 8)
  where
    go : (b : Bool) → is_some {T = PicLine} (cond b (Some (record { 0 = pending_line c })) None) ≡ b
    go true = refl
    go false = refl

pub full_asked : (c : Chip) (o : Option PicLine) (b : Bool) → o ≡ pending_irq c → b ≡ is_some o → b ≡ asks c
full_asked c o b e s = s ∙ ap is_some e ∙ asked c

-- ---- a law for each way out

-- an end of interrupt
module _ (x y : Chip) (k : ℕ) (r : Bool) (e : y ≡ specific_eoi x k) where
  pub ended_turned : (z : Chip) → r ≡ true → z ≡ with_lowest (as_full y) k → z ≡ turned (specific_eoi (as_full x) k) r k
  ended_turned z t q = q ∙ ap (λ (c : Chip). with_lowest (as_full c) k) e ∙ rw t

  pub ended_still : r ≡ false → as_full y ≡ turned (specific_eoi (as_full x) k) r k
  ended_still t = ap as_full e ∙ rw t

module _ (c : Chip) (lowest i k : ℕ) (r : Bool) (f : c.full ≡ true) (el : lowest ≡ c.lowest_line) (ei : i ≡ set_of 8 (blocks c)) (ek : k ≡ first_by lowest (bit i)) where
  first_is_k : first_of c (blocks c) ≡ k
  first_is_k =
      ap (λ (b : Bool). first_by (cond b c.lowest_line 7) (blocks c)) f
      ∙ by_same c.lowest_line (blocks c) (bit i) (λ j h. sym (ap (λ (n : ℕ). bit n j) ei ∙ bit_set_of 8 (blocks c) j h))
      ∙ ap (λ (n : ℕ). first_by n (bit i)) (sym el) ∙ sym ek

  pub eoi_none : 8 ≤ k → c ≡ non_specific_eoi c r
  eoi_none h = sym (ap (λ (n : ℕ). cond (ltb n 8) (turned (specific_eoi c n) r n) c) first_is_k ∙ rw (le-ltb k 8 h))

  pub eoi_some : (d : Chip) → k < 8 → d ≡ turned (specific_eoi c k) r k → d ≡ non_specific_eoi c r
  eoi_some d h e = e ∙ sym (ap (λ (n : ℕ). cond (ltb n 8) (turned (specific_eoi c n) r n) c) first_is_k ∙ rw (lt-ltb k 8 h))

-- OCW2
module _ (c : Chip) (v : ℕ) (f : c.full ≡ true) where
  pub full_specific : (d : Chip) (r : Bool) → r ≡ bit v 7 → v / 32 % 2 ≡ 1 → v / 64 % 2 ≡ 1 → d ≡ turned (specific_eoi c (v % 8)) r (v % 8) → d ≡ ocw2 c v
  full_specific d r er h k e = rw (h, k) (e ∙ ap (λ (b : Bool). turned (specific_eoi c (v % 8)) b (v % 8)) er)

  pub full_plain : (d : Chip) (r : Bool) → r ≡ bit v 7 → v / 32 % 2 ≡ 1 → (v / 64 % 2 ≡ 1 → ⊥) → d ≡ non_specific_eoi c r → d ≡ ocw2 c v
  full_plain d r er h k e = rw (h, ne_eqb (v / 64 % 2) 1 k) (e ∙ ap (non_specific_eoi c) er)

  pub full_auto : (d : Chip) (r : Bool) → r ≡ bit v 7 → (v / 32 % 2 ≡ 1 → ⊥) → (v / 64 % 2 ≡ 1 → ⊥) → d ≡ with_auto_rotation c r → d ≡ ocw2 c v
  full_auto d r er h k e =
      rw (ne_eqb (v / 32 % 2) 1 h, ne_eqb (v / 64 % 2) 1 k)
      (e ∙ ap (with_auto_rotation c) er ∙ ap (λ (b : Bool). with_auto_rotation c (cond b (bit v 7) c.auto_rotation)) (sym f))

  pub full_priority : (d : Chip) (r : Bool) → r ≡ bit v 7 → (v / 32 % 2 ≡ 1 → ⊥) → v / 64 % 2 ≡ 1 → r ≡ true → d ≡ with_lowest c (v % 8) → d ≡ ocw2 c v
  full_priority d r er h k t e =
      rw (ne_eqb (v / 32 % 2) 1 h, k) (e ∙ (λ j. with_lowest c (cond (sym f j && (sym t ∙ er) j) (v % 8) c.lowest_line)))

  pub full_nothing : (r : Bool) → r ≡ bit v 7 → (v / 32 % 2 ≡ 1 → ⊥) → v / 64 % 2 ≡ 1 → r ≡ false → c ≡ ocw2 c v
  full_nothing r er h k t =
      rw (ne_eqb (v / 32 % 2) 1 h, k) (λ j. with_lowest c (cond (sym f j && (sym t ∙ er) j) (v % 8) c.lowest_line))

-- an acknowledgement
module _ (x y : Chip) (k : ℕ) (b : Bool) (f : b ≡ x.auto_eoi) (e : y ≡ with_request x (without x.request k)) where
  pub full_served : (z : Chip) → not b ≡ true → z ≡ with_in_service y (with y.in_service k) → as_full z ≡ acknowledged (as_full x) k
  unfolding acknowledged
  full_served z t q = ap as_full (q ∙ ap (λ (c : Chip). with_in_service c (with c.in_service k)) e) ∙ rw (sym f ∙ not-true b t)

  pub full_taken : (r : Bool) → not b ≡ false → r ≡ (as_full x).auto_rotation → r ≡ false → as_full y ≡ acknowledged (as_full x) k
  unfolding acknowledged
  full_taken r t er n = ap as_full e ∙ rw (sym f ∙ not-false b t, sym er ∙ n)

  pub full_turned : (r : Bool) (z : Chip) → not b ≡ false → r ≡ (as_full x).auto_rotation → r ≡ true → z ≡ with_lowest (as_full y) k → z ≡ acknowledged (as_full x) k
  unfolding acknowledged
  full_turned r z t er n q = q ∙ ap (λ (c : Chip). with_lowest (as_full c) k) e ∙ rw (sym f ∙ not-false b t, sym er ∙ n)

-- a poll
module _ (p : Bool) (x : Chip) (o : Option PicLine) (e : o ≡ pending_irq (placed p x)) where
  pub poll_none : (d : Chip) → o ≡ None → d ≡ with_poll x false → ◌≡◌ {A = Outcome Chip} (record { state = placed p d; reply = reply.One 0 }) (poll_read (placed p x))
  unfolding poll_read poll_shown polled
  poll_none d h q = rw (sym (asked (placed p x)) ∙ ap is_some (sym e ∙ h)) (ap (λ (c : Chip). record { state = placed p c; reply = reply.One 0 }) q)

  pub poll_low : (l : PicLine) → o ≡ Some l → l.0 < 8
  poll_low l h = (pending_is_line (placed p x) l (sym e ∙ h)).1

  pub poll_some : (l : PicLine) (a d : Chip) → o ≡ Some l → a ≡ acknowledged x l.0 → d ≡ with_poll a false
      → ◌≡◌ {A = Outcome Chip} (record { state = placed p d; reply = reply.One (0x80 + l.0) }) (poll_read (placed p x))
  unfolding poll_read poll_shown polled acknowledged
  poll_some l a d h q r =
      rw ((pending_is_line (placed p x) l (sym e ∙ h)).0, sym (asked (placed p x)) ∙ ap is_some (sym e ∙ h)) (ap (λ (c : Chip). record { state = placed p c; reply = reply.One (0x80 + l.0) }) (r ∙ ap (λ (c : Chip). with_poll c false) q))
