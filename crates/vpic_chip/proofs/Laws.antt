-- Laws of one chip: which requests count, and a law for each way out of its functions, over free records. Assumes nothing.
use mathlib.Core.Path.{◌≡◌, refl, sym, ap, ap₂, subst, ◌∙◌}
use mathlib.Core.Bool.{Bool, true, false, not, cond, ◌&&◌}
use Prim.Native.Nat.{ℕ, ◌*◌, ◌-◌, ◌/◌, ◌%◌, ◌^◌, ◌<◌, ◌≤◌}
use native.Mathlib.Omega.{arith}
use native.Mathlib.Nat.{mod-lt, zero-div}
use lib.Dec.{ltb, eqb}
use Rattle.std.specs.Prelude.{Option, Some, None}
use lib.Pow.{pow_pos}
use borrow.Author.Tests.{ltb-true, ltb-false, lt-ltb, le-ltb, ne_eqb, eqb-true, eqb-false, not-true, not-false}
use Rattle.vpic_priority.specs.Ring.{rank, above, first_rank, first_by}
use Rattle.vpic_priority.proofs.Ring.{rank_lt, rank_low, first_rank_le, by_rank, by_holds, by_before, by_none, first_rank_same, nested_rank, nested_first_rank, nested_first, nested_above}
use Rattle.utils.specs.Set.{bit, with, without, outside, set_of, first, below, lowest}
use Rattle.utils.specs.Cases.{cases, and_left_no, and_right_no}
use Rattle.utils.proofs.Bools.{never, and_true, and-false, and_one, not_is}
use Rattle.utils.proofs.Search.{first_same}
use Rattle.utils.proofs.Laws.{bit_above, bit_set_of, bit_outside, bit_cut, set_of_lt, set_of_same, set_of_bits, without_member, without_le, bit_with_same, bit_without_same, bit_without_other}
use Rattle.utils.proofs.Lowest.{lowest_in_byte}
use Rattle.types.specs.declared.PicLine.{PicLine}
use Rattle.types.specs.declared.Vector.{Vector}
use Rattle.types.specs.declared.Reply.TheVariants as reply
use Rattle.types.specs.Counters.{line_vector}
use Rattle.types.specs.Reply.{Outcome, vector_reply as given_reply}
use Rattle.types.proofs.Replies.{option_reply_same, vector_same, vector_some}
use Rattle.vpic_chip.proofs.Packing.{plain, service_less}
use Rattle.vpic_chip.specs.Registers.{Chip, chip_in, with_base, with_request, with_in_service, with_step, with_auto_eoi, with_read_isr, with_nested}
use Rattle.vpic_chip.specs.Chip.{lowest_by, first_of, is_above, is_above_all, turned, is_special, is_nested, blocks, blocks_line, auto_rotated, ocw2, non_specific_eoi, specific_eoi, after_icw3, icw2, icw3, icw4, ocw1, fed, commanded, pulsed, counts, pending_line, Highest, pending_irq, pending_reply, asks, driven, acknowledged, acknowledge, unacknowledged, vector_reply}

-- ---- priorities

-- a line is above every line of a set exactly if it is above each: ranks and `is_above` say the same
module _ (c : Chip) (k : ℕ) (set : ℕ → Bool) where
  pub above_each : is_above_all c k set ≡ true → (j : ℕ) → j < 8 → set j ≡ true → is_above c k j ≡ true
  unfolding above
  above_each e j l s = lt-ltb (rank (lowest_by c) k) (rank (lowest_by c) j) (go (ltb (rank (lowest_by c) j) (first_rank (lowest_by c) set)) refl)
    where
      below_first : rank (lowest_by c) k < first_rank (lowest_by c) set
      below_first = ltb-true (rank (lowest_by c) k) (first_rank (lowest_by c) set) e

      go : (b : Bool) → ltb (rank (lowest_by c) j) (first_rank (lowest_by c) set) ≡ b → rank (lowest_by c) k < rank (lowest_by c) j
      go true f = never s (by_before (lowest_by c) set j (ltb-true (rank (lowest_by c) j) (first_rank (lowest_by c) set) f))
      go false f = omega (arith, below_first, ltb-false (rank (lowest_by c) j) (first_rank (lowest_by c) set) f)

  pub each_above : k < 8 → ((j : ℕ) → j < 8 → set j ≡ true → is_above c k j ≡ true) → is_above_all c k set ≡ true
  unfolding above
  each_above l h = lt-ltb (rank (lowest_by c) k) (first_rank (lowest_by c) set) (go (ltb (first_rank (lowest_by c) set) 8) refl)
    where
      go : (b : Bool) → ltb (first_rank (lowest_by c) set) 8 ≡ b → rank (lowest_by c) k < first_rank (lowest_by c) set
      go true f =
          let n = first_of c set in
          let r : rank (lowest_by c) n ≡ first_rank (lowest_by c) set = by_rank (lowest_by c) set in
          let i : n < 8 = rank_low (lowest_by c) n (omega (arith, r, ltb-true (first_rank (lowest_by c) set) 8 f)) in
          omega (arith, r, ltb-true (rank (lowest_by c) k) (rank (lowest_by c) n) (h n i (by_holds (lowest_by c) set i)))
      go false f = omega (arith, rank_lt (lowest_by c) k l, ltb-false (first_rank (lowest_by c) set) 8 f)

-- a line at which a test holds is none before the first
pub first_top : (l : ℕ) (p : ℕ → Bool) (j : ℕ) → p j ≡ true → first_rank l p ≤ rank l j
first_top l p j e = go (ltb (rank l j) (first_rank l p)) refl
  where
    go : (b : Bool) → ltb (rank l j) (first_rank l p) ≡ b → first_rank l p ≤ rank l j
    go true d = never e (by_before l p j (ltb-true (rank l j) (first_rank l p) d))
    go false d = ltb-false (rank l j) (first_rank l p) d

-- ---- what is in the way of a line

module _ (c : Chip) (s : is_special c ≡ false) where
  -- outside special mask mode every line in service
  pub ordinary_blocks : (j : ℕ) → blocks c j ≡ bit c.in_service j
  ordinary_blocks j = ap (λ (b : Bool). bit c.in_service j && not (b && bit c.mask j)) s ∙ and_one (bit c.in_service j)

module _ (c : Chip) (n : is_nested c ≡ false) where
  -- outside special fully nested mode the same lines are in every line's way
  pub ordinary_line : (k j : ℕ) → blocks_line c k j ≡ blocks c j
  ordinary_line k j = ap (λ (b : Bool). blocks c j && not (b && eqb k 2 && eqb j 2)) n ∙ and_one (blocks c j)

-- so in neither mode the lines in service are in every line's way
pub ordinary : (c : Chip) → is_special c ≡ false → is_nested c ≡ false → (k j : ℕ) → blocks_line c k j ≡ bit c.in_service j
ordinary c s n k j = ordinary_line c n k j ∙ ordinary_blocks c s j

-- what is in another line's way is in this one's too, in every mode, unless both are line 2
pub blocks_other : (c : Chip) (k i j : ℕ) → blocks_line c i j ≡ true → (k ≡ j → ⊥) → blocks_line c k j ≡ true
blocks_other c k i j e d =
    let a : blocks c j ≡ true = (and_true (blocks c j) (not (is_nested c && eqb i 2 && eqb j 2)) e).0 in
    rw a (go (eqb k 2) refl (eqb j 2) refl)
  where
    go : (x : Bool) → eqb k 2 ≡ x → (y : Bool) → eqb j 2 ≡ y → not (is_nested c && x && y) ≡ true
    go true p true q = absurd (d (eqb-true k 2 p ∙ sym (eqb-true j 2 q)))
    go x p false q = ap not (and-false (is_nested c && x))
    go false p true q = ap (λ (b : Bool). not (b && true)) (and-false (is_nested c))

-- a chip that isn't a full one has the order of the numbers
module _ (c : Chip) (f : c.full ≡ false) where
  plain_special : is_special c ≡ false
  plain_special = rw f

  plain_nested : is_nested c ≡ false
  plain_nested = rw f

  pub plain_lowest : lowest_by c ≡ 7
  plain_lowest = rw f

  pub plain_first : (p : ℕ → Bool) → first_of c p ≡ first 8 p
  plain_first p = ap (λ (n : ℕ). first_by n p) plain_lowest ∙ nested_first p

  pub plain_above : (j k : ℕ) → j < 8 → k < 8 → is_above c j k ≡ ltb j k
  plain_above j k h l = ap (λ (n : ℕ). above n j k) plain_lowest ∙ nested_above j k h l

  pub plain_above_all : (k n : ℕ) → k < 8 → is_above_all c k (bit n) ≡ ltb k (lowest 8 n)
  unfolding lowest
  plain_above_all k n h =
      ap (λ (m : ℕ). ltb (rank m k) (first_rank m (bit n))) plain_lowest ∙ ap₂ ltb (nested_rank k h) (nested_first_rank (bit n))

  -- so a request counts if it is unmasked and its line below every line in service
  pub plain_counts : (k : ℕ) → k < 8 → counts c k ≡ (bit c.request k && not (bit c.mask k) && ltb k (lowest 8 c.in_service))
  unfolding counts
  plain_counts k h =
      ap (λ (b : Bool). bit c.request k && not (bit c.mask k) && b)
      (ap (λ (n : ℕ). ltb (rank (lowest_by c) k) n) (first_rank_same (lowest_by c) (blocks_line c k) (bit c.in_service) (λ j l. ordinary c plain_special plain_nested k j))
      ∙ plain_above_all k c.in_service h)

  plain_highest : first_of c (blocks c) ≡ first 8 (bit c.in_service)
  plain_highest = plain_first (blocks c) ∙ first_same 8 (blocks c) (bit c.in_service) (λ j l. ordinary_blocks c plain_special j)

  -- and no command turns its priorities
  pub plain_turned : (rotates : Bool) (k : ℕ) → turned c rotates k ≡ c
  plain_turned rotates k = rw f

  pub plain_auto : (on : Bool) → auto_rotated c on ≡ c
  plain_auto on = rw f

-- ---- the requests that count

-- a set cut off at c has no member from there up
bit_below : (n c k : ℕ) → bit (below n c) k ≡ (bit n k && ltb k c)
bit_below n c k = go (ltb k c) refl
  where
    go : (b : Bool) → ltb k c ≡ b → bit (below n c) k ≡ (bit n k && b)
    go true e = bit_cut n c k (ltb-true k c e) ∙ sym (and_one (bit n k))
    go false e = bit_above c (below n c) k (mod-lt n (pow_pos c)) (ltb-false k c e) ∙ sym (and-false (bit n k))

pub waiting_way : (c : Chip) (q m o s r : ℕ) → c.full ≡ false → q ≡ c.request → m ≡ c.mask → o ≡ outside 8 q m → s ≡ c.in_service → r ≡ below o (lowest 8 s) → r < 2 ^ 8 → r ≡ set_of 8 (counts c)
waiting_way c q m o s r f eq em eo es er l = sym (set_of_bits 8 r l) ∙ set_of_same 8 (bit r) (counts c) same
  where
    open_is : o ≡ outside 8 c.request c.mask
    open_is = cc

    same : (k : ℕ) → k < 8 → bit r k ≡ counts c k
    same k h =
        ap (λ (n : ℕ). bit n k) (er ∙ ap₂ (λ (x y : ℕ). below x (lowest 8 y)) open_is es) ∙ bit_below (outside 8 c.request c.mask) (lowest 8 c.in_service) k
        ∙ ap (λ (b : Bool). b && ltb k (lowest 8 c.in_service)) (bit_outside 8 c.request c.mask k h) ∙ sym (plain_counts c f k h)

-- the lowest of those at which a test holds is the first
lowest_set_of : (w : ℕ) (p : ℕ → Bool) → lowest w (set_of w p) ≡ first w p
unfolding lowest
lowest_set_of w p = first_same w (bit (set_of w p)) p (λ k l. bit_set_of w p k l)

plain_pending : (c : Chip) (n : ℕ) → c.full ≡ false → n ≡ set_of 8 (counts c) → lowest 8 n ≡ pending_line c
unfolding pending_line
plain_pending c n f e = ap (lowest 8) e ∙ lowest_set_of 8 (counts c) ∙ sym (plain_first c f (counts c))

pub pending_none : (c : Chip) (n : ℕ) (l : PicLine) → c.full ≡ false → n ≡ set_of 8 (counts c) → l.0 ≡ lowest 8 n → 8 ≤ l.0 → None ≡ pending_irq c
unfolding pending_irq
pending_none c n l f en el h = let e : pending_line c ≡ l.0 = sym (el ∙ plain_pending c n f en) in rw (e, le-ltb l.0 8 h)

pub pending_some : (c : Chip) (n : ℕ) (l : PicLine) → c.full ≡ false → n ≡ set_of 8 (counts c) → l.0 ≡ lowest 8 n → l.0 < 8 → Some l ≡ pending_irq c
unfolding pending_irq
pending_some c n l f en el h = let e : pending_line c ≡ l.0 = sym (el ∙ plain_pending c n f en) in rw (e, lt-ltb l.0 8 h)

empty_lowest : ltb (lowest 8 0) 8 ≡ false
unfolding lowest
empty_lowest = refl

pub asks_way : (c : Chip) (n : ℕ) → c.full ≡ false → n ≡ set_of 8 (counts c) → not (eqb n 0) ≡ asks c
unfolding asks
asks_way c n f e = go (eqb n 0) refl ∙ ap (λ (k : ℕ). ltb k 8) (plain_pending c n f e)
  where
    go : (b : Bool) → eqb n 0 ≡ b → not b ≡ ltb (lowest 8 n) 8
    go true q = sym (ap (λ (k : ℕ). ltb (lowest 8 k) 8) (eqb-true n 0 q) ∙ empty_lowest)
    go false q = sym (lt-ltb (lowest 8 n) 8 (lowest_in_byte n (omega (arith, set_of_lt 8 (counts c))) (eqb-false n 0 q)))

-- where no request counts, the chip doesn't ask
pub asks_not : (c : Chip) → ((j : ℕ) → j < 8 → counts c j ≡ false) → asks c ≡ false
unfolding asks pending_line
asks_not c n = ap (λ (k : ℕ). ltb k 8) (by_none (lowest_by c) (counts c) n)

-- without a request none counts
pub asks_none : (c : Chip) (n : ℕ) → n ≡ c.request → n ≡ 0 → false ≡ asks c
unfolding counts
asks_none c n e z =
    sym
    (asks_not c
    (λ j l. and_left_no _ _ (and_left_no _ _ (ap (λ (m : ℕ). bit m j) (sym e ∙ z) ∙ ap (λ (m : ℕ). eqb (m % 2) 1) (zero-div (2 ^ j))))))

-- ---- what is pending

-- a pending line is the line that the search found, one of eight
pub pending_is_line : (c : Chip) (k : PicLine) → pending_irq c ≡ Some k → (pending_line c ≡ k.0) × (k.0 < 8)
unfolding pending_irq
pending_is_line c k e = go (ltb (pending_line c) 8) refl e
  where
    go : (b : Bool) → ltb (pending_line c) 8 ≡ b → cond b (Some (record { 0 = pending_line c })) None ≡ Some k → (pending_line c ≡ k.0) × (k.0 < 8)
    go true h q =
        let s : ◌≡◌ {A = PicLine} (record { 0 = pending_line c }) k = cc in
        let d : pending_line c ≡ k.0 = ap (λ (x : PicLine). x.0) s in
        (d, omega (arith, ltb-true (pending_line c) 8 h))
    go false h q = let z : ◌≡◌ {A = ℕ} 0 1 = cc in absurd (omega arith)

-- it is the highest that counts
pub pended : (c : Chip) (k : PicLine) → pending_irq c ≡ Some k → Highest c k.0
unfolding pending_line above
pended c k e =
    let is : (pending_line c ≡ k.0) × (k.0 < 8) = pending_is_line c k e in
    let here : first_of c (counts c) ≡ k.0 = is.0 in
    let same : rank (lowest_by c) k.0 ≡ first_rank (lowest_by c) (counts c) = ap (rank (lowest_by c)) (sym here) ∙ by_rank (lowest_by c) (counts c) in
    record {
      low = is.1;
      counted = subst (λ (n : ℕ). counts c n ≡ true) here (by_holds (lowest_by c) (counts c) (omega arith));
      above = λ j l. by_before (lowest_by c) (counts c) j (omega (arith, same, ltb-true (rank (lowest_by c) j) (rank (lowest_by c) k.0) l));
    }

-- a line that counts is requested, unmasked, above every line that is in its way, and so not in its own way
module _ (c : Chip) (k : ℕ) (e : counts c k ≡ true) where
  open_line : (bit c.request k && not (bit c.mask k)) ≡ true
  unfolding counts
  open_line = (and_true (bit c.request k && not (bit c.mask k)) (is_above_all c k (blocks_line c k)) e).0

  pub counted_asked : bit c.request k ≡ true
  counted_asked = (and_true (bit c.request k) (not (bit c.mask k)) open_line).0

  pub counted_open : bit c.mask k ≡ false
  counted_open = not_is (bit c.mask k) (and_true (bit c.request k) (not (bit c.mask k)) open_line).1

  pub counted_above : rank (lowest_by c) k < first_rank (lowest_by c) (blocks_line c k)
  unfolding counts
  counted_above =
      ltb-true (rank (lowest_by c) k) (first_rank (lowest_by c) (blocks_line c k))
      (and_true (bit c.request k && not (bit c.mask k)) (is_above_all c k (blocks_line c k)) e).1

  pub counted_clear : blocks_line c k k ≡ false
  counted_clear = by_before (lowest_by c) (blocks_line c k) k counted_above

  -- nor in service, but for the master's line 2 in special fully nested mode
  pub counted_idle : (is_nested c && eqb k 2) ≡ false → bit c.in_service k ≡ false
  counted_idle n = sym (and_one _) ∙ ap (λ (b : Bool). bit c.in_service k && b) (sym unmasked) ∙ sym (and_one _) ∙ ap (λ (b : Bool). blocks c k && b) (sym other) ∙ counted_clear
    where
      unmasked : not (is_special c && bit c.mask k) ≡ true
      unmasked = ap (λ (b : Bool). not (is_special c && b)) counted_open ∙ ap not (and-false (is_special c))

      other : not (is_nested c && eqb k 2 && eqb k 2) ≡ true
      other = ap (λ (b : Bool). not (b && eqb k 2)) n

  -- what is above it has nothing in its way
  pub above_clear : (j : ℕ) → rank (lowest_by c) j < rank (lowest_by c) k → is_above_all c j (blocks_line c j) ≡ true
  above_clear j l = lt-ltb (rank (lowest_by c) j) (first_rank (lowest_by c) (blocks_line c j)) (go (ltb (rank (lowest_by c) j) (first_rank (lowest_by c) (blocks_line c j))) refl)
    where
      go : (b : Bool) → ltb (rank (lowest_by c) j) (first_rank (lowest_by c) (blocks_line c j)) ≡ b → rank (lowest_by c) j < first_rank (lowest_by c) (blocks_line c j)
      go true q = ltb-true (rank (lowest_by c) j) (first_rank (lowest_by c) (blocks_line c j)) q
      go false q =
          let f : first_rank (lowest_by c) (blocks_line c j) ≤ rank (lowest_by c) j = ltb-false (rank (lowest_by c) j) (first_rank (lowest_by c) (blocks_line c j)) q in
          let i = first_of c (blocks_line c j) in
          let r : rank (lowest_by c) i ≡ first_rank (lowest_by c) (blocks_line c j) = by_rank (lowest_by c) (blocks_line c j) in
          let up : rank (lowest_by c) i < rank (lowest_by c) k = omega arith in
          let small : first_rank (lowest_by c) (blocks_line c k) ≤ 8 = first_rank_le (lowest_by c) (blocks_line c k) in
          let low : i < 8 = rank_low (lowest_by c) i (omega (arith, counted_above)) in
          let there : blocks_line c k i ≡ true = blocks_other c k j i (by_holds (lowest_by c) (blocks_line c j) low) (λ z. omega (arith, ap (rank (lowest_by c)) z)) in
          never there (by_before (lowest_by c) (blocks_line c k) i (omega (arith, counted_above)))

-- outside automatic EOI mode an acknowledgement turns no priorities
pub untouched : (c : Chip) (k : ℕ) → c.auto_eoi ≡ false → (acknowledged c k).lowest_line ≡ c.lowest_line
unfolding acknowledged
untouched c k a = go c.full
  where
    go : (b : Bool) → cond (b && (c.auto_eoi && c.auto_rotation)) k c.lowest_line ≡ c.lowest_line
    go true = rw a
    go false = refl

-- a pending line that went into service leaves nothing that counts
module _ (c : Chip) (k : ℕ) (h : Highest c k) (a : c.auto_eoi ≡ false) where
  same_lowest : lowest_by (acknowledged c k) ≡ lowest_by c
  unfolding acknowledged
  same_lowest = ap (λ (n : ℕ). cond c.full n 7) (untouched c k a)

  served_on : bit (acknowledged c k).in_service k ≡ true
  unfolding acknowledged
  served_on = ap (λ (b : Bool). bit (cond b c.in_service (with c.in_service k)) k) a ∙ bit_with_same c.in_service k

  -- and in the way of every other line: it is unmasked
  in_the_way : (j : ℕ) → (j ≡ k → ⊥) → blocks_line (acknowledged c k) j k ≡ true
  unfolding acknowledged
  in_the_way j d = rw (open', other)
    where
      open' : blocks (acknowledged c k) k ≡ true
      open' =
          ap (λ (b : Bool). b && not (is_special c && bit c.mask k)) served_on
          ∙ ap (λ (b : Bool). not (is_special c && b)) (counted_open c k h.counted)
          ∙ ap not (and-false (is_special c))

      other : not (is_nested (acknowledged c k) && eqb j 2 && eqb k 2) ≡ true
      other = go (eqb j 2) refl (eqb k 2) refl
        where
          go : (x : Bool) → eqb j 2 ≡ x → (y : Bool) → eqb k 2 ≡ y → not (is_nested (acknowledged c k) && x && y) ≡ true
          go true p true q = absurd (d (eqb-true j 2 p ∙ sym (eqb-true k 2 q)))
          go x p false q = ap not (and-false (is_nested (acknowledged c k) && x))
          go false p true q = ap (λ (b : Bool). not (b && true)) (and-false (is_nested (acknowledged c k)))

  none_left : (j : ℕ) → j < 8 → counts (acknowledged c k) j ≡ false
  unfolding counts acknowledged above
  none_left j l = go (eqb j k) refl (ltb (rank (lowest_by c) j) (rank (lowest_by c) k)) refl
    where
      go : (a : Bool) → eqb j k ≡ a → (b : Bool) → ltb (rank (lowest_by c) j) (rank (lowest_by c) k) ≡ b → counts (acknowledged c k) j ≡ false
      -- its own request is gone
      go true q b e = and_left_no _ _ (and_left_no _ _ (ap (bit (without c.request k)) (eqb-true j k q) ∙ bit_without_same c.request k))
      -- above it no request waits
      go false q true e =
          let o : bit (without c.request k) j ≡ bit c.request j = bit_without_other c.request k j (eqb-false j k q) in
          let n : (bit c.request j && not (bit c.mask j)) ≡ false =
          sym (and_one _) ∙ ap (λ (b : Bool). (bit c.request j && not (bit c.mask j)) && b) (sym (above_clear c k h.counted j (ltb-true (rank (lowest_by c) j) (rank (lowest_by c) k) e))) ∙ h.above j e in
          and_left_no _ _ (ap (λ (b : Bool). b && not (bit c.mask j)) o ∙ n)
      -- below it, it is in the way
      go false q false e =
          and_right_no (bit (without c.request k) j && not (bit c.mask j)) (is_above_all (acknowledged c k) j (blocks_line (acknowledged c k) j))
          (ap (λ (n : ℕ). ltb (rank n j) (first_rank n (blocks_line (acknowledged c k) j))) same_lowest
          ∙ le-ltb (rank (lowest_by c) j) (first_rank (lowest_by c) (blocks_line (acknowledged c k) j))
          (omega (arith, first_top (lowest_by c) (blocks_line (acknowledged c k) j) k (in_the_way j (eqb-false j k q)), ltb-false (rank (lowest_by c) j) (rank (lowest_by c) k) e)))

  pub quiet_taken : asks (acknowledged c k) ≡ false
  quiet_taken = asks_not (acknowledged c k) none_left

-- an answer is known by its reply
pub pending_reply_same : (a b : Option PicLine) → pending_reply a ≡ pending_reply b → a ≡ b
pending_reply_same (Some l) (Some m) e = let k : l.0 ≡ m.0 = cc in ap (λ (n : ℕ). Some (record { 0 = n })) k
pending_reply_same (Some l) None e = let z : ◌≡◌ {A = ℕ} 0 1 = cc in absurd (omega arith)
pending_reply_same None (Some m) e = let z : ◌≡◌ {A = ℕ} 0 1 = cc in absurd (omega arith)
pending_reply_same None None e = refl

pub vector_reply_same : (a b : Option Vector) → vector_reply a ≡ vector_reply b → a ≡ b
vector_reply_same = option_reply_same given_reply vector_same vector_some

-- ---- a law for each way out

pub driven_up : (c d : Chip) (k : ℕ) (b : Bool) → b ≡ true → d ≡ with_request c (with c.request k) → d ≡ driven c k b
unfolding driven
driven_up c d k b t e = rw t e

pub driven_down : (c d : Chip) (k : ℕ) (b : Bool) → b ≡ false → d ≡ with_request c (without c.request k) → d ≡ driven c k b
unfolding driven
driven_down c d k b t e = rw t e

module _ (c d : Chip) (k : ℕ) (b : Bool) (p : c.full ≡ false) (f : b ≡ c.auto_eoi) (ed : d ≡ with_request c (without c.request k)) where
  pub taken_way : b ≡ true → d ≡ acknowledged c k
  unfolding acknowledged
  taken_way t = ed ∙ rw (p, sym f ∙ t)

  pub served_way : (e : Chip) → b ≡ false → e ≡ with_in_service d (with d.in_service k) → e ≡ acknowledged c k
  unfolding acknowledged
  served_way e t ee = ee ∙ ap (λ (x : Chip). with_in_service x (with x.in_service k)) ed ∙ rw (p, sym f ∙ t)

pub ack_none : (c : Chip) (l : PicLine) → 8 ≤ l.0 → ◌≡◌ {A = Outcome Chip} (record { state = c; reply = reply.Nothing }) (acknowledge c l)
unfolding acknowledge
ack_none c l h = search cases

pub ack_done : (c d : Chip) (l : PicLine) (b : ℕ) (v : Vector) → l.0 < 8 → b ≡ c.vector_base → v ≡ line_vector b l → d ≡ acknowledged c l.0
    → ◌≡◌ {A = Outcome Chip} (record { state = d; reply = reply.One v.0 }) (acknowledge c l)
unfolding acknowledge
ack_done c d l b v h eb ev ed = rw (lt-ltb l.0 8 h) (cc)

pub back_requested : (c r : Chip) (l : PicLine) (f : Bool) → not f ≡ true → r ≡ pulsed c l → r ≡ unacknowledged c l f
unfolding unacknowledged
back_requested c r l f n e = rw (not-true f n) e

pub back_outside : (c r : Chip) (l : PicLine) (f : Bool) → not f ≡ false → 8 ≤ l.0 → r ≡ pulsed c l → r ≡ unacknowledged c l f
unfolding unacknowledged
back_outside c r l f n h e = rw (not-false f n, le-ltb l.0 8 h) e

pub back_ended : (c a r : Chip) (l : PicLine) (f : Bool) → not f ≡ false → l.0 < 8 → a ≡ pulsed c l → r ≡ specific_eoi a l.0 → r ≡ unacknowledged c l f
unfolding unacknowledged
back_ended c a r l f n h e q = rw (not-false f n, lt-ltb l.0 8 h) (q ∙ ap (λ (x : Chip). specific_eoi x l.0) e)

module _ (c b d : Chip) (v s : ℕ) (t : Bool) (eb : b ≡ with_base c v) (et : t ≡ c.single) (ed : d ≡ with_step b s) where
  stepped : s ≡ cond c.single (after_icw3 c) 2 → d ≡ with_step (with_base c v) (cond c.single (after_icw3 c) 2)
  stepped k = ed ∙ ap (with_step b) k ∙ ap (λ (x : Chip). with_step x (cond c.single (after_icw3 c) 2)) eb

  pub icw2_single : t ≡ true → s ≡ after_icw3 c → d ≡ with_step (with_base c v) (cond c.single (after_icw3 c) 2)
  icw2_single f es = stepped (rw (sym et ∙ f) es)

  pub icw2_pair : t ≡ false → s ≡ 2 → d ≡ with_step (with_base c v) (cond c.single (after_icw3 c) 2)
  icw2_pair f es = stepped (rw (sym et ∙ f) es)

pub icw3_way : (c d : Chip) (n : ℕ) → n ≡ after_icw3 c → d ≡ with_step c n → d ≡ icw3 c
icw3_way c d n q e = e ∙ ap (with_step c) q

pub icw4_way : (c b d : Chip) (t n : Bool) → c.full ≡ false → b ≡ with_auto_eoi c t → d ≡ with_step b 0 → d ≡ with_step (with_nested (with_auto_eoi c t) (cond c.full n c.nested)) 0
icw4_way c b d t n f eb ed = ed ∙ ap (λ (x : Chip). with_step x 0) eb ∙ ap (λ (x : Bool). with_step (with_nested (with_auto_eoi c t) (cond x n c.nested)) 0) (sym f)

pub ocw3_way : (c d x : Chip) (t : Bool) → c.full ≡ false → d ≡ with_read_isr c t → d ≡ cond c.full x (with_read_isr c t)
ocw3_way c d x t f e = e ∙ ap (λ (b : Bool). cond b x (with_read_isr c t)) (sym f)

module _ (c d : Chip) (v s : ℕ) (es : s ≡ c.init_step) where
  pub fed_icw2 : s ≡ 1 → d ≡ icw2 c v → d ≡ fed c v
  unfolding fed
  fed_icw2 h e = rw (sym es, h) e

  pub fed_icw3 : s ≡ 2 → d ≡ icw3 c → d ≡ fed c v
  unfolding fed
  fed_icw3 h e = rw (sym es, h) e

  pub fed_icw4 : s ≡ 3 → d ≡ icw4 c v → d ≡ fed c v
  unfolding fed
  fed_icw4 h e = rw (sym es, h) e

  pub fed_ocw1 : (s ≡ 1 → ⊥) → (s ≡ 2 → ⊥) → (s ≡ 3 → ⊥) → d ≡ ocw1 c v → d ≡ fed c v
  unfolding fed
  fed_ocw1 h k l e = rw (ne_eqb c.init_step 1 (λ z. h (es ∙ z)), ne_eqb c.init_step 2 (λ z. k (es ∙ z)), ne_eqb c.init_step 3 (λ z. l (es ∙ z))) e

pub fed_ready : (c d : Chip) (v : ℕ) (b : Bool) → b ≡ eqb c.init_step 0 → b ≡ true → d ≡ ocw1 c v → d ≡ fed c v
fed_ready c d v b eb t e =
    let z : 0 ≡ c.init_step = sym (eqb-true c.init_step 0 (sym eb ∙ t)) in
    fed_ocw1 c d v 0 z (λ n. omega arith) (λ n. omega arith) (λ n. omega arith) e

pub commanded_eoi : (c d : Chip) (v : ℕ) → v ≡ 0x20 → d ≡ non_specific_eoi c false → d ≡ commanded c v
unfolding commanded
commanded_eoi c d v h e = rw h e

-- where no line is in service, nothing is taken out
pub ended_way : (c d : Chip) (s n : ℕ) → c.full ≡ false → s ≡ c.in_service → n ≡ without s (lowest 8 s) → s < 2 ^ 8 → d ≡ with_in_service c n → d ≡ non_specific_eoi c false
unfolding lowest
ended_way c d s n f es en l ed =
    ed ∙ ap (with_in_service c) (en ∙ ap (λ (x : ℕ). without x (first 8 (bit x))) es) ∙ go (ltb k 8) refl
    ∙ ap (λ (x : Chip). cond (ltb k 8) x c) (sym (plain_turned (specific_eoi c k) f false k))
    ∙ ap (λ (n : ℕ). cond (ltb n 8) (turned (specific_eoi c n) false n) c) (sym (plain_highest c f))
  where
    k : ℕ
    k = first 8 (bit c.in_service)

    go : (b : Bool) → ltb k 8 ≡ b → with_in_service c (without c.in_service k) ≡ cond b (specific_eoi c k) c
    go true e = refl
    go false e = ap (with_in_service c) (without_member c.in_service k (bit_above 8 c.in_service k (omega arith) (ltb-false k 8 e)))

-- the highest line's bit taken off the word
module _ (s n : ℕ) (en : n ≡ without s (lowest 8 s)) where
  pub ended_le : n ≤ s
  ended_le = omega (arith, without_le s (lowest 8 s))

  pub ended_less : (w : ℕ) → s ≡ (chip_in w).in_service → s < 2 ^ 8 → chip_in (w - (s - n) * 2 ^ 24) ≡ non_specific_eoi (chip_in w) false
  ended_less w es l = ended_way (chip_in w) _ s n (plain w) es en l (service_less w s n es ended_le)

-- OCW2 without rotation's profile
module _ (c : Chip) (v : ℕ) (f : c.full ≡ false) where
  pub ocw2_none : (v / 32 % 2 ≡ 1 → ⊥) → c ≡ ocw2 c v
  ocw2_none h = rw (ne_eqb (v / 32 % 2) 1 h) (go (bit v 6))
    where
      go : (b : Bool) → c ≡ cond b (turned c (bit v 7) (v % 8)) (auto_rotated c (bit v 7))
      go true = sym (plain_turned c f (bit v 7) (v % 8))
      go false = sym (plain_auto c f (bit v 7))

  pub ocw2_specific : (d : Chip) → v / 32 % 2 ≡ 1 → v / 64 % 2 ≡ 1 → d ≡ specific_eoi c (v % 8) → d ≡ ocw2 c v
  ocw2_specific d h k e = rw (h, k) (e ∙ sym (plain_turned (specific_eoi c (v % 8)) f (bit v 7) (v % 8)))

  pub ocw2_plain : (d : Chip) → v / 32 % 2 ≡ 1 → (v / 64 % 2 ≡ 1 → ⊥) → d ≡ non_specific_eoi c false → d ≡ ocw2 c v
  ocw2_plain d h k e = rw (h, ne_eqb (v / 64 % 2) 1 k) (e ∙ rw f)
