-- What counts on a chip whose priorities rotate, and what its steps do to the turns of a line that waits. Assumes nothing.
use mathlib.Core.Path.{◌≡◌, refl, sym, ap, ◌∙◌}
use mathlib.Core.Bool.{Bool, true, false, not, cond, ◌&&◌, ◌||◌}
use Prim.Native.Nat.{ℕ, ◌<◌}
use native.Mathlib.Omega.{arith}
use lib.Dec.{ltb, eqb}
use borrow.Author.Tests.{lt-ltb, ltb-true, ltb-false, eqb-true, eqb-false}
use Rattle.utils.specs.Set.{bit, with, without}
use Rattle.utils.proofs.Bools.{never, both, and-false, and_one}
use Rattle.utils.proofs.Laws.{bit_none, bit_with_same, bit_with_other, without_with}
use Rattle.types.specs.declared.PicLine.{PicLine}
use Rattle.vpic_chip.specs.Registers.{Chip, with_request, with_in_service}
use Rattle.vpic_priority.specs.Ring.{rank, first_rank, first_by}
use Rattle.vpic_priority.proofs.Ring.{rank_lt, by_rank, by_holds, by_is, by_none}
use Rattle.vpic_chip.proofs.Laws.{first_top, counted_asked, counted_open}
use Rattle.vpic_chip.specs.Chip.{lowest_by, first_of, is_above_all, is_special, blocks, turned, specific_eoi, non_specific_eoi, counts, pending_line, asks, acknowledged, pulsed, commanded, fed}
use Rattle.vpic_theorems.specs.Rotation.{turns}
use Rattle.vpic_theorems.proofs.Ring.{rank_same, Above, Top}
use Rattle.vpic_theorems.proofs.Rule.{asks_if_counts}
use Rattle.vpic_theorems.proofs.Ordinary.{Ended, Plainly, idle_ended, idle_plainly, plainly_counts, plainly_above, ended_highest}

-- ---- the line that is acknowledged

-- it is above what is in service, and before every other line that is requested and unmasked
pub record Next (c : Chip) (k : ℕ) : Type 0 where
  pub low : k < 8
  pub asked : bit c.request k ≡ true
  pub unmasked : bit c.mask k ≡ false
  pub above : Above (lowest_by c) c.in_service k
  pub nearest : (n : ℕ) → n < 8 → bit c.request n ≡ true → bit c.mask n ≡ false → (k ≡ n → ⊥) → rank (lowest_by c) k < rank (lowest_by c) n

-- a line counts where it is requested, unmasked and before all that are in service
pub count_is : (c : Chip) (n : ℕ) → Plainly c → bit c.request n ≡ true → bit c.mask n ≡ false → is_above_all c n (bit c.in_service) ≡ true → counts c n ≡ true
count_is c n p r m t = plainly_counts c p n ∙ rw (r, m) t

pub next : (c : Chip) → Plainly c → asks c ≡ true → Next c (pending_line c)
unfolding asks pending_line
next c p e =
    let l = lowest_by c in
    let k = first_of c (counts c) in
    let h : k < 8 = ltb-true k 8 e in
    let s : counts c k ≡ true = by_holds l (counts c) h in
    record {
      low = h;
      asked = counted_asked c k s;
      unmasked = counted_open c k s;
      above = λ j q i. omega (arith, plainly_above c p k s, first_top l (bit c.in_service) j i);
      nearest = λ n q r m d. near n q r m d h (plainly_above c p k s) (is_above_all c n (bit c.in_service)) refl;
    }
  where
    near : (n : ℕ) → n < 8 → bit c.request n ≡ true → bit c.mask n ≡ false → (first_of c (counts c) ≡ n → ⊥) → first_of c (counts c) < 8
        → rank (lowest_by c) (first_of c (counts c)) < first_rank (lowest_by c) (bit c.in_service) → (b : Bool) → is_above_all c n (bit c.in_service) ≡ b
        → rank (lowest_by c) (first_of c (counts c)) < rank (lowest_by c) n
    near n q r m d h s true t =
        let l = lowest_by c in
        let u : rank l (first_of c (counts c)) ≡ rank l n → ⊥ = λ w. d (rank_same l (first_of c (counts c)) n h q w) in
        omega (arith, by_rank l (counts c), first_top l (counts c) n (count_is c n p r m t), u)
    near n q r m d h s false t = omega (arith, ltb-false (rank (lowest_by c) n) (first_rank (lowest_by c) (bit c.in_service)) t)

-- with nothing in service, a line that is requested and unmasked makes the chip ask
none_by : (l : ℕ) → first_by l (bit 0) ≡ 8
none_by l = by_none l (bit 0) (λ j h. bit_none j)

none_first : (l : ℕ) → first_rank l (bit 0) ≡ 8
none_first l = sym (by_rank l (bit 0)) ∙ ap (rank l) (none_by l)

pub asks_for : (c : Chip) (n : ℕ) → n < 8 → bit c.request n ≡ true → bit c.mask n ≡ false → c.in_service ≡ 0 → asks c ≡ true
asks_for c n q r m i =
    let l = lowest_by c in
    let f : first_rank l (bit c.in_service) ≡ 8 = ap (λ (s : ℕ). first_rank l (bit s)) i ∙ none_first l in
    asks_if_counts c n (count_is c n (idle_plainly c i) r m (lt-ltb (rank l n) (first_rank l (bit c.in_service)) (omega (arith, rank_lt l n q))))

-- ---- the line that a plain EOI ends

abbrev pub highest_in_service : Chip → ℕ
highest_in_service c = first_of c (bit c.in_service)

pub top_in : (c : Chip) → highest_in_service c < 8 → bit c.in_service (highest_in_service c) ≡ true
top_in c h = by_holds (lowest_by c) (bit c.in_service) h

pub top_first : (c : Chip) → Top (lowest_by c) c.in_service (highest_in_service c)
top_first c j q e = omega (arith, by_rank (lowest_by c) (bit c.in_service), first_top (lowest_by c) (bit c.in_service) j e)

-- ---- what the steps of a chip change

-- e is c but for its request, priorities and what is in service
pub record Becomes (c e : Chip) (irr isr low : ℕ) : Type 0 where
  pub full : e.full ≡ c.full
  pub mask : e.mask ≡ c.mask
  pub auto_eoi : e.auto_eoi ≡ c.auto_eoi
  pub auto_rotation : e.auto_rotation ≡ c.auto_rotation
  pub request : e.request ≡ irr
  pub in_service : e.in_service ≡ isr
  pub lowest : lowest_by e ≡ low

same_but : (c : Chip) (irr isr : ℕ) → Becomes c (with_in_service (with_request c irr) isr) irr isr (lowest_by c)
same_but c irr isr = record { full = refl; mask = refl; auto_eoi = refl; auto_rotation = refl; request = refl; in_service = refl; lowest = refl }

-- the acknowledgement puts the line into service; in automatic EOI mode with rotation it makes the line the lowest
pub turned_not : (f : Bool) (k l : ℕ) → cond f (cond (f && false) k l) 7 ≡ cond f l 7
turned_not true k l = refl
turned_not false k l = refl

pub ack_serves : (c : Chip) (k : ℕ) → c.auto_eoi ≡ false → Becomes c (acknowledged c k) (without c.request k) (with c.in_service k) (lowest_by c)
unfolding acknowledged
ack_serves c k a = record {
  full = refl;
  mask = refl;
  auto_eoi = refl;
  auto_rotation = refl;
  request = refl;
  in_service = ap (λ (b : Bool). cond b c.in_service (with c.in_service k)) a;
  lowest = ap (λ (b : Bool). cond c.full (cond (c.full && (b && c.auto_rotation)) k c.lowest_line) 7) a ∙ turned_not c.full k c.lowest_line;
}

pub ack_turns : (c : Chip) (k : ℕ) → c.full ≡ true → c.auto_eoi ≡ true → c.auto_rotation ≡ true
    → Becomes c (acknowledged c k) (without c.request k) c.in_service k
unfolding acknowledged
ack_turns c k f a t = record {
  full = refl;
  mask = refl;
  auto_eoi = refl;
  auto_rotation = refl;
  request = refl;
  in_service = ap (λ (b : Bool). cond b c.in_service (with c.in_service k)) a;
  lowest = low c.full c.auto_eoi c.auto_rotation f a t;
}
  where
    low : (f a t : Bool) → f ≡ true → a ≡ true → t ≡ true → cond f (cond (f && (a && t)) k c.lowest_line) 7 ≡ k
    low true true true x y z = refl
    low true true false x y z = never z refl
    low true false t x y z = never y refl
    low false a t x y z = never x refl

-- a write to the data port
pub record Keeps (c e : Chip) : Type 0 where
  pub full : e.full ≡ c.full
  pub request : e.request ≡ c.request
  pub in_service : e.in_service ≡ c.in_service
  pub lowest : lowest_by e ≡ lowest_by c

pub fed_keeps : (c : Chip) (v : ℕ) → Keeps c (fed c v)
unfolding fed
fed_keeps c v =
    both (Keeps c) (eqb c.init_step 1) _ _ (record { full = refl; request = refl; in_service = refl; lowest = refl })
    (both (Keeps c) (eqb c.init_step 2) _ _ (record { full = refl; request = refl; in_service = refl; lowest = refl })
    (both (Keeps c) (eqb c.init_step 3) _ _ (record { full = refl; request = refl; in_service = refl; lowest = refl })
    (record { full = refl; request = refl; in_service = refl; lowest = refl })))

pub becomes_same : (c : Chip) → Becomes c c c.request c.in_service (lowest_by c)
becomes_same c = record { full = refl; mask = refl; auto_eoi = refl; auto_rotation = refl; request = refl; in_service = refl; lowest = refl }

-- an edge on a line keeps all but requests, and takes none away
pub raise_becomes : (c : Chip) (l : PicLine) → Becomes c (pulsed c l) (pulsed c l).request c.in_service (lowest_by c)
unfolding pulsed
raise_becomes c l = go (ltb l.0 8)
  where
    go : (b : Bool) → Becomes c (cond b (with_request c (with c.request l.0)) c) (cond b (with_request c (with c.request l.0)) c).request c.in_service (lowest_by c)
    go true = same_but c (with c.request l.0) c.in_service
    go false = becomes_same c

pub raise_keeps : (c : Chip) (l : PicLine) (n : ℕ) → bit c.request n ≡ true → bit (pulsed c l).request n ≡ true
unfolding pulsed
raise_keeps c l n a = both (λ (e : Chip). bit e.request n ≡ true) (ltb l.0 8) _ _ (go (eqb n l.0) refl) a
  where
    go : (b : Bool) → eqb n l.0 ≡ b → bit (with c.request l.0) n ≡ true
    go true e = rw (eqb-true n l.0 e) (bit_with_same c.request l.0)
    go false e = bit_with_other c.request l.0 n (eqb-false n l.0 e) ∙ a

-- ---- the plain EOI with rotation

-- what it comes to on a full chip
abbrev pub rotating_eoi : Chip → Chip
rotating_eoi c = non_specific_eoi c true

pub eoi_is : (c : Chip) → commanded c 0xa0 ≡ rotating_eoi c
unfolding commanded
eoi_is c = refl

ended_at : Chip → ℕ → Chip
ended_at c b = cond (ltb b 8) (turned (specific_eoi c b) true b) c

-- where every line in service can end by it
pub eoi_highest : (c : Chip) → Ended c → rotating_eoi c ≡ cond (ltb (highest_in_service c) 8) (turned (specific_eoi c (highest_in_service c)) true (highest_in_service c)) c
unfolding ended_at
eoi_highest c h = ap (ended_at c) (ended_highest c h)

-- nothing is in service
pub eoi_none : (c : Chip) → c.in_service ≡ 0 → rotating_eoi c ≡ c
unfolding ended_at
eoi_none c i = ap (ended_at c) (ended_highest c (idle_ended c i) ∙ ap (λ (s : ℕ). first_by (lowest_by c) (bit s)) i ∙ none_by (lowest_by c))

-- one line is: it ends, and becomes the lowest
one_by : (l k : ℕ) → k < 8 → first_by l (bit (with 0 k)) ≡ k
one_by l k h =
    by_is l (bit (with 0 k)) k h (bit_with_same 0 k)
    (λ j q. bit_with_other 0 k j (λ e. let z : rank l j ≡ rank l k = ap (rank l) e in absurd (omega arith)) ∙ bit_none j)

pub eoi_one : (c : Chip) (k : ℕ) → c.full ≡ true → k < 8 → bit c.mask k ≡ false → c.in_service ≡ with 0 k → Becomes c (rotating_eoi c) c.request 0 k
unfolding ended_at
eoi_one c k f h u i = rw here (record {
  full = refl;
  mask = refl;
  auto_eoi = refl;
  auto_rotation = refl;
  request = refl;
  in_service = ap (λ (s : ℕ). without s k) i ∙ without_with 0 k (bit_none k);
  lowest = ap (λ (b : Bool). cond b (cond (b && true) k c.lowest_line) 7) f;
})
  where
    -- it is unmasked, so that it can end in special mask mode too
    can_end : Ended c
    can_end j = go (eqb j k) refl
      where
        go : (b : Bool) → eqb j k ≡ b → blocks c j ≡ bit c.in_service j
        go true e =
            ap (λ (b : Bool). bit c.in_service j && not (is_special c && b)) (ap (bit c.mask) (eqb-true j k e) ∙ u)
            ∙ ap (λ (b : Bool). bit c.in_service j && not b) (and-false (is_special c)) ∙ and_one (bit c.in_service j)
        go false e =
            let z : bit c.in_service j ≡ false = ap (λ (s : ℕ). bit s j) i ∙ bit_with_other 0 k j (eqb-false j k e) ∙ bit_none j in
            ap (λ (b : Bool). b && not (is_special c && bit c.mask j)) z ∙ sym z

    here : ended_at c (first_of c (blocks c)) ≡ turned (specific_eoi c k) true k
    here = ap (ended_at c) (ended_highest c can_end ∙ ap (λ (s : ℕ). first_by (lowest_by c) (bit s)) i ∙ one_by (lowest_by c) k h) ∙ rw (lt-ltb k 8 h)

-- ---- a round: line k is acknowledged, and the plain EOI with rotation follows

-- how a chip stands after the acknowledgement where nothing was in service: k in service, or k the lowest
pub data Taken (e : Chip) (k : ℕ) : Type 0 where
  serving : e.in_service ≡ with 0 k → Taken e k
  rotated : e.in_service ≡ 0 → lowest_by e ≡ k → Taken e k

pub record Acknowledged (c e : Chip) (k : ℕ) : Type 0 where
  pub full : e.full ≡ c.full
  pub mask : e.mask ≡ c.mask
  pub auto_eoi : e.auto_eoi ≡ c.auto_eoi
  pub auto_rotation : e.auto_rotation ≡ c.auto_rotation
  pub request : e.request ≡ without c.request k
  pub taken : Taken e k

pub ack_idle : (c : Chip) (k : ℕ) → c.full ≡ true → c.in_service ≡ 0 → turns c ≡ true → Acknowledged c (acknowledged c k) k
ack_idle c k f i t = go c.auto_eoi c.auto_rotation refl refl t
  where
    go : (a r : Bool) → c.auto_eoi ≡ a → c.auto_rotation ≡ r → (not a || r) ≡ true → Acknowledged c (acknowledged c k) k
    go true true e g h =
        let b = ack_turns c k f e g in
        record { full = b.full; mask = b.mask; auto_eoi = b.auto_eoi; auto_rotation = b.auto_rotation; request = b.request; taken = rotated (b.in_service ∙ i) b.lowest }
    go true false e g h = never h refl
    go false r e g h =
        let b = ack_serves c k e in
        record { full = b.full; mask = b.mask; auto_eoi = b.auto_eoi; auto_rotation = b.auto_rotation; request = b.request; taken = serving (b.in_service ∙ ap (λ (s : ℕ). with s k) i) }

-- what comes between doesn't matter, if it keeps what is in service and the priorities
pub taken_still : (c e : Chip) (k : ℕ) → e.in_service ≡ c.in_service → lowest_by e ≡ lowest_by c → Taken c k → Taken e k
taken_still c e k i l (serving h) = serving (i ∙ h)
taken_still c e k i l (rotated h j) = rotated (i ∙ h) (l ∙ j)

pub eoi_taken : (e : Chip) (k : ℕ) → e.full ≡ true → k < 8 → bit e.mask k ≡ false → Taken e k → Becomes e (commanded e 0xa0) e.request 0 k
eoi_taken e k f h u (serving i) = rw (eoi_is e) (eoi_one e k f h u i)
eoi_taken e k f h u (rotated i l) = rw (eoi_is e, eoi_none e i) (record { full = refl; mask = refl; auto_eoi = refl; auto_rotation = refl; request = refl; in_service = i; lowest = l })
