-- Rotation is fair. Assumes nothing.
use mathlib.Core.Path.{◌≡◌, refl, sym, ap, ap₂, subst, ◌∙◌}
use mathlib.Core.Bool.{Bool, true, false, not, cond, ◌&&◌, ◌||◌}
use mathlib.Core.List.{List, [], ◌∷◌, ◌++◌}
use Prim.Native.Nat.{ℕ, zero, suc, ◌+◌, ◌%◌, ◌<◌, ◌≤◌}
use native.Mathlib.Omega.{arith}
use lib.Dec.{ltb, eqb}
use lib.ListN.{length}
use borrow.Author.Tests.{ltb-true, eqb-true, eqb-false}
use Rattle.utils.specs.Set.{bit, with, without}
use Rattle.utils.proofs.Bools.{never, both, either, not_is, and_true}
use Rattle.utils.proofs.Laws.{bit_none, bit_with_same, bit_with_other, bit_without_other}
use Rattle.types.specs.declared.PicLine.{PicLine}
use Rattle.vpic_chip.specs.Registers.{Chip, with_poll}
use Rattle.vpic_priority.specs.Ring.{rank, first_rank, first_by}
use Rattle.vpic_priority.proofs.Ring.{rank_lt}
use Rattle.vpic_chip.specs.Chip.{lowest_by, turned, specific_eoi, non_specific_eoi, auto_rotated, icw1, ocw3, counts, pending_line, asks, acknowledged, pulsed, driven, unacknowledged, polled, commanded, fed}
use Rattle.vpic_theorems.specs.Rotation.{Event, raise, drive, acknowledge, read_poll, take_back, command, data_write, after, lines_of, lines, within, keeps_turns, is_ordinary, fairly, turns, raises, rounds, FairRounds, LastIsEighth, Needed, Waits, Fair, FairInEight}
use Rattle.vpic_theorems.proofs.Ring.{rank_turn, AllBefore, before, before_le, before_none, all_with, before_with, all_turn, before_turn, all_ended, before_ended}
use Rattle.vpic_theorems.proofs.Ordinary.{ordinary_ended, ordinary_plainly, idle_plainly}
use Rattle.vpic_theorems.proofs.Turns.{Becomes, becomes_same, ack_idle, eoi_taken, taken_still, raise_becomes, raise_keeps, ack_turns, ack_serves, fed_keeps, Next, next, asks_for, highest_in_service, rotating_eoi, eoi_highest, turned_not, top_in, top_first}

-- line n waits: it has asked, and every line in service stands before it
record Waiting (n : ℕ) (c : Chip) : Type 0 where
  full : c.full ≡ true
  asked : bit c.request n ≡ true
  all : AllBefore (lowest_by c) c.in_service n

-- the acknowledgements that may still come before n's: d is n's turns that passed from c to e
record Step (n : ℕ) (c e : Chip) (d : ℕ) : Type 0 where
  waiting : Waiting n e
  turns : d + rank (lowest_by e) n + before (lowest_by c) c.in_service n ≤ rank (lowest_by c) n + before (lowest_by e) e.in_service n

-- a step that changes neither priorities nor what is in service, and keeps n's request
same : (n : ℕ) (c e : Chip) → Waiting n c → e.full ≡ c.full → bit e.request n ≡ true → lowest_by e ≡ lowest_by c → e.in_service ≡ c.in_service → Step n c e 0
same n c e w f a l i = record {
  waiting = record { full = f ∙ w.full; asked = a; all = rw (l, i) w.all };
  turns = rw (l, i) (omega arith);
}

-- a line k before n is served: it goes into service, or in automatic EOI mode with rotation becomes the lowest
module _ (n : ℕ) (nlow : n < 8) (c : Chip) (w : Waiting n c) (k : ℕ) (h : Next c k) (open' : bit c.mask n ≡ false) (other : k ≡ n → ⊥) where
  near : rank (lowest_by c) k < rank (lowest_by c) n
  near = h.nearest n nlow w.asked open' other

  still : bit (without c.request k) n ≡ true
  still = bit_without_other c.request k n (λ e. other (sym e)) ∙ w.asked

  not_in : bit c.in_service k ≡ false
  not_in = go (bit c.in_service k) refl
    where
      go : (b : Bool) → bit c.in_service k ≡ b → b ≡ false
      go true e = absurd (omega (arith, h.above k h.low e))
      go false e = refl

  put_in : (e : Chip) → e.full ≡ c.full → e.request ≡ without c.request k → lowest_by e ≡ lowest_by c → e.in_service ≡ with c.in_service k → Step n c e 1
  put_in e f r l i = record {
    waiting = record { full = f ∙ w.full; asked = rw r still; all = rw (l, i) (all_with (lowest_by c) c.in_service n k h.low nlow near w.all) };
    turns = rw (l, i) (omega (arith, before_with (lowest_by c) c.in_service n k h.low nlow near not_in));
  }

  made_lowest : (e : Chip) → e.full ≡ c.full → e.request ≡ without c.request k → lowest_by e ≡ k → e.in_service ≡ c.in_service → Step n c e 1
  made_lowest e f r l i = record {
    waiting = record { full = f ∙ w.full; asked = rw r still; all = rw (l, i) (all_turn (lowest_by c) c.in_service n k h.low nlow near h.above w.all) };
    turns = rw (l, i) (omega (arith, rank_turn (lowest_by c) k n h.low nlow near, before_turn (lowest_by c) c.in_service n k h.low nlow near h.above));
  }

  taken : (a t : Bool) → c.auto_eoi ≡ a → c.auto_rotation ≡ t → (not a || t) ≡ true → Step n c (acknowledged c k) 1
  taken true true e f g = let a = ack_turns c k w.full e f in made_lowest (acknowledged c k) a.full a.request a.lowest a.in_service
  taken true false e f g = never g refl
  taken false t e f g = let a = ack_serves c k e in put_in (acknowledged c k) a.full a.request a.lowest a.in_service

raised : (n : ℕ) (c : Chip) (l : PicLine) → Waiting n c → Step n c (pulsed c l) 0
raised n c l w = let b = raise_becomes c l in same n c (pulsed c l) w b.full (raise_keeps c l n w.asked) b.lowest b.in_service

-- a level on a line: up it keeps n's request, down it takes another's alone
drive_keeps : (q n k : ℕ) (up : Bool) → bit q n ≡ true → (up || not (eqb n k)) ≡ true → bit (cond up (with q k) (without q k)) n ≡ true
drive_keeps q n k true a f = go (eqb n k) refl
  where
    go : (z : Bool) → eqb n k ≡ z → bit (with q k) n ≡ true
    go true e = subst (λ (m : ℕ). bit (with q k) m ≡ true) (sym (eqb-true n k e)) (bit_with_same q k)
    go false e = bit_with_other q k n (eqb-false n k e) ∙ a
drive_keeps q n k false a f = bit_without_other q k n (eqb-false n k (not_is (eqb n k) f)) ∙ a

drive_step : (n : ℕ) (c : Chip) (l : PicLine) (up : Bool) → Waiting n c → (up || not (eqb n l.0)) ≡ true → Step n c (driven c l.0 up) 0
unfolding driven
drive_step n c l up w f = same n c (driven c l.0 up) w refl (drive_keeps c.request n l.0 up w.asked f) refl refl

fed_step : (n : ℕ) (c : Chip) (v : ℕ) → Waiting n c → Step n c (fed c v) 0
fed_step n c v w = let k = fed_keeps c v in same n c (fed c v) w k.full (rw k.request w.asked) k.lowest k.in_service

-- the plain EOI with rotation
ended : (n : ℕ) (c : Chip) → n < 8 → is_ordinary c ≡ true → Waiting n c → Step n c (rotating_eoi c) 0
ended n c nlow o w =
    subst (λ (e : Chip). Step n c e 0) (sym (eoi_highest c (ordinary_ended c o)))
    (either (λ (e : Chip). Step n c e 0) (ltb (highest_in_service c) 8) _ _ some (λ e. same n c c w refl w.asked refl refl))
  where
    some : ltb (highest_in_service c) 8 ≡ true → Step n c (turned (specific_eoi c (highest_in_service c)) true (highest_in_service c)) 0
    some e =
        let b = highest_in_service c in
        let q : b < 8 = ltb-true b 8 e in
        let near : rank (lowest_by c) b < rank (lowest_by c) n = w.all b q (top_in c q) in
        let l : lowest_by (turned (specific_eoi c b) true b) ≡ b = ap (λ (f : Bool). cond f (cond (f && true) b c.lowest_line) 7) w.full in
        record {
          waiting = record { full = w.full; asked = w.asked; all = rw l (all_ended (lowest_by c) c.in_service n b q nlow (top_in c q) (top_first c) w.all) };
          turns = rw l (omega (arith, rank_turn (lowest_by c) b n q nlow near, before_ended (lowest_by c) c.in_service n b q nlow (top_in c q) (top_first c) w.all));
        }

written : (n : ℕ) (c : Chip) (v : ℕ) → n < 8 → is_ordinary c ≡ true → Waiting n c → keeps_turns v ≡ true → Step n c (commanded c v) 0
unfolding commanded
written n c v nlow o w k = go (bit v 4) (bit v 3) (bit v 5) (bit v 6) (bit v 7) k
  where
    go : (i o e s r : Bool) → (not i && (o || cond e (not s && r) (not s || not r))) ≡ true
        → Step n c
        (cond i (icw1 c v)
        (cond o (ocw3 c v)
        (cond e (cond s (turned (specific_eoi c (v % 8)) r (v % 8)) (non_specific_eoi c r)) (cond s (turned c r (v % 8)) (auto_rotated c r)))))
        0
    go true o e s r h = never h refl
    go false true e s r h = both (λ (x : Chip). Step n c x 0) c.full _ _ (same n c _ w refl w.asked refl refl) (same n c _ w refl w.asked refl refl)
    go false false true true r h = never h refl
    go false false true false true h = ended n c nlow o w
    go false false true false false h = never h refl
    go false false false true true h = never h refl
    go false false false true false h = same n c _ w refl w.asked (turned_not c.full (v % 8) c.lowest_line) refl
    go false false false false r h = same n c _ w refl w.asked refl refl

-- from c on, line n is among the first b lines that are served, for each b that leaves room for those that can come before it
abbrev ServedBy : ℕ → Chip → List Event → Type 0
ServedBy n c l =
    (b : ℕ) → Waiting n c → fairly n c l ≡ true → rank (lowest_by c) n < b + before (lowest_by c) c.in_service n → b ≤ length (lines c l) → within n b (lines c l) ≡ true

-- line k is served, n or another, and e is left
served : (n : ℕ) (c e : Chip) (l : List Event) (k b : ℕ) → ((k ≡ n → ⊥) → Step n c e 1) → ServedBy n e l → ((eqb k n || false) || fairly n e l) ≡ true
    → rank (lowest_by c) n < b + before (lowest_by c) c.in_service n → b ≤ suc (length (lines e l)) → within n b (k ∷ lines e l) ≡ true
served n c e l k zero t r v h q = absurd (omega (arith, before_le (lowest_by c) c.in_service n))
served n c e l k (suc d) t r v h q = go (eqb k n) refl v
  where
    go : (z : Bool) → eqb k n ≡ z → ((z || false) || fairly n e l) ≡ true → (z || within n d (lines e l)) ≡ true
    go true i v = refl
    go false i v = let s = t (eqb-false k n i) in r d s.waiting v (omega (arith, s.turns)) (omega arith)

-- an acknowledgement, after which the chip is passed through p
module _ (n : ℕ) (nlow : n < 8) (c : Chip) (l : List Event) (p : Chip → Chip) (keeps : (e : Chip) (d : ℕ) → Step n c e d → Step n c (p e) d) (w : Waiting n c) (o : is_ordinary c ≡ true) where
  acknowledges : ((e : Chip) → ServedBy n e l) → (not (bit c.mask n) && turns c) ≡ true → (b : ℕ) (a : Bool) → asks c ≡ a
      → (within n 1 (cond a (pending_line c ∷ []) []) || fairly n (p (cond a (acknowledged c (pending_line c)) c)) l) ≡ true → rank (lowest_by c) n < b + before (lowest_by c) c.in_service n
      → b ≤ length (cond a (pending_line c ∷ []) [] ++ lines (p (cond a (acknowledged c (pending_line c)) c)) l)
      → within n b (cond a (pending_line c ∷ []) [] ++ lines (p (cond a (acknowledged c (pending_line c)) c)) l) ≡ true
  acknowledges r u b true e v h q =
      let k = pending_line c in
      let t = and_true (not (bit c.mask n)) (turns c) u in
      served n c (p (acknowledged c k)) l k b
      (λ d. keeps (acknowledged c k) 1 (taken n nlow c w k (next c (ordinary_plainly c o) e) (not_is (bit c.mask n) t.0) d c.auto_eoi c.auto_rotation refl refl t.1))
      (r (p (acknowledged c k))) v h q
  acknowledges r u b false e v h q = let s = keeps c 0 (same n c c w refl w.asked refl refl) in r (p c) b s.waiting v (omega (arith, s.turns)) q

-- a poll that is over changes nothing of it
unpolled_step : (n : ℕ) (c e : Chip) (d : ℕ) → Step n c e d → Step n c (with_poll e false) d
unpolled_step n c e d s = record { waiting = record { full = s.waiting.full; asked = s.waiting.asked; all = s.waiting.all }; turns = s.turns }

module _ (n : ℕ) (nlow : n < 8) where
  served_by : (l : List Event) (c : Chip) → ServedBy n c l
  unfolding polled
  served_by [] c b w f h q = absurd (omega (arith, before_le (lowest_by c) c.in_service n))
  served_by (raise p ∷ l) c b w f h q =
      let s = raised n c p w in
      let k = and_true (is_ordinary c) (fairly n (pulsed c p) l) f in
      served_by l (pulsed c p) b s.waiting k.1 (omega (arith, s.turns)) q
  served_by (drive p up ∷ l) c b w f h q =
      let o = and_true (is_ordinary c) ((up || not (eqb n p.0)) && fairly n (driven c p.0 up) l) f in
      let k = and_true (up || not (eqb n p.0)) (fairly n (driven c p.0 up) l) o.1 in
      let s = drive_step n c p up w k.0 in
      served_by l (driven c p.0 up) b s.waiting k.1 (omega (arith, s.turns)) q
  served_by (take_back p g ∷ l) c b w f h q = never (and_true (is_ordinary c) false f).1 refl
  served_by (command v ∷ l) c b w f h q =
      let o = and_true (is_ordinary c) (keeps_turns v && fairly n (commanded c v) l) f in
      let k = and_true (keeps_turns v) (fairly n (commanded c v) l) o.1 in
      let s = written n c v nlow o.0 w k.0 in
      served_by l (commanded c v) b s.waiting k.1 (omega (arith, s.turns)) q
  served_by (data_write v ∷ l) c b w f h q =
      let s = fed_step n c v w in
      let k = and_true (is_ordinary c) (fairly n (fed c v) l) f in
      served_by l (fed c v) b s.waiting k.1 (omega (arith, s.turns)) q
  served_by (acknowledge ∷ l) c b w f h q =
      let o = and_true (is_ordinary c) ((not (bit c.mask n) && turns c) && (within n 1 (lines_of c acknowledge) || fairly n (after c acknowledge) l)) f in
      let k = and_true (not (bit c.mask n) && turns c) (within n 1 (lines_of c acknowledge) || fairly n (after c acknowledge) l) o.1 in
      acknowledges n nlow c l (λ e. e) (λ e d s. s) w o.0 (λ e. served_by l e) k.0 b (asks c) refl k.1 h q
  served_by (read_poll ∷ l) c b w f h q =
      let o = and_true (is_ordinary c) ((not (bit c.mask n) && turns c) && (within n 1 (lines_of c read_poll) || fairly n (after c read_poll) l)) f in
      let k = and_true (not (bit c.mask n) && turns c) (within n 1 (lines_of c read_poll) || fairly n (after c read_poll) l) o.1 in
      acknowledges n nlow c l (λ e. with_poll e false) (unpolled_step n c) w o.0 (λ e. served_by l e) k.0 b (asks c) refl k.1 h q

-- nothing in service: nothing stands before n
starts : (c : Chip) (n : ℕ) → Waits c n → Waiting n c
starts c n w = record { full = w.full; asked = w.asked; all = λ j q e. never e (ap (λ (s : ℕ). bit s j) w.idle ∙ bit_none j) }

pub fair : Fair
fair c n l w f h =
    let z : before (lowest_by c) c.in_service n ≡ 0 = ap (λ (s : ℕ). before (lowest_by c) s n) w.idle ∙ before_none (lowest_by c) n in
    served_by n w.low l c (suc (rank (lowest_by c) n)) (starts c n w) f (omega arith) h

pub fair_in_eight : FairInEight
fair_in_eight c n l w f h = served_by n w.low l c 8 (starts c n w) f (omega (arith, rank_lt (lowest_by c) n w.low)) h

-- ---- rounds

raised_all : Chip → List PicLine → Chip
raised_all c [] = c
raised_all c (p ∷ ps) = raised_all (pulsed c p) ps

raised_lines : (ps : List PicLine) (c : Chip) (l : List Event) → lines c (raises ps l) ≡ lines (raised_all c ps) l
unfolding raised_all
raised_lines [] c l = refl
raised_lines (p ∷ ps) c l = raised_lines ps (pulsed c p) l

raised_becomes : (ps : List PicLine) (c : Chip) → Becomes c (raised_all c ps) (raised_all c ps).request c.in_service (lowest_by c)
unfolding raised_all
raised_becomes [] c = becomes_same c
raised_becomes (p ∷ ps) c =
    let a = raise_becomes c p in
    let b = raised_becomes ps (pulsed c p) in
    record {
      full = b.full ∙ a.full;
      mask = b.mask ∙ a.mask;
      auto_eoi = b.auto_eoi ∙ a.auto_eoi;
      auto_rotation = b.auto_rotation ∙ a.auto_rotation;
      request = refl;
      in_service = b.in_service ∙ a.in_service;
      lowest = b.lowest ∙ a.lowest;
    }

raised_keeps : (ps : List PicLine) (c : Chip) (n : ℕ) → bit c.request n ≡ true → bit (raised_all c ps).request n ≡ true
unfolding raised_all
raised_keeps [] c n a = a
raised_keeps (p ∷ ps) c n a = raised_keeps ps (pulsed c p) n (raise_keeps c p n a)

-- line n waits with nothing in service, on a chip that rotates
record Ready (n : ℕ) (c : Chip) : Type 0 where
  waits : Waits c n
  unmasked : bit c.mask n ≡ false
  turns : turns c ≡ true

-- another line k's round
round_over : (n : ℕ) (c : Chip) (ps : List PicLine) (k : ℕ) → Ready n c → k < 8 → (k ≡ n → ⊥)
    → bit c.mask k ≡ false → Ready n (commanded (raised_all (acknowledged c k) ps) 0xa0) × (lowest_by (commanded (raised_all (acknowledged c k) ps) 0xa0) ≡ k)
round_over n c ps k r h d u =
    let w = r.waits in
    let a = ack_idle c k w.full w.idle r.turns in
    let b = raised_becomes ps (acknowledged c k) in
    let x = raised_all (acknowledged c k) ps in
    let f : x.full ≡ true = b.full ∙ a.full ∙ w.full in
    let e = eoi_taken x k f h (ap (λ (s : ℕ). bit s k) (b.mask ∙ a.mask) ∙ u) (taken_still (acknowledged c k) x k b.in_service b.lowest a.taken) in
    let q : bit x.request n ≡ true =
    raised_keeps ps (acknowledged c k) n (ap (λ (s : ℕ). bit s n) a.request ∙ bit_without_other c.request k n (λ z. d (sym z)) ∙ w.asked) in (
      record {
        waits = record { full = e.full ∙ f; low = w.low; asked = ap (λ (s : ℕ). bit s n) e.request ∙ q; idle = e.in_service };
        unmasked = ap (λ (s : ℕ). bit s n) (e.mask ∙ b.mask ∙ a.mask) ∙ r.unmasked;
        turns = ap₂ (λ (x y : Bool). not x || y) (e.auto_eoi ∙ b.auto_eoi ∙ a.auto_eoi) (e.auto_rotation ∙ b.auto_rotation ∙ a.auto_rotation) ∙ r.turns;
      },
      e.lowest,
    )

rounds_served : (n : ℕ) (r : List (List PicLine)) (c : Chip) (b : ℕ) → Ready n c → rank (lowest_by c) n < b → b ≤ length r → within n b (lines c (rounds r)) ≡ true
rounds_served n [] c b w h q = absurd (omega arith)
rounds_served n (ps ∷ r) c zero w h q = absurd (omega arith)
rounds_served n (ps ∷ r) c (suc b) w h q =
    ap (λ (t : Bool). within n (suc b) (cond t (k ∷ []) [] ++ lines (cond t (acknowledged c k) c) (raises ps (command 0xa0 ∷ rounds r)))) a
    ∙ ap (λ (x : List ℕ). eqb k n || within n b x) (raised_lines ps (acknowledged c k) (command 0xa0 ∷ rounds r))
    ∙ go (eqb k n) refl (λ e v i. rounds_served n r e b v i (omega arith))
  where
    k : ℕ
    k = pending_line c

    a : asks c ≡ true
    a = asks_for c n w.waits.low w.waits.asked w.unmasked w.waits.idle

    go : (z : Bool) → eqb k n ≡ z → ((e : Chip) → Ready n e → rank (lowest_by e) n < b → within n b (lines e (rounds r)) ≡ true)
        → (z || within n b (lines (commanded (raised_all (acknowledged c k) ps) 0xa0) (rounds r))) ≡ true
    go true e rest = refl
    go false e rest =
        let x = next c (idle_plainly c w.waits.idle) a in
        let d : k ≡ n → ⊥ = eqb-false k n e in
        let o = round_over n c ps k w x.low d x.unmasked in
        let l : rank (lowest_by c) k < rank (lowest_by c) n = x.nearest n w.waits.low w.waits.asked w.unmasked d in
        rest (commanded (raised_all (acknowledged c k) ps) 0xa0) o.0
        (subst (λ (m : ℕ). rank m n < b) (sym o.1) (omega (arith, rank_turn (lowest_by c) k n x.low w.waits.low l)))

pub fair_rounds : FairRounds
fair_rounds c n r w u t h =
    rounds_served n r c (suc (rank (lowest_by c) n)) (record { waits = w; unmasked = u; turns = t }) (omega arith) h

-- ---- computed runs

pub last_is_eighth : LastIsEighth
unfolding asks pending_line counts first_by first_rank acknowledged pulsed commanded with without
last_is_eighth = refl

pub needed : Needed
unfolding asks pending_line counts first_by first_rank acknowledged unacknowledged pulsed driven polled commanded fed with without
needed = record {
  «plain-eoi» = refl;
  «specific-eoi» = refl;
  «set-priority» = refl;
  «specific-rotation» = refl;
  «auto-eoi» = refl;
  «auto-eoi-polled» = refl;
  «taken_back» = refl;
  masked = refl;
  «masked-polled» = refl;
  «driven_down» = refl;
  plain = refl;
  initialized = refl;
  special = refl;
  «masked-eoi» = refl;
  nested = refl;
  idle = refl;
  stuck = refl;
  «idle-rounds» = refl;
}
