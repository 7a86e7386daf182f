-- An EOI of version 0x20, entry after entry: when the entries below i have had their turn. Assumes nothing.
use Rattle.std.specs.Prelude.{Option, Some, None}
use Prim.Native.Nat.{ℕ, zero, suc, ◌+◌, ◌*◌, ◌/◌, ◌%◌, ◌^◌, ◌<◌}
use native.Mathlib.Nat.{mod-lt}
use native.Mathlib.Omega.{arith}
use mathlib.Core.Bool.{Bool, true, false, cond, not, ◌&&◌}
use mathlib.Core.List.{List, [], ◌∷◌, map}
use mathlib.Core.Path.{◌≡◌, refl, sym, ◌∙◌, ap, ap₂}
use borrow.Author.Tests.{eq-eqb, ne_eqb, eqb-true, eqb-false, lt-ltb, le-ltb, ltb-true, ltb-false, not-true, not-false}
use lib.Dec.{eqb, ltb}
use lib.ListN.{length, get_or, set, get_or-map}
use lib.Pow.{pow_pos, shr-shr, recompose}
use Rattle.utils.specs.Set.{bit, with, without, set_of, lowest, marked}
use Rattle.utils.specs.Cases.{and_right_no}
use Rattle.utils.proofs.Bools.{never}
use Rattle.utils.proofs.Laws.{bit_set_of, set_of_lt, set_of_same, set_of_bits, set_of_next, same_bits, bit_cut, bit_with_same, bit_with_other, with_lt}
use Rattle.utils.proofs.Marked.{bit_marked_same, bit_marked_other, marked_kept, marked_lt, marked_cut, marked_above}
use Rattle.utils.proofs.Walk.{walk, walk_empty, walk_lowest, walk_stages}
use Rattle.types.specs.declared.Vector.{Vector}
use Rattle.vioapic_entry.specs.Answers.{is_routed}
use Rattle.vioapic_entry.specs.Redirection.{remote_irr, awaits, end_entry20}
use Rattle.vioapic_entry.specs.declared.Entry.{Entry}
use Rattle.vioapic_entry.specs.declared.IoApicInterrupt.{IoApicInterrupt}
use Rattle.vioapic.specs.State.{IoApicState, view}
use Rattle.vioapic.specs.Table.{Routing, routing, route_at, no_entry, entry_at, with_entries, with_flight, noted, put, ends, end_each, flies_on, sent_by, every_answer, map_entries, ending, end_of_entry, end_of_every, end_of}
use Rattle.vioapic.specs.Inside.{Keeps, EveryEnd, every_end, end_next, every_ending, cleared_in, sent_in}
use Rattle.vioapic.specs.Agreement.{Agrees, end_each_in_table, sent_in_table, end_of_entry_in_table, end_of_every_in_table, end_of_in_table, EndsInTable}
use Rattle.vioapic.specs.declared.Ends.{Ends}
use Rattle.vioapic.specs.declared.Eoi.TheVariants.{EndedAll}
use Rattle.vioapic.proofs.Words.{view_long, view_small, still, then, so_that}
use Rattle.vioapic.proofs.Flight.{agrees_at, agrees_flying, awaits_flying, noted_marked, first_in_table_lem}

-- ---- the first i of a list are changed

abbrev map_first : ℕ → (ℕ → Entry → Entry) → ℕ → List Entry → List Entry
map_first zero f g l = l
map_first (suc i) f g [] = []
map_first (suc i) f g (e ∷ l) = f g e ∷ map_first i f (suc g) l

-- the next one stands as it did
first_at : (i : ℕ) (f : ℕ → Entry → Entry) (g : ℕ) (l : List Entry) → get_or (map_first i f g l) i no_entry ≡ get_or l i no_entry
first_at zero f g l = refl
first_at (suc i) f g [] = refl
first_at (suc i) f g (e ∷ l) = first_at i f (suc g) l

-- it is changed, or changing it would leave it as it is
first_set : (i : ℕ) (f : ℕ → Entry → Entry) (g : ℕ) (l : List Entry) → i < length l → set (map_first i f g l) i (f (g + i) (get_or l i no_entry)) ≡ map_first (suc i) f g l
first_set i f g [] h = absurd (omega arith)
first_set zero f g (e ∷ l) h = let p : g + 0 ≡ g = omega arith in rw p
first_set (suc i) f g (e ∷ l) h = let p : g + suc i ≡ suc g + i = omega arith in rw p (ap (λ (t : List Entry). f g e ∷ t) (first_set i f (suc g) l (omega arith)))

first_same : (i : ℕ) (f : ℕ → Entry → Entry) (g : ℕ) (l : List Entry) → f (g + i) (get_or l i no_entry) ≡ get_or l i no_entry → map_first i f g l ≡ map_first (suc i) f g l
first_same zero f g [] h = refl
first_same zero f g (e ∷ l) h = let p : g + 0 ≡ g = omega arith in ap (λ (x : Entry). x ∷ l) (sym (rw p at h))
first_same (suc i) f g [] h = refl
first_same (suc i) f g (e ∷ l) h = let p : g + suc i ≡ suc g + i = omega arith in ap (λ (t : List Entry). f g e ∷ t) (first_same i f (suc g) l (rw p at h))

first_all : (i : ℕ) (f : ℕ → Entry → Entry) (g : ℕ) (l : List Entry) → length l ≡ i → map_first i f g l ≡ map_entries f g l
first_all zero f g [] h = refl
first_all zero f g (e ∷ l) h = absurd (omega arith)
first_all (suc i) f g [] h = refl
first_all (suc i) f g (e ∷ l) h = ap (λ (t : List Entry). f g e ∷ t) (first_all i f (suc g) l (omega arith))

-- ---- all turns

module _ (v : Vector) (s : IoApicState) (long : length s.entries ≡ 24) (small : s.in_flight < 2 ^ 24) where
  -- the lines in flight when the entries below i have had their turn
  abbrev flies : ℕ → ℕ → Bool
  flies i k = cond (ltb k i) (flies_on v s k) (bit s.in_flight k)

  flies_next : (i : ℕ) → i < 24 → marked (set_of 24 (flies i)) i (flies_on v s i) ≡ set_of 24 (flies (suc i))
  flies_next i h =
      same_bits 24 (marked (set_of 24 (flies i)) i (flies_on v s i)) (set_of 24 (flies (suc i)))
      (marked_lt 24 (set_of 24 (flies i)) i (flies_on v s i) (set_of_lt 24 (flies i)) h) (set_of_lt 24 (flies (suc i)))
      (λ k l. at k l (eqb k i) refl ∙ sym (bit_set_of 24 (flies (suc i)) k l))
    where
      same : (k : ℕ) → (k ≡ i → ⊥) → flies i k ≡ flies (suc i) k
      same k n = go (ltb k i) refl
        where
          go : (b : Bool) → ltb k i ≡ b → flies i k ≡ flies (suc i) k
          go true q = rw (q, lt-ltb k (suc i) (omega (arith, ltb-true k i q)))
          go false q = rw (q, le-ltb k (suc i) (omega (arith, ltb-false k i q, n)))

      at : (k : ℕ) → k < 24 → (b : Bool) → eqb k i ≡ b → bit (marked (set_of 24 (flies i)) i (flies_on v s i)) k ≡ flies (suc i) k
      at k l true q =
          let e : k ≡ i = eqb-true k i q in
          let t : ltb i (suc i) ≡ true = lt-ltb i (suc i) (omega arith) in
          rw e (bit_marked_same (set_of 24 (flies i)) i (flies_on v s i) ∙ rw t)
      at k l false q =
          let n : k ≡ i → ⊥ = eqb-false k i q in
          bit_marked_other (set_of 24 (flies i)) i k (flies_on v s i) n ∙ bit_set_of 24 (flies i) k l ∙ same k n

  flies_at : (i : ℕ) → i < 24 → bit (set_of 24 (flies i)) i ≡ bit s.in_flight i
  flies_at i h = bit_set_of 24 (flies i) i h ∙ rw (le-ltb i i (omega arith))

  abbrev stage : ℕ → EveryEnd
  stage i = every_end (with_flight (with_entries s (map_first i (end_each v s) 0 s.entries)) (set_of 24 (flies i))) (set_of i (ends v s)) (set_of i (sent_by v s))

  -- where entry i doesn't end, nothing is to be done
  passed : (i : ℕ) → i < 24 → ends v s i ≡ false → stage i ≡ stage (suc i)
  passed i h n =
      let z : 0 + i ≡ i = omega arith in
      let e = first_same i (end_each v s) 0 s.entries (rw (z, n)) in
      let b : flies_on v s i ≡ bit s.in_flight i = rw n in
      let f = sym (marked_kept (set_of 24 (flies i)) i (flies_on v s i) (flies_at i h ∙ sym b)) ∙ flies_next i h in
      let c : set_of i (ends v s) ≡ set_of (suc i) (ends v s) = rw (set_of_next i (ends v s), n) in
      let t : set_of i (sent_by v s) ≡ set_of (suc i) (sent_by v s) = rw (set_of_next i (sent_by v s), n) in
      λ j. every_end (with_flight (with_entries s (e j)) (f j)) (c j) (t j)

  -- where it ends, its turn leads on
  turned : (i : ℕ) → i < 24 → bit s.in_flight i ≡ true → awaits v (entry_at s i) ≡ true → end_next v (stage i) i ≡ stage (suc i)
  turned i h p q = ap turn_of (first_at i (end_each v s) 0 s.entries) ∙ go (is_routed (end_entry20 (entry_at s i)).answer) refl
    where
      turn_of : Entry → EveryEnd
      turn_of x =
          cond (awaits v x)
          (every_end
          (with_flight (with_entries s (set (map_first i (end_each v s) 0 s.entries) i (end_entry20 x).entry)) (noted (set_of 24 (flies i)) i (remote_irr x.word) (remote_irr (end_entry20 x).entry.word)))
          (with (set_of i (ends v s)) i)
          (cond (is_routed (end_entry20 x).answer) (with (set_of i (sent_by v s)) i) (set_of i (sent_by v s))))
          (stage i)

      there : ends v s i ≡ true
      there = rw (p, q)

      e : set (map_first i (end_each v s) 0 s.entries) i (end_entry20 (entry_at s i)).entry ≡ map_first (suc i) (end_each v s) 0 s.entries
      e =
          let z : 0 + i ≡ i = omega arith in
          let x : end_each v s (0 + i) (entry_at s i) ≡ (end_entry20 (entry_at s i)).entry = rw (z, there) in
          ap (set (map_first i (end_each v s) 0 s.entries) i) (sym x) ∙ first_set i (end_each v s) 0 s.entries (omega (arith, long))

      f : noted (set_of 24 (flies i)) i (remote_irr (entry_at s i).word) (remote_irr (end_entry20 (entry_at s i)).entry.word) ≡ set_of 24 (flies (suc i))
      f =
          let y : flies_on v s i ≡ remote_irr (end_entry20 (entry_at s i)).entry.word = rw there in
          noted_marked (set_of 24 (flies i)) i (remote_irr (entry_at s i).word) (remote_irr (end_entry20 (entry_at s i)).entry.word) (flies_at i h ∙ p ∙ sym (awaits_flying v (entry_at s i) q))
          ∙ ap (marked (set_of 24 (flies i)) i) (sym y) ∙ flies_next i h

      c : with (set_of i (ends v s)) i ≡ set_of (suc i) (ends v s)
      c = rw (set_of_next i (ends v s), there)

      go : (b : Bool) → is_routed (end_entry20 (entry_at s i)).answer ≡ b → turn_of (entry_at s i) ≡ stage (suc i)
      go b r =
          let t : cond b (with (set_of i (sent_by v s)) i) (set_of i (sent_by v s)) ≡ set_of (suc i) (sent_by v s) = rw (set_of_next i (sent_by v s), there, r) in
          rw (q, r) (λ j. every_end (with_flight (with_entries s (e j)) (f j)) (c j) (t j))

  next_stage : (i : ℕ) → i < 24 → cond (bit s.in_flight i) (end_next v (stage i) i) (stage i) ≡ stage (suc i)
  next_stage i h = go (bit s.in_flight i) (awaits v (entry_at s i)) refl refl
    where
      go : (a b : Bool) → bit s.in_flight i ≡ a → awaits v (entry_at s i) ≡ b → cond (bit s.in_flight i) (end_next v (stage i) i) (stage i) ≡ stage (suc i)
      go true true p q = rw p (turned i h p q)
      go true false p q = rw (p, first_at i (end_each v s) 0 s.entries, q) (passed i h (rw (p, q)))
      go false b p q = rw p (passed i h (rw p))

  -- so that the turns of the word's members are the EOI
  pub every_turn : every_ending (walk (end_next v) 24 0 s.in_flight (every_end s 0 0)) ≡ end_of_every s v
  unfolding end_of_every
  every_turn =
      let start : every_end s 0 0 ≡ stage 0 = ap (λ (n : ℕ). every_end (with_flight s n) 0 0) (sym (set_of_bits 24 s.in_flight small)) in
      let turns : walk (end_next v) 24 0 s.in_flight (stage 0) ≡ stage 24 =
      walk_stages EveryEnd (end_next v) stage 24 0 s.in_flight (λ i l h. next_stage i (omega arith)) in
      let f : set_of 24 (flies 24) ≡ set_of 24 (flies_on v s) = set_of_same 24 (flies 24) (flies_on v s) (λ k l. rw (lt-ltb k 24 l)) in
      rw (start, turns, first_all 24 (end_each v s) 0 s.entries long, f)

-- ---- the two sets in one number

module _ (n g : ℕ) (here : g < 24) where
  cleared_cleared : with n g % 2 ^ 24 ≡ with (n % 2 ^ 24) g
  cleared_cleared = marked_cut 24 n g true here

  sent_cleared : with n g / 2 ^ 24 % 2 ^ 24 ≡ n / 2 ^ 24 % 2 ^ 24
  sent_cleared = ap (λ (m : ℕ). m % 2 ^ 24) (marked_above 24 n g true here)

  cleared_sent : with n (g + 24) % 2 ^ 24 ≡ n % 2 ^ 24
  cleared_sent =
      same_bits 24 (with n (g + 24) % 2 ^ 24) (n % 2 ^ 24) (mod-lt (with n (g + 24)) (pow_pos 24)) (mod-lt n (pow_pos 24))
      (λ k l. bit_cut (with n (g + 24)) 24 k l ∙ bit_with_other n (g + 24) k (omega arith) ∙ sym (bit_cut n 24 k l))

  sent_sent : with n (g + 24) / 2 ^ 24 % 2 ^ 24 ≡ with (n / 2 ^ 24 % 2 ^ 24) g
  sent_sent =
      same_bits 24 (with n (g + 24) / 2 ^ 24 % 2 ^ 24) (with (n / 2 ^ 24 % 2 ^ 24) g) (mod-lt (with n (g + 24) / 2 ^ 24) (pow_pos 24))
      (with_lt 24 (n / 2 ^ 24 % 2 ^ 24) g (mod-lt (n / 2 ^ 24) (pow_pos 24)) here) (λ k l. at k l (eqb k g) refl)
    where
      over : (m k : ℕ) → k < 24 → bit (m / 2 ^ 24 % 2 ^ 24) k ≡ bit m (24 + k)
      over m k l = bit_cut (m / 2 ^ 24) 24 k l ∙ ap (λ (x : ℕ). eqb (x % 2) 1) (shr-shr m 24 k)

      at : (k : ℕ) → k < 24 → (b : Bool) → eqb k g ≡ b → bit (with n (g + 24) / 2 ^ 24 % 2 ^ 24) k ≡ bit (with (n / 2 ^ 24 % 2 ^ 24) g) k
      at k l true q =
          let i : k ≡ g = eqb-true k g q in
          let j : 24 + k ≡ g + 24 = omega arith in
          over (with n (g + 24)) k l ∙ ap (bit (with n (g + 24))) j ∙ bit_with_same n (g + 24) ∙ sym (ap (bit (with (n / 2 ^ 24 % 2 ^ 24) g)) i ∙ bit_with_same (n / 2 ^ 24 % 2 ^ 24) g)
      at k l false q =
          let i : k ≡ g → ⊥ = eqb-false k g q in
          over (with n (g + 24)) k l ∙ bit_with_other n (g + 24) (24 + k) (omega (arith, i)) ∙ sym (bit_with_other (n / 2 ^ 24 % 2 ^ 24) g k i ∙ over n k l)

-- nothing is lost in it
pub number_same : (a b : Ends) → a.0 < 2 ^ 48 → b.0 < 2 ^ 48 → cleared_in a ≡ cleared_in b → sent_in a ≡ sent_in b → a ≡ b
number_same a b h k p q =
    let n : a.0 ≡ b.0 = sym (recompose 24 24 h) ∙ ap₂ (λ (x y : ℕ). x * 2 ^ 24 + y) q p ∙ recompose 24 24 k in
    λ i. record { 0 = n i }

pub no_answer : (n : Ends) → cleared_in n ≡ 0 → None ≡ every_answer (cleared_in n) (sent_in n)
no_answer n h = rw (eq-eqb (cleared_in n) 0 h)

pub some_answer : (n : Ends) → (cleared_in n ≡ 0 → ⊥) → Some (EndedAll (record { cleared = cleared_in n; sent = sent_in n })) ≡ every_answer (cleared_in n) (sent_in n)
some_answer n h = rw (ne_eqb (cleared_in n) 0 h)

-- ---- the loop: one entry's turn, the step and the end. l are the words before, w those after

module _ (v : Vector) (l : List ℕ) (ends : Ends) (g : ℕ) (b : Bool) (is : b ≡ awaits v (entry_at (view l) g)) where
  pub turn_passed : not b ≡ true → Keeps l l (every_end (view l) (cleared_in ends) (sent_in ends) ≡ end_next v (every_end (view l) (cleared_in ends) (sent_in ends)) g)
  turn_passed h = still l (rw (sym is ∙ not-true b h))

  module _ (w : List ℕ) (a : Option IoApicInterrupt) (c : ℕ) (d : Bool) (here : g < 24) (there : not b ≡ false) (does : Keeps l w (routing (view w) a ≡ route_at (view l) g (end_entry20 (entry_at (view l) g))))
      (grew : c ≡ with ends.0 g) (says : d ≡ is_routed a) where
    turn : (y : Bool) (n : Ends) → d ≡ y → cleared_in n ≡ with (cleared_in ends) g → sent_in n ≡ cond y (with (sent_in ends) g) (sent_in ends)
        → Keeps l w (every_end (view w) (cleared_in n) (sent_in n) ≡ end_next v (every_end (view l) (cleared_in ends) (sent_in ends)) g)
    turn y n h p q =
        so_that does
        (λ r.
        let z : is_routed (end_entry20 (entry_at (view l) g)).answer ≡ y = ap (λ (x : Routing). is_routed x.answer) (sym r) ∙ sym says ∙ h in
        let m : view w ≡ put (view l) g (end_entry20 (entry_at (view l) g)).entry = ap (λ (x : Routing). x.state) r in
        (λ i. every_end (m i) (p i) (q i)) ∙ rw (sym is ∙ not-false b there, z))

    pub turn_sent : (t : ℕ) → d ≡ true → t ≡ with c (g + 24) → Keeps l w (every_end (view w) (cleared_in (record { 0 = t })) (sent_in (record { 0 = t })) ≡ end_next v (every_end (view l) (cleared_in ends) (sent_in ends)) g)
    turn_sent t h k =
        turn true (record { 0 = t }) h
        (ap (λ (m : ℕ). m % 2 ^ 24) k ∙ cleared_sent c g here ∙ ap (λ (m : ℕ). m % 2 ^ 24) grew ∙ cleared_cleared ends.0 g here)
        (ap (λ (m : ℕ). m / 2 ^ 24 % 2 ^ 24) k ∙ sent_sent c g here ∙ ap (λ (m : ℕ). with m g) (ap (λ (m : ℕ). m / 2 ^ 24 % 2 ^ 24) grew ∙ sent_cleared ends.0 g here))

    pub turn_unsent : d ≡ false → Keeps l w (every_end (view w) (cleared_in (record { 0 = c })) (sent_in (record { 0 = c })) ≡ end_next v (every_end (view l) (cleared_in ends) (sent_in ends)) g)
    turn_unsent h =
        turn false (record { 0 = c }) h
        (ap (λ (m : ℕ). m % 2 ^ 24) grew ∙ cleared_cleared ends.0 g here)
        (ap (λ (m : ℕ). m / 2 ^ 24 % 2 ^ 24) grew ∙ sent_cleared ends.0 g here)

-- what is left to do from here is what was to do at the start
abbrev pub LeftToDo : Vector → List ℕ → List ℕ → Ends → ℕ → Type 0
LeftToDo v l w ends left =
    walk (end_next v) 24 0 left (every_end (view w) (cleared_in ends) (sent_in ends)) ≡ walk (end_next v) 24 0 (view l).in_flight (every_end (view l) 0 0)

module _ (v : Vector) (l : List ℕ) where
  pub turns_begin : (n : ℕ) → n ≡ (view l).in_flight → Keeps l l (LeftToDo v l l (record { 0 = 0 }) n)
  turns_begin n e = still l (ap (λ (m : ℕ). walk (end_next v) 24 0 m (every_end (view l) 0 0)) e)

  -- the lowest that is left has its turn
  pub next_turn : (u w : List ℕ) (n r : Ends) (left g m : ℕ) → left < 2 ^ 24 → (left ≡ 0 → ⊥) → g ≡ lowest 32 left → m ≡ without left g
      → Keeps l u (LeftToDo v l u n left) → Keeps u w (every_end (view w) (cleared_in r) (sent_in r) ≡ end_next v (every_end (view u) (cleared_in n) (sent_in n)) g) → Keeps l w (LeftToDo v l w r m)
  next_turn u w n r left g m h f o q before does =
      then before does
      (λ p y. ap₂ (λ (j : ℕ) (x : EveryEnd). walk (end_next v) 24 0 j x) q y ∙ sym (walk_lowest EveryEnd (end_next v) 24 32 left g (every_end (view u) (cleared_in n) (sent_in n)) (omega arith) h f o) ∙ p)

  pub all_turns : (w : List ℕ) (n : Ends) (left : ℕ) → left ≡ 0 → Keeps l w (LeftToDo v l w n left) → Keeps l w (every_ending (every_end (view w) (cleared_in n) (sent_in n)) ≡ end_of_every (view l) v)
  all_turns w n left e k =
      so_that k (λ p. ap every_ending (sym (walk_empty EveryEnd (end_next v) 24 0 left (every_end (view w) (cleared_in n) (sent_in n)) e) ∙ p) ∙ every_turn v (view l) (view_long l) (view_small l))

-- ---- where the word agrees, the EOI by the word is the EOI by the table

map_same : (f : ℕ → Entry → Entry) (h : Entry → Entry) (i : ℕ) (es : List Entry) → ((k : ℕ) → k < length es → f (i + k) (get_or es k no_entry) ≡ h (get_or es k no_entry)) → map_entries f i es ≡ map h es
map_same f h i [] q = refl
map_same f h i (e ∷ es) q =
    let p : i + 0 ≡ i = omega arith in
    let a : f i e ≡ h e = rw p at (q 0 (omega arith)) in
    ap₂ (λ (x : Entry) (xs : List Entry). x ∷ xs) a
    (map_same f h (suc i) es (λ k l. let r : i + suc k ≡ suc i + k = omega arith in rw r at (q (suc k) (omega arith))))

module _ (s : IoApicState) (v : Vector) (a : Agrees s) where
  ends_same : (g : ℕ) → g < 24 → ends v s g ≡ awaits v (entry_at s g)
  ends_same g l = go (awaits v (entry_at s g)) refl
    where
      go : (b : Bool) → awaits v (entry_at s g) ≡ b → ends v s g ≡ awaits v (entry_at s g)
      go true e = rw (agrees_flying s v a g l e)
      go false e = and_right_no (bit s.in_flight g) (awaits v (entry_at s g)) e ∙ sym e

  flies_same : (g : ℕ) → g < 24 → flies_on v s g ≡ remote_irr (get_or (map (end_each_in_table v) s.entries) g no_entry).word
  flies_same g l =
      let n : end_each_in_table v no_entry ≡ no_entry = none (awaits v no_entry) refl in
      let m = ap (λ (d : Entry). get_or (map (end_each_in_table v) s.entries) g d) (sym n) ∙ get_or-map (end_each_in_table v) s.entries g no_entry in
      rw (m, ends_same g l, agrees_at s a g l) (go (awaits v (entry_at s g)))
    where
      none : (b : Bool) → awaits v no_entry ≡ b → end_each_in_table v no_entry ≡ no_entry
      none true e = never (awaits_flying v no_entry e) refl
      none false e = rw e

      go : (b : Bool) → cond b (remote_irr (end_entry20 (entry_at s g)).entry.word) (remote_irr (entry_at s g).word) ≡ remote_irr (cond b (end_entry20 (entry_at s g)).entry (entry_at s g)).word
      go true = refl
      go false = refl

  pub every_in_table : end_of_every s v ≡ end_of_every_in_table s v
  unfolding end_of_every end_of_every_in_table
  every_in_table =
      let m = map_same (end_each v s) (end_each_in_table v) 0 s.entries (λ k l. let z : 0 + k ≡ k = omega arith in let h : k < 24 = omega (arith, a.table) in rw (z, ends_same k h)) in
      let f = set_of_same 24 (flies_on v s) (λ g. remote_irr (get_or (map (end_each_in_table v) s.entries) g no_entry).word) flies_same in
      let c = set_of_same 24 (ends v s) (λ g. awaits v (entry_at s g)) ends_same in
      let t = set_of_same 24 (sent_by v s) (sent_in_table v s) (λ k l. ap (λ (b : Bool). b && is_routed (end_entry20 (entry_at s k)).answer) (ends_same k l)) in
      λ i. ending (with_flight (with_entries s (m i)) (f i)) (every_answer (c i) (t i))

  first_ends : end_of_entry s v ≡ end_of_entry_in_table s v
  unfolding end_of_entry end_of_entry_in_table
  first_ends = rw (first_in_table_lem s v a)

pub ends_in_table : EndsInTable
unfolding end_of end_of_in_table
ends_in_table s v a = rw (every_in_table s v a, first_ends s v a)
