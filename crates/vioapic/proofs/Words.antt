-- The state that lent words stand for: an entry of it is the entry in the words, and putting one in the words puts it in the
-- state. Assumes nothing.
use Prim.Native.Nat.{ℕ, zero, suc, ◌+◌, ◌/◌, ◌%◌, ◌^◌, ◌<◌, ◌≤◌}
use native.Mathlib.Nat.{mod-lt}
use native.Mathlib.Decide.{ℕ_discrete}
use native.Mathlib.Omega.{arith}
use mathlib.Core.Bool.{Bool, true, false}
use mathlib.Core.List.{List, [], ◌∷◌}
use mathlib.Core.Path.{◌≡◌, refl, sym, ◌∙◌, ap, ap₂}
use borrow.Author.Tests.{ltb-true, ltb-false}
use lib.Dec.{lit<, ltb}
use lib.ListN.{length, get_or, set}
use lib.Seq.{get_or-set_same, get_or-set_other}
use Rattle.utils.specs.Set.{bit, with, without, marked}
use Rattle.utils.proofs.Bools.{never}
use Rattle.utils.proofs.Marked.{bit_marked_same, bit_marked_other, marked_cut, marked_above}
use Rattle.types.specs.declared.Vector.{Vector}
use Rattle.vioapic_entry.specs.Redirection.{with_word, with_deferred, with_input, awaits}
use Rattle.vioapic.specs.State.{entry_in, entries_from, view, spare}
use Rattle.vioapic.specs.Inside.{Keeps, put_flag, with_low, parts}
use Rattle.vioapic.specs.Table.{no_entry, entry_at, with_flight}
use Rattle.vioapic.specs.Registers.{with_selector}
use Rattle.vioapic_entry.specs.declared.Entry.{Entry}

at_from : (l : List ℕ) (i n k : ℕ) → k < n → get_or (entries_from l i n) k no_entry ≡ entry_in l (i + k)
unfolding entries_from
at_from l i zero k h = absurd (omega arith)
at_from l i (suc n) zero h = let p : i + 0 ≡ i = omega arith in rw p
at_from l i (suc n) (suc k) h = let p : i + suc k ≡ suc i + k = omega arith in rw p (at_from l (suc i) n k (omega arith))

-- entry g of the chip
pub view_at : (l : List ℕ) (g : ℕ) → g < 24 → entry_at (view l) g ≡ entry_in l g
unfolding view
view_at l g h = let p : 0 + g ≡ g = omega arith in at_from l 0 24 g h ∙ ap (entry_in l) p

pub entry_is : (l : List ℕ) (g : ℕ) (p i : Bool) → g < 24 → p ≡ bit (get_or l 24 0) g → i ≡ bit (get_or l 25 0) g
    → ◌≡◌ {A = Entry} (record { word = get_or l g 0; pending_level = p; input_level = i }) (entry_at (view l) g)
entry_is l g p i h e f = rw (e, f) (sym (view_at l g h))

-- its parts
pub word_at_lem : (l : List ℕ) (g : ℕ) → g < 24 → get_or l g 0 ≡ (entry_at (view l) g).word
word_at_lem l g h = sym (ap (λ (e : Entry). e.word) (view_at l g h))

pub deferred_at : (l : List ℕ) (g : ℕ) (b : Bool) → g < 24 → b ≡ bit (get_or l 24 0) g → b ≡ (entry_at (view l) g).pending_level
deferred_at l g b h q = q ∙ sym (ap (λ (e : Entry). e.pending_level) (view_at l g h))

pub input_at : (l : List ℕ) (g : ℕ) (b : Bool) → g < 24 → b ≡ bit (get_or l 25 0) g → b ≡ (entry_at (view l) g).input_level
input_at l g b h q = q ∙ sym (ap (λ (e : Entry). e.input_level) (view_at l g h))

pub awaits_is : (l : List ℕ) (g : ℕ) (v : Vector) (b : Bool) → g < 24 → b ≡ awaits v (record { word = get_or l g 0; pending_level = false; input_level = false }) → b ≡ awaits v (entry_at (view l) g)
awaits_is l g v b h e = rw (view_at l g h) e

-- a GSI without a place is past the table, where an entry is blank
pub past : (g : ℕ) → (g < 24 → false ≡ true) → 24 ≤ g
past g none = go (ltb g 24) refl
  where
    go : (b : Bool) → ltb g 24 ≡ b → 24 ≤ g
    go true h = never (none (ltb-true g 24 h)) refl
    go false h = ltb-false g 24 h

past_from : (l : List ℕ) (i n k : ℕ) → n ≤ k → get_or (entries_from l i n) k no_entry ≡ no_entry
unfolding entries_from
past_from l i zero k h = refl
past_from l i (suc n) zero h = absurd (omega arith)
past_from l i (suc n) (suc k) h = past_from l (suc i) n k (omega arith)

pub entry_past : (l : List ℕ) (g : ℕ) → 24 ≤ g → no_entry ≡ entry_at (view l) g
unfolding view
entry_past l g h = sym (past_from l 0 24 g h)

-- a table of 24, and a word of 24 bits
from_long : (l : List ℕ) (i n : ℕ) → length (entries_from l i n) ≡ n
unfolding entries_from
from_long l i zero = refl
from_long l i (suc n) = ap suc (from_long l (suc i) n)

pub view_long : (l : List ℕ) → length (view l).entries ≡ 24
unfolding view
view_long l = from_long l 0 24

pub view_small : (l : List ℕ) → (view l).in_flight < 2 ^ 24
unfolding view
view_small l = mod-lt (get_or l 30 0) (lit< tt)

-- ---- what isn't looked at

module _ (l : List ℕ) (long : length l ≡ 32) where
  spare_entry : (g x : ℕ) → g < 24 → spare (set l g x) ≡ spare l
  unfolding spare
  spare_entry g x h =
      let a = get_or-set_other l g 24 x 0 (omega arith) in
      let b = get_or-set_other l g 25 x 0 (omega arith) in
      let c = get_or-set_other l g 30 x 0 (omega arith) in
      let d = get_or-set_other l g 31 x 0 (omega arith) in
      let e = get_or-set_other l g 26 x 0 (omega arith) in
      λ i. a i / 2 ^ 24 ∷ b i / 2 ^ 24 ∷ e i / 2 ^ 32 ∷ c i / 2 ^ 24 ∷ d i ∷ []

  pub spare_select : (x : ℕ) → x / 2 ^ 32 ≡ get_or l 26 0 / 2 ^ 32 → spare (set l 26 x) ≡ spare l
  unfolding spare
  spare_select x q =
      let a = get_or-set_other l 26 24 x 0 (omega arith) in
      let b = get_or-set_other l 26 25 x 0 (omega arith) in
      let c = get_or-set_other l 26 30 x 0 (omega arith) in
      let d = get_or-set_other l 26 31 x 0 (omega arith) in
      let e = ap (λ (n : ℕ). n / 2 ^ 32) (get_or-set_same l 26 x 0 (omega arith)) ∙ q in
      λ i. a i / 2 ^ 24 ∷ b i / 2 ^ 24 ∷ e i ∷ c i / 2 ^ 24 ∷ d i ∷ []

  -- a flag's word, and any other
  upper : (at g : ℕ) (up : Bool) → at < 32 → g < 24 → (k : ℕ) → get_or (put_flag l at g up) k 0 / 2 ^ 24 ≡ get_or l k 0 / 2 ^ 24
  upper at g up h j k = go (ℕ_discrete k at)
    where
      go : Dec (k ≡ at) → get_or (put_flag l at g up) k 0 / 2 ^ 24 ≡ get_or l k 0 / 2 ^ 24
      go (yes e) = rw e (ap (λ (n : ℕ). n / 2 ^ 24) (get_or-set_same l at (marked (get_or l at 0) g up) 0 (omega arith)) ∙ marked_above 24 (get_or l at 0) g up j)
      go (no e) = ap (λ (n : ℕ). n / 2 ^ 24) (get_or-set_other l at k _ 0 e)

  pub spare_flag : (at g : ℕ) (up : Bool) → at < 31 → (at ≡ 26 → ⊥) → g < 24 → spare (put_flag l at g up) ≡ spare l
  unfolding spare
  spare_flag at g up h n j =
      let a = upper at g up (omega arith) j 24 in
      let b = upper at g up (omega arith) j 25 in
      let c = upper at g up (omega arith) j 30 in
      let d = get_or-set_other l at 31 (marked (get_or l at 0) g up) 0 (omega arith) in
      let e = ap (λ (n : ℕ). n / 2 ^ 32) (get_or-set_other l at 26 (marked (get_or l at 0) g up) 0 (λ q. n (sym q))) in
      λ i. a i ∷ b i ∷ e i ∷ c i ∷ d i ∷ []

-- a step that leaves the words as they are, and one step after another
pub still : {A : Type 0} (l : List ℕ) → A → Keeps l l A
still l a = record { is = a; kept = refl }

pub then : {A B C : Type 0} {l u w : List ℕ} → Keeps l u A → Keeps u w B → (A → B → C) → Keeps l w C
then a b f = record { is = f a.is b.is; kept = b.kept ∙ a.kept }

pub so_that : {A B : Type 0} {l u : List ℕ} → Keeps l u A → (A → B) → Keeps l u B
so_that a f = record { is = f a.is; kept = a.kept }

-- ---- a flag

module _ (l : List ℕ) (at g : ℕ) (up : Bool) where
  pub flag_up : (s : ℕ) → up ≡ true → s ≡ with (get_or l at 0) g → set l at s ≡ put_flag l at g up
  flag_up s u e = rw u (ap (set l at) e)

  pub flag_down : (s : ℕ) → up ≡ false → s ≡ without (get_or l at 0) g → set l at s ≡ put_flag l at g up
  flag_down s u e = rw u (ap (set l at) e)

-- ---- an entry

-- words in which entry g is e, and all else is as it was
module _ (l w : List ℕ) (g : ℕ) (e : Entry) (here : g < 24) (is : entry_in w g ≡ e) (other : (k : ℕ) → k < 24 → (k ≡ g → ⊥) → entry_in w k ≡ entry_in l k)
    (beyond : (k : ℕ) → 26 ≤ k → get_or w k 0 ≡ get_or l k 0) where
  after : (k n : ℕ) → g < k → k + n ≡ 24 → entries_from w k n ≡ entries_from l k n
  unfolding entries_from
  after k zero h z = refl
  after k (suc n) h z = ap₂ (λ (x : Entry) (xs : List Entry). x ∷ xs) (other k (omega arith) (omega arith)) (after (suc k) n (omega arith) (omega arith))

  within : (k n j : ℕ) → g ≡ k + j → j < n → k + n ≡ 24 → entries_from w k n ≡ set (entries_from l k n) j e
  unfolding entries_from
  within k zero j q h z = absurd (omega arith)
  within k (suc n) zero q h z =
      let y : k ≡ g = omega arith in
      ap₂ (λ (x : Entry) (xs : List Entry). x ∷ xs) (rw y is) (after (suc k) n (omega arith) (omega arith))
  within k (suc n) (suc j) q h z =
      ap₂ (λ (x : Entry) (xs : List Entry). x ∷ xs) (other k (omega arith) (omega arith)) (within (suc k) n j (omega arith) (omega arith) (omega arith))

  view_parts : view w ≡ parts (view l) g e
  unfolding view
  view_parts =
      let b = beyond 27 (omega arith) in
      let z = beyond 28 (omega arith) in
      let v = beyond 29 (omega arith) in
      let s = ap (λ (x : ℕ). x % 2 ^ 32) (beyond 26 (omega arith)) in
      let n = ap (λ (x : ℕ). x % 2 ^ 24) (beyond 30 (omega arith)) in
      let t = within 0 24 g (omega arith) here (omega arith) in
      λ j. record { base = b j; size = z j; version = v j; selector = s j; in_flight = n j; entries = t j }

module _ (l : List ℕ) (g : ℕ) (long : length l ≡ 32) (here : g < 24) where
  -- another register
  pub word_is : (x : ℕ) → Keeps l (set l g x) (view (set l g x) ≡ parts (view l) g (with_word (entry_at (view l) g) x))
  word_is x =
      record {
        is =
            view_parts l (set l g x) g (with_word (entry_at (view l) g) x) here
            (rw (view_at l g here, get_or-set_same l g x 0 (omega arith), get_or-set_other l g 24 x 0 (omega arith), get_or-set_other l g 25 x 0 (omega arith)))
            (λ k h n. rw (get_or-set_other l g k x 0 n, get_or-set_other l g 24 x 0 (omega arith), get_or-set_other l g 25 x 0 (omega arith)))
            (λ k h. get_or-set_other l g k x 0 (omega arith));
        kept = spare_entry l long g x here;
      }

  -- a flag that moves
  pub deferred_is : (b : Bool) → Keeps l (put_flag l 24 g b) (view (put_flag l 24 g b) ≡ parts (view l) g (with_deferred (entry_at (view l) g) b))
  deferred_is b =
      let m = get_or-set_same l 24 (marked (get_or l 24 0) g b) 0 (omega arith) in
      record {
        is =
            view_parts l (put_flag l 24 g b) g (with_deferred (entry_at (view l) g) b) here
            (rw (view_at l g here, m, get_or-set_other l 24 g (marked (get_or l 24 0) g b) 0 (omega arith), get_or-set_other l 24 25 (marked (get_or l 24 0) g b) 0 (omega arith), bit_marked_same (get_or l 24 0) g b))
            (λ k h n. rw (m, get_or-set_other l 24 k (marked (get_or l 24 0) g b) 0 (omega arith), get_or-set_other l 24 25 (marked (get_or l 24 0) g b) 0 (omega arith), bit_marked_other (get_or l 24 0) g k b n))
            (λ k h. get_or-set_other l 24 k (marked (get_or l 24 0) g b) 0 (omega arith));
        kept = spare_flag l long 24 g b (omega arith) (λ q. omega arith) here;
      }

  pub input_is : (b : Bool) → Keeps l (put_flag l 25 g b) (view (put_flag l 25 g b) ≡ parts (view l) g (with_input (entry_at (view l) g) b))
  input_is b =
      let m = get_or-set_same l 25 (marked (get_or l 25 0) g b) 0 (omega arith) in
      record {
        is =
            view_parts l (put_flag l 25 g b) g (with_input (entry_at (view l) g) b) here
            (rw (view_at l g here, m, get_or-set_other l 25 g (marked (get_or l 25 0) g b) 0 (omega arith), get_or-set_other l 25 24 (marked (get_or l 25 0) g b) 0 (omega arith), bit_marked_same (get_or l 25 0) g b))
            (λ k h n. rw (m, get_or-set_other l 25 k (marked (get_or l 25 0) g b) 0 (omega arith), get_or-set_other l 25 24 (marked (get_or l 25 0) g b) 0 (omega arith), bit_marked_other (get_or l 25 0) g k b n))
            (λ k h. get_or-set_other l 25 k (marked (get_or l 25 0) g b) 0 (omega arith));
        kept = spare_flag l long 25 g b (omega arith) (λ q. omega arith) here;
      }

-- ---- the lines in flight and the selector

same_entries : (w l : List ℕ) → ((i : ℕ) → i < 26 → get_or w i 0 ≡ get_or l i 0) → (i n : ℕ) → i + n ≡ 24 → entries_from w i n ≡ entries_from l i n
unfolding entries_from
same_entries w l s i zero h = refl
same_entries w l s i (suc n) h =
    ap₂ (λ (x : Entry) (xs : List Entry). x ∷ xs) (rw (s i (omega arith), s 24 (omega arith), s 25 (omega arith))) (same_entries w l s (suc i) n (omega arith))

pub flight_is : (l w : List ℕ) (g : ℕ) (up : Bool) → length l ≡ 32 → g < 24 → w ≡ put_flag l 30 g up
    → Keeps l w (view w ≡ with_flight (view l) (marked (view l).in_flight g up))
unfolding view
flight_is l w g up h k q =
    let b = get_or-set_other l 30 27 _ 0 (omega arith) in
    let z = get_or-set_other l 30 28 _ 0 (omega arith) in
    let v = get_or-set_other l 30 29 _ 0 (omega arith) in
    let s = ap (λ (y : ℕ). y % 2 ^ 32) (get_or-set_other l 30 26 _ 0 (omega arith)) in
    let f = ap (λ (y : ℕ). y % 2 ^ 24) (get_or-set_same l 30 (marked (get_or l 30 0) g up) 0 (omega arith)) ∙ marked_cut 24 (get_or l 30 0) g up k in
    let t = same_entries (put_flag l 30 g up) l (λ i j. get_or-set_other l 30 i _ 0 (omega arith)) 0 24 (omega arith) in
    record {
      is = ap view q ∙ (λ i. record { base = b i; size = z i; version = v i; selector = s i; in_flight = f i; entries = t i });
      kept = ap spare q ∙ spare_flag l h 30 g up (omega arith) (λ e. omega arith) k;
    }

pub view_select : (l : List ℕ) (x n : ℕ) → length l ≡ 32 → x < 2 ^ 32 → n ≡ with_low (get_or l 26 0) x
    → Keeps l (set l 26 n) (view (set l 26 n) ≡ with_selector (view l) x)
unfolding view
view_select l x n h k q =
    let low : n % 2 ^ 32 ≡ x = omega (arith, q, k) in
    let high : n / 2 ^ 32 ≡ get_or l 26 0 / 2 ^ 32 = omega (arith, q, k) in
    let b = get_or-set_other l 26 27 n 0 (omega arith) in
    let z = get_or-set_other l 26 28 n 0 (omega arith) in
    let v = get_or-set_other l 26 29 n 0 (omega arith) in
    let s = ap (λ (y : ℕ). y % 2 ^ 32) (get_or-set_same l 26 n 0 (omega arith)) ∙ low in
    let f = ap (λ (y : ℕ). y % 2 ^ 24) (get_or-set_other l 26 30 n 0 (omega arith)) in
    let t = same_entries (set l 26 n) l (λ i j. get_or-set_other l 26 i n 0 (omega arith)) 0 24 (omega arith) in
    record {
      is = λ i. record { base = b i; size = z i; version = v i; selector = s i; in_flight = f i; entries = t i };
      kept = spare_select l h n high;
    }
