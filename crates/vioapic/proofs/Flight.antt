-- The word of lines in flight: an entry that is put keeps it in agreement with the table, and where it agrees a search among its
-- members finds what a search of the whole table finds. Assumes nothing.
use Prim.Native.Nat.{ℕ, ◌^◌, ◌<◌}
use native.Mathlib.Omega.{arith}
use mathlib.Core.Bool.{Bool, true, false, not, ◌&&◌}
use mathlib.Core.List.{List}
use mathlib.Core.Path.{◌≡◌, refl, sym, ◌∙◌, ap}
use borrow.Author.Tests.{eqb-true, eqb-false, not-false}
use lib.Dec.{eqb}
use lib.ListN.{length, get_or, set, length-set}
use lib.Seq.{get_or-set_same, get_or-set_other}
use Rattle.utils.specs.Set.{bit, without, lowest, marked}
use Rattle.utils.proofs.Laws.{bit_set_of, set_of_lt, same_bits}
use Rattle.utils.proofs.Marked.{bit_marked_same, bit_marked_other, marked_kept, marked_lt}
use Rattle.utils.proofs.Bools.{and_true}
use Rattle.utils.proofs.Search.{first_holds}
use Rattle.utils.proofs.Walk.{lowest_below, lowest_left, first_of, first_without, first_lowest, first_empty, first_among}
use Rattle.types.specs.declared.Vector.{Vector}
use Rattle.vioapic_entry.specs.Redirection.{has_vector, is_level, remote_irr, awaits}
use Rattle.vioapic_entry.specs.declared.Entry.{Entry}
use Rattle.vioapic.specs.State.{IoApicState}
use Rattle.vioapic.specs.Table.{no_entry, entry_at, noted, put, ends, first_awaiting}
use Rattle.vioapic.specs.Agreement.{in_flight_of, Agrees, first_in_table}

-- ---- agreement

-- a table's own word
abbrev is_in_flight : List Entry → ℕ → Bool
is_in_flight es g = remote_irr (get_or es g no_entry).word

module _ (es : List Entry) (g : ℕ) (e : Entry) (long : length es ≡ 24) (here : g < 24) where
  noted_whole : marked (in_flight_of es) g (remote_irr e.word) ≡ in_flight_of (set es g e)
  noted_whole =
      same_bits 24 (marked (in_flight_of es) g (remote_irr e.word)) (in_flight_of (set es g e))
      (marked_lt 24 (in_flight_of es) g (remote_irr e.word) (set_of_lt 24 (is_in_flight es)) here) (set_of_lt 24 (is_in_flight (set es g e)))
      (λ k l. at k l (eqb k g) refl ∙ sym (bit_set_of 24 (is_in_flight (set es g e)) k l))
    where
      at : (k : ℕ) → k < 24 → (b : Bool) → eqb k g ≡ b → bit (marked (in_flight_of es) g (remote_irr e.word)) k ≡ is_in_flight (set es g e) k
      at k l true q =
          let i : k ≡ g = eqb-true k g q in
          ap (bit (marked (in_flight_of es) g (remote_irr e.word))) i ∙ bit_marked_same (in_flight_of es) g (remote_irr e.word)
          ∙ sym (ap (λ (j : ℕ). is_in_flight (set es g e) j) i ∙ ap (λ (x : Entry). remote_irr x.word) (get_or-set_same es g e no_entry (omega arith)))
      at k l false q =
          let n : k ≡ g → ⊥ = eqb-false k g q in
          bit_marked_other (in_flight_of es) g k (remote_irr e.word) n ∙ bit_set_of 24 (is_in_flight es) k l
          ∙ sym (ap (λ (x : Entry). remote_irr x.word) (get_or-set_other es g k e no_entry n))

pub agrees_at : (s : IoApicState) → Agrees s → (g : ℕ) → g < 24 → bit s.in_flight g ≡ remote_irr (entry_at s g).word
agrees_at s a g l = ap (λ (n : ℕ). bit n g) a.word ∙ bit_set_of 24 (is_in_flight s.entries) g l

-- where the bit stood as Remote IRR did, it stands so again
pub noted_marked : (n g : ℕ) (was is : Bool) → bit n g ≡ was → noted n g was is ≡ marked n g is
noted_marked n g true true h = sym (marked_kept n g true h)
noted_marked n g true false h = refl
noted_marked n g false true h = refl
noted_marked n g false false h = sym (marked_kept n g false h)

pub put_agrees : (s : IoApicState) (g : ℕ) (e : Entry) → Agrees s → g < 24 → Agrees (put s g e)
put_agrees s g e a h =
    record {
      table = length-set s.entries g e ∙ a.table;
      word =
          noted_marked s.in_flight g (remote_irr (entry_at s g).word) (remote_irr e.word) (agrees_at s a g h)
          ∙ ap (λ (n : ℕ). marked n g (remote_irr e.word)) a.word ∙ noted_whole s.entries g e a.table h;
    }

-- ---- the search

-- what awaits an EOI is in flight
pub awaits_flying : (v : Vector) (e : Entry) → awaits v e ≡ true → remote_irr e.word ≡ true
awaits_flying v e h = (and_true (has_vector e.word v && is_level e.word) (remote_irr e.word) h).1

pub awaits_level : (v : Vector) (e : Entry) → awaits v e ≡ true → is_level e.word ≡ true
awaits_level v e h = (and_true (has_vector e.word v) (is_level e.word) (and_true (has_vector e.word v && is_level e.word) (remote_irr e.word) h).0).1

pub agrees_flying : (s : IoApicState) (v : Vector) → Agrees s → (g : ℕ) → g < 24 → awaits v (entry_at s g) ≡ true → bit s.in_flight g ≡ true
agrees_flying s v a g l h = agrees_at s a g l ∙ awaits_flying v (entry_at s g) h

-- where the word agrees, it is the search of the table
pub first_in_table_lem : (s : IoApicState) (v : Vector) → Agrees s → first_awaiting s v ≡ first_in_table s v
unfolding first_awaiting first_in_table first_of
first_in_table_lem s v a = first_among (λ g. awaits v (entry_at s g)) 24 s.in_flight (λ k l h. agrees_flying s v a k l h)

-- the search among those that are left
abbrev pub awaiting_in : IoApicState → Vector → ℕ → ℕ
awaiting_in s v left = first_of (λ g. awaits v (entry_at s g)) 24 left

module _ (s : IoApicState) (v : Vector) where
  by_word : awaiting_in s v s.in_flight ≡ first_awaiting s v
  unfolding first_awaiting first_of
  by_word = refl

  -- the loop's step and its two ends
  pub search_on : (left g n m : ℕ) → m ≡ without left g → awaits v (entry_at s g) ≡ false → awaiting_in s v left ≡ n → awaiting_in s v m ≡ n
  search_on left g n m q h p = ap (awaiting_in s v) q ∙ first_without (λ k. awaits v (entry_at s k)) 24 left g h ∙ p

  pub search_found : (left g : ℕ) → left < 2 ^ 24 → (left ≡ 0 → ⊥) → g ≡ lowest 32 left → awaits v (entry_at s g) ≡ true
      → awaiting_in s v left ≡ awaiting_in s v s.in_flight → g ≡ first_awaiting s v
  search_found left g b c d h p = first_lowest (λ k. awaits v (entry_at s k)) 24 32 left g (omega arith) b c d h ∙ p ∙ by_word

  pub search_done : (left : ℕ) → left ≡ 0 → awaiting_in s v left ≡ awaiting_in s v s.in_flight → 24 ≡ first_awaiting s v
  search_done left e p = first_empty (λ k. awaits v (entry_at s k)) 24 left e ∙ p ∙ by_word

-- what the search finds awaits the EOI
module _ (s : IoApicState) (v : Vector) (g : ℕ) (at : g ≡ first_awaiting s v) (found : g < 24) where
  first_ends : awaits v (entry_at s g) ≡ true
  unfolding first_awaiting
  first_ends =
      let f : ℕ = first_awaiting s v in
      let k : ends v s f ≡ true = first_holds 24 (ends v s) (omega (arith, at)) in
      rw at (and_true (bit s.in_flight f) (awaits v (entry_at s f)) k).1

  pub first_flying : remote_irr (entry_at s g).word ≡ true
  first_flying = awaits_flying v (entry_at s g) first_ends

  pub first_level : is_level (entry_at s g).word ≡ true
  first_level = awaits_level v (entry_at s g) first_ends

-- and so does an entry whose turn it is
module _ (s : IoApicState) (v : Vector) (g : ℕ) (b : Bool) (is : b ≡ awaits v (entry_at s g)) (h : not b ≡ false) where
  pub turn_flying : remote_irr (entry_at s g).word ≡ true
  turn_flying = awaits_flying v (entry_at s g) (sym is ∙ not-false b h)

  pub turn_level : is_level (entry_at s g).word ≡ true
  turn_level = awaits_level v (entry_at s g) (sym is ∙ not-false b h)

-- ---- what is left of the word, in a loop

module _ (left g : ℕ) (small : left < 2 ^ 24) (some : left ≡ 0 → ⊥) (at : g ≡ lowest 32 left) where
  -- the lowest is an entry of the table
  pub left_index : g < 24
  left_index = lowest_below 24 32 left g (omega arith) small some at

  -- and without it less is left
  pub left_less : (m : ℕ) → m ≡ without left g → m < left
  left_less m q = rw q (lowest_left 24 32 left g (omega arith) small some at)

  pub left_small : (m : ℕ) → m ≡ without left g → m < 2 ^ 24
  left_small m q = omega (arith, left_less m q)
