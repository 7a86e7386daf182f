-- A table with one entry replaced: its other entries, the count of those in flight, and the first of them. Assumes nothing.
use Prim.Native.Nat.{ℕ, zero, suc, ◌+◌, ◌≤◌, ◌<◌}
use native.Mathlib.Omega.{arith}
use native.Mathlib.Decide.{ℕ_discrete, dec_lt}
use mathlib.Core.Bool.{Bool, true, false, cond}
use mathlib.Core.List.{map}
use mathlib.Core.Path.{◌≡◌, refl, sym, ◌∙◌, ap, ap₂}
use lib.ListN.{length, length-map, get_or, get_or-map}
use lib.Seq.{get_or-set_same, get_or-set_other}
use Rattle.utils.specs.Set.{bit}
use Rattle.utils.proofs.Search.{first_holds, first_before}
use Rattle.utils.proofs.Bools.{never, and_true}
use Rattle.types.specs.declared.Vector.{Vector}
use Rattle.vioapic.specs.State.{IoApicState}
use Rattle.vioapic_entry.specs.Redirection.{awaits}
use Rattle.vioapic.specs.Table.{Ending, no_entry, entry_at, put, ends, first_awaiting, end_of_every}
use Rattle.vioapic.specs.Agreement.{Agrees, first_in_table, end_each_in_table, end_of_every_in_table}
use Rattle.vioapic.proofs.Flight.{first_in_table_lem}
use Rattle.vioapic.proofs.Every.{every_in_table}
use Rattle.vioapic_entry.specs.declared.Entry.{Entry}
use Rattle.vioapic_theorems.specs.Sends.{count, lower_in_flight}
use Rattle.vioapic_theorems.specs.Premises.{all_below}
use Rattle.vioapic_theorems.proofs.Steps.{grounded}

pub put_same : (s : IoApicState) (h : ℕ) (f : Entry) → length s.entries ≡ 24 → h < 24 → entry_at (put s h f) h ≡ f
put_same s h f n l = get_or-set_same s.entries h f no_entry (rw n l)

pub put_other : (s : IoApicState) (h : ℕ) (f : Entry) (j : ℕ) → (j ≡ h → ⊥) → entry_at (put s h f) j ≡ entry_at s j
put_other s h f j n = get_or-set_other s.entries h j f no_entry n

-- where the word agrees, an EOI of version 0x20 takes each entry by itself
module _ (s : IoApicState) (v : Vector) (a : Agrees s) where
  pub every_at : (j : ℕ) → entry_at (end_of_every s v).state j ≡ end_each_in_table v (entry_at s j)
  unfolding end_of_every_in_table
  every_at j =
      let n : end_each_in_table v no_entry ≡ no_entry = rw (grounded v no_entry refl) in
      ap (λ (x : Ending). entry_at x.state j) (every_in_table s v a)
      ∙ ap (λ (d : Entry). get_or (map (end_each_in_table v) s.entries) j d) (sym n) ∙ get_or-map (end_each_in_table v) s.entries j no_entry

  pub every_size : length (end_of_every s v).state.entries ≡ length s.entries
  unfolding end_of_every_in_table
  every_size = ap (λ (x : Ending). length x.state.entries) (every_in_table s v a) ∙ length-map s.entries (end_each_in_table v)

-- a test that holds below n, at each number
pub all_at : (n : ℕ) (p : ℕ → Bool) → all_below n p ≡ true → (j : ℕ) → j < n → p j ≡ true
unfolding all_below
all_at zero p e j l = absurd (omega arith)
all_at (suc n) p e j l = go (ℕ_discrete j n) (and_true (p n) (all_below n p) e) (all_at n p)
  where
    go : Dec (j ≡ n) → (p n ≡ true) × (all_below n p ≡ true) → (all_below n p ≡ true → (i : ℕ) → i < n → p i ≡ true) → p j ≡ true
    go (yes q) b rest = rw q b.0
    go (no q) b rest = rest b.1 j (omega arith)

-- ---- counting

pub count_same : (n : ℕ) (p q : ℕ → Bool) → ((j : ℕ) → j < n → p j ≡ q j) → count n p ≡ count n q
unfolding count
count_same zero p q h = refl
count_same (suc n) p q h = ap₂ (λ (b : Bool) (k : ℕ). cond b 1 0 + k) (h n (omega arith)) (count_same n p q (λ j l. h j (omega arith)))

-- one fewer where the test fails at one number more
pub count_less : (n : ℕ) (p q : ℕ → Bool) (h : ℕ) → h < n → p h ≡ true → q h ≡ false → ((j : ℕ) → (j ≡ h → ⊥) → q j ≡ p j) → count n p ≡ suc (count n q)
unfolding count
count_less zero p q h l a b c = absurd (omega arith)
count_less (suc n) p q h l a b c = go (ℕ_discrete h n) (count_less n p q h)
  where
    go : Dec (h ≡ n) → (h < n → p h ≡ true → q h ≡ false → ((j : ℕ) → (j ≡ h → ⊥) → q j ≡ p j) → count n p ≡ suc (count n q))
        → cond (p n) 1 0 + count n p ≡ suc (cond (q n) 1 0 + count n q)
    go (yes e) rest =
        let x : p n ≡ true = rw e at a in
        let y : q n ≡ false = rw e at b in
        rw (x, y, count_same n p q (λ j k. sym (c j (λ z. omega arith)))) (omega arith)
    go (no e) rest =
        let k : h < n = omega arith in
        let t : count n p ≡ suc (count n q) = rest k a b c in
        rw (c n (λ z. e (sym z)), t) (omega arith)

-- some below n pass: not none
pub count_some : (n : ℕ) (p : ℕ → Bool) (h : ℕ) → h < n → p h ≡ true → (count n p ≡ 0 → ⊥)
unfolding count
count_some zero p h l a z = omega arith
count_some (suc n) p h l a z = go (ℕ_discrete h n) (count_some n p h)
  where
    go : Dec (h ≡ n) → (h < n → p h ≡ true → (count n p ≡ 0 → ⊥)) → ⊥
    go (yes e) rest = let x : p n ≡ true = rw e at a in let y : 1 + count n p ≡ 0 = rw x at z in omega arith
    go (no e) rest = rest (omega arith) a (omega arith)

-- none below n pass
pub count_none : (n : ℕ) (p : ℕ → Bool) → ((j : ℕ) → j < n → p j ≡ false) → count n p ≡ 0
unfolding count
count_none zero p h = refl
count_none (suc n) p h = let t : count n p ≡ 0 = count_none n p (λ j l. h j (omega arith)) in rw (h n (omega arith)) (omega arith)

-- ---- the lower entries in flight

module _ (v : Vector) (g : ℕ) (s : IoApicState) (size : length s.entries ≡ 24) (h : ℕ) (f : Entry) (within : h < 24) where
  -- an entry replaced by one that is in flight with v as before
  pub lower_put : (h < g → awaits v f ≡ awaits v (entry_at s h)) → lower_in_flight v g (put s h f) ≡ lower_in_flight v g s
  lower_put c = count_same g (λ j. awaits v (entry_at (put s h f) j)) (λ j. awaits v (entry_at s j)) at
    where
      at : (j : ℕ) → j < g → awaits v (entry_at (put s h f) j) ≡ awaits v (entry_at s j)
      at j l = go (ℕ_discrete j h)
        where
          go : Dec (j ≡ h) → awaits v (entry_at (put s h f) j) ≡ awaits v (entry_at s j)
          go (yes e) = let k : h < g = rw e at l in rw e (ap (awaits v) (put_same s h f size within) ∙ c k)
          go (no e) = ap (awaits v) (put_other s h f j e)

  -- or by one that no longer is
  pub lower_gone : h < g → awaits v (entry_at s h) ≡ true → awaits v f ≡ false → lower_in_flight v g s ≡ suc (lower_in_flight v g (put s h f))
  lower_gone l a b =
      count_less g (λ j. awaits v (entry_at s j)) (λ j. awaits v (entry_at (put s h f) j)) h l a
      (ap (awaits v) (put_same s h f size within) ∙ b)
      (λ j n. ap (awaits v) (put_other s h f j n))

-- ---- the first entry in flight

-- what the search finds awaits the EOI
pub first_awaits : (s : IoApicState) (v : Vector) → first_awaiting s v < 24 → awaits v (entry_at s (first_awaiting s v)) ≡ true
unfolding first_awaiting
first_awaits s v h = (and_true (bit s.in_flight (first_awaiting s v)) (awaits v (entry_at s (first_awaiting s v))) (first_holds 24 (ends v s) h)).1

-- and where the word agrees, nothing below it does
module _ (s : IoApicState) (v : Vector) (k : Agrees s) where
  pub before_first : (j : ℕ) → j < first_awaiting s v → awaits v (entry_at s j) ≡ false
  unfolding first_in_table
  before_first j i = first_before 24 (λ g. awaits v (entry_at s g)) j (rw (← first_in_table_lem s v k) i)

  pub first_lowest : (j : ℕ) → awaits v (entry_at s j) ≡ true → j < 24 → first_awaiting s v ≤ j
  first_lowest j a l = go (dec_lt j (first_awaiting s v))
    where
      go : Dec (j < first_awaiting s v) → first_awaiting s v ≤ j
      go (yes i) = never a (before_first j i)
      go (no i) = omega arith

  -- with no lower entry in flight, entry g is the first
  pub first_own : (g : ℕ) → g < 24 → awaits v (entry_at s g) ≡ true → lower_in_flight v g s ≡ 0 → first_awaiting s v ≡ g
  first_own g l a z = go (dec_lt (first_awaiting s v) g)
    where
      le : first_awaiting s v ≤ g
      le = first_lowest g a l

      go : Dec (first_awaiting s v < g) → first_awaiting s v ≡ g
      go (yes i) = absurd (count_some g (λ j. awaits v (entry_at s j)) (first_awaiting s v) i (first_awaits s v (omega (arith, l, i))) z)
      go (no i) = omega (arith, first_lowest g a l)

  -- with some, the first is lower
  pub first_lower : (g n : ℕ) → lower_in_flight v g s ≡ suc n → first_awaiting s v < g
  first_lower g n z = go (dec_lt (first_awaiting s v) g)
    where
      go : Dec (first_awaiting s v < g) → first_awaiting s v < g
      go (yes l) = l
      go (no l) =
          let e : count g (λ j. awaits v (entry_at s j)) ≡ 0 = count_none g (λ j. awaits v (entry_at s j)) (λ j i. before_first j (omega arith)) in
          absurd (omega arith)
