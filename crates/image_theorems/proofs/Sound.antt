-- What the reader takes has every row's header at its place. Assumes nothing.
use mathlib.Core.Path.{◌≡◌, refl, sym, ◌∙◌, ap}
use mathlib.Core.Bool.{Bool, true, cond, false≢true, ◌&&◌}
use mathlib.Core.List.{List}
use Prim.Native.Nat.{ℕ, zero, suc, ◌+◌, ◌-◌, ◌<◌, ◌≤◌}
use native.Mathlib.Omega.{arith}
use native.Mathlib.Numerals.{add-one}
use lib.Dec.{eqb, ltb, leb}
use lib.ListN.{length}
use borrow.Author.Tests.{ltb-true, ltb-false, eqb-true, eqb-false}
use Rattle.utils.proofs.Bools.{either, and_true}
use Rattle.image_format.specs.declared.Place.{Place}
use Rattle.image_format.specs.Format.{is_number, step_of, row_at}
use Rattle.image_format.specs.Reading.{place, refused, is_head, stands, field_by', group_by', field_by, group_by, field_from, is_whole, is_read}
use Rattle.std.specs.Prelude.{Option, Some, None}
use Rattle.std.specs.Option.{option_and_then}

-- where row k starts
abbrev pub start_of : ℕ → ℕ
start_of zero = 0
start_of (suc k) = start_of k + step_of (row_at k)

unfoldable pub Heads : List ℕ → ℕ → ℕ → Type 0
Heads s k m = (j : ℕ) → k ≤ j → j < m → is_head s (start_of j) (row_at j) ≡ true

pub record Sound (s : List ℕ) (k : ℕ) (p : Place) : Type 0 where
  pub rises : k ≤ p.row
  pub at : p.at ≡ start_of p.row
  pub heads : (j : ℕ) → k ≤ j → j < p.row → is_head s (start_of j) (row_at j) ≡ true

abbrev Good : List ℕ → ℕ → Option Place → Type 0
Good s k (Some p) = Sound s k p
Good s k None = Unit {0}

-- a row, and what comes after it
after : (s : List ℕ) (k : ℕ) (p : Place) → is_head s (start_of k) (row_at k) ≡ true → Sound s (k + 1) p → Sound s k p
after s k p h g = record {
  rises = let r = g.rises in omega arith;
  at = g.at;
  heads = λ j a b. either (λ (x : ℕ). is_head s (start_of j) (row_at j) ≡ true) (eqb j k) 0 0
      (λ e. rw (eqb-true j k e) h)
      (λ e. g.heads j (let n : (j ≡ k) → ⊥ = eqb-false j k e in omega arith) b);
}

after_each : (s : List ℕ) (k : ℕ) (o : Option Place) → is_head s (start_of k) (row_at k) ≡ true → Good s (k + 1) o → Good s k o
after_each s k (Some p) h g = after s k p h g
after_each s k None h g = tt

-- one after the other
joined : (s : List ℕ) (k : ℕ) (f p : Place) → Sound s k f → Sound s f.row p → Sound s k p
joined s k f p g h = record {
  rises = let a = g.rises in let b = h.rises in omega arith;
  at = h.at;
  heads = λ j a b. either (λ (x : ℕ). is_head s (start_of j) (row_at j) ≡ true) (ltb j f.row) 0 0
      (λ e. g.heads j a (ltb-true j f.row e))
      (λ e. h.heads j (ltb-false j f.row e) b);
}

joined_each : (s : List ℕ) (k : ℕ) (f : Place) (o : Option Place) → Sound s k f → Good s f.row o → Good s k o
joined_each s k f (Some p) g h = joined s k f p g h
joined_each s k f None g h = tt

module _ (s : List ℕ) where
  head_of : (at end k : ℕ) → stands s at end k ≡ true → is_head s at (row_at k) ≡ true
  unfolding stands
  head_of at end k h = (and_true (leb (at + 3 + (row_at k).size) end) (is_head s at (row_at k)) (and_true (ltb k 80) (leb (at + 3 + (row_at k).size) end && is_head s at (row_at k)) h).1).1

  field_by_lem : (at end depth k : ℕ) (g : Option Place) → at ≡ start_of k → (at + 3 ≡ start_of (k + 1) → Good s (k + 1) g) → Good s k (field_by' s at end depth k g)
  unfolding field_by'
  field_by_lem at end depth k g e go =
      either (Good s k) (stands s at end k) (cond (is_number (row_at k)) (place (at + 3 + (row_at k).size) (k + 1)) (cond (eqb depth 0) refused g)) refused
      (λ st. let hd : is_head s (start_of k) (row_at k) ≡ true = rw e at (head_of at end k st) in
      either (Good s k) (is_number (row_at k)) (place (at + 3 + (row_at k).size) (k + 1)) (cond (eqb depth 0) refused g)
      (λ num. after s k _ hd (record {
        rises = omega arith;
        at = let q : start_of (k + 1) ≡ start_of k + (3 + (row_at k).size) = rw add-one (ap (λ (b : Bool). start_of k + (3 + cond b (row_at k).size 0)) num) in omega (arith, q, e);
        heads = λ j a b. absurd (omega (arith, a, b));
      }))
      (λ grp. either (Good s k) (eqb depth 0) refused g (λ _. tt)
      (λ _. after_each s k g hd (go (let q : start_of (k + 1) ≡ start_of k + (3 + 0) = rw add-one (ap (λ (b : Bool). start_of k + (3 + cond b (row_at k).size 0)) grp) in omega (arith, q, e))))))
      (λ _. tt)

  group_by_lem : (at end k : ℕ) (f : Option Place) (rest : Place → Option Place) → at ≡ start_of k → Good s k f → ((p : Place) → p.at ≡ start_of p.row → Good s p.row (rest p)) → Good s k (group_by' at end k f rest)
  unfolding group_by'
  group_by_lem at end k f rest e fg go =
      either (Good s k) (eqb at end) (place at k) (option_and_then rest f)
      (λ _. record { rises = omega arith; at = e; heads = λ j a b. absurd (omega (arith, a, b)) })
      (λ _. each f fg)
    where
      each : (f : Option Place) → Good s k f → Good s k (option_and_then rest f)
      each (Some p) g = joined_each s k p (rest p) g (go p g.at)
      each None g = tt

  pub sound : (n : ℕ) → ((at end depth k : ℕ) → at ≡ start_of k → Good s k (field_by n s at end depth k)) × ((at end depth k : ℕ) → at ≡ start_of k → Good s k (group_by n s at end depth k))
  unfolding field_by group_by
  sound zero = (λ at end depth k e. tt, λ at end depth k e. tt)
  sound (suc n) = (
    λ at end depth k e. field_by_lem at end depth k (group_by n s (at + 3) (at + 3 + (row_at k).size) (depth - 1) (k + 1)) e
        (λ q. (sound n).1 (at + 3) (at + 3 + (row_at k).size) (depth - 1) (k + 1) q),
    λ at end depth k e. group_by_lem at end k (field_by n s at end depth k) (λ (next : Place). group_by n s next.at end depth next.row) e
        ((sound n).0 at end depth k e) (λ p q. (sound n).1 p.at end depth p.row q),
  )

  -- the whole image was read
  pub all_heads : is_read s ≡ true → (length s ≡ start_of 80) × Heads s 0 80
  unfolding is_read field_from Heads
  all_heads h =
      go (field_from s 0 0) (either (Good s 0) (ltb (length s) 0) refused (field_by (length s + length s + 1) s 0 (length s) 3 0) (λ _. tt) (λ _. (sound (length s + length s + 1)).0 0 (length s) 3 0 refl)) h
    where
      go : (o : Option Place) → Good s 0 o → is_whole o (length s) ≡ true → (length s ≡ start_of 80) × ((j : ℕ) → 0 ≤ j → j < 80 → is_head s (start_of j) (row_at j) ≡ true)
      go None g q = absurd (false≢true q)
      go (Some p) g q =
          let b = and_true (eqb p.at (length s)) (eqb p.row 80) q in
          let r : p.row ≡ 80 = eqb-true _ _ b.1 in
          (sym (eqb-true _ _ b.0) ∙ g.at ∙ ap start_of r, λ j l m. g.heads j l (rw r m))
