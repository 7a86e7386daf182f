-- Vectors given one after the other: which line each goes to, that a line keeps what it was given, and that what is given is allowed and given once. Assumes nothing.
use mathlib.Core.Path.{◌≡◌, refl, sym, ap, ◌∙◌, subst}
use mathlib.Core.Bool.{Bool, true, false, cond, ◌&&◌, true≢false}
use mathlib.Core.List.{List}
use mathlib.Core.Logic.{◌⊎◌, inl, inr, ⊎_elim}
use Prim.Native.Nat.{ℕ, zero, suc, ◌+◌, ◌≤◌, ◌<◌}
use native.Mathlib.Omega.{arith}
use lib.Dec.{eqb, leb, ltb}
use lib.ListN.{get_or, length, set, replicate}
use lib.Seq.{get_or-set_same, get_or-set_other}
use borrow.Author.Tests.{eqb-true, eqb-false, eq-eqb, leb-true, le-leb, ltb-true, ltb-false}
use Rattle.planner.specs.Lines.{lowest_of, highest_of, is_free, allows}
use Rattle.planner.specs.Plan.{waits, reach, better, best_of, next_line, give, giving}
use Rattle.planner.proofs.Loops.{set_past, length_giving}

-- ---- tests taken apart

pub and_left : (a b : Bool) → (a && b) ≡ true → a ≡ true
and_left true b h = refl
and_left false b h = h

pub and_right : (a b : Bool) → (a && b) ≡ true → b ≡ true
and_right true b h = h
and_right false b h = absurd (true≢false (sym h))

pub free_from : (t : List ℕ) (v : ℕ) → is_free t v ≡ true → 32 ≤ v
unfolding is_free
free_from t v h = leb-true 32 v (and_left (leb 32 v) _ h)

pub record Waits (range given v : ℕ) : Type 0 where
  pub waiting : given ≡ 0
  pub low : lowest_of range ≤ v
  pub high : v ≤ highest_of range

pub waits_is : (range given v : ℕ) → waits range given v ≡ true → Waits range given v
unfolding waits
waits_is range given v h =
    let ab = and_left (eqb given 0 && leb (lowest_of range) v) (leb v (highest_of range)) h in
    record {
      waiting = eqb-true given 0 (and_left (eqb given 0) (leb (lowest_of range) v) ab);
      low = leb-true (lowest_of range) v (and_right (eqb given 0) (leb (lowest_of range) v) ab);
      high = leb-true v (highest_of range) (and_right (eqb given 0 && leb (lowest_of range) v) (leb v (highest_of range)) h);
    }

pub waits_so : (range given v : ℕ) → given ≡ 0 → lowest_of range ≤ v → v ≤ highest_of range → waits range given v ≡ true
unfolding waits
waits_so range given v e a b = rw (eq-eqb given 0 e, le-leb (lowest_of range) v a, le-leb v (highest_of range) b)

-- ---- the line that a vector goes to

module _ (r given : List ℕ) (v : ℕ) where
  -- there is none, or it is one of the lines and waits for the vector
  abbrev Chosen : ℕ → ℕ → Type 0
  Chosen n b = (b ≡ 24) ⊎ ((b < n) × (waits (get_or r b 0) (get_or given b 0) v ≡ true))

  chosen : (n : ℕ) → Chosen n (best_of r given v n)
  unfolding better
  chosen zero = inl refl
  chosen (suc n) = go (chosen n) (waits (get_or r n 0) (get_or given n 0) v) refl (ltb (reach r n) (reach r (best_of r given v n)))
    where
      go : Chosen n (best_of r given v n) → (w : Bool) → waits (get_or r n 0) (get_or given n 0) v ≡ w → (l : Bool) → Chosen (suc n) (cond (w && l) n (best_of r given v n))
      go h true e true = inr (omega arith, e)
      go h true e false = ⊎_elim (λ z. inl z) (λ z. inr (omega (arith, z.0), z.1)) h
      go h false e l = ⊎_elim (λ z. inl z) (λ z. inr (omega (arith, z.0), z.1)) h

  -- no line that waits for it has a range that ends before
  first_ends : (n k : ℕ) → k < n → waits (get_or r k 0) (get_or given k 0) v ≡ true → reach r (best_of r given v n) ≤ reach r k
  unfolding better
  first_ends zero k l h = absurd (omega arith)
  first_ends (suc n) k l h = go (λ q. first_ends n k q h) (waits (get_or r n 0) (get_or given n 0) v) refl (ltb (reach r n) (reach r (best_of r given v n))) refl (eqb k n) refl
    where
      go : (k < n → reach r (best_of r given v n) ≤ reach r k)
          → (w : Bool) → waits (get_or r n 0) (get_or given n 0) v ≡ w
          → (b : Bool) → ltb (reach r n) (reach r (best_of r given v n)) ≡ b
          → (c : Bool) → eqb k n ≡ c → reach r (cond (w && b) n (best_of r given v n)) ≤ reach r k
      go rest true e true d true q = omega (arith, ap (reach r) (eqb-true k n q))
      go rest true e true d false q = omega (arith, rest (omega (arith, eqb-false k n q)), ltb-true (reach r n) (reach r (best_of r given v n)) d)
      go rest true e false d true q = omega (arith, ap (reach r) (eqb-true k n q), ltb-false (reach r n) (reach r (best_of r given v n)) d)
      go rest true e false d false q = rest (omega (arith, eqb-false k n q))
      go rest false e b d true q = absurd (true≢false (sym h ∙ ap (λ (i : ℕ). waits (get_or r i 0) (get_or given i 0) v) (eqb-true k n q) ∙ e))
      go rest false e b d false q = rest (omega (arith, eqb-false k n q))

  pub next_waits : next_line r given v < 24 → (next_line r given v < length r) × (waits (get_or r (next_line r given v) 0) (get_or given (next_line r given v) 0) v ≡ true)
  unfolding next_line
  next_waits l = ⊎_elim (λ z. absurd (omega (arith, z))) (λ z. z) (chosen (length r))

  pub next_least : (k : ℕ) → k < length r → waits (get_or r k 0) (get_or given k 0) v ≡ true → reach r (next_line r given v) ≤ reach r k
  unfolding next_line
  next_least k l h = first_ends (length r) k l h

-- ---- what a line has after a vector was given

module _ (r t : List ℕ) where
  -- as before; or it is the line that the vector went to
  abbrev Changed : ℕ → ℕ → Type 0
  Changed d k =
      (get_or (giving r t (suc d)) k 0 ≡ get_or (giving r t d) k 0)
      ⊎ ((k ≡ next_line r (giving r t d) (32 + d)) × (k < 24) × (is_free t (32 + d) ≡ true) × (get_or (giving r t (suc d)) k 0 ≡ 32 + d))

  pub changed : (d k : ℕ) → Changed d k
  unfolding give
  changed d k = go (is_free t (32 + d)) refl (eqb k line) refl (ltb k 24) refl
    where
      g : List ℕ
      g = giving r t d

      line : ℕ
      line = next_line r g (32 + d)

      go : (f : Bool) → is_free t (32 + d) ≡ f → (c : Bool) → eqb k line ≡ c → (b : Bool) → ltb k 24 ≡ b
          → (get_or (cond f (set g line (32 + d)) g) k 0 ≡ get_or g k 0)
          ⊎ ((k ≡ line) × (k < 24) × (is_free t (32 + d) ≡ true) × (get_or (cond f (set g line (32 + d)) g) k 0 ≡ 32 + d))
      go false e c p b q = inl refl
      go true e false p b q = inl (get_or-set_other g line k (32 + d) 0 (eqb-false k line p))
      go true e true p true q =
          let s : k ≡ line = eqb-true k line p in
          let l : k < 24 = ltb-true k 24 q in
          inr (s, l, e, ap (λ (i : ℕ). get_or (set g line (32 + d)) i 0) s ∙ get_or-set_same g line (32 + d) 0 (omega (arith, length_giving r t d)))
      go true e true p false q =
          let s : k ≡ line = eqb-true k line p in
          let l : 24 ≤ k = ltb-false k 24 q in
          inl (ap (λ (x : List ℕ). get_or x k 0) (set_past g line (32 + d) (omega (arith, length_giving r t d))))

  -- the line that a free vector goes to has it then
  pub given_next : (d : ℕ) → is_free t (32 + d) ≡ true → next_line r (giving r t d) (32 + d) < 24 → get_or (giving r t (suc d)) (next_line r (giving r t d) (32 + d)) 0 ≡ 32 + d
  unfolding give
  given_next d f l = rw f (get_or-set_same (giving r t d) (next_line r (giving r t d) (32 + d)) (32 + d) 0 (omega (arith, length_giving r t d)))

  -- a line that waits has waited before
  pub waited : (e d k : ℕ) → d ≤ e → get_or (giving r t e) k 0 ≡ 0 → get_or (giving r t d) k 0 ≡ 0
  waited zero d k l h = let z : d ≡ 0 = omega arith in rw z h
  waited (suc e) d k l h = go (eqb d (suc e)) refl (λ q z. waited e d k q z)
    where
      go : (b : Bool) → eqb d (suc e) ≡ b → (d ≤ e → get_or (giving r t e) k 0 ≡ 0 → get_or (giving r t d) k 0 ≡ 0) → get_or (giving r t d) k 0 ≡ 0
      go true p rest = let z : d ≡ suc e = eqb-true d (suc e) p in rw z h
      go false p rest =
          rest (omega (arith, eqb-false d (suc e) p))
          (⊎_elim (λ s. sym s ∙ h) (λ s. absurd (omega (arith, s.3))) (changed e k))

  -- ---- what is given is allowed, and given once

  abbrev Allowed : ℕ → ℕ → Type 0
  Allowed d k = (get_or (giving r t d) k 0 ≡ 0) ⊎ ((get_or (giving r t d) k 0 < 32 + d) × (allows (get_or r k 0) t (get_or (giving r t d) k 0) ≡ true))

  zeros : (m k : ℕ) → ◌≡◌ {A = ℕ} (get_or (replicate m 0) k 0) 0
  zeros zero k = refl
  zeros (suc m) zero = refl
  zeros (suc m) (suc k) = zeros m k

  allowed_line : (d k : ℕ) → k ≡ next_line r (giving r t d) (32 + d) → k < 24 → is_free t (32 + d) ≡ true → allows (get_or r k 0) t (32 + d) ≡ true
  unfolding allows
  allowed_line d k e l f =
      let n = next_waits r (giving r t d) (32 + d) (omega (arith, e)) in
      let w = waits_is _ _ _ n.1 in
      rw (e, le-leb (lowest_of (get_or r (next_line r (giving r t d) (32 + d)) 0)) (32 + d) w.low, le-leb (32 + d) (highest_of (get_or r (next_line r (giving r t d) (32 + d)) 0)) w.high) f

  pub allowed : (d k : ℕ) → Allowed d k
  allowed zero k = inl (zeros 24 k)
  allowed (suc d) k = ⊎_elim (λ s. kept s (allowed d k)) (λ s. inr (omega (arith, s.3), subst (λ (v : ℕ). allows (get_or r k 0) t v ≡ true) (sym s.3) (allowed_line d k s.0 s.1 s.2))) (changed d k)
    where
      kept : get_or (giving r t (suc d)) k 0 ≡ get_or (giving r t d) k 0 → Allowed d k → Allowed (suc d) k
      kept s (inl z) = inl (s ∙ z)
      kept s (inr z) = inr (omega (arith, z.0), subst (λ (v : ℕ). allows (get_or r k 0) t v ≡ true) (sym s) z.1)

  pub apart : (d j k : ℕ) → (j ≡ k → ⊥) → get_or (giving r t d) j 0 ≡ get_or (giving r t d) k 0 → get_or (giving r t d) j 0 ≡ 0
  apart zero j k h e = zeros 24 j
  apart (suc d) j k h e = go (apart d j k h) (changed d j) (changed d k)
    where
      low : (i : ℕ) → get_or (giving r t d) i 0 < 32 + d
      low i = ⊎_elim (λ z. omega arith) (λ z. z.0) (allowed d i)

      go : (get_or (giving r t d) j 0 ≡ get_or (giving r t d) k 0 → get_or (giving r t d) j 0 ≡ 0) → Changed d j → Changed d k → get_or (giving r t (suc d)) j 0 ≡ 0
      go rest (inl a) (inl b) = a ∙ rest (sym a ∙ e ∙ b)
      go rest (inl a) (inr b) = absurd (omega (arith, a, b.3, e, low j))
      go rest (inr a) (inl b) = absurd (omega (arith, a.3, b, e, low k))
      go rest (inr a) (inr b) = absurd (h (a.0 ∙ sym b.0))
