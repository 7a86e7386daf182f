-- A line that is left waiting shows a range of vectors with more lines than free vectors (Hall's condition, for ranges), and such a range leaves no plan. Assumes nothing.
use mathlib.Core.Path.{◌≡◌, refl, sym, ap, ◌∙◌, subst}
use mathlib.Core.Bool.{Bool, true, false, not, cond, ◌&&◌}
use mathlib.Core.List.{List}
use Prim.Native.Nat.{ℕ, zero, suc, ◌+◌, ◌-◌, ◌≤◌, ◌<◌, zero-le}
use native.Mathlib.Omega.{arith}
use lib.Dec.{eqb, leb, ltb}
use lib.ListN.{get_or, length}
use borrow.Author.Tests.{eqb-true, eqb-false, leb-true, leb-false, le-leb, ltb-true, ltb-false, lt-ltb}
use Rattle.utils.specs.Cases.{and_yes}
use Rattle.planner.specs.Lines.{count, lowest_of, highest_of, is_taken, is_free}
use Rattle.planner.specs.Plan.{waits, reach, next_line, giving, planned}
use Rattle.planner.specs.Shortage.{free_within, confined, crowded}
use Rattle.planner.proofs.Leaves.{reach_line, reach_past}
use Rattle.planner_theorems.specs.Statements.{Passes, Words}
use Rattle.planner_theorems.proofs.Counting.{but, count_but, into, count_more, least}
use Rattle.planner_theorems.proofs.Giving.{and_left, and_right, free_from, Waits, waits_is, waits_so, next_waits, next_least, given_next, waited}

-- numbers by name: where one is `count 256 p`, it isn't computed
never : (m n : ℕ) → m < n → n ≤ m → ⊥
never m n a b = omega arith

between : (m n x y : ℕ) → m ≤ n → n < x → x ≤ y → m < y
between m n x y a b c = omega arith

-- ---- tests taken apart, and put together

pub record Within (t : List ℕ) (a b v : ℕ) : Type 0 where
  pub low : a ≤ v
  pub high : v ≤ b
  pub free : is_free t v ≡ true

within_is : (t : List ℕ) (a b v : ℕ) → free_within t a b v ≡ true → Within t a b v
unfolding free_within
within_is t a b v h =
    let lh = and_left (leb a v && leb v b) (is_free t v) h in
    record {
      low = leb-true a v (and_left (leb a v) (leb v b) lh);
      high = leb-true v b (and_right (leb a v) (leb v b) lh);
      free = and_right (leb a v && leb v b) (is_free t v) h;
    }

within_so : (t : List ℕ) (a b v : ℕ) → a ≤ v → v ≤ b → is_free t v ≡ true → free_within t a b v ≡ true
unfolding free_within
within_so t a b v l h f = rw (le-leb a v l, le-leb v b h) f

pub confined_low : (r : List ℕ) (a b k : ℕ) → confined r a b k ≡ true → a ≤ lowest_of (get_or r k 0)
unfolding confined
confined_low r a b k h = leb-true a (lowest_of (get_or r k 0)) (and_left (leb a (lowest_of (get_or r k 0))) (leb (highest_of (get_or r k 0)) b) h)

pub confined_high : (r : List ℕ) (a b k : ℕ) → confined r a b k ≡ true → highest_of (get_or r k 0) ≤ b
unfolding confined
confined_high r a b k h = leb-true (highest_of (get_or r k 0)) b (and_right (leb a (lowest_of (get_or r k 0))) (leb (highest_of (get_or r k 0)) b) h)

pub confined_so : (r : List ℕ) (a b k : ℕ) → a ≤ lowest_of (get_or r k 0) → highest_of (get_or r k 0) ≤ b → confined r a b k ≡ true
unfolding confined
confined_so r a b k l h = rw (le-leb a (lowest_of (get_or r k 0)) l, le-leb (highest_of (get_or r k 0)) b h)

free_so : (t : List ℕ) (v : ℕ) → 32 ≤ v → is_taken t v ≡ false → is_free t v ≡ true
unfolding is_free
free_so t v l h = rw (le-leb 32 v l, h)

pub crowded_is : (r t : List ℕ) (a b : ℕ) → crowded r t a b ≡ true → count 256 (free_within t a b) < count (length r) (confined r a b)
unfolding crowded
crowded_is r t a b h = ltb-true (count 256 (free_within t a b)) (count (length r) (confined r a b)) h

crowded_so : (r t : List ℕ) (a b : ℕ) → count 256 (free_within t a b) < count (length r) (confined r a b) → crowded r t a b ≡ true
unfolding crowded
crowded_so r t a b h = lt-ltb (count 256 (free_within t a b)) (count (length r) (confined r a b)) h

-- ---- a crowded range leaves no plan: a plan would send the lines confined there to its free vectors, no two to one

pub no_plan : (r t p : List ℕ) (a b : ℕ) → Words r → crowded r t a b ≡ true → Passes r t p → ⊥
no_plan r t p a b words h ok =
    never (count 256 (free_within t a b)) (count (length r) (confined r a b)) (crowded_is r t a b h)
    (into (length r) 256 (confined r a b) (free_within t a b) (λ k. get_or p k 0)
    (λ k q c. omega (arith, ok.highest k q, words k q))
    (λ k q c. within_so t a b (get_or p k 0) (omega (arith, confined_low r a b k c, ok.lowest k q)) (omega (arith, confined_high r a b k c, ok.highest k q)) (free_so t (get_or p k 0) (ok.own k q) (ok.untaken k q)))
    (λ i j q s c d e. ok.apart i j q s e))

-- ---- a crowded range starts at one of its lines' lowest vector

pub start_at_line : (r t : List ℕ) (a b k : ℕ) → k < length r → confined r a b k ≡ true → crowded r t a b ≡ true → (i : ℕ) × (i < length r) × (crowded r t (lowest_of (get_or r i 0)) b ≡ true)
start_at_line r t a b k l c h =
    let m = least (confined r a b) (λ j. lowest_of (get_or r j 0)) (length r) k l c in
    let from : a ≤ lowest_of (get_or r m.at 0) = confined_low r a b m.at m.holds in
    let lines : count (length r) (confined r a b) ≤ count (length r) (confined r (lowest_of (get_or r m.at 0)) b) =
    count_more (length r) (confined r a b) (confined r (lowest_of (get_or r m.at 0)) b) (λ j q d. confined_so r (lowest_of (get_or r m.at 0)) b j (m.is j q d) (confined_high r a b j d)) in
    let vectors : count 256 (free_within t (lowest_of (get_or r m.at 0)) b) ≤ count 256 (free_within t a b) =
    count_more 256 (free_within t (lowest_of (get_or r m.at 0)) b) (free_within t a b)
    (λ v q d. let w = within_is t (lowest_of (get_or r m.at 0)) b v d in within_so t a b v (omega (arith, from, w.low)) w.high w.free) in
    (m.at, m.below, crowded_so r t (lowest_of (get_or r m.at 0)) b (between _ _ _ _ vectors (crowded_is r t a b h) lines))

-- ---- the greatest number below w at which it holds, and one more; or 0

abbrev after : (ℕ → Bool) → ℕ → ℕ
after p zero = 0
after p (suc w) = cond (p w) (suc w) (after p w)

after_le : (p : ℕ → Bool) (w : ℕ) → after p w ≤ w
after_le p zero = zero-le
after_le p (suc w) = go (after_le p w) (p w)
  where
    go : after p w ≤ w → (b : Bool) → cond b (suc w) (after p w) ≤ suc w
    go h true = omega arith
    go h false = omega arith

after_not : (p : ℕ → Bool) (w v : ℕ) → after p w ≤ v → v < w → p v ≡ false
after_not p zero v a l = absurd (omega arith)
after_not p (suc w) v a l = go (after_not p w v) (p w) refl a (eqb v w) refl
  where
    go : (after p w ≤ v → v < w → p v ≡ false) → (b : Bool) → p w ≡ b → cond b (suc w) (after p w) ≤ v → (c : Bool) → eqb v w ≡ c → p v ≡ false
    go rest true e q c d = absurd (omega arith)
    go rest false e q true d = ap p (eqb-true v w d) ∙ e
    go rest false e q false d = rest q (omega (arith, eqb-false v w d))

after_holds : (p : ℕ → Bool) (w s : ℕ) → after p w ≡ suc s → p s ≡ true
after_holds p zero s e = absurd (omega (arith, e))
after_holds p (suc w) s e = go (after_holds p w s) (p w) refl e
  where
    go : (after p w ≡ suc s → p s ≡ true) → (b : Bool) → p w ≡ b → cond b (suc w) (after p w) ≡ suc s → p s ≡ true
    go rest true d q = let z : s ≡ w = omega (arith, q) in ap p z ∙ d
    go rest false d q = rest q

-- ---- a line that is left waiting

module _ (r t : List ℕ) (words : Words r) (few : length r ≤ 24) where
  -- what the lines have when vector v comes, and the line that it goes to
  abbrev pub at : ℕ → List ℕ
  at v = giving r t (v - 32)

  unfoldable pub owner : ℕ → ℕ
  owner v = next_line r (at v) v

  back : (u v k : ℕ) → u ≤ v → get_or (at v) k 0 ≡ 0 → get_or (at u) k 0 ≡ 0
  back u v k l h = waited r t (v - 32) (u - 32) k (omega arith) h

  highest_small : (k : ℕ) → k < length r → highest_of (get_or r k 0) < 256
  highest_small k l = omega (arith, words k l)

  -- a vector that goes to a line whose range ends by b goes to a line
  pub record Owned (b v : ℕ) : Type 0 where
    pub line : owner v < length r
    pub wait : Waits (get_or r (owner v) 0) (get_or (at v) (owner v) 0) v
    pub ends : highest_of (get_or r (owner v) 0) ≤ b

  owned : (b v : ℕ) → b < 256 → reach r (owner v) ≤ b → Owned b v
  unfolding owner
  owned b v s h = go (ltb (owner v) 24) refl
    where
      go : (c : Bool) → ltb (owner v) 24 ≡ c → Owned b v
      go true e =
          let n = next_waits r (at v) v (ltb-true (owner v) 24 e) in
          record { line = n.0; wait = waits_is _ _ _ n.1; ends = omega (arith, reach_line r (owner v) n.0, h) }
      go false e = absurd (omega (arith, reach_past r (owner v) (omega (arith, ltb-false (owner v) 24 e)), h))

  -- a line waits no more once a free vector went to it
  given_once : (v u : ℕ) → is_free t v ≡ true → owner v < length r → v < u → get_or (at u) (owner v) 0 ≡ 0 → ⊥
  unfolding owner
  given_once v u f l q h =
      let low : 32 ≤ v = free_from t v f in
      let d : ℕ = v - 32 in
      let e : 32 + d ≡ v = omega arith in
      let g : get_or (giving r t (suc d)) (next_line r (giving r t d) (32 + d)) 0 ≡ 32 + d = given_next r t d (subst (λ (x : ℕ). is_free t x ≡ true) (sym e) f) (subst (λ (x : ℕ). next_line r (giving r t d) x < 24) (sym e) (omega (arith, l))) in
      let z : get_or (giving r t (suc d)) (owner v) 0 ≡ 0 = waited r t (u - 32) (suc d) (owner v) (omega arith) h in
      omega (arith, g, subst (λ (x : ℕ). get_or (giving r t (suc d)) (next_line r (giving r t d) x) 0 ≡ 0) (sym e) z)

  module _ (k : ℕ) (isline : k < length r) (left : get_or (planned r t) k 0 ≡ 0) where
    b : ℕ
    b = highest_of (get_or r k 0)

    late : ℕ → Bool
    late v = is_free t v && ltb b (reach r (owner v))

    a : ℕ
    a = after late (lowest_of (get_or r k 0))

    b_small : b < 256
    unfolding b
    b_small = highest_small k isline

    -- the line has waited at every vector
    always : (v : ℕ) → v ≤ 256 → get_or (at v) k 0 ≡ 0
    unfolding planned
    always v l = waited r t 224 (v - 32) k (omega arith) left

    -- every free vector from a to b goes to a line whose range ends by b
    ends_by : (v : ℕ) → a ≤ v → v ≤ b → is_free t v ≡ true → reach r (owner v) ≤ b
    unfolding a b late owner
    ends_by v l h f = go (ltb v (lowest_of (get_or r k 0))) refl
      where
        sooner : (c : Bool) → is_free t v ≡ true → (is_free t v && c) ≡ false → c ≡ false
        sooner c e q = rw e at q

        go : (c : Bool) → ltb v (lowest_of (get_or r k 0)) ≡ c → reach r (owner v) ≤ b
        go true e = ltb-false b (reach r (owner v)) (sooner (ltb b (reach r (owner v))) f (after_not late (lowest_of (get_or r k 0)) v l (ltb-true v (lowest_of (get_or r k 0)) e)))
        go false e =
            let w : waits (get_or r k 0) (get_or (at v) k 0) v ≡ true = waits_so (get_or r k 0) (get_or (at v) k 0) v (always v (omega (arith, b_small))) (ltb-false v (lowest_of (get_or r k 0)) e) h in
            omega (arith, next_least r (at v) v k isline w, reach_line r k isline)

    owned_by : (v : ℕ) → Within t a b v → Owned b v
    owned_by v w = owned b v b_small (ends_by v w.low w.high w.free)

    -- a late vector goes to no line that ends by b, so no line waits for it that does
    too_late : (s j : ℕ) → late s ≡ true → j < length r → waits (get_or r j 0) (get_or (at s) j 0) s ≡ true → highest_of (get_or r j 0) ≤ b → ⊥
    unfolding late owner
    too_late s j h l w e =
        omega (arith, ltb-true b (reach r (owner s)) (and_right (is_free t s) (ltb b (reach r (owner s))) h), next_least r (at s) s j l w, reach_line r j l)

    -- and is confined there: it would have been given the vector before a
    starts_from : (v : ℕ) → Within t a b v → a ≤ lowest_of (get_or r (owner v) 0)
    unfolding a late
    starts_from v w = go a refl (leb a (lowest_of (get_or r (owner v) 0))) refl
      where
        o : Owned b v
        o = owned_by v w

        go : (c : ℕ) → a ≡ c → (x : Bool) → leb a (lowest_of (get_or r (owner v) 0)) ≡ x → a ≤ lowest_of (get_or r (owner v) 0)
        go c e true q = leb-true a (lowest_of (get_or r (owner v) 0)) q
        go zero e false q = omega (arith, e)
        go (suc s) e false q =
            let bad : late s ≡ true = after_holds late (lowest_of (get_or r k 0)) s e in
            let below : lowest_of (get_or r (owner v) 0) < a = leb-false a (lowest_of (get_or r (owner v) 0)) q in
            let sv : s < v = omega (arith, e, w.low) in
            let wait : waits (get_or r (owner v) 0) (get_or (at s) (owner v) 0) s ≡ true =
            waits_so (get_or r (owner v) 0) (get_or (at s) (owner v) 0) s (back s v (owner v) (omega arith) o.wait.waiting) (omega (arith, e)) (omega (arith, o.wait.high)) in
            absurd (too_late s (owner v) bad o.line wait o.ends)

    confined_owner : (v : ℕ) → Within t a b v → but (confined r a b) k (owner v) ≡ true
    unfolding but
    confined_owner v w =
        let o : Owned b v = owned_by v w in
        and_yes (confined r a b (owner v)) (not (eqb (owner v) k)) (confined_so r a b (owner v) (starts_from v w) o.ends) (other (eqb (owner v) k) refl)
      where
        other : (c : Bool) → eqb (owner v) k ≡ c → not c ≡ true
        other false e = refl
        other true e =
            let s : owner v ≡ k = eqb-true (owner v) k e in
            absurd (given_once v 256 w.free (subst (λ (j : ℕ). j < length r) (sym s) isline) (omega (arith, w.high, b_small)) (subst (λ (j : ℕ). get_or (at 256) j 0 ≡ 0) (sym s) (always 256 (omega arith))))

    self : confined r a b k ≡ true
    unfolding a b
    self = confined_so r a b k (after_le late (lowest_of (get_or r k 0))) (omega arith)

    -- so there are more lines than free vectors: each free vector goes to a line of its own, and the line that is left has none
    crowd : crowded r t a b ≡ true
    crowd =
        crowded_so r t a b
        (more (count 256 (free_within t a b)) (count (length r) (but (confined r a b) k)) (count (length r) (confined r a b))
        (into 256 (length r) (free_within t a b) (but (confined r a b) k) owner
        (λ v l h. (owned_by v (within_is t a b v h)).line)
        (λ v l h. confined_owner v (within_is t a b v h))
        (λ u v l q h g e. twice u v l (within_is t a b u h) (within_is t a b v g) e))
        (count_but (length r) (confined r a b) k isline self))
      where
        more : (m n x : ℕ) → m ≤ n → x ≡ n + 1 → m < x
        more m n x l e = omega arith

        twice : (u v : ℕ) → u < v → Within t a b u → Within t a b v → owner u ≡ owner v → ⊥
        twice u v l wu wv e =
            given_once u v wu.free (owned_by u wu).line l (subst (λ (j : ℕ). get_or (at v) j 0 ≡ 0) (sym e) (owned_by v wv).wait.waiting)

    -- the range can be had as one line's lowest vector up to a line's highest
    pub shown_by : (i : ℕ) × (i < length r) × (crowded r t (lowest_of (get_or r i 0)) (highest_of (get_or r k 0)) ≡ true)
    unfolding b
    shown_by = start_at_line r t a b k isline self crowd
