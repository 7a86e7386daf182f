-- Laws about the places of a ring, and what each call of a list leaves in its bytes. Assumes nothing.
use Prim.Native.Nat.compare
use Prim.Native.Nat.{ℕ, zero, suc, ◌+◌, ◌-◌, ◌/◌, ◌%◌, ◌≤◌, ◌<◌}
use mathlib.Core.Bool.{Bool, true, false, cond, ◌||◌}
use mathlib.Core.List.{List, [], ◌∷◌, ◌++◌}
use mathlib.Core.Path.{◌≡◌, refl, sym, ap, ap₂, ◌∙◌}
use native.Mathlib.Omega.{arith}
use lib.Dec.{ltb, leb, eqb}
use lib.ListN.{length, get_or, drop, set, replicate, length-set, get_or-replicate, drop_of_length-le}
use lib.ListN as listN
use lib.Seq.{get_or-set_same, get_or-set_other, take_at, drop_at, get_or_at}
use borrow.Author.Tests.{lt-ltb, le-ltb, le-leb, lt-leb, ltb-true, ltb-false, eq-eqb, ne_eqb}
use Rattle.types.specs.declared.Refusal.TheVariants.{ListFull}
use Rattle.types.specs.declared.Reply.TheVariants.{Refused, Nothing, One}
use Rattle.types.specs.declared.Vector.{Vector}
use Rattle.types.specs.Reply.{outcome_of}
use Rattle.waiting.specs.Waiting.{Waiting, around, size_of, list_of, view, new_list, taken, delivered, cancelled, among, removed, is_empty, oldest, take, deliver, cancel, count, peek}
use Rattle.waiting.specs.Steps.{index_of, closed, Closing, Passed}

-- ---- the places around

pub around_length : (l : List ℕ) (h n : ℕ) → length (around l h n) ≡ n
around_length l h zero = refl
around_length l h (suc n) = ap suc (around_length l (suc h) n)

pub around_add : (l : List ℕ) (h a b : ℕ) → around l h (a + b) ≡ around l h a ++ around l (h + a) b
around_add l h zero b = let e : h + zero ≡ h = omega arith in let f : zero + b ≡ b = omega arith in rw (e, f) refl
around_add l h (suc a) b =
    let e : suc a + b ≡ suc (a + b) = omega arith in
    let f : h + suc a ≡ suc h + a = omega arith in
    rw (e, f) (ap (λ (m : List ℕ). get_or l (h % 64) 0 ∷ m) (around_add l (suc h) a b))

-- only what a number is modulo 64 matters
pub around_lap : (l : List ℕ) (h n : ℕ) → around l (h + 64) n ≡ around l h n
around_lap l h zero = refl
around_lap l h (suc n) =
    let e : (h + 64) % 64 ≡ h % 64 = omega arith in
    let f : suc (h + 64) ≡ suc h + 64 = omega arith in
    rw (e, f) (ap (λ (m : List ℕ). get_or l (h % 64) 0 ∷ m) (around_lap l (suc h) n))

pub around_modulo : (l : List ℕ) (h k n : ℕ) → h % 64 ≡ k % 64 → around l h n ≡ around l k n
around_modulo l h k zero e = refl
around_modulo l h k (suc n) e =
    let f : suc h % 64 ≡ suc k % 64 = omega arith in
    rw e (ap (λ (m : List ℕ). get_or l (k % 64) 0 ∷ m) (around_modulo l (suc h) (suc k) n f))

add_modulo : (a b m : ℕ) → a % 64 ≡ b % 64 → (a + m) % 64 ≡ (b + m) % 64
add_modulo a b m e = omega arith

next_modulo : (h : ℕ) → (h % 64 + 1) % 64 % 64 ≡ suc h % 64
next_modulo h = omega arith

-- a byte behind the places doesn't matter
pub around_behind : (l : List ℕ) (j x h n : ℕ) → 64 ≤ j → around (set l j x) h n ≡ around l h n
around_behind l j x h zero b = refl
around_behind l j x h (suc n) b =
    let other : h % 64 ≡ j → ⊥ = λ e. omega arith in
    rw (get_or-set_other l j (h % 64) x 0 other) (ap (λ (m : List ℕ). get_or l (h % 64) 0 ∷ m) (around_behind l j x (suc h) n b))

-- nor does a place that isn't among those read
pub around_other : (l : List ℕ) (p x h n : ℕ) → h + n ≤ p → p < h + 64 → around (set l (p % 64) x) h n ≡ around l h n
around_other l p x h zero a b = refl
around_other l p x h (suc n) a b =
    let other : h % 64 ≡ p % 64 → ⊥ = λ e. omega arith in
    rw (get_or-set_other l (p % 64) (h % 64) x 0 other)
    (ap (λ (m : List ℕ). get_or l (h % 64) 0 ∷ m) (around_other l p x (suc h) n (omega arith) (omega arith)))

-- ---- which list bytes are

pub size_le : (c : ℕ) → size_of c ≤ 64
size_le c = go (ltb c 64) refl
  where
    go : (b : Bool) → ltb c 64 ≡ b → cond b c 64 ≤ 64
    go true e = omega (arith, ltb-true c 64 e)
    go false e = omega arith

pub size_few : (c : ℕ) → c < 64 → size_of c ≡ c
size_few c h = rw (lt-ltb c 64 h) refl

pub size_many : (c : ℕ) → 64 ≤ c → size_of c ≡ 64
size_many c h = rw (le-ltb c 64 h) refl

pub size_up : (c : ℕ) → c ≤ 64 → size_of c ≡ c
size_up c h = go (ltb c 64) refl
  where
    go : (b : Bool) → ltb c 64 ≡ b → cond b c 64 ≡ c
    go true e = refl
    go false e = omega (arith, ltb-false c 64 e)

pub is_list : (l : List ℕ) (h c : ℕ) (q : Waiting) → get_or l 64 0 ≡ h → get_or l 65 0 ≡ c → h % 64 ≡ q.head → around l h (size_of c) ≡ q.waiting
    → around l (h + size_of c) (64 - size_of c) ≡ q.free → h / 64 ≡ q.head_rest → c - 64 ≡ q.count_rest → view l ≡ q
unfolding view list_of
is_list l h c q eh ec a b d e f =
    rw (eh, ec) (λ i. record { head = a i; waiting = b i; free = d i; head_rest = e i; count_rest = f i })

-- no more than 64 wait
pub view_few : (l : List ℕ) → length (view l).waiting ≤ 64
unfolding view list_of
view_few l = rw around_length (size_le (get_or l 65 0))

-- ---- an interrupt is taken in

module _ (l : List ℕ) (h c v : ℕ) (len : length l ≡ 66) (eh : get_or l 64 0 ≡ h) (ec : get_or l 65 0 ≡ c) (few : c < 64) where
  abbrev into : List ℕ
  into = set l ((h + c) % 64) v

  abbrev after_take : List ℕ
  after_take = set into 65 (c + 1)

  take_waiting : around after_take h (c + 1) ≡ around l h c ++ (v ∷ [])
  take_waiting =
      let here : get_or into ((h + c) % 64) 0 ≡ v = get_or-set_same l ((h + c) % 64) v 0 (omega arith) in
      around_behind into 65 (c + 1) h (c + 1) (omega arith)
      ∙ around_add into h c 1
      ∙ rw (around_other l (h + c) v h c (omega arith) (omega arith)) (ap (λ (x : ℕ). around l h c ++ (x ∷ [])) here)

  take_free : around after_take (h + (c + 1)) (64 - (c + 1)) ≡ drop 1 (around l (h + c) (64 - c))
  take_free =
      let m : 64 - c ≡ suc (64 - (c + 1)) = omega arith in
      let s : h + (c + 1) ≡ suc (h + c) = omega arith in
      let e : (h + c) % 64 ≡ (h + c + 64) % 64 = omega arith in
      around_behind into 65 (c + 1) (h + (c + 1)) (64 - (c + 1)) (omega arith)
      ∙ rw (m, s, e) (around_other l (h + c + 64) v (suc (h + c)) (64 - (c + 1)) (omega arith) (omega arith))

  pub take_leaves : (w : Vector) → w.0 ≡ v → view after_take ≡ taken (view l) w
  unfolding view list_of taken
  take_leaves w ew =
      let p : (h + c) % 64 < 64 = omega arith in
      let h1 : get_or after_take 64 0 ≡ h =
      get_or-set_other into 65 64 (c + 1) 0 (λ e. omega arith)
      ∙ get_or-set_other l ((h + c) % 64) 64 v 0 (λ e. omega arith)
      ∙ eh in
      let c1 : get_or after_take 65 0 ≡ c + 1 = get_or-set_same into 65 (c + 1) 0 (rw length-set (omega arith)) in
      let s1 : size_of (c + 1) ≡ c + 1 = size_up (c + 1) (omega arith) in
      let s0 : size_of c ≡ c = size_few c few in
      rw (eh, ec, s0, ew)
      (is_list after_take h (c + 1) (record {
        head = h % 64;
        waiting = around l h c ++ (v ∷ []);
        free = drop 1 (around l (h + c) (64 - c));
        head_rest = h / 64;
        count_rest = c - 64;
      }) h1 c1 refl (rw s1 take_waiting) (rw s1 take_free) refl (omega arith))

-- ---- the oldest is delivered

module _ (l : List ℕ) (h c n : ℕ) (len : length l ≡ 66) (eh : get_or l 64 0 ≡ h) (ec : get_or l 65 0 ≡ c) (en : n ≡ size_of c) (some : 0 < n) where
  abbrev out : List ℕ
  out = set l (h % 64) 0

  abbrev moved : List ℕ
  moved = set out 64 ((h % 64 + 1) % 64)

  abbrev after_deliver : List ℕ
  after_deliver = set moved 65 (n - 1)

  same_places : (k m : ℕ) → around after_deliver k m ≡ around out k m
  same_places k m = around_behind moved 65 (n - 1) k m (omega arith) ∙ around_behind out 64 ((h % 64 + 1) % 64) k m (omega arith)

  deliver_waiting : around after_deliver ((h % 64 + 1) % 64) (n - 1) ≡ drop 1 (around l h n)
  deliver_waiting =
      let few : n ≤ 64 = omega (arith, size_le c) in
      let m : n ≡ suc (n - 1) = omega arith in
      let e : h % 64 ≡ (h + 64) % 64 = omega arith in
      same_places ((h % 64 + 1) % 64) (n - 1)
      ∙ around_modulo out ((h % 64 + 1) % 64) (suc h) (n - 1) (next_modulo h)
      ∙ ap (λ (p : ℕ). around (set l p 0) (suc h) (n - 1)) e
      ∙ around_other l (h + 64) 0 (suc h) (n - 1) (omega arith) (omega arith)
      ∙ ap (λ (k : ℕ). drop 1 (around l h k)) (sym m)

  deliver_free : around after_deliver ((h % 64 + 1) % 64 + (n - 1)) (64 - (n - 1)) ≡ around l (h + n) (64 - n) ++ (0 ∷ [])
  deliver_free =
      let few : n ≤ 64 = omega (arith, size_le c) in
      let m : 64 - (n - 1) ≡ 64 - n + 1 = omega arith in
      let e : h % 64 ≡ (h + 64) % 64 = omega arith in
      let f : (h + n + (64 - n)) % 64 ≡ h % 64 = omega arith in
      let g : suc h + (n - 1) ≡ h + n = omega arith in
      let k : ((h % 64 + 1) % 64 + (n - 1)) % 64 ≡ (suc h + (n - 1)) % 64 = add_modulo ((h % 64 + 1) % 64) (suc h) (n - 1) (next_modulo h) in
      let here : get_or out (h % 64) 0 ≡ 0 = get_or-set_same l (h % 64) 0 0 (omega arith) in
      let last : get_or out ((h + n + (64 - n)) % 64) 0 ≡ 0 = ap (λ (k : ℕ). get_or out k 0) f ∙ here in
      same_places ((h % 64 + 1) % 64 + (n - 1)) (64 - (n - 1))
      ∙ ap (around out ((h % 64 + 1) % 64 + (n - 1))) m
      ∙ around_modulo out ((h % 64 + 1) % 64 + (n - 1)) (h + n) (64 - n + 1) (k ∙ ap (λ (x : ℕ). x % 64) g)
      ∙ around_add out (h + n) (64 - n) 1
      ∙ ap (λ (x : ℕ). around out (h + n) (64 - n) ++ (x ∷ [])) last
      ∙ ap (λ (p : ℕ). around (set l p 0) (h + n) (64 - n) ++ (0 ∷ [])) e
      ∙ ap (λ (m : List ℕ). m ++ (0 ∷ [])) (around_other l (h + 64) 0 (h + n) (64 - n) (omega arith) (omega arith))

  pub deliver_leaves : view after_deliver ≡ delivered (view l)
  unfolding view list_of delivered
  deliver_leaves =
      let few : n ≤ 64 = omega (arith, size_le c) in
      let h1 : get_or after_deliver 64 0 ≡ (h % 64 + 1) % 64 =
      get_or-set_other moved 65 64 (n - 1) 0 (λ e. omega arith)
      ∙ get_or-set_same out 64 ((h % 64 + 1) % 64) 0 (rw length-set (omega arith)) in
      let c1 : get_or after_deliver 65 0 ≡ n - 1 = get_or-set_same moved 65 (n - 1) 0 (rw (length-set, length-set) (omega arith)) in
      let s1 : size_of (n - 1) ≡ n - 1 = size_up (n - 1) (omega arith) in
      rw (eh, ec, sym en)
      (is_list after_deliver ((h % 64 + 1) % 64) (n - 1) (record {
        head = (h % 64 + 1) % 64;
        waiting = drop 1 (around l h n);
        free = around l (h + n) (64 - n) ++ (0 ∷ []);
        head_rest = 0;
        count_rest = 0;
      }) h1 c1 (omega arith) (rw s1 deliver_waiting) (rw s1 deliver_free) (omega arith) (omega arith))

-- ---- a gap is closed

pub closed_length : (l : List ℕ) (p m : ℕ) → length (closed l p m) ≡ length l
closed_length l p zero = length-set l (p % 64) 0
closed_length l p (suc m) = closed_length (set l (p % 64) (get_or l (suc p % 64) 0)) (suc p) m ∙ length-set l (p % 64) (get_or l (suc p % 64) 0)

closed_behind : (l : List ℕ) (p m j : ℕ) → 64 ≤ j → get_or (closed l p m) j 0 ≡ get_or l j 0
closed_behind l p zero j b = get_or-set_other l (p % 64) j 0 0 (λ e. omega arith)
closed_behind l p (suc m) j b =
    closed_behind (set l (p % 64) (get_or l (suc p % 64) 0)) (suc p) m j b
    ∙ get_or-set_other l (p % 64) j (get_or l (suc p % 64) 0) 0 (λ e. omega arith)

closed_lap : (l : List ℕ) (p m : ℕ) → closed l (p + 64) m ≡ closed l p m
closed_lap l p zero = let e : (p + 64) % 64 ≡ p % 64 = omega arith in rw e
closed_lap l p (suc m) =
    let e : (p + 64) % 64 ≡ p % 64 = omega arith in
    let f : suc (p + 64) % 64 ≡ suc p % 64 = omega arith in
    let g : suc (p + 64) ≡ suc p + 64 = omega arith in
    rw (e, f, g) (closed_lap (set l (p % 64) (get_or l (suc p % 64) 0)) (suc p) m)

-- the places before it stay
closed_other : (l : List ℕ) (p m h n : ℕ) → h + n ≤ p → p + m < h + 64 → around (closed l p m) h n ≡ around l h n
closed_other l p zero h n a b = around_other l p 0 h n a (omega arith)
closed_other l p (suc m) h n a b =
    closed_other (set l (p % 64) (get_or l (suc p % 64) 0)) (suc p) m h n (omega arith) (omega arith)
    ∙ around_other l p (get_or l (suc p % 64) 0) h n a (omega arith)

-- and those from it on move up
closed_here : (l : List ℕ) (p m : ℕ) → length l ≡ 66 → m < 64 → around (closed l p m) p (suc m) ≡ around l (suc p) m ++ (0 ∷ [])
closed_here l p zero len few = ap (λ (x : ℕ). x ∷ []) (get_or-set_same l (p % 64) 0 0 (omega arith))
closed_here l p (suc m) len few =
    let x : ℕ = get_or l (suc p % 64) 0 in
    let l' : List ℕ = set l (p % 64) x in
    let e : p % 64 ≡ (p + 64) % 64 = omega arith in
    let first : get_or (closed l' (suc p) m) (p % 64) 0 ≡ x =
    ap (λ (a : List ℕ). get_or a 0 0) (closed_other l' (suc p) m p 1 (omega arith) (omega arith))
    ∙ get_or-set_same l (p % 64) x 0 (omega arith) in
    let rest : around l' (suc (suc p)) m ≡ around l (suc (suc p)) m =
    ap (λ (k : ℕ). around (set l k x) (suc (suc p)) m) e
    ∙ around_other l (p + 64) x (suc (suc p)) m (omega arith) (omega arith) in
    let later = closed_here l' (suc p) m (length-set l (p % 64) x ∙ len) (omega arith) in
    rw (first, later, rest) refl

-- ---- the oldest of a vector

pub index_le : (v : ℕ) (l : List ℕ) → index_of v l ≤ length l
index_le v [] = omega arith
index_le v (w ∷ l) = go (eqb w v) (index_le v l)
  where
    go : (b : Bool) → index_of v l ≤ length l → cond b zero (suc (index_of v l)) ≤ suc (length l)
    go true h = omega arith
    go false h = omega arith

pub index_among : (v : ℕ) (l : List ℕ) → among v l ≡ ltb (index_of v l) (length l)
index_among v [] = refl
index_among v (w ∷ l) = go (eqb w v) (index_among v l)
  where
    go : (b : Bool) → among v l ≡ ltb (index_of v l) (length l) → (b || among v l) ≡ ltb (cond b zero (suc (index_of v l))) (suc (length l))
    go true h = sym (lt-ltb zero (suc (length l)) (omega arith))
    go false h = rw compare.suc-suc h

index_removed : (v : ℕ) (l : List ℕ) → index_of v l < length l → removed v l ≡ listN.take (index_of v l) l ++ drop (suc (index_of v l)) l
index_removed v [] h = absurd (omega arith)
index_removed v (w ∷ l) h = go (eqb w v) (λ k. index_removed v l k) h
  where
    go : (b : Bool) → (index_of v l < length l → removed v l ≡ listN.take (index_of v l) l ++ drop (suc (index_of v l)) l) → cond b zero (suc (index_of v l)) < suc (length l)
        → cond b l (w ∷ removed v l) ≡ listN.take (cond b zero (suc (index_of v l))) (w ∷ l) ++ drop (suc (cond b zero (suc (index_of v l)))) (w ∷ l)
    go true e k = refl
    go false e k = ap (λ (m : List ℕ). w ∷ m) (e (omega arith))

module _ (l : List ℕ) (h c n v i : ℕ) (len : length l ≡ 66) (eh : get_or l 64 0 ≡ h) (ec : get_or l 65 0 ≡ c) (en : n ≡ size_of c)
    (ei : i ≡ index_of v (around l h n)) (found : i < n) where
  abbrev behind : ℕ
  behind = n - 1 - i

  abbrev gapless : List ℕ
  gapless = closed l (h + i) behind

  abbrev after_cancel : List ℕ
  after_cancel = set gapless 65 (n - 1)

  shut : around gapless (h + i) (behind + 1) ≡ around l (suc (h + i)) behind ++ (0 ∷ [])
  shut =
      let few : n ≤ 64 = omega (arith, size_le c) in
      let e : behind + 1 ≡ suc behind = omega arith in
      rw e (closed_here l (h + i) behind len (omega arith))

  parts : around gapless (h + i) behind ++ (get_or gapless ((h + i + behind) % 64) 0 ∷ []) ≡ around l (suc (h + i)) behind ++ (0 ∷ [])
  parts = sym (around_add gapless (h + i) behind 1) ∙ shut

  moved_up : around gapless (h + i) behind ≡ around l (suc (h + i)) behind
  moved_up =
      sym (take_at (around gapless (h + i) behind) (get_or gapless ((h + i + behind) % 64) 0 ∷ []) behind (around_length gapless (h + i) behind))
      ∙ ap (listN.take behind) parts
      ∙ take_at (around l (suc (h + i)) behind) (0 ∷ []) behind (around_length l (suc (h + i)) behind)

  cleared : get_or gapless ((h + i + behind) % 64) 0 ≡ 0
  cleared =
      sym (get_or_at (around gapless (h + i) behind) (get_or gapless ((h + i + behind) % 64) 0) [] 0 behind (around_length gapless (h + i) behind))
      ∙ ap (λ (m : List ℕ). get_or m behind 0) parts
      ∙ get_or_at (around l (suc (h + i)) behind) 0 [] 0 behind (around_length l (suc (h + i)) behind)

  -- the vectors that wait, in three parts
  three : around l h n ≡ around l h i ++ around l (h + i) (suc behind)
  three = let e : n ≡ i + suc behind = omega arith in ap (around l h) e ∙ around_add l h i (suc behind)

  without : removed v (around l h n) ≡ around l h i ++ around l (suc (h + i)) behind
  without =
      let e : n ≡ suc i + behind = omega arith in
      let s : h + suc i ≡ suc (h + i) = omega arith in
      let two : around l h n ≡ around l h (suc i) ++ around l (suc (h + i)) behind =
      ap (around l h) e ∙ around_add l h (suc i) behind ∙ ap (λ (k : ℕ). around l h (suc i) ++ around l k behind) s in
      let short : index_of v (around l h n) < length (around l h n) = rw (← ei, around_length) found in
      index_removed v (around l h n) short
      ∙ ap (λ (k : ℕ). listN.take k (around l h n) ++ drop (suc k) (around l h n)) (sym ei)
      ∙ ap (λ (m : List ℕ). m ++ drop (suc i) (around l h n)) (ap (listN.take i) three ∙ take_at (around l h i) (around l (h + i) (suc behind)) i (around_length l h i))
      ∙ ap (λ (m : List ℕ). around l h i ++ m) (ap (drop (suc i)) two ∙ drop_at (around l h (suc i)) (around l (suc (h + i)) behind) (suc i) (around_length l h (suc i)))

  cancel_waiting : around after_cancel h (n - 1) ≡ removed v (around l h n)
  cancel_waiting =
      let few : n ≤ 64 = omega (arith, size_le c) in
      let e : n - 1 ≡ i + behind = omega arith in
      around_behind gapless 65 (n - 1) h (n - 1) (omega arith)
      ∙ ap (around gapless h) e
      ∙ around_add gapless h i behind
      ∙ ap (λ (m : List ℕ). m ++ around gapless (h + i) behind) (closed_other l (h + i) behind h i (omega arith) (omega arith))
      ∙ ap (λ (m : List ℕ). around l h i ++ m) moved_up
      ∙ sym without

  cancel_free : around after_cancel (h + (n - 1)) (64 - (n - 1)) ≡ 0 ∷ around l (h + n) (64 - n)
  cancel_free =
      let few : n ≤ 64 = omega (arith, size_le c) in
      let e : 64 - (n - 1) ≡ suc (64 - n) = omega arith in
      let f : h + (n - 1) ≡ h + i + behind = omega arith in
      let g : suc (h + i + behind) ≡ h + n = omega arith in
      around_behind gapless 65 (n - 1) (h + (n - 1)) (64 - (n - 1)) (omega arith)
      ∙ rw (e, f, cleared, g)
      (ap (λ (m : List ℕ). 0 ∷ m)
      (ap (λ (k : List ℕ). around k (h + n) (64 - n)) (sym (closed_lap l (h + i) behind))
      ∙ closed_other l (h + i + 64) behind (h + n) (64 - n) (omega arith) (omega arith)))

  pub cancel_leaves : (w : Vector) → w.0 ≡ v → view after_cancel ≡ cancelled (view l) w
  unfolding view list_of cancelled
  cancel_leaves w ew =
      let few : n ≤ 64 = omega (arith, size_le c) in
      let h1 : get_or after_cancel 64 0 ≡ h = get_or-set_other gapless 65 64 (n - 1) 0 (λ e. omega arith) ∙ closed_behind l (h + i) behind 64 (omega arith) ∙ eh in
      let c1 : get_or after_cancel 65 0 ≡ n - 1 = get_or-set_same gapless 65 (n - 1) 0 (rw (closed_length, len) (omega arith)) in
      let s1 : size_of (n - 1) ≡ n - 1 = size_up (n - 1) (omega arith) in
      rw (eh, ec, sym en, ew)
      (is_list after_cancel h (n - 1) (record {
        head = h % 64;
        waiting = removed v (around l h n);
        free = 0 ∷ around l (h + n) (64 - n);
        head_rest = h / 64;
        count_rest = 0;
      }) h1 c1 refl (rw s1 cancel_waiting) (rw s1 cancel_free) refl (omega arith))

-- ---- the loops, a turn at a time

pub closing_starts : (l : List ℕ) (p m : ℕ) → Closing l p m l p m
closing_starts l p m = record { same = refl; long = refl; sum = refl }

pub closing_again : (l₀ l : List ℕ) (p₀ m₀ p : ℕ) → p < p₀ + m₀ → Closing l₀ p₀ m₀ l p (p₀ + m₀ - p)
    → Closing l₀ p₀ m₀ (set l (p % 64) (get_or l ((p + 1) % 64) 0)) (p + 1) (p₀ + m₀ - (p + 1))
closing_again l₀ l p₀ m₀ p some i =
    let f : p + 1 ≡ suc p = omega arith in
    let e : p₀ + m₀ - (p + 1) ≡ p₀ + m₀ - suc p = omega arith in
    let g : p₀ + m₀ - p ≡ suc (p₀ + m₀ - suc p) = omega arith in
    record {
      same = ap₂ (λ (q m : ℕ). closed (set l (p % 64) (get_or l (q % 64) 0)) q m) f e ∙ sym (ap (closed l p) g) ∙ i.same;
      long = simp length-set i.long;
      sum = omega (arith, i.sum);
    }

pub closing_ends : (l₀ l : List ℕ) (p₀ m₀ p m : ℕ) → m ≤ 0 → Closing l₀ p₀ m₀ l p m → set l (p % 64) 0 ≡ closed l₀ p₀ m₀
closing_ends l₀ l p₀ m₀ p m none i = let f : m ≡ zero = omega arith in sym (ap (closed l p) f) ∙ i.same

-- the vectors from place k on begin with that place's
from_place : (l : List ℕ) (h n k : ℕ) → k < n → around l (h + k) (n - k) ≡ get_or l ((h + k) % 64) 0 ∷ around l (h + (k + 1)) (n - (k + 1))
from_place l h n k b =
    let e : n - k ≡ suc (n - (k + 1)) = omega arith in
    let f : h + (k + 1) ≡ suc (h + k) = omega arith in
    rw (e, f) refl

pub passing_starts : (l : List ℕ) (h n v : ℕ) → Passed l h n v 0
passing_starts l h n v =
    let e : h + 0 ≡ h = omega arith in
    let f : n - 0 ≡ n = omega arith in
    let g : 0 + index_of v (around l h n) ≡ index_of v (around l h n) = omega arith in
    record { within = omega arith; index = rw (e, f) (sym g) }

pub passing_again : (l : List ℕ) (h n k v : ℕ) → k < n → (get_or l ((h + k) % 64) 0 ≡ v → ⊥) → Passed l h n v k → Passed l h n v (k + 1)
passing_again l h n k v b other i =
    let f : index_of v (around l (h + k) (n - k)) ≡ suc (index_of v (around l (h + (k + 1)) (n - (k + 1)))) =
    ap (index_of v) (from_place l h n k b) ∙ rw (ne_eqb (get_or l ((h + k) % 64) 0) v other) refl in
    record { within = omega arith; index = omega (arith, i.index, f) }

pub passing_finds : (l : List ℕ) (h n k v : ℕ) → k < n → get_or l ((h + k) % 64) 0 ≡ v → Passed l h n v k → k ≡ index_of v (around l h n)
passing_finds l h n k v b here i =
    let f : index_of v (around l (h + k) (n - k)) ≡ zero =
    ap (index_of v) (from_place l h n k b) ∙ rw (eq-eqb (get_or l ((h + k) % 64) 0) v here) refl in
    omega (arith, i.index, f)

pub passing_ends : (l : List ℕ) (h n k v : ℕ) → n ≤ k → Passed l h n v k → n ≡ index_of v (around l h n)
passing_ends l h n k v a i =
    let f : n - k ≡ zero = omega arith in
    let g : index_of v (around l (h + k) (n - k)) ≡ zero = ap (λ (m : ℕ). index_of v (around l (h + k) m)) f in
    omega (arith, i.index, i.within, g)

-- zeros are a new list
pub zeros_new : view (replicate 66 0) ≡ new_list
unfolding view list_of new_list
zeros_new = refl

-- ---- what each call returns

pub full_refused : (l : List ℕ) (w : Vector) → 64 ≤ get_or l 65 0 → outcome_of (view l) (Refused ListFull) ≡ take (view l) w
unfolding view list_of
full_refused l w many =
    let s : size_of (get_or l 65 0) ≡ 64 = size_many (get_or l 65 0) many in
    let e : leb 64 (length (around l (get_or l 64 0) (size_of (get_or l 65 0)))) ≡ true = le-leb 64 (length (around l (get_or l 64 0) (size_of (get_or l 65 0)))) (rw (around_length, s) (omega arith)) in
    rw e refl

pub room_taken : (l : List ℕ) (w : Vector) (h n : ℕ) → length l ≡ 66 → h ≡ get_or l 64 0 → n ≡ get_or l 65 0 → get_or l 65 0 < 64
    → outcome_of (view (set (set l ((h + n) % 64) w.0) 65 (get_or l 65 0 + 1))) Nothing ≡ take (view l) w
unfolding view list_of
room_taken l w h n len eh en few =
    let s : size_of (get_or l 65 0) ≡ get_or l 65 0 = size_few (get_or l 65 0) few in
    let e : leb 64 (length (around l (get_or l 64 0) (size_of (get_or l 65 0)))) ≡ false = lt-leb 64 (length (around l (get_or l 64 0) (size_of (get_or l 65 0)))) (rw (around_length, s) (omega arith)) in
    rw (eh, en, e) (ap (λ (q : Waiting). outcome_of q Nothing) (take_leaves l (get_or l 64 0) (get_or l 65 0) w.0 len refl refl few w refl))

-- by how many wait
empty_if : (l : List ℕ) (h n : ℕ) → n ≡ 0 → is_empty (around l h n) ≡ true
empty_if l h n e = rw e refl

full_if : (l : List ℕ) (h n : ℕ) → (n ≡ 0 → ⊥) → is_empty (around l h n) ≡ false
full_if l h n some = let e : n ≡ suc (n - 1) = omega arith in rw e refl

pub none_delivered : (l : List ℕ) (n : ℕ) → n ≡ size_of (get_or l 65 0) → n ≡ 0 → outcome_of (view l) Nothing ≡ deliver (view l)
unfolding view list_of
none_delivered l n en z = rw (empty_if l (get_or l 64 0) (size_of (get_or l 65 0)) (sym en ∙ z)) refl

oldest_is : (l : List ℕ) (h n : ℕ) → (n ≡ 0 → ⊥) → oldest (around l h n) ≡ One (get_or l (h % 64) 0)
oldest_is l h n some = let e : n ≡ suc (n - 1) = omega arith in rw e refl

delivered_outcome : (l m : List ℕ) (n : ℕ) → n ≡ size_of (get_or l 65 0) → (n ≡ 0 → ⊥) → view m ≡ delivered (view l)
    → outcome_of (view m) (One (get_or l (get_or l 64 0 % 64) 0)) ≡ deliver (view l)
unfolding view list_of
delivered_outcome l m n en some e =
    let some' : size_of (get_or l 65 0) ≡ 0 → ⊥ = λ z. some (en ∙ z) in
    ap (λ (q : Waiting). outcome_of q (One (get_or l (get_or l 64 0 % 64) 0))) e
    ∙ rw (full_if l (get_or l 64 0) (size_of (get_or l 65 0)) some', oldest_is l (get_or l 64 0) (size_of (get_or l 65 0)) some') refl

pub oldest_delivered : (l : List ℕ) (h n : ℕ) → length l ≡ 66 → h ≡ get_or l 64 0 → n ≡ size_of (get_or l 65 0) → (n ≡ 0 → ⊥)
    → outcome_of (view (set (set (set l (h % 64) 0) 64 ((h % 64 + 1) % 64)) 65 (n - 1))) (One (get_or l (h % 64) 0)) ≡ deliver (view l)
oldest_delivered l h n len eh en some = rw eh (delivered_outcome l _ n en some (deliver_leaves l (get_or l 64 0) (get_or l 65 0) n len refl refl en (omega arith)))

pub none_cancelled : (l : List ℕ) (w : Vector) (h n k : ℕ) → h ≡ get_or l 64 0 → n ≡ size_of (get_or l 65 0) → k ≡ index_of w.0 (around l h n) → n ≤ k
    → outcome_of (view l) Nothing ≡ cancel (view l) w
unfolding view list_of
none_cancelled l w h n k eh en ek b =
    let a : among w.0 (around l h n) ≡ false = index_among w.0 (around l h n) ∙ le-ltb (index_of w.0 (around l h n)) (length (around l h n)) (rw around_length (omega arith)) in
    rw (← eh, ← en, a) refl

cancelled_outcome : (l m : List ℕ) (w : Vector) (h n k : ℕ) → h ≡ get_or l 64 0 → n ≡ size_of (get_or l 65 0) → k ≡ index_of w.0 (around l h n) → k < n
    → view m ≡ cancelled (view l) w → outcome_of (view m) (One w.0) ≡ cancel (view l) w
unfolding view list_of
cancelled_outcome l m w h n k eh en ek b e =
    let a : among w.0 (around l h n) ≡ true = index_among w.0 (around l h n) ∙ lt-ltb (index_of w.0 (around l h n)) (length (around l h n)) (rw around_length (omega arith)) in
    ap (λ (q : Waiting). outcome_of q (One w.0)) e ∙ rw (← eh, ← en, a) refl

pub oldest_cancelled : (l m : List ℕ) (w : Vector) (h n k : ℕ) → length l ≡ 66 → h ≡ get_or l 64 0 → n ≡ size_of (get_or l 65 0) → k ≡ index_of w.0 (around l h n) → k < n
    → m ≡ closed l (h + k) (n - 1 - k) → outcome_of (view (set m 65 (n - 1))) (One w.0) ≡ cancel (view l) w
oldest_cancelled l m w h n k len eh en ek b em =
    rw em (cancelled_outcome l _ w h n k eh en ek b (cancel_leaves l h (get_or l 65 0) n w.0 k len (sym eh) refl en ek b w refl))

pub counted : (l : List ℕ) (n : ℕ) → n ≡ size_of (get_or l 65 0) → outcome_of (view l) (One n) ≡ count (view l)
unfolding view list_of
counted l n en = rw (around_length, en) refl

drop_around : (l : List ℕ) (h n k : ℕ) → k ≤ n → drop k (around l h n) ≡ around l (h + k) (n - k)
drop_around l h n k b =
    let e : n ≡ k + (n - k) = omega arith in
    ap (λ (m : ℕ). drop k (around l h m)) e
    ∙ ap (drop k) (around_add l h k (n - k))
    ∙ drop_at (around l h k) (around l (h + k) (n - k)) k (around_length l h k)

pub none_seen : (l : List ℕ) (n k : ℕ) → n ≡ size_of (get_or l 65 0) → n ≤ k → outcome_of (view l) Nothing ≡ peek (view l) k
unfolding view list_of
none_seen l n k en b =
    let e : drop k (around l (get_or l 64 0) n) ≡ [] = drop_of_length-le (around l (get_or l 64 0) n) {i = k} (rw around_length b) in
    rw (← en, e) refl

pub seen : (l : List ℕ) (h n k : ℕ) → h ≡ get_or l 64 0 → n ≡ size_of (get_or l 65 0) → k < n → outcome_of (view l) (One (get_or l ((h + k) % 64) 0)) ≡ peek (view l) k
unfolding view list_of
seen l h n k eh en b =
    let e : drop k (around l h n) ≡ around l (h + k) (n - k) = drop_around l h n k (omega arith) in
    rw (← eh, ← en, e, oldest_is l (h + k) (n - k) (λ z. omega arith)) refl
