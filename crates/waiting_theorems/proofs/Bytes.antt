-- The lists say what every byte is. Assumes nothing.
use Prim.Native.Nat.{ℕ, zero, suc, ◌+◌, ◌-◌, ◌*◌, ◌/◌, ◌%◌, ◌≤◌, ◌<◌}
use mathlib.Core.Bool.{Bool, true, false, cond}
use mathlib.Core.List.{List, ◌++◌}
use mathlib.Core.Logic.{◌⊎◌, inl, inr, ⊎_elim}
use mathlib.Core.Path.{◌≡◌, refl, sym, ap, ◌∙◌}
use native.Mathlib.Omega.{arith}
use lib.Dec.{ltb}
use lib.ListN.{length, get_or, take, drop, length-drop, take-append-drop}
use lib.Seq.{ext_get_or, drop-drop, length-take-le}
use borrow.Author.Tests.{ltb-true, ltb-false}
use Rattle.waiting.specs.Waiting.{Waiting, around, size_of, list_of, view, new_list}
use Rattle.waiting.specs.Lists.{Lists, vcpus_in, lists_from, lists_in}
use Rattle.waiting.proofs.Ring.{around_length, around_add, size_le}
use Rattle.waiting.proofs.Lists.{vcpus_fit}
use Rattle.waiting_theorems.specs.Statements.{SameBytes, RefusedKeepsBytes}
use Rattle.waiting_theorems.proofs.Refused.{refused_keeps_lists}

-- ---- one list

around_at : (l : List ℕ) (h n i : ℕ) → i < n → get_or (around l h n) i 0 ≡ get_or l ((h + i) % 64) 0
around_at l h zero i b = absurd (omega arith)
around_at l h (suc n) zero b = let e : h + 0 ≡ h = omega arith in rw e refl
around_at l h (suc n) (suc i) b = let e : suc h + i ≡ h + suc i = omega arith in around_at l (suc h) n i (omega arith) ∙ ap (λ (k : ℕ). get_or l (k % 64) 0) e

size_back : (c : ℕ) → c ≡ c - 64 + size_of c
size_back c = go (ltb c 64) refl
  where
    go : (b : Bool) → ltb c 64 ≡ b → c ≡ c - 64 + cond b c 64
    go true e = omega (arith, ltb-true c 64 e)
    go false e = omega (arith, ltb-false c 64 e)

below_or : (j : ℕ) → (j < 64) ⊎ (64 ≤ j)
below_or j = go (ltb j 64) refl
  where
    go : (b : Bool) → ltb j 64 ≡ b → (j < 64) ⊎ (64 ≤ j)
    go true e = inl (ltb-true j 64 e)
    go false e = inr (omega (arith, ltb-false j 64 e))

last : (j : ℕ) → 64 ≤ j → j < 66 → (j ≡ 64) ⊎ (j ≡ 65)
last j a b = go (ltb j 65) refl
  where
    go : (c : Bool) → ltb j 65 ≡ c → (j ≡ 64) ⊎ (j ≡ 65)
    go true e = inl (omega (arith, ltb-true j 65 e))
    go false e = inr (omega (arith, ltb-false j 65 e))

-- the place p is so many behind the head h
behind : ℕ → ℕ → ℕ
behind h p = (p + 64 - h % 64) % 64

behind_lt : (h p : ℕ) → behind h p < 64
unfolding behind
behind_lt h p = omega arith

turned : (h p : ℕ) → p < 64 → (h + behind h p) % 64 ≡ p
unfolding behind
turned h p b = go (h % 64) refl
  where
    go : (r : ℕ) → h % 64 ≡ r → (h + (p + 64 - r) % 64) % 64 ≡ p
    go r e = let f : r < 64 = omega arith in omega arith

module _ (l m : List ℕ) (ll : length l ≡ 66) (lm : length m ≡ 66) (e : view l ≡ view m) where
  abbrev h : ℕ
  h = get_or l 64 0

  abbrev k : ℕ
  k = get_or m 64 0

  abbrev n : ℕ
  n = size_of (get_or l 65 0)

  abbrev n' : ℕ
  n' = size_of (get_or m 65 0)

  same_head : h ≡ k
  unfolding view list_of
  same_head =
      let a : h % 64 ≡ k % 64 = ap (λ (q : Waiting). q.head) e in
      let b : h / 64 ≡ k / 64 = ap (λ (q : Waiting). q.head_rest) e in
      omega (arith, a, b)

  same_size : n ≡ n'
  unfolding view list_of
  same_size = sym (around_length l h n) ∙ ap (λ (q : Waiting). length q.waiting) e ∙ around_length m k n'

  same_count : get_or l 65 0 ≡ get_or m 65 0
  unfolding view list_of
  same_count =
      let a : get_or l 65 0 - 64 ≡ get_or m 65 0 - 64 = ap (λ (q : Waiting). q.count_rest) e in
      omega (arith, a, same_size, size_back (get_or l 65 0), size_back (get_or m 65 0))

  whole : (x : List ℕ) (j c : ℕ) → around x j 64 ≡ around x j (size_of c) ++ around x (j + size_of c) (64 - size_of c)
  whole x j c = let f : 64 ≡ size_of c + (64 - size_of c) = omega (arith, size_le c) in ap (around x j) f ∙ around_add x j (size_of c) (64 - size_of c)

  same_ring : around l h 64 ≡ around m k 64
  unfolding view list_of
  same_ring = whole l h (get_or l 65 0) ∙ ap (λ (q : Waiting). q.waiting ++ q.free) e ∙ sym (whole m k (get_or m 65 0))

  same_place : (p : ℕ) → p < 64 → get_or l p 0 ≡ get_or m p 0
  same_place p b =
      let i : behind h p < 64 = behind_lt h p in
      ap (λ (j : ℕ). get_or l j 0) (sym (turned h p b))
      ∙ sym (around_at l h 64 (behind h p) i)
      ∙ ap (λ (x : List ℕ). get_or x (behind h p) 0) same_ring
      ∙ around_at m k 64 (behind h p) i
      ∙ ap (λ (j : ℕ). get_or m ((j + behind h p) % 64) 0) (sym same_head)
      ∙ ap (λ (j : ℕ). get_or m j 0) (turned h p b)

  one_same : l ≡ m
  one_same = ext_get_or 0 l m (ll ∙ sym lm) at
    where
      at : (j : ℕ) → j < length l → get_or l j 0 ≡ get_or m j 0
      at j b =
          ⊎_elim (same_place j)
          (λ (w : 64 ≤ j). ⊎_elim (λ (f : j ≡ 64). rw f same_head) (λ (f : j ≡ 65). rw f same_count) (last j w (omega arith)))
          (below_or j)

-- ---- all of them

many_same : (n : ℕ) (l m : List ℕ) → length l ≡ length m → n * 66 ≤ length l → lists_from n l ≡ lists_from n m → drop (n * 66) l ≡ drop (n * 66) m → l ≡ m
many_same zero l m len fits e rest = rest
many_same (suc n) l m len fits e rest =
    let a : take 66 l ≡ take 66 m =
    one_same (take 66 l) (take 66 m) (length-take-le 66 l (omega arith)) (length-take-le 66 m (omega arith)) (ap (λ (x : List Waiting). get_or x 0 new_list) e) in
    let f : suc n * 66 ≡ 66 + n * 66 = omega arith in
    let r : drop (n * 66) (drop 66 l) ≡ drop (n * 66) (drop 66 m) =
    drop-drop (n * 66) 66 l ∙ ap (λ (j : ℕ). drop j l) (sym f) ∙ rest ∙ ap (λ (j : ℕ). drop j m) f ∙ sym (drop-drop (n * 66) 66 m) in
    let b : drop 66 l ≡ drop 66 m =
    many_same n (drop 66 l) (drop 66 m) (rw (length-drop, length-drop) (omega arith)) (rw length-drop (omega arith)) (ap (drop 1) e) r in
    sym (take-append-drop 66 l) ∙ (λ i. a i ++ b i) ∙ take-append-drop 66 m

pub same_bytes : SameBytes
unfolding lists_in
same_bytes l m len e =
    let x : lists_from (vcpus_in (length l)) l ≡ lists_from (vcpus_in (length l)) m =
    ap (λ (s : Lists). s.lists) e ∙ ap (λ (j : ℕ). lists_from (vcpus_in j) m) (sym len) in
    let y : drop (vcpus_in (length l) * 66) l ≡ drop (vcpus_in (length l) * 66) m = ap (λ (s : Lists). s.rest) e ∙ ap (λ (j : ℕ). drop (vcpus_in j * 66) m) (sym len) in
    many_same (vcpus_in (length l)) l m len (vcpus_fit (length l)) x y

pub refused_keeps_bytes : RefusedKeepsBytes
refused_keeps_bytes l m p c len e r = same_bytes m l (sym len) (e ∙ refused_keeps_lists (record { lists = lists_in l; pair = p }) c r)
