-- Laws about the lists of a host's vCPUs. Assumes nothing.
use Prim.Native.Nat.{ℕ, zero, suc, ◌+◌, ◌-◌, ◌*◌, ◌/◌, ◌≤◌, ◌<◌}
use mathlib.Core.Bool.{Bool, true, false, cond}
use mathlib.Core.List.{List, ◌∷◌, ◌++◌, append_assoc}
use mathlib.Core.Path.{◌≡◌, refl, sym, ap, ◌∙◌}
use native.Mathlib.Omega.{arith}
use lib.Dec.{ltb}
use lib.ListN.{length, get_or, take, drop, set, length-drop}
use lib.Seq.{take_at, drop_at, take-add, drop-drop, length-take-le}
use borrow.Rule.Slice.PartMut.{put_mid, same_len_mid, mid_len, Post-is, drop_put, put_same}
use borrow.Author.Tests.{lt-ltb, ltb-true, ltb-false}
use Rattle.std.proofs.Common.{Result, Ok, Err}
use Rattle.types.specs.declared.Refusal.{Refusal}
use Rattle.types.specs.declared.Refusal.TheVariants.{OutOfRange}
use Rattle.types.specs.declared.Reply.{Reply}
use Rattle.types.specs.declared.Reply.TheVariants.{Refused}
use Rattle.types.specs.declared.VcpuId.{VcpuId}
use Rattle.types.specs.Reply.{Outcome, outcome_of}
use Rattle.waiting.specs.Waiting.{Waiting, view, new_list}
use Rattle.waiting.specs.Lists.{Lists, vcpus_in, lists_from, lists_in, known_in, list_at, with_list, on_list}
use Rattle.waiting.specs.Steps.{start_in}

pub vcpus_fit : (n : ℕ) → vcpus_in n * 66 ≤ n
vcpus_fit n = go (ltb (n / 66) 64) refl
  where
    go : (b : Bool) → ltb (n / 66) 64 ≡ b → cond b (n / 66) 64 * 66 ≤ n
    go true e = omega arith
    go false e = omega (arith, ltb-false (n / 66) 64 e)

-- a vCPU's list ends within the bytes
pub list_ends : (k n : ℕ) → k < vcpus_in n → k * 66 + 66 ≤ n
list_ends k n b = omega (arith, vcpus_fit n)

pub vcpus_le : (n : ℕ) → vcpus_in n ≤ 64
vcpus_le n = go (ltb (n / 66) 64) refl
  where
    go : (b : Bool) → ltb (n / 66) 64 ≡ b → cond b (n / 66) 64 ≤ 64
    go true e = omega (arith, ltb-true (n / 66) 64 e)
    go false e = omega arith

pub lists_length : (n : ℕ) (l : List ℕ) → length (lists_from n l) ≡ n
lists_length zero l = refl
lists_length (suc n) l = ap suc (lists_length n (drop 66 l))

pub lists_at : (n k : ℕ) (l : List ℕ) (d : Waiting) → k < n → get_or (lists_from n l) k d ≡ view (take 66 (drop (k * 66) l))
lists_at zero k l d b = absurd (omega arith)
lists_at (suc n) zero l d b = refl
lists_at (suc n) (suc k) l d b =
    let e : suc k * 66 ≡ 66 + k * 66 = omega arith in
    lists_at n k (drop 66 l) d (omega arith) ∙ ap (λ (m : List ℕ). view (take 66 m)) (drop-drop (k * 66) 66 l ∙ ap (λ (j : ℕ). drop j l) (sym e))

-- l with b in the place of its k-th list
spliced : ℕ → List ℕ → List ℕ → List ℕ
spliced k l b = take (k * 66) l ++ (b ++ drop (k * 66 + 66) l)

spliced_next : (k : ℕ) (l b : List ℕ) → spliced (suc k) l b ≡ take 66 l ++ spliced k (drop 66 l) b
unfolding spliced
spliced_next k l b =
    let e : suc k * 66 ≡ 66 + k * 66 = omega arith in
    let f : suc k * 66 + 66 ≡ 66 + (k * 66 + 66) = omega arith in
    ap (λ (j : ℕ). take j l ++ (b ++ drop (suc k * 66 + 66) l)) e
    ∙ ap (λ (j : ℕ). take (66 + k * 66) l ++ (b ++ drop j l)) f
    ∙ ap (λ (m : List ℕ). m ++ (b ++ drop (66 + (k * 66 + 66)) l)) (take-add 66 (k * 66) l)
    ∙ append_assoc (take 66 l) (take (k * 66) (drop 66 l)) (b ++ drop (66 + (k * 66 + 66)) l)
    ∙ ap (λ (m : List ℕ). take 66 l ++ (take (k * 66) (drop 66 l) ++ (b ++ m))) (sym (drop-drop (k * 66 + 66) 66 l))

lists_put : (n k : ℕ) (l b : List ℕ) → k < n → length b ≡ 66 → k * 66 + 66 ≤ length l → lists_from n (spliced k l b) ≡ set (lists_from n l) k (view b)
unfolding spliced
lists_put zero k l b h len fits = absurd (omega arith)
lists_put (suc n) zero l b h len fits =
    ap (λ (m : List ℕ). view m ∷ lists_from n (drop 66 (b ++ drop 66 l))) (take_at b (drop 66 l) 66 len)
    ∙ ap (λ (m : List ℕ). view b ∷ lists_from n m) (drop_at b (drop 66 l) 66 len)
lists_put (suc n) (suc k) l b h len fits =
    let long : length (take 66 l) ≡ 66 = length-take-le 66 l (omega arith) in
    let rest : k * 66 + 66 ≤ length (drop 66 l) = rw length-drop (omega arith) in
    ap (lists_from (suc n)) (spliced_next k l b)
    ∙ ap (λ (m : List ℕ). view m ∷ lists_from n (drop 66 (take 66 l ++ spliced k (drop 66 l) b))) (take_at (take 66 l) (spliced k (drop 66 l) b) 66 long)
    ∙ ap (λ (m : List ℕ). view (take 66 l) ∷ lists_from n m) (drop_at (take 66 l) (spliced k (drop 66 l) b) 66 long ∙ refl)
    ∙ ap (λ (m : List Waiting). view (take 66 l) ∷ m) (lists_put n k (drop 66 l) b (omega arith) len rest)

-- the part that was lent is put back
put_is : (k : ℕ) (l b : List ℕ) → put_mid (k * 66) (k * 66 + 66 - k * 66) l b ≡ spliced k l b
unfolding spliced
put_is k l b = ap (λ (m : List ℕ). take (k * 66) l ++ (b ++ m)) (Post-is (k * 66) (k * 66 + 66) l (omega arith))

module _ (l b : List ℕ) (k : ℕ) (known : k < vcpus_in (length l)) (len : length b ≡ 66) where
  abbrev put : List ℕ
  put = put_mid (k * 66) (k * 66 + 66 - k * 66) l b

  put_long : length put ≡ length l
  put_long =
      let fits : k * 66 + 66 ≤ length l = list_ends k (length l) known in
      let e : k * 66 + 66 - k * 66 ≡ 66 = omega arith in
      same_len_mid (k * 66) (k * 66 + 66 - k * 66) l b (len ∙ sym e ∙ sym (mid_len (k * 66) (k * 66 + 66) l fits))

  put_rest : drop (vcpus_in (length l) * 66) put ≡ drop (vcpus_in (length l) * 66) l
  put_rest =
      let fits : k * 66 + 66 ≤ length l = list_ends k (length l) known in
      let e : vcpus_in (length l) * 66 ≡ k * 66 + 66 + (vcpus_in (length l) * 66 - (k * 66 + 66)) = omega arith in
      ap (λ (j : ℕ). drop j put) e
      ∙ sym (drop-drop (vcpus_in (length l) * 66 - (k * 66 + 66)) (k * 66 + 66) put)
      ∙ ap (drop (vcpus_in (length l) * 66 - (k * 66 + 66))) (drop_put (k * 66) (k * 66 + 66) l b (omega arith) fits (omega arith))
      ∙ drop-drop (vcpus_in (length l) * 66 - (k * 66 + 66)) (k * 66 + 66) l
      ∙ ap (λ (j : ℕ). drop j l) (sym e)

  put_lists : lists_in put ≡ with_list (lists_in l) (record { 0 = k }) (view b)
  unfolding lists_in
  put_lists =
      let fits : k * 66 + 66 ≤ length l = list_ends k (length l) known in
      let x : lists_from (vcpus_in (length l)) put ≡ set (lists_from (vcpus_in (length l)) l) k (view b) =
      ap (lists_from (vcpus_in (length l))) (put_is k l b) ∙ lists_put (vcpus_in (length l)) k l b known len fits in
      rw put_long (λ i. record { lists = x i; rest = put_rest i })

list_of : (l : List ℕ) (id : VcpuId) → id.0 < vcpus_in (length l) → list_at (lists_in l) id ≡ view (take (id.0 * 66 + 66 - id.0 * 66) (drop (id.0 * 66) l))
unfolding lists_in
list_of l id known =
    let e : 66 ≡ id.0 * 66 + 66 - id.0 * 66 = omega arith in
    lists_at (vcpus_in (length l)) id.0 l new_list known ∙ ap (λ (j : ℕ). view (take j (drop (id.0 * 66) l))) e

known_is : (l : List ℕ) (id : VcpuId) → known_in (lists_in l) id ≡ ltb id.0 (vcpus_in (length l))
unfolding lists_in
known_is l id = ap (ltb id.0) (lists_length (vcpus_in (length l)) l)

pub is_known : (l : List ℕ) (id : VcpuId) (v : ℕ) → v ≡ vcpus_in (length l) → ltb id.0 v ≡ known_in (lists_in l) id
is_known l id v e = ap (ltb id.0) e ∙ sym (known_is l id)

-- no list starts for an unknown vCPU, and a known one's is its own
pub no_start : (l : List ℕ) (id : VcpuId) (why : Refusal) (f : Waiting → Outcome Waiting) → Err why ≡ start_in (length l) id → outcome_of (lists_in l) (Refused why) ≡ on_list (lists_in l) id f
unfolding on_list
no_start l id why f e = rw (known_is l id) (go (ltb id.0 (vcpus_in (length l))) e)
  where
    go : (b : Bool) → Err why ≡ cond b (Ok (id.0 * 66)) (Err OutOfRange) → outcome_of (lists_in l) (Refused why)
        ≡ cond b (outcome_of (with_list (lists_in l) id (f (list_at (lists_in l) id)).state) (f (list_at (lists_in l) id)).reply) (outcome_of (lists_in l) (Refused OutOfRange))
    go true q = let z : ◌≡◌ {A = ℕ} 0 1 = cc in absurd (omega (arith, z))
    go false q = let same : why ≡ OutOfRange = cc in rw same refl

own_start : (n : ℕ) (id : VcpuId) (s : ℕ) → Ok s ≡ start_in n id → (s ≡ id.0 * 66) × (id.0 < vcpus_in n)
own_start n id s e = go (ltb id.0 (vcpus_in n)) refl e
  where
    go : (b : Bool) → ltb id.0 (vcpus_in n) ≡ b → ◌≡◌ {A = Result ℕ Refusal} (Ok s) (cond b (Ok (id.0 * 66)) (Err OutOfRange)) → (s ≡ id.0 * 66) × (id.0 < vcpus_in n)
    go true t q = let same : s ≡ id.0 * 66 = cc in (same, ltb-true id.0 (vcpus_in n) t)
    go false t q = let z : ◌≡◌ {A = ℕ} 0 1 = cc in absurd (omega (arith, z))

put_onto : (l b : List ℕ) (id : VcpuId) (s : ℕ) (f : Waiting → Outcome Waiting) (r : Reply) → s ≡ id.0 * 66 → id.0 < vcpus_in (length l) → length b ≡ 66
    → outcome_of (view b) r ≡ f (view (take (s + 66 - s) (drop s l))) → outcome_of (lists_in (put_mid s (s + 66 - s) l b)) r ≡ on_list (lists_in l) id f
unfolding on_list
put_onto l b id s f r es known len e =
    let t : known_in (lists_in l) id ≡ true = known_is l id ∙ lt-ltb id.0 (vcpus_in (length l)) known in
    let g : outcome_of (view b) r ≡ f (list_at (lists_in l) id) =
    e ∙ ap (λ (j : ℕ). f (view (take (j + 66 - j) (drop j l)))) es ∙ ap f (sym (list_of l id known)) in
    let x : view b ≡ (f (list_at (lists_in l) id)).state = ap (λ (o : Outcome Waiting). o.state) g in
    let y : r ≡ (f (list_at (lists_in l) id)).reply = ap (λ (o : Outcome Waiting). o.reply) g in
    rw (t, es) (ap (λ (p : Lists). outcome_of p r) (put_lists l b id.0 known len) ∙ (λ i. outcome_of (with_list (lists_in l) id (x i)) (y i)))

pub onto_list : (l b : List ℕ) (id : VcpuId) (s : ℕ) (f : Waiting → Outcome Waiting) (r : Reply) → Ok s ≡ start_in (length l) id → length b ≡ 66
    → outcome_of (view b) r ≡ f (view (take (s + 66 - s) (drop s l))) → outcome_of (lists_in (put_mid s (s + 66 - s) l b)) r ≡ on_list (lists_in l) id f
onto_list l b id s f r h len e = let k = own_start (length l) id s h in put_onto l b id s f r k.0 k.1 len e

-- the same of a list that is only read
pub of_list : (l : List ℕ) (id : VcpuId) (s : ℕ) (f : Waiting → Outcome Waiting) (r : Reply) → Ok s ≡ start_in (length l) id
    → outcome_of (view (take (s + 66 - s) (drop s l))) r ≡ f (view (take (s + 66 - s) (drop s l))) → outcome_of (lists_in l) r ≡ on_list (lists_in l) id f
of_list l id s f r h e =
    let k = own_start (length l) id s h in
    let fits : s + 66 ≤ length l = omega (arith, k.0, list_ends id.0 (length l) k.1) in
    let n : s + 66 - s ≡ 66 = omega arith in
    let long : length (take (s + 66 - s) (drop s l)) ≡ 66 = mid_len s (s + 66) l fits ∙ n in
    ap (λ (m : List ℕ). outcome_of (lists_in m) r) (sym (put_same s (s + 66 - s) l))
    ∙ put_onto l (take (s + 66 - s) (drop s l)) id s f r k.0 k.1 long e
