-- Nothing is lost, and the oldest comes first. Assumes nothing.
use Prim.Native.Nat.{ℕ, suc, ◌+◌}
use mathlib.Core.Bool.{Bool, true, false, cond, ◌||◌}
use mathlib.Core.List.{List, [], ◌∷◌, ◌++◌, append_assoc, append-nil}
use mathlib.Core.Path.{◌≡◌, refl, sym, ap, ◌∙◌}
use native.Mathlib.Omega.{arith}
use lib.Dec.{eqb}
use lib.ListN.{length, take, drop, length-append}
use lib.Seq.{take_at, drop_at}
use Rattle.types.specs.declared.VcpuId.{VcpuId}
use Rattle.waiting.specs.Waiting.{among, removed}
use Rattle.waiting_claims.specs.Claims.{Host}
use Rattle.waiting_theorems.specs.Calls.{Call, outcome, run, mine, in_by, out_by, off_by, taken, delivered, cancelled, Cancellation, each, joined, cancellations, less, waiting_for}
use Rattle.waiting_theorems.specs.Statements.{Conserved, InOrder, OldestFirst, FirstInFirstOut}
use Rattle.waiting_theorems.proofs.Steps.{Stepped, stays, grows, gives, drops, step}

-- ---- by number

removed_length : (v : ℕ) (l : List ℕ) → among v l ≡ true → length (removed v l) + 1 ≡ length l
removed_length v [] e = absurd (let z : ◌≡◌ {A = ℕ} 0 1 = cc in omega arith)
removed_length v (w ∷ l) e = go (eqb w v) (λ h. removed_length v l h) e
  where
    go : (b : Bool) → (among v l ≡ true → length (removed v l) + 1 ≡ length l) → (b || among v l) ≡ true → length (cond b l (w ∷ removed v l)) + 1 ≡ suc (length l)
    go true r d = omega arith
    go false r d = let n = r d in omega arith

counted : (w w' ins outs offs : List ℕ) → Stepped w w' ins outs offs → length w + length ins ≡ length outs + length offs + length w'
counted w w' ins outs offs (stays a b c d) = rw (a, b, c, d) (omega arith)
counted w w' ins outs offs (grows v a b c d) = rw (a, b, c, d, length-append) (omega arith)
counted w w' ins outs offs (gives v a b c d) = rw (a, b, c, d) (omega arith)
counted w w' ins outs offs (drops v e a b c d) = rw (a, b, c, d) (omega (arith, removed_length v w e))

pub conserved : Conserved
conserved k h [] = omega arith
conserved k h (c ∷ cs) =
    let rest = conserved k (outcome h c).state cs in
    let now = counted _ _ _ _ _ (step k h c) in
    let i = length-append (mine k c (in_by c (outcome h c).reply)) (taken k (outcome h c).state cs) in
    let o = length-append (mine k c (out_by c (outcome h c).reply)) (delivered k (outcome h c).state cs) in
    let f = length-append (mine k c (off_by c (outcome h c).reply)) (cancelled k (outcome h c).state cs) in
    omega (arith, rest, now, i, o, f)

-- ---- in order

removed_append : (v : ℕ) (l m : List ℕ) → among v l ≡ true → removed v (l ++ m) ≡ removed v l ++ m
removed_append v [] m e = absurd (let z : ◌≡◌ {A = ℕ} 0 1 = cc in omega arith)
removed_append v (w ∷ l) m e = go (eqb w v) (λ h. removed_append v l m h) e
  where
    go : (b : Bool) → (among v l ≡ true → removed v (l ++ m) ≡ removed v l ++ m) → (b || among v l) ≡ true
        → cond b (l ++ m) (w ∷ removed v (l ++ m)) ≡ cond b l (w ∷ removed v l) ++ m
    go true r d = refl
    go false r d = ap (λ (x : List ℕ). w ∷ x) (r d)

Behind : List ℕ → List ℕ → List ℕ → List ℕ → (ℕ → List Cancellation) → Type 0
Behind d we w t cs = (p : List ℕ) (n : ℕ) → length p ≡ n → p ++ (d ++ we) ≡ less (p ++ (w ++ t)) (cs n)

ordered : (w w' ins outs offs : List ℕ) → Stepped w w' ins outs offs → (d we t : List ℕ) (cs : ℕ → List Cancellation) → Behind d we w' t cs
    → Behind (outs ++ d) we w (ins ++ t) (λ n. joined (each n offs) (cs (n + length outs)))
unfolding Behind
ordered w w' ins outs offs (stays a b c e) d we t cs rest p n len =
    let z : n + 0 ≡ n = omega arith in
    rw (b, c, e, z, ← a) (rest p n len)
ordered w w' ins outs offs (grows v a b c e) d we t cs rest p n len =
    let z : n + 0 ≡ n = omega arith in
    rw (b, c, e, z) (rest p n len ∙ ap (λ (x : List ℕ). less (p ++ x) (cs n)) (ap (λ (x : List ℕ). x ++ t) a ∙ append_assoc w (v ∷ []) t))
ordered w w' ins outs offs (gives v a b c e) d we t cs rest p n len =
    let more : length (p ++ (v ∷ [])) ≡ n + 1 = rw length-append (omega arith) in
    rw (a, b, c, e)
    (sym (append_assoc p (v ∷ []) (d ++ we)) ∙ rest (p ++ (v ∷ [])) (n + 1) more ∙ ap (λ (x : List ℕ). less x (cs (n + 1))) (append_assoc p (v ∷ []) (w' ++ t)))
ordered w w' ins outs offs (drops v m a b c e) d we t cs rest p n len =
    let z : n + 0 ≡ n = omega arith in
    let x : take n (p ++ (w ++ t)) ≡ p = take_at p (w ++ t) n len in
    let y : drop n (p ++ (w ++ t)) ≡ w ++ t = drop_at p (w ++ t) n len in
    rw (b, c, e, z, x, y, removed_append v w t m) (rest p n len ∙ ap (λ (x : List ℕ). less (p ++ (x ++ t)) (cs n)) a)

behind : (k : VcpuId) (h : Host) (cs : List Call) → Behind (delivered k h cs) (waiting_for k (run h cs)) (waiting_for k h) (taken k h cs) (λ n. cancellations k n h cs)
unfolding Behind
behind k h [] = λ p n len. ap (λ (x : List ℕ). p ++ x) (sym (append-nil (waiting_for k h)))
behind k h (c ∷ cs) =
    ordered _ _ _ _ _ (step k h c) (delivered k (outcome h c).state cs) (waiting_for k (run (outcome h c).state cs)) (taken k (outcome h c).state cs)
    (λ n. cancellations k n (outcome h c).state cs) (behind k (outcome h c).state cs)

pub in_order_lem : InOrder
unfolding Behind
in_order_lem k h cs = behind k h cs [] 0 refl

pub oldest_first : OldestFirst
oldest_first k h cs =
    sym (take_at (delivered k h cs) (waiting_for k (run h cs)) (length (delivered k h cs)) refl) ∙ ap (take (length (delivered k h cs))) (in_order_lem k h cs)

-- ---- without cancellations

left_nil : (a b : List ℕ) → a ++ b ≡ [] → a ≡ []
left_nil [] b e = refl
left_nil (x ∷ a) b e = absurd (let z : ◌≡◌ {A = ℕ} 0 1 = cc in omega arith)

right_nil : (a b : List ℕ) → a ++ b ≡ [] → b ≡ []
right_nil [] b e = e
right_nil (x ∷ a) b e = absurd (let z : ◌≡◌ {A = ℕ} 0 1 = cc in omega arith)

no_cancellations : (k : VcpuId) (n : ℕ) (h : Host) (cs : List Call) → cancelled k h cs ≡ [] → cancellations k n h cs ≡ []
no_cancellations k n h [] e = refl
no_cancellations k n h (c ∷ cs) e =
    let a = left_nil (mine k c (off_by c (outcome h c).reply)) (cancelled k (outcome h c).state cs) e in
    let b = right_nil (mine k c (off_by c (outcome h c).reply)) (cancelled k (outcome h c).state cs) e in
    rw a (no_cancellations k (n + length (mine k c (out_by c (outcome h c).reply))) (outcome h c).state cs b)

pub first_in_first_out : FirstInFirstOut
first_in_first_out k h cs e = in_order_lem k h cs ∙ ap (less (waiting_for k h ++ taken k h cs)) (no_cancellations k 0 h cs e)
