-- The words, viewed as registers, move as the registers' definitions say. Assumes nothing.
use Prim.Native.Nat.{ℕ, zero, suc, ◌+◌, ◌*◌, ◌/◌, ◌%◌, ◌^◌, ◌≤◌, ◌<◌}
use native.Mathlib.Nat.{mod-lt, mod-eq_of_lt}
use native.Mathlib.Omega.{arith}
use mathlib.Core.Bool.{Bool, true, false, not, cond}
use mathlib.Core.List.{List, [], ◌∷◌, ◌++◌}
use mathlib.Core.Logic.{◌⊎◌, inl, inr, ⊎_elim}
use mathlib.Core.Path.{◌≡◌, refl, sym, ap, ◌∙◌}
use lib.Dec.{eqb, leb, ltb}
use lib.ListN.{length, get_or, set, replicate, get_or-append}
use lib.Seq.{get_or-set_same, get_or-set_other}
use borrow.Author.Tests.{ltb-true, ltb-false, eqb-true, eqb-false, ne_eqb}
use Rattle.utils.specs.Set.{marked}
use Rattle.utils.specs.Vectors.{class_of}
use Rattle.utils.proofs.Marked.{marked_lt}
use Rattle.types.specs.Reply.{flag}
use Rattle.vlapic_regs.specs.Vectors.{with_vector, without_vector}
use Rattle.vlapic_regs.specs.Register.{priority}
use Rattle.vlapic.specs.declared.VirtualApicRegs.{VirtualApicRegs}
use Rattle.vlapic.specs.Regs.{start, with_word, with_isr, with_tmr}
use Rattle.vlapic.specs.Priority.{update_ppr}
use Rattle.vlapic_words.specs.Words.{word, eight, view}
use Rattle.vlapic_words.specs.Calls.{Storable, Stored}
use Rattle.vlapic_words.specs.Steps.{six_of, registers_at_reset, start_words, served, marked_in, ranked}
use Rattle.vlapic_words.proofs.Runs.{at_from, from_other, from_set}

pub cut_small : (x : ℕ) → x % 2 ^ 32 < 2 ^ 32
cut_small x = mod-lt x (omega arith)

-- ---- registers by their words

abbrev pub of : Bool → (ℕ → ℕ) → List ℕ → List ℕ → List ℕ → VirtualApicRegs
of x w isr tmr irr = record {
  x2apic = x;
  vapic_id = w 1;
  tpr = w 2;
  ppr = w 3;
  ldr = w 4;
  dfr = w 5;
  svr = w 6;
  esr = w 7;
  esr_pending = w 8;
  icr_lo = w 9;
  icr_hi = w 10;
  lvt_cmci = w 11;
  lvt_timer = w 12;
  lvt_thermal = w 13;
  lvt_pmi = w 14;
  lvt_lint0 = w 15;
  lvt_lint1 = w 16;
  lvt_error = w 17;
  isr = isr;
  tmr = tmr;
  irr = irr;
}

-- of a function the values below 18
abbrev low : (ℕ → ℕ) → ℕ → ℕ
low w k = cond (ltb k 18) (w k) 0

low_same : (v w : ℕ → ℕ) → ((k : ℕ) → k < 18 → v k ≡ w k) → (k : ℕ) → low v k ≡ low w k
low_same v w h k = go (ltb k 18) refl
  where
    go : (b : Bool) → ltb k 18 ≡ b → cond b (v k) 0 ≡ cond b (w k) 0
    go true e = h k (ltb-true k 18 e)
    go false e = refl

pub view_of : (m : List ℕ) (x : Bool) (w : ℕ → ℕ) (isr tmr irr : List ℕ)
    → not (eqb (get_or m 0 0) 0) ≡ x
    → ((k : ℕ) → k < 18 → word m k ≡ w k)
    → eight m 18 ≡ isr
    → eight m 26 ≡ tmr
    → eight m 34 ≡ irr
    → view m ≡ of x w isr tmr irr
unfolding view
view_of m x w isr tmr irr p q r s t = λ i. of (p i) (λ (k : ℕ). low_same (word m) w q k i) (r i) (s i) (t i)

-- ---- a word stored

word_set : (l : List ℕ) (k j x : ℕ) → k < length l → x < 2 ^ 32 → word (set l k x) j ≡ cond (eqb k j) x (word l j)
word_set l k j x n h = go (eqb k j) refl
  where
    go : (b : Bool) → eqb k j ≡ b → word (set l k x) j ≡ cond b x (word l j)
    go true e =
        let q : j ≡ k = sym (eqb-true k j e) in
        rw (q, get_or-set_same l k x 0 n) (mod-eq_of_lt h)
    go false e = ap (λ (a : ℕ). a % 2 ^ 32) (get_or-set_other l k j x 0 (λ q. eqb-false k j e (sym q)))

module _ (l : List ℕ) (n : length l ≡ 48) where
  pub put_view : (k x : ℕ) → 1 ≤ k → k < 18 → x < 2 ^ 32 → view (set l k x) ≡ with_word (view l) k x
  unfolding view
  put_view k x a b h =
      view_of (set l k x) (not (eqb (get_or l 0 0) 0)) (λ j. cond (eqb k j) x (word l j)) (eight l 18) (eight l 26) (eight l 34)
      (ap (λ (y : ℕ). not (eqb y 0)) (get_or-set_other l k 0 x 0 (λ q. omega arith)))
      (λ j q. word_set l k j x (omega arith) h)
      (from_other l 18 8 k x (inl (omega arith)))
      (from_other l 26 8 k x (inl (omega arith)))
      (from_other l 34 8 k x (inl (omega arith)))

  -- a word of ISR, and of TMR
  module _ (i x : ℕ) (b : i < 8) (h : x < 2 ^ 32) where
    isr_view : view (set l (18 + i) x) ≡ with_isr (view l) (set (view l).isr i x)
    unfolding view
    isr_view =
        view_of (set l (18 + i) x) (not (eqb (get_or l 0 0) 0)) (word l) (set (eight l 18) i x) (eight l 26) (eight l 34)
        (ap (λ (y : ℕ). not (eqb y 0)) (get_or-set_other l (18 + i) 0 x 0 (λ q. omega arith)))
        (λ j q. ap (λ (y : ℕ). y % 2 ^ 32) (get_or-set_other l (18 + i) j x 0 (λ e. omega arith)))
        (from_set l 18 8 i (18 + i) x refl b (omega arith) h)
        (from_other l 26 8 (18 + i) x (inl (omega arith)))
        (from_other l 34 8 (18 + i) x (inl (omega arith)))

    tmr_view : view (set l (26 + i) x) ≡ with_tmr (view l) (set (view l).tmr i x)
    unfolding view
    tmr_view =
        view_of (set l (26 + i) x) (not (eqb (get_or l 0 0) 0)) (word l) (eight l 18) (set (eight l 26) i x) (eight l 34)
        (ap (λ (y : ℕ). not (eqb y 0)) (get_or-set_other l (26 + i) 0 x 0 (λ q. omega arith)))
        (λ j q. ap (λ (y : ℕ). y % 2 ^ 32) (get_or-set_other l (26 + i) j x 0 (λ e. omega arith)))
        (from_other l 18 8 (26 + i) x (inr (omega arith)))
        (from_set l 26 8 i (26 + i) x refl b (omega arith) h)
        (from_other l 34 8 (26 + i) x (inl (omega arith)))

-- ---- vectors

-- vector v up or down in eight words
abbrev pub moved : List ℕ → ℕ → Bool → List ℕ
moved words v up = cond up (with_vector words v) (without_vector words v)

moved_is : (words : List ℕ) (v : ℕ) (up : Bool) → set words (v / 32) (marked (get_or words (v / 32) 0) (v % 32) up) ≡ moved words v up
moved_is words v true = refl
moved_is words v false = refl

module _ (l : List ℕ) (n : length l ≡ 48) (v : ℕ) (up : Bool) (h : v < 256) where
  here : (base : ℕ) → get_or (eight l base) (v / 32) 0 ≡ word l (base + v / 32)
  here base = at_from l base 8 (v / 32) (base + v / 32) refl (omega arith)

  small : (base : ℕ) → marked (word l (base + v / 32)) (v % 32) up < 2 ^ 32
  small base = marked_lt 32 (word l (base + v / 32)) (v % 32) up (cut_small (get_or l (base + v / 32) 0)) (mod-lt v (omega arith))

  pub mark_isr : view (marked_in l 18 v up) ≡ with_isr (view l) (moved (view l).isr v up)
  unfolding view
  mark_isr =
      isr_view l n (v / 32) (marked (word l (18 + v / 32)) (v % 32) up) (omega arith) (small 18)
      ∙ ap (with_isr (view l)) (ap (λ (x : ℕ). set (eight l 18) (v / 32) (marked x (v % 32) up)) (sym (here 18)) ∙ moved_is (eight l 18) v up)

  pub mark_tmr : view (marked_in l 26 v up) ≡ with_tmr (view l) (moved (view l).tmr v up)
  unfolding view
  mark_tmr =
      tmr_view l n (v / 32) (marked (word l (26 + v / 32)) (v % 32) up) (omega arith) (small 26)
      ∙ ap (with_tmr (view l)) (ap (λ (x : ℕ). set (eight l 26) (v / 32) (marked x (v % 32) up)) (sym (here 26)) ∙ moved_is (eight l 26) v up)

-- PPR after it
pub priority_small : (tpr v : ℕ) → tpr < 2 ^ 32 → priority tpr v < 2 ^ 32
unfolding priority
priority_small tpr v h = go (leb (class_of v) (class_of tpr))
  where
    go : (b : Bool) → cond b tpr (class_of v * 16) < 2 ^ 32
    go true = h
    go false = omega arith

pub rank_view : (l : List ℕ) → length l ≡ 48 → view (ranked l) ≡ update_ppr (view l)
unfolding view update_ppr
rank_view l n = put_view l n 3 (priority (word l 2) (served l)) (omega arith) (omega arith) (priority_small (word l 2) (served l) (cut_small (get_or l 2 0)))

-- ---- what is stored

pub stored_set : (l : List ℕ) (k x : ℕ) → length l ≡ 48 → (1 ≤ k) × (k < 42) → x < 2 ^ 32 → Stored l (set l k x)
stored_set l k x n h b j q = go (eqb j k) refl
  where
    at_k : 1 ≤ k → k < 42 → Storable k (get_or (set l k x) k 0)
    at_k low high = (high, rw (get_or-set_same l k x 0 (omega arith), ne_eqb k 0 (λ z. omega arith)) b)

    go : (c : Bool) → eqb j k ≡ c → (get_or (set l k x) j 0 ≡ get_or l j 0) ⊎ Storable j (get_or (set l k x) j 0)
    go true e = inr (rw (eqb-true j k e) (at_k h.0 h.1))
    go false e = inl (get_or-set_other l k j x 0 (eqb-false j k e))

pub stored_then : (l m k : List ℕ) → Stored l m → Stored m k → Stored l k
stored_then l m k p q j b =
    ⊎_elim (λ e. ⊎_elim (λ f. inl (e ∙ f)) (λ f. inr (f.0, rw e f.1)) (p j b)) (λ f. inr f) (q j b)

-- ---- a reset

flag_up : (b : Bool) → not (eqb (flag b) 0) ≡ b
flag_up true = refl
flag_up false = refl

pub start_view : (x2apic : Bool) (id : ℕ) (spare : List ℕ) → id < 2 ^ 32 → view (start_words x2apic id spare) ≡ start x2apic id
unfolding view
start_view x2apic id spare h =
    let e : id % 2 ^ 32 ≡ id = mod-eq_of_lt h in
    λ i. of (flag_up x2apic i) (λ (k : ℕ). cond (eqb k 1) (e i) (word (start_words x2apic id spare) k)) (start x2apic id).isr (start x2apic id).tmr (start x2apic id).irr

-- one of the six
module _ (P : ℕ → Type 0) (k : ℕ) where
  at : (n : ℕ) → P n → ((k ≡ n → ⊥) → P k) → P k
  at n p rest = go (eqb k n) refl
    where
      go : (b : Bool) → eqb k n ≡ b → P k
      go true e = rw (eqb-true k n e) p
      go false e = rest (eqb-false k n e)

  six : P 42 → P 43 → P 44 → P 45 → P 46 → P 47 → 42 ≤ k → k < 48 → P k
  six a b c d e f l h = at 42 a (λ p. at 43 b (λ q. at 44 c (λ r. at 45 d (λ s. at 46 e (λ t. at 47 f (λ u. absurd (omega arith)))))))

-- words of 32 bits
abbrev Small : List ℕ → Type 0
Small [] = Unit
Small (x ∷ xs) = (x < 2 ^ 32) × Small xs

small_at : (xs : List ℕ) → Small xs → (k : ℕ) → get_or xs k 0 < 2 ^ 32
small_at [] h k = omega arith
small_at (x ∷ xs) h zero = h.0
small_at (x ∷ xs) h (suc k) = small_at xs h.1 k

small_run : (n x : ℕ) (xs : List ℕ) → x < 2 ^ 32 → Small xs → Small (replicate n x ++ xs)
small_run zero x xs h t = t
small_run (suc n) x xs h t = (h, small_run n x xs h t)

small_flag : (b : Bool) → flag b < 2
small_flag true = omega arith
small_flag false = omega arith

pub start_small : (x2apic : Bool) (id : ℕ) (spare : List ℕ) → id < 2 ^ 32 → (k : ℕ) → k < 42 → get_or (start_words x2apic id spare) k 0 < 2 ^ 32
start_small x2apic id spare h k b =
    let z : 0 < 2 ^ 32 = omega arith in
    let masked = small_run 7 0x10000 (replicate 24 0) (omega arith) (small_run 24 0 [] z tt) in
    rw (get_or-append (registers_at_reset x2apic id) (six_of spare) 0 k b)
    (small_at (registers_at_reset x2apic id) (omega (arith, small_flag x2apic), (h, (z, (z, (z, (omega arith, (omega arith, (z, (z, (z, (z, masked))))))))))) k)

-- the spare words of l stay
abbrev pub spare_of : List ℕ → List ℕ
spare_of l = get_or l 42 0 ∷ get_or l 43 0 ∷ get_or l 44 0 ∷ get_or l 45 0 ∷ get_or l 46 0 ∷ get_or l 47 0 ∷ []

pub start_stored : (x2apic : Bool) (id : ℕ) (l : List ℕ) → id < 2 ^ 32 → Stored l (start_words x2apic id (spare_of l))
start_stored x2apic id l h k b = go (ltb k 42) refl
  where
    small : k < 42 → (c : Bool) → eqb k 0 ≡ c → get_or (start_words x2apic id (spare_of l)) k 0 < cond c 2 (2 ^ 32)
    small q true e = rw (eqb-true k 0 e) (small_flag x2apic)
    small q false e = start_small x2apic id (spare_of l) h k q

    go : (c : Bool) → ltb k 42 ≡ c → (get_or (start_words x2apic id (spare_of l)) k 0 ≡ get_or l k 0) ⊎ Storable k (get_or (start_words x2apic id (spare_of l)) k 0)
    go true e = inr (ltb-true k 42 e, small (ltb-true k 42 e) (eqb k 0) refl)
    go false e = inl (six (λ (j : ℕ). get_or (start_words x2apic id (spare_of l)) j 0 ≡ get_or l j 0) k refl refl refl refl refl refl (ltb-false k 42 e) b)

pub new_spare : (x2apic : Bool) (id k : ℕ) → 42 ≤ k → k < 48 → get_or (start_words x2apic id (0 ∷ 0 ∷ 0 ∷ 0 ∷ 0 ∷ 0 ∷ [])) k 0 ≡ 0
new_spare x2apic id k = six (λ (j : ℕ). get_or (start_words x2apic id (0 ∷ 0 ∷ 0 ∷ 0 ∷ 0 ∷ 0 ∷ [])) j 0 ≡ 0) k refl refl refl refl refl refl
