-- One step of the search for the highest vector from `lowest` up, word by word and bit by bit. Assumes nothing.
use mathlib.Core.Path.{◌≡◌, refl, sym, ap, ◌∙◌}
use mathlib.Core.Bool.{Bool, true, false, ◌&&◌}
use mathlib.Core.List.{List}
use Prim.Native.Nat.{ℕ, zero, suc, ◌+◌, ◌*◌, ◌/◌, ◌%◌, ◌≤◌, ◌<◌}
use native.Mathlib.Omega.{arith}
use native.Mathlib.Numerals.{add-one}
use lib.Dec.{leb}
use lib.ListN.{get_or}
use borrow.Author.Tests.{le-leb, lt-leb}
use Rattle.utils.specs.Set.{bit, last}
use Rattle.utils.proofs.Laws.{bit_none}
use Rattle.utils.proofs.Search.{last_none}
use Rattle.vlapic_regs.specs.Vectors.{in_words, highest_from}

-- the search's test
abbrev pub served : ℕ → List ℕ → ℕ → Bool
served lowest words v = leb lowest v && in_words words v

-- the answer is the highest of the vectors below n: those are still to be searched
pub record Left (lowest : ℕ) (words : List ℕ) (n : ℕ) : Type 0 where
  pub rest : highest_from lowest words ≡ last n (served lowest words)

pub start : (lowest : ℕ) (words : List ℕ) → Left lowest words (8 * 32)
unfolding highest_from
start lowest words = record { rest = refl }

pub moved : {lowest : ℕ} {words : List ℕ} {n m : ℕ} → Left lowest words n → n ≡ m → Left lowest words m
moved {lowest} {words} l e = record { rest = l.rest ∙ ap (λ (k : ℕ). last k (served lowest words)) e }

served_at : (lowest : ℕ) (words : List ℕ) (w b : ℕ) → lowest ≤ w * 32 + b → b < 32 → served lowest words (w * 32 + b) ≡ bit (get_or words w 0) b
served_at lowest words w b hw hb =
    let q : (w * 32 + b) / 32 ≡ w = omega arith in
    let r : (w * 32 + b) % 32 ≡ b = omega arith in
    rw (le-leb lowest (w * 32 + b) hw, q, r)

step : (p : ℕ → Bool) (n m : ℕ) → m ≡ n + 1 → p n ≡ false → last m p ≡ last n p
step p n m e h = rw (e, add-one n, h)

hit : (p : ℕ → Bool) (n m : ℕ) → m ≡ n + 1 → p n ≡ true → last m p ≡ n
hit p n m e h = rw (e, add-one n, h)

-- bit b of word w is looked at: passed, or found
module _ {lowest : ℕ} (words : List ℕ) (w b : ℕ) {n : ℕ} (l : Left lowest words n) (e : n ≡ w * 32 + b + 1) (hw : lowest ≤ w * 32 + b) (hb : b < 32) where
  pub passed : bit (get_or words w 0) b ≡ false → Left lowest words (w * 32 + b)
  passed h = record { rest = l.rest ∙ step (served lowest words) (w * 32 + b) n e (served_at lowest words w b hw hb ∙ h) }

  pub found : bit (get_or words w 0) b ≡ true → w * 32 + b ≡ highest_from lowest words
  found h = sym (l.rest ∙ hit (served lowest words) (w * 32 + b) n e (served_at lowest words w b hw hb ∙ h))

-- an empty word has none
none_of : {lowest : ℕ} (words : List ℕ) (w b : ℕ) {n : ℕ} → Left lowest words n → n ≡ w * 32 + b → lowest ≤ w * 32 → b ≤ 32 → get_or words w 0 ≡ 0 → Left lowest words (w * 32)
none_of words w zero l e hw hb h = moved l (omega arith)
none_of words w (suc b) l e hw hb h =
    none_of words w b
    (passed words w b l (omega (arith, add-one b)) (omega arith) (omega arith) (rw h (bit_none b)))
    refl hw (omega arith) h

pub empty : {lowest : ℕ} (words : List ℕ) (w : ℕ) {n : ℕ} → Left lowest words n → n ≡ w * 32 + 32 → lowest ≤ w * 32 → get_or words w 0 ≡ 0 → Left lowest words (w * 32)
empty words w l e hw h = none_of words w 32 l e hw (omega arith) h

-- what is below `lowest` is not searched
pub ended : {lowest : ℕ} (words : List ℕ) {n : ℕ} → Left lowest words n → n ≤ lowest → 0 ≡ highest_from lowest words
ended {lowest} words {n} l h = sym (l.rest ∙ last_none n (served lowest words) (λ k q. rw (lt-leb lowest k (omega arith))))
