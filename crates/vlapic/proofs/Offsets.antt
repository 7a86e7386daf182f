-- An offset that is none of a table's: what the last arm of a `match` knows, as the definitions' tables say it. Assumes nothing.
use mathlib.Core.Path.{◌≡◌, refl}
use mathlib.Core.List.{List, [], ◌∷◌}
use Prim.Native.Nat.{ℕ}
use borrow.Author.Tests.{ne_eqb}
use Rattle.types.specs.declared.Refusal.TheVariants.{InvalidRegister}
use Rattle.types.specs.declared.Reply.TheVariants.{Refused}
use Rattle.types.specs.Reply.{Outcome}
use Rattle.vlapic.specs.declared.VirtualApicRegs.{VirtualApicRegs}
use Rattle.vlapic.specs.Answers.{refused}
use Rattle.vlapic.specs.Registers.{word_at, outcome_at}

-- none of the keys
abbrev pub Apart : ℕ → List ℕ → Type 0
Apart o [] = Unit
Apart o (k ∷ ks) = (o ≡ k → ⊥) × Apart o ks

-- the last arm's knowledge, the last key first
abbrev pub Rest : ℕ → List ℕ → Type 0
Rest o [] = Unit
Rest o (k ∷ ks) = Rest o ks × (o ≡ k → ⊥)

-- the keys in the order of the source
abbrev pub onto : List ℕ → List ℕ → List ℕ
onto [] ls = ls
onto (k ∷ ks) ls = onto ks (k ∷ ls)

pub apart : (o : ℕ) (ks ls : List ℕ) → Rest o ks → Apart o ls → Apart o (onto ks ls)
apart o [] ls h g = g
apart o (k ∷ ks) ls h g = apart o ks (k ∷ ls) h.0 (h.1, g)

abbrev pub keys : {A : Type 0} → List (ℕ × A) → List ℕ
keys [] = []
keys (r ∷ rs) = r.0 ∷ keys rs

pub no_word : (o : ℕ) (rs : List (ℕ × ℕ)) → Apart o (keys rs) → word_at rs o ≡ Refused InvalidRegister
no_word o [] h = refl
no_word o (r ∷ rs) h = rw (ne_eqb o r.0 h.0) (no_word o rs h.1)

pub no_register : (s : VirtualApicRegs) (o : ℕ) (rs : List (ℕ × Outcome VirtualApicRegs)) → Apart o (keys rs) → outcome_at s rs o ≡ refused s InvalidRegister
no_register s o [] h = refl
no_register s o (r ∷ rs) h = rw (ne_eqb o r.0 h.0) (no_register s o rs h.1)
