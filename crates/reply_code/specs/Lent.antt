-- A chip's state in words that a caller lends, and its answers as one number each: what the boundaries of the three chips share, and the planner's.
use Rattle.std.specs.Prelude.{ℕ, ◌+◌, ◌*◌, ◌/◌, ◌%◌, ◌^◌, ◌<◌, Bool, not, cond, List, [], ◌∷◌, ◌≡◌, eqb}
use Rattle.types.specs.Reply.{refusal_number, Outcome}
use Rattle.types.specs.declared.Refusal.{Refusal}
use Rattle.types.specs.declared.Reply.{Reply}
use Rattle.types.specs.declared.Reply.TheVariants.{Refused, Nothing, One, Two, Three}

-- the refusal's number from bit 56, the count of values from bit 48; one value in 32 bits, two in 24 bits each or three in 16 bits each, the first lowest
abbrev pub reply_code : Reply → ℕ
reply_code (Refused why) = refusal_number why * 2 ^ 56
reply_code Nothing = 0
reply_code (One a) = 1 * 2 ^ 48 + a % 2 ^ 32
reply_code (Two a b) = 2 * 2 ^ 48 + b % 2 ^ 24 * 2 ^ 24 + a % 2 ^ 24
reply_code (Three a b c) = 3 * 2 ^ 48 + c % 2 ^ 16 * 2 ^ 32 + b % 2 ^ 16 * 2 ^ 16 + a % 2 ^ 16

-- how a caller reads a code: 0 where the call was done or the number of its refusal, and the values
abbrev pub code_number : ℕ → ℕ
code_number c = c / 2 ^ 56

abbrev pub code_count : ℕ → ℕ
code_count c = c / 2 ^ 48 % 2 ^ 8

abbrev pub code_values : ℕ → List ℕ
code_values c =
    cond (eqb (code_count c) 1) (c % 2 ^ 32 ∷ [])
    (cond (eqb (code_count c) 2) (c % 2 ^ 24 ∷ c / 2 ^ 24 % 2 ^ 24 ∷ [])
    (cond (eqb (code_count c) 3) (c % 2 ^ 16 ∷ c / 2 ^ 16 % 2 ^ 16 ∷ c / 2 ^ 32 % 2 ^ 16 ∷ [])
    []))

-- a reply that its code holds whole
abbrev pub Fits : Reply → Type 0
Fits (Refused why) = Unit
Fits Nothing = Unit
Fits (One a) = a < 2 ^ 32
Fits (Two a b) = (a < 2 ^ 24) × (b < 2 ^ 24)
Fits (Three a b c) = (a < 2 ^ 16) × (b < 2 ^ 16) × (c < 2 ^ 16)

-- a flag that comes in as a number: any number but 0 is up
abbrev pub is_up : ℕ → Bool
is_up n = not (eqb n 0)

-- what a call over lent words leaves: the words after it, and its answer's code. Every promise of an exported call is an equation of these
pub record Lent : Type 0 where
  pub words : List ℕ
  pub code : ℕ

abbrev pub lent : List ℕ → ℕ → Lent
lent l c = record { words = l; code = c }

-- a refused call leaves the words as they were
abbrev pub refusing : List ℕ → Refusal → Lent
refusing l why = record { words = l; code = reply_code (Refused why) }

-- a call that only reads
abbrev pub answering : List ℕ → Reply → Lent
answering l r = record { words = l; code = reply_code r }

-- the words after a call, viewed as a state, and its code are those of an outcome of the chip
abbrev pub Shows : {S : Type 0} → (List ℕ → S) → Lent → Outcome S → Type 0
Shows view c o = (view c.words ≡ o.state) × (c.code ≡ reply_code o.reply)
