-- Refusals and replies in the numbers of documents 01, "Refusal numbers", and 02: 0 for a call that is done, its values, and a number for each reason to refuse.
use Rattle.std.specs.Prelude.{◌≡◌, ℕ, Bool, true, false, List, [], ◌∷◌, Option, Some, None, Result, Ok, Err}
use Rattle.types.specs.declared.Refusal.{Refusal}
use Rattle.types.specs.declared.Refusal.TheVariants.{Unsupported, InvalidRegister, InvalidDelivery, InvalidAddress, OutOfRange, BadField, ScriptTooLong, NoPlan, ListFull, BadImage, TooShort}
use Rattle.types.specs.declared.Reply.{Reply}
use Rattle.types.specs.declared.Reply.TheVariants.{Refused, Nothing, One, Two, Three}
use Rattle.types.specs.declared.Vector.{Vector}

-- 1 width or port, 2 local register, 3 delivery, 4 address, 5 id, count or line, 6 script field, 7 script too long, 8 no plan, 9 waiting list full, 10 image, 11 lent buffer too short
abbrev pub refusal_number : Refusal → ℕ
refusal_number Unsupported = 1
refusal_number InvalidRegister = 2
refusal_number InvalidDelivery = 3
refusal_number InvalidAddress = 4
refusal_number OutOfRange = 5
refusal_number BadField = 6
refusal_number ScriptTooLong = 7
refusal_number NoPlan = 8
refusal_number ListFull = 9
refusal_number BadImage = 10
refusal_number TooShort = 11

abbrev pub reply_number : Reply → ℕ
reply_number (Refused why) = refusal_number why
reply_number Nothing = 0
reply_number (One a) = 0
reply_number (Two a b) = 0
reply_number (Three a b c) = 0

abbrev pub reply_values : Reply → List ℕ
reply_values (Refused why) = []
reply_values Nothing = []
reply_values (One a) = a ∷ []
reply_values (Two a b) = a ∷ b ∷ []
reply_values (Three a b c) = a ∷ b ∷ c ∷ []

-- a flag as one of an answer's values
abbrev pub flag : Bool → ℕ
flag true = 1
flag false = 0

-- the reply of each kind of answer: done, a number, two numbers, a vector
abbrev pub done_reply : Unit {0} → Reply
done_reply _ = Nothing

abbrev pub number_reply : ℕ → Reply
number_reply n = One n

abbrev pub pair_reply : ℕ × ℕ → Reply
pair_reply pair = Two pair.0 pair.1

abbrev pub vector_reply : Vector → Reply
vector_reply v = One v.0

-- nothing, or what the value says
abbrev pub option_reply : {A : Type 0} → (A → Reply) → Option A → Reply
option_reply f (Some a) = f a
option_reply f None = Nothing

-- the refusal, or what the value says
abbrev pub result_reply : {A : Type 0} → (A → Reply) → Result A Refusal → Reply
result_reply f (Ok a) = f a
result_reply f (Err why) = Refused why

-- what a call leaves: the complete state after it, and its reply. Every promise of a public call is an equation of outcomes
pub record Outcome (S : Type 0) : Type 0 where
  pub state : S
  pub reply : Reply

abbrev pub outcome_of : {S : Type 0} → S → Reply → Outcome S
outcome_of s r = record { state = s; reply = r }

-- of a call in place: where its reply is a refusal, the words after it are those in `kept`
abbrev pub Kept : Reply → List ℕ → List ℕ → Type 0
Kept (Refused why) kept after = after ≡ kept
Kept Nothing kept after = Unit
Kept (One a) kept after = Unit
Kept (Two a b) kept after = Unit
Kept (Three a b c) kept after = Unit
