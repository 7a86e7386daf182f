-- A refused call has no values, and a reply is known by its number and values. Assumes nothing.
use Rattle.std.proofs.Common.{◌≡◌, ℕ, zero, suc, Bool, true, false, eqb, List, [], ◌∷◌, Option, Some, None, Result, Ok, Err, sym, refl, ap, ◌∙◌, ap₂, arith}
use Rattle.types.specs.declared.Refusal.{Refusal}
use Rattle.types.specs.declared.Refusal.TheVariants.{Unsupported, InvalidRegister, InvalidDelivery, InvalidAddress, OutOfRange, BadField, ScriptTooLong, NoPlan, ListFull, BadImage, TooShort}
use Rattle.types.specs.declared.Reply.{Reply}
use Rattle.types.specs.declared.Reply.TheVariants.{Refused, Nothing, One, Two, Three}
use Rattle.types.specs.declared.Vector.{Vector}
use Rattle.types.specs.Reply.{refusal_number, reply_number, reply_values, flag, done_reply, number_reply, pair_reply, vector_reply, option_reply, result_reply, Outcome, Kept}

pub refused_no_values : (r : Reply) → (reply_number r ≡ 0 → ⊥) → reply_values r ≡ []
refused_no_values (Refused why) h = refl
refused_no_values Nothing h = refl
refused_no_values (One a) h = absurd (h refl)
refused_no_values (Two a b) h = absurd (h refl)
refused_no_values (Three a b c) h = absurd (h refl)

-- words that are as they were are kept
pub kept_same : (l : List ℕ) (r : Reply) → Kept r l l
kept_same l (Refused why) = refl
kept_same l Nothing = tt
kept_same l (One a) = tt
kept_same l (Two a b) = tt
kept_same l (Three a b c) = tt

-- no refusal has the number of a call that is done
pub refused_not_done : (why : Refusal) → refusal_number why ≡ 0 → ⊥
refused_not_done Unsupported e = omega arith
refused_not_done InvalidRegister e = omega arith
refused_not_done InvalidDelivery e = omega arith
refused_not_done InvalidAddress e = omega arith
refused_not_done OutOfRange e = omega arith
refused_not_done BadField e = omega arith
refused_not_done ScriptTooLong e = omega arith
refused_not_done NoPlan e = omega arith
refused_not_done ListFull e = omega arith
refused_not_done BadImage e = omega arith
refused_not_done TooShort e = omega arith

-- the refusal of a number: what can be read back wasn't lost
abbrev refusal_of : ℕ → Refusal
refusal_of zero = Unsupported
refusal_of (suc zero) = Unsupported
refusal_of (suc (suc zero)) = InvalidRegister
refusal_of (suc (suc (suc zero))) = InvalidDelivery
refusal_of (suc (suc (suc (suc zero)))) = InvalidAddress
refusal_of (suc (suc (suc (suc (suc zero))))) = OutOfRange
refusal_of (suc (suc (suc (suc (suc (suc zero)))))) = BadField
refusal_of (suc (suc (suc (suc (suc (suc (suc zero))))))) = ScriptTooLong
refusal_of (suc (suc (suc (suc (suc (suc (suc (suc zero)))))))) = NoPlan
refusal_of (suc (suc (suc (suc (suc (suc (suc (suc (suc zero))))))))) = ListFull
refusal_of (suc (suc (suc (suc (suc (suc (suc (suc (suc (suc zero)))))))))) = BadImage
refusal_of (suc (suc (suc (suc (suc (suc (suc (suc (suc (suc (suc n))))))))))) = TooShort

refusal_back : (r : Refusal) → refusal_of (refusal_number r) ≡ r
refusal_back Unsupported = refl
refusal_back InvalidRegister = refl
refusal_back InvalidDelivery = refl
refusal_back InvalidAddress = refl
refusal_back OutOfRange = refl
refusal_back BadField = refl
refusal_back ScriptTooLong = refl
refusal_back NoPlan = refl
refusal_back ListFull = refl
refusal_back BadImage = refl
refusal_back TooShort = refl

pub refusal_same : (a b : Refusal) → refusal_number a ≡ refusal_number b → a ≡ b
refusal_same a b e = sym (refusal_back a) ∙ ap refusal_of e ∙ refusal_back b

-- and the reply of a number with its values
abbrev reply_of : ℕ → List ℕ → Reply
reply_of zero [] = Nothing
reply_of zero (a ∷ []) = One a
reply_of zero (a ∷ (b ∷ [])) = Two a b
reply_of zero (a ∷ (b ∷ (c ∷ l))) = Three a b c
reply_of (suc n) l = Refused (refusal_of (suc n))

reply_back : (r : Reply) → reply_of (reply_number r) (reply_values r) ≡ r
reply_back (Refused Unsupported) = refl
reply_back (Refused InvalidRegister) = refl
reply_back (Refused InvalidDelivery) = refl
reply_back (Refused InvalidAddress) = refl
reply_back (Refused OutOfRange) = refl
reply_back (Refused BadField) = refl
reply_back (Refused ScriptTooLong) = refl
reply_back (Refused NoPlan) = refl
reply_back (Refused ListFull) = refl
reply_back (Refused BadImage) = refl
reply_back (Refused TooShort) = refl
reply_back Nothing = refl
reply_back (One a) = refl
reply_back (Two a b) = refl
reply_back (Three a b c) = refl

pub reply_same : (a b : Reply) → reply_number a ≡ reply_number b → reply_values a ≡ reply_values b → a ≡ b
reply_same a b n v = sym (reply_back a) ∙ ap₂ reply_of n v ∙ reply_back b

flag_back : (b : Bool) → eqb (flag b) 1 ≡ b
flag_back true = refl
flag_back false = refl

pub flag_same : (a b : Bool) → flag a ≡ flag b → a ≡ b
flag_same a b e = sym (flag_back a) ∙ ap (λ (n : ℕ). eqb n 1) e ∙ flag_back b

-- an answer is known by its reply where its values are: done, a number, two numbers, a vector; nothing beside values that say something; a refusal beside values
-- that say no refusal
pub done_same : (a b : Unit {0}) → done_reply a ≡ done_reply b → a ≡ b
done_same a b e = refl

pub number_same : (a b : ℕ) → number_reply a ≡ number_reply b → a ≡ b
number_same a b e = cc

pub pair_same : (a b : ℕ × ℕ) → pair_reply a ≡ pair_reply b → a ≡ b
pair_same a b e =
    let first : a.0 ≡ b.0 = cc in
    let second : a.1 ≡ b.1 = cc in
    ap₂ (λ (x y : ℕ). (x, y)) first second

abbrev vector_of : ℕ → Vector
vector_of n = record { 0 = n }

pub vector_same : (a b : Vector) → vector_reply a ≡ vector_reply b → a ≡ b
vector_same a b e = ap vector_of (number_same a.0 b.0 e)

pub option_reply_same : {A : Type 0} (f : A → Reply) → ((a b : A) → f a ≡ f b → a ≡ b) → ((a : A) → f a ≡ Nothing → ⊥)
    → (a b : Option A) → option_reply f a ≡ option_reply f b → a ≡ b
option_reply_same f same some (Some a) (Some b) e = ap Some (same a b e)
option_reply_same f same some (Some a) None e = absurd (some a e)
option_reply_same f same some None (Some b) e = absurd (some b (sym e))
option_reply_same f same some None None e = refl

pub result_reply_same : {A : Type 0} (f : A → Reply) → ((a b : A) → f a ≡ f b → a ≡ b) → ((a : A) (why : Refusal) → f a ≡ Refused why → ⊥)
    → (a b : Result A Refusal) → result_reply f a ≡ result_reply f b → a ≡ b
result_reply_same f same done (Ok a) (Ok b) e = ap Ok (same a b e)
result_reply_same f same done (Ok a) (Err why) e = absurd (done a why e)
result_reply_same f same done (Err why) (Ok b) e = absurd (done b why (sym e))
result_reply_same f same done (Err why) (Err why') e = cc

-- no value is a refusal, and a number or a vector is something
pub done_done : (a : Unit {0}) (why : Refusal) → done_reply a ≡ Refused why → ⊥
done_done a why e = let z : ◌≡◌ {A = ℕ} 0 1 = cc in omega (arith, z)

pub number_done : (a : ℕ) (why : Refusal) → number_reply a ≡ Refused why → ⊥
number_done a why e = let z : ◌≡◌ {A = ℕ} 0 1 = cc in omega (arith, z)

pub pair_done : (a : ℕ × ℕ) (why : Refusal) → pair_reply a ≡ Refused why → ⊥
pair_done a why e = let z : ◌≡◌ {A = ℕ} 0 1 = cc in omega (arith, z)

pub vector_done : (a : Vector) (why : Refusal) → vector_reply a ≡ Refused why → ⊥
vector_done a why e = let z : ◌≡◌ {A = ℕ} 0 1 = cc in omega (arith, z)

pub number_some : (a : ℕ) → number_reply a ≡ Nothing → ⊥
number_some a e = let z : ◌≡◌ {A = ℕ} 0 1 = cc in omega (arith, z)

pub vector_some : (a : Vector) → vector_reply a ≡ Nothing → ⊥
vector_some a e = let z : ◌≡◌ {A = ℕ} 0 1 = cc in omega (arith, z)

pub option_done : {A : Type 0} (f : A → Reply) → ((a : A) (why : Refusal) → f a ≡ Refused why → ⊥)
    → (a : Option A) (why : Refusal) → option_reply f a ≡ Refused why → ⊥
option_done f done (Some a) why e = done a why e
option_done f done None why e = let z : ◌≡◌ {A = ℕ} 0 1 = cc in omega (arith, z)

-- a result is a state and an answer: it is known by its outcome where the answer is known by its reply
pub outcome_same : {S A : Type 0} (rep : A → Reply) → ((a b : A) → rep a ≡ rep b → a ≡ b) → (s t : S) (a b : A)
    → ◌≡◌ {A = Outcome S} (record { state = s; reply = rep a }) (record { state = t; reply = rep b }) → (s ≡ t) × (a ≡ b)
outcome_same {S} {A} rep same s t a b e = (ap (λ (o : Outcome S). o.state) e, same a b (ap (λ (o : Outcome S). o.reply) e))
