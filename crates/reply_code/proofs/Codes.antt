-- A code is read back: number and values are the reply's, so that two replies with one code are the same. Assumes nothing.
use Prim.Native.Nat.{ℕ, ◌+◌, ◌*◌, ◌/◌, ◌%◌, ◌^◌, ◌<◌}
use native.Mathlib.Omega.{arith}
use mathlib.Core.List.{List, [], ◌∷◌}
use mathlib.Core.Path.{◌≡◌, refl, sym, ap, ap₂, ◌∙◌}
use Rattle.types.proofs.Replies.{reply_same}
use Rattle.types.specs.Reply.{reply_number, reply_values, Outcome}
use Rattle.types.specs.declared.Refusal.TheVariants.{Unsupported, InvalidRegister, InvalidDelivery, InvalidAddress, OutOfRange, BadField, ScriptTooLong, NoPlan, ListFull, BadImage, TooShort}
use Rattle.types.specs.declared.Reply.{Reply}
use Rattle.types.specs.declared.Reply.TheVariants.{Refused, Nothing, One, Two, Three}
use Rattle.reply_code.specs.Lent.{reply_code, code_number, code_count, code_values, Fits, Lent, Shows}

pub code_number_lem : (r : Reply) → code_number (reply_code r) ≡ reply_number r
code_number_lem (Refused Unsupported) = refl
code_number_lem (Refused InvalidRegister) = refl
code_number_lem (Refused InvalidDelivery) = refl
code_number_lem (Refused InvalidAddress) = refl
code_number_lem (Refused OutOfRange) = refl
code_number_lem (Refused BadField) = refl
code_number_lem (Refused ScriptTooLong) = refl
code_number_lem (Refused NoPlan) = refl
code_number_lem (Refused ListFull) = refl
code_number_lem (Refused BadImage) = refl
code_number_lem (Refused TooShort) = refl
code_number_lem Nothing = refl
code_number_lem (One a) = omega arith
code_number_lem (Two a b) = omega arith
code_number_lem (Three a b c) = omega arith

one_values : (c a : ℕ) → c ≡ 1 * 2 ^ 48 + a → a < 2 ^ 32 → code_values c ≡ a ∷ []
one_values c a e h =
    let n : code_count c ≡ 1 = omega arith in
    let x : c % 2 ^ 32 ≡ a = omega arith in
    rw (n, x)

two_values : (c a b : ℕ) → c ≡ 2 * 2 ^ 48 + b * 2 ^ 24 + a → a < 2 ^ 24 → b < 2 ^ 24 → code_values c ≡ a ∷ b ∷ []
two_values c a b e h k =
    let q : c / 2 ^ 48 ≡ 2 = omega arith in
    let n : code_count c ≡ 2 = rw q in
    let p : c / 2 ^ 24 ≡ 2 * 2 ^ 24 + b = omega arith in
    let x : c % 2 ^ 24 ≡ a = omega (arith, p) in
    let m : c / 2 ^ 24 / 2 ^ 24 ≡ 2 = omega (arith, p) in
    let y : c / 2 ^ 24 % 2 ^ 24 ≡ b = omega (arith, p, m) in
    rw (n, x, y)

three_values : (c a b d : ℕ) → c ≡ 3 * 2 ^ 48 + d * 2 ^ 32 + b * 2 ^ 16 + a → a < 2 ^ 16 → b < 2 ^ 16 → d < 2 ^ 16 → code_values c ≡ a ∷ b ∷ d ∷ []
three_values c a b d e h k l =
    let q : c / 2 ^ 48 ≡ 3 = omega arith in
    let n : code_count c ≡ 3 = rw q in
    let p : c / 2 ^ 16 ≡ 3 * 2 ^ 32 + d * 2 ^ 16 + b = omega arith in
    let x : c % 2 ^ 16 ≡ a = omega (arith, p) in
    let m : c / 2 ^ 16 / 2 ^ 16 ≡ 3 * 2 ^ 16 + d = omega (arith, p) in
    let y : c / 2 ^ 16 % 2 ^ 16 ≡ b = omega (arith, p, m) in
    let f : c / 2 ^ 32 ≡ 3 * 2 ^ 16 + d = omega arith in
    let g : c / 2 ^ 32 / 2 ^ 16 ≡ 3 = omega (arith, f) in
    let z : c / 2 ^ 32 % 2 ^ 16 ≡ d = omega (arith, f, g) in
    rw (n, x, y, z)

pub code_values_lem : (r : Reply) → Fits r → code_values (reply_code r) ≡ reply_values r
code_values_lem (Refused Unsupported) h = refl
code_values_lem (Refused InvalidRegister) h = refl
code_values_lem (Refused InvalidDelivery) h = refl
code_values_lem (Refused InvalidAddress) h = refl
code_values_lem (Refused OutOfRange) h = refl
code_values_lem (Refused BadField) h = refl
code_values_lem (Refused ScriptTooLong) h = refl
code_values_lem (Refused NoPlan) h = refl
code_values_lem (Refused ListFull) h = refl
code_values_lem (Refused BadImage) h = refl
code_values_lem (Refused TooShort) h = refl
code_values_lem Nothing h = refl
code_values_lem (One a) h = one_values (reply_code (One a)) a (omega arith) h
code_values_lem (Two a b) h = two_values (reply_code (Two a b)) a b (omega arith) h.0 h.1
code_values_lem (Three a b c) h = three_values (reply_code (Three a b c)) a b c (omega arith) h.0 h.1 h.2

-- the code loses nothing: equal codes come from equal replies
pub code_same : (a b : Reply) → Fits a → Fits b → reply_code a ≡ reply_code b → a ≡ b
code_same a b f g e =
    reply_same a b
    (sym (code_number_lem a) ∙ ap code_number e ∙ code_number_lem b)
    (sym (code_values_lem a f) ∙ ap code_values e ∙ code_values_lem b g)

-- equal words and codes come from equal outcomes
pub shown_same : {S : Type 0} (view : List ℕ → S) (c d : Lent) (o p : Outcome S) → Shows view c o → Shows view d p → Fits o.reply → Fits p.reply → c ≡ d → o ≡ p
shown_same {S} view c d o p x y f g e =
    ap₂ (λ (s : S) (r : Reply). record { state = s; reply = r })
    (sym x.0 ∙ ap (λ (z : Lent). view z.words) e ∙ y.0)
    (code_same o.reply p.reply f g (sym x.1 ∙ ap (λ (z : Lent). z.code) e ∙ y.1))
