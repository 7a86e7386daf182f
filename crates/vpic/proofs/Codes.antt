-- A claim is read back from its number, an answer is known by its reply, and the pair by its words. Assumes nothing.
use mathlib.Core.Path.{◌≡◌, refl, sym, ap, ◌∙◌}
use mathlib.Core.Bool.{Bool, true, false, cond}
use mathlib.Core.List.{List, [], ◌∷◌}
use Prim.Native.Nat.{ℕ, ◌+◌, ◌*◌, ◌/◌, ◌%◌, ◌^◌, ◌<◌, ◌≤◌}
use native.Mathlib.Omega.{arith}
use lib.Dec.{eqb}
use lib.ListN.{length}
use borrow.Author.Tests.{ne_eqb}
use Rattle.std.proofs.Common.{Option, Some, None, Result}
use Rattle.std.specs.Int.{from_bool}
use Rattle.vpic.specs.declared.PicInterruptClaim.{PicInterruptClaim}
use Rattle.types.specs.declared.Refusal.{Refusal}
use Rattle.types.specs.declared.PicLine.{PicLine}
use Rattle.types.specs.declared.Vector.{Vector}
use Rattle.types.specs.declared.Reply.{Reply}
use Rattle.types.specs.declared.Reply.TheVariants as reply
use Rattle.types.specs.Reply.{flag, number_reply, done_reply as nothing_reply}
use Rattle.types.proofs.Replies.{outcome_same, result_reply_same, number_same, number_done, done_same as nothing_same, done_done as nothing_done}
use Rattle.vpic_chip.specs.Chip.{vector_reply}
use Rattle.vpic_chip.specs.Registers.{chip_in, full_in, placed}
use Rattle.vpic_chip.proofs.Packing.{word_same, full_word_same}
use Rattle.vpic_chip.proofs.Laws.{vector_reply_same}
use Rattle.vpic.specs.Words.{PicState, chip_by, view}
use Rattle.vpic.specs.Claim.{claim_in, claim_number}
use Rattle.vpic.specs.Pair.{claim_of, claim_reply, done_reply, value_reply, claim_flags, claim_outcome, vector_outcome, done_outcome, value_outcome}

-- ---- a claim and its number

pub flag_le : (b : Bool) → flag b ≤ 1
flag_le true = omega arith
flag_le false = omega arith

-- a flag as a binary digit
digit_flag : (b : Bool) → from_bool b ≡ flag b
digit_flag true = refl
digit_flag false = refl

pub digit_le : (n : ℕ) (b : Bool) → n ≡ from_bool b → n ≤ 1
digit_le n b e = omega (arith, e ∙ digit_flag b, flag_le b)

pub flags_sum : (c : PicInterruptClaim) (f g : ℕ) → f ≡ from_bool c.master_in_service → g ≡ from_bool c.slave_in_service → f + 2 * g ≡ claim_flags c
flags_sum c f g ef eg = omega (arith, ef ∙ digit_flag c.master_in_service, eg ∙ digit_flag c.slave_in_service)

flag_is : (n : ℕ) (b : Bool) → n ≡ flag b → eqb n 1 ≡ b
flag_is n true e = rw e
flag_is n false e = rw e

module _ (n v l f g : ℕ) (hv : v < 256) (hl : l < 256) (hf : f ≤ 1) (hg : g ≤ 1) (e : n ≡ 3 * 2 ^ 48 + g * 2 ^ 33 + f * 2 ^ 32 + l * 2 ^ 16 + v) where
  number_vector : n % 2 ^ 8 ≡ v
  number_vector = omega arith

  number_line : n / 2 ^ 16 % 2 ^ 8 ≡ l
  number_line = let x : n / 2 ^ 16 ≡ 3 * 2 ^ 32 + g * 2 ^ 17 + f * 2 ^ 16 + l = omega arith in omega (arith, x)

  number_master : n / 2 ^ 32 % 2 ≡ f
  number_master = let x : n / 2 ^ 32 ≡ 3 * 2 ^ 16 + g * 2 + f = omega arith in omega (arith, x)

  number_slave : n / 2 ^ 33 % 2 ≡ g
  number_slave = let x : n / 2 ^ 33 ≡ 3 * 2 ^ 15 + g = omega arith in omega (arith, x)

-- nothing of a claim is lost in its number
pub claim_kept : (n f g : ℕ) (a : Option Vector) (v : Vector) (l : PicLine) (m s : Bool) → a ≡ Some v → v.0 < 256 → l.0 < 256 → f ≡ from_bool m → g ≡ from_bool s
    → n ≡ 3 * 2 ^ 48 + g * 2 ^ 33 + f * 2 ^ 32 + l.0 * 2 ^ 16 + v.0 → claim_in n ≡ claim_of a l m s
unfolding number_vector number_line number_master number_slave
claim_kept n f g a v l m s ea hv hl em es e =
    let ef : f ≡ flag m = em ∙ digit_flag m in
    let eg : g ≡ flag s = es ∙ digit_flag s in
    let hf : f ≤ 1 = omega (arith, flag_le m) in
    let hg : g ≤ 1 = omega (arith, flag_le s) in
    let some : n ≡ 0 → ⊥ = λ z. omega arith in
    let d : eqb (n / 2 ^ 32 % 2) 1 ≡ m = flag_is _ m (number_master n v.0 l.0 f g hv hl hf hg e ∙ ef) in
    let h : eqb (n / 2 ^ 33 % 2) 1 ≡ s = flag_is _ s (number_slave n v.0 l.0 f g hv hl hf hg e ∙ eg) in
    let x = number_vector n v.0 l.0 f g hv hl hf hg e in
    let y = number_line n v.0 l.0 f g hv hl hf hg e in
    rw (ea, ne_eqb n 0 some) (λ i. Some (record { vector = record { 0 = x i }; irq = record { 0 = y i }; master_in_service = d i; slave_in_service = h i }))

-- nor is there more in it: it is that claim's number
pub claim_number_lem : (n f g : ℕ) (a : Option Vector) (v : Vector) (l : PicLine) (m s : Bool) → a ≡ Some v → v.0 < 256 → l.0 < 256 → f ≡ from_bool m → g ≡ from_bool s
    → n ≡ 3 * 2 ^ 48 + g * 2 ^ 33 + f * 2 ^ 32 + l.0 * 2 ^ 16 + v.0 → n ≡ claim_number (claim_in n)
claim_number_lem n f g a v l m s ea hv hl em es e =
    let ef : f ≡ flag m = em ∙ digit_flag m in
    let eg : g ≡ flag s = es ∙ digit_flag s in
    let hf : flag m ≤ 1 = flag_le m in
    let hg : flag s ≤ 1 = flag_le s in
    let x : n ≡ 3 * 2 ^ 48 + (flag m + 2 * flag s) % 2 ^ 16 * 2 ^ 32 + l.0 % 2 ^ 16 * 2 ^ 16 + v.0 % 2 ^ 16 = omega (arith, hf, hg, ef, eg, e) in
    x ∙ ap (λ (b : Option Vector). claim_number (claim_of b l m s)) (sym ea) ∙ ap claim_number (sym (claim_kept n f g a v l m s ea hv hl em es e))

-- ---- a pair has one set of words: no word but those of the view

chip_same : (p : Bool) (rule v w : ℕ) → chip_by p rule v ≡ chip_by p rule w → v ≡ w
chip_same p rule v w = go (eqb rule 2)
  where
    go : (b : Bool) → cond b (placed p (full_in v)) (chip_in v) ≡ cond b (placed p (full_in w)) (chip_in w) → v ≡ w
    go true q = full_word_same p v w q
    go false q = word_same v w q

pub words_same : (l m : List ℕ) → length l ≡ 4 → length m ≡ 4 → view l ≡ view m → l ≡ m
unfolding view
words_same (a ∷ b ∷ c ∷ d ∷ []) (e ∷ f ∷ g ∷ h ∷ []) p q s =
    let z : c ≡ g = ap (λ (r : PicState). r.rule) s in
    let x : a ≡ e = chip_same true c a e (ap (λ (r : PicState). r.master) s ∙ ap (λ (n : ℕ). chip_by true n e) (sym z)) in
    let y : b ≡ f = chip_same false c b f (ap (λ (r : PicState). r.slave) s ∙ ap (λ (n : ℕ). chip_by false n f) (sym z)) in
    let w : d ≡ h = ap (λ (r : PicState). r.spare) s in
    λ i. x i ∷ y i ∷ z i ∷ w i ∷ []
words_same [] m p q s = absurd (omega arith)
words_same (a ∷ []) m p q s = absurd (omega arith)
words_same (a ∷ b ∷ []) m p q s = absurd (omega arith)
words_same (a ∷ b ∷ c ∷ []) m p q s = absurd (omega arith)
words_same (a ∷ b ∷ c ∷ d ∷ e ∷ l) m p q s = absurd (omega arith)
words_same (a ∷ b ∷ c ∷ d ∷ []) [] p q s = absurd (omega arith)
words_same (a ∷ b ∷ c ∷ d ∷ []) (e ∷ []) p q s = absurd (omega arith)
words_same (a ∷ b ∷ c ∷ d ∷ []) (e ∷ f ∷ []) p q s = absurd (omega arith)
words_same (a ∷ b ∷ c ∷ d ∷ []) (e ∷ f ∷ g ∷ []) p q s = absurd (omega arith)
words_same (a ∷ b ∷ c ∷ d ∷ []) (e ∷ f ∷ g ∷ h ∷ i ∷ m) p q s = absurd (omega arith)

-- ---- an answer can be read back from its reply, so equal outcomes come from equal results

claim_back : Reply → Option PicInterruptClaim
claim_back (reply.Three v l f) = Some (record {
  vector = record { 0 = v };
  irq = record { 0 = l };
  master_in_service = eqb (f % 2) 1;
  slave_in_service = eqb (f / 2) 1;
})
claim_back (reply.Refused why) = None
claim_back reply.Nothing = None
claim_back (reply.One a) = None
claim_back (reply.Two a b) = None

flags_back : (m s : Bool) → (eqb ((flag m + 2 * flag s) % 2) 1 ≡ m) × (eqb ((flag m + 2 * flag s) / 2) 1 ≡ s)
flags_back true true = (refl, refl)
flags_back true false = (refl, refl)
flags_back false true = (refl, refl)
flags_back false false = (refl, refl)

claim_back_lem : (c : Option PicInterruptClaim) → claim_back (claim_reply c) ≡ c
unfolding claim_back
claim_back_lem (Some c) =
    let b = flags_back c.master_in_service c.slave_in_service in
    rw (b.0, b.1)
claim_back_lem None = refl

pub claim_reply_same : (a b : Option PicInterruptClaim) → claim_reply a ≡ claim_reply b → a ≡ b
claim_reply_same a b e = sym (claim_back_lem a) ∙ ap claim_back e ∙ claim_back_lem b

pub done_reply_same : (a b : Result (Unit {0}) Refusal) → done_reply a ≡ done_reply b → a ≡ b
done_reply_same = result_reply_same nothing_reply nothing_same nothing_done

pub value_reply_same : (a b : Result ℕ Refusal) → value_reply a ≡ value_reply b → a ≡ b
value_reply_same = result_reply_same number_reply number_same number_done

pub claim_same : (p q : PicState) (a b : Option PicInterruptClaim) → claim_outcome p a ≡ claim_outcome q b → (p ≡ q) × (a ≡ b)
claim_same p q a b e = outcome_same claim_reply claim_reply_same p q a b e

pub vector_same : (p q : PicState) (a b : Option Vector) → vector_outcome p a ≡ vector_outcome q b → (p ≡ q) × (a ≡ b)
vector_same p q a b e = outcome_same vector_reply vector_reply_same p q a b e

pub done_same : (p q : PicState) (a b : Result (Unit {0}) Refusal) → done_outcome p a ≡ done_outcome q b → (p ≡ q) × (a ≡ b)
done_same p q a b e = outcome_same done_reply done_reply_same p q a b e

pub value_same : (p q : PicState) (a b : Result ℕ Refusal) → value_outcome p a ≡ value_outcome q b → (p ≡ q) × (a ≡ b)
value_same p q a b e = outcome_same value_reply value_reply_same p q a b e
