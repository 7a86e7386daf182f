-- A call's answer, its reply and the reply's code; numbers that no vector and no line has. Assumes nothing.
use Prim.Native.Nat.{ℕ, ◌<◌, ◌≤◌}
use mathlib.Core.Bool.{Bool, true, false, cond}
use mathlib.Core.Path.{◌≡◌, refl, ap, ◌∙◌}
use native.Mathlib.Omega.{arith}
use lib.Dec.{ltb}
use borrow.Author.Tests.{lt-ltb, le-ltb}
use Rattle.std.proofs.Common.{Option, Result}
use Rattle.types.specs.declared.PicLine.{PicLine}
use Rattle.types.specs.declared.Refusal.{Refusal}
use Rattle.types.specs.declared.Refusal.TheVariants.{OutOfRange}
use Rattle.types.specs.declared.Reply.{Reply}
use Rattle.types.specs.declared.Reply.TheVariants.{Refused}
use Rattle.types.specs.declared.VcpuId.{VcpuId}
use Rattle.types.specs.declared.Vector.{Vector}
use Rattle.types.specs.Reply.{Outcome, outcome_of}
use Rattle.reply_code.specs.Lent.{reply_code}
use Rattle.vpic.specs.declared.PicInterruptClaim.{PicInterruptClaim}
use Rattle.vpic.specs.Words.{PicState}
use Rattle.vpic.specs.Pair.{claim_irq}
use Rattle.waiting.specs.Answers.{taken_reply, waited_reply, counted_reply}
use Rattle.waiting.specs.Lists.{Lists, take, cancel}
use Rattle.waiting_claims.specs.Claims.{Host, waiting_reply, claim_for, claim_irq_for}
use Rattle.waiting_c.specs.Calls.{shown, coded, vector_of, line_of, take_number, cancel_number}

by_code : {S : Type 0} (q : S) (x y : Reply) (n : ℕ) (o : Outcome S) → outcome_of q y ≡ o → x ≡ y → n ≡ reply_code x → shown q n ≡ coded o
by_code q x y n o e ex en = ap (shown q) (en ∙ ap reply_code ex) ∙ ap coded e

pub taken_code : (q : Lists) (x : Reply) (n : ℕ) (a : Result (Unit {0}) Refusal) (o : Outcome Lists) → outcome_of q (taken_reply a) ≡ o → x ≡ taken_reply a → n ≡ reply_code x → shown q n ≡ coded o
taken_code q x n a o e ex en = by_code q x (taken_reply a) n o e ex en

pub waited_code : (q : Lists) (x : Reply) (n : ℕ) (a : Result (Option Vector) Refusal) (o : Outcome Lists) → outcome_of q (waited_reply a) ≡ o → x ≡ waited_reply a → n ≡ reply_code x → shown q n ≡ coded o
waited_code q x n a o e ex en = by_code q x (waited_reply a) n o e ex en

pub counted_code : (q : Lists) (x : Reply) (n : ℕ) (a : Result ℕ Refusal) (o : Outcome Lists) → outcome_of q (counted_reply a) ≡ o → x ≡ counted_reply a → n ≡ reply_code x → shown q n ≡ coded o
counted_code q x n a o e ex en = by_code q x (counted_reply a) n o e ex en

pub claim_code : (q : Host) (x : Reply) (n : ℕ) (a : Result (Option PicInterruptClaim) Refusal) (o : Outcome Host) → outcome_of q (waiting_reply a) ≡ o → x ≡ waiting_reply a → n ≡ reply_code x → shown q n ≡ coded o
claim_code q x n a o e ex en = by_code q x (waiting_reply a) n o e ex en

-- a vector, and a number that is none
module _ (s q : Lists) (id : VcpuId) (v n : ℕ) where
  pub take_code : (x : Reply) (a : Result (Unit {0}) Refusal) → v ≤ 255 → outcome_of q (taken_reply a) ≡ take s id (vector_of v) → x ≡ taken_reply a → n ≡ reply_code x → shown q n ≡ coded (take_number s id v)
  take_code x a few e ex en = rw (lt-ltb v 256 (omega arith)) (taken_code q x n a (take s id (vector_of v)) e ex en)

  pub cancel_code : (x : Reply) (a : Result (Option Vector) Refusal) → v ≤ 255 → outcome_of q (waited_reply a) ≡ cancel s id (vector_of v) → x ≡ waited_reply a → n ≡ reply_code x → shown q n ≡ coded (cancel_number s id v)
  cancel_code x a few e ex en = rw (lt-ltb v 256 (omega arith)) (waited_code q x n a (cancel s id (vector_of v)) e ex en)

module _ (s : Lists) (id : VcpuId) (v n : ℕ) where
  pub take_beyond : 255 < v → n ≡ reply_code (Refused OutOfRange) → shown s n ≡ coded (take_number s id v)
  take_beyond many en = rw (le-ltb v 256 (omega arith)) (ap (shown s) en)

  pub cancel_beyond : 255 < v → n ≡ reply_code (Refused OutOfRange) → shown s n ≡ coded (cancel_number s id v)
  cancel_beyond many en = rw (le-ltb v 256 (omega arith)) (ap (shown s) en)

-- a line that is there is itself, and all others claim nothing
same_line : (p : PicState) (irq : ℕ) → claim_irq p (line_of irq) ≡ claim_irq p (record { 0 = irq })
unfolding claim_irq
same_line p irq = go (ltb irq 16) refl
  where
    go : (b : Bool) → ltb irq 16 ≡ b → claim_irq p (cond b (record { 0 = irq }) (record { 0 = 16 })) ≡ claim_irq p (record { 0 = irq })
    go true e = refl
    go false e = rw e refl

same_for : (h : Host) (id : VcpuId) (l : PicLine) (irq : ℕ) → l ≡ line_of irq → claim_irq_for h id l ≡ claim_irq_for h id (record { 0 = irq })
unfolding claim_for
same_for h id l irq e = rw (e, same_line h.pair irq) refl

pub irq_code : (h q : Host) (id : VcpuId) (l : PicLine) (irq : ℕ) (x : Reply) (n : ℕ) (a : Result (Option PicInterruptClaim) Refusal) → l ≡ line_of irq → outcome_of q (waiting_reply a) ≡ claim_irq_for h id l
    → x ≡ waiting_reply a → n ≡ reply_code x → shown q n ≡ coded (claim_irq_for h id (record { 0 = irq }))
irq_code h q id l irq x n a el e ex en = claim_code q x n a _ (e ∙ same_for h id l irq el) ex en
