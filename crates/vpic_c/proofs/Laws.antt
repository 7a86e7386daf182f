-- A call's answer, its reply and the reply's code; numbers that no line and no claim has. Assumes nothing.
use mathlib.Core.Path.{◌≡◌, refl, sym, ap, ◌∙◌}
use mathlib.Core.Bool.{Bool, true, false, not, cond}
use mathlib.Core.List.{List}
use Prim.Native.Nat.{ℕ, ◌/◌, ◌%◌, ◌^◌}
use lib.Dec.{ltb}
use lib.ListN.{set}
use borrow.Author.Tests.{not-true, not-false}
use Rattle.std.proofs.Common.{Option, Some, Result}
use Rattle.types.specs.declared.Refusal.{Refusal}
use Rattle.types.specs.declared.Vector.{Vector}
use Rattle.types.specs.declared.PicLine.{PicLine}
use Rattle.types.specs.declared.Refusal.TheVariants.{Unsupported, OutOfRange}
use Rattle.types.specs.declared.Reply.{Reply}
use Rattle.types.specs.declared.Reply.TheVariants.{Nothing, One, Refused}
use Rattle.types.specs.Reply.{Outcome}
use Rattle.reply_code.specs.Lent.{reply_code, lent}
use Rattle.vpic_chip.specs.Chip.{vector_reply}
use Rattle.vpic.specs.declared.PicRule.{PicRule}
use Rattle.vpic.specs.declared.PicInterruptClaim.{PicInterruptClaim}
use Rattle.vpic.specs.declared.PortRanges.{PortRanges}
use Rattle.vpic.specs.Words.{PicState, view}
use Rattle.vpic.specs.Claim.{Numbered, numbered, with_number, plain_shown}
use Rattle.vpic.specs.Pair.{rule_in, is_rule, new_state, done_reply, value_reply, vector_outcome, done_outcome, value_outcome, StateClaim, claim_irq, with_claim, with_vector, refused, restore_interrupt, handle_read, port_ranges}
use Rattle.vpic_c.proofs.Claims.{parts_same}
use Rattle.vpic.proofs.Full.{shown_read}
use Rattle.vpic_c.specs.Calls.{Coded, shown, coded, made, new_rule, line, line_of, range_words, claim_with, is_claim, claim_of, restore_code}

-- a line that is there is itself, and all others claim nothing
same_claim : (p : PicState) (irq : ℕ) → claim_irq p (line_of irq) ≡ claim_irq p (line irq)
unfolding claim_irq
same_claim p irq = go (ltb irq 16) refl
  where
    go : (b : Bool) → ltb irq 16 ≡ b → claim_irq p (cond b (line irq) (line 16)) ≡ claim_irq p (line irq)
    go true e = refl
    go false e = rw e refl

-- a number that no claim answers is refused as line 16 is
same_restore : (p : PicState) (c : ℕ) → restore_interrupt p (claim_of c) ≡ restore_code p c
same_restore p c = go (is_claim c) refl
  where
    go : (b : Bool) → is_claim c ≡ b → restore_interrupt p (claim_of c) ≡ cond b (restore_interrupt p (claim_with (c % 2 ^ 16) (c / 2 ^ 16 % 2 ^ 16) (c / 2 ^ 32 % 2 ^ 16))) (refused p OutOfRange)
    go true e = ap (restore_interrupt p) (parts_same c e)
    go false e = rw e

module _ (q : PicState) (x : Reply) (n : ℕ) (en : n ≡ reply_code x) where
  by_code : (o : Outcome PicState) → record { state = q; reply = x } ≡ o → shown q n ≡ coded o
  by_code o e = ap (shown q) en ∙ ap coded e

  pub done_code : (d : Result (Unit {0}) Refusal) (o : Outcome PicState) → done_outcome q d ≡ o → x ≡ done_reply d → shown q n ≡ coded o
  done_code d o e ex = by_code o (ap (λ (y : Reply). record { state = q; reply = y }) ex ∙ e)

  pub value_code : (v : Result ℕ Refusal) (o : Outcome PicState) → value_outcome q v ≡ o → x ≡ value_reply v → shown q n ≡ coded o
  value_code v o e ex = by_code o (ap (λ (y : Reply). record { state = q; reply = y }) ex ∙ e)

  pub vector_code : (v : Option Vector) (o : Outcome PicState) → vector_outcome q v ≡ o → x ≡ vector_reply v → shown q n ≡ coded o
  vector_code v o e ex = by_code o (ap (λ (y : Reply). record { state = q; reply = y }) ex ∙ e)

  pub pulse_code : (p : PicState) (v : Option Vector) (l : PicLine) (irq : ℕ) → l ≡ line_of irq → vector_outcome q v ≡ with_vector (claim_irq p l) → x ≡ vector_reply v → shown q n ≡ coded (with_vector (claim_irq p (line irq)))
  pulse_code p v l irq el e ex = vector_code v _ (e ∙ ap with_vector (ap (claim_irq p) el ∙ same_claim p irq)) ex

  pub restore_code_lem : (p : PicState) (d : Result (Unit {0}) Refusal) (c : ℕ) (k : PicInterruptClaim) → k ≡ claim_of c → done_outcome q d ≡ restore_interrupt p k → x ≡ done_reply d → shown q n ≡ coded (restore_code p c)
  restore_code_lem p d c k ek e ex = done_code d _ (e ∙ ap (restore_interrupt p) ek ∙ same_restore p c) ex

-- a claim's number is its reply's code, by its definition
pub number_code : (q : PicState) (n : ℕ) (x : StateClaim) → numbered q n ≡ with_number x → shown q n ≡ coded (with_claim x)
number_code q n x e = ap (λ (y : Numbered). shown y.state y.number) e

pub irq_code : (p q : PicState) (n : ℕ) (l : PicLine) (irq : ℕ) → l ≡ line_of irq → numbered q n ≡ with_number (claim_irq p l) → shown q n ≡ coded (with_claim (claim_irq p (line irq)))
irq_code p q n l irq el e = number_code q n (claim_irq p l) e ∙ ap (λ (x : StateClaim). coded (with_claim x)) (ap (claim_irq p) el ∙ same_claim p irq)

-- a byte is read
module _ (port width : ℕ) (w : width ≡ 1) where
  pub byte_code : (x : Coded) (p : PicState) → x ≡ coded (handle_read p port 1) → x ≡ coded (handle_read p port width)
  byte_code x p e = e ∙ ap (λ (n : ℕ). coded (handle_read p port n)) (sym w)

  pub shown_code : (l : List ℕ) (n m k : ℕ) (o : Option ℕ) → o ≡ plain_shown (view l) port → o ≡ Some n → m ≡ n → k ≡ reply_code (One m)
      → shown (view l) k ≡ coded (handle_read (view l) port width)
  shown_code l n m k o e h em ek = byte_code (shown (view l) k) (view l) (ap (shown (view l)) (ek ∙ ap (λ (x : ℕ). reply_code (One x)) em) ∙ ap coded (shown_read l port n o e h))

-- a new pair
pub made_code : (q : PicState) (n : ℕ) (rule : PicRule) → q ≡ new_state rule → n ≡ reply_code Nothing → shown q n ≡ coded (made rule)
made_code q n rule e en = ap (λ (p : PicState). shown p n) e ∙ ap (shown (new_state rule)) en

pub rule_made : (p q : PicState) (n k : ℕ) (b : Bool) (r : PicRule) → b ≡ is_rule k → not b ≡ false → r ≡ rule_in k → q ≡ new_state r → n ≡ reply_code Nothing → shown q n ≡ coded (new_rule p k)
rule_made p q n k b r eb t er e en = rw (sym eb ∙ not-false b t) (made_code q n (rule_in k) (e ∙ ap new_state er) en)

pub rule_refused : (p : PicState) (n k : ℕ) (b : Bool) → b ≡ is_rule k → not b ≡ true → n ≡ reply_code (Refused Unsupported) → shown p n ≡ coded (new_rule p k)
rule_refused p n k b eb t en = rw (sym eb ∙ not-true b t) (ap (shown p) en)

pub range_way : (l : List ℕ) (p : PortRanges) (n : ℕ) → p ≡ port_ranges → n ≡ reply_code Nothing
    → lent (set (set (set (set l 0 p.master.start) 1 p.master.end) 2 p.slave.start) 3 p.slave.end) n ≡ range_words l
range_way l p n ep en = rw (ep, en)
