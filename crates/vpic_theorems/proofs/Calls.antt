-- A refused call hands back the pair that it was given, whatever it was called with. Assumes nothing.
use mathlib.Core.Path.{◌≡◌, refl, ◌∙◌}
use mathlib.Core.Bool.{Bool, true, false, cond}
use Prim.Native.Nat.{ℕ}
use lib.Dec.{ltb, eqb}
use Rattle.std.proofs.Common.{Option, Some, None}
use Rattle.vpic.specs.declared.PicInterruptClaim.{PicInterruptClaim}
use Rattle.types.specs.declared.Refusal.{Refusal}
use Rattle.types.specs.declared.Refusal.TheVariants.{Unsupported, OutOfRange}
use Rattle.types.specs.Reply.{Outcome, reply_number}
use Rattle.vpic.specs.Words.{PicState, view}
use Rattle.vpic_chip.specs.Chip.{vector_reply}
use Rattle.vpic.specs.Pair.{Port, master_command, master_data, slave_command, slave_data, no_port, port_at, read_from, left_after, port_read, port_left, value_reply, is_port, claim_reply, claim_vector, claim_irq, claim_pending, refused}
use Rattle.vpic.proofs.Codes.{words_same}
use Rattle.vpic_theorems.specs.Statements.{call_claim_irq, claim_pending_interrupt, pulse_irq, next_interrupt, call_restore_interrupt, call_handle_read, call_handle_write, outcome, RefusedUnchanged, RefusedKeepsWords}

-- a claim is never refused, and neither is its vector
claim_done : (c : Option PicInterruptClaim) → reply_number (claim_reply c) ≡ 0
claim_done (Some c) = refl
claim_done None = refl

vector_done : (c : Option PicInterruptClaim) → reply_number (vector_reply (claim_vector c)) ≡ 0
vector_done (Some c) = refl
vector_done None = refl

-- a test between an outcome that is done and a refusal: where the number isn't 0, it is the refusal
or_refused : (p : PicState) (why : Refusal) (b : Bool) (o : Outcome PicState) → ((reply_number o.reply ≡ 0 → ⊥) → o.state ≡ p)
    → (reply_number (cond b o (refused p why)).reply ≡ 0 → ⊥) → (cond b o (refused p why)).state ≡ p
or_refused p why true o h n = h n
or_refused p why false o h n = refl

-- a read is refused where there is no port, and changes nothing there
read_refused : (p : PicState) (port : ℕ) → (reply_number (value_reply (port_read p port)) ≡ 0 → ⊥) → port_left p port ≡ p
unfolding port_read port_left
read_refused p port = go (port_at port)
  where
    go : (a : Port) → (reply_number (value_reply (read_from p a)) ≡ 0 → ⊥) → left_after p a ≡ p
    go master_command m = absurd (m refl)
    go master_data m = absurd (m refl)
    go slave_command m = absurd (m refl)
    go slave_data m = absurd (m refl)
    go no_port m = refl

pub refused_unchanged : RefusedUnchanged
unfolding outcome
refused_unchanged p (call_claim_irq l) n = absurd (n (claim_done (claim_irq p l).claim))
refused_unchanged p claim_pending_interrupt n = absurd (n (claim_done (claim_pending p).claim))
refused_unchanged p (pulse_irq l) n = absurd (n (vector_done (claim_irq p l).claim))
refused_unchanged p next_interrupt n = absurd (n (vector_done (claim_pending p).claim))
refused_unchanged p (call_restore_interrupt c) n = or_refused p OutOfRange (ltb c.irq.0 16) _ (λ m. absurd (m refl)) n
refused_unchanged p (call_handle_read port width) n = or_refused p Unsupported (eqb width 1) _ (read_refused p port) n
refused_unchanged p (call_handle_write port width value) n = or_refused p Unsupported (eqb width 1) _ (or_refused p Unsupported (is_port port) _ (λ m. absurd (m refl))) n

pub refused_keeps_words : RefusedKeepsWords
refused_keeps_words l m c h k e n = words_same m l k h (e ∙ refused_unchanged (view l) c n)
