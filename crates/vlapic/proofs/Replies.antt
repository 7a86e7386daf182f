-- Equal outcomes come from equal results: what can be read back from a reply wasn't lost. Assumes nothing.
use Rattle.std.proofs.Common.{◌≡◌, ℕ, Option, Result, ap, ap₂}
use Rattle.types.specs.declared.Refusal.{Refusal}
use Rattle.types.specs.declared.Reply.{Reply}
use Rattle.types.specs.declared.Vector.{Vector}
use Rattle.types.specs.Reply.{Outcome}
use Rattle.types.proofs.Replies.{number_same, number_done, vector_same, vector_some, option_reply_same, option_done, result_reply_same}
use Rattle.vlapic_icr.specs.declared.Ipi.{Ipi}
use Rattle.vlapic_icr.proofs.Ipis.{ipi_same, ipi_some, ipi_done}
use Rattle.vlapic.specs.declared.VirtualApicRegs.{VirtualApicRegs}
use Rattle.vlapic.specs.Answers.{eoi_reply, read_reply, write_reply, eoi_outcome, write_outcome, done}

pub eoi_reply_same : (a b : Option Vector) → eoi_reply a ≡ eoi_reply b → a ≡ b
eoi_reply_same = option_reply_same _ vector_same vector_some

pub read_reply_same : (a b : Result ℕ Refusal) → read_reply a ≡ read_reply b → a ≡ b
read_reply_same = result_reply_same _ number_same number_done

pub write_reply_same : (a b : Result (Option Ipi) Refusal) → write_reply a ≡ write_reply b → a ≡ b
write_reply_same = result_reply_same _ (option_reply_same _ ipi_same ipi_some) (option_done _ ipi_done)

-- and the results themselves
abbrev state_of : Outcome VirtualApicRegs → VirtualApicRegs
state_of o = o.state

abbrev reply_of : Outcome VirtualApicRegs → Reply
reply_of o = o.reply

pub done_same : (a b : VirtualApicRegs) → done a ≡ done b → a ≡ b
done_same a b e = ap state_of e

pub eoi_outcome_same : (a b : VirtualApicRegs × Option Vector) → eoi_outcome a ≡ eoi_outcome b → a ≡ b
eoi_outcome_same a b e =
    ap₂ (λ (r : VirtualApicRegs) (x : Option Vector). (r, x)) (ap state_of e) (eoi_reply_same a.1 b.1 (ap reply_of e))

pub write_outcome_same : (a b : VirtualApicRegs × Result (Option Ipi) Refusal) → write_outcome a ≡ write_outcome b → a ≡ b
write_outcome_same a b e =
    ap₂ (λ (r : VirtualApicRegs) (x : Result (Option Ipi) Refusal). (r, x)) (ap state_of e) (write_reply_same a.1 b.1 (ap reply_of e))
