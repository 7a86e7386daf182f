-- What a caller in C is answered: the code of a reply, and where an interrupt command sends, the mask of its vCPUs in a word beside it. Numbers come in at full width.
use Rattle.std.specs.Prelude.{ℕ, cond, List, ◌≡◌, ltb, set}
use Rattle.types.specs.declared.Refusal.TheVariants.{InvalidRegister, OutOfRange}
use Rattle.types.specs.declared.Reply.{Reply}
use Rattle.types.specs.declared.Reply.TheVariants.{Refused, Nothing, One, Two, Three}
use Rattle.types.specs.Reply.{Outcome, Kept}
use Rattle.reply_code.specs.Lent.{reply_code, is_up}
use Rattle.vlapic.specs.declared.VirtualApicRegs.{VirtualApicRegs}
use Rattle.vlapic.specs.Answers.{refused}
use Rattle.vlapic.specs.Priority.{accept_interrupt}
use Rattle.vlapic.specs.Calls.{handle_write}
use Rattle.vlapic_words.specs.Words.{view}
use Rattle.vlapic_words.specs.Calls.{Stored, refused_words}

-- ---- a number

-- an outcome with its reply's code
pub record Coded : Type 0 where
  pub state : VirtualApicRegs
  pub code : ℕ

abbrev pub coded : Outcome VirtualApicRegs → Coded
coded o = record { state = o.state; code = reply_code o.reply }

-- a call that answers `code` and leaves the words m of the words l, or those in `kept` where it is refused
pub record Lent (l kept m : List ℕ) (code : ℕ) (o : Outcome VirtualApicRegs) : Type 0 where
  pub outcome : record { state = view m; code = code } ≡ coded o
  pub refused : Kept o.reply kept m
  pub stored : Stored l m

-- a vector above 255 is refused
unfoldable pub accepting : VirtualApicRegs → ℕ → ℕ → Outcome VirtualApicRegs
accepting s vector level = cond (ltb 255 vector) (refused s OutOfRange) (accept_interrupt s (record { 0 = vector }) (is_up level))

-- ---- with the word that an IPI's mask goes to

pub record Sent : Type 0 where
  pub state : VirtualApicRegs
  pub ipi : List ℕ
  pub code : ℕ

-- an IPI is answered by kind and vector, and its mask goes to ipi[0]; another answer leaves that as it was
abbrev pub sent_code : Reply → ℕ
sent_code (Refused why) = reply_code (Refused why)
sent_code Nothing = reply_code Nothing
sent_code (One a) = reply_code (One a)
sent_code (Two a b) = reply_code (Two a b)
sent_code (Three kind vector mask) = reply_code (Two kind vector)

abbrev pub sent_mask : List ℕ → Reply → List ℕ
sent_mask ipi (Refused why) = ipi
sent_mask ipi Nothing = ipi
sent_mask ipi (One a) = ipi
sent_mask ipi (Two a b) = ipi
sent_mask ipi (Three kind vector mask) = set ipi 0 mask

abbrev pub sent : List ℕ → Outcome VirtualApicRegs → Sent
sent ipi o = record { state = o.state; ipi = sent_mask ipi o.reply; code = sent_code o.reply }

pub record LentSent (l kept m ipi after : List ℕ) (code : ℕ) (o : Outcome VirtualApicRegs) : Type 0 where
  pub outcome : record { state = view m; ipi = after; code = code } ≡ sent ipi o
  pub refused : Kept o.reply kept m
  pub stored : Stored l m

-- a width above 255 is refused
unfoldable pub writing : VirtualApicRegs → ℕ → ℕ → ℕ → ℕ → ℕ → Outcome VirtualApicRegs
writing s offset val width num active = cond (ltb 255 width) (refused s InvalidRegister) (handle_write s offset val width num active)

unfoldable pub writing_refused : List ℕ → ℕ → ℕ → ℕ → ℕ → List ℕ
writing_refused l offset val width num = cond (ltb 255 width) l (refused_words l offset val width num)
