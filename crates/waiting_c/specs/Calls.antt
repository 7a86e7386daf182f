-- Each call over lent bytes is the core's call on the lists that they stand for, and its reply as a code. The lists say what every byte is (`SameBytes`
-- of waiting_theorems), so that an equation of what is shown is one of the bytes too.
use Rattle.std.specs.Prelude.{ℕ, cond, ltb}
use Rattle.types.specs.declared.PicLine.{PicLine}
use Rattle.types.specs.declared.Refusal.TheVariants.{OutOfRange}
use Rattle.types.specs.declared.Reply.TheVariants.{Refused}
use Rattle.types.specs.declared.VcpuId.{VcpuId}
use Rattle.types.specs.declared.Vector.{Vector}
use Rattle.types.specs.Reply.{Outcome, outcome_of}
use Rattle.reply_code.specs.Lent.{reply_code}
use Rattle.waiting.specs.Lists.{Lists, take, cancel}

-- what the bytes stand for after a call, and the call's code
pub record Coded (S : Type 0) : Type 0 where
  pub state : S
  pub code : ℕ

abbrev pub shown : {S : Type 0} → S → ℕ → Coded S
shown s c = record { state = s; code = c }

abbrev pub coded : {S : Type 0} → Outcome S → Coded S
coded o = record { state = o.state; code = reply_code o.reply }

abbrev pub vcpu : ℕ → VcpuId
vcpu k = record { 0 = k }

abbrev pub vector_of : ℕ → Vector
vector_of v = record { 0 = v }

-- any number from 16 up is taken for line 16, which the pair hasn't
abbrev pub line_of : ℕ → PicLine
line_of irq = cond (ltb irq 16) (record { 0 = irq }) (record { 0 = 16 })

-- a number that is no vector is refused with 5, as an unknown vCPU is. This refusal is the boundary's own
abbrev pub take_number : Lists → VcpuId → ℕ → Outcome Lists
take_number s id v = cond (ltb v 256) (take s id (vector_of v)) (outcome_of s (Refused OutOfRange))

abbrev pub cancel_number : Lists → VcpuId → ℕ → Outcome Lists
cancel_number s id v = cond (ltb v 256) (cancel s id (vector_of v)) (outcome_of s (Refused OutOfRange))
