-- What a caller in C is answered: the code of a reply, over what the lent memory holds after the call.
use Rattle.std.specs.Prelude.{ℕ}
use Rattle.types.specs.Reply.{Outcome}
use Rattle.reply_code.specs.Lent.{reply_code}

-- the lent memory after a call, and the call's code
pub record Coded (S : Type 0) : Type 0 where
  pub state : S
  pub code : ℕ

abbrev pub shown : {S : Type 0} → S → ℕ → Coded S
shown s c = record { state = s; code = c }

abbrev pub coded : {S : Type 0} → Outcome S → Coded S
coded o = record { state = o.state; code = reply_code o.reply }
