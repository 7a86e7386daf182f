-- What a caller in C is answered: the code of a reply; and where a range is shown, the set of its lines in a word beside it.
use Rattle.std.specs.Prelude.{ℕ, List, set}
use Rattle.types.specs.declared.Reply.{Reply}
use Rattle.types.specs.declared.Reply.TheVariants.{Refused, Nothing, One, Two, Three}
use Rattle.types.specs.Reply.{Outcome}
use Rattle.reply_code.specs.Lent.{reply_code, Lent, lent}

-- a lent plan after the call, and the reply's code
abbrev pub coded : Outcome (List ℕ) → Lent
coded o = lent o.state (reply_code o.reply)

-- a range is answered by its ends, and its lines go to lines[0]; another answer leaves that as it was
abbrev pub range_code : Reply → ℕ
range_code (Refused why) = reply_code (Refused why)
range_code Nothing = reply_code Nothing
range_code (One a) = reply_code (One a)
range_code (Two a b) = reply_code (Two a b)
range_code (Three a b lines) = reply_code (Two a b)

abbrev pub lines_in : List ℕ → Reply → List ℕ
lines_in l (Refused why) = l
lines_in l Nothing = l
lines_in l (One a) = l
lines_in l (Two a b) = l
lines_in l (Three a b lines) = set l 0 lines
