-- Outcomes of calls, put together from the words that a call leaves and the reply that its answer gives. Assumes nothing.
use mathlib.Core.Path.{◌≡◌}
use Rattle.types.specs.Reply.{Outcome, outcome_of}
use Rattle.types.specs.declared.Reply.{Reply}

-- a state and a reply r, where the outcome has the reply that r is
pub replied : {S : Type 0} (s : S) (r r' : Reply) (o : Outcome S) → r ≡ r' → outcome_of s r' ≡ o → outcome_of s r ≡ o
replied s r r' o e h = rw e h
