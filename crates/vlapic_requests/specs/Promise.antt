-- What acceptance answers, and what a call in place promises of the 48 words: the registers that they stand for after it, and that each word is as it was or was
-- stored (vlapic_words).
use Rattle.types.specs.declared.Vector.{Vector}
use Rattle.std.specs.Prelude.{ℕ, List, ◌≡◌, set, Option, Some, None}
use Rattle.types.specs.declared.Reply.{Reply}
use Rattle.types.specs.declared.Reply.TheVariants.{Nothing, One}
use Rattle.vlapic_regs.specs.Register.{priority}
use Rattle.vlapic.specs.declared.VirtualApicRegs.{VirtualApicRegs}
use Rattle.vlapic_words.specs.Words.{word, eight, view}
use Rattle.vlapic_words.specs.Calls.{Stored}
use Rattle.vlapic_requests.specs.Requests.{After, after, highest}

-- acceptance in document 01's numbers and values: the vector, or nothing
abbrev pub acceptance_reply : Option Vector → Reply
acceptance_reply None = Nothing
acceptance_reply (Some v) = One v.0

pub record Becomes (l m : List ℕ) (s : VirtualApicRegs) : Type 0 where
  pub registers : view m ≡ s
  pub stored : Stored l m

-- the same with the call's answer
pub record Answers (A : Type 0) (l m : List ℕ) (r : A) (o : After A) : Type 0 where
  pub outcome : after (view m) r ≡ o
  pub stored : Stored l m

-- PPR follows, in the words
abbrev pub ranked_words : List ℕ → List ℕ
ranked_words l = set l 3 (priority (word l 2) (highest (eight l 18)))
