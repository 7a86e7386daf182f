-- What saving leaves in the lent buffer, and answers: the image's length; or 11, and the buffer as it was, where it is shorter than an image.
use Rattle.std.specs.Prelude.{ℕ, cond, List, ◌++◌, ltb, length, drop, Result}
use Rattle.types.specs.declared.Reply.{Reply}
use Rattle.types.specs.declared.Reply.TheVariants.{Refused, One}
use Rattle.types.specs.declared.Refusal.{Refusal}
use Rattle.types.specs.declared.Refusal.TheVariants.{TooShort}
use Rattle.types.specs.Reply.{Outcome, outcome_of, number_reply, result_reply}
use Rattle.image_format.specs.Image.{image_of, image_size}
use Rattle.image.specs.Words.{gathered}

abbrev pub save_reply : Result ℕ Refusal → Reply
save_reply = result_reply number_reply

-- the rest of a longer buffer stays
unfoldable pub saved : List ℕ → List ℕ → List ℕ → List ℕ → Outcome (List ℕ)
saved io apic pair buf =
    cond (ltb (length buf) image_size) (outcome_of buf (Refused TooShort))
    (outcome_of (image_of (gathered io apic pair) ++ drop image_size buf) (One image_size))
