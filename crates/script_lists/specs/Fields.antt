-- The fields of the waiting lists in a script (document 02, T-13, which names none: these are the house's own), as one table: for each tag how many numbers of one byte are in its
-- body, and the call that they make. A field has the form of document 01's: tag, length, body.
use Rattle.std.specs.Prelude.{ℕ, ◌+◌, cond, List, [], ◌∷◌, eqb, ltb, length, get_or, Option, Some, None, Result, Ok}
use Rattle.script_format.specs.Format.{number_at}
use Rattle.script_format.specs.Fields.{Bad, end_at, body_at, field_of}
use Rattle.script_format.specs.declared.BadField.{BadField}
use Rattle.script_format.specs.declared.Field.{Field}
use Rattle.script_lists.specs.declared.ListCall.{ListCall}
use Rattle.script_lists.specs.declared.ListCall.TheVariants.{Take, Deliver, Cancel, ClaimIrq, ClaimPendingInterrupt, New}

pub record Format : Type 0 where
  pub tag : ℕ
  pub size : ℕ
  pub call : ℕ → ℕ → ListCall

abbrev pub format : ℕ → ℕ → (ℕ → ℕ → ListCall) → Format
format tag size call = record { tag = tag; size = size; call = call }

abbrev pub list_formats : List Format
list_formats =
    format 0x40 2 (λ a b. Take (record { 0 = a }) (record { 0 = b }))  -- vCPU, vector
    ∷ format 0x41 1 (λ a b. Deliver (record { 0 = a }))  -- vCPU
    ∷ format 0x42 2 (λ a b. Cancel (record { 0 = a }) (record { 0 = b }))  -- vCPU, vector
    ∷ format 0x43 2 (λ a b. ClaimIrq (record { 0 = a }) (record { 0 = b }))  -- vCPU, line
    ∷ format 0x44 1 (λ a b. ClaimPendingInterrupt (record { 0 = a }))  -- vCPU
    ∷ format 0x45 1 (λ a b. New (record { 0 = a }))  -- vCPU
    ∷ []

-- the call, if the body has its size
abbrev pub checked : List ℕ → ℕ → ListCall → Option ListCall
checked body size call = cond (eqb (length body) size) (Some call) None

-- the first row with the tag decides; a tag that no row has is unknown
abbrev pub decoded_in : List Format → ℕ → List ℕ → Option ListCall
decoded_in [] tag body = None
decoded_in (f ∷ fs) tag body = cond (eqb tag f.tag) (checked body f.size (f.call (number_at body 0 1) (number_at body 1 1))) (decoded_in fs tag body)

unfoldable pub decoded : ℕ → List ℕ → Option ListCall
decoded tag body = decoded_in list_formats tag body

-- nothing of the lists
abbrev pub Other : Result (Option (Field ListCall)) BadField
Other = Ok None

-- what stands at a place: a tag below 40 is no field of the lists, nor is the end; a field whose header or body is cut off is bad, and so is one that the table doesn't know
unfoldable pub list_field_at : List ℕ → ℕ → Result (Option (Field ListCall)) BadField
list_field_at s at =
    cond (ltb (get_or s at 0) 0x40) Other
    (cond (ltb (length s) (at + 3)) Bad
    (cond (ltb (length s) (end_at s at)) Bad
    (field_of (get_or s at 0) (decoded (get_or s at 0) (body_at s at)) (end_at s at))))
