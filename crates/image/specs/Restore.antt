-- What restoring leaves in the chips' words, and answers: the state that the image holds; or 10, and every word as it was, for an image that no state writes that keeps its chips' rules.
use Rattle.std.specs.Prelude.{ℕ, Bool, cond, ◌&&◌, List, ◌∷◌, ◌++◌, ltb, get_or, take, drop, replicate, Result, Option, Some, None}
use Rattle.types.specs.declared.Reply.{Reply}
use Rattle.types.specs.declared.Reply.TheVariants.{Refused, Nothing}
use Rattle.types.specs.declared.Refusal.{Refusal}
use Rattle.types.specs.declared.Refusal.TheVariants.{BadImage}
use Rattle.types.specs.Reply.{Outcome, outcome_of, done_reply, result_reply}
use Rattle.vioapic.specs.State.{view}
use Rattle.vpic.specs.Words.{view as pairView}
use Rattle.image_format.specs.Image.{words_in}
use Rattle.image_format.specs.Reading.{is_read}
use Rattle.image_rules.specs.Rules.{ioapic_keeps, apic_keeps, keeps_pair}

abbrev pub restore_reply : Result (Unit {0}) Refusal → Reply
restore_reply = result_reply done_reply

-- the words that hold the chips
pub record Chips : Type 0 where
  pub io : List ℕ
  pub apic : List ℕ
  pub pair : List ℕ

abbrev pub chips : List ℕ → List ℕ → List ℕ → Chips
chips io apic pair = record { io = io; apic = apic; pair = pair }

-- the chips of 84 words in one row
abbrev pub io_of : List ℕ → List ℕ
io_of row = take 32 row

abbrev pub apic_of : List ℕ → List ℕ
apic_of row = take 48 (drop 32 row)

abbrev pub pair_of : List ℕ → List ℕ
pair_of row = take 4 (drop 80 row)

abbrev pub chips_of : List ℕ → Chips
chips_of row = chips (io_of row) (apic_of row) (pair_of row)

-- the mode is spelled 0 or 1, and each chip keeps its rules
unfoldable pub row_keeps : List ℕ → Bool
row_keeps row = ltb (get_or row 32 0) 2 && (ioapic_keeps (view (io_of row)) && (apic_keeps (apic_of row) && keeps_pair (pairView (pair_of row))))

-- the chips of the 84 words, if they keep their rules
abbrev pub kept_chips : List ℕ → Option (List ℕ × List ℕ × List ℕ)
kept_chips row = cond (row_keeps row) (Some (io_of row, apic_of row, pair_of row)) None

-- where an image's numbers go: base and size are the same on every board, and the other words that the format hasn't are 0
unfoldable pub blank : List ℕ
blank = replicate 27 0 ++ (0xfec00000 ∷ 0x1000 ∷ replicate 55 0)

unfoldable pub row_in : List ℕ → List ℕ
row_in s = words_in s blank

abbrev pub not_restored : Chips → Outcome Chips
not_restored before = outcome_of before (Refused BadImage)

unfoldable pub put_back : List ℕ → Chips → Outcome Chips
put_back row before = cond (row_keeps row) (outcome_of (chips_of row) Nothing) (not_restored before)

unfoldable pub restored : List ℕ → Chips → Outcome Chips
restored s before = cond (is_read s) (put_back (row_in s) before) (not_restored before)
