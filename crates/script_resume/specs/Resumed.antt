-- A guest that is moved (document 02, T-11): its board and its pair come from an image, or are new where there is none; a script goes on with them; and there is the image after it.
use Rattle.std.specs.Prelude.{ℕ, Bool, true, false, cond, ◌&&◌, ◌||◌, List, ◌≡◌, eqb, ltb, get_or, length, take, drop, Result, Ok, Err}
use Rattle.vpic.specs.Words.{view}
use Rattle.board.specs.Board.{board_in}
use Rattle.image_format.specs.Image.{image_of, image_size}
use Rattle.image_format.specs.Reading.{is_read}
use Rattle.image.specs.Words.{gathered}
use Rattle.image.specs.Restore.{Chips, chips_of, row_in, row_keeps}
use Rattle.reply_text.specs.Text.{Puts}
use Rattle.types.specs.declared.Refusal.{Refusal}
use Rattle.types.specs.declared.Refusal.TheVariants.{BadImage}
use Rattle.script_machine.specs.Machine.{Machine, new_machine}
use Rattle.script_print.specs.Printed.{printed_from, machine_after}
use Rattle.script_resume.specs.declared.Resumed.{Resumed}

-- ---- where a run starts

-- m with these chips for its board and its pair. The pair was chosen before, so that no field chooses it any more
abbrev pub moved : Machine → Chips → Machine
moved m c = record {
  ioapic = m.ioapic;
  pic = view c.pair;
  local = m.local;
  board = board_in c.io c.apic;
  used = record { io = m.used.io; pic = true };
}

abbrev pub is_none : List ℕ → Bool
is_none image = eqb (length image) 0

-- an image that a restore takes, or none
abbrev pub is_taken : List ℕ → Bool
is_taken image = is_read image && row_keeps (row_in image)

abbrev pub is_start : List ℕ → Bool
is_start image = is_none image || is_taken image

-- what is answered: an image that isn't taken is refused with 10
abbrev pub started : List ℕ → Result (Unit {0}) Refusal
started image = cond (is_start image) (Ok tt) (Err BadImage)

-- the machine that a run starts with: a new one, with the image's board and pair
unfoldable pub start_of : List ℕ → Machine
start_of image = cond (is_none image) new_machine (cond (is_taken image) (moved new_machine (chips_of (row_in image))) new_machine)

-- ---- a run

-- what a run from an image leaves: of the text, all that is printed, at its start; the machine after the script, whose words hold the chips c; their image
abbrev pub Ran : List ℕ → List ℕ → List ℕ → List ℕ → List ℕ → Machine → Chips → ℕ → ℕ → Type 0
Ran image script text text' after' m c end size =
    Puts text 0 (printed_from script (start_of image)) text' end
    × (m ≡ machine_after script (start_of image))
    × (after' ≡ image_of (gathered c.io c.apic c.pair))
    × (size ≡ image_size)

-- an image that isn't taken: nothing is run, and nothing put
abbrev pub NotRun : List ℕ → List ℕ → List ℕ → List ℕ → Type 0
NotRun text text' after after' = (text' ≡ text) × (after' ≡ after)

abbrev pub Goes : List ℕ → List ℕ → List ℕ → List ℕ → List ℕ → List ℕ → Machine → Chips → Result Resumed Refusal → Type 0
Goes image script text text' after after' m c (Ok r) = (is_start image ≡ true) × Ran image script text text' after' m c r.end r.size
Goes image script text text' after after' m c (Err why) = (is_start image ≡ false) × ((why ≡ BadImage) × NotRun text text' after after')

-- ---- the program's input: an image, which starts with the tag of its group, and a script behind it; or a script

abbrev pub image_tag : ℕ
image_tag = 0x80

abbrev pub head_size : List ℕ → ℕ
head_size s = cond (eqb (get_or s 0 0) image_tag) (cond (ltb (length s) image_size) (length s) image_size) 0

abbrev pub image_in : List ℕ → List ℕ
image_in s = take (head_size s) s

abbrev pub script_in : List ℕ → List ℕ
script_in s = drop (head_size s) s
