-- An image and the state that it holds (document 02, T-11). One state has one image; what was written is read back; an image that is taken is the one that its state writes; so 10 is for
-- exactly the bytes that no state writes that keeps the rules.
use Rattle.std.specs.Prelude.{ℕ, ◌^◌, ◌<◌, List, ◌≡◌, get_or}
use Rattle.types.specs.declared.Reply.TheVariants.{Refused, Nothing}
use Rattle.types.specs.declared.Refusal.TheVariants.{BadImage}
use Rattle.types.specs.Reply.{Outcome}
use Rattle.vpic_chip.specs.Registers.{Chip, registers}
use Rattle.vpic.specs.Words.{view as pairView}
use Rattle.board.specs.Board.{board_in}
use Rattle.image_format.specs.Image.{image_of}
use Rattle.image.specs.Words.{gathered}
use Rattle.image.specs.Restore.{Chips, restored}
use Rattle.image_state_theorems.specs.Rules.{State, StateRules}

-- the state that the chips' words stand for
unfoldable pub state_in : Chips → State
state_in c = record { board = board_in c.io c.apic; pair = pairView c.pair }

-- the image that a save of them writes
unfoldable pub image_in : Chips → List ℕ
image_in c = image_of (gathered c.io c.apic c.pair)

-- words have 64 bits: so have the redirection registers
abbrev pub Words : Chips → Type 0
Words c = (k : ℕ) → k < 24 → get_or c.io k 0 < 2 ^ 64

-- bytes have 8
abbrev pub Bytes : List ℕ → Type 0
Bytes s = (k : ℕ) → get_or s k 0 < 256

-- one state has one image, whatever the words hold besides
abbrev pub OneImage : Type 0
OneImage = (c d : Chips) → state_in c ≡ state_in d → image_in c ≡ image_in d

-- a restore took the image: it left the state s
pub record Took (s : State) (o : Outcome Chips) : Type 0 where
  pub reply : o.reply ≡ Nothing
  pub state : state_in o.state ≡ s

-- what a state that keeps the rules writes is read back, over any words
abbrev pub ReadBack : Type 0
ReadBack = (c before : Chips) → Words c → StateRules (state_in c) → Took (state_in c) (restored (image_in c) before)

-- and so it is where bits are set that stand for nothing: they are 0 in the state that is read
abbrev pub cleared_chip : Chip → Chip
cleared_chip c =
    registers c.vector_base c.mask c.request c.in_service c.init_step c.needs_icw4 c.single c.auto_eoi c.read_isr c.full c.cascades c.lowest_line c.auto_rotation c.special_mask c.poll c.nested 0

abbrev pub cleared : State → State
cleared s = record { board = s.board; pair = record { rule = s.pair.rule; master = cleared_chip s.pair.master; slave = cleared_chip s.pair.slave; spare = 0 } }

abbrev pub ReadBackCleared : Type 0
ReadBackCleared = (c before : Chips) → Words c → StateRules (cleared (state_in c)) → Took (cleared (state_in c)) (restored (image_in c) before)

-- what is taken keeps the rules, and is the image that its state writes
pub record Written (s : List ℕ) (c : Chips) : Type 0 where
  pub words : Words c
  pub rules : StateRules (state_in c)
  pub image : image_in c ≡ s

abbrev pub TakenIsWritten : Type 0
TakenIsWritten = (s : List ℕ) (before : Chips) → Bytes s → (restored s before).reply ≡ Nothing → Written s (restored s before).state

-- so two images that are taken and leave one state are the same bytes
abbrev pub SameBytes : Type 0
SameBytes =
    (s t : List ℕ) (before other : Chips)
    → Bytes s
    → Bytes t
    → (restored s before).reply ≡ Nothing
    → (restored t other).reply ≡ Nothing
    → state_in (restored s before).state ≡ state_in (restored t other).state
    → s ≡ t

-- and an image is taken exactly if a state writes it that keeps the rules; else the answer is 10, and the words are as they were
pub record Refused10 (before : Chips) (o : Outcome Chips) : Type 0 where
  pub reply : o.reply ≡ Refused BadImage
  pub kept : o.state ≡ before

abbrev pub TenIfNoneWrites : Type 0
TenIfNoneWrites = (s : List ℕ) (before : Chips) → Bytes s → ((c : Chips) → Written s c → ⊥) → Refused10 before (restored s before)

abbrev pub TenOnlyIfNoneWrites : Type 0
TenOnlyIfNoneWrites = (s : List ℕ) (before c : Chips) → Written s c → (restored s before).reply ≡ Refused BadImage → ⊥
