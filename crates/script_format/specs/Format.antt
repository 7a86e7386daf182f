-- The format of a script's fields (document 01, "Scripts"; 06, 16 and 30 to 35, document 02), as one table: for each tag the sizes of the numbers in its body, and the call that they make.
use Rattle.std.specs.Prelude.{ℕ, zero, suc, ◌+◌, ◌*◌, ◌/◌, ◌%◌, Bool, true, not, cond, ◌&&◌, ◌||◌, List, [], ◌∷◌, ◌++◌, eqb, length, get_or, Option, Some, None}
use Rattle.vioapic.specs.IoApic.{is_version, version_of}
use Rattle.vpic.specs.Pair.{is_rule, rule_in}
use Rattle.script_format.specs.declared.IoCall.TheVariants as io
use Rattle.script_format.specs.declared.PicCall.TheVariants as pic
use Rattle.script_format.specs.declared.ApicCall.TheVariants as apic
use Rattle.script_format.specs.declared.BoardCall.TheVariants as board
use Rattle.script_format.specs.declared.Call.{Call}
use Rattle.script_format.specs.declared.Call.TheVariants.{Io, IoVersion, Pic, PicRule, Apic, Board}

-- ---- numbers

-- the number of n bytes from byte k on, the low byte first
unfoldable pub number_at : List ℕ → ℕ → ℕ → ℕ
number_at body k zero = 0
number_at body k (suc n) = get_or body k 0 + 256 * number_at body (suc k) n

-- numbers of the given sizes, one after the other from byte k on
abbrev pub numbers_at : List ℕ → List ℕ → ℕ → List ℕ
numbers_at [] body k = []
numbers_at (n ∷ ns) body k = number_at body k n ∷ numbers_at ns body (k + n)

abbrev pub total : List ℕ → ℕ
total [] = 0
total (n ∷ ns) = n + total ns

-- flags: nonzero; and bits 0 and 1
abbrev pub nonzero : ℕ → Bool
nonzero x = not (eqb x 0)

abbrev pub bit0 : ℕ → Bool
bit0 x = eqb (x % 2) 1

abbrev pub bit1 : ℕ → Bool
bit1 x = eqb (x / 2 % 2) 1

-- ---- what a body's first number may be

abbrev pub anything : ℕ → Bool
anything x = true

-- the width of an access: 1, 2, 4 or 8
abbrev pub is_width : ℕ → Bool
is_width w = eqb w 1 || (eqb w 2 || (eqb w 4 || eqb w 8))

-- ---- the table

pub record Format : Type 0 where
  pub tag : ℕ
  pub start : ℕ → Bool  -- what the body's first number may be
  pub sizes : List ℕ  -- of the body's numbers, in bytes
  pub call : (ℕ → ℕ) → Call  -- that the numbers make

abbrev pub format : ℕ → (ℕ → Bool) → List ℕ → ((ℕ → ℕ) → Call) → Format
format tag start sizes call = record { tag = tag; start = start; sizes = sizes; call = call }

-- the I/O APIC's
abbrev pub io_formats : List Format
io_formats =
    format 0x01 is_width (1 ∷ 8 ∷ []) (λ n. Io (io.HandleRead (n 1) (n 0)))  -- width, address
    ∷ format 0x02 is_width (1 ∷ 8 ∷ 8 ∷ []) (λ n. Io (io.HandleWrite (n 1) (n 0) (n 2)))  -- width, address, value
    ∷ format 0x03 anything (1 ∷ 1 ∷ []) (λ n. Io (io.SetGsiLevel (record { 0 = n 0 }) (nonzero (n 1))))  -- GSI, up
    ∷ format 0x04 anything (1 ∷ []) (λ n. Io (io.AssertGsi (record { 0 = n 0 })))  -- GSI
    ∷ format 0x05 anything (1 ∷ []) (λ n. Io (io.EndOfInterrupt (record { 0 = n 0 })))  -- vector
    ∷ format 0x06 is_version (1 ∷ []) (λ n. IoVersion (version_of (n 0)))  -- version: 0x11 or 0x20
    ∷ []

-- the pair's
abbrev pub pic_formats : List Format
pic_formats =
    format 0x10 is_width (1 ∷ 2 ∷ []) (λ n. Pic (pic.HandleRead (n 1) (n 0)))  -- width, port
    ∷ format 0x11 is_width (1 ∷ 2 ∷ 8 ∷ []) (λ n. Pic (pic.HandleWrite (n 1) (n 0) (n 2)))  -- width, port, value
    ∷ format 0x12 anything (1 ∷ []) (λ n. Pic (pic.ClaimIrq (record { 0 = n 0 })))  -- line
    ∷ format 0x13 anything [] (λ n. Pic pic.ClaimPendingInterrupt)
    ∷ format 0x14 anything (1 ∷ 1 ∷ 1 ∷ [])  -- vector, line, flags: 1 master, 2 slave
    (λ n. Pic (pic.RestoreInterrupt (record {
      vector = record { 0 = n 0 };
      irq = record { 0 = n 1 };
      master_in_service = bit0 (n 2);
      slave_in_service = bit1 (n 2);
    })))
    ∷ format 0x16 is_rule (1 ∷ []) (λ n. PicRule (rule_in (n 0)))  -- rule: 0, 1 or 2
    ∷ []

-- the local APIC's
abbrev pub apic_formats : List Format
apic_formats =
    format 0x20 anything (1 ∷ 1 ∷ []) (λ n. Apic (apic.AcceptInterrupt (record { 0 = n 0 }) (nonzero (n 1))))  -- vector, level
    ∷ format 0x21 is_width (1 ∷ 2 ∷ 8 ∷ []) (λ n. Apic (apic.HandleWrite (n 1) (n 0) (n 2)))  -- width, offset, value
    ∷ format 0x22 anything [] (λ n. Apic apic.HandleEoi)
    ∷ format 0x23 anything (2 ∷ []) (λ n. Apic (apic.HandleRead (n 0)))  -- offset
    ∷ format 0x24 anything (1 ∷ 1 ∷ 1 ∷ 8 ∷ []) (λ n. Apic (apic.Setup (nonzero (n 0)) (record { 0 = n 1 }) (n 2) (n 3)))  -- x2APIC mode, id, count, active
    ∷ []

-- the board's
abbrev pub board_formats : List Format
board_formats =
    format 0x30 anything (1 ∷ 1 ∷ []) (λ n. Board (board.SetGsiLevel (record { 0 = n 0 }) (nonzero (n 1))))  -- GSI, up
    ∷ format 0x31 anything [] (λ n. Board board.AcceptInterrupt)
    ∷ format 0x32 anything [] (λ n. Board board.HandleEoi)
    ∷ format 0x33 anything (1 ∷ []) (λ n. Board (board.WriteTpr (n 0)))  -- value
    ∷ format 0x34 is_width (1 ∷ 8 ∷ 8 ∷ []) (λ n. Board (board.HandleWrite (n 1) (n 0) (n 2)))  -- width, address, value
    ∷ format 0x35 anything (1 ∷ 1 ∷ []) (λ n. Board (board.Receive (record { 0 = n 0 }) (nonzero (n 1))))  -- vector, level
    ∷ []

abbrev pub formats : List Format
formats = io_formats ++ (pic_formats ++ (apic_formats ++ board_formats))

-- ---- a body

-- the call, if the body has its size and its first number may stand there
abbrev pub checked : List ℕ → ℕ → Bool → Call → Option Call
checked body size mayStart call = cond (eqb (length body) size && mayStart) (Some call) None

abbrev pub decoded_by : Format → List ℕ → Option Call
decoded_by f body =
    checked body (total f.sizes) (f.start (number_at body 0 1)) (f.call (λ i. get_or (numbers_at f.sizes body 0) i 0))

-- the first row with the tag decides; a tag that no row has is unknown
abbrev pub decoded_in : List Format → ℕ → List ℕ → Option Call
decoded_in [] tag body = None
decoded_in (f ∷ fs) tag body = cond (eqb tag f.tag) (decoded_by f body) (decoded_in fs tag body)

unfoldable pub decoded : ℕ → List ℕ → Option Call
decoded tag body = decoded_in formats tag body
