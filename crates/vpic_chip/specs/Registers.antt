-- The registers of one 8259A, and the word that holds them: include/sillwander.h has the same layout.
use Rattle.std.specs.Prelude.{ℕ, ◌+◌, ◌/◌, ◌%◌, ◌^◌, Bool, true, false}
use Rattle.utils.specs.Set.{bit}

pub record Chip : Type 0 where
  pub vector_base : ℕ
  pub mask : ℕ  -- IMR
  pub request : ℕ  -- IRR
  pub in_service : ℕ  -- ISR
  pub init_step : ℕ  -- which ICW the data port takes next; 0, and any number from 4 up: none
  pub needs_icw4 : Bool
  pub single : Bool
  pub auto_eoi : Bool
  pub read_isr : Bool
  pub full : Bool  -- whether the chip is a full 8259A (the pair's rule says so: the full profile)
  pub cascades : Bool  -- whether the slave hangs on its line 2 (its place in the pair says so: the full profile's master)
  pub lowest_line : ℕ  -- the line of lowest priority
  pub auto_rotation : Bool  -- rotation in automatic EOI mode
  pub special_mask : Bool  -- special mask mode
  pub poll : Bool  -- a poll waits for the next read
  pub nested : Bool  -- special fully nested mode
  pub spare : ℕ  -- the bits of the word that stand for nothing: nothing reads them, and a new chip alone doesn't keep them

-- the chip of these registers
abbrev pub registers : ℕ → ℕ → ℕ → ℕ → ℕ → Bool → Bool → Bool → Bool → Bool → Bool → ℕ → Bool → Bool → Bool → Bool → ℕ → Chip
registers base mask irr isr step icw4 sngl aeoi ris full cascades low rot smm poll sfnm spare = record {
  vector_base = base;
  mask = mask;
  request = irr;
  in_service = isr;
  init_step = step;
  needs_icw4 = icw4;
  single = sngl;
  auto_eoi = aeoi;
  read_isr = ris;
  full = full;
  cascades = cascades;
  lowest_line = low;
  auto_rotation = rot;
  special_mask = smm;
  poll = poll;
  nested = sfnm;
  spare = spare;
}

-- a chip that isn't a full one, with what is left of its word: its line 7 is lowest, and all modes of the full profile are off
abbrev pub plain_registers : ℕ → ℕ → ℕ → ℕ → ℕ → Bool → Bool → Bool → Bool → ℕ → Chip
plain_registers base mask irr isr step icw4 sngl aeoi ris spare = registers base mask irr isr step icw4 sngl aeoi ris false false 7 false false false false spare

-- such a chip where the rest of the word is 0
abbrev pub chip : ℕ → ℕ → ℕ → ℕ → ℕ → Bool → Bool → Bool → Bool → Chip
chip base mask irr isr step icw4 sngl aeoi ris = plain_registers base mask irr isr step icw4 sngl aeoi ris 0

-- c with another register
abbrev pub with_base : Chip → ℕ → Chip
with_base c x = registers x c.mask c.request c.in_service c.init_step c.needs_icw4 c.single c.auto_eoi c.read_isr c.full c.cascades c.lowest_line c.auto_rotation c.special_mask c.poll c.nested c.spare

abbrev pub with_mask : Chip → ℕ → Chip
with_mask c x = registers c.vector_base x c.request c.in_service c.init_step c.needs_icw4 c.single c.auto_eoi c.read_isr c.full c.cascades c.lowest_line c.auto_rotation c.special_mask c.poll c.nested c.spare

abbrev pub with_request : Chip → ℕ → Chip
with_request c x = registers c.vector_base c.mask x c.in_service c.init_step c.needs_icw4 c.single c.auto_eoi c.read_isr c.full c.cascades c.lowest_line c.auto_rotation c.special_mask c.poll c.nested c.spare

abbrev pub with_in_service : Chip → ℕ → Chip
with_in_service c x = registers c.vector_base c.mask c.request x c.init_step c.needs_icw4 c.single c.auto_eoi c.read_isr c.full c.cascades c.lowest_line c.auto_rotation c.special_mask c.poll c.nested c.spare

abbrev pub with_step : Chip → ℕ → Chip
with_step c x = registers c.vector_base c.mask c.request c.in_service x c.needs_icw4 c.single c.auto_eoi c.read_isr c.full c.cascades c.lowest_line c.auto_rotation c.special_mask c.poll c.nested c.spare

abbrev pub with_auto_eoi : Chip → Bool → Chip
with_auto_eoi c x = registers c.vector_base c.mask c.request c.in_service c.init_step c.needs_icw4 c.single x c.read_isr c.full c.cascades c.lowest_line c.auto_rotation c.special_mask c.poll c.nested c.spare

abbrev pub with_read_isr : Chip → Bool → Chip
with_read_isr c x = registers c.vector_base c.mask c.request c.in_service c.init_step c.needs_icw4 c.single c.auto_eoi x c.full c.cascades c.lowest_line c.auto_rotation c.special_mask c.poll c.nested c.spare

abbrev pub with_lowest : Chip → ℕ → Chip
with_lowest c x = registers c.vector_base c.mask c.request c.in_service c.init_step c.needs_icw4 c.single c.auto_eoi c.read_isr c.full c.cascades x c.auto_rotation c.special_mask c.poll c.nested c.spare

abbrev pub with_auto_rotation : Chip → Bool → Chip
with_auto_rotation c x = registers c.vector_base c.mask c.request c.in_service c.init_step c.needs_icw4 c.single c.auto_eoi c.read_isr c.full c.cascades c.lowest_line x c.special_mask c.poll c.nested c.spare

abbrev pub with_special_mask : Chip → Bool → Chip
with_special_mask c x = registers c.vector_base c.mask c.request c.in_service c.init_step c.needs_icw4 c.single c.auto_eoi c.read_isr c.full c.cascades c.lowest_line c.auto_rotation x c.poll c.nested c.spare

abbrev pub with_poll : Chip → Bool → Chip
with_poll c x = registers c.vector_base c.mask c.request c.in_service c.init_step c.needs_icw4 c.single c.auto_eoi c.read_isr c.full c.cascades c.lowest_line c.auto_rotation c.special_mask x c.nested c.spare

abbrev pub with_nested : Chip → Bool → Chip
with_nested c x = registers c.vector_base c.mask c.request c.in_service c.init_step c.needs_icw4 c.single c.auto_eoi c.read_isr c.full c.cascades c.lowest_line c.auto_rotation c.special_mask c.poll x c.spare

-- the chip in a word, where the pair's rule isn't the full profile: base, mask, requests, in service and step are a byte each, then come four flags, and what is left
unfoldable pub chip_in : ℕ → Chip
chip_in w = plain_registers (w % 2 ^ 8) (w / 2 ^ 8 % 2 ^ 8) (w / 2 ^ 16 % 2 ^ 8) (w / 2 ^ 24 % 2 ^ 8) (w / 2 ^ 32 % 2 ^ 8) (bit w 40) (bit w 41) (bit w 42) (bit w 43) (w / 2 ^ 44)

-- in the full profile what is left begins with its registers: three bits are the highest line, which the lowest stands before, then come rotation in automatic EOI mode, special
-- mask mode, whether a poll waits, and special fully nested mode. A chip without a place in a pair has no slave
abbrev pub as_full : Chip → Chip
as_full c =
    registers c.vector_base c.mask c.request c.in_service c.init_step c.needs_icw4 c.single c.auto_eoi c.read_isr true false ((c.spare + 7) % 2 ^ 3) (bit c.spare 3) (bit c.spare 4) (bit c.spare 5) (bit c.spare 6) (c.spare / 2 ^ 7)

abbrev pub full_in : ℕ → Chip
full_in w = as_full (chip_in w)

-- the same chip as the pair's master, or as its slave
abbrev pub placed : Bool → Chip → Chip
placed cascades c =
    registers c.vector_base c.mask c.request c.in_service c.init_step c.needs_icw4 c.single c.auto_eoi c.read_isr c.full cascades c.lowest_line c.auto_rotation c.special_mask c.poll c.nested c.spare
