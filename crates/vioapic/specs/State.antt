-- The I/O APIC's state: its registers, its inputs and where it is; and the 32 words that hold it (include/sillwander.h):
--    0..23   the redirection entries' registers
--   24       bit g: a level interrupt of entry g was deferred
--   25       bit g: line g is up
--   26       the selector, bits 31..0
--   27, 28   base address and size
--   29       the version: 0x20; any other number is 0x11
--   30       bit g: entry g is in flight
--   31       spare
use Rattle.std.specs.Prelude.{ℕ, zero, suc, ◌/◌, ◌%◌, ◌^◌, List, [], ◌∷◌, ◌++◌, ◌≡◌, length, get_or, replicate}
use Rattle.utils.specs.Set.{bit}
use Rattle.vioapic_entry.specs.declared.Entry.{Entry}

pub record IoApicState : Type 0 where
  pub base : ℕ
  pub size : ℕ
  pub version : ℕ  -- 0x20; any other number is 0x11
  pub selector : ℕ
  pub in_flight : ℕ  -- the set of the lines in flight: Remote IRR of each entry again, so that an EOI needn't look at the others
  pub entries : List Entry

-- entry g in the words
abbrev pub entry_in : List ℕ → ℕ → Entry
entry_in l g = record { word = get_or l g 0; pending_level = bit (get_or l 24 0) g; input_level = bit (get_or l 25 0) g }

-- n entries from the i-th
unfoldable pub entries_from : List ℕ → ℕ → ℕ → List Entry
entries_from l i zero = []
entries_from l i (suc n) = entry_in l i ∷ entries_from l (suc i) n

-- the state that any words stand for
unfoldable pub view : List ℕ → IoApicState
view l = record {
  base = get_or l 27 0;
  size = get_or l 28 0;
  version = get_or l 29 0;
  selector = get_or l 26 0 % 2 ^ 32;
  in_flight = get_or l 30 0 % 2 ^ 24;
  entries = entries_from l 0 24;
}

-- what isn't looked at, and stays as it is: the upper bits of words 24, 25, 26 and 30, and the spare word; every other bit is the state's
unfoldable pub spare : List ℕ → List ℕ
spare l = get_or l 24 0 / 2 ^ 24 ∷ get_or l 25 0 / 2 ^ 24 ∷ get_or l 26 0 / 2 ^ 32 ∷ get_or l 30 0 / 2 ^ 24 ∷ get_or l 31 0 ∷ []

-- nothing else is in the words, so that an equation of both is one of all of them
abbrev pub Whole : Type 0
Whole = (a b : List ℕ) → length a ≡ 32 → length b ≡ 32 → view a ≡ view b → spare a ≡ spare b → a ≡ b

-- a new state's words: every entry masked, the lines down, nothing deferred
abbrev pub new_words : ℕ → ℕ → ℕ → List ℕ
new_words version base size = replicate 24 0x10000 ++ (0 ∷ 0 ∷ 0 ∷ base ∷ size ∷ version ∷ 0 ∷ 0 ∷ [])
