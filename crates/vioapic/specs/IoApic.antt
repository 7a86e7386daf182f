-- The public calls of the I/O APIC: for each the complete state after it, and its reply in document 01's numbers.
-- 82093AA: the memory map (base address 0xFEC00000, 32-bit accesses; D-47: 8-byte accesses are served).
use Rattle.std.specs.Prelude.{ℕ, ◌+◌, ◌-◌, ◌%◌, ◌^◌, Bool, cond, ◌||◌, List, ◌≡◌, eqb, leb, true, false, replicate, Result, Err, MatchResult}
use Rattle.types.specs.Reply.{Outcome, Kept}
use Rattle.types.specs.declared.Gsi.{Gsi}
use Rattle.types.specs.declared.Vector.{Vector}
use Rattle.types.specs.declared.Refusal.{Refusal}
use Rattle.types.specs.declared.Refusal.TheVariants.{Unsupported, InvalidAddress}
use Rattle.types.specs.declared.Reply.{Reply}
use Rattle.types.specs.declared.Reply.TheVariants.{Refused, Nothing, One, Two, Three}
use Rattle.vioapic_entry.specs.Answers.{routed_reply}
use Rattle.vioapic.specs.declared.IoApicVersion.{IoApicVersion}
use Rattle.vioapic.specs.declared.IoApicVersion.TheVariants.{V11, V20}
use Rattle.vioapic.specs.Answers.{eoi_reply, gsi_vector_reply, written_reply}
use Rattle.vioapic.specs.State.{IoApicState, view, spare}
use Rattle.vioapic.specs.Table.{Routing, Ending, new_entry, interrupt_for_entry, set_level, end_of, vector_for}
use Rattle.vioapic.specs.Registers.{Writing, writing, read_at, write_at}
use Rattle.vioapic.specs.declared.Written.{Written}

-- ---- what a call leaves

abbrev pub routing_outcome : Routing → Outcome IoApicState
routing_outcome r = record { state = r.state; reply = routed_reply r.answer }

abbrev pub ending_outcome : Ending → Outcome IoApicState
ending_outcome r = record { state = r.state; reply = eoi_reply r.answer }

abbrev pub writing_outcome : Writing → Outcome IoApicState
writing_outcome r = record { state = r.state; reply = written_reply r.answer }

-- refused, the state as it was
abbrev pub refuse : IoApicState → Refusal → Outcome IoApicState
refuse m why = record { state = m; reply = Refused why }

-- a call over lent words, with its reply: its outcome; refused, the words untouched; and what isn't looked at stays as it is. Outcome and
-- `kept` say what every bit is (`Whole` of State.antt); `untouched` says the same of a refused call in one word
pub record Leaves (before after : List ℕ) (r : Reply) (o : Outcome IoApicState) : Type 0 where
  pub outcome : record { state = view after; reply = r } ≡ o
  pub untouched : Kept r before after
  pub kept : spare after ≡ spare before

-- the same of a write, with its answer: a reply of two values doesn't tell a send from an EOI
pub record Wrote (before after : List ℕ) (r : Result Written Refusal) (w : Writing) : Type 0 where
  pub outcome : writing (view after) r ≡ w
  pub untouched : Kept (written_reply r) before after
  pub kept : spare after ≡ spare before

-- the words after a call that makes a new state: those, or if it is refused the words untouched
abbrev pub new_or : Reply → List ℕ → List ℕ → List ℕ
new_or (Refused why) new before = before
new_or Nothing new before = new
new_or (One a) new before = new
new_or (Two a b) new before = new
new_or (Three a b c) new before = new

pub record Makes (before after : List ℕ) (r : Reply) (o : Outcome IoApicState) (new : List ℕ) : Type 0 where
  pub outcome : record { state = view after; reply = r } ≡ o
  pub words : after ≡ new_or r new before

-- ---- a new state

-- a version's number, as IOAPICVER has it; the version of a number, 0x11 for any but 0x20; whether there is one of that number
abbrev pub version_number : IoApicVersion → ℕ
version_number V11 = 0x11
version_number V20 = 0x20

abbrev pub version_of : ℕ → IoApicVersion
version_of n = cond (eqb n 0x20) V20 V11

abbrev pub is_version : ℕ → Bool
is_version n = eqb n 0x11 || eqb n 0x20

-- what a number names: its version, or no version, which is refused
abbrev pub NamesVersion : ℕ → Result IoApicVersion Refusal → Type 0
NamesVersion n r =
    MatchResult r (λ v. (is_version n ≡ true) × (v ≡ version_of n)) (λ why. (is_version n ≡ false) × (why ≡ Unsupported))

-- the range ends below 2^64
abbrev pub fits : ℕ → ℕ → Bool
fits base size = leb (base + size) (2 ^ 64 - 1)

-- a new state there, in either version
abbrev pub chip_of : ℕ → ℕ → ℕ → IoApicState
chip_of version base size =
    record { base = base; size = size; version = version; selector = 0; in_flight = 0; entries = replicate 24 new_entry }

-- and in version 0x20, which a new state has if nothing else is asked for (document 02, T-14)
abbrev pub chip_at : ℕ → ℕ → IoApicState
chip_at base size = chip_of 0x20 base size

abbrev pub made : IoApicState → Outcome IoApicState
made s = record { state = s; reply = Nothing }

-- `new_version`, and `new` with version 0x20, in the place of the state m: its range alone can be refused
unfoldable pub created_version : IoApicState → ℕ → ℕ → IoApicVersion → Outcome IoApicState
created_version m base size version = cond (fits base size) (made (chip_of (version_number version) base size)) (refuse m InvalidAddress)

-- `new_default`, and by value `new_default_version` is `chip_of` there
abbrev pub new_default : IoApicState
new_default = chip_at 0xfec00000 0x1000

-- ---- lines and EOIs

-- `assert_gsi`
unfoldable pub assert_gsi : IoApicState → Gsi → Outcome IoApicState
assert_gsi m gsi = routing_outcome (interrupt_for_entry m gsi)

-- `set_gsi_level`
unfoldable pub set_gsi_level : IoApicState → Gsi → Bool → Outcome IoApicState
set_gsi_level m gsi up = routing_outcome (set_level m gsi up)

-- `end_of_interrupt`
unfoldable pub end_of_interrupt : IoApicState → Vector → Outcome IoApicState
end_of_interrupt m v = ending_outcome (end_of m v)

-- `vector_for_gsi`, which leaves the state as it is
unfoldable pub vector_for_gsi : IoApicState → Gsi → Reply
vector_for_gsi m gsi = gsi_vector_reply (vector_for m gsi)

-- ---- the memory map

-- widths 4 and 8 are served
abbrev pub good_width : ℕ → Bool
good_width width = eqb width 4 || eqb width 8

-- `address_range`, which leaves the state as it is
unfoldable pub address_range : IoApicState → Reply
address_range m = cond (fits m.base m.size) (Two m.base (m.base + m.size)) (Refused InvalidAddress)

-- `handle_read`, likewise: the width is tested first
unfoldable pub handle_read : IoApicState → ℕ → ℕ → Reply
handle_read m addr width =
    cond (good_width width)
    (cond (leb m.base addr) (One (read_at m (addr - m.base))) (Refused InvalidAddress))
    (Refused Unsupported)

-- `handle_write`: the value is taken modulo 2^32
abbrev pub handle_writing : IoApicState → ℕ → ℕ → ℕ → Writing
handle_writing m addr width x =
    cond (good_width width)
    (cond (leb m.base addr) (write_at m (addr - m.base) (x % 2 ^ 32)) (writing m (Err InvalidAddress)))
    (writing m (Err Unsupported))

unfoldable pub handle_write : IoApicState → ℕ → ℕ → ℕ → Outcome IoApicState
handle_write m addr width x = writing_outcome (handle_writing m addr width x)
