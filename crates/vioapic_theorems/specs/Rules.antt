-- The rules that a chip keeps, and what holds of every public call.
-- 82093AA: IOREDTBL, Remote IRR (defined for level entries).
use Rattle.std.specs.Prelude.{ℕ, ◌≤◌, ◌<◌, Bool, true, false, cond, ◌&&◌, ◌||◌, List, ◌≡◌, refl, length}
use Rattle.utils.specs.Set.{bit}
use Rattle.types.specs.Reply.{reply_number}
use Rattle.vioapic_entry.specs.Redirection.{remote_irr, is_level, is_fit}
use Rattle.vioapic.specs.Table.{is_version20, entry_at}
use Rattle.vioapic.specs.Agreement.{Agrees}
use Rattle.vioapic.specs.Registers.{entry_of}
use Rattle.vioapic.specs.IoApic.{chip_of}
use Rattle.vioapic.specs.Calls.{Call, outcome, next, run}
use Rattle.vioapic_entry.specs.declared.Entry.{Entry}
use Rattle.vioapic.specs.State.{IoApicState}

abbrev pub implies : Bool → Bool → Bool
implies a b = cond a b true

-- an entry's rules: deferred only in flight; in flight only level; and, in version 0x11 alone, in flight only fit to be sent
abbrev pub entry_rules : Bool → Entry → Bool
entry_rules version20 e =
    implies e.pending_level (remote_irr e.word) && implies (remote_irr e.word) (is_level e.word && (version20 || is_fit e.word))

-- each of the three is broken by some entry: deferred and not in flight; in flight and edge; in flight and masked, which version 0x20 allows
abbrev pub resting_at : ℕ → Bool → Entry
resting_at w deferred = record { word = w; pending_level = deferred; input_level = false }

pub rules_broken : (entry_rules false (resting_at 0x8030 true) ≡ false) × (entry_rules false (resting_at 0x4030 false) ≡ false) × (entry_rules false (resting_at 0x1C030 false) ≡ false)
rules_broken = (refl, refl, refl)

pub rules_broken_20 : (entry_rules true (resting_at 0x8030 true) ≡ false) × (entry_rules true (resting_at 0x4030 false) ≡ false) × (entry_rules true (resting_at 0x1C030 false) ≡ true)
rules_broken_20 = (refl, refl, refl)

-- a chip's rules: 24 entries and a word of lines in flight that agrees with them, and each entry keeps its version's
pub record ChipRules (s : IoApicState) : Type 0 where
  pub agrees : Agrees s
  pub each : (j : ℕ) → j < 24 → entry_rules (is_version20 s) (entry_at s j) ≡ true

-- a new chip keeps the rules, in either version
abbrev pub NewKeepsRules : Type 0
NewKeepsRules = (version base size : ℕ) → ChipRules (chip_of version base size)

-- every public call keeps them
abbrev pub CallsKeepRules : Type 0
CallsKeepRules = (m : IoApicState) (c : Call) → ChipRules m → ChipRules (next m c)

-- and so does a run of calls
abbrev pub RunsKeepRules : Type 0
RunsKeepRules = (m : IoApicState) (cs : List Call) → ChipRules m → ChipRules (run m cs)

-- ---- beside the rules

-- something holds of each of the 24 entries
pub record AllOf (P : Entry → Type 0) (s : IoApicState) : Type 0 where
  pub table : length s.entries ≡ 24
  pub each : (j : ℕ) → j < 24 → P (entry_at s j)

-- version 0x20: Delivery Status, bit 12, is clear in every register. True of a new chip, and kept by every call
abbrev pub Clear : Entry → Type 0
Clear e = bit e.word 12 ≡ false

abbrev pub StatusClear : IoApicState → Type 0
StatusClear s = AllOf Clear s

abbrev pub NewClear : Type 0
NewClear = (version base size : ℕ) → StatusClear (chip_of version base size)

abbrev pub CallsKeepClear : Type 0
CallsKeepClear = (m : IoApicState) (c : Call) → is_version20 m ≡ true → StatusClear m → StatusClear (next m c)

-- ---- every call

-- no call changes the version, or the chip's addresses
abbrev pub CallsKeepVersion : Type 0
CallsKeepVersion = (m : IoApicState) (c : Call) → ((next m c).version ≡ m.version) × ((next m c).base ≡ m.base) × ((next m c).size ≡ m.size)

-- a refused call hands the chip back as it came
abbrev pub RefusedKeeps : Type 0
RefusedKeeps = (m : IoApicState) (c : Call) → (reply_number (outcome m c).reply ≡ 0 → ⊥) → next m c ≡ m

-- the selectors of entry words name entries of the table: the Rust's `InvalidInput` for table entries can't occur
abbrev pub TableIndex : Type 0
TableIndex = (sel : ℕ) → 0x10 ≤ sel → sel ≤ 0x3f → entry_of sel < 24
