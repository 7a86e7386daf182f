-- Every state that calls have made keeps the rules, so that it can be written and read back; and the calls after a restore keep them on.
use Rattle.std.specs.Prelude.{ℕ, true, List, ◌≡◌}
use Rattle.vioapic.specs.State.{IoApicState}
use Rattle.vioapic.specs.Table.{is_version20}
use Rattle.vioapic.specs.IoApic.{is_version, chip_of}
use Rattle.vioapic.specs.Calls as ioapic
use Rattle.vlapic.specs.declared.VirtualApicRegs.{VirtualApicRegs}
use Rattle.vpic.specs.declared.PicRule.{PicRule}
use Rattle.vpic.specs.Words.{PicState}
use Rattle.vpic.specs.Pair.{new_state}
use Rattle.vpic_theorems.specs.Statements as pair
use Rattle.vpic_theorems.specs.Rule as pair_runs
use Rattle.board.specs.Board.{Board, new_board}
use Rattle.board.specs.Calls as board
use Rattle.image.specs.Restore.{Chips, restored}
use Rattle.image_state_theorems.specs.Rules.{IoRules, ApicRules, PairRules, State, StateRules}
use Rattle.image_state_theorems.specs.States.{state_in, image_in, Words, Took}

-- the I/O APIC, of either version
abbrev pub NewIoKeeps : Type 0
NewIoKeeps = (version base size : ℕ) → is_version version ≡ true → IoRules (chip_of version base size)

abbrev pub IoCallsKeep : Type 0
IoCallsKeep = (m : IoApicState) (c : ioapic.Call) → IoRules m → IoRules (ioapic.next m c)

-- a board
pub record BoardKeeps (b : Board) : Type 0 where
  pub ioapic : IoRules b.ioapic
  pub version : is_version20 b.ioapic ≡ true
  pub base : b.ioapic.base ≡ 0xfec00000
  pub size : b.ioapic.size ≡ 0x1000
  pub apic : ApicRules b.apic

abbrev pub NewBoardKeeps : Type 0
NewBoardKeeps = BoardKeeps new_board

abbrev pub BoardCallsKeep : Type 0
BoardCallsKeep = (b : Board) (c : board.Call) → BoardKeeps b → BoardKeeps (board.next b c)

-- the pair, by every rule
abbrev pub NewPairKeeps : Type 0
NewPairKeeps = (rule : PicRule) → PairRules (new_state rule)

abbrev pub PairCallsKeep : Type 0
PairCallsKeep = (p : PicState) (c : pair.Call) → PairRules p → PairRules (pair.outcome p c).state

-- so any calls on a new board and a new pair
abbrev pub made : List board.Call → PicRule → List pair.Call → State
made cs rule ds = record { board = board.run new_board cs; pair = pair_runs.run (new_state rule) ds }

abbrev pub MadeKeeps : Type 0
MadeKeeps = (cs : List board.Call) (rule : PicRule) (ds : List pair.Call) → StateRules (made cs rule ds)

-- and any words that stand for such a state are written and read back
abbrev pub MadeReadBack : Type 0
MadeReadBack =
    (cs : List board.Call) (rule : PicRule) (ds : List pair.Call) (c before : Chips)
    → Words c
    → state_in c ≡ made cs rule ds
    → Took (made cs rule ds) (restored (image_in c) before)

-- a board's I/O APIC is of version 0x20; one of either version in its place, after any calls of its own, beside a local APIC and a pair that keep their rules
abbrev pub io_made : ℕ → List ioapic.Call → VirtualApicRegs → PicState → State
io_made version cs a p = record { board = record { ioapic = ioapic.run (chip_of version 0xfec00000 0x1000) cs; apic = a }; pair = p }

abbrev pub IoMadeKeeps : Type 0
IoMadeKeeps = (version : ℕ) (cs : List ioapic.Call) (a : VirtualApicRegs) (p : PicState) → is_version version ≡ true → ApicRules a → PairRules p → StateRules (io_made version cs a p)

abbrev pub IoMadeReadBack : Type 0
IoMadeReadBack =
    (version : ℕ) (cs : List ioapic.Call) (a : VirtualApicRegs) (p : PicState) (c before : Chips)
    → is_version version ≡ true
    → ApicRules a
    → PairRules p
    → Words c
    → state_in c ≡ io_made version cs a p
    → Took (io_made version cs a p) (restored (image_in c) before)
