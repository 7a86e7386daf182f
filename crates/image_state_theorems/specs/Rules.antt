-- The rules that a state keeps (document 02, T-11): the chips' own, and every register within what a write keeps of a value. The tests of a restore ask these, no more and no less
-- (specs/Tests). 82093AA: IOREDTBL. Intel SDM volume 3, the APIC chapter: local APIC ID, TPR, PPR, LDR, DFR, ESR, LVT, ICR. 8259A: ICW2, the initialization sequence, cascade mode.
use Rattle.std.specs.Prelude.{ℕ, ◌%◌, ◌<◌, true, false, cond, ◌≡◌}
use Rattle.vioapic.specs.State.{IoApicState}
use Rattle.vioapic.specs.Table.{is_version20}
use Rattle.vioapic.specs.IoApic.{is_version}
use Rattle.vioapic_theorems.specs.Rules.{ChipRules, StatusClear}
use Rattle.vlapic.specs.declared.VirtualApicRegs.{VirtualApicRegs}
use Rattle.vlapic_regs.specs.Lvt.{lvt_timer, lvt_error, lvt_pin, lvt_monitor}
use Rattle.vlapic_regs.specs.Register.{low_byte, top_byte, model_bits}
use Rattle.vlapic_icr.specs.Fields.{idle}
use Rattle.vpic_chip.specs.Registers.{Chip}
use Rattle.vpic.specs.Words.{PicState}
use Rattle.vpic.specs.Pair.{is_rule, Keeps}
use Rattle.board.specs.Board.{Board}
use Rattle.board_theorems.specs.Rules.{LocalRules}
use Rattle.image_rules.specs.Rules.{id_kept, errors}

-- the I/O APIC's: its own, in a version that has a number; in version 0x20 Delivery Status is clear
pub record IoRules (s : IoApicState) : Type 0 where
  pub chip : ChipRules s
  pub version : is_version s.version ≡ true
  pub clear : is_version20 s ≡ true → StatusClear s

-- the local APIC's: the board's, and every register within what it keeps
pub record ApicRules (s : VirtualApicRegs) : Type 0 where
  pub local : LocalRules s
  pub id : id_kept s.x2apic s.vapic_id ≡ s.vapic_id
  pub tpr : low_byte s.tpr ≡ s.tpr
  pub ldr : top_byte s.ldr ≡ s.ldr
  pub dfr : model_bits s.dfr ≡ s.dfr
  pub esr : errors s.esr ≡ s.esr
  pub pending : errors s.esr_pending ≡ s.esr_pending
  pub icr_lo : idle s.icr_lo ≡ s.icr_lo
  pub icr_hi : cond s.x2apic s.icr_hi (top_byte s.icr_hi) ≡ s.icr_hi
  pub cmci : lvt_monitor s.lvt_cmci ≡ s.lvt_cmci
  pub timer : lvt_timer s.lvt_timer ≡ s.lvt_timer
  pub thermal : lvt_monitor s.lvt_thermal ≡ s.lvt_thermal
  pub pmi : lvt_monitor s.lvt_pmi ≡ s.lvt_pmi
  pub lint0 : lvt_pin s.lvt_lint0 ≡ s.lvt_lint0
  pub lint1 : lvt_pin s.lvt_lint1 ≡ s.lvt_lint1
  pub error : lvt_error s.lvt_error ≡ s.lvt_error

-- the full profile's registers as they start: those of a chip that isn't a full one
pub record Plain (c : Chip) : Type 0 where
  pub lowest : c.lowest_line ≡ 7
  pub rotation : c.auto_rotation ≡ false
  pub special : c.special_mask ≡ false
  pub poll : c.poll ≡ false
  pub nested : c.nested ≡ false

-- a chip of the pair: its base is a multiple of 8, its step one of initialization's, its lowest line one of its eight; nothing is set that stands for nothing
pub record PicRules (c : Chip) : Type 0 where
  pub base : c.vector_base % 8 ≡ 0
  pub step : c.init_step < 4
  pub lowest : c.lowest_line < 8
  pub spare : c.spare ≡ 0
  pub plain : c.full ≡ false → Plain c

-- the pair's: its rule has a number, both chips keep theirs, and where the rule follows the slave's output, the master's request 2 does
pub record PairRules (p : PicState) : Type 0 where
  pub rule : is_rule p.rule ≡ true
  pub master : PicRules p.master
  pub slave : PicRules p.slave
  pub cascade : Keeps p
  pub spare : p.spare ≡ 0

-- a board with the pair
pub record State : Type 0 where
  pub board : Board
  pub pair : PicState

-- base and size are the same on every board
pub record StateRules (s : State) : Type 0 where
  pub ioapic : IoRules s.board.ioapic
  pub base : s.board.ioapic.base ≡ 0xfec00000
  pub size : s.board.ioapic.size ≡ 0x1000
  pub apic : ApicRules s.board.apic
  pub pair : PairRules s.pair
