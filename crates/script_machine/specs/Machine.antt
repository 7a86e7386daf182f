-- The machine of the three controllers, with a board apart from them (document 02, T-07), and one call on it (document 01, "Scripts"): each call is one of a chip's public
-- calls, and changes that chip alone.
use Rattle.std.specs.Prelude.{ℕ, false, cond, List, eqb}
use Rattle.types.specs.Reply.{Outcome, outcome_of, reply_number}
use Rattle.types.specs.declared.Reply.TheVariants.{Nothing}
use Rattle.vioapic.specs.State.{IoApicState}
use Rattle.vioapic.specs.State as io-words
use Rattle.vioapic.specs.declared.IoApicVersion.{IoApicVersion}
use Rattle.vioapic.specs.IoApic.{chip_of, version_number, new_default}
use Rattle.vioapic.specs.Calls as ioapic
use Rattle.vpic.specs.Words.{PicState}
use Rattle.vpic.specs.Words as pic-words
use Rattle.vpic.specs.declared.PicRule.TheVariants.{Cascade}
use Rattle.vpic.specs.Pair as vpic
use Rattle.vlapic.specs.declared.VirtualApicRegs.{VirtualApicRegs}
use Rattle.vlapic.specs.Regs.{start}
use Rattle.vlapic.specs.Priority.{accept_interrupt, handle_eoi}
use Rattle.vlapic.specs.Registers as registers
use Rattle.vlapic.specs.Calls as vlapic
use Rattle.vlapic_words.specs.Words as apic-words
use Rattle.board.specs.Board.{Board as BoardState, board_in, new_board}
use Rattle.board.specs.Calls as board
use Rattle.script_format.specs.declared.IoCall.{IoCall}
use Rattle.script_format.specs.declared.IoCall.TheVariants as io
use Rattle.script_format.specs.declared.PicCall.{PicCall}
use Rattle.script_format.specs.declared.PicCall.TheVariants as pair
use Rattle.script_format.specs.declared.ApicCall.{ApicCall}
use Rattle.script_format.specs.declared.ApicCall.TheVariants as local
use Rattle.script_format.specs.declared.BoardCall.{BoardCall}
use Rattle.script_format.specs.declared.BoardCall.TheVariants as whole
use Rattle.script_format.specs.declared.Call.{Call}
use Rattle.script_format.specs.declared.Call.TheVariants.{Io, IoVersion, Pic, PicRule, Apic, Board}
use Rattle.script_machine.specs.declared.Used.{Used}
use Rattle.script_machine.specs.declared.Vm.{Vm}
use Rattle.script_machine.specs.declared.Machine as declared
use Rattle.script_machine.specs.Late.{used_after}

-- the local APIC, and what the VM tells it: how many vCPUs there are, and which of them are active
pub record Local : Type 0 where
  pub apic : VirtualApicRegs
  pub vcpu_num : ℕ
  pub active_vcpus : ℕ

-- l with another local APIC
abbrev pub with_apic : Local → VirtualApicRegs → Local
with_apic l x = record { apic = x; vcpu_num = l.vcpu_num; active_vcpus = l.active_vcpus }

pub record Machine : Type 0 where
  pub ioapic : IoApicState
  pub pic : PicState
  pub local : Local
  pub board : BoardState
  pub used : Used

-- m with another part
abbrev pub with_ioapic : Machine → IoApicState → Machine
with_ioapic m x = record { ioapic = x; pic = m.pic; local = m.local; board = m.board; used = m.used }

abbrev pub with_pic : Machine → PicState → Machine
with_pic m x = record { ioapic = m.ioapic; pic = x; local = m.local; board = m.board; used = m.used }

abbrev pub with_local : Machine → Local → Machine
with_local m x = record { ioapic = m.ioapic; pic = m.pic; local = x; board = m.board; used = m.used }

abbrev pub with_board : Machine → BoardState → Machine
with_board m x = record { ioapic = m.ioapic; pic = m.pic; local = m.local; board = x; used = m.used }

abbrev pub with_used : Machine → Used → Machine
with_used m x = record { ioapic = m.ioapic; pic = m.pic; local = m.local; board = m.board; used = x }

-- the local APIC of such words in a VM
abbrev pub local_in : List ℕ → Vm → Local
local_in l vm = record { apic = apic-words.view l; vcpu_num = vm.vcpu_num; active_vcpus = vm.active_vcpus }

-- the machine that the words of its chips and the rest of it stand for
unfoldable pub machine_in : List ℕ → List ℕ → List ℕ → List ℕ → List ℕ → Vm → Machine
machine_in io pair l bio bl vm = record {
  ioapic = io-words.view io;
  pic = pic-words.view pair;
  local = local_in l vm;
  board = board_in bio bl;
  used = vm.used;
}

-- and by value
abbrev pub machine_of : declared.Machine → Machine
machine_of m = machine_in m.ioapic m.pic m.apic m.board_ioapic m.board_apic m.vm

-- no chip was used
abbrev pub unused : Used
unused = record { io = false; pic = false }

-- the I/O APIC of version 0x20 at 0xfec00000, size 0x1000; the pair by the cascade rule; the local APIC in xAPIC mode with id 0; one vCPU, and it is active; a new board
unfoldable pub new_machine : Machine
new_machine = record {
  ioapic = new_default;
  pic = vpic.new_state Cascade;
  local = record { apic = start false 0; vcpu_num = 1; active_vcpus = 1 };
  board = new_board;
  used = unused;
}

-- ---- the calls

-- a script's call of the I/O APIC as one of the chip's public calls
abbrev pub io_call : IoCall → ioapic.Call
io_call (io.HandleRead addr width) = ioapic.HandleRead addr width
io_call (io.HandleWrite addr width value) = ioapic.HandleWrite addr width value
io_call (io.SetGsiLevel gsi up) = ioapic.SetGsiLevel gsi up
io_call (io.AssertGsi gsi) = ioapic.AssertGsi gsi
io_call (io.EndOfInterrupt vector) = ioapic.EndOfInterrupt vector

-- the choice of its version makes a new one of it, at the usual address
abbrev pub chosen : IoApicVersion → IoApicState
chosen version = chip_of (version_number version) 0xfec00000 0x1000

unfoldable pub pic_outcome : PicState → PicCall → Outcome PicState
pic_outcome p (pair.HandleRead port width) = vpic.handle_read p port width
pic_outcome p (pair.HandleWrite port width value) = vpic.handle_write p port width value
pic_outcome p (pair.ClaimIrq irq) = vpic.with_claim (vpic.claim_irq p irq)
pic_outcome p pair.ClaimPendingInterrupt = vpic.with_claim (vpic.claim_pending p)
pic_outcome p (pair.RestoreInterrupt claim) = vpic.restore_interrupt p claim

-- the local APIC after a call that leaves the VM as it is
abbrev pub in_vm : Local → Outcome VirtualApicRegs → Outcome Local
in_vm l o = outcome_of (with_apic l o.state) o.reply

-- setup: the VM's count and active mask come with the new local APIC. Refused, they stay as they were, as the local APIC does
abbrev pub set_up_by : Local → Outcome VirtualApicRegs → ℕ → ℕ → Outcome Local
set_up_by l o num active =
    cond (eqb (reply_number o.reply) 0)
    (record { state = record { apic = o.state; vcpu_num = num; active_vcpus = active }; reply = o.reply })
    (in_vm l o)

-- the local APIC goes by the VM's count and active mask
unfoldable pub local_outcome : Local → ApicCall → Outcome Local
local_outcome l (local.AcceptInterrupt vector level) = in_vm l (accept_interrupt l.apic vector level)
local_outcome l (local.HandleWrite offset width value) = in_vm l (vlapic.handle_write l.apic offset value width l.vcpu_num l.active_vcpus)
local_outcome l local.HandleEoi = in_vm l (handle_eoi l.apic)
local_outcome l (local.HandleRead offset) = in_vm l (outcome_of l.apic (registers.handle_read l.apic offset))
local_outcome l (local.Setup x2apic id num active) = set_up_by l (vlapic.setup l.apic x2apic id num) num active

-- a script's call of the board as one of its public calls
abbrev pub board_call : BoardCall → board.Call
board_call (whole.SetGsiLevel gsi up) = board.SetGsiLevel gsi up
board_call whole.AcceptInterrupt = board.AcceptInterrupt
board_call whole.HandleEoi = board.HandleEoi
board_call (whole.WriteTpr value) = board.WriteTpr value
board_call (whole.HandleWrite addr width value) = board.HandleWrite addr width value
board_call (whole.Receive vector level) = board.Receive vector level

-- a chip's outcome as the machine's
abbrev pub in_machine : {S : Type 0} → (S → Machine) → Outcome S → Outcome Machine
in_machine put o = record { state = put o.state; reply = o.reply }

-- what a call does to its chip
abbrev pub applied : Machine → Call → Outcome Machine
applied m (Io c) = in_machine (with_ioapic m) (ioapic.outcome m.ioapic (io_call c))
applied m (IoVersion version) = outcome_of (with_ioapic m (chosen version)) Nothing
applied m (Pic c) = in_machine (with_pic m) (pic_outcome m.pic c)
applied m (PicRule rule) = outcome_of (with_pic m (vpic.new_state rule)) Nothing
applied m (Apic c) = in_machine (with_local m) (local_outcome m.local c)
applied m (Board c) = in_machine (with_board m) (board.outcome m.board (board_call c))

-- what a machine has beside its chips, after a call
abbrev pub remembering : Vm → Call → Vm
remembering vm c = record { vcpu_num = vm.vcpu_num; active_vcpus = vm.active_vcpus; used = used_after vm.used c }

-- one call: the whole machine after it, and its reply. The machine remembers it, refused or not
unfoldable pub performed : Machine → Call → Outcome Machine
performed m c = in_machine (λ n. with_used n (used_after m.used c)) (applied m c)
