-- The rules that a board keeps (document 02, T-07).
-- Intel SDM volume 3, the APIC chapter: interrupt, task and processor priority (PPR by TPR and the highest vector in service); valid interrupt vectors (16 to 255).
use Rattle.std.specs.Prelude.{ℕ, ◌<◌, true, false, List, ◌≡◌, length, Some}
use Rattle.utils.specs.Set.{bit}
use Rattle.types.specs.Reply.{reply_number}
use Rattle.types.specs.declared.Vector.{Vector}
use Rattle.vioapic_entry.specs.Redirection.{end_entry20}
use Rattle.vioapic.specs.State.{IoApicState}
use Rattle.vioapic.specs.Table.{is_version20, entry_at, sent_by}
use Rattle.vioapic_theorems.specs.Rules.{ChipRules}
use Rattle.vlapic.specs.declared.VirtualApicRegs.{VirtualApicRegs}
use Rattle.vlapic_regs.specs.Vectors.{in_words}
use Rattle.vlapic_regs.specs.Register.{priority}
use Rattle.vlapic_requests.specs.Requests.{highest}
use Rattle.board.specs.Board.{Board, new_board}
use Rattle.board.specs.Calls.{Call, outcome, next, run}

-- the local APIC's: PPR is what TPR and the highest vector in service make it; nothing is requested or in service below 16; its registers have eight words
pub record LocalRules (s : VirtualApicRegs) : Type 0 where
  pub ppr : s.ppr ≡ priority s.tpr (highest s.isr)
  pub legal : (v : ℕ) → v < 16 → (in_words s.irr v ≡ false) × (in_words s.isr v ≡ false)
  pub eight : (length s.irr ≡ 8) × (length s.isr ≡ 8) × (length s.tmr ≡ 8)

-- the board's: those, and the I/O APIC's in version 0x20
pub record BoardRules (b : Board) : Type 0 where
  pub chip : ChipRules b.ioapic
  pub version : is_version20 b.ioapic ≡ true
  pub local : LocalRules b.apic

-- a new board keeps the rules
abbrev pub NewKeepsRules : Type 0
NewKeepsRules = BoardRules new_board

-- every call keeps them
abbrev pub CallsKeepRules : Type 0
CallsKeepRules = (b : Board) (c : Call) → BoardRules b → BoardRules (next b c)

-- and so does a run of calls
abbrev pub RunsKeepRules : Type 0
RunsKeepRules = (b : Board) (cs : List Call) → BoardRules b → BoardRules (run b cs)

-- ---- beside the rules

-- a refused call hands the board back as it came
abbrev pub RefusedKeeps : Type 0
RefusedKeeps = (b : Board) (c : Call) → (reply_number (outcome b c).reply ≡ 0 → ⊥) → next b c ≡ b

-- no call writes SVR, so that a new board's EOIs are told for ever
abbrev pub Tells : Board → Type 0
Tells b = bit b.apic.svr 12 ≡ false

abbrev pub CallsKeepSvr : Type 0
CallsKeepSvr = (b : Board) (c : Call) → (next b c).apic.svr ≡ b.apic.svr

-- what an EOI of v sends again is level-triggered and of v itself (board, `resent`): whatever the I/O APIC holds
abbrev pub ResentAre : Type 0
ResentAre =
    (m : IoApicState) (v : Vector) (g : ℕ)
    → sent_by v m g ≡ true
    → (end_entry20 (entry_at m g)).answer ≡ Some (record { vector = v; level_triggered = true })
