-- A call on the machine, from what it does to one chip's words. Assumes nothing.
use mathlib.Core.Path.{◌≡◌, ap, ◌∙◌}
use mathlib.Core.List.{List}
use Prim.Native.Nat.{ℕ}
use Rattle.types.specs.Reply.{Outcome, outcome_of}
use Rattle.types.specs.declared.Reply.{Reply}
use Rattle.vioapic.specs.State.{IoApicState}
use Rattle.vioapic.specs.State as io-words
use Rattle.types.specs.declared.Reply.TheVariants.{Nothing}
use Rattle.vioapic.specs.declared.IoApicVersion.{IoApicVersion}
use Rattle.vioapic.specs.declared.IoApicVersion.TheVariants.{V20}
use Rattle.vioapic.specs.IoApic.{Makes, created_version}
use Rattle.vioapic.specs.Calls.{outcome}
use Rattle.vpic.specs.Words as pic-words
use Rattle.vpic.specs.declared.PicRule.{PicRule as Rule}
use Rattle.vpic.specs.declared.PicRule.TheVariants.{Cascade}
use Rattle.vpic.specs.Pair.{new_state}
use Rattle.vlapic_words.specs.Calls.{IsNew}
use Rattle.board.specs.Board.{board_in}
use Rattle.board.specs.Promise as board-promise
use Rattle.board.specs.Calls as board
use Rattle.script_format.specs.declared.IoCall.{IoCall}
use Rattle.script_format.specs.declared.PicCall.{PicCall}
use Rattle.script_format.specs.declared.ApicCall.{ApicCall}
use Rattle.script_format.specs.declared.BoardCall.{BoardCall}
use Rattle.script_format.specs.declared.Chip.{Chip}
use Rattle.script_format.specs.declared.Call.{Call}
use Rattle.script_format.specs.declared.Call.TheVariants.{Io, IoVersion, Pic, PicRule, Apic, Board}
use Rattle.script_format.specs.Chips.{chip_of}
use Rattle.script_machine.specs.declared.Used.{Used}
use Rattle.script_machine.specs.declared.Vm.{Vm}
use Rattle.script_machine.specs.Late.{now_used, used_after}
use Rattle.script_machine.specs.Machine.{Local, machine_in, local_in, io_call, board_call, pic_outcome, local_outcome, remembering, unused, new_machine, performed}

pub remembers_call : (vm : Vm) (call : Call) (chip : Chip) (u : Used) → chip ≡ chip_of call → u ≡ now_used vm.used chip
    → ◌≡◌ {A = Vm} (record { vcpu_num = vm.vcpu_num; active_vcpus = vm.active_vcpus; used = u }) (remembering vm call)
remembers_call vm call chip u e h = rw (h, e)

module _ (io pair l bio bl : List ℕ) (vm vm' : Vm) (call : Call) (r : Reply) (e : vm' ≡ remembering vm call) where
  pub perform_io : (io' : List ℕ) (c : IoCall) → call ≡ Io c → outcome_of (io-words.view io') r ≡ outcome (io-words.view io) (io_call c)
      → outcome_of (machine_in io' pair l bio bl vm') r ≡ performed (machine_in io pair l bio bl vm) call
  unfolding performed machine_in
  perform_io io' c k h = rw (e, k, ← h)

  pub perform_version : (io' : List ℕ) (version : IoApicVersion) → call ≡ IoVersion version → outcome_of (io-words.view io') r ≡ created_version (io-words.view io) 0xfec00000 0x1000 version
      → outcome_of (machine_in io' pair l bio bl vm') r ≡ performed (machine_in io pair l bio bl vm) call
  unfolding performed machine_in created_version
  perform_version io' version k h =
      rw (e, k) (ap (λ (o : Outcome IoApicState). outcome_of (record { ioapic = o.state; pic = pic-words.view pair; local = local_in l vm; board = board_in bio bl; used = used_after vm.used (IoVersion version) }) o.reply) h)

  pub perform_pic : (pair' : List ℕ) (c : PicCall) → call ≡ Pic c → outcome_of (pic-words.view pair') r ≡ pic_outcome (pic-words.view pair) c
      → outcome_of (machine_in io pair' l bio bl vm') r ≡ performed (machine_in io pair l bio bl vm) call
  unfolding performed machine_in
  perform_pic pair' c k h = rw (e, k, ← h)

  pub perform_rule : (pair' : List ℕ) (rule : Rule) → call ≡ PicRule rule → pic-words.view pair' ≡ new_state rule
      → outcome_of (machine_in io pair' l bio bl vm') Nothing ≡ performed (machine_in io pair l bio bl vm) call
  unfolding performed machine_in
  perform_rule pair' rule k h = rw (e, k, h)

  pub perform_local : (l' : List ℕ) (vm'' : Vm) (c : ApicCall) → call ≡ Apic c → vm''.used ≡ vm'.used → outcome_of (local_in l' vm'') r ≡ local_outcome (local_in l vm') c
      → outcome_of (machine_in io pair l' bio bl vm'') r ≡ performed (machine_in io pair l bio bl vm) call
  unfolding performed machine_in
  perform_local l' vm'' c k u h =
      let w : vm''.used ≡ used_after vm.used call = u ∙ ap (λ (v : Vm). v.used) e in
      let q : outcome_of (local_in l' vm'') r ≡ local_outcome (local_in l vm) c = rw e at h in
      rw (w, k) (ap (λ (o : Outcome Local). outcome_of (record { ioapic = io-words.view io; pic = pic-words.view pair; local = o.state; board = board_in bio bl; used = used_after vm.used (Apic c) }) o.reply) q)

  pub perform_board : (bio' bl' : List ℕ) (c : BoardCall) → call ≡ Board c → outcome_of (board_in bio' bl') r ≡ board.outcome (board_in bio bl) (board_call c)
      → outcome_of (machine_in io pair l bio' bl' vm') r ≡ performed (machine_in io pair l bio bl vm) call
  unfolding performed machine_in
  perform_board bio' bl' c k h = rw (e, k, ← h)

-- a new machine
pub new_machine_lem : (before io pair l bio bl new : List ℕ) (m : IoApicState) (r : Reply) → Makes before io r (created_version m 0xfec00000 0x1000 V20) new → pic-words.view pair ≡ new_state Cascade → IsNew l
    → board-promise.Makes bio bl
    → machine_in io pair l bio bl (record { vcpu_num = 1; active_vcpus = 1; used = unused }) ≡ new_machine
unfolding machine_in new_machine created_version
new_machine_lem before io pair l bio bl new m r h p n b = rw (ap (λ (o : Outcome IoApicState). o.state) h.outcome, p, n.registers, b.board)
