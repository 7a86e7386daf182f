-- A refused call hands back the machine, but for a command's words: by the theorems of the three chips and of the board. Assumes nothing.
use Prim.Native.Nat.{ℕ}
use mathlib.Core.Bool.{Bool, true, false, cond}
use mathlib.Core.Path.{◌≡◌, refl, ap}
use lib.Dec.{eqb}
use borrow.Author.Tests.{eqb-true}
use Rattle.types.specs.Reply.{Outcome, reply_number}
use Rattle.types.specs.declared.VcpuId.{VcpuId}
use Rattle.types.specs.declared.Reply.TheVariants as reply
use Rattle.vioapic_theorems.proofs.Keeps.{refused_keeps}
use Rattle.vpic.specs.Words.{PicState}
use Rattle.vioapic.specs.State.{IoApicState}
use Rattle.vpic_theorems.proofs.Calls.{refused_unchanged}
use Rattle.vlapic.specs.declared.VirtualApicRegs.{VirtualApicRegs}
use Rattle.vlapic.specs.Priority.{find_isrv, broadcasts, accept_interrupt, end_of, handle_eoi}
use Rattle.vlapic.specs.Answers.{done}
use Rattle.vlapic.specs.Calls as vlapic
use Rattle.vlapic_theorems.specs.Numbers.{is_setup5}
use Rattle.vlapic_theorems.proofs.Numbers.{setups_numbered, setups_leave, refused_writes}
use Rattle.board_theorems.proofs.Rules as board
use Rattle.script_format.specs.declared.PicCall.{PicCall}
use Rattle.script_format.specs.declared.ApicCall.{ApicCall}
use Rattle.script_format.specs.declared.ApicCall.TheVariants as local
use Rattle.script_format.specs.declared.Call.{Call}
use Rattle.script_format.specs.declared.Call.TheVariants.{Io, IoVersion, Pic, PicRule, Apic, Board}
use Rattle.script_machine.specs.Late.{used_after}
use Rattle.script_machine.specs.Machine.{Machine, Local, with_apic, with_ioapic, with_pic, with_local, with_board, with_used, in_vm, io_call, board_call, pic_outcome, local_outcome, set_up_by, performed}
use Rattle.script_theorems.proofs.Calls.{pic_call, as_call}
use Rattle.script_theorems.specs.Refusals.{storing, RefusedUnchanged}

-- the machine after a call, with this in the place of one chip
abbrev put_io : Machine → Call → IoApicState → Machine
put_io m c x = with_used (with_ioapic m x) (used_after m.used c)

abbrev put_pic : Machine → Call → PicState → Machine
put_pic m c x = with_used (with_pic m x) (used_after m.used c)

-- a refused call of the pair, as one of its public calls
pair_kept : (p : PicState) (c : PicCall) → (reply_number (pic_outcome p c).reply ≡ 0 → ⊥) → (pic_outcome p c).state ≡ p
pair_kept p c n = let k = refused_unchanged p (pic_call c) in rw (as_call p c) (k (rw (as_call p c) at n))

-- acceptance and EOI are never refused
accept_done : (s : VirtualApicRegs) (v : _) (level : Bool) → reply_number (accept_interrupt s v level).reply ≡ 0
unfolding accept_interrupt
accept_done s v level = refl

eoi_done : (s : VirtualApicRegs) → reply_number (handle_eoi s).reply ≡ 0
unfolding handle_eoi
eoi_done s = go (eqb (find_isrv s) 0) (broadcasts s (find_isrv s))
  where
    go : (b d : Bool) → reply_number (cond b (done s) (record { state = (end_of s (find_isrv s)).state; reply = cond d (reply.One (find_isrv s)) reply.Nothing })).reply ≡ 0
    go true d = refl
    go false true = refl
    go false false = refl

-- a refused setup
setup_left : (s : VirtualApicRegs) (x2apic : Bool) (id : VcpuId) (num : ℕ) → (reply_number (vlapic.setup s x2apic id num).reply ≡ 0 → ⊥) → (vlapic.setup s x2apic id num).state ≡ s
setup_left s x2apic id num n = go (is_setup5 num id.0) refl
  where
    go : (b : Bool) → is_setup5 num id.0 ≡ b → (vlapic.setup s x2apic id num).state ≡ s
    go true e = setups_leave s x2apic id num ((setups_numbered s x2apic id num).1.1 e)
    go false e = absurd (n ((setups_numbered s x2apic id num).0.1 e))

setup_kept : (l : Local) (o : Outcome VirtualApicRegs) (num active : ℕ) → ((reply_number o.reply ≡ 0 → ⊥) → o.state ≡ l.apic)
    → (reply_number (set_up_by l o num active).reply ≡ 0 → ⊥) → (set_up_by l o num active).state ≡ l
setup_kept l o num active h n = go (eqb (reply_number o.reply) 0) refl n
  where
    set : Outcome Local
    set = record { state = record { apic = o.state; vcpu_num = num; active_vcpus = active }; reply = o.reply }

    go : (b : Bool) → eqb (reply_number o.reply) 0 ≡ b → (reply_number (cond b set (in_vm l o)).reply ≡ 0 → ⊥) → (cond b set (in_vm l o)).state ≡ l
    go true e r = absurd (r (eqb-true (reply_number o.reply) 0 e))
    go false e r = ap (with_apic l) (h r)

local_kept : (l : Local) (c : ApicCall) → (reply_number (local_outcome l c).reply ≡ 0 → ⊥) → (local_outcome l c).state ≡ storing l c
unfolding local_outcome
local_kept l (local.AcceptInterrupt v level) n = absurd (n (accept_done l.apic v level))
local_kept l (local.HandleWrite offset width value) n = ap (with_apic l) (refused_writes l.apic offset value width l.vcpu_num l.active_vcpus n)
local_kept l local.HandleEoi n = absurd (n (eoi_done l.apic))
local_kept l (local.HandleRead offset) n = refl
local_kept l (local.Setup x2apic id num active) n =
    setup_kept l (vlapic.setup l.apic x2apic id num) num active (λ r. setup_left l.apic x2apic id num r) n

pub machine_unchanged : RefusedUnchanged
unfolding performed
machine_unchanged m (Io c) n = ap (put_io m (Io c)) (refused_keeps m.ioapic (io_call c) n)
machine_unchanged m (IoVersion version) n = absurd (n refl)
machine_unchanged m (Pic c) n = ap (put_pic m (Pic c)) (pair_kept m.pic c n)
machine_unchanged m (PicRule rule) n = absurd (n refl)
machine_unchanged m (Apic c) n = ap (with_local m) (local_kept m.local c n)
machine_unchanged m (Board c) n = ap (with_board m) (board.refused_keeps m.board (board_call c) n)
