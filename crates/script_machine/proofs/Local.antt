-- A call on the local APIC in its VM, from what it does to the words. Assumes nothing.
use mathlib.Core.Path.{◌≡◌, refl, sym, ap, ◌∙◌}
use mathlib.Core.Bool.{Bool, true, false}
use mathlib.Core.List.{List}
use Prim.Native.Nat.{ℕ}
use lib.Dec.{eqb}
use borrow.Author.Tests.{eq-eqb, ne_eqb}
use Rattle.std.specs.Prelude.{Option, Some, None, Ok}
use Rattle.vlapic_icr.specs.declared.Ipi.{Ipi}
use Rattle.vlapic.specs.Answers.{write_reply}
use Rattle.types.specs.Reply.{Outcome, outcome_of, reply_number}
use Rattle.types.specs.declared.Reply.{Reply}
use Rattle.types.specs.declared.VcpuId.{VcpuId}
use Rattle.vlapic.specs.declared.VirtualApicRegs.{VirtualApicRegs}
use Rattle.vlapic.specs.Calls as vlapic
use Rattle.vlapic_words.specs.Words.{view}
use Rattle.vlapic_words.specs.Calls.{Leaves}
use Rattle.script_format.specs.declared.ApicCall.TheVariants.{Setup}
use Rattle.script_machine.specs.declared.Used.{Used}
use Rattle.script_machine.specs.declared.Vm.{Vm}
use Rattle.script_machine.specs.Machine.{local_in, in_vm, local_outcome}

module _ (l kept m : List ℕ) (vm : Vm) (r q : Reply) (o : Outcome VirtualApicRegs) (e : r ≡ q) (h : Leaves l kept m q o) where
  -- a call that leaves the VM as it is
  pub local_by : outcome_of (local_in m vm) r ≡ in_vm (local_in l vm) o
  local_by = rw e (ap (in_vm (local_in l vm)) h.outcome)

  replied_by : r ≡ o.reply
  replied_by = e ∙ ap (λ (x : Outcome VirtualApicRegs). x.reply) h.outcome

-- what isn't refused has the number 0
pub sent_number : (ipi : Option Ipi) → 0 ≡ reply_number (write_reply (Ok ipi))
sent_number (Some i) = refl
sent_number None = refl

-- setup, done and refused
module _ (l m : List ℕ) (vm : Vm) (r q : Reply) (x2apic : Bool) (id : VcpuId) (num active k : ℕ) (e : r ≡ q) (h : Leaves l l m q (vlapic.setup (view l) x2apic id num)) (n : k ≡ reply_number r) where
  pub set_up_done : (u : Used) → k ≡ 0
      → outcome_of (local_in m (record { vcpu_num = num; active_vcpus = active; used = u })) r ≡ local_outcome (local_in l vm) (Setup x2apic id num active)
  unfolding local_outcome
  set_up_done u z =
      let t : eqb (reply_number (vlapic.setup (view l) x2apic id num).reply) 0 ≡ true = eq-eqb _ 0 (ap reply_number (sym (replied_by l l m vm r q _ e h)) ∙ sym n ∙ z) in
      rw (t, e) (ap (λ (x : Outcome VirtualApicRegs). outcome_of (record { apic = x.state; vcpu_num = num; active_vcpus = active }) x.reply) h.outcome)

  pub set_up_refused : (k ≡ 0 → ⊥) → outcome_of (local_in m vm) r ≡ local_outcome (local_in l vm) (Setup x2apic id num active)
  unfolding local_outcome
  set_up_refused z =
      let t : eqb (reply_number (vlapic.setup (view l) x2apic id num).reply) 0 ≡ false = ne_eqb _ 0 (λ g. z (n ∙ ap reply_number (replied_by l l m vm r q _ e h) ∙ g)) in
      rw t (local_by l l m vm r q _ e h)
