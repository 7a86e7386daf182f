use mathlib.Core.Path.{◌≡◌, refl, sym, ap}
use borrow.Author.Rules.{rules}
use Rattle.std.specs.Prelude.{Err}
use Rattle.vlapic.specs.Answers.{write_reply}
use Rattle.types.specs.Reply.{reply_number}
use Rattle.types.proofs.Replies.{refused_not_done}
use Rattle.script_machine.proofs.Local.{sent_number, set_up_done, set_up_refused}
use Rattle.script_machine.proofs.set_up.Goals as goal

pub returns-in_err-ipi : goal.returns-in_err-ipi
returns-in_err-ipi c =
    let a = c.args in
    let refused : c.from_residual.result ≡ Err c.in_err-ipi.field-0.0 = search rules in
    record {
      reply_after = set_up_refused _ _ a.vm.now _ _ a.x2apic a.vcpu_id a.vcpu_num a.active_vcpus _ (ap write_reply refused) c.in_err-ipi.ensures (ap reply_number (sym (ap write_reply refused))) (refused_not_done _);
      used_value = refl;
    }

pub returns : goal.returns
returns c =
    let a = c.args in
    record {
      reply_after = set_up_done _ _ a.vm.now _ _ a.x2apic a.vcpu_id a.vcpu_num a.active_vcpus 0 refl c.in_ok-ipi.ensures (sent_number c.in_ok-ipi.ipi) a.vm.now.used refl;
      used_value = refl;
    }
