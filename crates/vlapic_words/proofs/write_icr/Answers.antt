use native.Mathlib.Omega.{arith}
use Rattle.vlapic_words.proofs.Ways.{icr_way}
use Rattle.vlapic_words.proofs.write_icr.Goals as goal

pub returns : goal.returns
returns c =
    icr_way _ (omega arith) _ _ _ _ _ _ _ _ _ _ _ _ _ _ (omega arith) (omega arith) c.is_x2apic.ensures c.low.ensures c.low-2.ensures c.low-3.ensures c.idle.ensures c.put.ensures c.put-2.ensures
    c.carry_out.ensures c.answer.ensures
