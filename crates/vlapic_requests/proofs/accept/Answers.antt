use Rattle.std.proofs.Common.{ap, ◌∙◌, arith}
use Rattle.utils.specs.Vectors.{class_of}
use Rattle.vlapic_requests.proofs.Ways.{accept_yes, accept_no}
use Rattle.vlapic_requests.proofs.accept.Goals as goal

pub returns-then-prio : goal.returns-then-prio
returns-then-prio c =
    accept_yes _ (omega arith) _ c.highest-vector.ensures _ _ _ c.low.ensures c.prio.ensures (c.prio-2.ensures ∙ ap class_of c.from.ensures) _ _ _ c.if-prio.true c.mark.ensures c.mark-then-prio.ensures c.rank.ensures

pub returns : goal.returns
returns c = accept_no _ (omega arith) _ c.highest-vector.ensures _ _ _ c.low.ensures c.prio.ensures (c.prio-2.ensures ∙ ap class_of c.from.ensures) c.if-prio.false
