use native.Mathlib.Omega.{arith}
use Rattle.vlapic_requests.proofs.Ways.{end_none, end_told, end_silent}
use Rattle.vlapic_requests.proofs.end_highest.Goals as goal

pub returns-then-vector-eq0 : goal.returns-then-vector-eq0
returns-then-vector-eq0 c = search end_none

pub returns-then-is_told : goal.returns-then-is_told
returns-then-is_told c =
    end_told _ (omega arith) _ c.highest-vector.ensures _ _ _ _ _ c.if-vector-eq0.false c.holds.ensures c.low.ensures c.is_eoi_broadcast-is_told.ensures c.mark.ensures c.rank.ensures c.if-is_told.true

pub returns-else-is_told : goal.returns-else-is_told
returns-else-is_told c =
    end_silent _ (omega arith) _ c.highest-vector.ensures _ _ _ _ _ c.if-vector-eq0.false c.holds.ensures c.low.ensures c.is_eoi_broadcast-is_told.ensures c.mark.ensures c.rank.ensures c.if-is_told.false
