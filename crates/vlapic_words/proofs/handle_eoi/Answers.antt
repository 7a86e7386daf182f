use native.Mathlib.Omega.{arith}
use Rattle.vlapic_words.proofs.Ways.{eoi_none, eoi_told, eoi_silent}
use Rattle.vlapic_words.proofs.handle_eoi.Goals as goal

pub returns-then-vector-eq0 : goal.returns-then-vector-eq0
returns-then-vector-eq0 c = search eoi_none

pub returns-then-is_told : goal.returns-then-is_told
returns-then-is_told c = eoi_told _ (omega arith) _ c.find_isrv-vector.ensures _ _ _ _ c.if-vector-eq0.false c.holds.ensures c.low.ensures c.is_eoi_broadcast-is_told.ensures c.end.ensures c.if-is_told.true

pub returns : goal.returns
returns c = search eoi_silent
