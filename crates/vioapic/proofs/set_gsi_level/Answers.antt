use Rattle.vioapic.proofs.Words.{past}
use Rattle.vioapic.proofs.Ways.{level_up, level_down, level_out}
use Rattle.vioapic.proofs.set_gsi_level.Goals as goal

pub returns-in_err-place : goal.returns-in_err-place
returns-in_err-place c = rw c.from_residual.ensures (level_out _ _ _ (past _ c.in_err-place.ensures.found.1))

pub returns-then-asserted : goal.returns-then-asserted
returns-then-asserted c = level_up _ _ _ _ _ _ c.in_ok-place.ensures.value c.in_ok-place.place.in_table c.if-asserted.true c.raise.ensures

pub returns-else-asserted : goal.returns-else-asserted
returns-else-asserted c = level_down _ _ _ _ _ _ c.in_ok-place.ensures.value c.in_ok-place.place.in_table c.if-asserted.false c.lower.ensures
