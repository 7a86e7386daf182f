use Rattle.vioapic.proofs.Words.{past}
use Rattle.vioapic.proofs.Ways.{vector_in_lem, vector_out}
use Rattle.vioapic.proofs.vector_for_gsi.Goals as goal

pub returns-in_err-place : goal.returns-in_err-place
returns-in_err-place c = rw c.from_residual.ensures (vector_out _ _ (past _ c.in_err-place.ensures.found.1))

pub returns : goal.returns
returns c = vector_in_lem _ _ _ _ c.in_ok-place.ensures.value c.in_ok-place.field-0.in_table c.vector_of_entry.ensures
