use Rattle.vioapic.proofs.Words.{past}
use Rattle.vioapic.proofs.Ways.{assert_in, assert_out}
use Rattle.vioapic.proofs.assert_gsi.Goals as goal

pub returns-in_err-line : goal.returns-in_err-line
returns-in_err-line c = rw c.from_residual.ensures (assert_out _ _ (past _ c.in_err-line.ensures.found.1))

pub returns : goal.returns
returns c = assert_in _ _ _ _ _ c.in_ok-line.ensures.value c.in_ok-line.line.in_table c.interrupt_for_entry.ensures
