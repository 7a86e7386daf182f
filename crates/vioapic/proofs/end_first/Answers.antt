use Rattle.std.proofs.Common.{sym, arith}
use Rattle.vioapic.proofs.Flight.{first_flying, first_level}
use Rattle.vioapic.proofs.Ways.{eoi_in, eoi_none}
use Rattle.vioapic.proofs.end_first.Goals as goal

pub returns-in_err-place : goal.returns-in_err-place
returns-in_err-place c = rw c.from_residual.ensures (eoi_none _ _ 24 (sym c.in_err-place.ensures) (omega arith))

pub end-pending-requires : goal.end-pending-requires
end-pending-requires c =
    (first_flying _ _ _ c.in_ok-place.ensures c.in_ok-place.place.in_table, first_level _ _ _ c.in_ok-place.ensures c.in_ok-place.place.in_table)

pub returns : goal.returns
returns c = eoi_in _ _ _ c.in_ok-place.ensures _ _ c.in_ok-place.place.in_table c.end-pending.ensures
