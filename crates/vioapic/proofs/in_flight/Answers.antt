use native.Mathlib.Omega.{arith}
use mathlib.Core.Path.{refl}
use Rattle.vioapic.specs.State.{view}
use Rattle.vioapic.proofs.in_flight.Goals as goal

pub returns : goal.returns
unfolding view
returns c = (refl, omega arith)
