use mathlib.Core.Path.{refl}
use Rattle.vpic.specs.Words.{plain_view, full_view}
use Rattle.vpic.proofs.master_chip.Goals as goal

pub returns-clause-plain : goal.returns-clause-plain
unfolding plain_view
returns-clause-plain c = refl

pub returns-clause-full : goal.returns-clause-full
unfolding full_view
returns-clause-full c = refl
