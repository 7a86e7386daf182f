use mathlib.Core.Path.{refl}
use Rattle.vpic.specs.Words.{view}
use Rattle.vpic.proofs.is_full.Goals as goal

pub returns : goal.returns
unfolding view
returns c = refl
