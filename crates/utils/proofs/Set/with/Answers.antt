use Rattle.std.proofs.Common.{◌∙◌}
use Rattle.utils.proofs.Bits.{or_bit}
use Rattle.utils.proofs.Set.with.Goals as goal

pub returns : goal.returns
returns g c = g.met.Self.Set.or_is _ _ _ c.bitor.ensures ∙ rw c.only.ensures (or_bit _ _)
