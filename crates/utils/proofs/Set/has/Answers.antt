use Rattle.utils.proofs.Bits.{has_by}
use Rattle.utils.proofs.Set.has.Goals as goal

pub returns : goal.returns
returns g c = has_by _ _ _ _ _ c.only.ensures (g.met.Self.Set.and_is _ _ _ c.bitand.ensures) c.is_empty.ensures
