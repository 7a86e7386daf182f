use Rattle.std.proofs.Common.{◌∙◌}
use lib.Pow.{pow-lt}
use Rattle.utils.proofs.Bits.{and_not_bit}
use Rattle.utils.proofs.Set.without.Goals as goal

pub returns : goal.returns
returns g c =
    let inside = rw (← c.only.ensures) at (pow-lt c.requires.member) in
    g.met.Self.Set.and_is _ _ _ c.bitand.ensures
    ∙ rw (g.met.Self.Set.not_is _ _ inside c.not.ensures, c.only.ensures) (and_not_bit _ _ _ c.requires.fits c.requires.member)
