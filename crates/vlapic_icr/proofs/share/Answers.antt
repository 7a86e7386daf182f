use Rattle.vlapic_icr.proofs.Common.{share_and}
use Rattle.vlapic_icr.proofs.share.Goals as goal

pub returns : goal.returns
returns c = share_and _ _ c.requires
