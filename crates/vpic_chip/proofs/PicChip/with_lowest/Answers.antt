use Rattle.vpic_chip.proofs.Packing.{lowest_put}
use Rattle.vpic_chip.proofs.PicChip.with_lowest.Goals as goal

pub returns : goal.returns
returns c = search lowest_put
