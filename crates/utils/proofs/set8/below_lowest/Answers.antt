use Rattle.utils.proofs.Lowest.{under_lowest_in}
use Rattle.utils.proofs.set8.below_lowest.Goals as goal

pub returns : goal.returns
returns c = search under_lowest_in
