use Rattle.utils.proofs.Lowest.{lowest_off}
use Rattle.utils.proofs.set8.without_lowest.Goals as goal

pub returns : goal.returns
returns c = search lowest_off
