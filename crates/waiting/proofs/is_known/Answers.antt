use Rattle.waiting.proofs.Lists.{is_known}
use Rattle.waiting.proofs.is_known.Goals as goal

pub returns : goal.returns
returns c = search is_known
