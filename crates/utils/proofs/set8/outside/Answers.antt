use Rattle.std.proofs.Common.{rules}
use Rattle.utils.proofs.Bits.{and_not}
use Rattle.utils.proofs.set8.outside.Goals as goal

pub returns : goal.returns
returns c = and_not 8 c.args.set c.args.mask (search rules) (search rules)
