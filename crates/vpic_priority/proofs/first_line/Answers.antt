use mathlib.Core.Path.{◌∙◌}
use Prim.Native.Nat.{◌%◌}
use native.Mathlib.Omega.{arith}
use Rattle.utils.specs.Set.{bit}
use Rattle.vpic_priority.proofs.Entries.{entries}
use Rattle.vpic_priority.proofs.Ring.{by_remainder}
use Rattle.vpic_priority.proofs.First.{entry_ruled}
use Rattle.vpic_priority.proofs.first_line.Goals as goal

pub returns : goal.returns
unfolding entries
returns c = entry_ruled (c.args.lowest % 8) c.args.set (omega arith) (omega arith) ∙ by_remainder c.args.lowest (bit c.args.set)
