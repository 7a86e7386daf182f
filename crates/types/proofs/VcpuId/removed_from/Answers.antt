use Rattle.std.proofs.Common.{sym, rules}
use Rattle.utils.proofs.Laws.{bit_above, without_member}
use Rattle.types.proofs.VcpuId.removed_from.Goals as goal

pub returns : goal.returns
returns c = sym (without_member _ _ (bit_above 64 _ _ (search rules) c.if-self-lt64.false))
