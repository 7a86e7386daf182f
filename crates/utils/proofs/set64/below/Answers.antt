use Rattle.std.proofs.Common.{◌^◌, sym, lt_of_lt_of_le, mod-eq_of_lt, pow_mono, rules}
use Rattle.utils.proofs.set64.below.Goals as goal

pub returns : goal.returns
returns c = sym (mod-eq_of_lt (lt_of_lt_of_le {m = 2 ^ 64} (search rules) (pow_mono c.if-count-lt64.false)))
