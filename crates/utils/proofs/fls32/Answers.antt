use Rattle.std.proofs.Common.{arith, rules, ne_eqb}
use Rattle.utils.proofs.Bits.{leading_highest}
use Rattle.utils.specs.Set.{last_set32}
use Rattle.utils.proofs.fls32.Goals as goal

pub returns-then-value-eq0 : goal.returns-then-value-eq0
unfolding last_set32
returns-then-value-eq0 c = rw c.if-value-eq0.true

pub returns : goal.returns
unfolding last_set32
returns c = rw (ne_eqb _ _ c.if-value-eq0.false) (omega (arith, leading_highest 32 c.args.value (omega arith) (search rules)))
