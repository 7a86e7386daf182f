use native.Mathlib.Omega.{arith}
use Rattle.utils.specs.Set.{lowest}
use Rattle.utils.proofs.Lowest.{lowest_is}
use Rattle.vpic_chip.proofs.highest_priority.Goals as goal

pub returns-then-bits-eq0 : goal.returns-then-bits-eq0
unfolding lowest
returns-then-bits-eq0 c = rw c.if-bits-eq0.true

pub returns-then-bits-eq0-4 : goal.returns-then-bits-eq0-4
returns-then-bits-eq0-4 c = lowest_is 8 7 c.args.bits (omega arith) c.if-bits-eq0-4.true (λ e. c.if-bits-eq0.false (omega (arith, c.ranges)))

pub returns-then-bits-eq0-3 : goal.returns-then-bits-eq0-3
returns-then-bits-eq0-3 c = lowest_is 8 6 c.args.bits (omega arith) c.if-bits-eq0-3.true c.if-bits-eq0-4.false

pub returns-then-bits-eq0-5 : goal.returns-then-bits-eq0-5
returns-then-bits-eq0-5 c = lowest_is 8 5 c.args.bits (omega arith) c.if-bits-eq0-5.true c.if-bits-eq0-3.false

pub returns-then-bits-eq0-2 : goal.returns-then-bits-eq0-2
returns-then-bits-eq0-2 c = lowest_is 8 4 c.args.bits (omega arith) c.if-bits-eq0-2.true c.if-bits-eq0-5.false

pub returns-then-bits-eq0-7 : goal.returns-then-bits-eq0-7
returns-then-bits-eq0-7 c = lowest_is 8 3 c.args.bits (omega arith) c.if-bits-eq0-7.true c.if-bits-eq0-2.false

pub returns-then-bits-eq0-6 : goal.returns-then-bits-eq0-6
returns-then-bits-eq0-6 c = lowest_is 8 2 c.args.bits (omega arith) c.if-bits-eq0-6.true c.if-bits-eq0-7.false

pub returns-then-bits-eq0-8 : goal.returns-then-bits-eq0-8
returns-then-bits-eq0-8 c = lowest_is 8 1 c.args.bits (omega arith) c.if-bits-eq0-8.true c.if-bits-eq0-6.false

pub returns : goal.returns
returns c = lowest_is 8 0 c.args.bits (omega arith) (omega arith) c.if-bits-eq0-8.false
