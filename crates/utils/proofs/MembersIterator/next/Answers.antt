use Rattle.std.proofs.Common.{arith, rules}
use Rattle.utils.proofs.Walk.{lowest_below, lowest_left}
use Rattle.utils.proofs.MembersIterator.next.Goals as goal

pub without-self-requires-clause-member : goal.without-self-requires-clause-member
without-self-requires-clause-member c =
    lowest_below 32 32 _ _ (omega arith) (search rules) c.if-left-eq0.false c.lowest-k.ensures

pub returns-clause-steps : goal.returns-clause-steps
returns-clause-steps c = (
  c.if-left-eq0.false,
  c.lowest-k.ensures,
  lowest_below 32 32 _ _ (omega arith) (search rules) c.if-left-eq0.false c.lowest-k.ensures,
  c.without-self.ensures,
)

pub returns-clause-goes : goal.returns-clause-goes
returns-clause-goes c =
    let less = lowest_left 32 32 c.args.self.now.0 c.lowest-k.result (omega arith) (search rules) c.if-left-eq0.false c.lowest-k.ensures in
    search (rules, less)
