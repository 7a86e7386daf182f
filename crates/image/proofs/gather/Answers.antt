use Rattle.std.proofs.Common.{arith, rules}
use Rattle.image.proofs.Listed.{gather_more, gather_end}
use Rattle.image.proofs.gather.Goals as goal

pub loop-k-preserved : goal.loop-k-preserved
loop-k-preserved c = gather_more _ _ _ _ _ _ c.loop-k-test.true (search rules) c.word_at.ensures c.loop-k.invariant

pub returns : goal.returns
returns c = gather_end _ _ _ _ _ (omega arith) c.loop-k-test.array_long c.loop-k.invariant
