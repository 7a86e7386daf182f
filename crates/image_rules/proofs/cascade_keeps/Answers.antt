use Rattle.image_rules.proofs.Pair.{cascade_latch, cascade_plain, cascade_full}
use Rattle.image_rules.proofs.Tests.{same_is}
use Rattle.image_rules.proofs.cascade_keeps.Goals as goal

pub returns-in-Latch : goal.returns-in-Latch
returns-in-Latch c = cascade_latch c.args.words.now _ c.rule.ensures c.in-Latch.is

pub returns-in-Cascade : goal.returns-in-Cascade
returns-in-Cascade c =
    rw c.has-requested.ensures (cascade_plain c.args.words.now _ _ _ c.master.ensures c.slave.ensures c.request.ensures _ _ _ c.rule.ensures c.in-Cascade.is c.asks.ensures
    (same_is _ c.asks.result))

pub returns-in-Full : goal.returns-in-Full
returns-in-Full c =
    rw c.has-requested.ensures (cascade_full c.args.words.now _ _ _ c.master.ensures c.slave-in-Full.ensures c.request.ensures _ _ _ c.rule.ensures c.in-Full.is c.full_asks.ensures
    (same_is _ c.full_asks.result))
