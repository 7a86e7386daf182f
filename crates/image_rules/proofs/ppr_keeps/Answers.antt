use Rattle.image_rules.proofs.Tests.{ppr_kept}
use Rattle.image_rules.proofs.ppr_keeps.Goals as goal

-- src/lib.rt:201:1
pub returns : goal.returns
returns c = ppr_kept c.args.words.now _ _ _ _ c.low.ensures c.write_tpr.ensures.registers c.low-2.ensures c.low-3.ensures
