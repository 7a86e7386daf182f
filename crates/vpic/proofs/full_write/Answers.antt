use Rattle.vpic.specs.Words.{full_view}
use Rattle.vpic.proofs.Laws.{settle_made}
use Rattle.vpic.proofs.full_write.Goals as goal

pub returns : goal.returns
returns c = settle_made (full_view c.args.words.now) _ _ c.args.port c.args.byte _ c.full_write_at.ensures _ c.in_ok-full_write_at.was c.full_settle.ensures
