use Rattle.std.proofs.lemmas.Result.{err_from_is_err_and}
use Rattle.utils.specs.Cases.{cases}
use Rattle.std.proofs.Common.{◌%◌}
use Rattle.vpic.specs.Words.{plain_view}
use Rattle.vpic.proofs.Laws.{settle_refused, settle_made}
use Rattle.vpic.proofs.Full.{write_full, write_plain, write_plain_refused}
use Rattle.vpic.proofs.handle_write.Goals as goal

pub returns-then-width-ne1 : goal.returns-then-width-ne1
returns-then-width-ne1 c = search cases

pub returns-then-value-ge256 : goal.returns-then-value-ge256
returns-then-value-ge256 c = search write_full

pub returns-then-is_full : goal.returns-then-is_full
returns-then-is_full c = search write_full

pub returns-in_err-write_at : goal.returns-in_err-write_at
returns-in_err-write_at c = let p = err_from_is_err_and c.from_residual.result c.from_residual.ensures.1 in rw (p.1, p.2) (search (write_plain_refused, settle_refused (plain_view c.args.words.now) _ (plain_view c.args.words.now) c.args.port (c.args.value % 256) _ c.write_at.ensures _ c.in_err-write_at.was))

pub returns : goal.returns
returns c = search (write_plain, settle_made (plain_view c.args.words.now) _ _ c.args.port (c.args.value % 256) _ c.write_at.ensures _ c.in_ok-write_at.was c.settle.ensures)
