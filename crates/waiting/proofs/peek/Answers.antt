use Rattle.std.proofs.Common.{◌≡◌, Err, arith}
use Rattle.waiting.proofs.Lists.{no_start, of_list}
use Rattle.waiting.proofs.peek.Goals as goal

pub returns-in_err-start : goal.returns-in_err-start
returns-in_err-start c =
    let refused : c.from_residual.result ≡ Err c.in_err-start.field-0.0 = grind arith in
    rw refused (no_start _ _ _ _ c.in_err-start.ensures.place)

pub returns : goal.returns
returns c = of_list _ _ _ _ _ c.in_ok-start.ensures.place c.peek_at.ensures
