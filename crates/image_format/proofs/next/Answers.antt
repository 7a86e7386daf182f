use Rattle.std.proofs.Common.{arith, refl}
use Rattle.image_format.proofs.Laws.{from_past, from_within}
use Rattle.image_format.proofs.next.Goals as goal

pub returns-then-r-end : goal.returns-then-r-end
returns-then-r-end c = from_past _ _ _ _ c.if-r-end.true refl

pub returns : goal.returns
returns c = from_within _ _ _ _ c.if-r-end.false (c.read_field.ensures.is _ (omega arith))
