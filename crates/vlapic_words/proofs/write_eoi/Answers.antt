use Rattle.vlapic_words.proofs.Ways.{write_eoi_none, write_eoi_some}
use Rattle.vlapic_words.proofs.write_eoi.Goals as goal

pub returns-then-vector-eq0 : goal.returns-then-vector-eq0
returns-then-vector-eq0 c = search write_eoi_none

pub returns : goal.returns
returns c = search write_eoi_some
