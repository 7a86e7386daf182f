use Rattle.vlapic_words.proofs.Ways.{read_odd}
use Rattle.vlapic_words.proofs.handle_read.Goals as goal

pub returns : goal.returns
returns c = search read_odd
