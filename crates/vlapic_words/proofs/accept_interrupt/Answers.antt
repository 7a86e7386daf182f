use Rattle.vlapic_words.proofs.Ways.{accept_way}
use Rattle.vlapic_words.proofs.accept_interrupt.Goals as goal

pub returns : goal.returns
returns c = search accept_way
