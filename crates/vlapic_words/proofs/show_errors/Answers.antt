use Rattle.vlapic_words.proofs.Ways.{errors_way}
use Rattle.vlapic_words.proofs.show_errors.Goals as goal

pub returns : goal.returns
returns c = search errors_way
