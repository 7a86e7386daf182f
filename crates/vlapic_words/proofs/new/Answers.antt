use Rattle.vlapic_words.proofs.Ways.{new_way}
use Rattle.vlapic_words.proofs.new.Goals as goal

pub returns : goal.returns
returns c = search new_way
