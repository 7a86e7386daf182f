use Rattle.vlapic_words.proofs.Ways.{store_way}
use Rattle.vlapic_words.proofs.store.Goals as goal

pub returns : goal.returns
returns c = search store_way
