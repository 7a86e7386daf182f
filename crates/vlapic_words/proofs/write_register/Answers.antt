use mathlib.Core.List.{[]}
use Rattle.vlapic.proofs.Offsets.{onto, apart}
use Rattle.vlapic_words.proofs.Ways.{store_keys, store_none}
use Rattle.vlapic_words.proofs.write_register.Goals as goal

pub returns-in_default : goal.returns-in_default
returns-in_default c = store_none _ _ _ (apart _ (onto store_keys []) [] c.in_default.in_default-own.rest tt)
