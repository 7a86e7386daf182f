use Rattle.std.proofs.Common.{arith, ◌∙◌}
use Rattle.image_format.proofs.Bytes.{number_of_part}
use Rattle.image_format.proofs.word_from.Goals as goal

pub returns : goal.returns
returns c = c.from_le_bytes.ensures ∙ rw c.copy_from_slice.ensures.after (number_of_part c.args.bytes.now _ (omega arith) c.requires)
