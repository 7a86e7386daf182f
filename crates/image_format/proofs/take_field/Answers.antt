use Rattle.std.proofs.Common.{arith, sym, ◌∙◌, ◌+◌, ◌-◌}
use Rattle.image_format.proofs.Bytes.{number_part}
use Rattle.image_format.proofs.Rounds.{take_number}
use Rattle.image_format.proofs.take_field.Goals as goal

pub returns-then-is_number : goal.returns-then-is_number
returns-then-is_number c =
    let h = sym c.is_number.ensures ∙ c.if-is_number.true in
    take_number c.args.bytes.now 0 c.args.row c.args.words.now _ h
    (c.word_from.ensures ∙ number_part c.args.bytes.now 3 (3 + c.size.result - 3) c.args.row.size (omega arith) (let f = rw h at c.requires.fits in omega arith))
