use Rattle.std.proofs.Common.{arith, ap, refl, sym, ◌∙◌, length}
use lib.Seq.{length-sets}
use Rattle.image_format.specs.Image.{bytes_of, header_of}
use Rattle.image_format.proofs.Bytes.{stored, bytes_put, length_bytes}
use Rattle.image_format.proofs.Rounds.{field_number}
use Rattle.image_format.proofs.put_field.Goals as goal

pub returns-then-is_number : goal.returns-then-is_number
returns-then-is_number c =
    let h = sym c.is_number.ensures ∙ c.if-is_number.true in
    let f = rw h at c.requires.fits in
    let head = stored c.args.bytes.now _ (header_of c.args.row) 0 3 (c.copy_from_slice.ensures.after ∙ c.header.ensures) refl (omega arith) in
    let long = ap length head ∙ length-sets c.args.bytes.now 0 (header_of c.args.row) in
    let n = length_bytes c.args.row.size c.args.word in
    stored _ _ (bytes_of c.args.row.size c.args.word) 3 _
    (c.copy_from_slice-then-is_number.ensures.after ∙ rw (c.to_le_bytes.ensures, c.size-size.ensures) (bytes_put c.args.row.size c.args.word (c.requires.row.1 h)))
    (omega arith) (omega arith)
    ∙ field_number c.args.bytes.now 0 c.args.word c.args.row _ h head
