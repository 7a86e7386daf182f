use Rattle.std.proofs.Common.{get_or, length}
use Rattle.image_format.specs.Format.{row_at}
use Rattle.image_format.specs.Image.{field_with}
use Rattle.image_format.proofs.Bytes.{rest_is, rest_stored, length_field}
use lib.ListN.{length-drop}
use Rattle.std.proofs.Common.{arith, ◌∙◌, le-ltb, refl}
use Rattle.image_format.proofs.Rounds.{all_bytes, row_fits, bytes_more, write_start, write_more, write_end}
use Rattle.image_format.proofs.Rows.{is_row, slot_small}
use Rattle.image_format.proofs.write.Goals as goal

pub loop-row-init : goal.loop-row-init
loop-row-init c = (all_bytes, write_start _ _)

pub offset_bounds-words-row : goal.offset_bounds-words-row
offset_bounds-words-row c = rw c.format_rows-row-items.ensures (omega (arith, slot_small c.loop-row.row-index))

pub bounds-words-row : goal.bounds-words-row
bounds-words-row c = rw c.format_rows-row-items.ensures (slot_small c.loop-row.row-index)

pub put_field-requires-clause-fits : goal.put_field-requires-clause-fits
put_field-requires-clause-fits c =
    let n = c.loop-row.auto.buf in
    let f = row_fits c.loop-row.row-index c.loop-row.at (length c.loop-row.buf) c.loop-row-test.true c.loop-row.invariant.0 (omega arith) in
    rw (c.format_rows-row-items.ensures, rest_is, length-drop) (omega arith)

pub put_field-requires-clause-row : goal.put_field-requires-clause-row
put_field-requires-clause-row c = rw c.format_rows-row-items.ensures (is_row c.loop-row.row-index)

pub loop-row-preserved : goal.loop-row-preserved
loop-row-preserved c =
    let r = row_at c.loop-row.row-index in
    let x = get_or c.args.words.now r.slot 0 in
    let n = c.loop-row.auto.buf in
    let f = row_fits c.loop-row.row-index c.loop-row.at (length c.loop-row.buf) c.loop-row-test.true c.loop-row.invariant.0 (omega arith) in
    let step = rw c.format_rows-row-items.ensures at c.step-at.ensures in
    let after =
    rest_stored c.loop-row.buf _ (field_with x r) c.loop-row.at _
    (rw (c.format_rows-row-items.ensures, rest_is c.loop-row.buf c.loop-row.at) at c.put_field.ensures) (omega arith) (rw (length_field x r) f) in (
      bytes_more _ _ _ c.loop-row-test.true step c.loop-row.invariant.0,
      write_more c.args.words.now _ _ _ _ c.loop-row.buf _ c.loop-row-test.true step refl after ∙ c.loop-row.invariant.1,
    )

pub returns : goal.returns
returns c = rw (le-ltb _ _ c.if-buf-lt-IMAGE_SIZE.false) (write_end _ _ _ _ _ (omega arith) c.if-buf-lt-IMAGE_SIZE.false c.loop-row.invariant.1)
