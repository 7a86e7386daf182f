use Rattle.image_format.specs.Format.{row_at}
use Rattle.image_format.proofs.Bytes.{rest_is}
use lib.ListN.{length-drop}
use Rattle.std.proofs.Common.{arith, sym, ◌∙◌, le-ltb}
use Rattle.image_format.proofs.Rounds.{all_bytes, row_fits, bytes_more, taken_from, load_start, load_more, load_end}
use Rattle.image_format.proofs.Rows.{is_row}
use Rattle.image_format.proofs.load.Goals as goal

pub loop-row-init : goal.loop-row-init
loop-row-init c = (all_bytes, load_start _ _)

pub take_field-requires-clause-fits : goal.take_field-requires-clause-fits
take_field-requires-clause-fits c =
    let f = row_fits c.loop-row.row-index c.loop-row.at _ c.loop-row-test.true c.loop-row.invariant.0 c.if-image-lt-IMAGE_SIZE.false in
    rw (c.format_rows-row-items.ensures, rest_is, length-drop) (omega arith)

pub take_field-requires-clause-row : goal.take_field-requires-clause-row
take_field-requires-clause-row c = rw c.format_rows-row-items.ensures (is_row c.loop-row.row-index)

pub loop-row-preserved : goal.loop-row-preserved
loop-row-preserved c =
    let step = rw c.format_rows-row-items.ensures at c.step-at.ensures in
    let same = rw (c.format_rows-row-items.ensures, rest_is c.args.image.now c.loop-row.at) at c.take_field.ensures in
    let after = taken_from c.args.image.now c.loop-row.words c.take_field.new.words c.loop-row.at (row_at c.loop-row.row-index) same in (
      bytes_more _ _ _ c.loop-row-test.true step c.loop-row.invariant.0,
      load_more c.args.image.now c.loop-row.row-index c.loop-row.at _ c.loop-row.words _ c.loop-row-test.true step after ∙ c.loop-row.invariant.1,
    )

pub returns : goal.returns
returns c = rw (le-ltb _ _ c.if-image-lt-IMAGE_SIZE.false) (sym (load_end _ _ _ _ (omega arith)) ∙ c.loop-row.invariant.1)
