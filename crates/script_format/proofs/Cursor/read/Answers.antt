use mathlib.Core.Path.{◌∙◌}
use Rattle.script_format.proofs.Places.{ended, no_header, cut_off, whole}
use Rattle.script_format.proofs.Cursor.read.Goals as goal

pub returns-then-script-at : goal.returns-then-script-at
returns-then-script-at c = ended _ _ c.if-script-at.true

pub returns-then-script-at-lt3 : goal.returns-then-script-at-lt3
returns-then-script-at-lt3 c = no_header _ _ c.if-script-at.false c.if-script-at-lt3.true

pub returns-then-script-start : goal.returns-then-script-start
returns-then-script-start c = cut_off _ _ c.if-script-at.false c.if-script-at-lt3.false _ (c.from-size.ensures ∙ c.u16_at.ensures) c.if-script-start.true

pub returns : goal.returns
returns c = whole _ _ c.if-script-at.false c.if-script-at-lt3.false _ (c.from-size.ensures ∙ c.u16_at.ensures) _ _ c.if-script-start.false c.decode.ensures c.field_of.ensures
