use Rattle.reply_text.specs.Text.{too_long_line}
use Rattle.reply_text.proofs.Pages.{then_text}
use Rattle.reply_text.proofs.Page.put_too_long.Goals as goal

pub returns-clause-puts : goal.returns-clause-puts
unfolding too_long_line
returns-clause-puts c = then_text (rw (c.from.ensures, c.number.ensures) at c.put_decimal.ensures.puts) c.put.ensures.puts
