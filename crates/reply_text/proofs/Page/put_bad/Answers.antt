use Rattle.reply_text.specs.Text.{bad_line}
use Rattle.reply_text.proofs.Pages.{then_text}
use Rattle.reply_text.proofs.Page.put_bad.Goals as goal

pub returns-clause-puts : goal.returns-clause-puts
unfolding bad_line
returns-clause-puts c = then_text c.put_text.ensures.puts (then_text c.put_decimal.ensures.puts c.put.ensures.puts)
