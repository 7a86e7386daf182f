use Rattle.reply_text.proofs.Pages.{then_text, then_byte}
use Rattle.reply_text.proofs.Page.put_pair.Goals as goal

pub returns-clause-puts : goal.returns-clause-puts
returns-clause-puts c = then_text c.put_decimal.ensures.puts (then_byte c.put.ensures.puts c.put_decimal-2.ensures.puts)
