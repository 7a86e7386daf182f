use Rattle.reply_text.proofs.Pages.{then_text, then_byte}
use Rattle.reply_text.proofs.Page.put_values.Goals as goal

pub returns-in-Three-clause-puts : goal.returns-in-Three-clause-puts
returns-in-Three-clause-puts c = rw c.in-Three.is (then_text c.put_decimal-in-Three.ensures.puts (then_byte c.put-in-Three.ensures.puts c.put_pair-in-Three.ensures.puts))
