use Rattle.reply_text.proofs.Puts.{small_decimal}
use Rattle.reply_text.proofs.Pages.{text_is, byte_is, digits_are}
use Rattle.reply_text.proofs.Page.put_decimal.Goals as goal

pub returns-then-n-lt10-clause-puts : goal.returns-then-n-lt10-clause-puts
returns-then-n-lt10-clause-puts c = text_is (small_decimal _ c.if-n-lt10.true) (byte_is c.digit.ensures c.put.ensures.puts)

pub returns-clause-puts : goal.returns-clause-puts
returns-clause-puts c = text_is (digits_are _ _ _ c.ranges.n.fits c.decimal-count.ensures.digits c.decimal-count.ensures.len) c.put_text.ensures.puts
