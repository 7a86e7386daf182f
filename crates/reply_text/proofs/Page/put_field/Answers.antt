use Rattle.reply_text.specs.Text.{line}
use Rattle.reply_text.proofs.Pages.{then_byte, byte_is}
use Rattle.reply_text.proofs.Page.put_field.Goals as goal

pub returns-clause-puts : goal.returns-clause-puts
unfolding line
returns-clause-puts c =
    then_byte (byte_is c.digit.ensures c.put.ensures.puts)
    (then_byte (byte_is c.digit-2.ensures c.put-2.ensures.puts) (then_byte c.put-3.ensures.puts c.put_reply.ensures.puts))
