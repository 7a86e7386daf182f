use native.Mathlib.Omega.{arith}
use Rattle.reply_text.specs.Text.{reply_text}
use Rattle.reply_text.proofs.Digits.{byte_digits}
use Rattle.reply_text.proofs.Pages.{then_text, then_byte}
use Rattle.reply_text.proofs.Page.put_reply.Goals as goal

pub put_values-requires : goal.put_values-requires
put_values-requires c = omega (arith, c.put_decimal.ensures.puts.puts.end, c.from.ensures, byte_digits c.from.result (omega (arith, c.from.ensures)))

pub put-requires-2 : goal.put-requires-2
put-requires-2 c = omega (arith, c.put_decimal.ensures.puts.puts.end, c.from.ensures, byte_digits c.from.result (omega (arith, c.from.ensures)))

pub returns-clause-puts : goal.returns-clause-puts
unfolding reply_text
returns-clause-puts c =
    then_text (rw (c.from.ensures, c.number.ensures) at c.put_decimal.ensures.puts)
    (then_byte c.put.ensures.puts (then_text c.put_values.ensures.puts c.put-2.ensures.puts))

pub returns-clause-upper_bound : goal.returns-clause-upper_bound
returns-clause-upper_bound c = omega (arith, c.put_decimal.ensures.puts.puts.end, c.from.ensures, byte_digits c.from.result (omega (arith, c.from.ensures)))
