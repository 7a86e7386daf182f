use native.Mathlib.Omega.{arith}
use Rattle.reply_text.proofs.Puts.{then_put}
use Rattle.script_lists.proofs.put_lists.Goals as goal

pub returns : goal.returns
returns c = record {
  puts = then_put c.put_list-end.ensures.puts (then_put c.put_list-end-2.ensures.puts (then_put c.put_list-end-3.ensures.puts c.put_list.ensures.puts));
  upper_bound = omega (arith, c.put_list-end.ensures.upper_bound, c.put_list-end-2.ensures.upper_bound, c.put_list-end-3.ensures.upper_bound, c.put_list.ensures.upper_bound);
}
