use native.Mathlib.Omega.{arith}
use Rattle.script_states.proofs.Texts.{did_put}
use Rattle.script_lists.proofs.put_said.Goals as goal

pub returns-in-Ok : goal.returns-in-Ok
returns-in-Ok c = record {
  puts = did_put _ _ _ _ (omega (arith, c.requires)) c.in-Ok.is c.put_line-end.ensures.puts c.put_lists.ensures.puts;
  upper_bound = omega (arith, c.put_line-end.ensures.upper_bound, c.put_lists.ensures.upper_bound);
}
