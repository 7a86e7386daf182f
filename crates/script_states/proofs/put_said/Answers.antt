use borrow.Author.Rules.{rules}
use Rattle.script_states.proofs.Texts.{did_put}
use Rattle.script_states.proofs.put_said.Goals as goal

pub returns-in-Ok : goal.returns-in-Ok
returns-in-Ok c = record {
  puts = did_put _ _ _ _ c.requires c.in-Ok.is c.put_line-end.ensures.puts c.put_chips.ensures.puts;
  upper_bound = search rules;
}
