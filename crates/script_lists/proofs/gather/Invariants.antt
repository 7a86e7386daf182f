use Rattle.waiting.specs.Lists.{lists_in, list_at}
use Rattle.script_lists.proofs.Gathered.{Gathered}
use Rattle.script_lists.proofs.gather.Given as goal

abbrev pub invariant-loop-n : goal.invariant-loop-n
invariant-loop-n l = Gathered (list_at (lists_in l.lists) l.vcpu).waiting l.vectors l.n
