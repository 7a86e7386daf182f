use native.Mathlib.Omega.{arith}
use Rattle.script_machine.specs.Machine.{machine_of}
use Rattle.waiting.specs.Lists.{lists_in}
use Rattle.script_lists.specs.Steps.{host_step_in}
use Rattle.script_lists.proofs.Hosts.{did_lies}
use Rattle.lists.proofs.run.Goals as goal

pub loop-smaller : goal.loop-smaller
loop-smaller g c =
    let l = c.loop in
    let x = c.put_step-said in
    omega (arith, did_lies c.args.script.now (lists_in l.lists) (machine_of l.machine) l.next.at (host_step_in x.new.lists x.new.machine (x.result.0, x.result.1)) _ _ x.ensures.stepped_after c.in_default.is)

pub loop-preserved : goal.loop-preserved
loop-preserved g c =
    let l = c.loop in
    let x = c.put_step-said in
    omega (arith, did_lies c.args.script.now (lists_in l.lists) (machine_of l.machine) l.next.at (host_step_in x.new.lists x.new.machine (x.result.0, x.result.1)) _ _ x.ensures.stepped_after c.in_default.is)
