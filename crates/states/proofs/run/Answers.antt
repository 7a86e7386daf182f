use native.Mathlib.Omega.{arith}
use Rattle.script_machine.specs.Machine.{machine_of}
use Rattle.script_machine.specs.Run.{step_in}
use Rattle.script_machine.proofs.Places.{did_lies}
use Rattle.states.proofs.run.Goals as goal

pub loop-smaller : goal.loop-smaller
loop-smaller g c =
    let l = c.loop in
    let x = c.put_step-said in
    omega (arith, did_lies c.args.script.now (machine_of l.machine) l.next.at (step_in x.new.machine (x.result.0, x.result.1)) _ _ x.ensures.stepped_after c.in_default.is)

pub loop-preserved : goal.loop-preserved
loop-preserved g c =
    let l = c.loop in
    let x = c.put_step-said in
    omega (arith, did_lies c.args.script.now (machine_of l.machine) l.next.at (step_in x.new.machine (x.result.0, x.result.1)) _ _ x.ensures.stepped_after c.in_default.is)
