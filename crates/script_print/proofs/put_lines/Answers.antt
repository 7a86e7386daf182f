use native.Mathlib.Omega.{arith}
use Rattle.script_machine.specs.Machine.{machine_of}
use Rattle.script_machine.specs.Run.{step_in}
use Rattle.script_machine.proofs.Places.{did_lies}
use Rattle.script_print.proofs.Printing.{printing_none, printing_did, printed_stopped, ran_stopped, printed_fits}
use Rattle.script_print.proofs.put_lines.Goals as goal

pub loop-did-init : goal.loop-did-init
loop-did-init c = printing_none _ _ _

pub loop-did-smaller : goal.loop-did-smaller
loop-did-smaller c =
    let l = c.loop-did in
    let x = c.step-said in
    omega (arith, did_lies c.args.script.now (machine_of l.machine) l.next.at (step_in x.new.self x.result) _ _ x.ensures c.in-Ok.is)

pub loop-did-preserved : goal.loop-did-preserved
loop-did-preserved c =
    let p = c.requires in
    let x = c.step-said in
    printing_did _ _ _ _ _ _ _ p.0 p.1 c.loop-did.invariant (step_in x.new.self x.result) _ _ _ _ x.ensures c.in-Ok.is c.put_line-end.ensures.puts c.put_line-end.ensures.upper_bound

pub returns-in-Err : goal.returns-in-Err
returns-in-Err c =
    let p = c.requires in
    let l = c.loop-did in
    let x = c.step-said in record {
      puts = printed_stopped _ _ _ _ _ _ _ p.0 p.1 l.invariant (step_in x.new.self x.result) _ _ _ x.ensures c.in-Err.is c.put_stop.ensures.puts;
      end_bound = printed_fits _ _ _ _ _ _ _ p.0 p.1 l.invariant _ c.put_stop.ensures.upper_bound;
      machine_after = ran_stopped _ _ _ _ _ _ _ p.0 p.1 l.invariant (step_in x.new.self x.result) _ x.ensures c.in-Err.is;
    }
