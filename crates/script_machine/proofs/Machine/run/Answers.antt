use Rattle.script_machine.specs.Machine.{machine_of}
use Rattle.script_machine.specs.Run.{step_in, ended}
use Rattle.script_machine.proofs.Runs.{idle, run_out, run_did, run_stopped}
use native.Mathlib.Omega.{arith}
use mathlib.Core.Path.{◌≡◌, sym, ap, ◌∙◌}
use Prim.Native.Nat.{◌+◌, ◌-◌}
use Rattle.script_machine.specs.declared.Stop.TheVariants as stop
use Rattle.script_machine.proofs.Machine.run.Goals as goal

pub loop-done-preserved : goal.loop-done-preserved
loop-done-preserved c =
    let t = c.loop-done-test.true in
    let l = c.loop-done in
    let a = c.args in
    let x = c.step-said in
    (omega (arith, t), l.invariant.1 ∙ run_did a.script.now (machine_of l.self) l.next.at l.done (a.allowance - l.done) (a.allowance - (l.done + 1)) (omega (arith, t)) (step_in x.new.self x.result) _ _ x.ensures c.in_default.is)

pub returns-in-Err : goal.returns-in-Err
returns-in-Err c =
    let t = c.loop-done-test.true in
    let l = c.loop-done in
    let a = c.args in
    let x = c.step-said in
    ap ended (sym (l.invariant.1 ∙ run_stopped a.script.now (machine_of l.self) l.next.at l.done (a.allowance - l.done) (a.allowance - (l.done + 1)) (omega (arith, t)) (step_in x.new.self x.result) _ x.ensures c.in-Err.is))

pub returns : goal.returns
returns c =
    let l = c.loop-done in
    let a = c.args in
    let all : a.allowance ≡ l.done = omega arith in
    ap ended ((λ i. idle (machine_of l.self) (all i) l.next.at stop.Allowance) ∙ sym (l.invariant.1 ∙ run_out a.script.now (machine_of l.self) l.next.at l.done (a.allowance - l.done) (omega arith)))
