use Rattle.script_machine.specs.Machine.{machine_of}
use Rattle.script_machine.specs.Run.{run_of}
use Rattle.script_machine.proofs.Runs.{further}
use mathlib.Core.Path.{◌≡◌}
use Prim.Native.Nat.{◌-◌, ◌≤◌}
use Rattle.script_machine.proofs.Machine.run.Given as goal

abbrev pub invariant-loop-done : goal.invariant-loop-done
invariant-loop-done l = (l.done ≤ l.allowance)
    × (run_of l.script (machine_of l.initial.self) l.initial.next.at l.allowance ≡ further l.done (run_of l.script (machine_of l.self) l.next.at (l.allowance - l.done)))
