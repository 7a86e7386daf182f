use Prim.Native.Nat.{◌-◌}
use lib.ListN.{length}
use Rattle.script_machine.specs.Machine.{machine_of}
use Rattle.script_print.proofs.Printing.{Printing}
use Rattle.script_print.proofs.put_lines.Given as goal

abbrev pub invariant-loop-did : goal.invariant-loop-did
invariant-loop-did l = Printing l.script l.initial.out (machine_of l.initial.machine) (machine_of l.machine) l.next.at l.end l.out

abbrev pub decreases-loop-did : goal.decreases-loop-did
decreases-loop-did l = length l.script - l.next.at
