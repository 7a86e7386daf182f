use mathlib.Core.Bool.{true, false}
use lib.Dec.{leb}
use Prim.Native.Nat.{ℕ, ◌*◌}
use mathlib.Core.Path.{◌≡◌, refl, ap, ◌∙◌}
use Rattle.utils.specs.Cases.{cond_yes, cond_no}
use native.Mathlib.Omega.{arith}
use Rattle.utils.specs.Vectors.{class_of}
use borrow.Author.Tests.{le-leb, lt-leb}
use Rattle.vlapic_regs.specs.Register.{priority}
use Rattle.vlapic_regs.proofs.register.ppr.Goals as goal

pub returns-then-tpr-class : goal.returns-then-tpr-class
unfolding priority
returns-then-tpr-class c =
    let a = c.args in
    let e : leb (class_of a.isrv.0) (class_of a.tpr) ≡ true = rw (← c.from.ensures, ← c.prio-class.ensures) (le-leb c.prio-class.result (class_of a.tpr) (omega arith)) in
    cond_yes _ _ _ _ _ e refl

pub returns : goal.returns
unfolding priority
returns c =
    let a = c.args in
    let e : leb (class_of a.isrv.0) (class_of a.tpr) ≡ false = rw (← c.from.ensures, ← c.prio-class.ensures) (lt-leb c.prio-class.result (class_of a.tpr) (omega arith)) in
    cond_no _ _ _ _ _ e (ap (λ (x : ℕ). x * 16) (c.prio-class.ensures ∙ ap class_of c.from.ensures))
