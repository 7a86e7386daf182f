use mathlib.Core.Path.{refl, sym, ◌∙◌}
use Rattle.script_resume.proofs.Starting.{start_new, start_took, start_refused}
use Rattle.script_resume.proofs.start.Goals as goal

pub returns-then-is_empty : goal.returns-then-is_empty
returns-then-is_empty c =
    let whole = start_new c.args.image.now _ _ _ _ _ _ c.new.ensures (sym c.is_empty.ensures ∙ c.if-is_empty.true) in
    record { answer = whole.0; machine_after = whole.1 }

pub returns-in-Ok : goal.returns-in-Ok
returns-in-Ok c =
    let whole = start_took c.args.image.now _ _ _ _ _ _ c.new.ensures _ _ _ _ (sym c.is_empty.ensures ∙ c.if-is_empty.false) c.restore.ensures _ refl c.in-Ok.is in
    record { answer = whole.0; machine_after = whole.1 }

pub returns-in-Err : goal.returns-in-Err
returns-in-Err c =
    let whole = start_refused c.args.image.now _ _ _ _ _ _ c.new.ensures _ _ _ _ (sym c.is_empty.ensures ∙ c.if-is_empty.false) c.restore.ensures _ c.in-Err.is in
    record { answer = whole.0; machine_after = whole.1 }
