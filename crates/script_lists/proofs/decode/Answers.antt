use borrow.Author.Tests.{ne_eqb}
use mathlib.Core.Path.{refl}
use Rattle.script_lists.specs.Fields.{decoded}
use Rattle.script_lists.proofs.decode.Goals as goal

pub returns-in-64 : goal.returns-in-64
unfolding decoded
returns-in-64 c = rw c.in-64.is (rw (c.byte_at-number.ensures, c.from.ensures, c.byte_at.ensures) at c.checked.ensures)

pub returns-in-65 : goal.returns-in-65
unfolding decoded
returns-in-65 c = rw c.in-65.is (rw (c.from.ensures, c.byte_at.ensures) at c.checked-in-65.ensures)

pub returns-in-66 : goal.returns-in-66
unfolding decoded
returns-in-66 c = rw c.in-66.is (rw (c.byte_at-number.ensures, c.from.ensures, c.byte_at.ensures) at c.checked-in-66.ensures)

pub returns-in-67 : goal.returns-in-67
unfolding decoded
returns-in-67 c = rw c.in-67.is (rw (c.byte_at-number.ensures, c.from.ensures, c.byte_at.ensures) at c.checked-in-67.ensures)

pub returns-in-68 : goal.returns-in-68
unfolding decoded
returns-in-68 c = rw c.in-68.is (rw (c.from.ensures, c.byte_at.ensures) at c.checked-in-68.ensures)

pub returns-in-69 : goal.returns-in-69
unfolding decoded
returns-in-69 c = rw c.in-69.is (rw (c.from.ensures, c.byte_at.ensures) at c.checked-in-69.ensures)

pub returns-in_default : goal.returns-in_default
unfolding decoded
returns-in_default c =
    let r = c.in_default.in_default-own.rest in
    rw (ne_eqb _ _ r.0.0.0.0.0.1, ne_eqb _ _ r.0.0.0.0.1, ne_eqb _ _ r.0.0.0.1, ne_eqb _ _ r.0.0.1, ne_eqb _ _ r.0.1, ne_eqb _ _ r.1) refl
