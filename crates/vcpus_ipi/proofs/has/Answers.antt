use Rattle.utils.proofs.Laws.{bit_above}
use mathlib.Core.Path.{sym}
use borrow.Author.Rules.{rules}
use borrow.Author.Tests.{le-ltb}
use Rattle.vcpus_ipi.proofs.has.Goals as goal

pub returns-else-place-lt64 : goal.returns-else-place-lt64
returns-else-place-lt64 c =
    rw (le-ltb _ _ c.if-place-lt64.false) (sym (bit_above 64 c.args.set c.args.place (search rules) c.if-place-lt64.false))
