use Rattle.std.proofs.Common.{◌-◌, sym, ◌∙◌, arith}
use borrow.Author.Tests.{eqb-true}
use Rattle.vlapic_regs.proofs.Highest.{start, passed, found, empty}
use Rattle.vlapic_regs.proofs.vectors.find_isrv.Goals as goal

pub words-init : goal.words-init
words-init c = (omega arith, omega arith, start _ _)

pub words-preserved-then-is_empty : goal.words-preserved-then-is_empty
words-preserved-then-is_empty c =
    (omega arith, omega arith, empty _ (c.words.word - 1) c.words.invariant.2 (omega arith) (omega arith) (eqb-true _ 0 (sym c.is_empty.ensures ∙ c.if-is_empty.true)))

pub bits-preserved : goal.bits-preserved
bits-preserved c = (
  omega arith,
  omega arith,
  omega arith,
  passed _ _ (c.bits.bit - 1) c.bits.invariant.3 (omega arith) (omega arith) (omega arith) (sym c.has.ensures ∙ c.if-has.false),
)

pub returns-then-has : goal.returns-then-has
returns-then-has c = found _ _ (c.bits.bit - 1) c.bits.invariant.3 (omega arith) (omega arith) (omega arith) (sym c.has.ensures ∙ c.if-has.true)
