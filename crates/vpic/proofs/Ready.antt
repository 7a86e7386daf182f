-- The line that a claim takes is pending on its chip. Assumes nothing.
use Rattle.std.proofs.Common.{Option, Some, None}
use mathlib.Core.Path.{◌≡◌, refl, subst}
use mathlib.Core.Bool.{Bool, true, false, cond}
use Prim.Native.Nat.{◌<◌}
use lib.Dec.{eqb}
use borrow.Author.Tests.{eqb-true}
use Rattle.types.specs.declared.PicLine.{PicLine}
use Rattle.types.specs.declared.PicPlace.{PicPlace}
use Rattle.types.specs.declared.PicPlace.TheVariants.{Master, Slave}
use Rattle.vpic_chip.specs.Chip.{Highest, pending_irq}
use Rattle.vpic_chip.proofs.Laws.{pended}
use Rattle.vpic.specs.Words.{PicState}
use Rattle.vpic.specs.Pair.{cascade_place, place_from, pending_place}

-- the line of a place is pending there, and the slave's with the master's line 2
abbrev pub Ready : PicState → Option PicPlace → Type 0
Ready p (Some (Master k)) = Highest p.master k.0
Ready p (Some (Slave k)) = Highest p.master 2 × Highest p.slave k.0
Ready p None = Unit

pub pending_ready : (p : PicState) → Ready p (pending_place p)
pending_ready p = by_master (pending_irq p.master) refl
  where
    by_slave : (b : Option PicLine) → pending_irq p.slave ≡ b → Highest p.master 2 → Ready p (cascade_place b)
    by_slave (Some k) e h = (h, pended p.slave k e)
    by_slave None e h = h

    by_line : (k : PicLine) (b : Bool) → eqb k.0 2 ≡ b → Highest p.master k.0 → Ready p (cond b (cascade_place (pending_irq p.slave)) (Some (Master k)))
    by_line k true q h = by_slave (pending_irq p.slave) refl (subst (Highest p.master) (eqb-true k.0 2 q) h)
    by_line k false q h = h

    by_master : (a : Option PicLine) → pending_irq p.master ≡ a → Ready p (place_from p a)
    by_master (Some k) e = by_line k (eqb k.0 2) refl (pended p.master k e)
    by_master None e = tt

pub ready_master : (p : PicState) (k : PicLine) → pending_place p ≡ Some (Master k) → Highest p.master k.0
ready_master p k e = subst (Ready p) e (pending_ready p)

pub ready_slave : (p : PicState) (k : PicLine) → pending_place p ≡ Some (Slave k) → Highest p.master 2 × Highest p.slave k.0
ready_slave p k e = subst (Ready p) e (pending_ready p)

pub low_slave : (p : PicState) (k : PicLine) → pending_place p ≡ Some (Slave k) → k.0 < 8
low_slave p k e = (ready_slave p k e).1.low
