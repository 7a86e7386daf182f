use Rattle.image.specs.Restore.{chips, blank}
use Rattle.image.proofs.Restoring.{not_read, not_kept, all_kept}
use Rattle.image.proofs.restore.Goals as goal

pub returns-then-not-is_read : goal.returns-then-not-is_read
returns-then-not-is_read c = not_read c.args.image.now (chips c.args.io.now c.args.apic.now c.args.pair.now) _ c.is_read.ensures c.if-not-is_read.true

pub returns-in_default : goal.returns-in_default
unfolding blank
returns-in_default c = not_kept c.args.image.now (chips c.args.io.now c.args.apic.now c.args.pair.now) _ c.is_read.ensures c.if-not-is_read.false _ c.load.ensures _ c.kept_chips.ensures c.in_default.is

pub returns : goal.returns
unfolding blank
returns c = all_kept c.args.image.now (chips c.args.io.now c.args.apic.now c.args.pair.now) _ c.is_read.ensures c.if-not-is_read.false _ c.load.ensures _ c.kept_chips.ensures c.in-Some.chips c.in-Some.is
