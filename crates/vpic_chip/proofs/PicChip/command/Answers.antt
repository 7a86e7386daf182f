use Rattle.utils.specs.Cases.{cases}
use Rattle.vpic_chip.specs.Chip.{commanded}
use Rattle.vpic_chip.proofs.Laws.{commanded_eoi}
use Rattle.vpic_chip.proofs.PicChip.command.Goals as goal

pub returns-then-value-eq32 : goal.returns-then-value-eq32
returns-then-value-eq32 c = search commanded_eoi

pub returns-then-value-eq1 : goal.returns-then-value-eq1
unfolding commanded
returns-then-value-eq1 c = search cases

pub returns-then-value-eq1-2 : goal.returns-then-value-eq1-2
unfolding commanded
returns-then-value-eq1-2 c = search cases

pub returns : goal.returns
unfolding commanded
returns c = search cases
