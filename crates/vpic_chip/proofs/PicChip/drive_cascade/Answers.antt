use Rattle.vpic_chip.proofs.Laws.{driven_up, driven_down}
use Rattle.vpic_chip.proofs.PicChip.drive_cascade.Goals as goal

pub returns-then-up : goal.returns-then-up
returns-then-up c = search driven_up

pub returns : goal.returns
returns c = search driven_down
