use Rattle.vpic_chip.proofs.Full.{full_served, full_turned, full_taken}
use Rattle.vpic_chip.proofs.PicChip.full_acknowledged.Goals as goal

pub returns-then-not-auto_eoi : goal.returns-then-not-auto_eoi
returns-then-not-auto_eoi c = search full_served

pub returns-then-auto_rotation : goal.returns-then-auto_rotation
returns-then-auto_rotation c = search full_turned

pub returns : goal.returns
returns c = search full_taken
