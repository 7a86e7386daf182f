use Rattle.vpic_chip.proofs.Full.{blocking_open, blocking_all}
use Rattle.vpic_chip.proofs.PicChip.blocking.Goals as goal

pub returns-then-special_mask : goal.returns-then-special_mask
returns-then-special_mask c = search blocking_open

pub returns : goal.returns
returns c = search blocking_all
