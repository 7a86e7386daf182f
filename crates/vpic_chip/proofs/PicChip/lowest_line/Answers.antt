use Rattle.vpic_chip.proofs.Packing.{lowest_line_read}
use Rattle.vpic_chip.proofs.PicChip.lowest_line.Goals as goal

pub returns : goal.returns
returns c = search lowest_line_read
