use Rattle.vpic_chip.proofs.Packing.{less_fits}
use Rattle.vpic_chip.proofs.Laws.{ended_le, ended_less}
use Rattle.vpic_chip.proofs.PicChip.end_highest.Goals as goal

pub overflow_sub-ended : goal.overflow_sub-ended
overflow_sub-ended c = search ended_le

pub overflow_sub-result : goal.overflow_sub-result
overflow_sub-result c = search less_fits

pub returns : goal.returns
returns c = search ended_less
