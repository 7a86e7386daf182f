use Rattle.vpic.proofs.Laws.{full_master_taken}
use Rattle.vpic_chip.proofs.Full.{placed_acknowledge}
use borrow.Author.Rules.{rules}
use Rattle.vpic.proofs.full_take_master.Goals as goal

pub returns : goal.returns
returns c = (search (full_master_taken, placed_acknowledge), search rules)
