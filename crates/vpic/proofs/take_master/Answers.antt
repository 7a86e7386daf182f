use Rattle.vpic_chip.proofs.Packing.{plain}
use borrow.Author.Rules.{rules}
use Rattle.vpic.proofs.Laws.{master_taken_lem}
use Rattle.vpic.proofs.take_master.Goals as goal

pub returns : goal.returns
returns c = (search (master_taken_lem, plain), search rules)
