use Rattle.waiting_claims.proofs.Handed.{hand_done, hand_back}
use borrow.Author.Rules.{rules}
use Rattle.waiting_claims.proofs.hand.Goals as goal

pub returns-in-Ok : goal.returns-in-Ok
returns-in-Ok c = hand_done _ _ _ _ _ _ c.take.result c.in-Some.is c.requires c.take.ensures (search rules)

pub returns-in-Err : goal.returns-in-Err
returns-in-Err c = hand_back _ _ _ _ _ _ c.take.result c.in-Some.is c.requires c.take.ensures _ _ _ c.in-Err.is c.restore_interrupt.ensures
