use Rattle.std.proofs.Common.{ap, not}
use Rattle.waiting_claims.proofs.Handed.{for_unknown, for_known}
use Rattle.waiting_claims.proofs.claim_pending_interrupt.Goals as goal

pub returns-then-not-is_known : goal.returns-then-not-is_known
returns-then-not-is_known c = search for_unknown

pub returns : goal.returns
returns c = for_known _ _ _ _ _ _ c.claim_pending_interrupt-claim.result _ c.is_known.ensures (ap not c.if-not-is_known.false) c.claim_pending_interrupt-claim.ensures c.hand.ensures
