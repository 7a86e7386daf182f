-- The pair's claims for a vCPU that is stopped (document 02, T-13): what the pair claims goes into the vCPU's waiting list, and what the list refuses goes back to the pair
-- by the same call.
use Rattle.std.specs.Prelude.{cond, Option, Some, None, Result}
use Rattle.types.specs.declared.PicLine.{PicLine}
use Rattle.types.specs.declared.Refusal.{Refusal}
use Rattle.types.specs.declared.Refusal.TheVariants.{OutOfRange, ListFull}
use Rattle.types.specs.declared.Reply.{Reply}
use Rattle.types.specs.declared.Reply.TheVariants as reply
use Rattle.types.specs.declared.VcpuId.{VcpuId}
use Rattle.types.specs.Reply.{Outcome, outcome_of, result_reply}
use Rattle.vpic.specs.declared.PicInterruptClaim.{PicInterruptClaim}
use Rattle.vpic.specs.Words.{PicState}
use Rattle.vpic.specs.Pair.{StateClaim, claim_reply, claim_irq, claim_pending, restore_interrupt}
use Rattle.waiting.specs.Waiting.{is_full}
use Rattle.waiting.specs.Lists.{Lists, known_in, list_at, take}

-- the vCPUs' lists, and the pair that they share
pub record Host : Type 0 where
  pub lists : Lists
  pub pair : PicState

abbrev pub host : Lists → PicState → Host
host s p = record { lists = s; pair = p }

-- vector, line and flags, as the pair answers
abbrev pub waiting_reply : Result (Option PicInterruptClaim) Refusal → Reply
waiting_reply = result_reply claim_reply

-- a claim that the pair p has made, for a known vCPU: nothing claimed is nothing, whatever the list; a claim whose vector finds no place is refused with 9 and restored
abbrev pub handed : Lists → PicState → VcpuId → Option PicInterruptClaim → Outcome Host
handed s p id None = outcome_of (host s p) (claim_reply None)
handed s p id (Some c) =
    cond (is_full (list_at s id))
    (outcome_of (host s (restore_interrupt p c).state) (reply.Refused ListFull))
    (outcome_of (host (take s id c.vector).state p) (claim_reply (Some c)))

-- an unknown vCPU is refused with 5, before the pair is touched
unfoldable pub claim_for : Host → VcpuId → (PicState → StateClaim) → Outcome Host
claim_for h id claim =
    cond (known_in h.lists id)
    (handed h.lists (claim h.pair).state id (claim h.pair).claim)
    (outcome_of h (reply.Refused OutOfRange))

-- ---- the calls

abbrev pub claim_irq_for : Host → VcpuId → PicLine → Outcome Host
claim_irq_for h id l = claim_for h id (λ p. claim_irq p l)

abbrev pub claim_pending_for : Host → VcpuId → Outcome Host
claim_pending_for h id = claim_for h id claim_pending
