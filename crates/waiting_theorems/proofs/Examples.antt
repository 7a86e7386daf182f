-- The examples of specs/Statements.antt, computed. Assumes nothing.
use mathlib.Core.Path.{refl}
use Rattle.utils.specs.Set.{with, without, outside, lowest}
use Rattle.vpic_priority.specs.Ring.{above, first_rank, first_by}
use Rattle.vpic_chip.specs.Chip.{opened, commanded, fed, pulsed, counts, pending_line, asks, driven, pending_irq, acknowledged, unacknowledged, acknowledge}
use Rattle.vpic.specs.Pair.{new_state, settled, latched, master_claim, slave_claim, claim_pending, claim_irq, restored, port_written, written_at}
use Rattle.waiting.specs.Waiting.{new_list, taken}
use Rattle.waiting.specs.Lists.{on_list}
use Rattle.waiting_claims.specs.Claims.{claim_for}
use Rattle.waiting_theorems.specs.Statements.{NotApartByClaims}

pub not_apart_by_claims : NotApartByClaims
unfolding first_rank first_by above opened commanded fed pulsed counts pending_line pending_irq acknowledged unacknowledged acknowledge asks driven new_state settled latched master_claim slave_claim claim_pending claim_irq restored port_written written_at with without outside lowest new_list taken on_list claim_for
not_apart_by_claims = (refl, refl)
