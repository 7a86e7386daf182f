-- Calls, computed: messages on either side of vector 16, and the EOI of an edge-triggered vector, and of a level-triggered one with SVR bit 12 set.
use Rattle.std.specs.Prelude.{true, false, [], ◌∷◌, ◌≡◌, refl, Some, None}
use Rattle.utils.specs.Set.{with, without}
use Rattle.vlapic.specs.Regs.{start, with_isr, with_tmr, with_svr}
use Rattle.vlapic_regs.specs.Vectors.{in_words, highest_from}
use Rattle.vlapic_requests.specs.Requests.{request, receive, end_highest}

-- 15 is dropped, with error bit 6; 16 is requested
pub dropped : ((receive (start false 0) (record { 0 = 15 }) true).esr_pending ≡ 64) × (in_words (receive (start false 0) (record { 0 = 15 }) true).irr 15 ≡ false)
unfolding receive request with without
dropped = (refl, refl)

pub taken_in : ((receive (start false 0) (record { 0 = 16 }) true).esr_pending ≡ 0) × (in_words (receive (start false 0) (record { 0 = 16 }) true).irr 16 ≡ true)
unfolding receive request with without
taken_in = (refl, refl)

-- 0x41 in service, its trigger bit clear: its end is told to nobody
pub edge_silent : (end_highest (with_isr (start false 0) (0 ∷ 0 ∷ 2 ∷ 0 ∷ 0 ∷ 0 ∷ 0 ∷ 0 ∷ []))).answer ≡ None
unfolding end_highest highest_from
edge_silent = refl

-- the same, its trigger bit set: its end is told unless SVR bit 12, the suppression of EOI broadcasts, is set
pub told : (end_highest (with_tmr (with_isr (start false 0) (0 ∷ 0 ∷ 2 ∷ 0 ∷ 0 ∷ 0 ∷ 0 ∷ 0 ∷ [])) (0 ∷ 0 ∷ 2 ∷ 0 ∷ 0 ∷ 0 ∷ 0 ∷ 0 ∷ []))).answer ≡ Some (record { 0 = 0x41 })
unfolding end_highest highest_from
told = refl

pub suppressed : (end_highest (with_svr (with_tmr (with_isr (start false 0) (0 ∷ 0 ∷ 2 ∷ 0 ∷ 0 ∷ 0 ∷ 0 ∷ 0 ∷ [])) (0 ∷ 0 ∷ 2 ∷ 0 ∷ 0 ∷ 0 ∷ 0 ∷ 0 ∷ [])) 0x11ff)).answer ≡ None
unfolding end_highest highest_from
suppressed = refl
