-- Traces of a board's calls (document 02, T-09): steps, the guest's rule, and the step at which a vector is accepted.
-- Intel SDM volume 3, the APIC chapter: interrupt, task and processor priority; interrupt acceptance for fixed interrupts; signaling interrupt servicing completion.
use Rattle.std.specs.Prelude.{ℕ, zero, suc, ◌+◌, ◌*◌, Bool, true, false, not, cond, ◌&&◌, ◌||◌, List, [], ◌∷◌, eqb, leb, ltb, Option, Some, None}
use Rattle.utils.specs.Vectors.{class_of}
use Rattle.types.specs.declared.Vector.{Vector}
use Rattle.planner.specs.Lines.{some, count}
use Rattle.vlapic_regs.specs.Vectors.{in_words}
use Rattle.board.specs.Board.{Board, accept_interrupt}
use Rattle.board.specs.Calls.{Call, SetGsiLevel, AcceptInterrupt, HandleEoi, WriteTpr, HandleWrite, Receive, next}
use Rattle.board_theorems.specs.Highest.{can_pass}

-- ---- a board

abbrev pub is_requested : Vector → Board → Bool
is_requested v b = in_words b.apic.irr v.0

-- something can be accepted: a request whose class is above PPR's
abbrev pub can_accept : Board → Bool
can_accept b = some 256 (can_pass b.apic)

-- r: the requests above v, by number
abbrev pub is_above : Vector → Board → ℕ → Bool
is_above v b u = ltb v.0 u && in_words b.apic.irr u

unfoldable pub requests_above : Vector → Board → ℕ
requests_above v b = count 256 (is_above v b)

-- s: the vectors in service whose class is v's or higher
abbrev pub is_before : Vector → Board → ℕ → Bool
is_before v b u = leb (class_of v.0) (class_of u) && in_words b.apic.isr u

unfoldable pub served_before : Vector → Board → ℕ
served_before v b = count 256 (is_before v b)

-- 2r + s: how many steps go before v's acceptance
abbrev pub steps_before : Vector → Board → ℕ
steps_before v b = 2 * requests_above v b + served_before v b

-- ---- a trace is a list of calls. Its steps are the guest's acceptances and its EOIs to the local APIC; any other calls may stand between

abbrev pub is_step : Call → Bool
is_step AcceptInterrupt = true
is_step HandleEoi = true
is_step (SetGsiLevel gsi up) = false
is_step (WriteTpr x) = false
is_step (HandleWrite addr width x) = false
is_step (Receive u level) = false

unfoldable pub steps : List Call → ℕ
steps [] = 0
steps (c ∷ cs) = cond (is_step c) (suc (steps cs)) (steps cs)

-- the call accepts v
abbrev pub is_of : Vector → Option Vector → Bool
is_of v None = false
is_of v (Some u) = eqb u.0 v.0

unfoldable pub accepts : Vector → Board → Call → Bool
accepts v b AcceptInterrupt = is_of v (accept_interrupt b).answer
accepts v b HandleEoi = false
accepts v b (SetGsiLevel gsi up) = false
accepts v b (WriteTpr x) = false
accepts v b (HandleWrite addr width x) = false
accepts v b (Receive u level) = false

-- the number of the step at which v is first accepted, counted from 1; 0 if none of these calls accepts it
abbrev pub later : Bool → ℕ → ℕ
later step zero = 0
later step (suc k) = cond step (suc (suc k)) (suc k)

unfoldable pub accepted_at : Vector → Board → List Call → ℕ
accepted_at v b [] = 0
accepted_at v b (c ∷ cs) = cond (accepts v b c) 1 (later (is_step c) (accepted_at v (next b c) cs))

-- ---- premises. Each is asked of the calls up to v's acceptance, and of no call after it

unfoldable pub until : Vector → (Board → Call → Bool) → Board → List Call → Bool
until v p b [] = true
until v p b (c ∷ cs) = p b c && (accepts v b c || until v p (next b c) cs)

-- the guest's rule: it accepts where something can be accepted, and else it gives an EOI
abbrev pub obeys : Board → Call → Bool
obeys b AcceptInterrupt = can_accept b
obeys b HandleEoi = not (can_accept b)
obeys b (SetGsiLevel gsi up) = true
obeys b (WriteTpr x) = true
obeys b (HandleWrite addr width x) = true
obeys b (Receive u level) = true

-- at a step TPR's class is below v's
abbrev pub tpr_below : Vector → Board → Call → Bool
tpr_below v b c = not (is_step c) || ltb (class_of b.apic.tpr) (class_of v.0)

-- no vector above v is requested after the call that wasn't before it
abbrev pub is_new : Vector → Board → Call → ℕ → Bool
is_new v b c u = ltb v.0 u && not (in_words b.apic.irr u) && in_words (next b c).apic.irr u

abbrev pub is_quiet : Vector → Board → Call → Bool
is_quiet v b c = not (some 256 (is_new v b c))
