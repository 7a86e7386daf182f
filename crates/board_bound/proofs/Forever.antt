-- Who waits for ever: the board comes back to where it was. Assumes nothing.
use Rattle.std.specs.Prelude.{None}
use Prim.Native.Nat.{ℕ, zero, suc}
use mathlib.Core.Bool.{Bool, true, false}
use mathlib.Core.Path.{◌≡◌, refl, ap, ◌∙◌}
use Rattle.board.specs.Board.{Board, set_gsi_level}
use Rattle.board.specs.Calls.{Call, AcceptInterrupt, HandleEoi, next, run}
use Rattle.board_theorems.specs.CounterExamples.{line, write_eoi_of}
use Rattle.board_bound.specs.Trace.{is_requested, can_accept, steps_before, steps, accepts, accepted_at, until, obeys, tpr_below, is_quiet}
use Rattle.board_bound.specs.Bound.{is_held}
use Rattle.board_bound.specs.CounterExamples.{computed}
use Rattle.board_bound.specs.Forever.{v31, v51, below, turns, WaitsForEver, HeldIsNew, behind, writes, WrongEoi, RightEoi, forgotten, eois, SendsNothing}

-- ---- below a held line

-- accepted and ended, the line's interrupt is requested again, and all is as it was
round : next (next below AcceptInterrupt) HandleEoi ≡ below
unfolding computed below
round = refl

not_v : accepts v31 below AcceptInterrupt ≡ false
unfolding computed below
not_v = refl

record Keeps (p : Board → Call → Bool) : Type 0 where
  first : p below AcceptInterrupt ≡ true
  second : p (next below AcceptInterrupt) HandleEoi ≡ true

turns_keep : (p : Board → Call → Bool) → Keeps p → (n : ℕ) → until v31 p below (turns n) ≡ true
unfolding until accepts
turns_keep p k zero = refl
turns_keep p k (suc zero) = rw (k.first, not_v)
turns_keep p k (suc (suc n)) = rw (k.first, not_v, k.second, round) (turns_keep p k n)

turns_steps : (n : ℕ) → steps (turns n) ≡ n
unfolding steps
turns_steps zero = refl
turns_steps (suc zero) = refl
turns_steps (suc (suc n)) = ap (λ (m : ℕ). suc (suc m)) (turns_steps n)

turns_none : (n : ℕ) → accepted_at v31 below (turns n) ≡ 0
unfolding accepted_at accepts
turns_none zero = refl
turns_none (suc zero) = rw not_v
turns_none (suc (suc n)) = rw (not_v, round, turns_none n)

requested_first : is_requested v31 below ≡ true
unfolding computed below
requested_first = refl

requested_second : is_requested v31 (next below AcceptInterrupt) ≡ true
unfolding computed below
requested_second = refl

turns_ask : (n : ℕ) → is_requested v31 (run below (turns n)) ≡ true
unfolding run
turns_ask zero = requested_first
turns_ask (suc zero) = requested_second
turns_ask (suc (suc n)) = rw round (turns_ask n)

obeyed : Keeps obeys
unfolding computed below
obeyed = record { first = refl; second = refl }

low : Keeps (tpr_below v31)
unfolding computed below
low = record { first = refl; second = refl }

holding : Keeps (λ d c. is_held v51 0 (next d c))
unfolding computed below
holding = record { first = refl; second = refl }

pub waits_for_ever : WaitsForEver
waits_for_ever n = (turns_steps n, turns_keep obeys obeyed n, turns_keep (tpr_below v31) low n, turns_keep (λ d c. is_held v51 0 (next d c)) holding n, turns_none n, turns_ask n)

pub held_is_new : HeldIsNew
unfolding computed below
held_is_new = (refl, refl, refl)

-- ---- the other EOI

-- the first write ends the entry, and no other changes anything
written : next (next behind (write_eoi_of 0x41)) (write_eoi_of 0x41) ≡ next behind (write_eoi_of 0x41)
unfolding computed behind
written = refl

Waiting : Board → Type 0
Waiting b = (can_accept b ≡ false) × (is_requested v31 b ≡ true) × (steps_before v31 b ≡ 1)

waiting_first : Waiting behind
unfolding computed behind Waiting
waiting_first = (refl, refl, refl)

waiting_second : Waiting (next behind (write_eoi_of 0x41))
unfolding computed behind Waiting
waiting_second = (refl, refl, refl)

more_writes : (n : ℕ) → run (next behind (write_eoi_of 0x41)) (writes n) ≡ next behind (write_eoi_of 0x41)
unfolding run
more_writes zero = refl
more_writes (suc n) = ap (λ (d : Board). run d (writes n)) written ∙ more_writes n

pub wrong_eoi : WrongEoi
unfolding run Waiting
wrong_eoi zero = waiting_first
wrong_eoi (suc n) = rw (more_writes n) waiting_second

pub right_eoi : RightEoi
unfolding computed behind
right_eoi = refl

-- ---- a raise that sends nothing

ended : next (next forgotten (line 0 true)) HandleEoi ≡ next forgotten (line 0 true)
unfolding computed forgotten
ended = refl

eois_keep : (p : Board → Call → Bool) → p (next forgotten (line 0 true)) HandleEoi ≡ true → (n : ℕ) → until v31 p (next forgotten (line 0 true)) (eois n) ≡ true
unfolding until accepts eois
eois_keep p h zero = refl
eois_keep p h (suc n) = rw (h, ended) (eois_keep p h n)

eois_steps : (n : ℕ) → steps (eois n) ≡ n
unfolding steps eois
eois_steps zero = refl
eois_steps (suc n) = ap suc (eois_steps n)

eois_none : (n : ℕ) → accepted_at v31 (next forgotten (line 0 true)) (eois n) ≡ 0
unfolding accepted_at accepts eois
eois_none zero = refl
eois_none (suc n) = rw (ended, eois_none n)

unsent : ((set_gsi_level forgotten (record { 0 = 0 }) true).answer ≡ None) × (steps_before v31 (next forgotten (line 0 true)) ≡ 0)
unfolding computed forgotten
unsent = (refl, refl)

kept : (obeys (next forgotten (line 0 true)) HandleEoi ≡ true) × (tpr_below v31 (next forgotten (line 0 true)) HandleEoi ≡ true)
    × (is_quiet v31 (next forgotten (line 0 true)) HandleEoi ≡ true) × (is_held v31 0 (next (next forgotten (line 0 true)) HandleEoi) ≡ true)
unfolding computed forgotten
kept = (refl, refl, refl, refl)

pub sends_nothing : SendsNothing
sends_nothing = (
  unsent.0,
  unsent.1,
  λ n. (
    eois_steps n,
    eois_keep obeys kept.0 n,
    eois_keep (tpr_below v31) kept.1 n,
    eois_keep (is_quiet v31) kept.2 n,
    eois_keep (λ d c. is_held v31 0 (next d c)) kept.3 n,
    eois_none n,
  ),
)
