-- Who waits for ever (document 02, T-09): below a held line; where the guest ends its interrupts at the I/O APIC's EOI register alone; and behind a raise that sends nothing.
-- Theorems over the length of a trace.
use Rattle.std.specs.Prelude.{ℕ, zero, suc, ◌<◌, true, false, not, List, [], ◌∷◌, ◌≡◌, None}
use Rattle.types.specs.declared.Vector.{Vector}
use Rattle.vioapic_entry.specs.Redirection.{awaits}
use Rattle.vioapic.specs.Table.{entry_at}
use Rattle.board.specs.Board.{Board, new_board, set_gsi_level}
use Rattle.board.specs.Calls.{Call, AcceptInterrupt, HandleEoi, next, run}
use Rattle.board_theorems.specs.Rules.{BoardRules, Tells}
use Rattle.board_theorems.specs.Traced.{trace, asked, is_edge_of}
use Rattle.board_theorems.specs.CounterExamples.{select, write, write_eoi_of, line, message}
use Rattle.board_bound.specs.Trace.{is_requested, can_accept, steps_before, steps, accepted_at, until, obeys, tpr_below, is_quiet}
use Rattle.board_bound.specs.Bound.{is_held}

abbrev pub v31 : Vector
v31 = record { 0 = 0x31 }

abbrev pub v51 : Vector
v51 = record { 0 = 0x51 }

-- ---- a held line of u starves every vector below u: on any board that keeps its rules and tells its EOIs, whatever the calls and however many, guest's rule or no, so long as the line is held and no call asks for u
-- edge-triggered
abbrev pub Starves : Type 0
Starves =
    (u v : Vector) (g : ℕ) (b : Board) (cs : List Call)
    → BoardRules b
    → Tells b
    → v.0 < u.0
    → awaits u (entry_at b.ioapic g) ≡ true
    → trace u b.apic ≡ true
    → until v (λ d c. is_held u g (next d c)) b cs ≡ true
    → until v (λ d c. not (is_edge_of u (asked d c))) b cs ≡ true
    → accepted_at v b cs ≡ 0

-- ---- such a trace for every length: entry 0 is level, of vector 0x51, its line is up, and 0x31 is requested by a message

unfoldable pub below : Board
below = run new_board (select 0x10 ∷ write 0x8051 ∷ line 0 true ∷ message 0x31 false ∷ [])

-- n steps of the guest
abbrev pub turns : ℕ → List Call
turns zero = []
turns (suc zero) = AcceptInterrupt ∷ []
turns (suc (suc n)) = AcceptInterrupt ∷ HandleEoi ∷ turns n

-- for every length: the guest keeps its rule, TPR is below 0x31's class, the line is held; and 0x31 isn't accepted, and is requested still. (That nothing new is requested
-- above it is the premise that fails: `HeldIsNew`)
abbrev pub WaitsForEver : Type 0
WaitsForEver =
    (n : ℕ)
    → (steps (turns n) ≡ n)
    × (until v31 obeys below (turns n) ≡ true)
    × (until v31 (tpr_below v31) below (turns n) ≡ true)
    × (until v31 (λ d c. is_held v51 0 (next d c)) below (turns n) ≡ true)
    × (accepted_at v31 below (turns n) ≡ 0)
    × (is_requested v31 (run below (turns n)) ≡ true)

abbrev pub HeldIsNew : Type 0
HeldIsNew = (is_held v51 0 below ≡ true) × (is_quiet v31 below AcceptInterrupt ≡ true) × (is_quiet v31 (next below AcceptInterrupt) HandleEoi ≡ false)

-- ---- the other EOI: 0x41 is in service, its device has been served and its line is down, and 0x31 is requested

unfoldable pub behind : Board
behind = run new_board (select 0x10 ∷ write 0x8041 ∷ line 0 true ∷ AcceptInterrupt ∷ line 0 false ∷ message 0x31 false ∷ [])

abbrev pub writes : ℕ → List Call
writes zero = []
writes (suc n) = write_eoi_of 0x41 ∷ writes n

-- however often the guest writes 0x41 to the I/O APIC's EOI register where its rule asks for an EOI: nothing can be accepted, and 0x31 waits
abbrev pub WrongEoi : Type 0
WrongEoi = (n : ℕ) → (can_accept (run behind (writes n)) ≡ false) × (is_requested v31 (run behind (writes n)) ≡ true) × (steps_before v31 (run behind (writes n)) ≡ 1)

-- by EOIs to the local APIC it would be accepted at step 2
abbrev pub RightEoi : Type 0
RightEoi = accepted_at v31 behind (HandleEoi ∷ AcceptInterrupt ∷ []) ≡ 2

-- ---- a raise that sends nothing: entry 0 is level, of vector 0x31; its line went up, an edge message of 0x31 came, that was accepted and ended, and the line fell

unfoldable pub forgotten : Board
forgotten = run new_board (select 0x10 ∷ write 0x8031 ∷ line 0 true ∷ message 0x31 false ∷ AcceptInterrupt ∷ HandleEoi ∷ line 0 false ∷ [])

unfoldable pub eois : ℕ → List Call
eois zero = []
eois (suc n) = HandleEoi ∷ eois n

-- raised again it sends nothing, and nothing goes before it; for every length of trace it isn't accepted, though all the bound's premises but the request are kept and the
-- line is held
abbrev pub SendsNothing : Type 0
SendsNothing =
    ((set_gsi_level forgotten (record { 0 = 0 }) true).answer ≡ None)
    × (steps_before v31 (next forgotten (line 0 true)) ≡ 0)
    × ((n : ℕ)
    → (steps (eois n) ≡ n)
    × (until v31 obeys (next forgotten (line 0 true)) (eois n) ≡ true)
    × (until v31 (tpr_below v31) (next forgotten (line 0 true)) (eois n) ≡ true)
    × (until v31 (is_quiet v31) (next forgotten (line 0 true)) (eois n) ≡ true)
    × (until v31 (λ d c. is_held v31 0 (next d c)) (next forgotten (line 0 true)) (eois n) ≡ true)
    × (accepted_at v31 (next forgotten (line 0 true)) (eois n) ≡ 0))
