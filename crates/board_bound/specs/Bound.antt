-- How long a request can wait (document 02, T-09): exactly 2r + s steps, and who waits for ever.
use Rattle.std.specs.Prelude.{ℕ, suc, ◌+◌, Bool, true, false, cond, ◌&&◌, ◌||◌, List, ◌∷◌, ◌≡◌, eqb, ltb, Some}
use Rattle.types.specs.declared.Gsi.{Gsi}
use Rattle.types.specs.declared.Vector.{Vector}
use Rattle.types.specs.Reply.{flag}
use Rattle.vioapic_entry.specs.Redirection.{is_level, is_fit, has_vector, awaits}
use Rattle.vioapic_entry.specs.declared.IoApicInterrupt.{IoApicInterrupt}
use Rattle.vioapic_entry.specs.declared.Entry.{Entry}
use Rattle.vioapic.specs.Table.{entry_at}
use Rattle.board.specs.Board.{Board, new_board, set_gsi_level}
use Rattle.board.specs.Calls.{Call, SetGsiLevel, next, run}
use Rattle.board_theorems.specs.Rules.{BoardRules, Tells}
use Rattle.board_theorems.specs.Traced.{trace, lost_over}
use Rattle.board_bound.specs.Trace.{is_requested, steps_before, is_step, steps, accepts, accepted_at, until, obeys, tpr_below, is_quiet}

-- ---- the premises on a trace

pub record Fair (v : Vector) (b : Board) (cs : List Call) : Type 0 where
  pub obeyed : until v obeys b cs ≡ true
  pub below : until v (tpr_below v) b cs ≡ true
  pub quiet : until v (is_quiet v) b cs ≡ true

-- ---- the bound

-- v is accepted at exactly step n + 1, if the trace has so many steps, and else not in it
abbrev pub AcceptedAfter : ℕ → Vector → Board → List Call → Type 0
AcceptedAfter n v b cs = accepted_at v b cs ≡ cond (ltb n (steps cs)) (suc n) 0

-- a request of v on a board that keeps its rules
abbrev pub Bound : Type 0
Bound = (v : Vector) (b : Board) (cs : List Call) → BoardRules b → is_requested v b ≡ true → Fair v b cs → AcceptedAfter (steps_before v b) v b cs

-- one call: while v waits, 2r + s falls by one at a step, and stays at any other call; v is accepted where a step finds it 0, and there only
abbrev pub Falls : Type 0
Falls =
    (v : Vector) (b : Board) (c : Call)
    → BoardRules b
    → is_requested v b ≡ true
    → obeys b c ≡ true
    → tpr_below v b c ≡ true
    → is_quiet v b c ≡ true
    → (accepts v b c ≡ (is_step c && eqb (steps_before v b) 0))
    × (accepts v b c ≡ false → (is_requested v (next b c) ≡ true) × (steps_before v (next b c) + flag (is_step c) ≡ steps_before v b))

-- ---- from the line

-- a raise that sends i: its vector is accepted at exactly that step after it; whether the line is held on is no matter
abbrev pub FromRaise : Type 0
FromRaise =
    (b : Board) (g : Gsi) (i : IoApicInterrupt) (cs : List Call)
    → BoardRules b
    → (set_gsi_level b g true).answer ≡ Some i
    → Fair i.vector (next b (SetGsiLevel g true)) cs
    → AcceptedAfter (steps_before i.vector b) i.vector b (SetGsiLevel g true ∷ cs)

-- a held line: its entry has the vector v, is level and fit to be sent, and the line is up
abbrev pub held_entry : Vector → Entry → Bool
held_entry v e = has_vector e.word v && is_level e.word && is_fit e.word && e.input_level

abbrev pub is_held : Vector → ℕ → Board → Bool
is_held v g b = held_entry v (entry_at b.ioapic g)

-- it is held until v is requested: so long the line stays up, and vector, trigger mode, delivery mode and mask are kept. What follows, v's acceptance too, asks for nothing more
abbrev pub holds : Vector → ℕ → Board → Call → Bool
holds v g b c = is_requested v b || (is_requested v (next b c) || is_held v g (next b c))

-- without a raise: the entry is in flight with v, and v has its trace, requested or in service. v is next accepted at exactly that step, though it be in service now
abbrev pub FromHeld : Type 0
FromHeld =
    (v : Vector) (g : ℕ) (b : Board) (cs : List Call)
    → BoardRules b
    → Tells b
    → awaits v (entry_at b.ioapic g) ≡ true
    → trace v b.apic ≡ true
    → Fair v b cs
    → until v (holds v g) b cs ≡ true
    → AcceptedAfter (steps_before v b) v b cs

-- the whole promise: after any calls on a new board a held line is in flight and has its trace, unless it was lost (board_theorems, `lost_over`). So it is heard, and when
abbrev pub HeldIsHeard : Type 0
HeldIsHeard =
    (before cs : List Call) (v : Vector) (g : ℕ)
    → is_held v g (run new_board before) ≡ true
    → lost_over v new_board before false ≡ false
    → Fair v (run new_board before) cs
    → until v (holds v g) (run new_board before) cs ≡ true
    → AcceptedAfter (steps_before v (run new_board before)) v (run new_board before) cs
