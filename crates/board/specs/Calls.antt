-- Any public call on a board, and a run of them. The outcome of each is the one that the call's promise gives.
use Rattle.std.specs.Prelude.{ℕ, Bool, List, [], ◌∷◌}
use Rattle.types.specs.declared.Gsi.{Gsi}
use Rattle.types.specs.declared.Vector.{Vector}
use Rattle.types.specs.declared.Reply.{Reply}
use Rattle.types.specs.declared.Reply.TheVariants.{Nothing}
use Rattle.types.specs.Reply.{Outcome, outcome_of}
use Rattle.vioapic_entry.specs.Answers.{routed_reply}
use Rattle.vioapic.specs.Answers.{eoi_reply, written_reply}
use Rattle.board.specs.Board.{Board, After, set_gsi_level, accept_interrupt, handle_eoi, write_tpr, handle_write, receive}
use Rattle.board.specs.Promise.{acceptance_reply}

pub data Call : Type 0 where
  SetGsiLevel : Gsi → Bool → Call
  AcceptInterrupt : Call
  HandleEoi : Call
  WriteTpr : ℕ → Call
  HandleWrite : ℕ → ℕ → ℕ → Call  -- address, width, value
  Receive : Vector → Bool → Call

abbrev pub replied : {A : Type 0} → (A → Reply) → After A → Outcome Board
replied reply r = outcome_of r.board (reply r.answer)

unfoldable pub outcome : Board → Call → Outcome Board
outcome b (SetGsiLevel gsi up) = replied routed_reply (set_gsi_level b gsi up)
outcome b AcceptInterrupt = replied acceptance_reply (accept_interrupt b)
outcome b HandleEoi = replied eoi_reply (handle_eoi b)
outcome b (WriteTpr x) = outcome_of (write_tpr b x) Nothing
outcome b (HandleWrite addr width x) = replied written_reply (handle_write b addr width x)
outcome b (Receive v level) = outcome_of (receive b v level) Nothing

-- the board after a call, and after a run of calls
abbrev pub next : Board → Call → Board
next b c = (outcome b c).state

unfoldable pub run : Board → List Call → Board
run b [] = b
run b (c ∷ cs) = run (next b c) cs
