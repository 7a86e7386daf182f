-- The board in scripts (document 02, T-07): fields 30 to 35 of a script are a list of its public calls; the machine's board after a run is the one after those calls,
-- whatever other fields stand among them, and the fields answer what the calls answer. So what holds of any calls from a new board (board_theorems) holds after every
-- field of every script: its rules do.
use Rattle.std.specs.Prelude.{ℕ, List, [], ◌∷◌, ◌++◌, ◌≡◌}
use Rattle.types.specs.declared.Reply.{Reply}
use Rattle.board.specs.Board.{Board as BoardState}
use Rattle.board.specs.Calls as board
use Rattle.board_theorems.specs.Rules.{BoardRules}
use Rattle.script_format.specs.declared.BoardCall.{BoardCall}
use Rattle.script_format.specs.declared.Call.{Call}
use Rattle.script_format.specs.declared.Call.TheVariants.{Io, IoVersion, Pic, PicRule, Apic, Board}
use Rattle.script_machine.specs.Machine.{Machine, new_machine, board_call, performed}
use Rattle.script_machine.specs.Run.{after_calls, run_of}

-- what a call of the board gives; other chips' calls give nothing
abbrev pub of_board : {A : Type 0} → Call → (BoardCall → A) → List A
of_board (Io c) f = []
of_board (IoVersion version) f = []
of_board (Pic c) f = []
of_board (PicRule rule) f = []
of_board (Apic c) f = []
of_board (Board c) f = f c ∷ []

-- the board's calls among a script's, and what their fields answer
unfoldable pub board_calls : List Call → List board.Call
board_calls [] = []
board_calls (c ∷ cs) = of_board c (λ d. board_call d) ++ board_calls cs

unfoldable pub board_replies : Machine → List Call → List Reply
board_replies m [] = []
board_replies m (c ∷ cs) = of_board c (λ d. (performed m c).reply) ++ board_replies (performed m c).state cs

-- what a list of the board's calls answers, one after the other
unfoldable pub board_answers : BoardState → List board.Call → List Reply
board_answers b [] = []
board_answers b (c ∷ cs) = (board.outcome b c).reply ∷ board_answers (board.next b c) cs

-- the machine's board after calls, and what it answered
abbrev pub BoardRuns : Type 0
BoardRuns = (m : Machine) (cs : List Call) → (after_calls m cs).board ≡ board.run m.board (board_calls cs)

abbrev pub BoardAnswers : Type 0
BoardAnswers = (m : Machine) (cs : List Call) → board_replies m cs ≡ board_answers m.board (board_calls cs)

-- the board keeps its rules after the first a fields of every script
abbrev pub BoardKeepsRules : Type 0
BoardKeepsRules = (s : List ℕ) (a : ℕ) → BoardRules (run_of s new_machine 0 a).machine.board
