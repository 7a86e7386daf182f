-- The board in scripts, from the theorems about its calls. Assumes nothing.
use mathlib.Core.List.{List, [], ◌∷◌}
use mathlib.Core.Path.{refl, ap}
use Rattle.types.specs.declared.Reply.{Reply}
use Rattle.board.specs.Calls.{run}
use Rattle.board_theorems.specs.Rules.{BoardRules}
use Rattle.board_theorems.proofs.Rules.{new_keeps_rules, runs_keep_rules}
use Rattle.script_format.specs.declared.Call.TheVariants.{Io, IoVersion, Pic, PicRule, Apic, Board}
use Rattle.script_machine.specs.Machine.{new_machine, performed}
use Rattle.script_machine.specs.Run.{calls_from, after_calls}
use Rattle.script_theorems.specs.Boards.{board_calls, board_replies, board_answers, BoardRuns, BoardAnswers, BoardKeepsRules}

pub board_runs : BoardRuns
unfolding after_calls board_calls run performed
board_runs m [] = refl
board_runs m (Io c ∷ cs) = board_runs (performed m (Io c)).state cs
board_runs m (IoVersion v ∷ cs) = board_runs (performed m (IoVersion v)).state cs
board_runs m (Pic c ∷ cs) = board_runs (performed m (Pic c)).state cs
board_runs m (PicRule rule ∷ cs) = board_runs (performed m (PicRule rule)).state cs
board_runs m (Apic c ∷ cs) = board_runs (performed m (Apic c)).state cs
board_runs m (Board c ∷ cs) = board_runs (performed m (Board c)).state cs

pub board_answers_lem : BoardAnswers
unfolding board_replies board_calls board_answers performed
board_answers_lem m [] = refl
board_answers_lem m (Io c ∷ cs) = board_answers_lem (performed m (Io c)).state cs
board_answers_lem m (IoVersion v ∷ cs) = board_answers_lem (performed m (IoVersion v)).state cs
board_answers_lem m (Pic c ∷ cs) = board_answers_lem (performed m (Pic c)).state cs
board_answers_lem m (PicRule rule ∷ cs) = board_answers_lem (performed m (PicRule rule)).state cs
board_answers_lem m (Apic c ∷ cs) = board_answers_lem (performed m (Apic c)).state cs
board_answers_lem m (Board c ∷ cs) = ap (λ (l : List Reply). (performed m (Board c)).reply ∷ l) (board_answers_lem (performed m (Board c)).state cs)

new_rules : BoardRules new_machine.board
unfolding new_machine
new_rules = new_keeps_rules

pub board_keeps_rules : BoardKeepsRules
board_keeps_rules s a =
    rw (board_runs new_machine (calls_from s new_machine.used 0 a))
    (runs_keep_rules new_machine.board (board_calls (calls_from s new_machine.used 0 a)) new_rules)
