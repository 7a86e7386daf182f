-- Each call of the board over lent words is the board's own (`outcome` of `board`) on the board that they stand for, its reply as a code.
use Rattle.std.specs.Prelude.{ℕ, cond, List, ◌≡◌, ltb}
use Rattle.types.specs.Reply.{Outcome, outcome_of, Kept}
use Rattle.types.specs.declared.Refusal.TheVariants.{OutOfRange}
use Rattle.types.specs.declared.Reply.TheVariants.{Refused}
use Rattle.reply_code.specs.Lent.{reply_code, is_up}
use Rattle.vioapic.specs.State.{spare}
use Rattle.vlapic_words.specs.Calls.{Stored}
use Rattle.board.specs.Board.{Board, board_in}
use Rattle.board.specs.Calls.{outcome, Receive}

-- a call that leaves the words io' and l' of the words io and l, and answers `code`: the board after it and the code are those of the outcome; refused, every word is as it
-- was; what isn't looked at stays; and each of the local APIC's words is as it was or was stored
pub record Coded (io io' l l' : List ℕ) (code : ℕ) (o : Outcome Board) : Type 0 where
  pub board : board_in io' l' ≡ o.state
  pub answer : code ≡ reply_code o.reply
  pub untouched : Kept o.reply io io' × Kept o.reply l l'
  pub kept : spare io' ≡ spare io
  pub stored : Stored l l'

-- receive: a vector above 255 is refused
unfoldable pub receive_number : Board → ℕ → ℕ → Outcome Board
receive_number b vector level = cond (ltb 255 vector) (outcome_of b (Refused OutOfRange)) (outcome b (Receive (record { 0 = vector }) (is_up level)))
