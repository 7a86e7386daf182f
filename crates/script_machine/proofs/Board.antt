-- A call on the board, from what it does to its words. Assumes nothing.
use mathlib.Core.Path.{◌≡◌, ap}
use mathlib.Core.List.{List}
use Prim.Native.Nat.{ℕ}
use Rattle.types.specs.Reply.{outcome_of}
use Rattle.types.specs.declared.Reply.{Reply}
use Rattle.types.specs.declared.Reply.TheVariants.{Nothing}
use Rattle.board.specs.Board.{Board, board_in, After}
use Rattle.board.specs.Promise.{Gives, Becomes}
use Rattle.board.specs.Calls.{replied}

module _ (io io' l l' : List ℕ) where
  -- that answers something
  pub board_gives : {A : Type 0} (reply : A → Reply) (a : A) (r : Reply) (o : After A) → r ≡ reply a → Gives A reply io io' l l' a o → outcome_of (board_in io' l') r ≡ replied reply o
  board_gives reply a r o e h = rw e (ap (replied reply) h.outcome)

  -- that answers nothing
  pub board_becomes : (b : Board) → Becomes io io' l l' b → outcome_of (board_in io' l') Nothing ≡ outcome_of b Nothing
  board_becomes b h = ap (λ (x : Board). outcome_of x Nothing) h.board
