-- What a call in place promises of the words of both chips.
use Rattle.types.specs.declared.Vector.{Vector}
use Rattle.std.specs.Prelude.{ℕ, List, ◌≡◌, Option}
use Rattle.types.specs.declared.Reply.{Reply}
use Rattle.types.specs.Reply.{Kept}
use Rattle.vioapic.specs.State.{spare, new_words}
use Rattle.vlapic_words.specs.Calls.{Stored, IsNew}
use Rattle.vlapic_requests.specs.Promise as requests
use Rattle.board.specs.Board.{Board, board_in, new_board, After}

-- acceptance in document 01's numbers and values
abbrev pub acceptance_reply : Option Vector → Reply
acceptance_reply r = requests.acceptance_reply r

-- a call that leaves the words io' and l' of the words io and l, with its answer, and that as a reply: the board that they stand for and the answer are those that the
-- definition gives; refused, every word is as it was; what isn't looked at stays; and each of the local APIC's words is as it was or was stored
pub record Gives (A : Type 0) (reply : A → Reply) (io io' l l' : List ℕ) (r : A) (o : After A) : Type 0 where
  pub outcome : record { board = board_in io' l'; answer = r } ≡ o
  pub untouched : Kept (reply r) io io' × Kept (reply r) l l'
  pub kept : spare io' ≡ spare io
  pub stored : Stored l l'

-- the same of a call that answers nothing
pub record Becomes (io io' l l' : List ℕ) (b : Board) : Type 0 where
  pub board : board_in io' l' ≡ b
  pub kept : spare io' ≡ spare io
  pub stored : Stored l l'

-- and of the one that makes a new board
pub record Makes (io' l' : List ℕ) : Type 0 where
  pub board : board_in io' l' ≡ new_board
  pub words : io' ≡ new_words 0x20 0xfec00000 0x1000
  pub local : IsNew l'
