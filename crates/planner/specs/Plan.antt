-- The planner: vectors rising, each given to the waiting line whose highest vector is the least. Document 02, T-10.
use Rattle.std.specs.Prelude.{ℕ, zero, suc, ◌+◌, Bool, not, cond, ◌&&◌, List, ◌++◌, eqb, leb, ltb, get_or, length, set, replicate, take, drop, Option, Some, None}
use Rattle.types.specs.declared.Refusal.{Refusal}
use Rattle.types.specs.declared.Refusal.TheVariants.{InvalidRegister, OutOfRange, NoPlan, TooShort}
use Rattle.types.specs.declared.Reply.TheVariants.{Refused, Nothing}
use Rattle.types.specs.Reply.{Outcome}
use Rattle.planner.specs.Lines.{every, lowest_of, highest_of, is_free}
use Rattle.planner.specs.Check.{passes}

-- ---- one vector. `given` has a byte for each of 24 lines: its vector, or 0 while the line waits

-- a line waits, and its range has the vector
unfoldable pub waits : ℕ → ℕ → ℕ → Bool
waits range vector v = eqb vector 0 && leb (lowest_of range) v && leb v (highest_of range)

-- a line's highest vector; 256, above all of them, for what is no line
unfoldable pub reach : List ℕ → ℕ → ℕ
reach ranges k = highest_of (get_or ranges k 65536)

-- a line, or 24 where there is none
abbrev pub line_number : Option ℕ → ℕ
line_number (Some k) = k
line_number None = 24

-- line k, if it waits for v and its range ends before that of the best so far: so the first of equals
unfoldable pub better : List ℕ → List ℕ → ℕ → ℕ → ℕ → ℕ
better ranges given v best k = cond (waits (get_or ranges k 0) (get_or given k 0) v && ltb (reach ranges k) (reach ranges best)) k best

-- the best of the first n lines, or 24 where none waits for v
abbrev pub best_of : List ℕ → List ℕ → ℕ → ℕ → ℕ
best_of ranges given v zero = 24
best_of ranges given v (suc n) = better ranges given v (best_of ranges given v n) n

unfoldable pub next_line : List ℕ → List ℕ → ℕ → ℕ
next_line ranges given v = best_of ranges given v (length ranges)

-- a free vector goes to that line, and to none where there is none
unfoldable pub give : List ℕ → List ℕ → List ℕ → ℕ → List ℕ
give ranges taken given v = cond (is_free taken v) (set given (next_line ranges given v) v) given

-- ---- all vectors from 32 up

-- after d vectors
abbrev pub giving : List ℕ → List ℕ → ℕ → List ℕ
giving ranges taken zero = replicate 24 0
giving ranges taken (suc d) = give ranges taken (giving ranges taken d) (32 + d)

unfoldable pub planned : List ℕ → List ℕ → List ℕ
planned ranges taken = giving ranges taken 224

-- ---- the call, over a plan that is lent

-- no line has a lowest vector above its highest
unfoldable pub in_order : List ℕ → ℕ → Bool
in_order ranges k = leb (lowest_of (get_or ranges k 0)) (highest_of (get_or ranges k 0))

unfoldable pub ordered : List ℕ → Bool
ordered ranges = every (length ranges) (in_order ranges)

abbrev pub refused : List ℕ → Refusal → Outcome (List ℕ)
refused lent why = record { state = lent; reply = Refused why }

-- the first n bytes of a plan, and what was lent behind them
abbrev pub written : ℕ → List ℕ → List ℕ → List ℕ
written n plan lent = take n plan ++ drop n lent

-- refused: 5 more than 24 lines, 11 fewer bytes lent than there are lines, 2 a lowest above a highest, 8 a plan that doesn't pass the check (and then none does:
-- planner_theorems). Refused, the lent plan is untouched; done, it has a byte for each line and behind them what it had
unfoldable pub plan : List ℕ → List ℕ → List ℕ → Outcome (List ℕ)
plan ranges taken lent =
    cond (ltb 24 (length ranges)) (refused lent OutOfRange)
    (cond (ltb (length lent) (length ranges)) (refused lent TooShort)
    (cond (not (ordered ranges)) (refused lent InvalidRegister)
    (cond (not (passes ranges taken (planned ranges taken))) (refused lent NoPlan)
    (record { state = written (length ranges) (planned ranges taken) lent; reply = Nothing }))))
