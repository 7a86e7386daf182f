-- Why there is no plan: more lines confined to a range of vectors than it has free vectors (Hall's condition, for ranges). Document 02, T-10.
use Rattle.std.specs.Prelude.{◌≡◌, ◌≤◌, ◌<◌, ℕ, Bool, not, cond, ◌&&◌, List, leb, ltb, get_or, length, Option, MatchOption}
use Rattle.utils.specs.Set.{first, set_of}
use Rattle.types.specs.declared.Refusal.TheVariants.{InvalidRegister, OutOfRange}
use Rattle.types.specs.declared.Reply.{Reply}
use Rattle.types.specs.declared.Reply.TheVariants.{Refused, Nothing, Three}
use Rattle.planner.specs.Lines.{count, lowest_of, highest_of, is_free}
use Rattle.planner.specs.Plan.{ordered}
use Rattle.planner.specs.Answers.{shown_reply}
use Rattle.planner.specs.declared.shortage.CrowdedRange.{CrowdedRange}

-- a free vector from a to b
unfoldable pub free_within : List ℕ → ℕ → ℕ → ℕ → Bool
free_within taken a b v = leb a v && leb v b && is_free taken v

-- a range from a to b; and a line that may have none but vectors from there
unfoldable pub lies_within : ℕ → ℕ → ℕ → Bool
lies_within range a b = leb a (lowest_of range) && leb (highest_of range) b

unfoldable pub confined : List ℕ → ℕ → ℕ → ℕ → Bool
confined ranges a b k = leb a (lowest_of (get_or ranges k 0)) && leb (highest_of (get_or ranges k 0)) b

-- more lines than free vectors
unfoldable pub crowded : List ℕ → List ℕ → ℕ → ℕ → Bool
crowded ranges taken a b = ltb (count 256 (free_within taken a b)) (count (length ranges) (confined ranges a b))

-- ranges are tried from each line's lowest vector up to each line's highest. It is crowded from a up to line k's highest, and the first such line, or as many as
-- there are where there is none
unfoldable pub ends_at : List ℕ → List ℕ → ℕ → ℕ → Bool
ends_at ranges taken a k = crowded ranges taken a (highest_of (get_or ranges k 0))

unfoldable pub end_line : List ℕ → List ℕ → ℕ → ℕ
end_line ranges taken a = first (length ranges) (ends_at ranges taken a)

-- it is crowded from line k's lowest up to some line's highest, and the first such line
unfoldable pub starts_at : List ℕ → List ℕ → ℕ → Bool
starts_at ranges taken k = ltb (end_line ranges taken (lowest_of (get_or ranges k 0))) (length ranges)

unfoldable pub start_line : List ℕ → List ℕ → ℕ
start_line ranges taken = first (length ranges) (starts_at ranges taken)

-- the first line that there is of n, where there is one
abbrev pub IsFirst : ℕ → ℕ → Option ℕ → Type 0
IsFirst n line found = MatchOption found (line ≡ n) (λ k. (k ≡ line) × (k < n))

-- from a to b, and the set of the lines confined there
unfoldable pub shown : List ℕ → ℕ → ℕ → Reply
shown ranges a b = Three a b (set_of (length ranges) (confined ranges a b))

unfoldable pub shown_from : List ℕ → List ℕ → ℕ → Reply
shown_from ranges taken a = shown ranges a (highest_of (get_or ranges (end_line ranges taken a) 0))

-- what shows it from a on, unless it isn't crowded from there up to any line's highest
abbrev pub IsShown : List ℕ → List ℕ → ℕ → Option CrowdedRange → Type 0
IsShown ranges taken a found = MatchOption found (length ranges ≤ end_line ranges taken a) (λ s. shown_reply s ≡ shown_from ranges taken a)

-- refused: 5 more than 24 lines, 2 a lowest above a highest. Nothing where no range is crowded
unfoldable pub shortage : List ℕ → List ℕ → Reply
shortage ranges taken =
    cond (ltb 24 (length ranges)) (Refused OutOfRange)
    (cond (not (ordered ranges)) (Refused InvalidRegister)
    (cond (ltb (start_line ranges taken) (length ranges)) (shown_from ranges taken (lowest_of (get_or ranges (start_line ranges taken) 0)))
    Nothing))
