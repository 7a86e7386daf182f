-- Theorems about the planner (document 02, T-10): its check says what the document says; it refuses with 8 exactly when no plan would pass; and a refusal with 8 always
-- has a range of vectors that shows it.
use Rattle.std.specs.Prelude.{ℕ, ◌≤◌, ◌<◌, ◌^◌, ◌≡◌, true, false, List, [], ◌∷◌, ◌↔◌, get_or, length, drop}
use Rattle.utils.specs.Set.{bit}
use Rattle.types.specs.declared.Refusal.{Refusal}
use Rattle.types.specs.declared.Refusal.TheVariants.{InvalidRegister, OutOfRange, NoPlan, TooShort}
use Rattle.types.specs.declared.Reply.TheVariants.{Refused, Nothing, Three}
use Rattle.planner.specs.Lines.{count, lowest_of, highest_of, is_taken}
use Rattle.planner.specs.Check.{passes}
use Rattle.planner.specs.Plan.{plan}
use Rattle.planner.specs.Shortage.{free_within, confined, shortage}

-- ---- the check

-- a vector for each line, of its range, none of the processor's own, none that is taken, and another one for each
pub record Passes (ranges taken plan : List ℕ) : Type 0 where
  pub enough : length ranges ≤ length plan
  pub lowest : (k : ℕ) → k < length ranges → lowest_of (get_or ranges k 0) ≤ get_or plan k 0
  pub highest : (k : ℕ) → k < length ranges → get_or plan k 0 ≤ highest_of (get_or ranges k 0)
  pub own : (k : ℕ) → k < length ranges → 32 ≤ get_or plan k 0
  pub untaken : (k : ℕ) → k < length ranges → is_taken taken (get_or plan k 0) ≡ false
  pub apart : (j k : ℕ) → j < k → k < length ranges → get_or plan j 0 ≡ get_or plan k 0 → ⊥

-- it says yes exactly then
abbrev pub CheckExact : Type 0
CheckExact = (ranges taken plan : List ℕ) → passes ranges taken plan ≡ true ↔ Passes ranges taken plan

-- ---- the planner

-- ranges are words of 16 bits, as the call takes them
abbrev pub Words : List ℕ → Type 0
Words ranges = (k : ℕ) → k < length ranges → get_or ranges k 0 < 2 ^ 16

-- lines and a lent plan that none of the first three refusals is for
pub record Admitted (ranges lent : List ℕ) : Type 0 where
  pub few : length ranges ≤ 24
  pub room : length ranges ≤ length lent
  pub inorder : (k : ℕ) → k < length ranges → lowest_of (get_or ranges k 0) ≤ highest_of (get_or ranges k 0)

-- it refuses with 5 exactly when there are more than 24 lines
abbrev pub ManyExactly : Type 0
ManyExactly = (ranges taken lent : List ℕ) → (plan ranges taken lent).reply ≡ Refused OutOfRange ↔ 24 < length ranges

-- with 11 exactly when there aren't, and the lent plan has fewer bytes than there are lines
abbrev pub ShortExactly : Type 0
ShortExactly = (ranges taken lent : List ℕ) → (plan ranges taken lent).reply ≡ Refused TooShort ↔ (length ranges ≤ 24) × (length lent < length ranges)

-- with 2 exactly when neither is so, and a line's lowest vector is above its highest
abbrev pub InvertedExactly : Type 0
InvertedExactly = (ranges taken lent : List ℕ) → (plan ranges taken lent).reply ≡ Refused InvalidRegister
    ↔ (length ranges ≤ 24) × (length ranges ≤ length lent) × (k : ℕ) × (k < length ranges) × (highest_of (get_or ranges k 0) < lowest_of (get_or ranges k 0))

-- a refusal leaves the lent plan as it was
abbrev pub RefusedKeeps : Type 0
RefusedKeeps = (ranges taken lent : List ℕ) (why : Refusal) → (plan ranges taken lent).reply ≡ Refused why → (plan ranges taken lent).state ≡ lent

-- what is written passes the check, and nothing is written behind it
abbrev pub PlanPasses : Type 0
PlanPasses = (ranges taken lent : List ℕ) → (plan ranges taken lent).reply ≡ Nothing
    → (Passes ranges taken (plan ranges taken lent).state)
    × (length (plan ranges taken lent).state ≡ length lent)
    × (drop (length ranges) (plan ranges taken lent).state ≡ drop (length ranges) lent)

-- it refuses with 8 exactly when no plan at all would pass
abbrev pub RefusesExactly : Type 0
RefusesExactly = (ranges taken lent : List ℕ) → Words ranges
    → (plan ranges taken lent).reply ≡ Refused NoPlan ↔ (Admitted ranges lent) × ((p : List ℕ) → Passes ranges taken p → ⊥)

-- and it writes one exactly when some plan would
abbrev pub DoneExactly : Type 0
DoneExactly = (ranges taken lent : List ℕ) → Words ranges
    → (plan ranges taken lent).reply ≡ Nothing ↔ (Admitted ranges lent) × (p : List ℕ) × Passes ranges taken p

-- ---- why not

-- a range of vectors, with more lines confined to it than it has free vectors, and those lines as a set
pub record Shows (ranges taken : List ℕ) (a b lines : ℕ) : Type 0 where
  pub crowd : count 256 (free_within taken a b) < count (length ranges) (confined ranges a b)
  pub named : (k : ℕ) → k < length ranges → bit lines k ≡ true ↔ (a ≤ lowest_of (get_or ranges k 0)) × (highest_of (get_or ranges k 0) ≤ b)
  pub nomore : (k : ℕ) → length ranges ≤ k → bit lines k ≡ false

-- what is shown is so, and then no plan would pass
abbrev pub ShownIsSo : Type 0
ShownIsSo = (ranges taken : List ℕ) (a b lines : ℕ) → Words ranges → shortage ranges taken ≡ Three a b lines
    → (Shows ranges taken a b lines) × ((p : List ℕ) → Passes ranges taken p → ⊥)

-- with refusal 8 there is always something to show
abbrev pub AlwaysShown : Type 0
AlwaysShown = (ranges taken lent : List ℕ) → Words ranges → (plan ranges taken lent).reply ≡ Refused NoPlan
    → record { a : ℕ; b : ℕ; lines : ℕ; shown : shortage ranges taken ≡ Three a b lines }

-- and where a plan is written there is nothing
abbrev pub NothingShown : Type 0
NothingShown = (ranges taken lent : List ℕ) → Words ranges → (plan ranges taken lent).reply ≡ Nothing → shortage ranges taken ≡ Nothing

-- ---- by example, computed: 0x20 to 0x40 are taken

-- last spring's two lines: the second can have 0x41 alone, and the first comes after it
abbrev pub TwoLines : Type 0
TwoLines = plan (0x4241 ∷ 0x4141 ∷ []) (0xffff_ffff_0000_0000 ∷ 1 ∷ 0 ∷ 0 ∷ []) (7 ∷ 7 ∷ 7 ∷ [])
    ≡ record { state = 0x42 ∷ 0x41 ∷ 7 ∷ []; reply = Nothing }

-- three lines for two vectors: refused with 8, and what shows it
abbrev pub ThreeLines : Type 0
ThreeLines = (plan (0x4241 ∷ 0x4241 ∷ 0x4240 ∷ []) (0xffff_ffff_0000_0000 ∷ 1 ∷ 0 ∷ 0 ∷ []) (7 ∷ 7 ∷ 7 ∷ []) ≡ record { state = 7 ∷ 7 ∷ 7 ∷ []; reply = Refused NoPlan })
    × (shortage (0x4241 ∷ 0x4241 ∷ 0x4240 ∷ []) (0xffff_ffff_0000_0000 ∷ 1 ∷ 0 ∷ 0 ∷ []) ≡ Three 0x40 0x42 7)
