-- A departure from a data sheet, shown at its smallest case: what the definition gives there, and what the text asks for instead, as lists of numbers.
use Rattle.std.specs.Prelude.{◌≡◌, ℕ, Bool, true, false, ◌&&◌, List, [], ◌∷◌, ◌==◌}

pub record Departure : Type 0 where
  pub number : ℕ  -- nn of D-nn in docs/DIFFERENCES.md
  pub computed : List ℕ  -- the definition at the smallest case
  pub ours : List ℕ  -- what that is
  pub text : List ℕ  -- what the data sheet's text gives there

abbrev pub same_numbers : List ℕ → List ℕ → Bool
same_numbers [] [] = true
same_numbers [] (b ∷ m) = false
same_numbers (a ∷ l) [] = false
same_numbers (a ∷ l) (b ∷ m) = a == b && same_numbers l m

-- each one is as it says, and does differ from the text
abbrev pub Shown : List Departure → Type 0
Shown [] = Unit
Shown (d ∷ ds) = ((d.computed ≡ d.ours) × (same_numbers d.ours d.text ≡ false)) × Shown ds
