-- The pair of 8259As, and the four words that hold it: include/sillwander.h has the same layout.
use Rattle.std.specs.Prelude.{ℕ, Bool, true, false, cond, List, eqb, get_or}
use Rattle.vpic_chip.specs.Registers.{Chip, chip_in, full_in, placed}

pub record PicState : Type 0 where
  pub rule : ℕ  -- which rule it is says `Pair.rule_in`
  pub master : Chip
  pub slave : Chip
  pub spare : ℕ  -- the word that stands for nothing: nothing reads it, and a new pair alone doesn't keep it

-- the chip in a word of a pair of this rule, at the master's place or the slave's. A word says neither whether its chip is a full one nor whether the slave hangs on it: both are said here, and of new chips by `Pair.of_rule`
abbrev pub is_full : ℕ → Bool
is_full rule = eqb rule 2

abbrev pub chip_by : Bool → ℕ → ℕ → Chip
chip_by cascades rule w = cond (is_full rule) (placed cascades (full_in w)) (chip_in w)

-- the pair in any words: the master is word 0, the slave word 1, the rule word 2, and word 3 is left
unfoldable pub view : List ℕ → PicState
view l = record { rule = get_or l 2 0; master = chip_by true (get_or l 2 0) (get_or l 0 0); slave = chip_by false (get_or l 2 0) (get_or l 1 0); spare = get_or l 3 0 }

-- what the private functions of the other rules say of it, and what those of rule 2 do: the pair with its chips taken for plain ones, and for full ones
unfoldable pub plain_view : List ℕ → PicState
plain_view l = record { rule = get_or l 2 0; master = chip_in (get_or l 0 0); slave = chip_in (get_or l 1 0); spare = get_or l 3 0 }

unfoldable pub full_view : List ℕ → PicState
full_view l = record { rule = get_or l 2 0; master = placed true (full_in (get_or l 0 0)); slave = placed false (full_in (get_or l 1 0)); spare = get_or l 3 0 }
