-- What a call in place promises, of the words before it and after it: the registers that they stand for and the reply are the outcome that the registers' definitions give,
-- a refused call leaves every word as it was, the spare words are as they were, and what is stored has the bits above 31 clear, and is 0 or 1 in word 0.
use Rattle.std.specs.Prelude.{ℕ, ◌%◌, ◌^◌, ◌≤◌, ◌<◌, false, not, cond, ◌&&◌, List, ◌⊎◌, ◌≡◌, eqb, get_or, set}
use Rattle.types.specs.declared.Reply.{Reply}
use Rattle.types.specs.Reply.{Outcome, Kept}
use Rattle.vlapic_icr.specs.Fields.{idle, icr_width, icr_high}
use Rattle.vlapic.specs.declared.VirtualApicRegs.{VirtualApicRegs}
use Rattle.vlapic.specs.Regs.{start}
use Rattle.vlapic.specs.Calls.{out_of_range}
use Rattle.vlapic_words.specs.Words.{view}

-- what is stored in word k: 0 or 1 in the mode's, a number of 32 bits in a register's, nothing in the spare ones
abbrev pub Storable : ℕ → ℕ → Type 0
Storable k x = (k < 42) × (x < cond (eqb k 0) 2 (2 ^ 32))

-- each word is as it was, or was stored
abbrev pub Stored : List ℕ → List ℕ → Type 0
Stored l m = (k : ℕ) → k < 48 → (get_or m k 0 ≡ get_or l k 0) ⊎ Storable k (get_or m k 0)

-- a call that leaves the words m of the words l, or those in `kept` where it is refused
pub record Leaves (l kept m : List ℕ) (r : Reply) (o : Outcome VirtualApicRegs) : Type 0 where
  pub outcome : record { state = view m; reply = r } ≡ o
  pub refused : Kept r kept m
  pub stored : Stored l m

-- a refused write: an interrupt command that is refused for its kind or destination has stored its two words, and all other words are as they were
abbrev pub command_stored : List ℕ → ℕ → ℕ → List ℕ
command_stored l lo hi = set (set l 9 (idle lo)) 10 hi

unfoldable pub icr_refused : List ℕ → ℕ → ℕ → List ℕ
icr_refused l val width = cond (icr_width (view l).x2apic width) (command_stored l (val % 0x100000000) (icr_high (view l).x2apic val (view l).icr_hi)) l

unfoldable pub refused_words : List ℕ → ℕ → ℕ → ℕ → ℕ → List ℕ
refused_words l offset val width num = cond (eqb offset 0x300 && not (out_of_range num (view l).vapic_id)) (icr_refused l val width) l

-- a new local APIC: the spare words are 0, and the others have the bits above 31 clear
pub record IsNew (m : List ℕ) : Type 0 where
  pub registers : view m ≡ start false 0
  pub spare : (k : ℕ) → 42 ≤ k → k < 48 → get_or m k 0 ≡ 0
  pub small : (k : ℕ) → k < 42 → get_or m k 0 < 2 ^ 32
