-- What the search finds, and what an EOI ends.
use Rattle.std.specs.Prelude.{ℕ, ◌≤◌, ◌<◌, true, false, not, ◌&&◌, ◌≡◌, List, eqb}
use Rattle.vlapic.specs.declared.VirtualApicRegs.{VirtualApicRegs}
use Rattle.vlapic_regs.specs.Vectors.{in_words, highest_from}
use Rattle.vlapic.specs.Regs.{with_isr, with_ppr}
use Rattle.vlapic.specs.Priority.{handle_eoi}

-- ---- the search, for any lowest vector but 0

-- v is the highest vector in the words, of those from `lowest` to 255
pub record Highest (lowest : ℕ) (words : List ℕ) (v : ℕ) : Type 0 where
  pub from : lowest ≤ v
  pub vector : v < 256
  pub served : in_words words v ≡ true
  pub above : (u : ℕ) → v < u → u < 256 → in_words words u ≡ false

-- none of those is in the words
abbrev pub Idle : ℕ → List ℕ → Type 0
Idle lowest words = (u : ℕ) → lowest ≤ u → u < 256 → in_words words u ≡ false

-- the search's answer is the highest vector, and it is 0 exactly if there is none
pub record SearchFinds (lowest : ℕ) (words : List ℕ) : Type 0 where
  pub sound : (highest_from lowest words ≡ 0 → ⊥) → Highest lowest words (highest_from lowest words)
  pub none : highest_from lowest words ≡ 0 → Idle lowest words
  pub complete : (v : ℕ) → Highest lowest words v → highest_from lowest words ≡ v
  pub complete_none : Idle lowest words → highest_from lowest words ≡ 0

abbrev pub Searches : Type 0
Searches = (lowest : ℕ) → 1 ≤ lowest → (words : List ℕ) → SearchFinds lowest words

-- ---- the EOI

-- an EOI ends the highest vector in service, of those from 32 up, and no other, below 32 too, and changes nothing besides but PPR
pub record EoiEnds (s : VirtualApicRegs) : Type 0 where
  pub ended : (v : ℕ) → Highest 32 s.isr v → (u : ℕ) → u < 256 → in_words (handle_eoi s).state.isr u ≡ (in_words s.isr u && not (eqb u v))
  pub rest : with_ppr (with_isr (handle_eoi s).state s.isr) s.ppr ≡ s
  pub nothing : Idle 32 s.isr → (handle_eoi s).state ≡ s

abbrev pub Eois : Type 0
Eois = (s : VirtualApicRegs) → EoiEnds s
