-- New words agree, and words that agree do so after every call that may change them. Assumes nothing.
use Prim.Native.Nat.{ℕ}
use mathlib.Core.Bool.{Bool, true, false}
use mathlib.Core.List.{List}
use mathlib.Core.Path.{◌≡◌, refl, subst⁻¹}
use lib.Dec.{ltb}
use Rattle.vioapic.proofs.Agree.{new_agrees, calls_agree}
use Rattle.vioapic.proofs.Ways.{new_shows}
use Rattle.vioapic.specs.Agreement.{Agrees}
use Rattle.vioapic.specs.Calls.{Call, EndOfInterrupt, outcome}
use Rattle.vioapic.specs.State.{IoApicState, view, new_words}
use Rattle.vioapic_c.specs.Calls.{Coded, end_number}

abbrev pub AgreesIn : List ℕ → Type 0
AgreesIn l = Agrees (view l)

pub new_words_agree : (version base size : ℕ) → AgreesIn (new_words version base size)
new_words_agree version base size = subst⁻¹ (λ (m : IoApicState). Agrees m) (new_shows version base size) (new_agrees version base size)

module _ (l w : List ℕ) (n : ℕ) (agrees : AgreesIn l) where
  -- assert_gsi, set_gsi_level and handle_write
  pub call_agrees : (c : Call) → Coded l w n (outcome (view l) c) → AgreesIn w
  call_agrees c k = subst⁻¹ (λ (m : IoApicState). Agrees m) k.shows.0 (calls_agree (view l) c agrees)

  -- end_of_interrupt, which refuses a vector of more than eight bits
  pub end_agrees : (v : ℕ) → Coded l w n (end_number (view l) v) → AgreesIn w
  unfolding end_number outcome
  end_agrees v k = subst⁻¹ (λ (m : IoApicState). Agrees m) k.shows.0 (go (ltb v 256) refl)
    where
      go : (b : Bool) → ltb v 256 ≡ b → Agrees (end_number (view l) v).state
      go true q = rw q (calls_agree (view l) (EndOfInterrupt (record { 0 = v })) agrees)
      go false q = rw q agrees
