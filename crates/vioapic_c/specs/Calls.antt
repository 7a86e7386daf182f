-- Each call of the I/O APIC over lent words is the chip's own call (IoApic of `vioapic`) on the state that they stand for, its reply as
-- a code.
use Rattle.std.specs.Prelude.{ℕ, cond, List, [], ◌∷◌, ◌≡◌, ltb}
use Rattle.types.specs.Reply.{Outcome, Kept}
use Rattle.types.specs.declared.Refusal.TheVariants.{Unsupported, OutOfRange}
use Rattle.types.specs.declared.Reply.{Reply}
use Rattle.types.specs.declared.Reply.TheVariants.{Refused, Nothing, One, Two, Three}
use Rattle.reply_code.specs.Lent.{Lent, Shows, refusing, answering, lent}
use Rattle.vioapic.specs.State.{IoApicState, view, spare}
use Rattle.vioapic.specs.IoApic.{new_or, refuse, version_of, is_version, created_version, end_of_interrupt, address_range}

-- the state after a call and its code are those of the outcome; refused, the words are untouched; and what isn't looked at stays as it is
pub record Coded (before after : List ℕ) (code : ℕ) (o : Outcome IoApicState) : Type 0 where
  pub shows : Shows view (lent after code) o
  pub untouched : Kept o.reply before after
  pub kept : spare after ≡ spare before

-- of a call that makes a new state: the new words, or if it is refused the words untouched
pub record Made (before after : List ℕ) (code : ℕ) (o : Outcome IoApicState) (new : List ℕ) : Type 0 where
  pub shows : Shows view (lent after code) o
  pub words : after ≡ new_or o.reply new before

-- new_version: a version comes as a number, and one that there isn't is refused before the range is looked at
unfoldable pub new_number : IoApicState → ℕ → ℕ → ℕ → Outcome IoApicState
new_number m base size version = cond (is_version version) (created_version m base size (version_of version)) (refuse m Unsupported)

-- end_of_interrupt: a vector has eight bits
unfoldable pub end_number : IoApicState → ℕ → Outcome IoApicState
end_number m v = cond (ltb v 256) (end_of_interrupt m (record { 0 = v })) (refuse m OutOfRange)

-- address_range, which writes to a lent range of its own: base and end
abbrev pub ranged : List ℕ → Reply → Lent
ranged range (Refused why) = refusing range why
ranged range Nothing = answering range Nothing
ranged range (One a) = answering range (One a)
ranged range (Two base end) = answering (base ∷ end ∷ []) Nothing
ranged range (Three a b c) = answering range (Three a b c)

unfoldable pub range_words : List ℕ → List ℕ → Lent
range_words l range = ranged range (address_range (view l))
