-- Demand 3's premises, as tests of one call c on the chip m, while entry g is in flight with vector v: `demanded` in the demand's own words, and
-- `held`, the weaker ones that are needed (proofs/Demand.antt: `held` follows from `demanded`).
use Rattle.std.specs.Prelude.{ℕ, zero, suc, Bool, true, false, not, cond, ◌&&◌, List, [], ◌∷◌, eqb, ltb}
use Rattle.types.specs.declared.Vector.{Vector}
use Rattle.types.specs.declared.Reply.{Reply}
use Rattle.types.specs.declared.Reply.TheVariants.{Refused, Nothing, One, Two, Three}
use Rattle.vioapic_entry.specs.Redirection.{low_part, is_level, has_vector, awaits}
use Rattle.vioapic.specs.Table.{entry_at, first_awaiting}
use Rattle.vioapic.specs.Calls.{Call, SetGsiLevel, AssertGsi, EndOfInterrupt, VectorForGsi, AddressRange, HandleRead, HandleWrite, outcome, next}
use Rattle.vioapic_entry.specs.declared.Entry.{Entry}
use Rattle.vioapic.specs.State.{IoApicState}
use Rattle.vioapic_theorems.specs.Rules.{implies}
use Rattle.vioapic_theorems.specs.Sends.{is_eoi}

-- the test holds of every number below n
unfoldable pub all_below : ℕ → (ℕ → Bool) → Bool
all_below zero p = true
all_below (suc n) p = p n && all_below n p

abbrev pub all_true : List Bool → Bool
all_true [] = true
all_true (b ∷ bs) = b && all_true bs

-- the low word of entry j, Remote IRR apart, is the same after the call
abbrev pub keeps_low : IoApicState → Call → ℕ → Bool
keeps_low m c j = eqb (low_part (entry_at (next m c) j).word) (low_part (entry_at m j).word)

-- no lower entry in flight with v has its low word changed
abbrev pub lower_kept : Vector → ℕ → IoApicState → Call → Bool
lower_kept v g m c = all_below g (λ j. implies (awaits v (entry_at m j)) (keeps_low m c j))

-- ---- in the demand's own words

-- the test holds before the call and after it
abbrev pub always : (IoApicState → Bool) → IoApicState → Call → Bool
always p m c = p m && p (next m c)

-- the line of entry g is up
abbrev pub line_up : ℕ → IoApicState → Bool
line_up g s = (entry_at s g).input_level

-- no lower entry in flight with v has its line up; none is deferred
abbrev pub lower_down : Vector → ℕ → IoApicState → Bool
lower_down v g s = all_below g (λ j. implies (awaits v (entry_at s j)) (not (entry_at s j).input_level))

abbrev pub lower_undeferred : Vector → ℕ → IoApicState → Bool
lower_undeferred v g s = all_below g (λ j. implies (awaits v (entry_at s j)) (not (entry_at s j).pending_level))

-- no lower level entry of v is asserted
abbrev pub lower_unasserted : Vector → ℕ → IoApicState → Call → Bool
lower_unasserted v g s (AssertGsi h) = not (ltb h.0 g && (is_level (entry_at s h.0).word && has_vector (entry_at s h.0).word v))
lower_unasserted v g s (SetGsiLevel h up) = true
lower_unasserted v g s (EndOfInterrupt u) = true
lower_unasserted v g s (VectorForGsi h) = true
lower_unasserted v g s AddressRange = true
lower_unasserted v g s (HandleRead a w) = true
lower_unasserted v g s (HandleWrite a w x) = true

-- the line stays up and the low word the same; and what is said of the lower entries. The demand's further premise, that no lower level entry of v is
-- raised, is superfluous and left out: raising one either puts it in flight with its line up, which `lower_down` forbids, or sends nothing
abbrev pub demanded : Vector → ℕ → IoApicState → Call → List Bool
demanded v g m c =
    always (line_up g) m c
    ∷ keeps_low m c g
    ∷ always (lower_down v g) m c
    ∷ always (lower_undeferred v g) m c
    ∷ lower_kept v g m c
    ∷ lower_unasserted v g m c
    ∷ []

-- ---- what is needed

-- the entry asks to be sent again at its EOI: its line is up, or an interrupt was deferred
abbrev pub asks : Entry → Bool
asks e = cond e.input_level true e.pending_level

-- an EOI of v that ends entry g finds it asking
abbrev pub own_asks : Vector → ℕ → IoApicState → Call → Bool
own_asks v g s c = implies (is_eoi v c && eqb (first_awaiting s v) g) (asks (entry_at s g))

-- an EOI of v that ends a lower entry finds it not asking
abbrev pub lower_rests : Vector → ℕ → IoApicState → Call → Bool
lower_rests v g s c = implies (is_eoi v c && ltb (first_awaiting s v) g) (not (asks (entry_at s (first_awaiting s v))))

-- the reply is a level interrupt of v
abbrev pub level_sent : Vector → Reply → Bool
level_sent v (Two u l) = eqb u v.0 && eqb l 1
level_sent v (Refused why) = false
level_sent v Nothing = false
level_sent v (One a) = false
level_sent v (Three a b c) = false

-- raising or asserting a lower line doesn't send a level interrupt of v
abbrev pub lower_unsent : Vector → ℕ → Call → Reply → Bool
lower_unsent v g (SetGsiLevel h up) r = not (ltb h.0 g && level_sent v r)
lower_unsent v g (AssertGsi h) r = not (ltb h.0 g && level_sent v r)
lower_unsent v g (EndOfInterrupt u) r = true
lower_unsent v g (VectorForGsi h) r = true
lower_unsent v g AddressRange r = true
lower_unsent v g (HandleRead a w) r = true
lower_unsent v g (HandleWrite a w x) r = true

abbrev pub held : Vector → ℕ → IoApicState → Call → List Bool
held v g m c =
    own_asks v g m c
    ∷ keeps_low m c g
    ∷ lower_rests v g m c
    ∷ lower_kept v g m c
    ∷ lower_unsent v g c (outcome m c).reply
    ∷ []

-- ---- over a run

-- the premises hold at every call of the run
unfoldable pub throughout : (IoApicState → Call → List Bool) → IoApicState → List Call → Bool
throughout premises m [] = true
throughout premises m (c ∷ cs) = all_true (premises m c) && throughout premises (next m c) cs
