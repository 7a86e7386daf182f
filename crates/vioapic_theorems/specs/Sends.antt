-- What is counted over a run of public calls: the times that an entry is sent, and the EOIs of a vector.
-- "Sent" is read off the calls and their replies: a line's or an assertion's reply is (vector, level); an EOI's that sends again is (GSI, vector, level) in
-- version 0x11, and in version 0x20, where an EOI is also a write, (set cleared, set sent). There a write to the window that sends answers (vector, level) too:
-- what the two values of a write's reply are goes by its address.
use Rattle.std.specs.Prelude.{ℕ, zero, suc, ◌+◌, Bool, false, cond, List, [], ◌∷◌, eqb}
use Rattle.utils.specs.Set.{bit}
use Rattle.types.specs.declared.Vector.{Vector}
use Rattle.types.specs.declared.Reply.{Reply}
use Rattle.types.specs.declared.Reply.TheVariants.{Refused, Nothing, One, Two, Three}
use Rattle.vioapic_entry.specs.Redirection.{awaits}
use Rattle.vioapic.specs.Table.{entry_at}
use Rattle.vioapic.specs.Registers.{entry_of}
use Rattle.vioapic.specs.Calls.{Call, SetGsiLevel, AssertGsi, EndOfInterrupt, VectorForGsi, AddressRange, HandleRead, HandleWrite, outcome, next}
use Rattle.vioapic.specs.State.{IoApicState}

-- a reply that carries a line's interrupt
abbrev pub routes : Reply → ℕ
routes (Two v l) = 1
routes (Refused why) = 0
routes Nothing = 0
routes (One a) = 0
routes (Three a b c) = 0

-- a reply that carries GSI g's interrupt, sent again by an EOI
abbrev pub resends : ℕ → Reply → ℕ
resends g (Three h v l) = cond (eqb h g) 1 0
resends g (Two cleared sent) = cond (bit sent g) 1 0
resends g (Refused why) = 0
resends g Nothing = 0
resends g (One a) = 0

-- a write's reply that does: at the window it is the selected entry's, elsewhere an EOI's
abbrev pub write_sends : ℕ → IoApicState → ℕ → Reply → ℕ
write_sends g m addr r = cond (eqb addr (m.base + 0x10)) (cond (eqb (entry_of m.selector) g) (routes r) 0) (resends g r)

-- how often a call on the chip m with this reply sends entry g: once or not at all
unfoldable pub sent : ℕ → IoApicState → Call → Reply → ℕ
sent g m (SetGsiLevel h up) r = cond (eqb h.0 g) (routes r) 0
sent g m (AssertGsi h) r = cond (eqb h.0 g) (routes r) 0
sent g m (EndOfInterrupt v) r = resends g r
sent g m (VectorForGsi h) r = 0
sent g m AddressRange r = 0
sent g m (HandleRead a w) r = 0
sent g m (HandleWrite a w x) r = write_sends g m a r

-- how often a run sends entry g
unfoldable pub sends : ℕ → IoApicState → List Call → ℕ
sends g m [] = 0
sends g m (c ∷ cs) = sent g m c (outcome m c).reply + sends g (next m c) cs

-- the call is an EOI of the vector
abbrev pub is_eoi : Vector → Call → Bool
is_eoi v (EndOfInterrupt u) = eqb u.0 v.0
is_eoi v (SetGsiLevel h up) = false
is_eoi v (AssertGsi h) = false
is_eoi v (VectorForGsi h) = false
is_eoi v AddressRange = false
is_eoi v (HandleRead a w) = false
is_eoi v (HandleWrite a w x) = false

-- how many of the calls are
unfoldable pub eois : Vector → List Call → ℕ
eois v [] = 0
eois v (c ∷ cs) = cond (is_eoi v c) 1 0 + eois v cs

-- how many numbers below n pass a test
unfoldable pub count : ℕ → (ℕ → Bool) → ℕ
count zero p = 0
count (suc n) p = cond (p n) 1 0 + count n p

-- how many entries below g are in flight with the vector
abbrev pub lower_in_flight : Vector → ℕ → IoApicState → ℕ
lower_in_flight v g s = count g (λ j. awaits v (entry_at s j))
