-- Demand 3 in version 0x20, whose EOI reaches every entry in flight with its vector and whose low words keep Remote IRR: nothing is asked of other entries,
-- and of its own only what sends it. And the cure of last spring's story.
-- I/O Controller Hub: EOI register (offset 0x40).
use Rattle.std.specs.Prelude.{ℕ, ◌+◌, ◌/◌, ◌%◌, ◌^◌, ◌<◌, Bool, true, false, not, cond, ◌&&◌, List, [], ◌∷◌, ◌≡◌, eqb, replicate}
use Rattle.types.specs.declared.Gsi.{Gsi}
use Rattle.types.specs.declared.Vector.{Vector}
use Rattle.types.specs.declared.Reply.TheVariants.{Two}
use Rattle.vioapic_entry.specs.Redirection.{vector_of, remote_irr, is_level, is_masked, is_fit, awaits}
use Rattle.vioapic.specs.Table.{is_version20, entry_at}
use Rattle.vioapic.specs.Agreement.{Agrees}
use Rattle.vioapic.specs.IoApic.{good_width, chip_at, set_gsi_level}
use Rattle.vioapic.specs.Calls.{Call, SetGsiLevel, AssertGsi, EndOfInterrupt, VectorForGsi, AddressRange, HandleRead, HandleWrite, outcome, next, run}
use Rattle.vioapic_entry.specs.declared.Entry.{Entry}
use Rattle.vioapic.specs.State.{IoApicState}
use Rattle.vioapic_theorems.specs.Rules.{implies, ChipRules}
use Rattle.vioapic_theorems.specs.Sends.{sent, sends}
use Rattle.vioapic_theorems.specs.Premises.{always, line_up, asks, throughout}

-- ---- EOIs by either road

-- the call is an EOI of v to a chip at this address: the call itself, or a served write of the EOI register
abbrev pub is_eoi_at : ℕ → Vector → Call → Bool
is_eoi_at base v (EndOfInterrupt u) = eqb u.0 v.0
is_eoi_at base v (HandleWrite addr width x) = (good_width width && eqb addr (base + 0x40)) && eqb (x % 2 ^ 8) v.0
is_eoi_at base v (SetGsiLevel h up) = false
is_eoi_at base v (AssertGsi h) = false
is_eoi_at base v (VectorForGsi h) = false
is_eoi_at base v AddressRange = false
is_eoi_at base v (HandleRead addr width) = false

-- how many of the calls are
unfoldable pub eois_at : ℕ → Vector → List Call → ℕ
eois_at base v [] = 0
eois_at base v (c ∷ cs) = cond (is_eoi_at base v c) 1 0 + eois_at base v cs

-- ---- one EOI

-- what an EOI of v sends again: in flight with v (and so level), fit to be sent, and its line is up or something was deferred
abbrev pub again : Vector → Entry → Bool
again v e = awaits v e && (is_fit e.word && asks e)

-- from any chip of version 0x20 whose word of lines in flight agrees, by either road, for each entry: it is sent exactly if it is
-- such a one; it is in flight with v afterwards exactly if it was sent; and if it was in flight with v, nothing is deferred any more
abbrev pub EveryEnded : Type 0
EveryEnded =
    (m : IoApicState) (g : ℕ) (v : Vector) (c : Call)
    → is_version20 m ≡ true
    → Agrees m
    → g < 24
    → is_eoi_at m.base v c ≡ true
    → (sent g m c (outcome m c).reply ≡ cond (again v (entry_at m g)) 1 0)
    × (awaits v (entry_at (next m c) g) ≡ again v (entry_at m g))
    × (awaits v (entry_at m g) ≡ true → (entry_at (next m c) g).pending_level ≡ false)

-- ---- demand 3

-- its premises (document 02, T-08): the line of entry g stays up; it is unmasked throughout; its vector, delivery mode and trigger mode stay the same
abbrev pub unmasked : ℕ → IoApicState → Bool
unmasked g s = not (is_masked (entry_at s g).word)

abbrev pub keeps : (ℕ → ℕ) → ℕ → IoApicState → Call → Bool
keeps field g m c = eqb (field (entry_at (next m c) g).word) (field (entry_at m g).word)

abbrev pub held_up : ℕ → IoApicState → Call → List Bool
held_up g m c =
    always (line_up g) m c
    ∷ always (unmasked g) m c
    ∷ keeps (λ w. w % 2 ^ 8) g m c
    ∷ keeps (λ w. w / 2 ^ 8 % 8) g m c
    ∷ keeps (λ w. w / 2 ^ 15 % 2) g m c
    ∷ []

-- the count: raising line g sends its level entry with vector v, and then come the calls `after`. Entry g is sent, that first time counted, once and
-- then once more for each EOI of v
abbrev pub SentEachTime : IoApicState → Gsi → Vector → List Call → Type 0
SentEachTime m g v after = sends g.0 m (SetGsiLevel g true ∷ after) ≡ 1 + eois_at m.base v after

-- from any chip of version 0x20 with 24 entries whose word of lines in flight agrees, and so from any that keeps the rules
abbrev pub Heard20 : Type 0
Heard20 =
    (m : IoApicState) (g : Gsi) (v : Vector) (after : List Call)
    → is_version20 m ≡ true
    → Agrees m
    → (set_gsi_level m g true).reply ≡ Two v.0 1
    → throughout (held_up g.0) (next m (SetGsiLevel g true)) after ≡ true
    → SentEachTime m g v after

-- and what is needed: entry g stays level, and an EOI of the vector that it then has finds it fit to be sent, its line up or something deferred. Between
-- its EOIs it may be masked, its line may fall, its mode and its vector may change
abbrev pub own_eoi : ℕ → IoApicState → Call → Bool
own_eoi g m c = is_eoi_at m.base (vector_of (entry_at m g).word) c

abbrev pub stays_level : ℕ → IoApicState → Call → Bool
stays_level g m c = is_level (entry_at (next m c) g).word

abbrev pub asks_at_eoi : ℕ → IoApicState → Call → Bool
asks_at_eoi g m c = implies (own_eoi g m c) (is_fit (entry_at m g).word && asks (entry_at m g))

-- how many of the calls are EOIs of the vector that entry g then has
unfoldable pub own_eois : ℕ → IoApicState → List Call → ℕ
own_eois g m [] = 0
own_eois g m (c ∷ cs) = cond (own_eoi g m c) 1 0 + own_eois g (next m c) cs

-- a level entry in flight is then sent at each of them, and by no other call
abbrev pub SentAtItsEois : Type 0
SentAtItsEois =
    (m : IoApicState) (g : ℕ) (cs : List Call)
    → is_version20 m ≡ true
    → Agrees m
    → g < 24
    → is_level (entry_at m g).word ≡ true
    → remote_irr (entry_at m g).word ≡ true
    → throughout (λ n c. stays_level g n c ∷ asks_at_eoi g n c ∷ []) m cs ≡ true
    → sends g m cs ≡ own_eois g m cs

-- demand 3 itself: after any calls on a new chip, which is of version 0x20 if no other was asked for
abbrev pub Demand3Of20 : Type 0
Demand3Of20 =
    (base size : ℕ) (before after : List Call) (g : Gsi) (v : Vector)
    → (set_gsi_level (run (chip_at base size) before) g true).reply ≡ Two v.0 1
    → throughout (held_up g.0) (next (run (chip_at base size) before) (SetGsiLevel g true)) after ≡ true
    → SentEachTime (run (chip_at base size) before) g v after

-- ---- the cure

-- in flight with v (and so level), fit to be sent, and its line is up
abbrev pub waits : Vector → Entry → Bool
waits v e = awaits v e && (is_fit e.word && e.input_level)

-- two such entries, where the word of lines in flight agrees: one EOI of v, by either road, sends both
abbrev pub BothSent : Type 0
BothSent =
    (m : IoApicState) (g h : ℕ) (v : Vector) (c : Call)
    → is_version20 m ≡ true
    → Agrees m
    → g < 24
    → h < 24
    → waits v (entry_at m g) ≡ true
    → waits v (entry_at m h) ≡ true
    → is_eoi_at m.base v c ≡ true
    → (sent g m c (outcome m c).reply ≡ 1) × (sent h m c (outcome m c).reply ≡ 1)

-- whichever of the calls is an EOI of v sends entry g
abbrev pub sent_at_eoi : Vector → ℕ → IoApicState → Call → Bool
sent_at_eoi v g m c = implies (is_eoi_at m.base v c) (eqb (sent g m c (outcome m c).reply) 1)

-- and over any calls, while they are held up, every EOI of v does
abbrev pub BothHeard : Type 0
BothHeard =
    (m : IoApicState) (g h : ℕ) (v : Vector) (cs : List Call)
    → is_version20 m ≡ true
    → Agrees m
    → g < 24
    → h < 24
    → waits v (entry_at m g) ≡ true
    → waits v (entry_at m h) ≡ true
    → throughout (held_up g) m cs ≡ true
    → throughout (held_up h) m cs ≡ true
    → throughout (λ n c. sent_at_eoi v g n c ∷ sent_at_eoi v h n c ∷ []) m cs ≡ true

-- last spring's story again, in the words of `NeverHeard`: of two entries of one vector both are in flight with their lines up, and fit to be sent, which in
-- version 0x20 an entry in flight needn't be. However many EOIs of the vector come, and nothing else, each of them sends both
abbrev pub NeverStarved : Type 0
NeverStarved =
    (m : IoApicState) (h g : ℕ) (v : Vector) (n : ℕ)
    → is_version20 m ≡ true
    → ChipRules m
    → h < g
    → g < 24
    → waits v (entry_at m h) ≡ true
    → waits v (entry_at m g) ≡ true
    → (sends h m (replicate n (EndOfInterrupt v)) ≡ n) × (sends g m (replicate n (EndOfInterrupt v)) ≡ n)
