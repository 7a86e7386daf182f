-- Masking in version 0x20 (document 02, T-08): a guest that masks an entry while its handler runs doesn't lose its device. And the strongest form: no device that
-- has spoken goes unheard.
-- 82093AA: IOREDTBL, Interrupt Mask and Remote IRR (read-only).
use Rattle.std.specs.Prelude.{ℕ, ◌+◌, ◌*◌, ◌%◌, ◌^◌, ◌<◌, Bool, true, false, cond, ◌&&◌, List, [], ◌∷◌, ◌≡◌, refl, eqb}
use Rattle.utils.specs.Set.{with, without}
use Rattle.types.specs.declared.Gsi.{Gsi}
use Rattle.vioapic_entry.specs.Redirection.{vector_of, remote_irr, is_level, is_masked, is_fit, send_entry, raise_entry, write_low, write_high}
use Rattle.vioapic.specs.Table.{is_version20, entry_at, set_level}
use Rattle.vioapic.specs.Registers.{write_word, write_selected, write_at}
use Rattle.vioapic.specs.Agreement.{Agrees}
use Rattle.vioapic.specs.IoApic.{good_width, chip_of, set_gsi_level, handle_write}
use Rattle.vioapic.specs.Calls.{Call, SetGsiLevel, AssertGsi, EndOfInterrupt, VectorForGsi, AddressRange, HandleRead, HandleWrite, outcome, next, run}
use Rattle.vioapic.specs.Departures.{raise, select, write}
use Rattle.vioapic_entry.specs.declared.Entry.{Entry}
use Rattle.vioapic.specs.State.{IoApicState}
use Rattle.vioapic_theorems.specs.Rules.{implies, entry_rules, AllOf}
use Rattle.vioapic_theorems.specs.Sends.{sent}
use Rattle.vioapic_theorems.specs.Heard20.{is_eoi_at, waits}

-- ---- the words of the stories

-- the call writes the low word x of entry g: a served write of the window while that word is selected
abbrev pub writes_low : ℕ → ℕ → IoApicState → Call → Bool
writes_low g x m (HandleWrite addr width y) = good_width width && eqb addr (m.base + 0x10) && eqb m.selector (0x10 + 2 * g) && eqb (y % 2 ^ 32) x
writes_low g x m (SetGsiLevel h up) = false
writes_low g x m (AssertGsi h) = false
writes_low g x m (EndOfInterrupt v) = false
writes_low g x m (VectorForGsi h) = false
writes_low g x m AddressRange = false
writes_low g x m (HandleRead addr width) = false

-- any calls that leave entry g and its line as they are, selecting its word among them
abbrev pub Alone : ℕ → IoApicState → List Call → Type 0
Alone g m cs = entry_at (run m cs) g ≡ entry_at m g

-- the chip after a call and some others
abbrev pub after : IoApicState → Call → List Call → IoApicState
after m c cs = run (next m c) cs

-- how often the call sends entry g
abbrev pub times : ℕ → IoApicState → Call → ℕ
times g m c = sent g m c (outcome m c).reply

-- a word that can be sent: level, and fit
abbrev pub is_open : ℕ → Bool
is_open x = is_level x && is_fit x

-- ---- an open low word is written while the line is up: the entry is sent exactly if it isn't in flight, and it is in flight then, with the word's vector, fit to be sent
abbrev pub OpenedSends : Type 0
OpenedSends =
    (m : IoApicState) (g x : ℕ) (c : Call)
    → is_version20 m ≡ true
    → Agrees m
    → g < 24
    → writes_low g x m c ≡ true
    → is_open x ≡ true
    → (entry_at m g).input_level ≡ true
    → (times g m c ≡ cond (remote_irr (entry_at m g).word) 0 1) × (waits (vector_of x) (entry_at (next m c) g) ≡ true)

-- ---- mask, EOI, unmask: with the line up the unmasking sends. x masks the entry, y unmasks it
abbrev pub MaskEoiUnmask : Type 0
MaskEoiUnmask =
    (m : IoApicState) (g x y : ℕ) (mask eoi unmask : Call) (b c : List Call)
    → is_version20 m ≡ true
    → Agrees m
    → g < 24
    → (entry_at m g).input_level ≡ true
    → writes_low g x m mask ≡ true
    → is_level x ≡ true
    → is_masked x ≡ true
    → Alone g (next m mask) b
    → is_eoi_at m.base (vector_of x) eoi ≡ true
    → Alone g (next (after m mask b) eoi) c
    → writes_low g y (after (after m mask b) eoi c) unmask ≡ true
    → is_open y ≡ true
    → (times g (after m mask b) eoi ≡ 0) × (times g (after (after m mask b) eoi c) unmask ≡ 1)

-- ---- mask, unmask, EOI, from an entry in flight: with the line up the EOI sends, and the unmasking doesn't
abbrev pub MaskUnmaskEoi : Type 0
MaskUnmaskEoi =
    (m : IoApicState) (g x y : ℕ) (mask unmask eoi : Call) (b c : List Call)
    → is_version20 m ≡ true
    → Agrees m
    → g < 24
    → (entry_at m g).input_level ≡ true
    → remote_irr (entry_at m g).word ≡ true
    → writes_low g x m mask ≡ true
    → is_level x ≡ true
    → is_masked x ≡ true
    → Alone g (next m mask) b
    → writes_low g y (after m mask b) unmask ≡ true
    → is_open y ≡ true
    → Alone g (next (after m mask b) unmask) c
    → is_eoi_at m.base (vector_of y) eoi ≡ true
    → (times g (after m mask b) unmask ≡ 0) × (times g (after (after m mask b) unmask c) eoi ≡ 1)

-- ---- a line raised while its entry is masked: the unmasking sends it if the entry isn't in flight, and its EOI sends it else (and again, if it is still up)
abbrev pub RaisedMasked : Type 0
RaisedMasked =
    (m : IoApicState) (g : Gsi) (y : ℕ) (unmask eoi : Call) (b c : List Call)
    → is_version20 m ≡ true
    → Agrees m
    → g.0 < 24
    → is_masked (entry_at m g.0).word ≡ true
    → Alone g.0 (next m (SetGsiLevel g true)) b
    → writes_low g.0 y (after m (SetGsiLevel g true) b) unmask ≡ true
    → is_open y ≡ true
    → Alone g.0 (next (after m (SetGsiLevel g true) b) unmask) c
    → is_eoi_at m.base (vector_of y) eoi ≡ true
    → (times g.0 m (SetGsiLevel g true) ≡ 0)
    × (times g.0 (after m (SetGsiLevel g true) b) unmask ≡ cond (remote_irr (entry_at m g.0).word) 0 1)
    × (times g.0 (after (after m (SetGsiLevel g true) b) unmask c) eoi ≡ 1)

-- ---- nobody goes unheard: a fit level entry whose line is up is in flight. Beside the chip's rules, and not one of them

abbrev pub is_heard : Entry → Bool
is_heard e = implies (is_fit e.word && is_level e.word && e.input_level) (remote_irr e.word)

abbrev pub AllHeard : IoApicState → Type 0
AllHeard s = AllOf (λ e. is_heard e ≡ true) s

-- it is true of a new chip
abbrev pub NewHears : Type 0
NewHears = (version base size : ℕ) → AllHeard (chip_of version base size)

-- and kept by every call on a chip of version 0x20, whatever else is true of it
abbrev pub CallsHear : Type 0
CallsHear = (m : IoApicState) (c : Call) → is_version20 m ≡ true → AllHeard m → AllHeard (next m c)

-- so it is true after any calls on a new one
abbrev pub AlwaysHeard : Type 0
AlwaysHeard = (base size : ℕ) (cs : List Call) → AllHeard (run (chip_of 0x20 base size) cs)

-- the chip's rules don't say it: this entry keeps them
pub heard_apart :
    (entry_rules true (record { word = 0x8010; pending_level = false; input_level = true }) ≡ true)
    × (is_heard (record { word = 0x8010; pending_level = false; input_level = true }) ≡ false)
heard_apart = (refl, refl)

-- and in version 0x11 it isn't kept: the entry is masked, its line goes up, and it is unmasked
pub unheard_11 : is_heard (entry_at (run (chip_of 0x11 0 0x1000) (select 0x10 ∷ write 0x18030 ∷ raise 0 ∷ write 0x8030 ∷ [])) 0) ≡ false
unfolding run outcome with without set_gsi_level handle_write set_level write_word write_selected write_at send_entry raise_entry write_low write_high
unheard_11 = refl
