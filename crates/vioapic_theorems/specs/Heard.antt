-- Demand 3 in version 0x11: a device that holds its line is heard. The statements (those of version 0x20 are in Heard20.antt); every definition that they use is in this folder or in `vioapic`.
use Rattle.std.specs.Prelude.{ℕ, ◌+◌, ◌-◌, ◌<◌, true, false, List, ◌∷◌, ◌≡◌, replicate}
use Rattle.types.specs.declared.Gsi.{Gsi}
use Rattle.types.specs.declared.Vector.{Vector}
use Rattle.types.specs.declared.Reply.TheVariants.{Two}
use Rattle.vioapic_entry.specs.Redirection.{awaits}
use Rattle.vioapic.specs.Table.{is_version20, entry_at}
use Rattle.vioapic.specs.Agreement.{Agrees}
use Rattle.vioapic.specs.IoApic.{chip_of, set_gsi_level}
use Rattle.vioapic.specs.Calls.{Call, SetGsiLevel, EndOfInterrupt, next, run}
use Rattle.vioapic.specs.State.{IoApicState}
use Rattle.vioapic_theorems.specs.Rules.{ChipRules}
use Rattle.vioapic_theorems.specs.Sends.{sends, eois, lower_in_flight}
use Rattle.vioapic_theorems.specs.Premises.{throughout, demanded, held}

-- the count: raising line g on the chip m sends its level entry with vector v, and then come the calls `after`. Entry g is sent, that first time
-- counted, once and then once more for each EOI of v beyond the k that go to the lower entries in flight with v
abbrev pub SentOnTime : IoApicState → Gsi → Vector → List Call → Type 0
SentOnTime m g v after =
    sends g.0 m (SetGsiLevel g true ∷ after) ≡ 1 + (eois v after - lower_in_flight v g.0 m)

-- from any chip of 24 entries whose word of lines in flight agrees with them, with the premises that are needed
abbrev pub Heard : Type 0
Heard =
    (m : IoApicState) (g : Gsi) (v : Vector) (after : List Call)
    → is_version20 m ≡ false
    → Agrees m
    → (set_gsi_level m g true).reply ≡ Two v.0 1
    → throughout (held v g.0) (next m (SetGsiLevel g true)) after ≡ true
    → SentOnTime m g v after

-- from any chip that keeps the rules, in the demand's own words
abbrev pub HeardFromRules : Type 0
HeardFromRules =
    (m : IoApicState) (g : Gsi) (v : Vector) (after : List Call)
    → is_version20 m ≡ false
    → ChipRules m
    → (set_gsi_level m g true).reply ≡ Two v.0 1
    → throughout (demanded v g.0) (next m (SetGsiLevel g true)) after ≡ true
    → SentOnTime m g v after

-- demand 3 as document 01 has it: after any calls on a new chip of version 0x11
abbrev pub Demand3 : Type 0
Demand3 =
    (base size : ℕ) (before after : List Call) (g : Gsi) (v : Vector)
    → (set_gsi_level (run (chip_of 0x11 base size) before) g true).reply ≡ Two v.0 1
    → throughout (demanded v g.0) (next (run (chip_of 0x11 base size) before) (SetGsiLevel g true)) after ≡ true
    → SentOnTime (run (chip_of 0x11 base size) before) g v after

-- last spring's story, and what the premise on lower lines is for: of two entries of one vector the lower one is in flight with its line up.
-- However many EOIs of the vector come, and nothing else, the upper entry is not sent again, in flight or not
abbrev pub NeverHeard : Type 0
NeverHeard =
    (m : IoApicState) (h g : ℕ) (v : Vector) (n : ℕ)
    → is_version20 m ≡ false
    → ChipRules m
    → h < g
    → g < 24
    → awaits v (entry_at m h) ≡ true
    → (entry_at m h).input_level ≡ true
    → sends g m (replicate n (EndOfInterrupt v)) ≡ 0
