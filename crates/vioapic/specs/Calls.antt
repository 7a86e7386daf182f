-- Any public call on one chip, and a run of them. The outcome of each is the one that the call's promise gives.
use Rattle.std.specs.Prelude.{ℕ, Bool, List, [], ◌∷◌}
use Rattle.types.specs.Reply.{Outcome}
use Rattle.types.specs.declared.Gsi.{Gsi}
use Rattle.types.specs.declared.Vector.{Vector}
use Rattle.types.specs.declared.Reply.{Reply}
use Rattle.vioapic.specs.IoApic.{assert_gsi, set_gsi_level, end_of_interrupt, vector_for_gsi, address_range, handle_read, handle_write}
use Rattle.vioapic.specs.State.{IoApicState}

pub data Call : Type 0 where
  SetGsiLevel : Gsi → Bool → Call
  AssertGsi : Gsi → Call
  EndOfInterrupt : Vector → Call
  VectorForGsi : Gsi → Call
  AddressRange : Call
  HandleRead : ℕ → ℕ → Call  -- address, width
  HandleWrite : ℕ → ℕ → ℕ → Call  -- address, width, value

-- a call that answers without handing a chip back leaves the chip as it is
abbrev pub kept : IoApicState → Reply → Outcome IoApicState
kept m r = record { state = m; reply = r }

unfoldable pub outcome : IoApicState → Call → Outcome IoApicState
outcome m (SetGsiLevel gsi up) = set_gsi_level m gsi up
outcome m (AssertGsi gsi) = assert_gsi m gsi
outcome m (EndOfInterrupt v) = end_of_interrupt m v
outcome m (VectorForGsi gsi) = kept m (vector_for_gsi m gsi)
outcome m AddressRange = kept m (address_range m)
outcome m (HandleRead addr width) = kept m (handle_read m addr width)
outcome m (HandleWrite addr width x) = handle_write m addr width x

-- the chip after a call, and after a run of calls
abbrev pub next : IoApicState → Call → IoApicState
next m c = (outcome m c).state

unfoldable pub run : IoApicState → List Call → IoApicState
run m [] = m
run m (c ∷ cs) = run (next m c) cs
