-- Small runs, computed: for each definition the one that tells it from a wrong one.
use mathlib.Core.List.{List, [], ◌∷◌}
use mathlib.Core.Path.{◌≡◌, refl}
use Prim.Native.Nat.{ℕ}
use Rattle.utils.specs.Set.{with, without}
use Rattle.types.specs.Reply.{reply_values}
use Rattle.vioapic_entry.specs.Redirection.{send_entry, raise_entry, end_entry, end_entry20, write_low, write_high, store_low20, write_low20}
use Rattle.vioapic.specs.Table.{set_level, interrupt_for_entry, first_awaiting, end_of_entry, end_of_every, end_of}
use Rattle.vioapic.specs.Registers.{write_word, write_selected, write_eoi, write_at}
use Rattle.vioapic.specs.IoApic.{chip_of, new_default, set_gsi_level, assert_gsi, end_of_interrupt, handle_write}
use Rattle.vioapic.specs.Calls.{Call, HandleWrite, outcome, run}
use Rattle.vioapic.specs.Departures.{raise, assert, eoi, select, write}

-- the values that the last of some calls answers, on a chip of a version at address 0 with entries 0 and 1 level entries of vector 0x30
abbrev after : ℕ → List Call → Call → List ℕ
after version cs c = reply_values (outcome (run (run (chip_of version 0 0x1000) (select 0x10 ∷ write 0x8030 ∷ select 0x12 ∷ write 0x8030 ∷ [])) cs) c).reply

-- a new chip's version, where none is asked for (document 02, T-14)
pub default_version : new_default.version ≡ 0x20
default_version = refl

-- the EOI register: none in version 0x11
pub eoi_register : (after 0x11 (assert 0 ∷ HandleWrite 0x40 4 0x30 ∷ []) (eoi 0x30) ≡ 0 ∷ []) × (after 0x20 (assert 0 ∷ HandleWrite 0x40 4 0x30 ∷ []) (eoi 0x30) ≡ [])
unfolding run outcome with without set_gsi_level assert_gsi end_of_interrupt handle_write set_level interrupt_for_entry first_awaiting end_of_entry end_of_every end_of write_word write_selected write_eoi write_at send_entry raise_entry end_entry end_entry20 write_low write_high store_low20 write_low20
eoi_register = (refl, refl)

-- an entry that was sent is found by the EOI, and one that has ended isn't
pub noted_case : (after 0x11 (assert 1 ∷ []) (eoi 0x30) ≡ 1 ∷ []) × (after 0x11 (assert 1 ∷ eoi 0x30 ∷ []) (eoi 0x30) ≡ [])
unfolding run outcome with without assert_gsi end_of_interrupt handle_write interrupt_for_entry first_awaiting end_of_entry end_of write_word write_selected write_at send_entry end_entry write_low write_high store_low20 write_low20
noted_case = (refl, refl)

-- of two entries in flight with one vector version 0x11 ends the lower one, and version 0x20 both, of which it names those sent again
pub ended_case :
    (after 0x11 (assert 0 ∷ assert 1 ∷ []) (eoi 0x30) ≡ 0 ∷ []) × (after 0x20 (assert 0 ∷ raise 1 ∷ []) (eoi 0x30) ≡ 3 ∷ 2 ∷ [])
    × (after 0x20 (assert 0 ∷ raise 1 ∷ eoi 0x30 ∷ []) (eoi 0x30) ≡ 2 ∷ 2 ∷ [])
unfolding run outcome with without set_gsi_level assert_gsi end_of_interrupt handle_write set_level interrupt_for_entry first_awaiting end_of_entry end_of_every end_of write_word write_selected write_at send_entry raise_entry end_entry end_entry20 write_low write_high store_low20 write_low20
ended_case = (refl, refl, refl)

-- and an entry that has ended isn't among the lines in flight, in either version
pub flight_case :
    ((run (chip_of 0x11 0 0x1000) (select 0x10 ∷ write 0x8030 ∷ assert 0 ∷ eoi 0x30 ∷ [])).in_flight ≡ 0)
    × ((run (chip_of 0x20 0 0x1000) (select 0x10 ∷ write 0x8030 ∷ assert 0 ∷ eoi 0x30 ∷ [])).in_flight ≡ 0)
unfolding run outcome with without assert_gsi end_of_interrupt handle_write interrupt_for_entry first_awaiting end_of_entry end_of_every end_of write_word write_selected write_at send_entry end_entry end_entry20 write_low write_high store_low20 write_low20
flight_case = (refl, refl)
