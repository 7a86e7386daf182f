-- Where the I/O APIC departs from the 82093AA, and version 0x20 from that and the I/O Controller Hub's: for each departure the smallest run of
-- calls on a new chip at address 0, what the definitions answer to the last of them, and what the text gives there. docs/DIFFERENCES.md has
-- each in words.
--
-- The text's side goes by one convention: what the I/O APIC sends is accepted at once by the local APIC that it is for, where there is one. There
-- is one with the ID 0, and one with the ID 1; none has the ID 14.
use Rattle.std.specs.Prelude.{ℕ, ◌+◌, true, false, List, [], ◌∷◌, ◌++◌, ◌≡◌, refl}
use Rattle.utils.specs.Set.{with, without}
use Rattle.types.specs.Reply.{reply_values}
use Rattle.types.specs.Departure.{Departure, Shown}
use Rattle.types.specs.declared.Gsi.{Gsi}
use Rattle.vioapic_entry.specs.Redirection.{send_entry, raise_entry, lower_entry, end_entry, end_entry20, write_low, write_high, store_low20, write_low20}
use Rattle.vioapic.specs.Table.{interrupt_for_entry, set_level, first_awaiting, end_of_entry, end_of_every, end_of}
use Rattle.vioapic.specs.Registers.{read_fixed, read_word, read_selected, write_word, write_selected, read_at, write_at}
use Rattle.vioapic.specs.IoApic.{chip_of, assert_gsi, set_gsi_level, end_of_interrupt, handle_read, handle_write}
use Rattle.vioapic.specs.Calls.{Call, SetGsiLevel, AssertGsi, EndOfInterrupt, HandleRead, HandleWrite, outcome, run}

-- ---- short names for calls: a line goes up, a line is asserted, an EOI; IOREGSEL and IOWIN written, IOWIN read, all with width 4

abbrev pub gsi : ℕ → Gsi
gsi g = record { 0 = g }

abbrev pub raise : ℕ → Call
raise g = SetGsiLevel (gsi g) true

abbrev pub lower : ℕ → Call
lower g = SetGsiLevel (gsi g) false

abbrev pub assert : ℕ → Call
assert g = AssertGsi (gsi g)

abbrev pub eoi : ℕ → Call
eoi v = EndOfInterrupt (record { 0 = v })

abbrev pub select : ℕ → Call
select r = HandleWrite 0 4 r

abbrev pub write : ℕ → Call
write x = HandleWrite 0x10 4 x

abbrev pub read : Call
read = HandleRead 0x10 4

-- the values that the last call answers, on a chip of a version
abbrev pub answers : ℕ → List Call → Call → List ℕ
answers version cs c = reply_values (outcome (run (chip_of version 0 0x1000) cs) c).reply

-- those that both versions have
abbrev pub in_both : ℕ → List Departure
in_both version =
    -- raising an edge line that is up sends again; in the text only an edge does
    record { number = 33; computed = answers version (select 0x10 ∷ write 0x30 ∷ raise 0 ∷ []) (raise 0); ours = 0x30 ∷ 0 ∷ []; text = [] }
    -- IOREGSEL takes all 32 bits; in the text bits 7:0, so that 0x101 selects IOAPICVER
    ∷ record { number = 34; computed = answers version (select 0x101 ∷ []) read; ours = 0 ∷ []; text = (0x00170000 + version) ∷ [] }
    -- IOAPICID is fixed; in the text bits 27:24 are what was written
    ∷ record { number = 36; computed = answers version (select 0 ∷ write 0 ∷ []) read; ours = 0x01000000 ∷ []; text = 0 ∷ [] }
    -- IOAPICARB is fixed; in the text a write of IOAPICID loads it
    ∷ record { number = 37; computed = answers version (select 0 ∷ write 0 ∷ select 2 ∷ []) read; ours = 0x01000000 ∷ []; text = 0 ∷ [] }
    -- the polarity, bit 13, isn't looked at; in the text a high line of an active-low entry is no request
    ∷ record { number = 38; computed = answers version (select 0x10 ∷ write 0x2030 ∷ []) (raise 0); ours = 0x30 ∷ 0 ∷ []; text = [] }
    -- delivery modes other than Fixed aren't sent: here Lowest Priority
    ∷ record { number = 39; computed = answers version (select 0x10 ∷ write 0x130 ∷ []) (raise 0); ours = []; text = 0x30 ∷ 0 ∷ [] }
    -- the destination isn't named: entry 0 is for APIC 1, which stands third in the text's list
    ∷ record {
      number = 40;
      computed = answers version (select 0x11 ∷ write 0x01000000 ∷ select 0x10 ∷ write 0x30 ∷ []) (raise 0);
      ours = 0x30 ∷ 0 ∷ [];
      text = 0x30 ∷ 0 ∷ 1 ∷ [];
    }
    -- the reserved bits 31:17 are stored, and so are the reserved bits 55:32
    ∷ record { number = 41; computed = answers version (select 0x10 ∷ write 0x20000 ∷ []) read; ours = 0x20000 ∷ []; text = 0 ∷ [] }
    ∷ record { number = 42; computed = answers version (select 0x11 ∷ write 1 ∷ []) read; ours = 1 ∷ []; text = 0 ∷ [] }
    -- vector 0xFF is sent; the text's vectors end at 0xFE
    ∷ record { number = 43; computed = answers version (select 0x10 ∷ write 0xFF ∷ []) (raise 0); ours = 0xFF ∷ 0 ∷ []; text = [] }
    -- a level entry that was deferred is sent again with its line down, so that it stays in flight; in the text the line's level alone decides
    ∷ record {
      number = 45;
      computed = answers version (select 0x10 ∷ write 0x8030 ∷ assert 0 ∷ assert 0 ∷ eoi 0x30 ∷ []) read;
      ours = 0xC030 ∷ [];
      text = 0x8030 ∷ [];
    }
    -- an access of 8 bytes is served; in the text all accesses are of 32 bits
    ∷ record { number = 47; computed = answers version (select 1 ∷ []) (HandleRead 0x10 8); ours = (0x00170000 + version) ∷ []; text = [] }
    ∷ []

-- and those that have to do with a low word's write, which are version 0x11's alone
abbrev pub of_low_words : ℕ → List Departure
of_low_words version =
    -- it clears Remote IRR, which is read-only in the text: the entry is masked in flight
    record {
      number = 32;
      computed = answers version (select 0x10 ∷ write 0x8030 ∷ raise 0 ∷ write 0x18030 ∷ []) read;
      ours = 0x18030 ∷ [];
      text = 0x1C030 ∷ [];
    }
    -- Delivery Status, bit 12, is stored; in the text it is read-only
    ∷ record { number = 35; computed = answers version (select 0x10 ∷ write 0x1000 ∷ []) read; ours = 0x1000 ∷ []; text = 0 ∷ [] }
    -- unmasking a level entry whose line is up sends nothing; in the text the level is delivered
    ∷ record { number = 46; computed = answers version (select 0x10 ∷ write 0x18030 ∷ raise 0 ∷ []) (write 0x8030); ours = []; text = 0x30 ∷ 1 ∷ [] }
    ∷ []

-- a level entry for APIC 14 is sent, and then comes an EOI of its vector, which has been another's. Remote IRR was set by the sending, so that the
-- EOI ends the entry and it is sent again; in the text a local APIC's acceptance sets it, which hasn't come
abbrev pub unaccepted : List Call
unaccepted = select 0x11 ∷ write 0x0E000000 ∷ select 0x10 ∷ write 0x8030 ∷ raise 0 ∷ []

abbrev pub departures : List Departure
departures =
    -- an EOI ends one entry, and the next one's end comes only with another EOI: entries 0 and 1 of vector 0x30; the text ends both
    record {
      number = 31;
      computed = answers 0x11 (select 0x10 ∷ write 0x8030 ∷ select 0x12 ∷ write 0x8030 ∷ assert 0 ∷ assert 1 ∷ eoi 0x30 ∷ []) read;
      ours = 0xC030 ∷ [];
      text = 0x8030 ∷ [];
    }
    ∷ record { number = 44; computed = answers 0x11 unaccepted (eoi 0x30); ours = 0 ∷ 0x30 ∷ 1 ∷ []; text = [] }
    ∷ (of_low_words 0x11 ++ in_both 0x11)

-- version 0x20: its answer to an EOI is two sets of lines
abbrev pub departures20 : List Departure
departures20 = record { number = 44; computed = answers 0x20 unaccepted (eoi 0x30); ours = 1 ∷ 1 ∷ []; text = [] } ∷ in_both 0x20

-- what version 0x11 alone departs in: version 0x20 answers what the text gives (document 02, T-08)
abbrev pub Cured : List Departure → Type 0
Cured [] = Unit
Cured (d ∷ ds) = (d.computed ≡ d.text) × Cured ds

pub departures_hold : Shown departures
unfolding run outcome with without assert_gsi set_gsi_level end_of_interrupt handle_read handle_write interrupt_for_entry set_level first_awaiting end_of_entry end_of_every end_of read_fixed read_word read_selected write_word write_selected read_at write_at send_entry raise_entry lower_entry end_entry end_entry20 write_low write_high
departures_hold = ((refl, refl), ((refl, refl), ((refl, refl), ((refl, refl), ((refl, refl), ((refl, refl), ((refl, refl), ((refl, refl), ((refl, refl), ((refl, refl), ((refl, refl), ((refl, refl), ((refl, refl), ((refl, refl), ((refl, refl), ((refl, refl), ((refl, refl), tt)))))))))))))))))

pub departures_hold_20 : Shown departures20
unfolding run outcome with without assert_gsi set_gsi_level end_of_interrupt handle_read handle_write interrupt_for_entry set_level first_awaiting end_of_entry end_of_every end_of read_fixed read_word read_selected write_word write_selected read_at write_at send_entry raise_entry lower_entry end_entry end_entry20 store_low20 write_low20 write_high
departures_hold_20 = ((refl, refl), ((refl, refl), ((refl, refl), ((refl, refl), ((refl, refl), ((refl, refl), ((refl, refl), ((refl, refl), ((refl, refl), ((refl, refl), ((refl, refl), ((refl, refl), ((refl, refl), tt)))))))))))))

pub cured_20 : Cured (of_low_words 0x20)
unfolding run outcome with without assert_gsi set_gsi_level end_of_interrupt handle_read handle_write interrupt_for_entry set_level first_awaiting end_of_entry end_of_every end_of read_fixed read_word read_selected write_word write_selected read_at write_at send_entry raise_entry lower_entry end_entry end_entry20 store_low20 write_low20 write_high
cured_20 = (refl, (refl, (refl, tt)))
