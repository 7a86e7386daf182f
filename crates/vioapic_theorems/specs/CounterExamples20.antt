-- Version 0x20: what each of its premises is for, and last spring's story run in both versions; and what agreement is for. Entries 0 and 1 are level entries of vector 0x30 on a
-- new chip at address 0; entry 1 is the one that is counted.
use Rattle.std.specs.Prelude.{ℕ, ◌+◌, Bool, true, false, List, [], ◌∷◌, ◌≡◌, refl}
use Rattle.utils.specs.Set.{with, without}
use Rattle.vioapic_entry.specs.Redirection.{send_entry, raise_entry, lower_entry, end_entry, end_entry20, write_low, write_high, store_low20, write_low20}
use Rattle.vioapic.specs.Table.{with_flight, interrupt_for_entry, set_level, first_awaiting, end_of_entry, end_of_every, end_of}
use Rattle.vioapic.specs.Registers.{write_word, write_selected, write_eoi, write_at}
use Rattle.vioapic.specs.IoApic.{chip_of, assert_gsi, set_gsi_level, end_of_interrupt, handle_write}
use Rattle.vioapic.specs.Calls.{Call, HandleWrite, outcome, next, run}
use Rattle.vioapic.specs.Departures.{raise, lower, assert, eoi, select, write}
use Rattle.vioapic.specs.State.{IoApicState}
use Rattle.vioapic_theorems.specs.Sends.{sent, sends}
use Rattle.vioapic_theorems.specs.Premises.{throughout}
use Rattle.vioapic_theorems.specs.Heard20.{eois_at, held_up}
use Rattle.vioapic_theorems.specs.CounterExamples.{vector, along}

-- the chip of a version after both entries were written
abbrev pub written : ℕ → IoApicState
written version = run (chip_of version 0 0x1000) (select 0x10 ∷ write 0x8030 ∷ select 0x12 ∷ write 0x8030 ∷ [])

-- line 1 goes up and then come some calls: which of the premises hold (line, mask, vector, delivery mode, trigger mode), how often entry 1 is sent, and how often
-- demand 3 would say
abbrev pub Counter20 : List Call → List Bool → ℕ → ℕ → Type 0
Counter20 from premises times said =
    (along (held_up 1) (next (written 0x20) (raise 1)) from ≡ premises) × (sends 1 (written 0x20) (raise 1 ∷ from) ≡ times) × (1 + eois_at 0 vector from ≡ said)

-- its line goes down; it is masked at its EOI; its vector is changed; its delivery mode is; its trigger mode is, and then it is sent without an EOI
pub counter_examples_20 :
    Counter20 (lower 1 ∷ eoi 0x30 ∷ []) (false ∷ true ∷ true ∷ true ∷ true ∷ []) 1 2
    × Counter20 (write 0x18030 ∷ eoi 0x30 ∷ []) (true ∷ false ∷ true ∷ true ∷ true ∷ []) 1 2
    × Counter20 (write 0x8031 ∷ eoi 0x30 ∷ []) (true ∷ true ∷ false ∷ true ∷ true ∷ []) 1 2
    × Counter20 (write 0x8130 ∷ eoi 0x30 ∷ []) (true ∷ true ∷ true ∷ false ∷ true ∷ []) 1 2
    × Counter20 (write 0x30 ∷ raise 1 ∷ []) (true ∷ true ∷ true ∷ true ∷ false ∷ []) 2 1
unfolding along run outcome with without sends sent eois_at assert_gsi set_gsi_level end_of_interrupt handle_write interrupt_for_entry set_level end_of_every end_of write_word write_selected write_eoi write_at send_entry raise_entry lower_entry end_entry20 write_low write_high store_low20 write_low20
counter_examples_20 = ((refl, refl, refl), (refl, refl, refl), (refl, refl, refl), (refl, refl, refl), (refl, refl, refl))

-- and what a level entry is for: an edge entry is sent by each raising, without an EOI
pub edge_counted : sends 1 (written 0x20) (write 0x30 ∷ raise 1 ∷ raise 1 ∷ []) ≡ 2
unfolding run outcome with without sends sent set_gsi_level handle_write set_level write_word write_selected write_at send_entry raise_entry write_low write_high store_low20 write_low20
edge_counted = refl

-- between its EOIs an entry may be masked, and its line may fall: it is sent at both EOIs, and by nothing else
pub between_eois : sends 1 (written 0x20) (raise 1 ∷ write 0x18030 ∷ lower 1 ∷ write 0x8031 ∷ raise 1 ∷ eoi 0x31 ∷ write 0x18031 ∷ write 0x8031 ∷ eoi 0x31 ∷ []) ≡ 3
unfolding run outcome with without sends sent set_gsi_level end_of_interrupt handle_write set_level end_of_every end_of write_word write_selected write_at send_entry raise_entry lower_entry end_entry20 write_low write_high store_low20 write_low20
between_eois = refl

-- an unmasking that sends counts once for its own entry, whose number its reply doesn't say, and for no other
pub unmasked_sent :
    (sends 1 (written 0x20) (write 0x18030 ∷ raise 1 ∷ write 0x8030 ∷ []) ≡ 1) × (sends 0 (written 0x20) (write 0x18030 ∷ raise 1 ∷ write 0x8030 ∷ []) ≡ 0)
unfolding run outcome with without sends sent set_gsi_level handle_write set_level write_word write_selected write_at send_entry raise_entry write_low write_high store_low20 write_low20
unmasked_sent = (refl, refl)

-- both lines are up, and three EOIs come, one of them a write of 0x130 to the EOI register
abbrev pub spring : List Call
spring = raise 0 ∷ raise 1 ∷ eoi 0x30 ∷ HandleWrite 0x40 4 0x130 ∷ eoi 0x30 ∷ []

-- in version 0x11 the upper entry is sent once, and the lower one again at each EOI, of which the write is none; in version 0x20 both are sent four times
pub spring_told :
    (sends 0 (written 0x11) spring ≡ 3) × (sends 1 (written 0x11) spring ≡ 1)
    × (sends 0 (written 0x20) spring ≡ 4) × (sends 1 (written 0x20) spring ≡ 4)
unfolding run outcome with without sends sent set_gsi_level end_of_interrupt handle_write set_level first_awaiting end_of_entry end_of_every end_of write_word write_selected write_eoi write_at send_entry raise_entry end_entry end_entry20 write_low write_high store_low20 write_low20
spring_told = (refl, refl, refl, refl)

-- and the premises can be met, with the lower line up all the while
pub premises_met_20 : throughout (held_up 1) (run (written 0x20) (raise 0 ∷ raise 1 ∷ [])) (eoi 0x30 ∷ HandleWrite 0x40 4 0x130 ∷ assert 0 ∷ eoi 0x30 ∷ []) ≡ true
unfolding throughout run outcome with without assert_gsi set_gsi_level end_of_interrupt handle_write interrupt_for_entry set_level end_of_every end_of write_word write_selected write_eoi write_at send_entry raise_entry end_entry20 write_low write_high store_low20 write_low20
premises_met_20 = refl

-- an entry that ends and isn't sent again counts once
pub cleared_unsent : sends 0 (written 0x20) (assert 0 ∷ eoi 0x30 ∷ []) ≡ 1
unfolding run outcome with without sends sent assert_gsi end_of_interrupt handle_write interrupt_for_entry end_of_every end_of write_word write_selected write_at send_entry end_entry20 write_low write_high store_low20 write_low20
cleared_unsent = refl

-- a write to the EOI register of a width that isn't served is none
pub unserved_write : sends 1 (written 0x20) (raise 1 ∷ HandleWrite 0x40 2 0x30 ∷ []) ≡ 1 + eois_at 0 vector (HandleWrite 0x40 2 0x30 ∷ [])
unfolding run outcome with without sends sent eois_at set_gsi_level handle_write set_level write_word write_selected write_at send_entry raise_entry write_low write_high store_low20 write_low20
unserved_write = refl

-- what agreement is for: line 0 is up and its entry in flight. Where its bit is missing from the word of lines in flight an EOI
-- passes over the entry, in both versions, and where it is there the entry is sent again
abbrev pub sent_if : ℕ → ℕ → ℕ
sent_if version lines = sends 0 (with_flight (run (written version) (raise 0 ∷ [])) lines) (eoi 0x30 ∷ [])

pub agreement_needed : (sent_if 0x11 0 ≡ 0) × (sent_if 0x11 1 ≡ 1) × (sent_if 0x20 0 ≡ 0) × (sent_if 0x20 1 ≡ 1)
unfolding run outcome with without sends sent set_gsi_level end_of_interrupt handle_write set_level first_awaiting end_of_entry end_of_every end_of write_word write_selected write_eoi write_at send_entry raise_entry end_entry end_entry20 write_low write_high store_low20 write_low20
agreement_needed = (refl, refl, refl, refl)
