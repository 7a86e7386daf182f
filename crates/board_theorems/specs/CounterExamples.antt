-- The two calls that break a trace, what heals it, and the walk of one interrupt, computed on a new board: entry 0 is level, of vector 0x41, and its line goes up.
use Rattle.std.specs.Prelude.{ℕ, Bool, true, false, List, [], ◌∷◌, ◌++◌, ◌≡◌, refl}
use Rattle.utils.specs.Set.{with, without}
use Rattle.vioapic_entry.specs.Redirection.{awaits, send_entry, raise_entry, lower_entry, end_entry20, write_low, write_high, store_low20, write_low20}
use Rattle.vioapic.specs.Table.{entry_at, set_level, end_of_every, end_of}
use Rattle.vioapic.specs.Registers.{write_word, write_selected, write_eoi, write_at}
use Rattle.vlapic_regs.specs.Vectors.{in_words, highest_from}
use Rattle.vlapic_regs.specs.Register.{priority}
use Rattle.vlapic_requests.specs.Requests as apic
use Rattle.board.specs.Board.{new_board, set_gsi_level, accept_interrupt, handle_eoi, write_tpr, handle_write, receive}
use Rattle.board.specs.Calls.{Call, SetGsiLevel, AcceptInterrupt, HandleEoi, WriteTpr, HandleWrite, Receive, outcome, run}
use Rattle.board_theorems.specs.Traced.{trace}

abbrev pub select : ℕ → Call
select x = HandleWrite 0xfec00000 4 x

abbrev pub write : ℕ → Call
write x = HandleWrite 0xfec00010 4 x

abbrev pub write_eoi_of : ℕ → Call
write_eoi_of v = HandleWrite 0xfec00040 4 v

abbrev pub line : ℕ → Bool → Call
line g up = SetGsiLevel (record { 0 = g }) up

abbrev pub message : ℕ → Bool → Call
message v level = Receive (record { 0 = v }) level

-- entry 0 is written, and its line goes up
abbrev pub raised : List Call
raised = select 0x10 ∷ write 0x8041 ∷ line 0 true ∷ []

-- after these calls entry 0 is in flight with v, or isn't, and v has a trace, or hasn't
abbrev pub Stands : List Call → ℕ → Bool → Bool → Type 0
Stands cs v flies traced =
    (awaits (record { 0 = v }) (entry_at (run new_board cs).ioapic 0) ≡ flies) × (trace (record { 0 = v }) (run new_board cs).apic ≡ traced)

-- raised: traced. Lost by an edge message, by an edge entry of the same vector, and by a level word with another vector
pub broken :
    Stands raised 0x41 true true
    × Stands (raised ++ (message 0x41 false ∷ [])) 0x41 true false
    × Stands (raised ++ (select 0x12 ∷ write 0x41 ∷ line 1 true ∷ [])) 0x41 true false
    × Stands (raised ++ (write 0x8051 ∷ [])) 0x51 true false
unfolding run outcome new_board with without set_gsi_level handle_write receive set_level write_word write_selected write_at send_entry raise_entry write_low write_high store_low20 write_low20 apic.receive apic.request
broken = ((refl, refl), (refl, refl), (refl, refl), (refl, refl))

-- lost by a message
abbrev pub lost : List Call
lost = raised ++ (message 0x41 false ∷ [])

-- the line falls and rises, and nothing is asked for; healed by the EOI register, by a level message, by an edge word, which ends the flight, and by a level word with a
-- vector that has a trace. One with a vector that has none heals nothing
pub healed :
    Stands (lost ++ (line 0 false ∷ line 0 true ∷ [])) 0x41 true false
    × Stands (lost ++ (write_eoi_of 0x41 ∷ [])) 0x41 true true
    × Stands (lost ++ (message 0x41 true ∷ [])) 0x41 true true
    × Stands (lost ++ (write 0x41 ∷ [])) 0x41 false false
    × Stands (lost ++ (message 0x51 true ∷ write 0x8051 ∷ [])) 0x51 true true
    × Stands (lost ++ (write 0x8051 ∷ [])) 0x51 true false
unfolding run outcome new_board with without set_gsi_level handle_write receive set_level end_of_every write_word write_selected write_eoi write_at send_entry raise_entry lower_entry end_entry20 write_low write_high store_low20 write_low20 apic.receive apic.request
healed = ((refl, refl), (refl, refl), (refl, refl), (refl, refl), (refl, refl), (refl, refl))

-- accepted and ended it isn't: the guest's EOI is told to nobody
pub ended_lost : Stands (lost ++ (AcceptInterrupt ∷ HandleEoi ∷ [])) 0x41 true false
unfolding run outcome new_board with without set_gsi_level handle_write receive accept_interrupt handle_eoi set_level write_word write_selected write_at send_entry raise_entry write_low write_high store_low20 write_low20 apic.receive apic.request apic.accept apic.end_highest apic.ranked priority highest_from
ended_lost = (refl, refl)

-- the walk of an interrupt from its line to its EOI and, the line held, round again: requested, in service, PPR
abbrev pub Walks : List Call → Bool → Bool → ℕ → Type 0
Walks cs requested served ppr =
    (in_words (run new_board cs).apic.irr 0x41 ≡ requested) × (in_words (run new_board cs).apic.isr 0x41 ≡ served) × ((run new_board cs).apic.ppr ≡ ppr)

pub walk :
    Walks raised true false 0
    × Walks (raised ++ (AcceptInterrupt ∷ [])) false true 0x40
    × Walks (raised ++ (AcceptInterrupt ∷ HandleEoi ∷ [])) true false 0
    × Walks (raised ++ (AcceptInterrupt ∷ line 0 false ∷ HandleEoi ∷ [])) false false 0
    × Walks (raised ++ (WriteTpr 0x45 ∷ AcceptInterrupt ∷ [])) true false 0x45
unfolding run outcome new_board with without set_gsi_level handle_write accept_interrupt handle_eoi write_tpr set_level end_of_every end_of write_word write_selected write_at send_entry raise_entry lower_entry end_entry20 write_low write_high store_low20 write_low20 apic.request apic.accept apic.end_highest apic.write_tpr apic.ranked priority highest_from
walk = ((refl, refl, refl), (refl, refl, refl), (refl, refl, refl), (refl, refl, refl), (refl, refl, refl))
