-- The bound, computed; and each of its premises is needed: a trace without it in which v isn't accepted by step 2r + s + 1, all others kept. First of a request, then of a
-- held line, with that line's premises.
use Rattle.std.specs.Prelude.{ℕ, Bool, true, false, not, List, [], ◌∷◌, ◌≡◌, refl}
use Rattle.utils.specs.Set.{bit, with, without}
use Rattle.vioapic_entry.specs.Redirection.{awaits, send_entry, raise_entry, lower_entry, end_entry20, write_low, write_high, store_low20, write_low20}
use Rattle.vioapic.specs.Table.{entry_at, put, set_level, end_of_every, end_of}
use Rattle.vioapic.specs.Registers.{write_word, write_selected, write_eoi, write_at}
use Rattle.vlapic.specs.Regs.{with_ppr, with_svr}
use Rattle.vlapic_regs.specs.Vectors.{highest_from}
use Rattle.vlapic_regs.specs.Register.{priority}
use Rattle.vlapic_requests.specs.Requests as apic
use Rattle.board.specs.Board.{Board, new_board, set_gsi_level, accept_interrupt, handle_eoi, write_tpr, handle_write, receive}
use Rattle.board.specs.Calls.{Call, AcceptInterrupt, HandleEoi, WriteTpr, outcome, run}
use Rattle.board_theorems.specs.Traced.{trace, lost_over, asked, puts}
use Rattle.board_theorems.specs.CounterExamples.{select, write, line, message}
use Rattle.board_bound.specs.Trace.{steps_before, requests_above, served_before, steps, accepts, accepted_at, until, obeys, tpr_below, is_quiet}
use Rattle.board_bound.specs.Bound.{is_held, holds}

-- all that an example computes with: to unfold this is to unfold them
unfoldable pub computed : Unit {0}
unfolding run outcome new_board with without set_gsi_level accept_interrupt handle_eoi write_tpr handle_write receive set_level end_of_every end_of write_word write_selected write_eoi write_at send_entry raise_entry lower_entry end_entry20 write_low write_high store_low20 write_low20 apic.receive apic.request apic.accept apic.end_highest apic.write_tpr apic.ranked priority highest_from requests_above served_before steps accepts accepted_at until
computed = tt

-- of a trace: whether the guest keeps its rule, TPR is below at the steps, and nothing new is requested above v; 2r + s, how many steps there are, and at which of them v
-- is accepted
abbrev pub Runs : ℕ → Board → List Call → Bool → Bool → Bool → ℕ → ℕ → ℕ → Type 0
Runs v b cs rule below quiet before long at =
    (until (record { 0 = v }) obeys b cs ≡ rule)
    × (until (record { 0 = v }) (tpr_below (record { 0 = v })) b cs ≡ below)
    × (until (record { 0 = v }) (is_quiet (record { 0 = v })) b cs ≡ quiet)
    × (steps_before (record { 0 = v }) b ≡ before)
    × (steps cs ≡ long)
    × (accepted_at (record { 0 = v }) b cs ≡ at)

-- of line 0: its entry is held with v, and in flight with v, v has its trace, and EOIs are told; and it is held over the trace until v is requested
abbrev pub Line : ℕ → Board → List Call → Bool → Bool → Bool → Bool → Bool → Type 0
Line v b cs held flies traced told on =
    (is_held (record { 0 = v }) 0 b ≡ held)
    × (awaits (record { 0 = v }) (entry_at b.ioapic 0) ≡ flies)
    × (trace (record { 0 = v }) b.apic ≡ traced)
    × (bit b.apic.svr 12 ≡ not told)
    × (until (record { 0 = v }) (holds (record { 0 = v }) 0) b cs ≡ on)

-- 0x31 is requested; 0x35 is in service, of its class
abbrev pub asking : Board
asking = run new_board (message 0x31 false ∷ [])

abbrev pub behind : Board
behind = run new_board (message 0x35 false ∷ AcceptInterrupt ∷ message 0x31 false ∷ [])

-- accepted at once; behind 0x35; and with a request of 0x51 besides, with calls between that are no steps: TPR up and down, a lower request
pub exact :
    Runs 0x31 asking (AcceptInterrupt ∷ []) true true true 0 1 1
    × Runs 0x31 behind (HandleEoi ∷ AcceptInterrupt ∷ []) true true true 1 2 2
    × Runs 0x31 (run behind (message 0x51 true ∷ [])) (AcceptInterrupt ∷ WriteTpr 0xf0 ∷ WriteTpr 0x25 ∷ HandleEoi ∷ message 0x21 false ∷ HandleEoi ∷ AcceptInterrupt ∷ []) true true true 3 4 4
unfolding computed
exact = ((refl, refl, refl, refl, refl, refl), (refl, refl, refl, refl, refl, refl), (refl, refl, refl, refl, refl, refl))

-- the guest's rule: an EOI where something can be accepted, acceptances where nothing can. TPR of v's class. A new request above v, of a higher class and of v's own. No request
-- of v at all. A PPR that is neither TPR's nor that of what is in service
pub needed :
    Runs 0x31 asking (HandleEoi ∷ []) false true true 0 1 0
    × Runs 0x31 behind (AcceptInterrupt ∷ AcceptInterrupt ∷ []) false true true 1 2 0
    × Runs 0x31 (run asking (WriteTpr 0x30 ∷ [])) (HandleEoi ∷ []) true false true 0 1 0
    × Runs 0x31 asking (message 0x51 false ∷ AcceptInterrupt ∷ []) true true false 0 1 0
    × Runs 0x31 asking (message 0x35 false ∷ AcceptInterrupt ∷ []) true true false 0 1 0
    × Runs 0x31 new_board (HandleEoi ∷ []) true true true 0 1 0
    × Runs 0x31 (record { ioapic = asking.ioapic; apic = with_ppr asking.apic 0xf0 }) (HandleEoi ∷ []) true true true 0 1 0
unfolding computed
needed = ((refl, refl, refl, refl, refl, refl), (refl, refl, refl, refl, refl, refl), (refl, refl, refl, refl, refl, refl), (refl, refl, refl, refl, refl, refl), (refl, refl, refl, refl, refl, refl), (refl, refl, refl, refl, refl, refl), (refl, refl, refl, refl, refl, refl))

-- entry 0 is level, of vector 0x41; its line is up and held, and 0x41 is in service
abbrev pub serving : Board
serving = run new_board (select 0x10 ∷ write 0x8041 ∷ line 0 true ∷ AcceptInterrupt ∷ [])

-- its EOI sends it again, and it is accepted; an edge request of 0x41 is no matter to that, nor is a line that falls once 0x41 is requested
pub held_exact :
    Runs 0x41 serving (HandleEoi ∷ AcceptInterrupt ∷ []) true true true 1 2 2
    × Line 0x41 serving (HandleEoi ∷ AcceptInterrupt ∷ []) true true true true true
    × Runs 0x41 serving (message 0x41 false ∷ HandleEoi ∷ AcceptInterrupt ∷ []) true true true 1 2 2
    × Runs 0x41 serving (HandleEoi ∷ line 0 false ∷ AcceptInterrupt ∷ []) true true true 1 2 2
    × Line 0x41 serving (HandleEoi ∷ line 0 false ∷ AcceptInterrupt ∷ []) true true true true true
unfolding computed
held_exact = ((refl, refl, refl, refl, refl, refl), (refl, refl, refl, refl, refl), (refl, refl, refl, refl, refl, refl), (refl, refl, refl, refl, refl, refl), (refl, refl, refl, refl, refl))

-- the line falls; the entry is masked; it gets another vector, another delivery mode, edge trigger
pub held_needed :
    Runs 0x41 serving (line 0 false ∷ HandleEoi ∷ HandleEoi ∷ []) true true true 1 2 0
    × Line 0x41 serving (line 0 false ∷ HandleEoi ∷ HandleEoi ∷ []) true true true true false
    × Runs 0x41 serving (write 0x18041 ∷ HandleEoi ∷ HandleEoi ∷ []) true true true 1 2 0
    × Line 0x41 serving (write 0x18041 ∷ HandleEoi ∷ HandleEoi ∷ []) true true true true false
    × Runs 0x41 serving (write 0x8042 ∷ HandleEoi ∷ HandleEoi ∷ []) true true true 1 2 0
    × Line 0x41 serving (write 0x8042 ∷ HandleEoi ∷ HandleEoi ∷ []) true true true true false
    × Runs 0x41 serving (write 0x8141 ∷ HandleEoi ∷ HandleEoi ∷ []) true true true 1 2 0
    × Line 0x41 serving (write 0x8141 ∷ HandleEoi ∷ HandleEoi ∷ []) true true true true false
    × Runs 0x41 serving (write 0x41 ∷ HandleEoi ∷ HandleEoi ∷ []) true true true 1 2 0
    × Line 0x41 serving (write 0x41 ∷ HandleEoi ∷ HandleEoi ∷ []) true true true true false
unfolding computed
held_needed = ((refl, refl, refl, refl, refl, refl), (refl, refl, refl, refl, refl), (refl, refl, refl, refl, refl, refl), (refl, refl, refl, refl, refl), (refl, refl, refl, refl, refl, refl), (refl, refl, refl, refl, refl), (refl, refl, refl, refl, refl, refl), (refl, refl, refl, refl, refl), (refl, refl, refl, refl, refl, refl), (refl, refl, refl, refl, refl))

-- EOIs that aren't told (SVR bit 12). A line that was lost: no trace. An entry that isn't in flight, which no calls leave on a new board
pub held_needed_first :
    Runs 0x41 (record { ioapic = serving.ioapic; apic = with_svr serving.apic 0x10ff }) (HandleEoi ∷ HandleEoi ∷ []) true true true 1 2 0
    × Line 0x41 (record { ioapic = serving.ioapic; apic = with_svr serving.apic 0x10ff }) (HandleEoi ∷ HandleEoi ∷ []) true true true false true
    × Runs 0x41 (run new_board (select 0x10 ∷ write 0x8041 ∷ line 0 true ∷ message 0x41 false ∷ AcceptInterrupt ∷ HandleEoi ∷ [])) (HandleEoi ∷ []) true true true 0 1 0
    × Line 0x41 (run new_board (select 0x10 ∷ write 0x8041 ∷ line 0 true ∷ message 0x41 false ∷ AcceptInterrupt ∷ HandleEoi ∷ [])) (HandleEoi ∷ []) true true false true true
    × Runs 0x41 (record { ioapic = put new_board.ioapic 0 (record { word = 0x8041; pending_level = false; input_level = true }); apic = serving.apic }) (HandleEoi ∷ HandleEoi ∷ []) true true true 1 2 0
    × Line 0x41 (record { ioapic = put new_board.ioapic 0 (record { word = 0x8041; pending_level = false; input_level = true }); apic = serving.apic }) (HandleEoi ∷ HandleEoi ∷ []) true false true true true
unfolding computed
held_needed_first = ((refl, refl, refl, refl, refl, refl), (refl, refl, refl, refl, refl), (refl, refl, refl, refl, refl, refl), (refl, refl, refl, refl, refl), (refl, refl, refl, refl, refl, refl), (refl, refl, refl, refl, refl))

-- entry 0 is level, of vector 0x51; its line is up and held, and 0x51 is in service
abbrev pub other : Board
other = run new_board (select 0x10 ∷ write 0x8051 ∷ line 0 true ∷ AcceptInterrupt ∷ [])

-- a line that isn't held with v at the start (`HeldIsHeard`): its entry gets v by the next call, in flight with another vector, whose EOI doesn't find it any more. v wasn't
-- lost before
pub held_at_start :
    Runs 0x41 other (write 0x8041 ∷ HandleEoi ∷ HandleEoi ∷ []) true true true 1 2 0
    × Line 0x41 other (write 0x8041 ∷ HandleEoi ∷ HandleEoi ∷ []) false false false true true
    × (lost_over (record { 0 = 0x41 }) new_board (select 0x10 ∷ write 0x8051 ∷ line 0 true ∷ AcceptInterrupt ∷ []) false ≡ false)
unfolding computed lost_over asked puts
held_at_start = ((refl, refl, refl, refl, refl, refl), (refl, refl, refl, refl, refl), refl)

-- `serving` with a lower request, and a PPR that isn't that of what is in service
abbrev pub stale : Board
stale = record { ioapic = serving.ioapic; apic = with_ppr (run serving (message 0x31 false ∷ [])).apic 0 }

-- what the bound asks of a request it asks of a held line, too. Such a PPR. The guest's rule: acceptances where nothing can be accepted, an EOI where something can. TPR of
-- v's class. A new request above v
pub held_fair :
    Runs 0x41 stale (AcceptInterrupt ∷ HandleEoi ∷ AcceptInterrupt ∷ []) true true true 1 3 3
    × Line 0x41 stale (AcceptInterrupt ∷ HandleEoi ∷ AcceptInterrupt ∷ []) true true true true true
    × Runs 0x41 serving (AcceptInterrupt ∷ AcceptInterrupt ∷ []) false true true 1 2 0
    × Line 0x41 serving (AcceptInterrupt ∷ AcceptInterrupt ∷ []) true true true true true
    × Runs 0x41 serving (HandleEoi ∷ HandleEoi ∷ []) false true true 1 2 0
    × Line 0x41 serving (HandleEoi ∷ HandleEoi ∷ []) true true true true true
    × Runs 0x41 serving (WriteTpr 0x40 ∷ HandleEoi ∷ HandleEoi ∷ []) true false true 1 2 0
    × Line 0x41 serving (WriteTpr 0x40 ∷ HandleEoi ∷ HandleEoi ∷ []) true true true true true
    × Runs 0x41 serving (message 0x51 false ∷ AcceptInterrupt ∷ HandleEoi ∷ []) true true false 1 2 0
    × Line 0x41 serving (message 0x51 false ∷ AcceptInterrupt ∷ HandleEoi ∷ []) true true true true true
unfolding computed
held_fair = ((refl, refl, refl, refl, refl, refl), (refl, refl, refl, refl, refl), (refl, refl, refl, refl, refl, refl), (refl, refl, refl, refl, refl), (refl, refl, refl, refl, refl, refl), (refl, refl, refl, refl, refl), (refl, refl, refl, refl, refl, refl), (refl, refl, refl, refl, refl), (refl, refl, refl, refl, refl, refl), (refl, refl, refl, refl, refl))
