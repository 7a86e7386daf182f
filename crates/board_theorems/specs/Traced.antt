-- Nothing is lost on the way (document 02, T-07): every level entry in flight has its vector requested or in service, with the trigger bit set. Beside the board's rules
-- and not one of them: two kinds of calls break it, and what is lost then is said exactly.
-- 82093AA: IOREDTBL, Remote IRR. Intel SDM volume 3, the APIC chapter: interrupt acceptance for fixed interrupts (IRR, ISR, TMR).
use Rattle.std.specs.Prelude.{ℕ, ◌+◌, ◌%◌, ◌^◌, ◌<◌, Bool, true, false, not, cond, ◌&&◌, ◌||◌, List, [], ◌∷◌, ◌≡◌, eqb, ltb, Option, Some, None, Result, Ok, Err}
use Rattle.types.specs.declared.Vector.{Vector}
use Rattle.vioapic_entry.specs.Redirection.{vector_of, remote_irr, is_level, is_fit, has_vector, awaits}
use Rattle.vioapic_entry.specs.declared.Entry.{Entry}
use Rattle.vioapic_entry.specs.declared.IoApicInterrupt.{IoApicInterrupt}
use Rattle.vioapic.specs.State.{IoApicState}
use Rattle.vioapic.specs.Table.{entry_at, set_level, end_of}
use Rattle.vioapic.specs.Registers.{is_entry_word, entry_of, is_low}
use Rattle.vioapic.specs.IoApic.{good_width, handle_writing}
use Rattle.vioapic.specs.declared.Eoi.{Eoi}
use Rattle.vioapic.specs.declared.Eoi.TheVariants as ioapic
use Rattle.vioapic.specs.declared.Written.{Written}
use Rattle.vioapic.specs.declared.Written.TheVariants as written
use Rattle.vlapic.specs.declared.VirtualApicRegs.{VirtualApicRegs}
use Rattle.vlapic_regs.specs.Vectors.{in_words}
use Rattle.vlapic_requests.specs.Requests.{end_highest}
use Rattle.board.specs.Board.{Board, new_board}
use Rattle.board.specs.Calls.{Call, SetGsiLevel, AcceptInterrupt, HandleEoi, WriteTpr, HandleWrite, Receive, next, run}
use Rattle.board_theorems.specs.Rules.{BoardRules, Tells}
use Rattle.types.specs.declared.Refusal.{Refusal}

-- ---- the trace of a vector

-- requested or in service, and level-triggered
abbrev pub trace : Vector → VirtualApicRegs → Bool
trace v s = (in_words s.irr v.0 || in_words s.isr v.0) && in_words s.tmr v.0

-- a level entry of v is in flight only with a trace of v
abbrev pub Traced : Vector → Board → Type 0
Traced v b = (g : ℕ) → g < 24 → awaits v (entry_at b.ioapic g) ≡ true → trace v b.apic ≡ true

-- ---- what a call requests

pub data Asked : Type 0 where
  Nobody : Asked
  Asks : Vector → Bool → Asked  -- a request of the vector, level-triggered or not

abbrev pub asked_by : Option IoApicInterrupt → Asked
asked_by None = Nobody
asked_by (Some i) = Asks i.vector i.level_triggered

abbrev pub asked_again : Vector → ℕ → Asked
asked_again v sent = cond (eqb sent 0) Nobody (Asks v true)

abbrev pub asked_by_eoi : Vector → Option Eoi → Asked
asked_by_eoi v None = Nobody
asked_by_eoi v (Some (ioapic.Ended e)) = asked_by e.pending
asked_by_eoi v (Some (ioapic.EndedAll e)) = asked_again v e.sent

abbrev pub asked_by_write : ℕ → Result Written Refusal → Asked
asked_by_write x (Ok written.Done) = Nobody
asked_by_write x (Ok (written.Sent i)) = Asks i.vector i.level_triggered
asked_by_write x (Ok (written.EndedAll e)) = asked_again (record { 0 = x % 2 ^ 8 }) e.sent
asked_by_write x (Err why) = Nobody

abbrev pub asked_by_told : IoApicState → Option Vector → Asked
asked_by_told io None = Nobody
asked_by_told io (Some v) = asked_by_eoi v (end_of io v).answer

unfoldable pub asked : Board → Call → Asked
asked b (SetGsiLevel gsi up) = asked_by (set_level b.ioapic gsi up).answer
asked b AcceptInterrupt = Nobody
asked b HandleEoi = asked_by_told b.ioapic (end_highest b.apic).answer
asked b (WriteTpr x) = Nobody
asked b (HandleWrite addr width x) = asked_by_write x (handle_writing b.ioapic addr width x).answer
asked b (Receive v level) = cond (ltb v.0 16) Nobody (Asks v level)

-- a level request of v, and an edge one: a message's, or that of an edge entry whose line goes up
abbrev pub is_level_of : Vector → Asked → Bool
is_level_of v Nobody = false
is_level_of v (Asks u level) = eqb u.0 v.0 && level

abbrev pub is_edge_of : Vector → Asked → Bool
is_edge_of v Nobody = false
is_edge_of v (Asks u level) = eqb u.0 v.0 && not level

-- ---- a level low word puts v into an entry in flight with another vector

-- the write goes to the low word of the selected entry
abbrev pub is_low_word : IoApicState → ℕ → ℕ → Bool
is_low_word m addr width = good_width width && eqb addr (m.base + 0x10) && is_entry_word m.selector && is_low m.selector

-- the write goes to the EOI register
abbrev pub is_eoi_word : IoApicState → ℕ → ℕ → Bool
is_eoi_word m addr width = good_width width && eqb addr (m.base + 0x40)

abbrev pub renames : Vector → ℕ → ℕ → Bool
renames v w x = is_level x && has_vector x v && remote_irr w && not (has_vector w v)

unfoldable pub puts : Vector → Board → Call → Bool
puts v b (HandleWrite addr width x) = is_low_word b.ioapic addr width && renames v (entry_at b.ioapic (entry_of b.ioapic.selector)).word (x % 2 ^ 32)
puts v b (SetGsiLevel gsi up) = false
puts v b AcceptInterrupt = false
puts v b HandleEoi = false
puts v b (WriteTpr x) = false
puts v b (Receive u level) = false

-- ---- what is lost

-- v is lost by an edge request of it, and by a word that puts it where it has no trace; any level request of it finds it again. Nothing else does either
abbrev pub lost_after : Vector → Board → Call → Bool → Bool
lost_after v b c lost =
    cond (is_level_of v (asked b c)) false
    (cond (is_edge_of v (asked b c)) true
    (cond (puts v b c) (not (trace v b.apic)) lost))

-- over a run, from a board where it is lost or isn't
unfoldable pub lost_over : Vector → Board → List Call → Bool → Bool
lost_over v b [] lost = lost
lost_over v b (c ∷ cs) lost = lost_over v (next b c) cs (lost_after v b c lost)

-- exactly: while an entry of v is in flight, v is lost if and only if it has no trace
abbrev pub Exact : Vector → Board → Bool → Type 0
Exact v b lost = (g : ℕ) → g < 24 → awaits v (entry_at b.ioapic g) ≡ true → trace v b.apic ≡ not lost

-- ---- the theorems

-- a new board is traced
abbrev pub NewTraced : Type 0
NewTraced = (v : Vector) → Traced v new_board

-- every call keeps it but the two
abbrev pub CallsKeepTraced : Type 0
CallsKeepTraced =
    (v : Vector) (b : Board) (c : Call)
    → BoardRules b
    → Tells b
    → Traced v b
    → is_edge_of v (asked b c) ≡ false
    → puts v b c ≡ false
    → Traced v (next b c)

-- so a run without them keeps it from a new board on
abbrev pub spares : Vector → Board → Call → Bool
spares v b c = not (is_edge_of v (asked b c)) && not (puts v b c)

unfoldable pub spares_over : Vector → Board → List Call → Bool
spares_over v b [] = true
spares_over v b (c ∷ cs) = spares v b c && spares_over v (next b c) cs

abbrev pub RunsTraced : Type 0
RunsTraced = (v : Vector) (cs : List Call) → spares_over v new_board cs ≡ true → Traced v (run new_board cs)

-- what is lost is exact after every call
abbrev pub CallsExact : Type 0
CallsExact = (v : Vector) (b : Board) (c : Call) (lost : Bool) → BoardRules b → Tells b → Exact v b lost → Exact v (next b c) (lost_after v b c lost)

-- and over any calls on a new board
abbrev pub RunsExact : Type 0
RunsExact = (v : Vector) (cs : List Call) → Exact v (run new_board cs) (lost_over v new_board cs false)

-- ---- what heals a lost line

-- line g is lost: its entry is level and in flight, and the vector that the entry has now has no trace
abbrev pub lost_entry : Entry → VirtualApicRegs → Bool
lost_entry e s = is_level e.word && remote_irr e.word && not (trace (vector_of e.word) s)

abbrev pub is_lost : ℕ → Board → Bool
is_lost g b = lost_entry (entry_at b.ioapic g) b.apic

-- over any calls on a new board: a line is lost exactly if its entry is in flight and its vector was lost, by one of the two, and not found since
abbrev pub LostExactly : Type 0
LostExactly =
    (cs : List Call) (g : ℕ)
    → g < 24
    → is_lost g (run new_board cs)
    ≡ (is_level (entry_at (run new_board cs).ioapic g).word
    && remote_irr (entry_at (run new_board cs).ioapic g).word
    && lost_over (vector_of (entry_at (run new_board cs).ioapic g).word) new_board cs false)

-- of the guest's writes: the EOI register's, with the entry's vector v; and of the entry's own low word an edge word, and a level word with a vector that has a trace
unfoldable pub mends : ℕ → Vector → Board → Call → Bool
mends g v b (HandleWrite addr width x) =
    (is_eoi_word b.ioapic addr width && eqb (x % 2 ^ 8) v.0)
    || (is_low_word b.ioapic addr width && eqb (entry_of b.ioapic.selector) g && (not (is_level (x % 2 ^ 32)) || trace (vector_of (x % 2 ^ 32)) b.apic))
mends g v b (SetGsiLevel gsi up) = false
mends g v b AcceptInterrupt = false
mends g v b HandleEoi = false
mends g v b (WriteTpr x) = false
mends g v b (Receive u level) = false

-- those, and a level request of the vector, whoever asks for it
abbrev pub heals : ℕ → Board → Call → Bool
heals g b c =
    is_level_of (vector_of (entry_at b.ioapic g).word) (asked b c) || mends g (vector_of (entry_at b.ioapic g).word) b c

-- a call heals a lost line if it is one of these, and no other call does: the line may fall and rise, the guest may accept and end what it will
abbrev pub HealedExactly : Type 0
HealedExactly = (b : Board) (c : Call) (g : ℕ) → BoardRules b → Tells b → g < 24 → is_lost g b ≡ true → is_lost g (next b c) ≡ not (heals g b c)

-- so it stays lost over any calls of which none is
unfoldable pub healed_over : ℕ → Board → List Call → Bool
healed_over g b [] = false
healed_over g b (c ∷ cs) = heals g b c || healed_over g (next b c) cs

abbrev pub StaysLost : Type 0
StaysLost = (b : Board) (cs : List Call) (g : ℕ) → BoardRules b → Tells b → g < 24 → is_lost g b ≡ true → healed_over g b cs ≡ false → is_lost g (run b cs) ≡ true

-- ---- the whole way

-- a held line is never forgotten between its device and the guest: after any calls on a new board, an entry that is level, fit to be sent and has its line up is in
-- flight, and its vector is requested or in service with its trigger bit set, unless it was lost by one of the two
abbrev pub NeverForgotten : Type 0
NeverForgotten =
    (cs : List Call) (g : ℕ)
    → g < 24
    → is_fit (entry_at (run new_board cs).ioapic g).word ≡ true
    → is_level (entry_at (run new_board cs).ioapic g).word ≡ true
    → (entry_at (run new_board cs).ioapic g).input_level ≡ true
    → (remote_irr (entry_at (run new_board cs).ioapic g).word ≡ true)
    × (trace (vector_of (entry_at (run new_board cs).ioapic g).word) (run new_board cs).apic
    ≡ not (lost_over (vector_of (entry_at (run new_board cs).ioapic g).word) new_board cs false))
