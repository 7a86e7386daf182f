-- The redirection table: what is done to the entry of a GSI, and to the entries that an EOI ends.
-- 82093AA: IOREDTBL (24 entries), interrupt inputs INTIN0 to INTIN23, the EOI message and Remote IRR.
-- I/O Controller Hub: EOI register (version 0x20).
use Rattle.std.specs.Prelude.{ℕ, suc, Bool, true, false, cond, ◌&&◌, List, [], ◌∷◌, eqb, ltb, get_or, set, Option, Some, None}
use Rattle.utils.specs.Set.{bit, with, without, set_of, first}
use Rattle.types.specs.Counters.{entry_index}
use Rattle.types.specs.declared.Gsi.{Gsi}
use Rattle.types.specs.declared.Vector.{Vector}
use Rattle.vioapic_entry.specs.Answers.{is_routed}
use Rattle.vioapic_entry.specs.Redirection.{EntryStep, vector_of, remote_irr, is_fit, awaits, send_entry, move_line, end_entry, end_entry20}
use Rattle.vioapic_entry.specs.declared.Entry.{Entry}
use Rattle.vioapic_entry.specs.declared.IoApicInterrupt.{IoApicInterrupt}
use Rattle.vioapic.specs.State.{IoApicState}
use Rattle.vioapic.specs.declared.Eoi.{Eoi}
use Rattle.vioapic.specs.declared.Eoi.TheVariants.{Ended, EndedAll}

-- a state after a call, and the call's answer
pub record Routing : Type 0 where
  pub state : IoApicState
  pub answer : Option IoApicInterrupt

pub record Ending : Type 0 where
  pub state : IoApicState
  pub answer : Option Eoi

abbrev pub routing : IoApicState → Option IoApicInterrupt → Routing
routing s r = record { state = s; answer = r }

abbrev pub ending : IoApicState → Option Eoi → Ending
ending s r = record { state = s; answer = r }

-- version 0x20; any other number is 0x11
abbrev pub is_version20 : IoApicState → Bool
is_version20 s = eqb s.version 0x20

-- ---- entries

-- a new entry: masked, the line down, nothing deferred
abbrev pub new_entry : Entry
new_entry = record { word = 0x10000; pending_level = false; input_level = false }

-- what stands for an entry past the table, where no rule looks
abbrev pub no_entry : Entry
no_entry = record { word = 0; pending_level = false; input_level = false }

-- entry g
abbrev pub entry_at : IoApicState → ℕ → Entry
entry_at s g = get_or s.entries g no_entry

-- the state with other entries, and with another word of lines in flight
abbrev pub with_entries : IoApicState → List Entry → IoApicState
with_entries s es = record {
  base = s.base;
  size = s.size;
  version = s.version;
  selector = s.selector;
  in_flight = s.in_flight;
  entries = es;
}

abbrev pub with_flight : IoApicState → ℕ → IoApicState
with_flight s n = record {
  base = s.base;
  size = s.size;
  version = s.version;
  selector = s.selector;
  in_flight = n;
  entries = s.entries;
}

-- that word where Remote IRR of entry g was, and is: bit g moves with it, and no other bit does
abbrev pub noted : ℕ → ℕ → Bool → Bool → ℕ
noted n g true true = n
noted n g true false = without n g
noted n g false true = with n g
noted n g false false = n

-- the state with entry g replaced
abbrev pub put : IoApicState → ℕ → Entry → IoApicState
put s g e =
    with_flight (with_entries s (set s.entries g e)) (noted s.in_flight g (remote_irr (entry_at s g).word) (remote_irr e.word))

-- ---- lines

-- entry g takes a step
abbrev pub route_at : IoApicState → ℕ → EntryStep → Routing
route_at s g r = routing (put s g r.entry) r.answer

-- a GSI without an entry: nothing happens
abbrev pub unrouted : IoApicState → Routing
unrouted s = routing s None

-- a GSI's entry is sent, its line left as it is
unfoldable pub interrupt_for_entry : IoApicState → Gsi → Routing
interrupt_for_entry s gsi =
    cond (ltb (entry_index gsi) 24) (route_at s (entry_index gsi) (send_entry (entry_at s (entry_index gsi)))) (unrouted s)

-- a GSI's line goes up or down
unfoldable pub set_level : IoApicState → Gsi → Bool → Routing
set_level s gsi up =
    cond (ltb (entry_index gsi) 24) (route_at s (entry_index gsi) (move_line (entry_at s (entry_index gsi)) up)) (unrouted s)

-- the vector of an entry that is fit to be sent
abbrev pub vector_of_entry : ℕ → Option Vector
vector_of_entry w = cond (is_fit w) (Some (vector_of w)) None

-- the vector programmed for a GSI
unfoldable pub vector_for : IoApicState → Gsi → Option Vector
vector_for s gsi = cond (ltb (entry_index gsi) 24) (vector_of_entry (entry_at s (entry_index gsi)).word) None

-- ---- EOIs, by the word of lines in flight (by the table, as document 01 has them: Agreement.antt)

-- an EOI of v ends entry g: its line is in flight, and its register awaits that EOI
abbrev pub ends : Vector → IoApicState → ℕ → Bool
ends v s g = bit s.in_flight g && awaits v (entry_at s g)

-- the lowest entry that it ends, or 24
unfoldable pub first_awaiting : IoApicState → Vector → ℕ
first_awaiting s v = first 24 (ends v s)

abbrev pub end_at : IoApicState → ℕ → Ending
end_at s g =
    ending (put s g (end_entry (entry_at s g)).entry) (Some (Ended (record { gsi = record { 0 = g }; pending = (end_entry (entry_at s g)).answer })))

-- version 0x11: that entry ends (D-31: and no other one)
unfoldable pub end_of_entry : IoApicState → Vector → Ending
end_of_entry s v =
    cond (ltb (first_awaiting s v) 24) (end_at s (first_awaiting s v)) (ending s None)

-- version 0x20: each of them ends
abbrev pub end_each : Vector → IoApicState → ℕ → Entry → Entry
end_each v s g e = cond (ends v s g) (end_entry20 e).entry e

-- and its line is in flight again as its Remote IRR is
abbrev pub flies_on : Vector → IoApicState → ℕ → Bool
flies_on v s g = cond (ends v s g) (remote_irr (end_entry20 (entry_at s g)).entry.word) (bit s.in_flight g)

-- the GSIs of those among them that are sent again
abbrev pub sent_by : Vector → IoApicState → ℕ → Bool
sent_by v s g = ends v s g && is_routed (end_entry20 (entry_at s g)).answer

abbrev pub every_answer : ℕ → ℕ → Option Eoi
every_answer cleared sent = cond (eqb cleared 0) None (Some (EndedAll (record { cleared = cleared; sent = sent })))

-- a change of each entry, which knows its number
abbrev pub map_entries : (ℕ → Entry → Entry) → ℕ → List Entry → List Entry
map_entries f g [] = []
map_entries f g (e ∷ es) = f g e ∷ map_entries f (suc g) es

unfoldable pub end_of_every : IoApicState → Vector → Ending
end_of_every s v =
    ending
    (with_flight (with_entries s (map_entries (end_each v s) 0 s.entries)) (set_of 24 (flies_on v s)))
    (every_answer (set_of 24 (ends v s)) (set_of 24 (sent_by v s)))

-- the choice by version
unfoldable pub end_of : IoApicState → Vector → Ending
end_of s v = cond (is_version20 s) (end_of_every s v) (end_of_entry s v)
