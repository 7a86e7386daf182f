-- The word of lines in flight agrees with the table on a new chip, and after every public call on a chip where it agreed. Where it
-- agrees an EOI is what document 01 says, which knows no such word and searches the table.
use Rattle.std.specs.Prelude.{ℕ, Bool, cond, ◌&&◌, List, map, ◌≡◌, ltb, length, get_or, None}
use Rattle.utils.specs.Set.{set_of, first}
use Rattle.types.specs.declared.Vector.{Vector}
use Rattle.vioapic_entry.specs.Answers.{is_routed}
use Rattle.vioapic_entry.specs.Redirection.{remote_irr, awaits, end_entry20}
use Rattle.vioapic_entry.specs.declared.Entry.{Entry}
use Rattle.vioapic.specs.State.{IoApicState}
use Rattle.vioapic.specs.Table.{Ending, ending, no_entry, entry_at, with_entries, with_flight, is_version20, end_at, every_answer, end_of}
use Rattle.vioapic.specs.IoApic.{chip_of}
use Rattle.vioapic.specs.Calls.{Call, next, run}

-- the set of the lines in flight: those whose entry has Remote IRR, level or not
abbrev pub in_flight_of : List Entry → ℕ
in_flight_of es = set_of 24 (λ g. remote_irr (get_or es g no_entry).word)

-- the word beside the table is that set, of a table of 24
pub record Agrees (s : IoApicState) : Type 0 where
  pub table : length s.entries ≡ 24
  pub word : s.in_flight ≡ in_flight_of s.entries

-- a new chip, in either version
abbrev pub NewAgrees : Type 0
NewAgrees = (version base size : ℕ) → Agrees (chip_of version base size)

-- after every public call
abbrev pub CallsAgree : Type 0
CallsAgree = (m : IoApicState) (c : Call) → Agrees m → Agrees (next m c)

-- and after a run of calls
abbrev pub RunsAgree : Type 0
RunsAgree = (m : IoApicState) (cs : List Call) → Agrees m → Agrees (run m cs)

-- ---- document 01's EOI

-- the lowest entry of the table that awaits it, or 24
unfoldable pub first_in_table : IoApicState → Vector → ℕ
first_in_table s v = first 24 (λ g. awaits v (entry_at s g))

-- version 0x11: it ends
unfoldable pub end_of_entry_in_table : IoApicState → Vector → Ending
end_of_entry_in_table s v =
    cond (ltb (first_in_table s v) 24) (end_at s (first_in_table s v)) (ending s None)

-- version 0x20: every entry that awaits it ends
abbrev pub end_each_in_table : Vector → Entry → Entry
end_each_in_table v e = cond (awaits v e) (end_entry20 e).entry e

abbrev pub sent_in_table : Vector → IoApicState → ℕ → Bool
sent_in_table v s g = awaits v (entry_at s g) && is_routed (end_entry20 (entry_at s g)).answer

-- the state with other entries, and with the word that agrees with them
abbrev pub agreeing : IoApicState → List Entry → IoApicState
agreeing s es = with_flight (with_entries s es) (in_flight_of es)

unfoldable pub end_of_every_in_table : IoApicState → Vector → Ending
end_of_every_in_table s v =
    ending
    (agreeing s (map (end_each_in_table v) s.entries))
    (every_answer (set_of 24 (λ g. awaits v (entry_at s g))) (set_of 24 (sent_in_table v s)))

unfoldable pub end_of_in_table : IoApicState → Vector → Ending
end_of_in_table s v = cond (is_version20 s) (end_of_every_in_table s v) (end_of_entry_in_table s v)

-- the two are one where the word agrees
abbrev pub EndsInTable : Type 0
EndsInTable = (s : IoApicState) (v : Vector) → Agrees s → end_of s v ≡ end_of_in_table s v
