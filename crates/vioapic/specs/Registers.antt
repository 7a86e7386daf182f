-- The registers behind the selector and the window.
-- 82093AA: IOREGSEL (offset 0x00), IOWIN (offset 0x10), IOAPICID (0x00), IOAPICVER (0x01), IOAPICARB (0x02), IOREDTBL (0x10 to
-- 0x3F, the low word of each entry before its high word). I/O Controller Hub: EOI register (offset 0x40, version 0x20).
use Rattle.std.specs.Prelude.{ℕ, ◌-◌, ◌/◌, ◌%◌, ◌^◌, Bool, cond, ◌&&◌, eqb, leb, Option, Some, None, Result, Ok}
use Rattle.vioapic_entry.specs.Redirection.{EntryStep, quietly, without_status, write_low, write_high, write_low20}
use Rattle.vioapic_entry.specs.declared.Entry.{Entry}
use Rattle.vioapic_entry.specs.declared.IoApicInterrupt.{IoApicInterrupt}
use Rattle.vioapic.specs.State.{IoApicState}
use Rattle.vioapic.specs.Table.{Ending, is_version20, entry_at, put, end_of_every}
use Rattle.vioapic.specs.declared.Written.{Written}
use Rattle.vioapic.specs.declared.Written.TheVariants.{Done, Sent, EndedAll}
use Rattle.vioapic.specs.declared.Eoi.{Eoi}
use Rattle.vioapic.specs.declared.Eoi.TheVariants as eoi
use Rattle.types.specs.declared.Refusal.{Refusal}

-- a state after a write, and the write's answer
pub record Writing : Type 0 where
  pub state : IoApicState
  pub answer : Result Written Refusal

abbrev pub writing : IoApicState → Result Written Refusal → Writing
writing s r = record { state = s; answer = r }

abbrev pub done : IoApicState → Writing
done s = writing s (Ok Done)

-- ---- the selected register

-- the selector names a word of the redirection table
abbrev pub is_entry_word : ℕ → Bool
is_entry_word sel = leb 0x10 sel && leb sel 0x3f

-- of this entry
abbrev pub entry_of : ℕ → ℕ
entry_of sel = (sel - 0x10) / 2

-- and the low word of it
abbrev pub is_low : ℕ → Bool
is_low sel = eqb (sel % 2) 0

-- IOAPICVER: 24 entries, and the version
abbrev pub version_word : ℕ → ℕ
version_word version = cond (eqb version 0x20) 0x00170020 0x00170011

-- IOAPICID and IOAPICARB (D-36, D-37: fixed), IOAPICVER; any other register reads 0
unfoldable pub read_fixed : ℕ → ℕ → ℕ
read_fixed version sel =
    cond (eqb sel 0) 0x01000000
    (cond (eqb sel 1) (version_word version)
    (cond (eqb sel 2) 0x01000000
    0))

-- an entry's word, by version
abbrev pub read_low : Bool → ℕ → ℕ
read_low version20 w = cond version20 (without_status w) w

unfoldable pub read_word : Bool → ℕ → Entry → ℕ
read_word version20 sel e = cond (is_low sel) (read_low version20 (e.word % 2 ^ 32)) (e.word / 2 ^ 32)

-- IOWIN is read
unfoldable pub read_selected : IoApicState → ℕ
read_selected s =
    cond (is_entry_word s.selector)
    (read_word (is_version20 s) s.selector (entry_at s (entry_of s.selector)))
    (read_fixed s.version s.selector)

-- an entry's word is written, by version: in version 0x20 a low word may send the entry
unfoldable pub write_word : Bool → ℕ → Entry → ℕ → EntryStep
write_word version20 sel e x =
    cond (is_low sel) (cond version20 (write_low20 e x) (quietly (write_low e x))) (quietly (write_high e x))

-- what that answers to the write
abbrev pub written_send : Option IoApicInterrupt → Written
written_send None = Done
written_send (Some i) = Sent i

abbrev pub entry_written : IoApicState → ℕ → EntryStep → Writing
entry_written s g r = writing (put s g r.entry) (Ok (written_send r.answer))

-- IOWIN is written: only the redirection table can be (D-36)
unfoldable pub write_selected : IoApicState → ℕ → Writing
write_selected s x =
    cond (is_entry_word s.selector)
    (entry_written s (entry_of s.selector) (write_word (is_version20 s) s.selector (entry_at s (entry_of s.selector)) x))
    (done s)

-- ---- the EOI register

-- what an EOI of version 0x20 answers to a write
abbrev pub written_by : Option Eoi → Written
written_by None = Done
written_by (Some (eoi.Ended e)) = Done
written_by (Some (eoi.EndedAll e)) = EndedAll e

abbrev pub eoi_written : Ending → Writing
eoi_written r = writing r.state (Ok (written_by r.answer))

-- it is written, in version 0x20, which alone has it: an EOI of the low byte's vector
unfoldable pub write_eoi : IoApicState → ℕ → Writing
write_eoi s x = cond (is_version20 s) (eoi_written (end_of_every s (record { 0 = x % 2 ^ 8 }))) (done s)

-- ---- the memory map

abbrev pub with_selector : IoApicState → ℕ → IoApicState
with_selector s x = record {
  base = s.base;
  size = s.size;
  version = s.version;
  selector = x;
  in_flight = s.in_flight;
  entries = s.entries;
}

-- a register is read; any other offset reads 0
unfoldable pub read_at : IoApicState → ℕ → ℕ
read_at s offset = cond (eqb offset 0) s.selector (cond (eqb offset 0x10) (read_selected s) 0)

-- and written: IOREGSEL takes the value whole (D-34), and a write at any other offset is ignored
unfoldable pub write_at : IoApicState → ℕ → ℕ → Writing
write_at s offset x =
    cond (eqb offset 0) (done (with_selector s x))
    (cond (eqb offset 0x10) (write_selected s x)
    (cond (eqb offset 0x40) (write_eoi s x)
    (done s)))
