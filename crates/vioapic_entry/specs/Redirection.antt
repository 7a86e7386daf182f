-- One entry of the I/O redirection table, and each rule as a function of one entry.
-- 82093AA: IOREDTBL (Interrupt Vector, Delivery Mode, Delivery Status, Remote IRR, Trigger Mode, Interrupt Mask). Beside its register
-- an entry has the level of its input line and a flag for a level interrupt that was deferred (`pending_level`, the Rust's name).
-- D-nn marks where a rule departs from the data sheet (docs/DIFFERENCES.md).
use Rattle.std.specs.Prelude.{ℕ, ◌+◌, ◌*◌, ◌/◌, ◌%◌, ◌^◌, Bool, true, false, not, cond, ◌&&◌, ◌||◌, eqb, leb, Option, Some, None}
use Rattle.utils.specs.Set.{bit}
use Rattle.types.specs.declared.Vector.{Vector}
use Rattle.vioapic_entry.specs.declared.Entry.{Entry}
use Rattle.vioapic_entry.specs.declared.IoApicInterrupt.{IoApicInterrupt}

-- ---- the fields of the register

-- Interrupt Vector, bits 7:0
abbrev pub vector_of : ℕ → Vector
vector_of w = record { 0 = w % 2 ^ 8 }

-- Delivery Mode, bits 10:8, is Fixed
abbrev pub is_fixed : ℕ → Bool
is_fixed w = eqb (w / 2 ^ 8 % 8) 0

-- Remote IRR, bit 14: the entry is in flight
abbrev pub remote_irr : ℕ → Bool
remote_irr w = bit w 14

-- Trigger Mode, bit 15, is level
abbrev pub is_level : ℕ → Bool
is_level w = bit w 15

-- Interrupt Mask, bit 16
abbrev pub is_masked : ℕ → Bool
is_masked w = bit w 16

-- the register with Remote IRR set, and with it clear
abbrev pub with_remote_irr : ℕ → ℕ
with_remote_irr w = w / 2 ^ 15 * 2 ^ 15 + 2 ^ 14 + w % 2 ^ 14

abbrev pub without_remote_irr : ℕ → ℕ
without_remote_irr w = w / 2 ^ 15 * 2 ^ 15 + w % 2 ^ 14

-- the vector can be delivered: 16 or more (D-43: 255 too)
abbrev pub is_deliverable : ℕ → Bool
is_deliverable w = leb 16 (w % 2 ^ 8)

abbrev pub has_vector : ℕ → Vector → Bool
has_vector w v = eqb (w % 2 ^ 8) v.0

-- fit to be sent: not masked, Fixed (D-39: the other delivery modes aren't sent), and the vector can be delivered
abbrev pub is_fit : ℕ → Bool
is_fit w = not (is_masked w) && is_fixed w && is_deliverable w

-- ---- an entry with one of its parts replaced

abbrev pub with_word : Entry → ℕ → Entry
with_word e w = record { word = w; pending_level = e.pending_level; input_level = e.input_level }

abbrev pub with_deferred : Entry → Bool → Entry
with_deferred e b = record { word = e.word; pending_level = b; input_level = e.input_level }

abbrev pub with_input : Entry → Bool → Entry
with_input e b = record { word = e.word; pending_level = e.pending_level; input_level = b }

-- ---- sending

-- an entry after a rule, and what it asks to inject
pub record EntryStep : Type 0 where
  pub entry : Entry
  pub answer : Option IoApicInterrupt

-- nothing is sent
abbrev pub quietly : Entry → EntryStep
quietly e = record { entry = e; answer = None }

-- the entry's interrupt is sent: its vector and trigger mode (D-40: the destination isn't named; D-38: bit 13, the polarity, isn't looked at)
abbrev pub sending : Entry → EntryStep
sending e = record { entry = e; answer = Some (record { vector = vector_of e.word; level_triggered = is_level e.word }) }

-- an unfit entry isn't sent. A level entry in flight is deferred, another level entry is in flight from now on (D-44), and an
-- edge entry is just sent
unfoldable pub send_entry : Entry → EntryStep
send_entry e =
    cond (is_fit e.word)
    (cond (is_level e.word)
    (cond (remote_irr e.word)
    (quietly (with_deferred e true))
    (sending (with_word e (with_remote_irr e.word))))
    (sending e))
    (quietly e)

-- ---- the line

-- up: deferred where it was up already and the entry is in flight, and sent otherwise (D-33: an edge entry whose line was up
-- already too)
unfoldable pub raise_entry : Entry → EntryStep
raise_entry e =
    cond (e.input_level && remote_irr e.word)
    (quietly (with_deferred (with_input e true) true))
    (send_entry (with_input e true))

-- down: what was deferred is forgotten
unfoldable pub lower_entry : Entry → EntryStep
lower_entry e = quietly (with_deferred (with_input e false) false)

abbrev pub move_line : Entry → Bool → EntryStep
move_line e up = cond up (raise_entry e) (lower_entry e)

-- ---- EOI

-- an EOI of the vector ends this entry: of that vector, level, in flight
abbrev pub awaits : Vector → Entry → Bool
awaits v e = has_vector e.word v && is_level e.word && remote_irr e.word

-- version 0x11: Remote IRR goes. With the line up the entry is sent again, and what was deferred stays so; else, if something
-- was deferred, it is sent for that (D-45)
unfoldable pub end_entry : Entry → EntryStep
end_entry e =
    cond e.input_level
    (send_entry (with_word e (without_remote_irr e.word)))
    (cond e.pending_level
    (send_entry (with_deferred (with_word e (without_remote_irr e.word)) false))
    (quietly (with_word e (without_remote_irr e.word))))

-- version 0x20 (I/O Controller Hub, EOI register): Remote IRR and what was deferred go, and with the line up or something
-- deferred the entry is sent again (D-45 too)
unfoldable pub end_entry20 : Entry → EntryStep
end_entry20 e =
    cond (e.input_level || e.pending_level) (send_entry (with_deferred (with_word e (without_remote_irr e.word)) false))
    (quietly (with_deferred (with_word e (without_remote_irr e.word)) false))

-- ---- the guest's writes, version 0x11

-- the low word of the register, Remote IRR apart
abbrev pub low_part : ℕ → ℕ
low_part w = without_remote_irr (w % 2 ^ 32)

-- the low word written is the one that is there, Remote IRR apart
abbrev pub same_low : ℕ → ℕ → Bool
same_low w x = eqb (low_part w) (without_remote_irr x)

-- another low word, as written (D-35: Delivery Status, bit 12, too; D-41: the reserved bits 31:17 too), with Remote IRR clear
abbrev pub replace_low : ℕ → ℕ → ℕ
replace_low w x = w / 2 ^ 32 * 2 ^ 32 + without_remote_irr x

-- another high word, as written (D-42: the reserved bits 55:32 of the register too)
abbrev pub replace_high : ℕ → ℕ → ℕ
replace_high w x = x * 2 ^ 32 + w % 2 ^ 32

-- a masked entry has nothing deferred
abbrev pub settled : Entry → Entry
settled e = cond (is_masked e.word) (with_deferred e false) e

-- the same low word changes nothing, and another one ends the flight (D-32) and forgets what was deferred (D-46: a line that
-- is up isn't sent then)
unfoldable pub write_low : Entry → ℕ → Entry
write_low e x =
    settled (cond (same_low e.word x) e (with_deferred (with_word e (replace_low e.word x)) false))

unfoldable pub write_high : Entry → ℕ → Entry
write_high e x = with_word e (replace_high e.word x)

-- ---- the guest's writes, version 0x20 (document 02, T-08); the high word is written as above

-- Delivery Status, bit 12, is read-only: it isn't written, and reads 0 whatever the register holds
abbrev pub without_status : ℕ → ℕ
without_status w = w / 2 ^ 13 * 2 ^ 13 + w % 2 ^ 12

-- the low word written is the one that is there, Delivery Status and Remote IRR apart
abbrev pub same_low20 : ℕ → ℕ → Bool
same_low20 w x = same_low (without_status w) (without_status x)

-- another low word. Remote IRR is read-only: it stays as it is with a level word. With an edge word it is clear
abbrev pub keeps_flight : ℕ → ℕ → Bool
keeps_flight w x = is_level x && remote_irr w

abbrev pub replace_low20 : ℕ → ℕ → ℕ
replace_low20 w x =
    cond (keeps_flight w x) (with_remote_irr (replace_low w (without_status x))) (replace_low w (without_status x))

-- what was deferred stays with the same low word, unless that is masked
abbrev pub keeps_deferred : ℕ → ℕ → Bool
keeps_deferred w x = same_low20 w x && not (is_masked x)

unfoldable pub store_low20 : Entry → ℕ → Entry
store_low20 e x = with_word (cond (keeps_deferred e.word x) e (with_deferred e false)) (replace_low20 e.word x)

-- a level entry whose line is up and that isn't in flight
abbrev pub is_owed : Entry → Bool
is_owed e = is_level e.word && not (remote_irr e.word) && e.input_level

-- the low word is stored, and the entry is sent if it is owed that then
unfoldable pub write_low20 : Entry → ℕ → EntryStep
write_low20 e x = cond (is_owed (store_low20 e x)) (send_entry (store_low20 e x)) (quietly (store_low20 e x))
