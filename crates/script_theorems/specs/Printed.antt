-- The program's output (`printed` of the crate script_print), and runs: it prints a line for each field that a run performs, and where that ends, and a run that is allowed more
-- fields than bytes are left ends at the end or at a bad field. And document 01's own script, and last spring's (examples/last_spring.txt), computed from bytes to lines.
use Rattle.std.specs.Prelude.{ℕ, zero, suc, ◌-◌, ◌<◌, List, [], ◌∷◌, ◌++◌, ◌≡◌, refl, length, get_or}
use Rattle.utils.specs.Set as set
use Rattle.types.specs.declared.Reply.{Reply}
use Rattle.vioapic_entry.specs.Redirection as redirection
use Rattle.vioapic.specs.Table as table
use Rattle.vioapic.specs.Registers as window
use Rattle.vioapic.specs.IoApic as vioapic
use Rattle.vioapic.specs.Calls as ioapic
use Rattle.vpic_priority.specs.Ring as ring
use Rattle.vpic_chip.specs.Chip as chip
use Rattle.vpic.specs.Pair as pair
use Rattle.vlapic_regs.specs.Register as register
use Rattle.vlapic_regs.specs.Vectors as vectors
use Rattle.vlapic_requests.specs.Requests as requests
use Rattle.board.specs.Board as whole
use Rattle.board.specs.Calls as board
use Rattle.reply_text.specs.Text.{decimal_in, reply_text, line, bad_line}
use Rattle.script_format.specs.Format.{number_at, decoded}
use Rattle.script_format.specs.Fields.{field_at}
use Rattle.script_machine.specs.declared.Stop.TheVariants as stop
use Rattle.script_machine.specs.declared.Used.{Used}
use Rattle.script_machine.specs.Late.{used_after, field_for}
use Rattle.script_machine.specs.Machine as machine
use Rattle.script_machine.specs.Machine.{Machine, new_machine, performed}
use Rattle.script_machine.specs.Run.{by_field, step_of, run_of}
use Rattle.script_print.specs.Printed.{stop_text, steps_text, lines_from, printed}
use Rattle.script_theorems.specs.Runs.{answers_of}

-- ---- the output of a run

-- the tags of the fields that are performed: a field's is the byte at its place
unfoldable pub tags_from : List ℕ → Used → ℕ → ℕ → List ℕ
tags_from s used at zero = []
tags_from s used at (suc n) = by_field (field_for s used at) (λ call next. get_or s at 0 ∷ tags_from s (used_after used call) next n) [] []

-- a line for each
abbrev pub lines_of : List ℕ → List Reply → List ℕ
lines_of [] [] = []
lines_of [] (r ∷ rs) = []
lines_of (t ∷ ts) [] = []
lines_of (t ∷ ts) (r ∷ rs) = line t r ++ lines_of ts rs

-- what is printed from a place on is a line for each field of a run that is allowed more than there are bytes left, and the line of its end
abbrev pub PrintedByRun : Type 0
PrintedByRun =
    (s : List ℕ) (m : Machine) (at : ℕ)
    → lines_from s m at
    ≡ lines_of (tags_from s m.used at (suc (length s - at))) (answers_of s m at (suc (length s - at)))
    ++ stop_text (run_of s m at (suc (length s - at))).stop (run_of s m at (suc (length s - at))).next.at

-- and such a run ends at the end or at a bad field
abbrev pub EndsItself : Type 0
EndsItself = (s : List ℕ) (m : Machine) (at n : ℕ) → length s - at < n → (run_of s m at n).stop ≡ stop.Allowance → ⊥

-- ---- computed

-- document 01, "Scripts"
abbrev pub example : List ℕ
example =
    0x11 ∷ 0x0b ∷ 0x00 ∷ 0x01 ∷ 0x21 ∷ 0x00 ∷ 0x00 ∷ 0x00 ∷ 0x00 ∷ 0x00 ∷ 0x00 ∷ 0x00 ∷ 0x00 ∷ 0x00
    ∷ 0x12 ∷ 0x01 ∷ 0x00 ∷ 0x00
    ∷ 0x13 ∷ 0x00 ∷ 0x00
    ∷ 0x12 ∷ 0x01 ∷ 0x00 ∷ 0x10
    ∷ []

abbrev pub example_text : List ℕ
example_text =
    49 ∷ 49 ∷ 32 ∷ 48 ∷ 32 ∷ 45 ∷ 10  -- 11 0 -
    ∷ 49 ∷ 50 ∷ 32 ∷ 48 ∷ 32 ∷ 56 ∷ 44 ∷ 48 ∷ 44 ∷ 49 ∷ 10  -- 12 0 8,0,1
    ∷ 49 ∷ 51 ∷ 32 ∷ 48 ∷ 32 ∷ 45 ∷ 10  -- 13 0 -
    ∷ 49 ∷ 50 ∷ 32 ∷ 48 ∷ 32 ∷ 45 ∷ 10  -- 12 0 -
    ∷ []

pub example_prints : printed example ≡ example_text
unfolding ring.first_rank ring.first_by ring.above set.with set.without set.outside set.lowest set.highest set.last_set32 chip.opened chip.commanded chip.fed chip.command_read chip.read_shown chip.pulsed chip.counts chip.pending_line chip.pending_irq chip.asks chip.driven chip.acknowledged chip.acknowledge chip.unacknowledged pair.new_state pair.settled pair.latched pair.master_claim pair.slave_claim pair.claim_pending pair.claim_irq pair.restored pair.port_read pair.port_left pair.written_at pair.port_written new_machine machine.pic_outcome machine.local_outcome performed number_at decoded field_at field_for step_of steps_text lines_from printed line reply_text decimal_in
example_prints = refl

-- by version 0x11, lines 3 and 5 are held with one vector; only when line 3 is let go is line 5 heard
abbrev pub spring : List ℕ
spring =
    0x06 ∷ 0x01 ∷ 0x00 ∷ 0x11
    ∷ 0x16 ∷ 0x01 ∷ 0x00 ∷ 0x00
    ∷ 0x02 ∷ 0x11 ∷ 0x00 ∷ 0x04 ∷ 0x00 ∷ 0x00 ∷ 0xc0 ∷ 0xfe ∷ 0x00 ∷ 0x00 ∷ 0x00 ∷ 0x00 ∷ 0x16 ∷ 0x00 ∷ 0x00 ∷ 0x00 ∷ 0x00 ∷ 0x00 ∷ 0x00 ∷ 0x00
    ∷ 0x02 ∷ 0x11 ∷ 0x00 ∷ 0x04 ∷ 0x10 ∷ 0x00 ∷ 0xc0 ∷ 0xfe ∷ 0x00 ∷ 0x00 ∷ 0x00 ∷ 0x00 ∷ 0x41 ∷ 0x80 ∷ 0x00 ∷ 0x00 ∷ 0x00 ∷ 0x00 ∷ 0x00 ∷ 0x00
    ∷ 0x02 ∷ 0x11 ∷ 0x00 ∷ 0x04 ∷ 0x00 ∷ 0x00 ∷ 0xc0 ∷ 0xfe ∷ 0x00 ∷ 0x00 ∷ 0x00 ∷ 0x00 ∷ 0x1a ∷ 0x00 ∷ 0x00 ∷ 0x00 ∷ 0x00 ∷ 0x00 ∷ 0x00 ∷ 0x00
    ∷ 0x02 ∷ 0x11 ∷ 0x00 ∷ 0x04 ∷ 0x10 ∷ 0x00 ∷ 0xc0 ∷ 0xfe ∷ 0x00 ∷ 0x00 ∷ 0x00 ∷ 0x00 ∷ 0x41 ∷ 0x80 ∷ 0x00 ∷ 0x00 ∷ 0x00 ∷ 0x00 ∷ 0x00 ∷ 0x00
    ∷ 0x03 ∷ 0x02 ∷ 0x00 ∷ 0x03 ∷ 0x01
    ∷ 0x03 ∷ 0x02 ∷ 0x00 ∷ 0x05 ∷ 0x01
    ∷ 0x05 ∷ 0x01 ∷ 0x00 ∷ 0x41
    ∷ 0x05 ∷ 0x01 ∷ 0x00 ∷ 0x41
    ∷ 0x05 ∷ 0x01 ∷ 0x00 ∷ 0x41
    ∷ 0x01 ∷ 0x09 ∷ 0x00 ∷ 0x04 ∷ 0x10 ∷ 0x00 ∷ 0xc0 ∷ 0xfe ∷ 0x00 ∷ 0x00 ∷ 0x00 ∷ 0x00
    ∷ 0x03 ∷ 0x02 ∷ 0x00 ∷ 0x03 ∷ 0x00
    ∷ 0x05 ∷ 0x01 ∷ 0x00 ∷ 0x41
    ∷ 0x05 ∷ 0x01 ∷ 0x00 ∷ 0x41
    ∷ 0x03 ∷ 0x02 ∷ 0x00 ∷ 0x05 ∷ 0x00
    ∷ 0x05 ∷ 0x01 ∷ 0x00 ∷ 0x41
    ∷ 0x05 ∷ 0x01 ∷ 0x00 ∷ 0x41
    ∷ []

abbrev pub spring_text : List ℕ
spring_text =
    48 ∷ 54 ∷ 32 ∷ 48 ∷ 32 ∷ 45 ∷ 10  -- 06 0 -
    ∷ 49 ∷ 54 ∷ 32 ∷ 48 ∷ 32 ∷ 45 ∷ 10  -- 16 0 -
    ∷ 48 ∷ 50 ∷ 32 ∷ 48 ∷ 32 ∷ 45 ∷ 10  -- 02 0 -
    ∷ 48 ∷ 50 ∷ 32 ∷ 48 ∷ 32 ∷ 45 ∷ 10  -- 02 0 -
    ∷ 48 ∷ 50 ∷ 32 ∷ 48 ∷ 32 ∷ 45 ∷ 10  -- 02 0 -
    ∷ 48 ∷ 50 ∷ 32 ∷ 48 ∷ 32 ∷ 45 ∷ 10  -- 02 0 -
    ∷ 48 ∷ 51 ∷ 32 ∷ 48 ∷ 32 ∷ 54 ∷ 53 ∷ 44 ∷ 49 ∷ 10  -- 03 0 65,1
    ∷ 48 ∷ 51 ∷ 32 ∷ 48 ∷ 32 ∷ 54 ∷ 53 ∷ 44 ∷ 49 ∷ 10  -- 03 0 65,1
    ∷ 48 ∷ 53 ∷ 32 ∷ 48 ∷ 32 ∷ 51 ∷ 44 ∷ 54 ∷ 53 ∷ 44 ∷ 49 ∷ 10  -- 05 0 3,65,1
    ∷ 48 ∷ 53 ∷ 32 ∷ 48 ∷ 32 ∷ 51 ∷ 44 ∷ 54 ∷ 53 ∷ 44 ∷ 49 ∷ 10  -- 05 0 3,65,1
    ∷ 48 ∷ 53 ∷ 32 ∷ 48 ∷ 32 ∷ 51 ∷ 44 ∷ 54 ∷ 53 ∷ 44 ∷ 49 ∷ 10  -- 05 0 3,65,1
    ∷ 48 ∷ 49 ∷ 32 ∷ 48 ∷ 32 ∷ 52 ∷ 57 ∷ 50 ∷ 49 ∷ 55 ∷ 10  -- 01 0 49217
    ∷ 48 ∷ 51 ∷ 32 ∷ 48 ∷ 32 ∷ 45 ∷ 10  -- 03 0 -
    ∷ 48 ∷ 53 ∷ 32 ∷ 48 ∷ 32 ∷ 51 ∷ 10  -- 05 0 3
    ∷ 48 ∷ 53 ∷ 32 ∷ 48 ∷ 32 ∷ 53 ∷ 44 ∷ 54 ∷ 53 ∷ 44 ∷ 49 ∷ 10  -- 05 0 5,65,1
    ∷ 48 ∷ 51 ∷ 32 ∷ 48 ∷ 32 ∷ 45 ∷ 10  -- 03 0 -
    ∷ 48 ∷ 53 ∷ 32 ∷ 48 ∷ 32 ∷ 53 ∷ 10  -- 05 0 5
    ∷ 48 ∷ 53 ∷ 32 ∷ 48 ∷ 32 ∷ 45 ∷ 10  -- 05 0 -
    ∷ []

pub spring_prints : printed spring ≡ spring_text
unfolding ring.first_rank ring.first_by ring.above set.with set.without set.outside set.lowest set.highest set.last_set32 redirection.send_entry redirection.raise_entry redirection.lower_entry redirection.end_entry redirection.write_low redirection.write_high table.interrupt_for_entry table.set_level table.first_awaiting table.end_of_entry table.end_of table.vector_for window.read_fixed window.read_word window.read_selected window.write_word window.write_selected window.read_at window.write_at vioapic.assert_gsi vioapic.set_gsi_level vioapic.end_of_interrupt vioapic.vector_for_gsi vioapic.address_range vioapic.handle_read vioapic.handle_write ioapic.outcome ioapic.run new_machine machine.pic_outcome machine.local_outcome performed number_at decoded field_at field_for step_of steps_text lines_from printed line reply_text decimal_in
spring_prints = refl

-- one interrupt from its line to its EOI on the board (examples/board.txt): a line whose vector is of TPR's class waits until TPR is lowered; the acceptance of an edge-triggered message of a
-- higher class comes before its EOI, which is told to nobody; the line's EOI ends the entry in flight, and sends it again while it is up; a message below vector 16 is dropped
abbrev pub board_script : List ℕ
board_script =
    0x34 ∷ 0x11 ∷ 0x00 ∷ 0x04 ∷ 0x00 ∷ 0x00 ∷ 0xc0 ∷ 0xfe ∷ 0x00 ∷ 0x00 ∷ 0x00 ∷ 0x00 ∷ 0x16 ∷ 0x00 ∷ 0x00 ∷ 0x00 ∷ 0x00 ∷ 0x00 ∷ 0x00 ∷ 0x00
    ∷ 0x34 ∷ 0x11 ∷ 0x00 ∷ 0x04 ∷ 0x10 ∷ 0x00 ∷ 0xc0 ∷ 0xfe ∷ 0x00 ∷ 0x00 ∷ 0x00 ∷ 0x00 ∷ 0x41 ∷ 0x80 ∷ 0x00 ∷ 0x00 ∷ 0x00 ∷ 0x00 ∷ 0x00 ∷ 0x00
    ∷ 0x33 ∷ 0x01 ∷ 0x00 ∷ 0x4f
    ∷ 0x30 ∷ 0x02 ∷ 0x00 ∷ 0x03 ∷ 0x01
    ∷ 0x31 ∷ 0x00 ∷ 0x00
    ∷ 0x33 ∷ 0x01 ∷ 0x00 ∷ 0x30
    ∷ 0x31 ∷ 0x00 ∷ 0x00
    ∷ 0x35 ∷ 0x02 ∷ 0x00 ∷ 0x51 ∷ 0x00
    ∷ 0x35 ∷ 0x02 ∷ 0x00 ∷ 0x0f ∷ 0x00
    ∷ 0x31 ∷ 0x00 ∷ 0x00
    ∷ 0x32 ∷ 0x00 ∷ 0x00
    ∷ 0x32 ∷ 0x00 ∷ 0x00
    ∷ 0x31 ∷ 0x00 ∷ 0x00
    ∷ 0x30 ∷ 0x02 ∷ 0x00 ∷ 0x03 ∷ 0x00
    ∷ 0x32 ∷ 0x00 ∷ 0x00
    ∷ 0x32 ∷ 0x00 ∷ 0x00
    ∷ 0x31 ∷ 0x00 ∷ 0x00
    ∷ []

abbrev pub board_text : List ℕ
board_text =
    51 ∷ 52 ∷ 32 ∷ 48 ∷ 32 ∷ 45 ∷ 10  -- 34 0 -
    ∷ 51 ∷ 52 ∷ 32 ∷ 48 ∷ 32 ∷ 45 ∷ 10  -- 34 0 -
    ∷ 51 ∷ 51 ∷ 32 ∷ 48 ∷ 32 ∷ 45 ∷ 10  -- 33 0 -
    ∷ 51 ∷ 48 ∷ 32 ∷ 48 ∷ 32 ∷ 54 ∷ 53 ∷ 44 ∷ 49 ∷ 10  -- 30 0 65,1
    ∷ 51 ∷ 49 ∷ 32 ∷ 48 ∷ 32 ∷ 45 ∷ 10  -- 31 0 -
    ∷ 51 ∷ 51 ∷ 32 ∷ 48 ∷ 32 ∷ 45 ∷ 10  -- 33 0 -
    ∷ 51 ∷ 49 ∷ 32 ∷ 48 ∷ 32 ∷ 54 ∷ 53 ∷ 10  -- 31 0 65
    ∷ 51 ∷ 53 ∷ 32 ∷ 48 ∷ 32 ∷ 45 ∷ 10  -- 35 0 -
    ∷ 51 ∷ 53 ∷ 32 ∷ 48 ∷ 32 ∷ 45 ∷ 10  -- 35 0 -
    ∷ 51 ∷ 49 ∷ 32 ∷ 48 ∷ 32 ∷ 56 ∷ 49 ∷ 10  -- 31 0 81
    ∷ 51 ∷ 50 ∷ 32 ∷ 48 ∷ 32 ∷ 45 ∷ 10  -- 32 0 -
    ∷ 51 ∷ 50 ∷ 32 ∷ 48 ∷ 32 ∷ 56 ∷ 44 ∷ 56 ∷ 10  -- 32 0 8,8
    ∷ 51 ∷ 49 ∷ 32 ∷ 48 ∷ 32 ∷ 54 ∷ 53 ∷ 10  -- 31 0 65
    ∷ 51 ∷ 48 ∷ 32 ∷ 48 ∷ 32 ∷ 45 ∷ 10  -- 30 0 -
    ∷ 51 ∷ 50 ∷ 32 ∷ 48 ∷ 32 ∷ 56 ∷ 44 ∷ 48 ∷ 10  -- 32 0 8,0
    ∷ 51 ∷ 50 ∷ 32 ∷ 48 ∷ 32 ∷ 45 ∷ 10  -- 32 0 -
    ∷ 51 ∷ 49 ∷ 32 ∷ 48 ∷ 32 ∷ 45 ∷ 10  -- 31 0 -
    ∷ []

pub board_prints : printed board_script ≡ board_text
unfolding set.with set.without set.outside set.lowest set.highest set.last_set32 redirection.send_entry redirection.raise_entry redirection.lower_entry redirection.end_entry20 redirection.write_low redirection.store_low20 redirection.write_low20 redirection.write_high table.set_level table.end_of_every table.end_of window.write_word window.write_selected window.write_at whole.new_board whole.set_gsi_level whole.accept_interrupt whole.handle_eoi whole.write_tpr whole.handle_write whole.receive board.outcome requests.ranked requests.request requests.receive requests.accept requests.end_highest requests.write_tpr register.priority vectors.highest_from new_machine performed number_at decoded field_at field_for step_of steps_text lines_from printed line reply_text decimal_in
board_prints = refl

-- an empty script prints nothing, and one byte is a bad field
pub nothing_prints : printed [] ≡ []
unfolding field_at field_for step_of steps_text lines_from printed new_machine
nothing_prints = refl

pub byte_prints : printed (0x13 ∷ []) ≡ 98 ∷ 97 ∷ 100 ∷ 32 ∷ 48 ∷ 10 ∷ []  -- bad 0
unfolding field_at field_for step_of steps_text lines_from printed new_machine bad_line decimal_in
byte_prints = refl
