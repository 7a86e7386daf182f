-- A field that comes too late (document 02, T-01 and T-02): what a chip is, the I/O APIC's version or the pair's rule, is chosen before any other field of that chip is
-- performed, refused or not. So whether a field is bad depends on those before it, by a flag for each of the two: was the chip used?
use Rattle.std.specs.Prelude.{ℕ, Bool, true, false, cond, ◌&&◌, List, Option, Some, None, Result, Ok, Err}
use Rattle.script_format.specs.declared.Chip.{Chip}
use Rattle.script_format.specs.declared.Chip.TheVariants.{IoApic, Pic, LocalApic, Board}
use Rattle.script_format.specs.declared.Call.{Call}
use Rattle.script_format.specs.declared.Field.{Field}
use Rattle.script_format.specs.declared.BadField.{BadField}
use Rattle.script_format.specs.Chips.{chip_of, is_choice}
use Rattle.script_format.specs.Fields.{Bad, End, field_at}
use Rattle.script_machine.specs.declared.Used.{Used}

-- of the local APIC and of the board nothing is chosen, and nothing remembered
abbrev pub was_used : Used → Chip → Bool
was_used used IoApic = used.io
was_used used Pic = used.pic
was_used used LocalApic = false
was_used used Board = false

abbrev pub now_used : Used → Chip → Used
now_used used IoApic = record { io = true; pic = used.pic }
now_used used Pic = record { io = used.io; pic = true }
now_used used LocalApic = used
now_used used Board = used

-- the flags after a call
abbrev pub used_after : Used → Call → Used
used_after used c = now_used used (chip_of c)

abbrev pub is_late : Used → Call → Bool
is_late used c = is_choice c && was_used used (chip_of c)

-- a field that is late is bad
abbrev pub taken : Used → Result (Option (Field Call)) BadField → Result (Option (Field Call)) BadField
taken used (Ok (Some f)) = cond (is_late used f.call) Bad (Ok (Some f))
taken used (Ok None) = End
taken used (Err b) = Bad

-- what stands at a place
unfoldable pub field_for : List ℕ → Used → ℕ → Result (Option (Field Call)) BadField
field_for s used at = taken used (field_at s at)
