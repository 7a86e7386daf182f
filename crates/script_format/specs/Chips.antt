-- Which chip a call is of, and whether it chooses what that chip is (fields 06 and 16, document 02, T-01 and T-02). What is said elsewhere of a script's calls by
-- chip follows from these two.
use Rattle.std.specs.Prelude.{Bool, true, false}
use Rattle.script_format.specs.declared.Chip.{Chip}
use Rattle.script_format.specs.declared.Chip.TheVariants as chip
use Rattle.script_format.specs.declared.Call.{Call}
use Rattle.script_format.specs.declared.Call.TheVariants.{Io, IoVersion, Pic, PicRule, Apic, Board}

-- fields 01 to 06, 10 to 16, 20 to 24, 30 to 35
abbrev pub chip_of : Call → Chip
chip_of (Io c) = chip.IoApic
chip_of (IoVersion version) = chip.IoApic
chip_of (Pic c) = chip.Pic
chip_of (PicRule rule) = chip.Pic
chip_of (Apic c) = chip.LocalApic
chip_of (Board c) = chip.Board

abbrev pub is_choice : Call → Bool
is_choice (Io c) = false
is_choice (IoVersion version) = true
is_choice (Pic c) = false
is_choice (PicRule rule) = true
is_choice (Apic c) = false
is_choice (Board c) = false

abbrev pub same : Chip → Chip → Bool
same chip.IoApic chip.IoApic = true
same chip.IoApic chip.Pic = false
same chip.IoApic chip.LocalApic = false
same chip.IoApic chip.Board = false
same chip.Pic chip.IoApic = false
same chip.Pic chip.Pic = true
same chip.Pic chip.LocalApic = false
same chip.Pic chip.Board = false
same chip.LocalApic chip.IoApic = false
same chip.LocalApic chip.Pic = false
same chip.LocalApic chip.LocalApic = true
same chip.LocalApic chip.Board = false
same chip.Board chip.IoApic = false
same chip.Board chip.Pic = false
same chip.Board chip.LocalApic = false
same chip.Board chip.Board = true
