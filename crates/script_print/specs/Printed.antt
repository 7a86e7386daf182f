-- What the program prints (document 01, "Scripts"): one definition, from a script's bytes to the output's. A script of more than 65,536 bytes isn't run ("Refusal numbers", 7).
use Rattle.std.specs.Prelude.{ℕ, zero, suc, ◌-◌, cond, List, [], ◌++◌, ltb, length, Ok, Err}
use Rattle.reply_text.specs.Text.{line, bad_line, too_long_line}
use Rattle.script_machine.specs.declared.Stop.{Stop}
use Rattle.script_machine.specs.declared.Stop.TheVariants as stop
use Rattle.script_machine.specs.Machine.{Machine, new_machine}
use Rattle.script_machine.specs.Run.{Said, step_of, run_of}

abbrev pub limit : ℕ
limit = 65536

-- a run that ends at a bad field prints the place of its tag
abbrev pub stop_text : Stop → ℕ → List ℕ
stop_text stop.Allowance place = []
stop_text stop.BadField place = bad_line place
stop_text stop.End place = []

-- what a step at a place prints, and what is printed after it: a field that was performed has its line, and nothing comes after the end
abbrev pub said_text : Said → ℕ → List ℕ → List ℕ
said_text (Ok did) place rest = line did.tag did.reply ++ rest
said_text (Err why) place rest = stop_text why place

-- what n steps print, from a place on
unfoldable pub steps_text : List ℕ → Machine → ℕ → ℕ → List ℕ
steps_text s m at zero = []
steps_text s m at (suc n) = said_text (step_of s m at).said at (steps_text s (step_of s m at).machine (step_of s m at).next.at n)

-- what is printed from a place on: every field takes a byte or more, so that the last step is one at which the run ends
unfoldable pub lines_from : List ℕ → Machine → ℕ → List ℕ
lines_from s m at = steps_text s m at (suc (length s - at))

-- all that, from the start of a script, on a machine
abbrev pub printed_from : List ℕ → Machine → List ℕ
printed_from s m = cond (ltb limit (length s)) too_long_line (lines_from s m 0)

-- what the program prints: on a new machine
unfoldable pub printed : List ℕ → List ℕ
printed s = printed_from s new_machine

-- the machine after it: a run that is allowed more fields than there can be
abbrev pub machine_after : List ℕ → Machine → Machine
machine_after s m = cond (ltb limit (length s)) m (run_of s m 0 (suc (length s))).machine
