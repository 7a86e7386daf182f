-- What the program `states` prints of a step: the field's line, as the program `script` has it, and behind it the words of each chip after the step, a line a chip (their layouts:
-- include/sillwander.h). At a bad field there is its line alone, and at the end nothing.
use Rattle.std.specs.Prelude.{ℕ, List, ◌++◌}
use Rattle.reply_text.specs.Text.{words_line}
use Rattle.script_machine.specs.Run.{Said}
use Rattle.script_print.specs.Printed.{said_text}

-- the I/O APIC, the pair and the local APIC, then the board's I/O APIC and its local APIC
abbrev pub chips_text : List ℕ → List ℕ → List ℕ → List ℕ → List ℕ → List ℕ
chips_text io pair l bio bl = words_line io ++ (words_line pair ++ (words_line l ++ (words_line bio ++ words_line bl)))

-- a step at a place
abbrev pub state_text : Said → ℕ → List ℕ → List ℕ → List ℕ → List ℕ → List ℕ → List ℕ
state_text said place io pair l bio bl = said_text said place (chips_text io pair l bio bl)
