-- The pair in scripts (document 02, T-02): it has the rule that field 16 chooses, or rule 1 if there is none, to the script's end; after every field of every script it keeps that
-- rule; and by rules 1 and 2 no slave request that counts goes unheard there.
use Rattle.std.specs.Prelude.{ℕ, true, List, [], ◌∷◌, ◌≡◌}
use Rattle.vpic_chip.specs.Chip.{counts, pending_line}
use Rattle.vpic.specs.Words.{PicState}
use Rattle.vpic.specs.Pair.{rule_number, is_cascade, Keeps}
use Rattle.vpic_theorems.specs.Rule.{Clear, Heard}
use Rattle.script_format.specs.declared.Call.{Call}
use Rattle.script_machine.specs.declared.Used.{Used}
use Rattle.script_machine.specs.Machine.{Machine, unused, new_machine}
use Rattle.script_machine.specs.Run.{calls_from, after_calls, run_of}
use Rattle.script_theorems.specs.Parts.{pic_part, by_part}
use Rattle.script_theorems.specs.Runs.{in_time}

-- the rule that calls choose: the one of the first of fields 10 to 16, if that is a 16; else it stays
unfoldable pub rule_chosen : ℕ → List Call → ℕ
rule_chosen rule [] = rule
rule_chosen rule (c ∷ cs) = by_part (pic_part c) (λ d. rule) (λ chosen. rule_number chosen) (rule_chosen rule cs)

-- the pair has it after them, if none is late, as in every run (`InTime`)
abbrev pub PairRule : Type 0
PairRule =
    (used : Used) (m : Machine) (cs : List Call)
    → in_time used cs ≡ true
    → (after_calls m cs).pic.rule ≡ rule_chosen m.pic.rule cs

-- the pair after the first a fields of a script
abbrev pub pair_after : List ℕ → ℕ → PicState
pair_after s a = (run_of s new_machine 0 a).machine.pic

-- it has the rule that was chosen, and without a choice rule 1 (document 02, T-14)
abbrev pub ScriptRule : Type 0
ScriptRule = (s : List ℕ) (a : ℕ) → (pair_after s a).rule ≡ rule_chosen 1 (calls_from s unused 0 a)

-- it keeps its rule: by rules 1 and 2 the master's request 2 is set exactly when some slave request counts
abbrev pub PairKeeps : Type 0
PairKeeps = (s : List ℕ) (a : ℕ) → Keeps (pair_after s a)

-- so by rules 1 and 2, if a slave request counts there and nothing on the master stands before its line 2, a claim answers the slave's highest request that counts
abbrev pub SlaveHeardInScripts : Type 0
SlaveHeardInScripts =
    (s : List ℕ) (a j : ℕ)
    → is_cascade (pair_after s a) ≡ true
    → counts (pair_after s a).slave j ≡ true
    → Clear (pair_after s a).master
    → Heard (pair_after s a) (pending_line (pair_after s a).slave)
