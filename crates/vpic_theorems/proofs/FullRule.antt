-- Every call on a pair of the full profile keeps the cascade rule, and the profile. Assumes nothing.
use mathlib.Core.Path.{◌≡◌, refl, ap, ◌∙◌}
use mathlib.Core.Bool.{true}
use mathlib.Core.List.{List, [], ◌∷◌}
use Prim.Native.Nat.{ℕ}
use Rattle.vpic_priority.specs.Ring.{first_rank, first_by}
use Rattle.vpic_chip.specs.Chip.{opened, counts, pending_line, asks}
use Rattle.vpic.specs.declared.PicRule.TheVariants.{Full}
use Rattle.vpic.specs.Words.{PicState}
use Rattle.vpic.specs.Pair.{drives, rule_in, is_cascade, new_state}
use Rattle.vpic_theorems.specs.Statements.{Call, outcome}
use Rattle.vpic_theorems.specs.Rule.{run}
use Rattle.vpic_theorems.specs.Rotation.{FullKeeps, FullCallsKeep, FullRunsKeep}
use Rattle.vpic_theorems.proofs.Kept.{calls_kept}
use Rattle.vpic_theorems.proofs.Rule.{calls_keep}

-- rule 2 is a cascade rule
is_cascade_lem : (p : PicState) → p.rule ≡ 2 → is_cascade p ≡ true
is_cascade_lem p r = ap (λ (n : ℕ). drives (rule_in n)) r

pub full_calls_keep : FullCallsKeep
full_calls_keep p c h =
    let q = (outcome p c).state in
    let k = calls_kept p c in
    let r : q.rule ≡ 2 = k.rule ∙ h.rule in
    record { rule = r; master = k.master.1 ∙ h.master; slave = k.slave.1 ∙ h.slave; keeps = calls_keep p c (λ e. h.keeps) (is_cascade_lem q r) }

runs : (p : PicState) (l : List Call) → FullKeeps p → FullKeeps (run p l)
runs p [] h = h
runs p (c ∷ l) h = runs (outcome p c).state l (full_calls_keep p c h)

pub full_runs_keep : FullRunsKeep
unfolding new_state opened asks pending_line counts first_rank first_by
full_runs_keep l = runs (new_state Full) l (record { rule = refl; master = refl; slave = refl; keeps = refl })
