-- The pair in scripts, from the theorems about its calls. Assumes nothing.
use Prim.Native.Nat.{ℕ}
use mathlib.Core.Bool.{true, not, ◌&&◌}
use mathlib.Core.List.{List, [], ◌∷◌}
use mathlib.Core.Path.{◌≡◌, refl, ap, ◌∙◌}
use native.Mathlib.Omega.{arith}
use Rattle.types.specs.Reply.{Outcome}
use Rattle.vpic.specs.Words.{PicState}
use Rattle.vpic.specs.declared.PicRule.TheVariants.{Cascade}
use Rattle.vpic.specs.Pair.{new_state, Keeps}
use Rattle.vpic_theorems.proofs.Rule.{new_keeps, calls_keep, calls_keep_number, slave_heard}
use Rattle.script_format.specs.declared.Call.{Call}
use Rattle.script_format.specs.declared.Call.TheVariants.{Io, IoVersion, Pic, PicRule, Apic, Board}
use Rattle.script_format.specs.declared.PicCall.{PicCall}
use Rattle.script_machine.specs.declared.Used.{Used}
use Rattle.script_machine.specs.Late.{used_after}
use Rattle.script_machine.specs.Machine.{Machine, unused, new_machine, pic_outcome, performed}
use Rattle.script_machine.specs.Run.{calls_from, after_calls}
use Rattle.script_theorems.specs.Runs.{in_time}
use Rattle.script_theorems.specs.Pairs.{rule_chosen, PairRule, pair_after, ScriptRule, PairKeeps, SlaveHeardInScripts}
use Rattle.script_theorems.proofs.Calls.{pic_call, as_call, later}
use Rattle.script_theorems.proofs.Runs.{in_time_lem}

-- ---- the rule chosen

kept_number : (p : PicState) (c : PicCall) → (pic_outcome p c).state.rule ≡ p.rule
kept_number p c = ap (λ (o : Outcome PicState). o.state.rule) (as_call p c) ∙ calls_keep_number p (pic_call c)

-- once the pair was used no rule is chosen
no_rule : (used : Used) (rule : ℕ) (cs : List Call) → used.pic ≡ true → in_time used cs ≡ true → rule_chosen rule cs ≡ rule
unfolding rule_chosen in_time
no_rule used rule [] u h = refl
no_rule used rule (Io c ∷ cs) u h = no_rule (used_after used (Io c)) rule cs u (later used (Io c) cs h)
no_rule used rule (IoVersion v ∷ cs) u h = no_rule (used_after used (IoVersion v)) rule cs u (later used (IoVersion v) cs h)
no_rule used rule (Pic c ∷ cs) u h = refl
no_rule used rule (PicRule n ∷ cs) u h = let p : not true && in_time (used_after used (PicRule n)) cs ≡ true = rw u at h in let z : ◌≡◌ {A = ℕ} 0 1 = cc in absurd (omega arith)
no_rule used rule (Apic c ∷ cs) u h = no_rule (used_after used (Apic c)) rule cs u (later used (Apic c) cs h)
no_rule used rule (Board c ∷ cs) u h = no_rule (used_after used (Board c)) rule cs u (later used (Board c) cs h)

pub pair_rule : PairRule
unfolding after_calls rule_chosen performed new_state
pair_rule used m [] h = refl
pair_rule used m (Io c ∷ cs) h = pair_rule (used_after used (Io c)) (performed m (Io c)).state cs (later used (Io c) cs h)
pair_rule used m (IoVersion v ∷ cs) h = pair_rule (used_after used (IoVersion v)) (performed m (IoVersion v)).state cs (later used (IoVersion v) cs h)
pair_rule used m (Pic c ∷ cs) h =
    pair_rule (used_after used (Pic c)) (performed m (Pic c)).state cs (later used (Pic c) cs h)
    ∙ no_rule (used_after used (Pic c)) (performed m (Pic c)).state.pic.rule cs refl (later used (Pic c) cs h)
    ∙ kept_number m.pic c
pair_rule used m (PicRule n ∷ cs) h =
    pair_rule (used_after used (PicRule n)) (performed m (PicRule n)).state cs (later used (PicRule n) cs h)
    ∙ no_rule (used_after used (PicRule n)) (performed m (PicRule n)).state.pic.rule cs refl (later used (PicRule n) cs h)
pair_rule used m (Apic c ∷ cs) h =
    pair_rule (used_after used (Apic c)) (performed m (Apic c)).state cs (later used (Apic c) cs h)
pair_rule used m (Board c ∷ cs) h =
    pair_rule (used_after used (Board c)) (performed m (Board c)).state cs (later used (Board c) cs h)

pub script_rule : ScriptRule
unfolding new_machine new_state
script_rule s a = pair_rule unused new_machine (calls_from s unused 0 a) (in_time_lem s unused 0 a)

-- ---- the rule kept

one_keeps : (m : Machine) (c : Call) → Keeps m.pic → Keeps (performed m c).state.pic
unfolding performed
one_keeps m (Io c) k = k
one_keeps m (IoVersion v) k = k
one_keeps m (Pic c) k = rw (as_call m.pic c) (calls_keep m.pic (pic_call c) k)
one_keeps m (PicRule rule) k = new_keeps rule
one_keeps m (Apic c) k = k
one_keeps m (Board c) k = k

all_keep : (m : Machine) (cs : List Call) → Keeps m.pic → Keeps (after_calls m cs).pic
unfolding after_calls
all_keep m [] k = k
all_keep m (c ∷ cs) k = all_keep (performed m c).state cs (one_keeps m c k)

new_machine_keeps : Keeps new_machine.pic
unfolding new_machine
new_machine_keeps = new_keeps Cascade

pub pair_keeps : PairKeeps
pair_keeps s a = all_keep new_machine (calls_from s new_machine.used 0 a) new_machine_keeps

pub slave_heard_in_scripts : SlaveHeardInScripts
slave_heard_in_scripts s a j rule waits clear = slave_heard (pair_after s a) j rule (pair_keeps s a) waits clear
