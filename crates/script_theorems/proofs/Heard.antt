-- Demand 3 for scripts, from demand 3 for the chip's calls. Assumes nothing.
use mathlib.Core.Path.{◌≡◌, refl, ap, ◌∙◌}
use mathlib.Core.List.{List, [], ◌∷◌}
use Prim.Native.Nat.{ℕ, ◌+◌}
use native.Mathlib.Nat.{zero-add}
use native.Mathlib.Omega.{arith}
use Rattle.types.specs.declared.Reply.{Reply}
use Rattle.vioapic_theorems.specs.Sends.{sent, sends}
use Rattle.vioapic_theorems.specs.Heard20.{eois_at}
use Rattle.vioapic_theorems.proofs.Keeps.{new_keeps_rules, calls_keep_rules, calls_keep_version}
use Rattle.vioapic_theorems.proofs.Demand.{heard_from_rules}
use Rattle.vioapic_theorems.proofs.Heard20.{heard_20}
use Rattle.vioapic.specs.State.{IoApicState}
use Rattle.vioapic.specs.IoApic.{version_number}
use Rattle.vioapic.specs.Calls.{Call as ChipCall, outcome, next, run}
use Rattle.script_format.specs.declared.Call.{Call}
use Rattle.script_format.specs.declared.Call.TheVariants.{Io, IoVersion, Pic, PicRule, Apic, Board}
use Rattle.script_format.specs.declared.IoCall.TheVariants.{SetGsiLevel}
use mathlib.Core.Bool.{true, not, ◌&&◌}
use Rattle.script_machine.specs.declared.Used.{Used}
use Rattle.script_machine.specs.Late.{used_after}
use Rattle.script_machine.specs.Machine.{Machine, unused, new_machine, io_call, performed}
use Rattle.script_machine.specs.Run.{after_calls, calls_from, run_of}
use Rattle.script_theorems.specs.Runs.{in_time}
use Rattle.script_theorems.specs.Heard.{io_calls, start_of, io_replies, answers, script_sends, IoApicRuns, IoApicAnswers, IoApicSends, MachineRules, MachinesKeepRules, version_chosen, ScriptVersion, calls_after, HeardInScripts, HeardInScripts20}
use Rattle.script_theorems.proofs.Calls.{later}
use Rattle.script_theorems.proofs.Runs.{in_time_lem}

-- once the I/O APIC was used no version is chosen
no_choice : (used : Used) (chip : IoApicState) (cs : List Call) → used.io ≡ true → in_time used cs ≡ true → start_of chip cs ≡ chip
unfolding start_of in_time
no_choice used chip [] u h = refl
no_choice used chip (Io c ∷ cs) u h = refl
no_choice used chip (IoVersion v ∷ cs) u h = let p : not true && in_time (used_after used (IoVersion v)) cs ≡ true = rw u at h in let z : ◌≡◌ {A = ℕ} 0 1 = cc in absurd (omega arith)
no_choice used chip (Pic c ∷ cs) u h = no_choice (used_after used (Pic c)) chip cs u (later used (Pic c) cs h)
no_choice used chip (PicRule rule ∷ cs) u h = no_choice (used_after used (PicRule rule)) chip cs u (later used (PicRule rule) cs h)
no_choice used chip (Apic c ∷ cs) u h = no_choice (used_after used (Apic c)) chip cs u (later used (Apic c) cs h)
no_choice used chip (Board c ∷ cs) u h = no_choice (used_after used (Board c)) chip cs u (later used (Board c) cs h)

pub io_apic_runs : IoApicRuns
unfolding after_calls io_calls start_of in_time run performed
io_apic_runs used m [] h = refl
io_apic_runs used m (Io c ∷ cs) h = io_apic_runs (used_after used (Io c)) (performed m (Io c)).state cs (later used (Io c) cs h) ∙ rw (no_choice (used_after used (Io c)) (performed m (Io c)).state.ioapic cs refl (later used (Io c) cs h))
io_apic_runs used m (IoVersion v ∷ cs) h =
    io_apic_runs (used_after used (IoVersion v)) (performed m (IoVersion v)).state cs (later used (IoVersion v) cs h) ∙ rw (no_choice (used_after used (IoVersion v)) (performed m (IoVersion v)).state.ioapic cs refl (later used (IoVersion v) cs h))
io_apic_runs used m (Pic c ∷ cs) h = io_apic_runs (used_after used (Pic c)) (performed m (Pic c)).state cs (later used (Pic c) cs h)
io_apic_runs used m (PicRule rule ∷ cs) h = io_apic_runs (used_after used (PicRule rule)) (performed m (PicRule rule)).state cs (later used (PicRule rule) cs h)
io_apic_runs used m (Apic c ∷ cs) h = io_apic_runs (used_after used (Apic c)) (performed m (Apic c)).state cs (later used (Apic c) cs h)
io_apic_runs used m (Board c ∷ cs) h = io_apic_runs (used_after used (Board c)) (performed m (Board c)).state cs (later used (Board c) cs h)

pub io_apic_answers : IoApicAnswers
unfolding io_replies io_calls start_of in_time answers performed
io_apic_answers used m [] h = refl
io_apic_answers used m (Io c ∷ cs) h =
    ap (λ (l : List Reply). (performed m (Io c)).reply ∷ l)
    (io_apic_answers (used_after used (Io c)) (performed m (Io c)).state cs (later used (Io c) cs h)
    ∙ ap (λ (x : IoApicState). answers x (io_calls cs)) (no_choice (used_after used (Io c)) (performed m (Io c)).state.ioapic cs refl (later used (Io c) cs h)))
io_apic_answers used m (IoVersion v ∷ cs) h =
    io_apic_answers (used_after used (IoVersion v)) (performed m (IoVersion v)).state cs (later used (IoVersion v) cs h) ∙ rw (no_choice (used_after used (IoVersion v)) (performed m (IoVersion v)).state.ioapic cs refl (later used (IoVersion v) cs h))
io_apic_answers used m (Pic c ∷ cs) h = io_apic_answers (used_after used (Pic c)) (performed m (Pic c)).state cs (later used (Pic c) cs h)
io_apic_answers used m (PicRule rule ∷ cs) h = io_apic_answers (used_after used (PicRule rule)) (performed m (PicRule rule)).state cs (later used (PicRule rule) cs h)
io_apic_answers used m (Apic c ∷ cs) h = io_apic_answers (used_after used (Apic c)) (performed m (Apic c)).state cs (later used (Apic c) cs h)
io_apic_answers used m (Board c ∷ cs) h = io_apic_answers (used_after used (Board c)) (performed m (Board c)).state cs (later used (Board c) cs h)

pub io_apic_sends : IoApicSends
unfolding script_sends io_calls start_of in_time sends performed
io_apic_sends used g m [] h = refl
io_apic_sends used g m (Io c ∷ cs) h =
    ap (λ (n : ℕ). sent g m.ioapic (io_call c) (performed m (Io c)).reply + n)
    (io_apic_sends (used_after used (Io c)) g (performed m (Io c)).state cs (later used (Io c) cs h)
    ∙ ap (λ (x : IoApicState). sends g x (io_calls cs)) (no_choice (used_after used (Io c)) (performed m (Io c)).state.ioapic cs refl (later used (Io c) cs h)))
io_apic_sends used g m (IoVersion v ∷ cs) h =
    zero-add _ ∙ io_apic_sends (used_after used (IoVersion v)) g (performed m (IoVersion v)).state cs (later used (IoVersion v) cs h) ∙ rw (no_choice (used_after used (IoVersion v)) (performed m (IoVersion v)).state.ioapic cs refl (later used (IoVersion v) cs h))
io_apic_sends used g m (Pic c ∷ cs) h = zero-add _ ∙ io_apic_sends (used_after used (Pic c)) g (performed m (Pic c)).state cs (later used (Pic c) cs h)
io_apic_sends used g m (PicRule rule ∷ cs) h = zero-add _ ∙ io_apic_sends (used_after used (PicRule rule)) g (performed m (PicRule rule)).state cs (later used (PicRule rule) cs h)
io_apic_sends used g m (Apic c ∷ cs) h = zero-add _ ∙ io_apic_sends (used_after used (Apic c)) g (performed m (Apic c)).state cs (later used (Apic c) cs h)
io_apic_sends used g m (Board c ∷ cs) h = zero-add _ ∙ io_apic_sends (used_after used (Board c)) g (performed m (Board c)).state cs (later used (Board c) cs h)

-- ---- the rules

new_rules : MachineRules new_machine
unfolding new_machine
new_rules = record { rules = new_keeps_rules 0x20 0xfec00000 0x1000; place = refl }

one_keeps : (m : Machine) (c : Call) → MachineRules m → MachineRules (performed m c).state
unfolding performed
one_keeps m (Io c) k = record {
  rules = calls_keep_rules m.ioapic (io_call c) k.rules;
  place = (calls_keep_version m.ioapic (io_call c)).1 ∙ k.place;
}
one_keeps m (IoVersion v) k = record { rules = new_keeps_rules (version_number v) 0xfec00000 0x1000; place = refl }
one_keeps m (Pic c) k = record { rules = k.rules; place = k.place }
one_keeps m (PicRule rule) k = record { rules = k.rules; place = k.place }
one_keeps m (Apic c) k = record { rules = k.rules; place = k.place }
one_keeps m (Board c) k = record { rules = k.rules; place = k.place }

all_keep : (m : Machine) (cs : List Call) → MachineRules m → MachineRules (after_calls m cs)
unfolding after_calls
all_keep m [] k = k
all_keep m (c ∷ cs) k = all_keep (performed m c).state cs (one_keeps m c k)

pub machines_keep_rules : MachinesKeepRules
machines_keep_rules = (new_rules, all_keep)

reached : (s : List ℕ) (a : ℕ) (m : Machine) → m ≡ (run_of s new_machine 0 a).machine → MachineRules m
reached s a m e = rw e (all_keep new_machine (calls_from s new_machine.used 0 a) new_rules)

-- ---- the version

kept_version : (chip : IoApicState) (cs : List ChipCall) → (run chip cs).version ≡ chip.version
unfolding run
kept_version chip [] = refl
kept_version chip (c ∷ cs) = kept_version (next chip c) cs ∙ (calls_keep_version chip c).0

start_version : (chip : IoApicState) (cs : List Call) → (start_of chip cs).version ≡ version_chosen chip.version cs
unfolding start_of version_chosen
start_version chip [] = refl
start_version chip (Io c ∷ cs) = refl
start_version chip (IoVersion v ∷ cs) = refl
start_version chip (Pic c ∷ cs) = start_version chip cs
start_version chip (PicRule rule ∷ cs) = start_version chip cs
start_version chip (Apic c ∷ cs) = start_version chip cs
start_version chip (Board c ∷ cs) = start_version chip cs

pub script_version : ScriptVersion
unfolding new_machine
script_version s a =
    let cs = calls_from s unused 0 a in
    ap (λ (x : IoApicState). x.version) (io_apic_runs unused new_machine cs (in_time_lem s unused 0 a)) ∙ kept_version (start_of new_machine.ioapic cs) (io_calls cs) ∙ start_version new_machine.ioapic cs

-- ---- demand 3

in_time_after : (s : List ℕ) (a b : ℕ) (c : Call) (cs : List Call) → calls_after s a b ≡ c ∷ cs
    → in_time (run_of s new_machine 0 a).machine.used (c ∷ cs) ≡ true
in_time_after s a b c cs e = rw e at (in_time_lem s (run_of s new_machine 0 a).machine.used (run_of s new_machine 0 a).next.at b)

pub heard_in_scripts : HeardInScripts
unfolding performed outcome io_calls start_of
heard_in_scripts s a b g v m after e o f p q =
    let u = (run_of s new_machine 0 a).machine.used in
    rw f (io_apic_sends u g.0 m (Io (SetGsiLevel g true) ∷ after) (in_time_after s a b (Io (SetGsiLevel g true)) after f) ∙ heard_from_rules m.ioapic g v (io_calls after) o (reached s a m e).rules p q)

pub heard_in_scripts_20 : HeardInScripts20
unfolding performed outcome io_calls start_of
heard_in_scripts_20 s a b g v m after e o f p q =
    let u = (run_of s new_machine 0 a).machine.used in
    let k = reached s a m e in
    rw f (io_apic_sends u g.0 m (Io (SetGsiLevel g true) ∷ after) (in_time_after s a b (Io (SetGsiLevel g true)) after f) ∙ heard_20 m.ioapic g v (io_calls after) o k.rules.agrees p q ∙ ap (λ (base : ℕ). 1 + eois_at base v (io_calls after)) k.place)
