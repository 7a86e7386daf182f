-- Demand 3 for scripts, in both versions: the I/O APIC's fields of a script are a list of its public calls, on a new chip of the version that field 06 chooses, if there is
-- one; the machine's I/O APIC after a run is the one after those calls, and the fields answer what they answer. So a device that holds its line is heard in every script.
use Rattle.std.specs.Prelude.{ℕ, ◌+◌, ◌-◌, true, false, List, [], ◌∷◌, ◌≡◌}
use Rattle.types.specs.declared.Gsi.{Gsi}
use Rattle.types.specs.declared.Vector.{Vector}
use Rattle.types.specs.declared.Reply.{Reply}
use Rattle.types.specs.declared.Reply.TheVariants.{Two}
use Rattle.vioapic.specs.State.{IoApicState}
use Rattle.vioapic.specs.Table.{is_version20}
use Rattle.vioapic.specs.IoApic.{version_number}
use Rattle.vioapic.specs.Calls as ioapic
use Rattle.vioapic_theorems.specs.Rules.{ChipRules}
use Rattle.vioapic_theorems.specs.Sends.{sent, sends, eois, lower_in_flight}
use Rattle.vioapic_theorems.specs.Premises.{throughout, demanded}
use Rattle.vioapic_theorems.specs.Heard20.{eois_at, held_up}
use Rattle.script_format.specs.declared.IoCall.TheVariants.{SetGsiLevel}
use Rattle.script_format.specs.declared.Call.{Call}
use Rattle.script_format.specs.declared.Call.TheVariants.{Io}
use Rattle.script_machine.specs.declared.Used.{Used}
use Rattle.script_machine.specs.Machine.{Machine, unused, new_machine, chosen, performed}
use Rattle.script_machine.specs.Run.{calls_from, after_calls, run_of}
use Rattle.script_theorems.specs.Parts.{io_part, by_part}
use Rattle.script_theorems.specs.Runs.{in_time}

-- the I/O APIC's calls among a script's
unfoldable pub io_calls : List Call → List ioapic.Call
io_calls [] = []
io_calls (c ∷ cs) = by_part (io_part c) (λ d. d ∷ io_calls cs) (λ version. io_calls cs) (io_calls cs)

-- the chip that they are made on: a new one of the version chosen, where that is in time; else the machine's
unfoldable pub start_of : IoApicState → List Call → IoApicState
start_of chip [] = chip
start_of chip (c ∷ cs) = by_part (io_part c) (λ d. chip) (λ version. chosen version) (start_of chip cs)

-- what the I/O APIC's fields among them answer, 06 apart
unfoldable pub io_replies : Machine → List Call → List Reply
io_replies m [] = []
io_replies m (c ∷ cs) =
    by_part (io_part c) (λ d. (performed m c).reply ∷ io_replies (performed m c).state cs)
    (λ version. io_replies (performed m c).state cs)
    (io_replies (performed m c).state cs)

-- what a list of public calls answers, one after the other
unfoldable pub answers : IoApicState → List ioapic.Call → List Reply
answers chip [] = []
answers chip (c ∷ cs) = (ioapic.outcome chip c).reply ∷ answers (ioapic.next chip c) cs

-- how often entry g is sent, read off the fields' answers
unfoldable pub script_sends : ℕ → Machine → List Call → ℕ
script_sends g m [] = 0
script_sends g m (c ∷ cs) = by_part (io_part c) (λ d. sent g m.ioapic d (performed m c).reply) (λ version. 0) 0 + script_sends g (performed m c).state cs

-- the machine's I/O APIC after calls of which none is late, as those of every run (`InTime`), and what it answered
abbrev pub IoApicRuns : Type 0
IoApicRuns =
    (used : Used) (m : Machine) (cs : List Call)
    → in_time used cs ≡ true
    → (after_calls m cs).ioapic ≡ ioapic.run (start_of m.ioapic cs) (io_calls cs)

abbrev pub IoApicAnswers : Type 0
IoApicAnswers =
    (used : Used) (m : Machine) (cs : List Call)
    → in_time used cs ≡ true
    → io_replies m cs ≡ answers (start_of m.ioapic cs) (io_calls cs)

abbrev pub IoApicSends : Type 0
IoApicSends =
    (used : Used) (g : ℕ) (m : Machine) (cs : List Call)
    → in_time used cs ≡ true
    → script_sends g m cs ≡ sends g (start_of m.ioapic cs) (io_calls cs)

-- a machine whose I/O APIC keeps the chip's rules and stands at the usual address
pub record MachineRules (m : Machine) : Type 0 where
  pub rules : ChipRules m.ioapic
  pub place : m.ioapic.base ≡ 0xfec00000

-- a new machine does, and every call keeps that, a choice of version too
abbrev pub MachinesKeepRules : Type 0
MachinesKeepRules = MachineRules new_machine × ((m : Machine) (cs : List Call) → MachineRules m → MachineRules (after_calls m cs))

-- the version that calls choose: that of the first of fields 01 to 06, if that is a 06; else it stays
unfoldable pub version_chosen : ℕ → List Call → ℕ
version_chosen version [] = version
version_chosen version (c ∷ cs) = by_part (io_part c) (λ d. version) (λ chosen. version_number chosen) (version_chosen version cs)

-- a script's I/O APIC has it after its first a fields, and without a choice 0x20 (document 02, T-14)
abbrev pub ScriptVersion : Type 0
ScriptVersion = (s : List ℕ) (a : ℕ) → (run_of s new_machine 0 a).machine.ioapic.version ≡ version_chosen 0x20 (calls_from s unused 0 a)

-- where a run from a new machine has come after a fields, and the calls of the next b
abbrev pub calls_after : List ℕ → ℕ → ℕ → List Call
calls_after s a b = calls_from s (run_of s new_machine 0 a).machine.used (run_of s new_machine 0 a).next.at b

-- demand 3 in version 0x11: after the first a fields of any script on a new machine the next b fields start by raising line g, which sends its level entry with vector v; then, if
-- demand 3's premises hold while the fields `after` it are performed, the script sends entry g once, and once more for each EOI of v beyond the k that go to the lower entries in flight with v
abbrev pub HeardInScripts : Type 0
HeardInScripts =
    (s : List ℕ) (a b : ℕ) (g : Gsi) (v : Vector) (m : Machine) (after : List Call)
    → m ≡ (run_of s new_machine 0 a).machine
    → is_version20 m.ioapic ≡ false
    → calls_after s a b ≡ Io (SetGsiLevel g true) ∷ after
    → (performed m (Io (SetGsiLevel g true))).reply ≡ Two v.0 1
    → throughout (demanded v g.0) (performed m (Io (SetGsiLevel g true))).state.ioapic (io_calls after) ≡ true
    → script_sends g.0 m (calls_after s a b) ≡ 1 + (eois v (io_calls after) - lower_in_flight v g.0 m.ioapic)

-- and in version 0x20: the line stays up, and the entry unmasked, with its vector, delivery mode and trigger mode; nothing is asked of other entries. Then each EOI of v, by either road, sends
-- entry g once more
abbrev pub HeardInScripts20 : Type 0
HeardInScripts20 =
    (s : List ℕ) (a b : ℕ) (g : Gsi) (v : Vector) (m : Machine) (after : List Call)
    → m ≡ (run_of s new_machine 0 a).machine
    → is_version20 m.ioapic ≡ true
    → calls_after s a b ≡ Io (SetGsiLevel g true) ∷ after
    → (performed m (Io (SetGsiLevel g true))).reply ≡ Two v.0 1
    → throughout (held_up g.0) (performed m (Io (SetGsiLevel g true))).state.ioapic (io_calls after) ≡ true
    → script_sends g.0 m (calls_after s a b) ≡ 1 + eois_at 0xfec00000 v (io_calls after)
