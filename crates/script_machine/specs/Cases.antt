-- Runs and calls, computed.
use Rattle.std.specs.Prelude.{[], ◌∷◌, ◌≡◌, refl}
use Rattle.vioapic.specs.declared.IoApicVersion.TheVariants.{V11}
use Rattle.vpic.specs.declared.PicRule.TheVariants.{Latch}
use Rattle.vpic.specs.Pair.{new_state}
use Rattle.script_format.specs.declared.Call.TheVariants.{IoVersion, PicRule}
use Rattle.script_format.specs.Format.{number_at, decoded}
use Rattle.script_format.specs.Fields.{field_at}
use Rattle.script_machine.specs.Late.{field_for}
use Rattle.script_machine.specs.Machine.{unused, new_machine, performed}
use Rattle.script_machine.specs.Run.{field_count}

-- a bad field isn't counted
pub bad_uncounted : field_count (0xff ∷ 0 ∷ 0 ∷ []) unused 0 5 ≡ 0
unfolding field_count field_for field_at decoded number_at
bad_uncounted = refl

-- the rules of a new machine: the I/O APIC's version, the pair's rule (document 02, T-14)
pub new_version : new_machine.ioapic.version ≡ 0x20
unfolding new_machine
new_version = refl

pub new_rule_lem : new_machine.pic.rule ≡ 1
unfolding new_machine new_state
new_rule_lem = refl

-- and those that are chosen
pub version_chosen_lem : (performed new_machine (IoVersion V11)).state.ioapic.version ≡ 0x11
unfolding performed new_machine
version_chosen_lem = refl

pub rule_chosen_lem : (performed new_machine (PicRule Latch)).state.pic.rule ≡ 0
unfolding performed new_machine new_state
rule_chosen_lem = refl
