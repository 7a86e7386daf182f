-- Demand 1 for scripts: a refused call hands back the machine that it was given, which remembers a call of the I/O APIC or the pair. An interrupt command that is refused for its
-- kind or destination has stored its words, and nothing else.
use Rattle.std.specs.Prelude.{cond, ◌&&◌, ◌≡◌, eqb}
use Rattle.types.specs.Reply.{reply_number}
use Rattle.vlapic_theorems.specs.Sending.{is_storing}
use Rattle.vlapic_theorems.specs.Numbers.{commanded}
use Rattle.script_format.specs.declared.Call.{Call}
use Rattle.script_format.specs.declared.Call.TheVariants.{Io, IoVersion, Pic, PicRule, Apic, Board}
use Rattle.script_format.specs.declared.ApicCall.{ApicCall}
use Rattle.script_format.specs.declared.ApicCall.TheVariants as local
use Rattle.script_machine.specs.Late.{used_after}
use Rattle.script_machine.specs.Machine.{Machine, Local, with_apic, with_local, with_used, performed}

-- a local APIC in its VM, in which an interrupt command has stored its words: a write of the ICR's low word, if count, id and width let it be looked at
abbrev pub storing : Local → ApicCall → Local
storing l (local.AcceptInterrupt vector level) = l
storing l (local.HandleWrite offset width value) =
    with_apic l (cond (eqb offset 0x300 && is_storing l.apic width l.vcpu_num) (commanded l.apic value) l.apic)
storing l local.HandleEoi = l
storing l (local.HandleRead offset) = l
storing l (local.Setup x2apic id num active) = l

-- the machine after a refused call: its local APIC with a command's words, all else as it was; and it remembers the call (one of the local APIC or of the board leaves nothing
-- to remember)
abbrev pub refused_by : Machine → Call → Machine
refused_by m (Io c) = m
refused_by m (IoVersion version) = m
refused_by m (Pic c) = m
refused_by m (PicRule rule) = m
refused_by m (Apic c) = with_local m (storing m.local c)
refused_by m (Board c) = m

abbrev pub RefusedUnchanged : Type 0
RefusedUnchanged =
    (m : Machine) (c : Call)
    → (reply_number (performed m c).reply ≡ 0 → ⊥)
    → (performed m c).state ≡ with_used (refused_by m c) (used_after m.used c)
