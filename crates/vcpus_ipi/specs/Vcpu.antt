-- One vCPU's record: the registers of its local APIC, and beside them what waits for the processor itself.
-- Intel SDM volume 3, the APIC chapter: interrupt command register (delivery modes NMI, INIT, start-up); and the chapter on multiple-processor management:
-- the processor waits for INIT and start-up IPIs.
use Rattle.std.specs.Prelude.{ℕ, true, false}
use Rattle.vlapic.specs.declared.VirtualApicRegs.{VirtualApicRegs}
use Rattle.vlapic.specs.Regs.{start}
use Rattle.vcpus_ipi.specs.declared.Vcpu.{Vcpu}

-- a vCPU with nothing waiting, in xAPIC mode; where a list is shorter than a place asked for, this stands there
abbrev pub new_vcpu : Vcpu
new_vcpu = record { regs = start false 0; nmi = false; init = false; startup = false; startup_vector = 0 }

-- r with other registers; with an NMI, an INIT, a start-up of a vector waiting
abbrev pub with_regs : Vcpu → VirtualApicRegs → Vcpu
with_regs r regs = record { regs = regs; nmi = r.nmi; init = r.init; startup = r.startup; startup_vector = r.startup_vector }

abbrev pub with_nmi : Vcpu → Vcpu
with_nmi r = record { regs = r.regs; nmi = true; init = r.init; startup = r.startup; startup_vector = r.startup_vector }

abbrev pub with_init : Vcpu → Vcpu
with_init r = record { regs = r.regs; nmi = r.nmi; init = true; startup = r.startup; startup_vector = r.startup_vector }

abbrev pub with_startup : Vcpu → ℕ → Vcpu
with_startup r vector = record { regs = r.regs; nmi = r.nmi; init = r.init; startup = true; startup_vector = vector }
