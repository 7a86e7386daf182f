-- What each of the four counters counts, and the only ways from one to another.
-- 82093AA: IOREDTBL (24 entries); 8259A: cascade mode (two chips of eight lines), ICW2 (the vector's upper bits); Intel SDM volume 3: interrupt command register (destinations).
use Rattle.std.specs.Prelude.{ℕ, ◌+◌, ◌-◌, ◌%◌, ◌^◌, cond, nat_lt, Option, Some, None}
use Rattle.types.specs.declared.Gsi.{Gsi}
use Rattle.types.specs.declared.PicLine.{PicLine}
use Rattle.types.specs.declared.Vector.{Vector}
use Rattle.types.specs.declared.VcpuId.{VcpuId}
use Rattle.types.specs.declared.PicPlace.{PicPlace}
use Rattle.types.specs.declared.PicPlace.TheVariants.{Master, Slave}

-- a GSI's entry of the redirection table, or 24 where it has none
abbrev pub entry_index : Gsi → ℕ
entry_index gsi = cond (nat_lt gsi.0 24) gsi.0 24

-- lines 0 to 7 are the master's, 8 to 15 the slave's 0 to 7, and the pair has no other
abbrev pub place_of : PicLine → Option PicPlace
place_of line =
    cond (nat_lt line.0 8) (Some (Master line))
    (cond (nat_lt line.0 16) (Some (Slave (record { 0 = line.0 - 8 }))) None)

-- a chip's vector for its line: base plus line, modulo 256
abbrev pub line_vector : ℕ → PicLine → Vector
line_vector base line = record { 0 = (base + line.0) % 256 }

-- the line of a number as C has them: any number from 16 up is taken for line 16, which the pair hasn't
abbrev pub line_of : ℕ → PicLine
line_of irq = cond (nat_lt irq 16) (record { 0 = irq }) (record { 0 = 16 })

-- the set of the one vCPU, and the empty set for an id that no mask can hold
abbrev pub vcpu_mask : VcpuId → ℕ
vcpu_mask id = cond (nat_lt id.0 64) (2 ^ id.0) 0

-- a vCPU's local APIC has its number as its id, a word of 32 bits; and the vCPU of an APIC's id
abbrev pub apic_id : VcpuId → ℕ
apic_id id = id.0 % 2 ^ 32

abbrev pub vcpu_of : ℕ → VcpuId
vcpu_of apic_id = record { 0 = apic_id }
