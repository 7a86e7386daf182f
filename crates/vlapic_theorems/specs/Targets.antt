-- Whether a processor is a target of an interrupt command's destination: as the SDM says it, of one local APIC by its own registers; then as it is here.
-- Intel SDM volume 3, the APIC chapter: interrupt command register (destination shorthand, destination mode, destination); determining IPI destination (physical
-- destination mode; logical destination mode: flat model, cluster model; broadcast/self delivery mode); local APIC ID; LDR and DFR; and in x2APIC mode: ICR
-- operation; logical destination mode; deriving the logical x2APIC ID from the local x2APIC ID.
use Rattle.std.specs.Prelude.{ℕ, zero, suc, ◌+◌, ◌*◌, ◌/◌, ◌%◌, ◌^◌, Bool, true, false, not, cond, ◌&&◌, ◌||◌, eqb, ltb}
use Rattle.utils.specs.Set.{bit}
use Rattle.vlapic_icr.specs.Fields.{shorthand, is_logical}
use Rattle.vlapic.specs.declared.VirtualApicRegs.{VirtualApicRegs}

-- p holds somewhere below w
abbrev pub any : ℕ → (ℕ → Bool) → Bool
any zero p = false
any (suc w) p = p w || any w p

-- ---- the destination of a command

pub data Destination : Type 0 where
  Self : Destination
  AllIncludingSelf : Destination
  AllExcludingSelf : Destination
  Broadcast : Destination
  Physical : ℕ → Destination
  Logical : ℕ → Destination

-- the destination field: bits 63:56 of the ICR in xAPIC mode, bits 63:32 in x2APIC mode
abbrev pub field : Bool → ℕ → ℕ
field x2apic hi = cond x2apic hi (hi / 0x1000000)

-- a shorthand goes before the destination field; the field all ones is everybody, in either destination mode
abbrev pub destination_of : Bool → ℕ → ℕ → Destination
destination_of x2apic lo hi =
    cond (eqb (shorthand lo) 1) Self
    (cond (eqb (shorthand lo) 2) AllIncludingSelf
    (cond (eqb (shorthand lo) 3) AllExcludingSelf
    (cond (eqb (field x2apic hi) (cond x2apic 0xffffffff 0xff)) Broadcast
    (cond (is_logical lo) (Logical (field x2apic hi)) (Physical (field x2apic hi))))))

-- ---- as the SDM says it

-- what a local APIC goes by: its id, its mode, LDR and DFR
pub record Receiver : Type 0 where
  pub id : ℕ
  pub x2apic : Bool
  pub ldr : ℕ
  pub dfr : ℕ

-- flat model: the logical id, LDR bits 31:24, and the destination have a bit in common
abbrev pub flat : ℕ → ℕ → Bool
flat ldr d = any 8 (λ k. bit (ldr / 0x1000000) k && bit d k)

-- cluster model: bits 7:4 of the logical id and of the destination are the same cluster, and bits 3:0 have a member in common
abbrev pub cluster : ℕ → ℕ → Bool
cluster ldr d = eqb (ldr / 0x10000000) (d / 16 % 16) && any 4 (λ k. bit (ldr / 0x1000000) k && bit d k)

-- x2APIC mode: the logical id is derived from the id; bits 31:16 are the cluster, bits 15:0 the members
abbrev pub logical_id : ℕ → ℕ
logical_id id = id / 16 % 0x10000 * 0x10000 + 2 ^ (id % 16)

abbrev pub cluster16 : ℕ → ℕ → Bool
cluster16 id d = eqb (logical_id id / 0x10000) (d / 0x10000) && any 16 (λ k. bit (logical_id id) k && bit d k)

-- a logical destination; the DFR model is 15 (flat) or 0 (cluster), and the others are reserved: they match nothing
abbrev pub is_logical_target : Receiver → ℕ → Bool
is_logical_target r d =
    cond r.x2apic (cluster16 r.id d)
    (cond (eqb (r.dfr / 0x10000000) 15) (flat r.ldr d)
    (eqb (r.dfr / 0x10000000) 0 && cluster r.ldr d))

-- whether the local APIC r is a target, where the sender's id is `own`
abbrev pub is_target : ℕ → Destination → Receiver → Bool
is_target own Self r = eqb r.id own
is_target own AllIncludingSelf r = true
is_target own AllExcludingSelf r = not (eqb r.id own)
is_target own Broadcast r = true
is_target own (Physical d) r = eqb r.id d
is_target own (Logical d) r = is_logical_target r d

-- ---- as it is here

-- vCPU i, as the sender s takes it to be. D-65: with the sender's own mode, LDR and DFR
abbrev pub as_taken : VirtualApicRegs → ℕ → Receiver
as_taken s i = record { id = i; x2apic = s.x2apic; ldr = s.ldr; dfr = s.dfr }

-- D-66: in x2APIC mode a logical destination names everybody
abbrev pub names_all : VirtualApicRegs → Destination → Bool
names_all s Self = false
names_all s AllIncludingSelf = false
names_all s AllExcludingSelf = false
names_all s Broadcast = false
names_all s (Physical d) = false
names_all s (Logical d) = s.x2apic

abbrev pub is_named : VirtualApicRegs → Destination → ℕ → Bool
is_named s dest i = names_all s dest || is_target s.vapic_id dest (as_taken s i)

-- D-84: of these destinations active vCPUs alone are reached; a physical one and self don't ask who is active, as in the SDM
abbrev pub asks_active : Destination → Bool
asks_active Self = false
asks_active AllIncludingSelf = true
asks_active AllExcludingSelf = true
asks_active Broadcast = true
asks_active (Physical d) = false
asks_active (Logical d) = true

-- vCPU i is reached: it is one of the `num` vCPUs, it is a target, and it is active where that is asked
abbrev pub is_reached : VirtualApicRegs → ℕ → ℕ → Destination → ℕ → Bool
is_reached s num active dest i = ltb i num && (is_named s dest i && (bit active i || not (asks_active dest)))
