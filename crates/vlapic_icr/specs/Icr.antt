-- Where an interrupt command goes.
-- Intel SDM volume 3, the APIC chapter: determining IPI destination (physical mode; logical mode with the flat and the cluster model; broadcast; shorthands); LDR and
-- DFR; error handling (send illegal vector); ICR operation and SELF IPI register in x2APIC mode.
use Rattle.std.specs.Prelude.{ℕ, ◌/◌, ◌%◌, ◌^◌, Bool, cond, ◌&&◌, eqb, ltb, Result, Ok, Err}
use Rattle.utils.specs.Set.{bit, without, below, first}
use Rattle.types.specs.declared.Refusal.{Refusal}
use Rattle.types.specs.declared.Refusal.TheVariants.{InvalidDelivery, OutOfRange}
use Rattle.types.specs.declared.VcpuId.{VcpuId}
use Rattle.types.specs.declared.Vector.{Vector}
use Rattle.types.specs.Counters.{vcpu_mask, vcpu_of}
use Rattle.vlapic_icr.specs.declared.InterruptCommand.{InterruptCommand}
use Rattle.vlapic_icr.specs.declared.DestMatch.{DestMatch}
use Rattle.vlapic_icr.specs.declared.DestMatch.TheVariants.{Matched, Unmatched, ReservedModel}
use Rattle.vlapic_icr.specs.declared.IcrAnswer.{IcrAnswer}
use Rattle.vlapic_icr.specs.declared.IcrAnswer.TheVariants.{Nothing, SendIllegalVector, Ipi}
use Rattle.vlapic_icr.specs.declared.fields.DeliveryMode.TheVariants.{Fixed}
use Rattle.vlapic_icr.specs.Fields.{vector_field, delivery_mode, is_logical, shorthand, is_reserved_mode, is_illegal_vector, is_invalid_shorthand, is_unsent}
use Rattle.vlapic_icr.specs.Kinds.{mode_of}

-- ---- the destination

-- the high word's top byte in xAPIC mode, the whole high word in x2APIC mode
abbrev pub dest_field : InterruptCommand → ℕ
dest_field s = cond s.x2apic s.icr_hi (s.icr_hi / 0x1000000)

abbrev pub is_broadcast : InterruptCommand → Bool
is_broadcast s = eqb (dest_field s) (cond s.x2apic 0xffffffff 0xff)

-- two sets of up to eight have a member in common
abbrev pub share : ℕ → ℕ → Bool
share a b = ltb (first 8 (λ k. bit a k && bit b k)) 8

abbrev pub matching : Bool → DestMatch
matching same = cond same Matched Unmatched

-- the cluster model: the same cluster, bits 4-7, and a bit in common with bits 0-3
abbrev pub in_cluster : ℕ → ℕ → Bool
in_cluster ldr d = eqb (ldr / 0x10000000) (d / 16 % 16) && share (ldr / 0x1000000 % 16) (d % 16)

-- the logical destination d against this APIC's own LDR and DFR: in the flat model (15) a bit in common with the logical id,
-- in the cluster model (0) as above
unfoldable pub dest_field_matched : InterruptCommand → ℕ → DestMatch
dest_field_matched s d =
    cond s.x2apic Matched  -- D-66: in x2APIC mode cluster and member bits are compared
    (cond (eqb (s.dfr / 0x10000000) 15) (matching (share (s.ldr / 0x1000000) (d % 256)))
    (cond (eqb (s.dfr / 0x10000000) 0) (matching (in_cluster s.ldr d)) ReservedModel))

-- every active vCPU, or none. D-65: each APIC has to be matched by its own LDR and DFR. D-84: only active vCPUs are reached, here and by broadcast, all and others below
abbrev pub logical_dest : DestMatch → ℕ → ℕ → Result ℕ Refusal
logical_dest Matched num active = Ok active
logical_dest Unmatched num active = Ok 0
logical_dest ReservedModel num active = cond (eqb (below active num) 0) (Ok 0) (Err InvalidDelivery)

abbrev pub physical_dest : ℕ → Result ℕ Refusal
physical_dest d = cond (ltb d 64) (Ok (2 ^ d)) (Err OutOfRange)  -- D-78: not "sent to nobody"

unfoldable pub dest_no_shorthand : InterruptCommand → ℕ → ℕ → Result ℕ Refusal
dest_no_shorthand s num active =
    cond (is_broadcast s) (Ok active)
    (cond (is_logical s.icr_lo) (logical_dest (dest_field_matched s (dest_field s)) num active) (physical_dest (dest_field s)))

unfoldable pub calculate_dest : InterruptCommand → ℕ → ℕ → Result ℕ Refusal
calculate_dest s num active =
    cond (eqb (shorthand s.icr_lo) 1) (Ok (vcpu_mask (vcpu_of s.vapic_id)))
    (cond (eqb (shorthand s.icr_lo) 2) (Ok active)
    (cond (eqb (shorthand s.icr_lo) 3) (Ok (without active s.vapic_id))
    (dest_no_shorthand s num active)))

-- ---- the command

-- an empty mask, lowest priority and SMI send nothing
abbrev pub send : ℕ → ℕ → IcrAnswer
send lo mask =
    cond (eqb mask 0) Nothing
    (cond (is_unsent lo) Nothing  -- D-73: lowest priority and SMI are not sent
    (Ipi (record { kind = mode_of (delivery_mode lo); vector = record { 0 = vector_field lo }; mask = mask })))  -- D-72: level and trigger mode are ignored

-- the mask is cut to the vCPU count
abbrev pub deliver : ℕ → ℕ → Result ℕ Refusal → Result IcrAnswer Refusal
deliver lo num (Ok mask) = Ok (send lo (below mask num))
deliver lo num (Err why) = Err why

-- in this order: a reserved mode, an illegal vector, a shorthand that doesn't go with the mode, the destination
unfoldable pub command : InterruptCommand → ℕ → ℕ → Result IcrAnswer Refusal
command s num active =
    cond (is_reserved_mode s.icr_lo) (Err InvalidDelivery)
    (cond (is_illegal_vector s.icr_lo) (Ok SendIllegalVector)
    (cond (is_invalid_shorthand s.icr_lo) (Ok Nothing)
    (deliver s.icr_lo num (calculate_dest s num active))))

-- the self-IPI register: a fixed interrupt to this vCPU alone
unfoldable pub self_ipi : VcpuId → Vector → IcrAnswer
self_ipi id vector = cond (ltb vector.0 16) SendIllegalVector (Ipi (record { kind = Fixed; vector = vector; mask = vcpu_mask id }))  -- D-77: not also "receive illegal vector"
