-- Calls, computed: three vCPUs in xAPIC mode with logical ids 1, 2 and 4, where the sender's own doesn't match; and the same with the last one inactive, or its model reserved.
use Rattle.std.specs.Prelude.{ℕ, ◌*◌, true, false, List, [], ◌∷◌, ◌≡◌, refl, get_or, replicate}
use Rattle.utils.specs.Set.{with, without}
use Rattle.types.specs.declared.Reply.TheVariants.{Three}
use Rattle.types.specs.Reply.{reply_number}
use Rattle.vlapic.specs.Regs.{start, with_ldr, with_dfr, with_icr_hi}
use Rattle.vlapic_requests.specs.Requests.{request}
use Rattle.vcpus_ipi.specs.declared.Vcpu.{Vcpu}
use Rattle.vcpus_ipi.specs.declared.Ask.{Ask}
use Rattle.vcpus_ipi.specs.Vcpu.{new_vcpu, with_regs}
use Rattle.vcpus_ipi.specs.Ipi.{is_hit, is_unmatchable, answer_to, received, becomes, send_ipi}

-- a vCPU in xAPIC mode with a logical id, a DFR and a destination byte in its ICR; and one in x2APIC mode
abbrev pub xapic : ℕ → ℕ → ℕ → Vcpu
xapic id dfr d = with_regs new_vcpu (with_icr_hi (with_dfr (with_ldr (start false 0) (id * 0x1000000)) dfr) (d * 0x1000000))

abbrev pub x2apic : Vcpu
x2apic = with_regs new_vcpu (start true 0)

abbrev pub flat : ℕ → List Vcpu
flat d = xapic 1 0xffffffff d ∷ xapic 2 0xffffffff 0 ∷ xapic 4 0xffffffff 0 ∷ []

-- vCPU `sender` writes the ICR's low word, by 4 bytes; and by 8
abbrev pub asks : ℕ → ℕ → ℕ → Ask
asks sender value active = record { sender = record { 0 = sender }; offset = 0x300; value = value; width = 4; active = active }

abbrev pub asks8 : ℕ → ℕ → ℕ → Ask
asks8 sender value active = record { sender = record { 0 = sender }; offset = 0x300; value = value; width = 8; active = active }

-- logical destination 6, vector 0x41: vCPUs 1 and 2, though the sender's logical id is 1 (by the old rule: nobody, D-65)
pub by_own_ldr : (send_ipi (flat 6) (asks 0 0x841 7)).reply ≡ Three 0 0x41 6
unfolding send_ipi answer_to is_hit is_unmatchable
by_own_ldr = refl

-- an inactive vCPU isn't reached
pub active_alone : (send_ipi (flat 6) (asks 0 0x841 3)).reply ≡ Three 0 0x41 2
unfolding send_ipi answer_to is_hit is_unmatchable
active_alone = refl

-- the request is in vCPU 2's record, and not in vCPU 0's
pub requested : (get_or (get_or (send_ipi (flat 6) (asks 0 0x841 7)).state 2 new_vcpu).regs.irr 2 0 ≡ 2) × (get_or (get_or (send_ipi (flat 6) (asks 0 0x841 7)).state 0 new_vcpu).regs.irr 2 0 ≡ 0)
unfolding send_ipi answer_to is_hit is_unmatchable becomes received request with without
requested = (refl, refl)

-- a reserved model of an active vCPU refuses, and nothing is requested; of an inactive one it is in nobody's way
abbrev pub reserved : List Vcpu
reserved = xapic 1 0xffffffff 3 ∷ xapic 2 0xffffffff 0 ∷ xapic 4 0x1fffffff 0 ∷ []

pub reserved_refused : (reply_number (send_ipi reserved (asks 0 0x841 7)).reply ≡ 3) × (get_or (get_or (send_ipi reserved (asks 0 0x841 7)).state 1 new_vcpu).regs.irr 2 0 ≡ 0)
unfolding send_ipi answer_to is_hit is_unmatchable becomes
reserved_refused = (refl, refl)

pub reserved_inactive : (send_ipi reserved (asks 0 0x841 3)).reply ≡ Three 0 0x41 3
unfolding send_ipi answer_to is_hit is_unmatchable
reserved_inactive = refl

-- x2APIC: 18 vCPUs, cluster 1, members 0 and 1, are vCPUs 16 and 17; cluster 0, member 3, is vCPU 3
pub cluster_one : (send_ipi (replicate 18 x2apic) (asks8 0 0x1000300000841 0x3ffff)).reply ≡ Three 0 0x41 0x30000
unfolding send_ipi answer_to is_hit is_unmatchable
cluster_one = refl

pub cluster_zero : (send_ipi (replicate 18 x2apic) (asks8 17 0x800000841 0x3ffff)).reply ≡ Three 0 0x41 8
unfolding send_ipi answer_to is_hit is_unmatchable
cluster_zero = refl
