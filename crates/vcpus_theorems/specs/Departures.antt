-- Where interrupt commands among several vCPUs depart from the SDM: for each departure the smallest records and call, what the definitions give there, and what the text
-- asks for instead. D-70, D-72, D-73, D-75 to D-78, D-80, D-82, D-84 and D-89 hold here too (crate vlapic_theorems shows them); D-65 and D-66 don't.
-- Intel SDM volume 3, the APIC chapter: interrupt command register (delivery modes INIT and start-up); and the chapter on multiple-processor management. The text's
-- processors are running.
use Rattle.std.specs.Prelude.{ℕ, false, List, [], ◌∷◌, refl, get_or}
use Rattle.types.specs.Reply.{flag}
use Rattle.types.specs.Departure.{Departure, Shown}
use Rattle.vlapic.specs.Regs.{start, with_tpr}
use Rattle.vcpus_ipi.specs.declared.Vcpu.{Vcpu}
use Rattle.vcpus_ipi.specs.Vcpu.{new_vcpu, with_regs}
use Rattle.vcpus_ipi.specs.Ipi.{is_hit, is_unmatchable, answer_to, received, becomes, send_ipi}
use Rattle.vcpus_ipi.specs.Cases.{xapic, asks}

-- two vCPUs, the first of which sends to physical destination 1; the other's TPR is 0x20
abbrev pair : List Vcpu
pair = xapic 1 0xffffffff 1 ∷ with_regs new_vcpu (with_tpr (start false 0) 0x20) ∷ []

abbrev second : ℕ → Vcpu
second low = get_or (send_ipi pair (asks 0 low 3)).state 1 new_vcpu

abbrev pub departures : List Departure
departures =
    -- a start-up of vector 0x9a to a vCPU that didn't wait for one
    record { number = 92; computed = flag (second 0x69a).startup ∷ (second 0x69a).startup_vector ∷ []; ours = 1 ∷ 0x9a ∷ []; text = 0 ∷ 0 ∷ [] }
    -- an INIT, and then TPR
    ∷ record { number = 93; computed = flag (second 0x500).init ∷ (second 0x500).regs.tpr ∷ []; ours = 1 ∷ 0x20 ∷ []; text = 1 ∷ 0 ∷ [] }
    ∷ []

pub departures_hold : Shown departures
unfolding send_ipi answer_to is_hit is_unmatchable becomes received
departures_hold = ((refl, refl), ((refl, refl), tt))
