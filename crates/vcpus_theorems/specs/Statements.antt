-- Whom an interrupt command among several vCPUs reaches, what it leaves in their records, and what it doesn't touch (document 02, T-12).
-- Intel SDM volume 3, the APIC chapter: determining IPI destination (logical mode: flat model; x2APIC: cluster and members).
use Rattle.std.specs.Prelude.{ℕ, ◌/◌, ◌%◌, ◌^◌, ◌<◌, Bool, true, false, not, cond, ◌&&◌, ◌≡◌, List, eqb, ltb, length, get_or}
use Rattle.utils.specs.Set.{bit}
use Rattle.types.specs.declared.Refusal.{Refusal}
use Rattle.types.specs.declared.Reply.{Reply}
use Rattle.types.specs.declared.Reply.TheVariants.{Refused, Nothing, One, Two, Three}
use Rattle.vlapic.specs.Regs.{with_pending, with_command}
use Rattle.vlapic_theorems.specs.Targets.{Logical}
use Rattle.vlapic_theorems.specs.Sending.{is_sent}
use Rattle.vlapic_theorems.specs.Numbers.{is_above63}
use Rattle.vcpus_ipi.specs.declared.Vcpu.{Vcpu}
use Rattle.vcpus_ipi.specs.declared.Ask.{Ask}
use Rattle.vcpus_ipi.specs.Steps.{leaves}
use Rattle.vcpus_ipi.specs.Vcpu.{new_vcpu, with_regs}
use Rattle.vcpus_ipi.specs.Ipi.{is_icr, is_sending, destination, is_reached, is_logical_dest, any_unmatchable, received, stored, each_from, is_outside, sender, command, send_ipi}

-- the vCPUs that a reply says an IPI was sent to
abbrev pub mask_of : Reply → ℕ
mask_of (Refused why) = 0
mask_of Nothing = 0
mask_of (One a) = 0
mask_of (Two a b) = 0
mask_of (Three kind vector mask) = mask

-- vCPU i is sent an IPI
abbrev pub is_sent_to : List Vcpu → Ask → ℕ → Bool
is_sent_to xs a i = bit (mask_of (send_ipi xs a).reply) i

-- the record at place i after the call
abbrev pub after : List Vcpu → Ask → ℕ → Vcpu
after xs a i = get_or (send_ipi xs a).state i new_vcpu

abbrev pub before : List Vcpu → ℕ → Vcpu
before xs i = get_or xs i new_vcpu

-- ---- what is touched

-- no record is added or lost
abbrev pub SameCount : Type 0
SameCount = (xs : List Vcpu) (a : Ask) → length (send_ipi xs a).state ≡ length xs

-- a record outside the mask and other than the sender's is untouched
abbrev pub Untouched : Type 0
Untouched = (xs : List Vcpu) (a : Ask) (i : ℕ) → i < length xs → (i ≡ a.sender.0 → ⊥) → is_sent_to xs a i ≡ false → after xs a i ≡ before xs i

-- the sender's, if it isn't in the mask itself, has other ICR and error words at most
pub record WordsAt (xs : List Vcpu) (a : Ask) : Type 0 where
  pub lo : ℕ
  pub hi : ℕ
  pub errors : ℕ
  pub kept : after xs a a.sender.0 ≡ with_regs (before xs a.sender.0) (with_pending (with_command (before xs a.sender.0).regs lo hi) errors)

abbrev pub SenderKept : Type 0
SenderKept = (xs : List Vcpu) (a : Ask) → is_sent_to xs a a.sender.0 ≡ false → WordsAt xs a

-- one in the mask, other than the sender's, received the IPI
abbrev pub Delivered : Type 0
Delivered =
    (xs : List Vcpu) (a : Ask) (kind vector mask i : ℕ)
    → (send_ipi xs a).reply ≡ Three kind vector mask
    → i < length xs
    → (i ≡ a.sender.0 → ⊥)
    → bit mask i ≡ true
    → after xs a i ≡ received kind (record { 0 = vector }) (before xs i)

-- and so has the sender's, if it is in the mask: with its command stored first, where that was written to the ICR
abbrev pub DeliveredToSender : Type 0
DeliveredToSender =
    (xs : List Vcpu) (a : Ask) (kind vector mask : ℕ)
    → (send_ipi xs a).reply ≡ Three kind vector mask
    → bit mask a.sender.0 ≡ true
    → after xs a a.sender.0 ≡ received kind (record { 0 = vector }) (stored (is_icr a) (command xs a) (before xs a.sender.0))

-- ---- whom it reaches

-- a command whose kind is sent, and that nothing refuses
pub record Goes (xs : List Vcpu) (a : Ask) : Type 0 where
  pub inside : is_outside (length xs) a ≡ false
  pub sending : is_sending a (sender xs a).regs.x2apic ≡ true
  pub sent : is_sent (command xs a).icr_lo ≡ true
  pub below : is_above63 (destination (command xs a)) ≡ false
  pub matchable : (is_logical_dest (destination (command xs a)) && any_unmatchable xs a.active) ≡ false

-- it reaches exactly its targets, each by its own registers
abbrev pub Reaches : Type 0
Reaches = (xs : List Vcpu) (a : Ask) → Goes xs a → (i : ℕ) → is_sent_to xs a i ≡ is_reached xs a.sender.0 a.active (command xs a) i

-- every vCPU in xAPIC mode and in the flat model, with one bit of LDR each: the bit that `own` says
pub record OneBitEach (xs : List Vcpu) (own : ℕ → ℕ) : Type 0 where
  pub xapic : (i : ℕ) → i < length xs → (before xs i).regs.x2apic ≡ false
  pub flat : (i : ℕ) → i < length xs → (before xs i).regs.dfr / 0x10000000 ≡ 15
  pub one : (i : ℕ) → i < length xs → (before xs i).regs.ldr / 0x1000000 ≡ 2 ^ own i
  pub small : (i : ℕ) → i < length xs → own i < 8

-- a flat logical IPI reaches exactly the active ones among those whose bit is in d
abbrev pub FlatNamed : Type 0
FlatNamed =
    (xs : List Vcpu) (a : Ask) (own : ℕ → ℕ) (d : ℕ)
    → OneBitEach xs own
    → Goes xs a
    → destination (command xs a) ≡ Logical d
    → (i : ℕ)
    → is_sent_to xs a i ≡ (ltb i (length xs) && (bit d (own i) && bit a.active i))

-- and a reserved model is in nobody's way there: the premise that it is matchable is met
abbrev pub FlatMatchable : Type 0
FlatMatchable = (xs : List Vcpu) (a : Ask) (own : ℕ → ℕ) → OneBitEach xs own → any_unmatchable xs a.active ≡ false

-- every vCPU active and in x2APIC mode
pub record AllX2apic (xs : List Vcpu) (vcpus : ℕ) : Type 0 where
  pub x2apic : (i : ℕ) → i < length xs → (before xs i).regs.x2apic ≡ true
  pub active : (i : ℕ) → i < length xs → bit vcpus i ≡ true

-- a cluster IPI (a logical destination, and so no broadcast) reaches exactly the members that d names: vCPU i is member i % 16 of cluster i / 16
abbrev pub ClusterNamed : Type 0
ClusterNamed =
    (xs : List Vcpu) (a : Ask) (d : ℕ)
    → AllX2apic xs a.active
    → Goes xs a
    → destination (command xs a) ≡ Logical d
    → (i : ℕ)
    → is_sent_to xs a i ≡ (ltb i (length xs) && (eqb (i / 16) (d / 0x10000) && bit d (i % 16)))

abbrev pub ClusterMatchable : Type 0
ClusterMatchable = (xs : List Vcpu) (a : Ask) → AllX2apic xs a.active → any_unmatchable xs a.active ≡ false

-- ---- refusals

-- the sender's ICR has the command's words, and everything else is as it was
abbrev pub command_stored : List Vcpu → Ask → List Vcpu
command_stored xs a = each_from (λ i r. cond (eqb i a.sender.0) (stored true (command xs a) r) r) 0 xs

-- a refused write of the ICR that its mode allows, of a sender inside, has stored its words; any other refused call leaves all records as they were
abbrev pub RefusedKept : Type 0
RefusedKept =
    (xs : List Vcpu) (a : Ask) (why : Refusal)
    → (send_ipi xs a).reply ≡ Refused why
    → (send_ipi xs a).state
    ≡ cond (not (is_outside (length xs) a) && (is_sending a (sender xs a).regs.x2apic && is_icr a)) (command_stored xs a) xs

-- ---- answers

-- what a caller in C is left with, records and answer, comes from one outcome
abbrev pub AnswersWhole : Type 0
AnswersWhole = (xs ys : List Vcpu) (a b : Ask) → leaves (send_ipi xs a) ≡ leaves (send_ipi ys b) → send_ipi xs a ≡ send_ipi ys b
