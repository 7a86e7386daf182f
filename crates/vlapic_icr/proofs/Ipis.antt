-- A delivery mode is known by its number, and an IPI by its reply. Assumes nothing.
use Rattle.std.proofs.Common.{◌≡◌, ℕ, zero, suc, ◌<◌, refl, sym, ap, ◌∙◌, arith}
use Rattle.types.specs.declared.Refusal.{Refusal}
use Rattle.types.specs.declared.Reply.{Reply}
use Rattle.types.specs.declared.Reply.TheVariants.{Refused, Nothing, One, Two, Three}
use Rattle.vlapic_icr.specs.declared.Ipi.{Ipi}
use Rattle.vlapic_icr.specs.declared.fields.DeliveryMode.{DeliveryMode}
use Rattle.vlapic_icr.specs.declared.fields.DeliveryMode.TheVariants.{Fixed, LowestPriority, Smi, Reserved3, Nmi, Init, StartUp, Reserved7}
use Rattle.vlapic_icr.specs.Kinds.{mode_number, mode_of, ipi_reply}

-- from a mode to its number and back
pub mode_back : (m : DeliveryMode) → mode_of (mode_number m) ≡ m
mode_back Fixed = refl
mode_back LowestPriority = refl
mode_back Smi = refl
mode_back Reserved3 = refl
mode_back Nmi = refl
mode_back Init = refl
mode_back StartUp = refl
mode_back Reserved7 = refl

-- and the other way round, of numbers of three bits
pub number_back : (n : ℕ) → n < 8 → mode_number (mode_of n) ≡ n
number_back zero h = refl
number_back (suc zero) h = refl
number_back (suc (suc zero)) h = refl
number_back (suc (suc (suc zero))) h = refl
number_back (suc (suc (suc (suc zero)))) h = refl
number_back (suc (suc (suc (suc (suc zero))))) h = refl
number_back (suc (suc (suc (suc (suc (suc zero)))))) h = refl
number_back (suc (suc (suc (suc (suc (suc (suc zero))))))) h = refl
number_back (suc (suc (suc (suc (suc (suc (suc (suc n)))))))) h = absurd (omega arith)

pub mode_small : (m : DeliveryMode) → mode_number m < 8
mode_small Fixed = omega arith
mode_small LowestPriority = omega arith
mode_small Smi = omega arith
mode_small Reserved3 = omega arith
mode_small Nmi = omega arith
mode_small Init = omega arith
mode_small StartUp = omega arith
mode_small Reserved7 = omega arith

-- what can be read back from a reply
abbrev ipi_of : Reply → Ipi
ipi_of (Three kind vector mask) = record { kind = mode_of kind; vector = record { 0 = vector }; mask = mask }
ipi_of (Refused why) = record { kind = Fixed; vector = record { 0 = 0 }; mask = 0 }
ipi_of Nothing = record { kind = Fixed; vector = record { 0 = 0 }; mask = 0 }
ipi_of (One a) = record { kind = Fixed; vector = record { 0 = 0 }; mask = 0 }
ipi_of (Two a b) = record { kind = Fixed; vector = record { 0 = 0 }; mask = 0 }

ipi_back : (i : Ipi) → ipi_of (ipi_reply i) ≡ i
ipi_back i = ap (λ (m : DeliveryMode). record { kind = m; vector = i.vector; mask = i.mask }) (mode_back i.kind)

pub ipi_same : (a b : Ipi) → ipi_reply a ≡ ipi_reply b → a ≡ b
ipi_same a b e = sym (ipi_back a) ∙ ap ipi_of e ∙ ipi_back b

pub ipi_some : (a : Ipi) → ipi_reply a ≡ Nothing → ⊥
ipi_some a e = let z : ◌≡◌ {A = ℕ} 0 1 = cc in omega (arith, z)

pub ipi_done : (a : Ipi) (why : Refusal) → ipi_reply a ≡ Refused why → ⊥
ipi_done a why e = let z : ◌≡◌ {A = ℕ} 0 1 = cc in omega (arith, z)
