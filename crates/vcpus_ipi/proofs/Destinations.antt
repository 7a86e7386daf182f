-- A logical destination against an xAPIC receiver's own registers. Assumes nothing.
use mathlib.Core.Path.{◌≡◌, refl}
use mathlib.Core.Bool.{Bool, true, false, cond, ◌&&◌}
use Prim.Native.Nat.{ℕ, ◌/◌}
use lib.Dec.{eqb}
use Rattle.vlapic_theorems.specs.Targets.{flat, cluster, is_logical_target}
use Rattle.vlapic_icr.specs.declared.InterruptCommand.{InterruptCommand}
use Rattle.vlapic_icr.specs.declared.DestMatch.TheVariants.{ReservedModel}
use Rattle.vlapic_icr.specs.Icr.{matching, dest_field_matched}
use Rattle.vlapic_theorems.proofs.Targets.{flat_same, cluster_same}
use Rattle.vcpus_ipi.specs.declared.Vcpu.{Vcpu}
use Rattle.vcpus_ipi.specs.Ipi.{receiver}
use Rattle.vcpus_ipi.specs.Steps.{is_matched}

-- the record's own LDR and DFR against a destination
pub model_matched : (f k : Bool) (a b : Bool) → is_matched (cond f (matching a) (cond k (matching b) ReservedModel)) ≡ cond f a (k && b)
model_matched true k true b = refl
model_matched true k false b = refl
model_matched false true a true = refl
model_matched false true a false = refl
model_matched false false a b = refl

pub own_matched : (r : Vcpu) (place d : ℕ) (s : InterruptCommand) → s.x2apic ≡ false → s.ldr ≡ r.regs.ldr → s.dfr ≡ r.regs.dfr → r.regs.x2apic ≡ false
    → is_matched (dest_field_matched s d) ≡ is_logical_target (receiver place r) d
unfolding dest_field_matched
own_matched r place d s x l f x' =
    rw (x, l, f, x', flat_same r.regs.ldr d, cluster_same r.regs.ldr d)
    (model_matched (eqb (r.regs.dfr / 0x10000000) 15) (eqb (r.regs.dfr / 0x10000000) 0) (flat r.regs.ldr d) (cluster r.regs.ldr d))
