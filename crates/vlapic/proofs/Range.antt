-- What is known of a vCPU count and an id that are not refused. Assumes nothing.
use mathlib.Core.Path.{◌≡◌, refl, sym, ap, ◌∙◌}
use mathlib.Core.Bool.{Bool, true, false, ◌||◌, true≢false}
use Prim.Native.Nat.{ℕ, ◌≤◌}
use native.Mathlib.Omega.{arith}
use lib.Dec.{ltb}
use borrow.Author.Tests.{ltb-false}
use Rattle.types.specs.declared.VcpuId.{VcpuId}
use Rattle.types.specs.Counters.{apic_id, vcpu_of}
use Rattle.types.proofs.Counters.{apic_back}
use Rattle.vlapic.specs.Calls.{out_of_range}

pub in_range : (num id : ℕ) → out_of_range num id ≡ false → (num ≤ 64) × (id ≤ 63)
in_range num id h = go (ltb 64 num) refl h
  where
    go : (b : Bool) → ltb 64 num ≡ b → (b || ltb 63 id) ≡ false → (num ≤ 64) × (id ≤ 63)
    go true e q = absurd (true≢false q)
    go false e q = (ltb-false 64 num e, ltb-false 63 id q)

-- the vCPU of an own id that was tested
pub own_range : (num id : ℕ) (v : VcpuId) (r b : Bool) → v ≡ vcpu_of id → r ≡ out_of_range num v.0 → r ≡ b → out_of_range num id ≡ b
own_range num id v r b e q t = ap (λ (w : VcpuId). out_of_range num w.0) (sym e) ∙ sym q ∙ t

-- a vCPU that isn't refused is its local APIC's id
pub id_kept_lem : (num : ℕ) (v : VcpuId) (id : ℕ) (r : Bool) → r ≡ out_of_range num v.0 → r ≡ false → id ≡ apic_id v → id ≡ v.0
id_kept_lem num v id r q t e =
    let h : v.0 ≤ 63 = (in_range num v.0 (sym q ∙ t)).1 in
    e ∙ apic_back v.0 (omega arith)
