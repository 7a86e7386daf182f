-- What callers use of the counters' conversions. Assumes nothing.
use Rattle.std.proofs.Common.{◌≡◌, ℕ, Some, None, ◌+◌, ◌-◌, ◌^◌, ◌<◌, Bool, true, false, cond, eqb, ltb, sym, refl, ap, ◌∙◌, mod-eq_of_lt, arith, ltb-false, ltb-true, lt-ltb, ne_eqb}
use Rattle.utils.specs.Set.{bit}
use Rattle.utils.proofs.Laws.{bit_none}
use Rattle.utils.proofs.Bits.{bit_power}
use Rattle.types.specs.declared.Gsi.{Gsi}
use Rattle.types.specs.declared.PicLine.{PicLine}
use Rattle.types.specs.declared.VcpuId.{VcpuId}
use Rattle.types.specs.declared.PicPlace.TheVariants.{Master, Slave}
use Rattle.types.specs.Counters.{entry_index, place_of, vcpu_mask, apic_id, vcpu_of}

-- a GSI below 24 is its entry's index
pub entry_is : (g : Gsi) → g.0 < 24 → entry_index g ≡ g.0
entry_is g h = rw (lt-ltb g.0 24 h)

-- a place holds one of eight lines, and the pair's line comes back from it
pub master_line : (l k : PicLine) → place_of l ≡ Some (Master k) → (k ≡ l) × (k.0 < 8)
master_line l k e = go (ltb l.0 8) refl (ltb l.0 16) e
  where
    go : (b : Bool) → ltb l.0 8 ≡ b → (d : Bool) → cond b (Some (Master l)) (cond d (Some (Slave (record { 0 = l.0 - 8 }))) None) ≡ Some (Master k) → (k ≡ l) × (k.0 < 8)
    go true p d q = let s : k ≡ l = cc in (s, omega (arith, ltb-true l.0 8 p, ap (λ (x : PicLine). x.0) s))
    go false p true q = let z : ◌≡◌ {A = ℕ} 0 1 = cc in absurd (omega arith)
    go false p false q = let z : ◌≡◌ {A = ℕ} 0 1 = cc in absurd (omega arith)

pub slave_line : (l k : PicLine) → place_of l ≡ Some (Slave k) → (l.0 ≡ k.0 + 8) × (k.0 < 8)
slave_line l k e = go (ltb l.0 8) refl (ltb l.0 16) refl e
  where
    go : (b : Bool) → ltb l.0 8 ≡ b → (d : Bool) → ltb l.0 16 ≡ d
        → cond b (Some (Master l)) (cond d (Some (Slave (record { 0 = l.0 - 8 }))) None) ≡ Some (Slave k) → (l.0 ≡ k.0 + 8) × (k.0 < 8)
    go true p d t q = let z : ◌≡◌ {A = ℕ} 0 1 = cc in absurd (omega arith)
    go false p true t q =
        let s : ◌≡◌ {A = PicLine} (record { 0 = l.0 - 8 }) k = cc in
        let d : l.0 - 8 ≡ k.0 = ap (λ (x : PicLine). x.0) s in
        (omega (arith, ltb-false l.0 8 p), omega (arith, ltb-true l.0 16 t))
    go false p false t q = let z : ◌≡◌ {A = ℕ} 0 1 = cc in absurd (omega arith)

-- a vCPU's mask: whom it has among those that a mask can hold, and its number
pub mask_bit : (id : VcpuId) (i : ℕ) → i < 64 → bit (vcpu_mask id) i ≡ eqb i id.0
mask_bit id i h = go (ltb id.0 64) refl
  where
    go : (b : Bool) → ltb id.0 64 ≡ b → bit (cond b (2 ^ id.0) 0) i ≡ eqb i id.0
    go true e = bit_power id.0 i
    go false e = bit_none i ∙ sym (ne_eqb i id.0 (λ q. omega (arith, ltb-false id.0 64 e)))

pub mask_is : (id : VcpuId) → id.0 < 64 → vcpu_mask id ≡ 2 ^ id.0
mask_is id h = rw (lt-ltb id.0 64 h)

-- from an APIC's id to its vCPU and back, and the other way round for numbers of 32 bits
pub apic_back : (n : ℕ) → n < 2 ^ 32 → apic_id (vcpu_of n) ≡ n
apic_back n h = mod-eq_of_lt h

pub vcpu_back : (id : VcpuId) → id.0 < 2 ^ 32 → vcpu_of (apic_id id) ≡ id
vcpu_back id h = ap vcpu_of (mod-eq_of_lt h)
