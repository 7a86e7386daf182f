-- The logical id that x2APIC mode derives from an id: its members are one bit, and so a destination has it exactly where the cluster is the same and the bit is set. Assumes nothing.
use mathlib.Core.Path.{◌≡◌, refl, sym, ap, ◌∙◌}
use mathlib.Core.Bool.{Bool, true, false, ◌&&◌}
use Prim.Native.Nat.{ℕ, ◌/◌, ◌%◌, ◌^◌, ◌<◌}
use native.Mathlib.Nat.{mod-lt}
use native.Mathlib.Omega.{arith}
use lib.Dec.{eqb, lit<}
use lib.Pow.{pow-lt}
use borrow.Author.Tests.{eqb-true, eq-eqb}
use Rattle.utils.specs.Set.{bit}
use Rattle.utils.proofs.Bools.{and-false}
use Rattle.utils.proofs.Bits.{bit_power}
use Rattle.utils.proofs.Laws.{bit_cut}
use Rattle.vlapic_theorems.specs.Targets.{any, logical_id, cluster16}
use Rattle.vlapic_theorems.proofs.Targets.{any_holds, any_none}

-- a set of one member, and another set: they have a member in common exactly where the other has that one
pub one_of : (w n j d : ℕ) → j < w → ((k : ℕ) → k < w → bit n k ≡ eqb k j) → any w (λ k. bit n k && bit d k) ≡ bit d j
one_of w n j d h one = go (bit d j) refl
  where
    other : bit d j ≡ false → (k : ℕ) → k < w → (b : Bool) → eqb k j ≡ b → (bit n k && bit d k) ≡ false
    other e k l true q = let i : k ≡ j = eqb-true k j q in rw (i, e) (and-false (bit n j))
    other e k l false q = rw (one k l, q)

    go : (b : Bool) → bit d j ≡ b → any w (λ k. bit n k && bit d k) ≡ b
    go true e = any_holds w (λ k. bit n k && bit d k) j h (rw (one j h, eq-eqb j j refl) e)
    go false e = any_none w (λ k. bit n k && bit d k) (λ k l. other e k l (eqb k j) refl)

module _ (id : ℕ) where
  member_lt : id % 16 < 16
  member_lt = mod-lt id (lit< tt)

  power_lt : 2 ^ (id % 16) < 65536
  power_lt = pow-lt member_lt

  cluster_is : logical_id id / 0x10000 ≡ id / 16 % 0x10000
  cluster_is = let h : 2 ^ (id % 16) < 65536 = power_lt in omega arith

  members_are : logical_id id % 2 ^ 16 ≡ 2 ^ (id % 16)
  members_are = let h : 2 ^ (id % 16) < 65536 = power_lt in omega arith

  member_bit : (k : ℕ) → k < 16 → bit (logical_id id) k ≡ eqb k (id % 16)
  member_bit k h = sym (bit_cut (logical_id id) 16 k h) ∙ ap (λ (n : ℕ). bit n k) members_are ∙ bit_power (id % 16) k

  pub cluster_16 : (d : ℕ) → cluster16 id d ≡ (eqb (id / 16 % 0x10000) (d / 0x10000) && bit d (id % 16))
  cluster_16 d = rw (cluster_is, one_of 16 (logical_id id) (id % 16) d member_lt member_bit)
