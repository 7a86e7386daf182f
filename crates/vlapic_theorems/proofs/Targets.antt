-- The destination that a command works out is the one that the SDM's words name, vCPU by vCPU. Assumes nothing.
use mathlib.Core.Path.{◌≡◌, refl, sym, ap, ◌∙◌}
use mathlib.Core.Bool.{Bool, true, false, not, cond, ◌&&◌, ◌||◌}
use Prim.Native.Nat.{ℕ, zero, suc, ◌/◌, ◌%◌, ◌^◌, ◌≤◌, ◌<◌}
use native.Mathlib.Nat.{mod-lt}
use native.Mathlib.Omega.{arith}
use lib.Dec.{eqb, ltb}
use lib.Pow.{pow_pos}
use borrow.Author.Tests.{eqb-true, eqb-false, eq-eqb, ne_eqb, ltb-true, ltb-false, lt-ltb, le-ltb}
use Rattle.utils.specs.Set.{bit, without, below, first}
use Rattle.utils.proofs.Bools.{never, and-false, or_false}
use Rattle.utils.proofs.Bits.{bit_power}
use Rattle.utils.proofs.Laws.{bit_above, bit_none, bit_cut, bit_without_same, bit_without_other, same_bits}
use Rattle.utils.proofs.Search.{first_holds, first_before}
use Rattle.std.specs.Prelude.{Result, Ok, Err}
use Rattle.types.specs.declared.Refusal.{Refusal}
use Rattle.types.specs.declared.Refusal.TheVariants.{InvalidDelivery, OutOfRange}
use Rattle.types.specs.Counters.{vcpu_mask, vcpu_of}
use Rattle.types.proofs.Counters.{mask_bit}
use Rattle.vlapic_icr.specs.declared.InterruptCommand.{InterruptCommand}
use Rattle.vlapic_icr.specs.declared.DestMatch.TheVariants.{Matched, ReservedModel}
use Rattle.vlapic_icr.specs.Fields.{shorthand, is_logical}
use Rattle.vlapic_icr.specs.Icr.{is_broadcast, in_cluster, matching, dest_field_matched, logical_dest, physical_dest, dest_no_shorthand, calculate_dest}
use Rattle.vlapic.specs.declared.VirtualApicRegs.{VirtualApicRegs}
use Rattle.vlapic.specs.Regs.{with_command}
use Rattle.vlapic.specs.Calls.{command_of}
use Rattle.vlapic_theorems.specs.Targets.{any, Destination, Self, AllIncludingSelf, AllExcludingSelf, Broadcast, Physical, Logical, destination_of, flat, cluster, cluster16, is_named, asks_active}
use Rattle.vlapic_theorems.specs.Numbers.{is_unmatchable, is_above63}

-- ---- somewhere below w

pub any_holds : (w : ℕ) (p : ℕ → Bool) (k : ℕ) → k < w → p k ≡ true → any w p ≡ true
any_holds zero p k h e = absurd (omega arith)
any_holds (suc w) p k h e = go (λ l. any_holds w p k l e) (eqb k w) refl
  where
    earlier : (b : Bool) → any w p ≡ true → (b || any w p) ≡ true
    earlier true q = refl
    earlier false q = q

    go : (k < w → any w p ≡ true) → (b : Bool) → eqb k w ≡ b → any (suc w) p ≡ true
    go rest true q = let i : k ≡ w = eqb-true k w q in rw (sym (ap p i) ∙ e)
    go rest false q = earlier (p w) (rest (omega (arith, eqb-false k w q)))

pub any_none : (w : ℕ) (p : ℕ → Bool) → ((k : ℕ) → k < w → p k ≡ false) → any w p ≡ false
any_none zero p h = refl
any_none (suc w) p h = rw (h w (omega arith), any_none w p (λ k l. h k (omega arith)))

-- what is nowhere is not here
pub any_here : (w : ℕ) (p : ℕ → Bool) → any w p ≡ false → (k : ℕ) → k < w → p k ≡ false
any_here w p e k h = go (p k) refl
  where
    go : (b : Bool) → p k ≡ b → b ≡ false
    go true q = never (any_holds w p k h q) e
    go false q = refl

pub any_some : (w : ℕ) (p : ℕ → Bool) → any w p ≡ true → (k : ℕ) × ((k < w) × (p k ≡ true))
any_some zero p e = never e refl
any_some (suc w) p e = go (λ r. any_some w p r) (p w) refl e
  where
    go : (any w p ≡ true → (k : ℕ) × ((k < w) × (p k ≡ true))) → (b : Bool) → p w ≡ b → (b || any w p) ≡ true → (k : ℕ) × ((k < suc w) × (p k ≡ true))
    go rest true q r = (w, (omega arith, q))
    go rest false q r = let t = rest r in (t.0, (omega (arith, t.1.0), t.1.1))

-- the search's way to say it
pub first_any : (w : ℕ) (p : ℕ → Bool) → ltb (first w p) w ≡ any w p
first_any w p = go (ltb (first w p) w) refl
  where
    go : (b : Bool) → ltb (first w p) w ≡ b → b ≡ any w p
    go true e = let h : first w p < w = ltb-true (first w p) w e in sym (any_holds w p (first w p) h (first_holds w p h))
    go false e = let h : w ≤ first w p = ltb-false (first w p) w e in sym (any_none w p (λ k l. first_before w p k (omega arith)))

-- two tests that agree below m, where the first holds nowhere from m up
any_cut : (w m : ℕ) (p q : ℕ → Bool) → m ≤ w → ((k : ℕ) → k < m → p k ≡ q k) → ((k : ℕ) → m ≤ k → p k ≡ false) → any w p ≡ any m q
any_cut w m p q h same above = go (any m q) refl
  where
    low : (k : ℕ) → any m q ≡ false → (b : Bool) → ltb k m ≡ b → p k ≡ false
    low k e true l = let i : k < m = ltb-true k m l in same k i ∙ any_here m q e k i
    low k e false l = above k (ltb-false k m l)

    go : (b : Bool) → any m q ≡ b → any w p ≡ b
    go true e = let t = any_some m q e in any_holds w p t.0 (omega (arith, t.1.0)) (same t.0 t.1.0 ∙ t.1.1)
    go false e = any_none w p (λ k l. low k e (ltb k m) refl)

-- two sets, cut to m
common : (w m a b : ℕ) → m ≤ w → ltb (first w (λ k. bit (a % 2 ^ m) k && bit (b % 2 ^ m) k)) w ≡ any m (λ k. bit a k && bit b k)
common w m a b h =
    first_any w (λ k. bit (a % 2 ^ m) k && bit (b % 2 ^ m) k)
    ∙ any_cut w m (λ k. bit (a % 2 ^ m) k && bit (b % 2 ^ m) k) (λ k. bit a k && bit b k) h
    (λ k l. rw (bit_cut a m k l, bit_cut b m k l))
    (λ k l. rw (bit_above m (a % 2 ^ m) k (mod-lt a (pow_pos m)) l))

-- ---- the two models of xAPIC mode

pub flat_same : (ldr d : ℕ) → ltb (first 8 (λ k. bit (ldr / 0x1000000) k && bit (d % 256) k)) 8 ≡ flat ldr d
flat_same ldr d =
    first_any 8 (λ k. bit (ldr / 0x1000000) k && bit (d % 256) k)
    ∙ any_cut 8 8 (λ k. bit (ldr / 0x1000000) k && bit (d % 256) k) (λ k. bit (ldr / 0x1000000) k && bit d k) (omega arith)
    (λ k l. ap (λ (b : Bool). bit (ldr / 0x1000000) k && b) (bit_cut d 8 k l))
    (λ k l. ap (λ (b : Bool). bit (ldr / 0x1000000) k && b) (bit_above 8 (d % 256) k (mod-lt d (pow_pos 8)) l) ∙ and-false (bit (ldr / 0x1000000) k))

pub cluster_same : (ldr d : ℕ) → in_cluster ldr d ≡ cluster ldr d
cluster_same ldr d = go (eqb (ldr / 0x10000000) (d / 16 % 16))
  where
    go : (b : Bool) → (b && ltb (first 8 (λ k. bit (ldr / 0x1000000 % 16) k && bit (d % 16) k)) 8) ≡ (b && any 4 (λ k. bit (ldr / 0x1000000) k && bit d k))
    go true = common 8 4 (ldr / 0x1000000) d (omega arith)
    go false = refl

-- ---- the destination, by its kind

-- what the command goes by, and the destination in its words
abbrev pub asked : VirtualApicRegs → ℕ → ℕ → InterruptCommand
asked s lo hi = command_of (with_command s lo hi)

worked_out : InterruptCommand → ℕ → ℕ → Destination → Result ℕ Refusal
worked_out c num active Self = Ok (vcpu_mask (vcpu_of c.vapic_id))
worked_out c num active AllIncludingSelf = Ok active
worked_out c num active AllExcludingSelf = Ok (without active c.vapic_id)
worked_out c num active Broadcast = Ok active
worked_out c num active (Physical d) = physical_dest d
worked_out c num active (Logical d) = logical_dest (dest_field_matched c d) num active

calculated : (c : InterruptCommand) (num active : ℕ) → calculate_dest c num active ≡ worked_out c num active (destination_of c.x2apic c.icr_lo c.icr_hi)
unfolding calculate_dest dest_no_shorthand worked_out
calculated c num active = go (eqb (shorthand c.icr_lo) 1) (eqb (shorthand c.icr_lo) 2) (eqb (shorthand c.icr_lo) 3) (is_broadcast c) (is_logical c.icr_lo)
  where
    d : ℕ
    d = cond c.x2apic c.icr_hi (c.icr_hi / 0x1000000)

    go : (b1 b2 b3 all logical : Bool)
        → cond b1 (Ok (vcpu_mask (vcpu_of c.vapic_id)))
        (cond b2 (Ok active)
        (cond b3 (Ok (without active c.vapic_id))
        (cond all (Ok active) (cond logical (logical_dest (dest_field_matched c d) num active) (physical_dest d)))))
        ≡ worked_out c num active
        (cond b1 Self (cond b2 AllIncludingSelf (cond b3 AllExcludingSelf (cond all Broadcast (cond logical (Logical d) (Physical d))))))
    go true b2 b3 all logical = refl
    go false true b3 all logical = refl
    go false false true all logical = refl
    go false false false true logical = refl
    go false false false false true = refl
    go false false false false false = refl

-- ---- who is named

-- i is hit by the destination, whatever the count
abbrev pub is_hit : VirtualApicRegs → ℕ → Destination → ℕ → Bool
is_hit s active dest i = is_named s dest i && (bit active i || not (asks_active dest))

-- the mask has those who are hit, below the count; or there is no mask, since nobody can be
pub data Says (num : ℕ) (hit : ℕ → Bool) (three five : Bool) : Result ℕ Refusal → Type 0 where
  masked : {mask : ℕ} → ((i : ℕ) → i < num → bit mask i ≡ hit i) → three ≡ false → five ≡ false → Says num hit three five (Ok mask)
  unmatchable : ((i : ℕ) → i < num → hit i ≡ false) → three ≡ true → five ≡ false → Says num hit three five (Err InvalidDelivery)
  beyond : ((i : ℕ) → i < num → hit i ≡ false) → three ≡ false → five ≡ true → Says num hit three five (Err OutOfRange)

-- whether anybody below the count is active
somebody : (num active : ℕ) → any num (bit active) ≡ true → eqb (below active num) 0 ≡ false
somebody num active e =
    let t = any_some num (bit active) e in
    ne_eqb (below active num) 0 (λ z. never (bit_cut active num t.0 t.1.0 ∙ t.1.1) (ap (λ (n : ℕ). bit n t.0) z ∙ bit_none t.0))

pub nobody : (num active : ℕ) → any num (bit active) ≡ false → eqb (below active num) 0 ≡ true
nobody num active e =
    eq-eqb (below active num) 0
    (same_bits num (below active num) 0 (mod-lt active (pow_pos num)) (pow_pos num) (λ k l. bit_cut active num k l ∙ any_here num (bit active) e k l ∙ sym (bit_none k)))

-- a vCPU that is hit if it is active
active_hit : (b : Bool) → b ≡ (true && (b || false))
active_hit b = sym (or_false b)

module _ (s : VirtualApicRegs) (lo hi num active : ℕ) (inside : num ≤ 64) where
  self_hit : (i : ℕ) → i < num → bit (vcpu_mask (vcpu_of s.vapic_id)) i ≡ is_hit s active Self i
  self_hit i l = mask_bit (vcpu_of s.vapic_id) i (omega arith) ∙ go (eqb i s.vapic_id) (bit active i)
    where
      go : (b a : Bool) → b ≡ (b && (a || true))
      go true true = refl
      go true false = refl
      go false a = refl

  all_hit : (i : ℕ) → bit active i ≡ is_hit s active AllIncludingSelf i
  all_hit i = active_hit (bit active i)

  broadcast_hit : (i : ℕ) → bit active i ≡ is_hit s active Broadcast i
  broadcast_hit i = active_hit (bit active i)

  others_hit : (i : ℕ) → bit (without active s.vapic_id) i ≡ is_hit s active AllExcludingSelf i
  others_hit i = go (eqb i s.vapic_id) refl
    where
      go : (b : Bool) → eqb i s.vapic_id ≡ b → bit (without active s.vapic_id) i ≡ (not b && (bit active i || false))
      go true e = let q : i ≡ s.vapic_id = eqb-true i s.vapic_id e in rw q (bit_without_same active s.vapic_id)
      go false e = bit_without_other active s.vapic_id i (eqb-false i s.vapic_id e) ∙ sym (or_false (bit active i))

  physical_says : (d : ℕ) → Says num (is_hit s active (Physical d)) false (is_above63 (Physical d)) (physical_dest d)
  physical_says d = go (ltb d 64) refl
    where
      power_hit : (i : ℕ) → bit (2 ^ d) i ≡ is_hit s active (Physical d) i
      power_hit i = bit_power d i ∙ one (eqb i d) (bit active i)
        where
          one : (b a : Bool) → b ≡ (b && (a || true))
          one true true = refl
          one true false = refl
          one false a = refl

      go : (b : Bool) → ltb d 64 ≡ b → Says num (is_hit s active (Physical d)) false (is_above63 (Physical d)) (cond b (Ok (2 ^ d)) (Err OutOfRange))
      go true e = let h : d < 64 = ltb-true d 64 e in masked (λ i l. power_hit i) refl (le-ltb 63 d (omega arith))
      go false e =
          let h : 64 ≤ d = ltb-false d 64 e in
          beyond (λ i l. rw (ne_eqb i d (λ q. omega arith))) refl (lt-ltb 63 d (omega arith))

  -- a logical destination: named or not, and under a reserved model
  match_says : (named reserved : Bool) → (reserved ≡ true → named ≡ false)
      → Says num (λ i. named && (bit active i || false)) (reserved && any num (bit active)) false (logical_dest (cond reserved ReservedModel (matching named)) num active)
  match_says true true n = never refl (n refl)
  match_says true false n = masked (λ i l. active_hit (bit active i)) refl refl
  match_says false false n = masked (λ i l. bit_none i) refl refl
  match_says false true n = go (any num (bit active)) refl
    where
      go : (b : Bool) → any num (bit active) ≡ b → Says num (λ i. false) (any num (bit active)) false (cond (eqb (below active num) 0) (Ok 0) (Err InvalidDelivery))
      go true e = rw (somebody num active e) (unmatchable (λ i l. refl) e refl)
      go false e = rw (nobody num active e) (masked (λ i l. bit_none i) e refl)

  -- by mode and model
  model_says : (x2apic isFlat isCluster inFlat in_cluster : Bool) (in16 : ℕ → Bool)
      → Says num (λ i. (x2apic || cond x2apic (in16 i) (cond isFlat inFlat (isCluster && in_cluster))) && (bit active i || false))
      ((not x2apic && not (isFlat || isCluster)) && any num (bit active))
      false
      (logical_dest (cond x2apic Matched (cond isFlat (matching inFlat) (cond isCluster (matching in_cluster) ReservedModel))) num active)
  model_says true f z a b c = match_says true false (λ r. never r refl)
  model_says false true z a b c = match_says a false (λ r. never r refl)
  model_says false false true a b c = match_says b false (λ r. never r refl)
  model_says false false false a b c = match_says false true (λ r. refl)

  logical_says : (d : ℕ) → Says num (is_hit s active (Logical d)) (is_unmatchable s (Logical d) && any num (bit active)) false (logical_dest (dest_field_matched (asked s lo hi) d) num active)
  unfolding dest_field_matched
  logical_says d =
      rw (flat_same s.ldr d, cluster_same s.ldr d)
      (model_says s.x2apic (eqb (s.dfr / 0x10000000) 15) (eqb (s.dfr / 0x10000000) 0) (flat s.ldr d) (cluster s.ldr d) (λ i. cluster16 i d))

  says : (dest : Destination) → Says num (is_hit s active dest) (is_unmatchable s dest && any num (bit active)) (is_above63 dest) (worked_out (asked s lo hi) num active dest)
  unfolding worked_out
  says Self = masked self_hit refl refl
  says AllIncludingSelf = masked (λ i l. all_hit i) refl refl
  says AllExcludingSelf = masked (λ i l. others_hit i) refl refl
  says Broadcast = masked (λ i l. broadcast_hit i) refl refl
  says (Physical d) = physical_says d
  says (Logical d) = logical_says d

  pub destination_says :
      Says num (is_hit s active (destination_of s.x2apic lo hi)) (is_unmatchable s (destination_of s.x2apic lo hi) && any num (bit active)) (is_above63 (destination_of s.x2apic lo hi))
      (calculate_dest (asked s lo hi) num active)
  destination_says = rw (calculated (asked s lo hi) num active) (says (destination_of s.x2apic lo hi))
