-- Acceptance takes the highest request that PPR lets through, and an EOI ends the highest vector in service. Assumes nothing.
use Prim.Native.Nat.{ℕ, ◌≤◌, ◌<◌}
use native.Mathlib.Omega.{arith}
use mathlib.Core.Bool.{Bool, true, false}
use mathlib.Core.List.{List}
use mathlib.Core.Path.{◌≡◌, refl}
use borrow.Author.Tests.{ne_eqb, lt-ltb, ltb-true, ltb-false, leb-true, le-leb}
use lib.Dec.{leb, ltb}
use Rattle.utils.specs.Vectors.{class_of}
use Rattle.utils.proofs.Bools.{never, and_true}
use Rattle.utils.proofs.Search.{last_is, last_none, last_after}
use Rattle.vlapic.specs.declared.VirtualApicRegs.{VirtualApicRegs}
use Rattle.vlapic_regs.specs.Vectors.{in_words, highest_from}
use Rattle.vlapic_regs.proofs.Highest.{served}
use Rattle.vlapic_requests.specs.Requests.{highest, is_acceptable}
use Rattle.vlapic_requests.specs.Requests as apic
use Rattle.board.specs.Board.{accept_interrupt, handle_eoi}
use Rattle.board_theorems.specs.Highest.{can_pass, Highest, AcceptsHighest, AcceptsNone, EndsHighest, EndsNone}
use Rattle.board_theorems.proofs.Rules.{highest_small, highest_in}

-- nothing in the words is above the highest
pub highest_top : (words : List ℕ) (u : ℕ) → 16 ≤ u → u < 256 → in_words words u ≡ true → u ≤ highest words
unfolding highest_from
highest_top words u l h e = go (ltb (highest words) u) refl
  where
    go : (b : Bool) → ltb (highest words) u ≡ b → u ≤ highest words
    go true q = never (rw (le-leb 16 u l, e)) (last_after 256 (served 16 words) u (ltb-true (highest words) u q) h)
    go false q = omega (arith, ltb-false (highest words) u q)

-- ---- requests

-- a request that can be accepted is legal
pub pass_legal : (s : VirtualApicRegs) (u : ℕ) → can_pass s u ≡ true → (in_words s.irr u ≡ true) × (class_of s.ppr < class_of u) × (16 ≤ u)
pass_legal s u h =
    let p = and_true (in_words s.irr u) (ltb (class_of s.ppr) (class_of u)) h in
    let l : class_of s.ppr < class_of u = ltb-true (class_of s.ppr) (class_of u) p.1 in
    (p.0, l, omega arith)

-- the highest that can be accepted is the highest request
pub passing : (s : VirtualApicRegs) (v : ℕ) → Highest (can_pass s) v → highest s.irr ≡ v
unfolding highest_from
passing s v h = last_is 256 (served 16 s.irr) v h.small (rw (le-leb 16 v own.2, own.0)) (λ j a b. above j a b (served 16 s.irr j) refl)
  where
    own : (in_words s.irr v ≡ true) × (class_of s.ppr < class_of v) × (16 ≤ v)
    own = pass_legal s v h.holds

    above : (j : ℕ) → v < j → j < 256 → (b : Bool) → served 16 s.irr j ≡ b → served 16 s.irr j ≡ false
    above j a b false e = e
    above j a b true e =
        let p = and_true (leb 16 j) (in_words s.irr j) e in
        let l : class_of s.ppr < class_of j = omega (arith, own.1, h.small) in
        never (rw (p.1, lt-ltb (class_of s.ppr) (class_of j) l)) (h.above j a b)

pub accepts_highest : AcceptsHighest
unfolding accept_interrupt apic.accept
accepts_highest b v h =
    let e : highest b.apic.irr ≡ v.0 = passing b.apic v.0 h in
    let l = pass_legal b.apic v.0 h.holds in
    let p : ltb (class_of b.apic.ppr) (class_of v.0) ≡ true = lt-ltb (class_of b.apic.ppr) (class_of v.0) l.1 in
    rw (e, p)

pub accepts_none : AcceptsNone
unfolding accept_interrupt apic.accept
accepts_none b h = rw (go (is_acceptable b.apic) refl)
  where
    go : (c : Bool) → is_acceptable b.apic ≡ c → is_acceptable b.apic ≡ false
    go false e = e
    go true e =
        let l : class_of b.apic.ppr < class_of (highest b.apic.irr) = ltb-true (class_of b.apic.ppr) (class_of (highest b.apic.irr)) e in
        let i : in_words b.apic.irr (highest b.apic.irr) ≡ true = highest_in b.apic.irr (λ z. omega arith) in
        never (rw (i, e)) (h (highest b.apic.irr) (highest_small b.apic.irr))

-- ---- in service

pub ends_highest : EndsHighest
unfolding handle_eoi apic.end_highest highest_from
ends_highest b v h =
    let e : highest b.apic.isr ≡ v.0 = serving in
    let l : 16 ≤ v.0 = leb-true 16 v.0 (and_true (leb 16 v.0) (in_words b.apic.isr v.0) h.holds).0 in
    rw (e, ne_eqb v.0 0 (λ z. omega arith))
  where
    serving : highest b.apic.isr ≡ v.0
    serving = last_is 256 (served 16 b.apic.isr) v.0 h.small h.holds h.above

pub ends_none : EndsNone
unfolding handle_eoi apic.end_highest highest_from
ends_none b h = let e : highest b.apic.isr ≡ 0 = idle in rw e
  where
    idle : highest b.apic.isr ≡ 0
    idle = last_none 256 (served 16 b.apic.isr) h
