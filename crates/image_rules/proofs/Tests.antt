-- How each test ends. Assumes nothing.
use mathlib.Core.Path.{◌≡◌, refl, sym, ◌∙◌, ap}
use mathlib.Core.Bool.{Bool, beq, true, false, cond, ◌&&◌}
use mathlib.Core.List.{List}
use Prim.Native.Nat.{ℕ, zero, suc, ◌<◌}
use native.Mathlib.Omega.{arith}
use lib.Dec.{eqb}
use borrow.Author.Tests.{eqb-true, eqb-false}
use Rattle.std.specs.Prelude.{◌↔◌, IsTrue}
use Rattle.utils.specs.Cases.{and_left_no, and_right_no, and_yes}
use Rattle.utils.proofs.Bools.{either, never}
use Rattle.vioapic.specs.IoApic.{version_of}
use Rattle.vioapic.specs.declared.IoApicVersion.TheVariants.{V11, V20}
use Rattle.vlapic.specs.declared.VirtualApicRegs.{VirtualApicRegs}
use Rattle.vlapic_words.specs.Words.{word}
use Rattle.vlapic_words.specs.Words as apic_view
use Rattle.vlapic_requests.specs.Requests.{write_tpr}
use Rattle.image_rules.specs.Rules.{all, same, is_v20, ppr_keeps}

pub same_is : (a b : Bool) → beq a b ≡ same a b
same_is true true = refl
same_is true false = refl
same_is false true = refl
same_is false false = refl

pub v20_is : (n : ℕ) → is_v20 (version_of n) ≡ eqb n 0x20
v20_is n = go (eqb n 0x20)
  where
    go : (b : Bool) → is_v20 (cond b V20 V11) ≡ b
    go true = refl
    go false = refl

-- ---- each of the first n

all_less : (p : ℕ → Bool) (n k : ℕ) → k < n → p k ≡ false → all n p ≡ false
unfolding all
all_less p zero k l h = absurd (omega arith)
all_less p (suc n) k l h = either (λ (_ : ℕ). (all n p && p n) ≡ false) (eqb k n) 0 0
    (λ q. and_right_no (all n p) (p n) (ap p (sym (eqb-true k n q)) ∙ h))
    (λ q. let d : (k ≡ n) → ⊥ = eqb-false k n q in and_left_no (all n p) (p n) (all_less p n k (omega arith) h))

-- where a test is true exactly where p holds of each
pub all_by : (n : ℕ) (p : ℕ → Bool) (b : Bool) → IsTrue b ↔ ((k : ℕ) → k < n → p k ≡ true) → b ≡ all n p
unfolding all
all_by n p b h = go b h (all n p) refl
  where
    every : (m : ℕ) → ((k : ℕ) → k < m → p k ≡ true) → all m p ≡ true
    every zero f = refl
    every (suc m) f = and_yes (all m p) (p m) (every m (λ k l. f k (omega arith))) (f m (omega arith))

    each : all n p ≡ true → (k : ℕ) → k < n → p k ≡ true
    each e k l = at (p k) refl
      where
        at : (a : Bool) → p k ≡ a → p k ≡ true
        at true q = q
        at false q = never e (all_less p n k l q)

    go : (b : Bool) → IsTrue b ↔ ((k : ℕ) → k < n → p k ≡ true) → (a : Bool) → all n p ≡ a → b ≡ a
    go true h true e = refl
    go false h false e = refl
    go true h false e = never (every n (h.0 refl)) e
    go false h true e = h.1 (each e)

pub ppr_kept : (l m : List ℕ) (t x y : ℕ) → t ≡ word l 2 → apic_view.view m ≡ write_tpr (apic_view.view l) t → x ≡ word m 3 → y ≡ word l 3 → eqb x y ≡ ppr_keeps l
unfolding apic_view.view
ppr_kept l m t x y et em ex ey = ap (λ (a : ℕ). eqb a y) (ex ∙ ap (λ (s : VirtualApicRegs). s.ppr) em ∙ ap (λ (a : ℕ). (write_tpr (apic_view.view l) a).ppr) et) ∙ ap (λ (a : ℕ). eqb (write_tpr (apic_view.view l) (word l 2)).ppr a) ey
