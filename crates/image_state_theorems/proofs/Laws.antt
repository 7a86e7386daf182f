-- The tests of a restore are the chips' rules, both ways. Assumes nothing.
use mathlib.Core.Path.{◌≡◌, refl, sym, ◌∙◌, ap}
use mathlib.Core.Bool.{Bool, true, false, not, ◌&&◌}
use Prim.Native.Nat.{ℕ, zero, suc, ◌^◌, ◌<◌}
use native.Mathlib.Omega.{arith}
use lib.Dec.{eqb}
use lib.ListN.{length}
use borrow.Author.Tests.{eqb-true, eqb-false}
use Rattle.utils.specs.Cases.{and_yes}
use Rattle.utils.specs.Set.{bit}
use Rattle.utils.proofs.Bools.{either, and_true, not_is}
use Rattle.utils.proofs.Laws.{bit_set_of, set_of_same, set_of_bits}
use Rattle.vioapic_entry.specs.Redirection.{remote_irr}
use Rattle.vioapic.specs.State.{IoApicState}
use Rattle.vioapic.specs.Table.{is_version20, entry_at}
use Rattle.vioapic.specs.IoApic.{is_version}
use Rattle.vioapic_theorems.specs.Rules.{implies, entry_rules}
use Rattle.image_rules.specs.Rules.{all, same, entry_keeps_at, ioapic_keeps}
use Rattle.image_state_theorems.specs.Rules.{IoRules}

-- ---- each of the first n

pub all_true_lem : (p : ℕ → Bool) (n : ℕ) → all n p ≡ true → (k : ℕ) → k < n → p k ≡ true
unfolding all
all_true_lem p zero h k l = absurd (omega arith)
all_true_lem p (suc n) h k l =
    let a = and_true (all n p) (p n) h in
    either (λ (_ : ℕ). p k ≡ true) (eqb k n) 0 0
    (λ q. ap p (eqb-true k n q) ∙ a.1)
    (λ q. let d : (k ≡ n) → ⊥ = eqb-false k n q in all_true_lem p n a.0 k (omega arith))

pub true_all : (p : ℕ → Bool) (n : ℕ) → ((k : ℕ) → k < n → p k ≡ true) → all n p ≡ true
unfolding all
true_all p zero h = refl
true_all p (suc n) h = and_yes (all n p) (p n) (true_all p n (λ k l. h k (omega arith))) (h n (omega arith))

-- ---- the I/O APIC

pub same_is : (a b : Bool) → same a b ≡ true → a ≡ b
same_is true b h = sym h
same_is false b h = sym (not_is b h)

pub is_same : (a b : Bool) → a ≡ b → same a b ≡ true
is_same true b h = sym h
is_same false b h = rw (sym h)

module _ (s : IoApicState) where
  module _ (h : ioapic_keeps s ≡ true) where
    whole : (is_version s.version ≡ true) × (all 24 (entry_keeps_at s) ≡ true)
    unfolding ioapic_keeps
    whole = and_true (is_version s.version) (all 24 (entry_keeps_at s)) h

    parts : (g : ℕ) → g < 24 → (same (remote_irr (entry_at s g).word) (bit s.in_flight g) ≡ true) × ((entry_rules (is_version20 s) (entry_at s g) && implies (is_version20 s) (not (bit (entry_at s g).word 12))) ≡ true)
    parts g l = and_true (same (remote_irr (entry_at s g).word) (bit s.in_flight g)) (entry_rules (is_version20 s) (entry_at s g) && implies (is_version20 s) (not (bit (entry_at s g).word 12))) (all_true_lem (entry_keeps_at s) 24 whole.1 g l)

    more : (g : ℕ) → g < 24 → (entry_rules (is_version20 s) (entry_at s g) ≡ true) × (implies (is_version20 s) (not (bit (entry_at s g).word 12)) ≡ true)
    more g l = and_true (entry_rules (is_version20 s) (entry_at s g)) (implies (is_version20 s) (not (bit (entry_at s g).word 12))) (parts g l).1

    pub io_rules : length s.entries ≡ 24 → s.in_flight < 2 ^ 24 → IoRules s
    io_rules long small = record {
      chip = record {
        agrees = record {
          table = long;
          word = sym (set_of_bits 24 s.in_flight small) ∙ set_of_same 24 (bit s.in_flight) (λ g. remote_irr (entry_at s g).word) (λ g l. sym (same_is (remote_irr (entry_at s g).word) (bit s.in_flight g) (parts g l).0));
        };
        each = λ g l. (more g l).0;
      };
      version = whole.0;
      clear = λ v. record { table = long; each = λ g l. not_is (bit (entry_at s g).word 12) (rw v at (more g l).1) };
    }

  pub io_kept : IoRules s → ioapic_keeps s ≡ true
  unfolding ioapic_keeps
  io_kept r = and_yes (is_version s.version) (all 24 (entry_keeps_at s)) r.version (true_all (entry_keeps_at s) 24 (λ g l.
      and_yes (same (remote_irr (entry_at s g).word) (bit s.in_flight g)) (entry_rules (is_version20 s) (entry_at s g) && implies (is_version20 s) (not (bit (entry_at s g).word 12)))
      (is_same (remote_irr (entry_at s g).word) (bit s.in_flight g) (sym (ap (λ (n : ℕ). bit n g) r.chip.agrees.word ∙ bit_set_of 24 (λ j. remote_irr (entry_at s j).word) g l)))
      (and_yes (entry_rules (is_version20 s) (entry_at s g)) (implies (is_version20 s) (not (bit (entry_at s g).word 12))) (r.chip.each g l) (clear g l))))
    where
      clear : (g : ℕ) → g < 24 → implies (is_version20 s) (not (bit (entry_at s g).word 12)) ≡ true
      clear g l = either (λ (b : Bool). b ≡ true) (is_version20 s) (not (bit (entry_at s g).word 12)) true (λ v. rw ((r.clear v).each g l)) (λ v. refl)
