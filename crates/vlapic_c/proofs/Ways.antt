-- A call's answer, its reply and the reply's code. Assumes nothing.
use Prim.Native.Nat.{ℕ, ◌≤◌, ◌<◌}
use mathlib.Core.Bool.{Bool}
use mathlib.Core.List.{List}
use mathlib.Core.Path.{◌≡◌, refl, ap, ap₂, ◌∙◌, subst}
use borrow.Author.Tests.{lt-ltb, le-ltb}
use Rattle.utils.specs.Cases.{cond_yes, cond_no}
use Rattle.types.specs.declared.Refusal.TheVariants.{InvalidRegister, OutOfRange}
use Rattle.types.specs.declared.Reply.{Reply}
use Rattle.types.specs.declared.Reply.TheVariants.{Refused, Nothing}
use Rattle.types.specs.declared.VcpuId.{VcpuId}
use Rattle.types.specs.Reply.{Outcome, Kept}
use Rattle.reply_code.specs.Lent.{reply_code, is_up}
use Rattle.vlapic.specs.declared.VirtualApicRegs.{VirtualApicRegs}
use Rattle.vlapic.specs.Answers.{refused}
use Rattle.vlapic.specs.Priority.{accept_interrupt}
use Rattle.vlapic.specs.Calls.{setup, handle_write}
use Rattle.vlapic_words.specs.Words.{view}
use Rattle.vlapic_words.specs.Calls.{Leaves, refused_words}
use Rattle.vlapic_words.proofs.Ways.{same, leaves_as}
use Rattle.vlapic_c.specs.Calls.{coded, Lent, accepting, sent_code, sent_mask, sent, LentSent, writing, writing_refused}

module _ (l kept m : List ℕ) (r : Reply) (o : Outcome VirtualApicRegs) (k : Leaves l kept m r o) where
  kept_is : Kept o.reply kept m
  kept_is = subst (λ (p : Outcome VirtualApicRegs). Kept p.reply kept m) k.outcome k.refused

  pub lent : (x : Reply) (c : ℕ) → x ≡ r → c ≡ reply_code x → Lent l kept m c o
  lent x c e q = record {
    outcome = ap (λ (y : ℕ). record { state = view m; code = y }) (q ∙ ap reply_code e) ∙ ap coded k.outcome;
    refused = kept_is;
    stored = k.stored;
  }

  pub lent_sent : (ipi after : List ℕ) (c : ℕ) → c ≡ sent_code r → after ≡ sent_mask ipi r → LentSent l kept m ipi after c o
  lent_sent ipi after c q e = record {
    outcome = ap₂ (λ (y : ℕ) (z : List ℕ). record { state = view m; ipi = z; code = y }) q e ∙ ap (sent ipi) k.outcome;
    refused = kept_is;
    stored = k.stored;
  }

pub setup_code : (l m : List ℕ) (x : Bool) (n num : ℕ) (id : VcpuId) (r y : Reply) (c : ℕ) → x ≡ is_up n → Leaves l l m r (setup (view l) x id num) → y ≡ r → c ≡ reply_code y
    → Lent l l m c (setup (view l) (is_up n) id num)
setup_code l m x n num id r y c e k p q = lent l l m r _ (leaves_as (setup (view l) (is_up n) id num) l k (ap (λ (b : Bool). setup (view l) b id num) e) refl) y c p q

-- a vector
module _ (l : List ℕ) (v level : ℕ) where
  pub accept_wide : (c : ℕ) → 255 < v → c ≡ reply_code (Refused OutOfRange) → Lent l l l c (accepting (view l) v level)
  unfolding accepting
  accept_wide c h q = lent l l l _ _ (same l (Refused OutOfRange) (accepting (view l) v level) (cond_yes _ _ _ _ _ (lt-ltb 255 v h) refl)) _ c refl q

  pub accept_code : (m : List ℕ) (x : Bool) → v ≤ 255 → x ≡ is_up level → Leaves l l m Nothing (accept_interrupt (view l) (record { 0 = v }) x) → Lent l l m 0 (accepting (view l) v level)
  unfolding accepting
  accept_code m x h e k =
      lent l l m Nothing _ (leaves_as (accepting (view l) v level) l k (cond_no _ _ _ _ _ (le-ltb 255 v h) (ap (accept_interrupt (view l) (record { 0 = v })) e)) refl) Nothing 0 refl refl

-- a write
module _ (l ipi : List ℕ) (o val width num active : ℕ) where
  pub write_wide : (c : ℕ) → 255 < width → c ≡ reply_code (Refused InvalidRegister)
      → LentSent l (writing_refused l o val width num) l ipi ipi c (writing (view l) o val width num active)
  unfolding writing writing_refused
  write_wide c h q =
      lent_sent l _ l _ _
      (leaves_as (writing (view l) o val width num active) (writing_refused l o val width num) (same l (Refused InvalidRegister) (refused (view l) InvalidRegister) refl)
      (cond_yes _ _ _ _ _ (lt-ltb 255 width h) refl) (cond_yes _ _ _ _ _ (lt-ltb 255 width h) refl))
      ipi ipi c q refl

  pub write_code : (m after : List ℕ) (r : Reply) (c : ℕ) → width ≤ 255 → Leaves l (refused_words l o val width num) m r (handle_write (view l) o val width num active)
      → (c ≡ sent_code r) × (after ≡ sent_mask ipi r) → LentSent l (writing_refused l o val width num) m ipi after c (writing (view l) o val width num active)
  unfolding writing writing_refused
  write_code m after r c h k e =
      lent_sent l _ m _ _
      (leaves_as (writing (view l) o val width num active) (writing_refused l o val width num) k
      (cond_no _ _ _ _ _ (le-ltb 255 width h) refl) (cond_no _ _ _ _ _ (le-ltb 255 width h) refl))
      ipi after c e.0 e.1
