-- Which machine a run starts with. Assumes nothing.
use Prim.Native.Nat.{ℕ}
use mathlib.Core.Bool.{Bool, true, false, cond, ◌&&◌}
use mathlib.Core.List.{List}
use mathlib.Core.Path.{◌≡◌, refl, ap, ◌∙◌}
use native.Mathlib.Omega.{arith}
use Rattle.types.specs.declared.Refusal.{Refusal}
use Rattle.types.specs.declared.Refusal.TheVariants.{BadImage}
use Rattle.std.specs.Prelude.{Result, Ok, Err}
use Rattle.types.specs.declared.Reply.TheVariants.{Refused, Nothing}
use Rattle.types.specs.Reply.{Outcome, outcome_of, reply_number}
use Rattle.types.proofs.Replies.{refused_not_done}
use Rattle.image_format.specs.Reading.{is_read}
use Rattle.image.specs.Restore.{Chips, chips, chips_of, row_in, row_keeps, restore_reply, not_restored, put_back, restored}
use Rattle.script_machine.specs.declared.Vm.{Vm}
use Rattle.script_machine.specs.Machine.{Machine, machine_in, new_machine}
use Rattle.script_resume.specs.Resumed.{moved, is_none, is_taken, started, start_of}

abbrev number : Outcome Chips → ℕ
number o = reply_number o.reply

-- a restore that took the image left the image's chips
took : (s : List ℕ) (before q : Chips) (a : Result (Unit {0}) Refusal) → outcome_of q (restore_reply a) ≡ restored s before → a ≡ Ok tt → (is_taken s ≡ true) × (q ≡ chips_of (row_in s))
unfolding restored put_back
took s before q a h e = go (is_read s) (row_keeps (row_in s)) (rw e at h)
  where
    go : (b₁ b₂ : Bool) → outcome_of q Nothing ≡ cond b₁ (cond b₂ (outcome_of (chips_of (row_in s)) Nothing) (not_restored before)) (not_restored before)
        → (b₁ && b₂ ≡ true) × (q ≡ chips_of (row_in s))
    go true true p = (refl, ap (λ (o : Outcome Chips). o.state) p)
    go true false p = let z : ◌≡◌ {A = ℕ} 0 10 = ap number p in absurd (omega (arith, z))
    go false b₂ p = let z : ◌≡◌ {A = ℕ} 0 10 = ap number p in absurd (omega (arith, z))

same_why : (why : Refusal) → Refused why ≡ Refused BadImage → why ≡ BadImage
same_why why p = cc

-- and one that refused it left the chips
refused : (s : List ℕ) (before q : Chips) (a : Result (Unit {0}) Refusal) (why : Refusal) → outcome_of q (restore_reply a) ≡ restored s before → a ≡ Err why → (is_taken s ≡ false) × (q ≡ before) × (why ≡ BadImage)
unfolding restored put_back
refused s before q a why h e = go (is_read s) (row_keeps (row_in s)) (rw e at h)
  where
    go : (b₁ b₂ : Bool) → outcome_of q (Refused why) ≡ cond b₁ (cond b₂ (outcome_of (chips_of (row_in s)) Nothing) (not_restored before)) (not_restored before)
        → (b₁ && b₂ ≡ false) × (q ≡ before) × (why ≡ BadImage)
    go true true p = absurd (refused_not_done why (ap number p))
    go true false p = (refl, ap (λ (o : Outcome Chips). o.state) p, same_why why (ap (λ (o : Outcome Chips). o.reply) p))
    go false b₂ p = (refl, ap (λ (o : Outcome Chips). o.state) p, same_why why (ap (λ (o : Outcome Chips). o.reply) p))

module _ (s : List ℕ) (io pair l bio bl : List ℕ) (vm : Vm) (new : machine_in io pair l bio bl vm ≡ new_machine) where
  -- without an image
  pub start_new : is_none s ≡ true → (Ok tt ≡ started s) × (machine_in io pair l bio bl vm ≡ start_of s)
  unfolding start_of
  start_new n = (rw n refl, rw n new)

  module _ (bio' bl' pair' : List ℕ) (a : Result (Unit {0}) Refusal) (n : is_none s ≡ false) (h : outcome_of (chips bio' bl' pair') (restore_reply a) ≡ restored s (chips bio bl pair)) where
    pub start_took : (vm' : Vm) → vm' ≡ record { vcpu_num = vm.vcpu_num; active_vcpus = vm.active_vcpus; used = record { io = vm.used.io; pic = true } } → a ≡ Ok tt
        → (Ok tt ≡ started s) × (machine_in io pair' l bio' bl' vm' ≡ start_of s)
    unfolding start_of machine_in
    start_took vm' v e =
        let t = took s (chips bio bl pair) (chips bio' bl' pair') a h e in
        (rw (n, t.0) refl, rw (n, t.0, v) (ap (λ (m : Machine). moved m (chips bio' bl' pair')) new ∙ ap (moved new_machine) t.1))

    pub start_refused : (why : Refusal) → a ≡ Err why → (Err why ≡ started s) × (machine_in io pair' l bio' bl' vm ≡ start_of s)
    unfolding start_of
    start_refused why e =
        let t = refused s (chips bio bl pair) (chips bio' bl' pair') a why h e in
        (rw (n, t.0) (ap Err t.2), rw (n, t.0) (ap (λ (c : Chips). machine_in io c.pair l c.io c.apic vm) t.1 ∙ new))
