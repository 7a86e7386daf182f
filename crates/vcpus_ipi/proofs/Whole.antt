-- What the steps of a call come to: the definition's outcome. Assumes nothing.
use mathlib.Core.Path.{◌≡◌, refl, sym, ap, ◌∙◌}
use mathlib.Core.Bool.{Bool, true, false, cond, ◌||◌}
use Prim.Native.Nat.{ℕ, suc, ◌+◌, ◌<◌, ◌≤◌}
use native.Mathlib.Omega.{arith}
use mathlib.Core.List.{List, [], ◌∷◌}
use lib.Dec.{eqb, ltb, leb}
use lib.ListN.{length, get_or}
use Rattle.std.specs.Prelude.{Some, None, Result}
use lib.Pow.{pow_mono}
use native.Mathlib.Nat.{lt_of_lt_of_le}
use borrow.Author.Tests.{ltb-true, ltb-false, leb-false, lt-ltb, le-ltb}
use Rattle.utils.specs.Set.{bit, set_of}
use Rattle.utils.proofs.Bools.{never}
use Rattle.utils.proofs.Laws.{bit_above, bit_set_of, set_of_lt, same_bits}
use Rattle.types.specs.declared.VcpuId.{VcpuId}
use Rattle.types.specs.declared.Refusal.{Refusal}
use Rattle.types.specs.declared.Refusal.TheVariants.{InvalidRegister, OutOfRange}
use Rattle.types.specs.declared.Reply.TheVariants as reply
use Rattle.vlapic_icr.specs.declared.IcrAnswer.{IcrAnswer}
use Rattle.vcpus_ipi.specs.declared.Vcpu.{Vcpu}
use Rattle.vcpus_ipi.specs.declared.Ask.{Ask}
use Rattle.vcpus_ipi.specs.declared.Command.{Command}
use Rattle.vcpus_ipi.specs.declared.Plan.{Plan}
use Rattle.vcpus_ipi.specs.declared.Effect.{Effect}
use Rattle.vcpus_ipi.specs.declared.Sent.{Sent}
use Rattle.vcpus_ipi.specs.Vcpu.{new_vcpu}
use Rattle.vcpus_ipi.specs.Ipi.{icr_of, is_icr, is_sending, is_hit, is_reached, targets, is_unmatchable, any_unmatchable, answer_to, stored, becomes, each_from, is_outside, sender, command, answer, carried_out, ask_of, send_ipi}
use Rattle.vcpus_ipi.specs.Steps.{begun, seen_all, asked, decided, refusing, taking, changed_by, changed_all, sent_reply, answered, left, leaves}
use Rattle.vcpus_ipi.proofs.Looking.{seen_count, seen_ask, seen_command, seen_from, seen_mask, seen_reserved}

-- ---- delivering

-- what is refused changes no record
refused_keeps : (p : Plan) (why : Refusal) (i : ℕ) (xs : List Vcpu) → changed_all (refusing p why) i xs ≡ xs
unfolding changed_by
refused_keeps p why i [] = refl
refused_keeps p why i (r ∷ rs) = go (eqb i p.ask.sender.0) (refused_keeps p why (suc i) rs)
  where
    go : (b : Bool) {l : List Vcpu} → l ≡ rs → (cond b r r ∷ l) ≡ (r ∷ rs)
    go true e = rw e
    go false e = rw e

-- where a command was written to the ICR, and where it wasn't
taken : (icr : Bool) (c : Command) (r : Vcpu) → taking (cond icr (Some c) None) r ≡ stored icr c r
taken true c r = refl
taken false c r = refl

changed_each : (s : VcpuId) (icr : Bool) (c : Command) (answer : Result IcrAnswer Refusal) (i : ℕ) (xs : List Vcpu)
    → changed_all (record { sender = s; stores = cond icr (Some c) None; answer = answer }) i xs ≡ each_from (becomes s.0 icr c answer) i xs
unfolding changed_by becomes
changed_each s icr c answer i [] = refl
changed_each s icr c answer i (r ∷ rs) = rw (taken icr c r, changed_each s icr c answer (suc i) rs)

-- ---- a set of places below 64

cut_set : (n : ℕ) (P : ℕ → Bool) → n ≤ 64 → ((k : ℕ) → n ≤ k → P k ≡ false) → set_of n P ≡ set_of 64 P
cut_set n P h above =
    same_bits 64 (set_of n P) (set_of 64 P) (lt_of_lt_of_le (set_of_lt n P) (pow_mono h)) (set_of_lt 64 P) (λ k l. go k l (ltb k n) refl)
  where
    go : (k : ℕ) → k < 64 → (b : Bool) → ltb k n ≡ b → bit (set_of n P) k ≡ bit (set_of 64 P) k
    go k l true e = let i : k < n = ltb-true k n e in bit_set_of n P k i ∙ sym (bit_set_of 64 P k l)
    go k l false e = let i : n ≤ k = ltb-false k n e in bit_above n (set_of n P) k (set_of_lt n P) i ∙ sym (above k i) ∙ sym (bit_set_of 64 P k l)

-- ---- the plan, whole

abbrev start : List Vcpu → Ask → Plan
start xs a = begun (length xs) a.sender.0 a.offset a.value a.width a.active

abbrev found : List Vcpu → Ask → Plan
found xs a = seen_all 0 (start xs a) xs

abbrev reached : List Vcpu → Ask → Plan
reached xs a = seen_all 0 (asked (found xs a)) xs

count_is : (xs : List Vcpu) (a : Ask) → (reached xs a).count ≡ length xs
unfolding asked begun
count_is xs a = seen_count 0 (asked (found xs a)) xs ∙ seen_count 0 (start xs a) xs

ask_is : (xs : List Vcpu) (a : Ask) → (reached xs a).ask ≡ a
unfolding asked begun
ask_is xs a = seen_ask 0 (asked (found xs a)) xs ∙ seen_ask 0 (start xs a) xs

asked_mask : (p : Plan) → (asked p).mask ≡ 0
unfolding asked
asked_mask p = refl

asked_reserved : (p : Plan) → (asked p).reserved ≡ false
unfolding asked
asked_reserved p = refl

-- what is done with a write that sends
abbrev carrying : List Vcpu → Ask → Effect
carrying xs a = record { sender = a.sender; stores = cond (is_icr a) (Some (command xs a)) None; answer = answer xs a }

module _ (xs : List Vcpu) (a : Ask) (fits : length xs ≤ 64) (inside : a.sender.0 < length xs) where
  found_from : (found xs a).from ≡ icr_of (sender xs a)
  unfolding begun
  found_from = seen_from 0 a.sender.0 (start xs a) xs inside (omega arith)

  found_ask : (found xs a).ask ≡ a
  unfolding begun
  found_ask = seen_ask 0 (start xs a) xs

  asked_command : (asked (found xs a)).command ≡ command xs a
  unfolding asked
  asked_command = rw (found_ask, found_from)

  asked_ask : (asked (found xs a)).ask ≡ a
  unfolding asked
  asked_ask = found_ask

  from_is : (reached xs a).from ≡ icr_of (sender xs a)
  from_is = seen_from 0 a.sender.0 (asked (found xs a)) xs inside (ap (λ (b : Ask). b.sender.0) asked_ask ∙ omega arith)

  command_is : (reached xs a).command ≡ command xs a
  command_is = seen_command 0 (asked (found xs a)) xs ∙ asked_command

  mask_is : (reached xs a).mask ≡ targets xs a.sender.0 a.active (command xs a)
  mask_is =
      seen_mask (is_reached xs a.sender.0 a.active (command xs a)) 0 (length xs) (asked (found xs a)) xs (omega arith) fits same (asked_mask (found xs a))
      ∙ cut_set (length xs) (is_reached xs a.sender.0 a.active (command xs a)) fits (λ k h. rw (le-ltb k (length xs) h))
    where
      same : (k j : ℕ) → k < length xs → j ≡ 0 + k
          → is_hit (asked (found xs a)).ask.sender.0 (asked (found xs a)).ask.active (asked (found xs a)).command j (get_or xs k new_vcpu) ≡ is_reached xs a.sender.0 a.active (command xs a) j
      same k j l e = let i : j ≡ k = omega arith in rw (asked_ask, asked_command, i, lt-ltb k (length xs) l)

  reserved_is : (reached xs a).reserved ≡ any_unmatchable xs a.active
  reserved_is = seen_reserved (λ i. is_unmatchable a.active i (get_or xs i new_vcpu)) 0 (length xs) (asked (found xs a)) xs (omega arith) same (asked_reserved (found xs a))
    where
      same : (k j : ℕ) → k < length xs → j ≡ 0 + k → is_unmatchable (asked (found xs a)).ask.active j (get_or xs k new_vcpu) ≡ is_unmatchable a.active j (get_or xs j new_vcpu)
      same k j l e = let i : j ≡ k = omega arith in rw (asked_ask, i)

  decided_in : is_outside (length xs) a ≡ false → is_sending a (sender xs a).regs.x2apic ≡ true → decided (reached xs a) ≡ carrying xs a
  unfolding decided answer_to
  decided_in e s = rw (count_is xs a, ask_is xs a, e, from_is, s, command_is, mask_is, reserved_is)

  decided_not : is_outside (length xs) a ≡ false → is_sending a (sender xs a).regs.x2apic ≡ false → decided (reached xs a) ≡ refusing (reached xs a) InvalidRegister
  unfolding decided
  decided_not e s = rw (count_is xs a, ask_is xs a, e, from_is, s)

decided_out : (xs : List Vcpu) (a : Ask) → is_outside (length xs) a ≡ true → decided (reached xs a) ≡ refusing (reached xs a) OutOfRange
unfolding decided
decided_out xs a e = rw (count_is xs a, ask_is xs a, e)

-- ---- the whole

refused_left : (p : Plan) (why : Refusal) (xs : List Vcpu) → left (changed_all (refusing p why) 0 xs) (answered (refusing p why)) ≡ left xs (sent_reply (reply.Refused why))
unfolding answered
refused_left p why xs = rw (refused_keeps p why 0 xs)

carried_left : (xs : List Vcpu) (a : Ask) → left (changed_all (carrying xs a) 0 xs) (answered (carrying xs a)) ≡ leaves (carried_out xs a)
unfolding answered
carried_left xs a = rw (changed_each a.sender (is_icr a) (command xs a) (answer xs a) 0 xs)

pub both_false : (x y : Bool) → (x || y) ≡ false → (x ≡ false) × (y ≡ false)
both_false true y e = never refl e
both_false false y e = (refl, e)

steps_are : (xs : List Vcpu) (a : Ask) → left (changed_all (decided (reached xs a)) 0 xs) (answered (decided (reached xs a))) ≡ leaves (send_ipi xs a)
unfolding send_ipi
steps_are xs a = go (is_outside (length xs) a) refl
  where
    inside : is_outside (length xs) a ≡ false → (length xs ≤ 64) × (a.sender.0 < length xs)
    inside e = let t = both_false (ltb 64 (length xs)) (leb (length xs) a.sender.0) e in (ltb-false 64 (length xs) t.0, leb-false (length xs) a.sender.0 t.1)

    on : is_outside (length xs) a ≡ false → (b : Bool) → is_sending a (sender xs a).regs.x2apic ≡ b → left (changed_all (decided (reached xs a)) 0 xs) (answered (decided (reached xs a))) ≡ leaves (send_ipi xs a)
    on e true s = let t = inside e in rw (decided_in xs a t.0 t.1 e s, e, s) (carried_left xs a)
    on e false s = let t = inside e in rw (decided_not xs a t.0 t.1 e s, e, s) (refused_left (reached xs a) InvalidRegister xs)

    go : (b : Bool) → is_outside (length xs) a ≡ b → left (changed_all (decided (reached xs a)) 0 xs) (answered (decided (reached xs a))) ≡ leaves (send_ipi xs a)
    go true e = rw (decided_out xs a e, e) (refused_left (reached xs a) OutOfRange xs)
    go false e = on e (is_sending a (sender xs a).regs.x2apic) refl

pub sums_up : (xs : List Vcpu) (sender offset value width active : ℕ) (p₁ p₂ p₃ p₄ : Plan) (e : Effect) (zs : List Vcpu) (r : Sent)
    → p₁ ≡ begun (length xs) sender offset value width active → p₂ ≡ seen_all 0 p₁ xs → p₃ ≡ asked p₂ → p₄ ≡ seen_all 0 p₃ xs → e ≡ decided p₄ → zs ≡ changed_all e 0 xs → r ≡ answered e
    → left zs r ≡ leaves (send_ipi xs (ask_of sender offset value width active))
sums_up xs sender offset value width active p₁ p₂ p₃ p₄ e zs r e₁ e₂ e₃ e₄ e₅ e₆ e₇ = rw (e₇, e₆, e₅, e₄, e₃, e₂, e₁) (steps_are xs (ask_of sender offset value width active))
