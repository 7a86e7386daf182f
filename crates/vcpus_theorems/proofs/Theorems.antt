-- The statements of specs/Statements.antt. Assumes nothing.
use mathlib.Core.Path.{◌≡◌, refl, sym, ap, ap₂, ◌∙◌}
use mathlib.Core.Bool.{Bool, true, false, not, cond, ◌&&◌}
use Prim.Native.Nat.{ℕ, zero, suc, ◌+◌, ◌/◌, ◌%◌, ◌^◌, ◌<◌, ◌≤◌}
use native.Mathlib.Nat.{mod-lt}
use native.Mathlib.Omega.{arith}
use mathlib.Core.List.{List, [], ◌∷◌}
use Rattle.std.specs.Prelude.{Result, Ok, Err}
use lib.Dec.{eqb, ltb, leb, lit<}
use lib.ListN.{length, get_or}
use borrow.Author.Tests.{eqb-true, eq-eqb, ne_eqb, ltb-true, ltb-false, leb-false, le-ltb}
use Rattle.utils.specs.Set.{bit}
use Rattle.utils.proofs.Bools.{both, not_is, and_true, and-false, and_one, or_false}
use Rattle.utils.proofs.Bits.{bit_power}
use Rattle.utils.proofs.Laws.{bit_above, bit_set_of, set_of_lt}
use Rattle.types.specs.declared.Refusal.{Refusal}
use Rattle.types.specs.declared.Refusal.TheVariants.{InvalidRegister, OutOfRange}
use Rattle.types.specs.declared.Reply.{Reply}
use Rattle.types.specs.declared.Reply.TheVariants as reply
use Rattle.types.specs.Reply.{Outcome, outcome_of}
use Rattle.vlapic_regs.specs.Register.{illegal_noted}
use Rattle.vlapic_icr.specs.declared.IcrAnswer.{IcrAnswer}
use Rattle.vlapic_icr.specs.declared.IcrAnswer.TheVariants.{Nothing, SendIllegalVector, Ipi}
use Rattle.vlapic_icr.proofs.Ipis.{mode_small}
use Rattle.vlapic_icr.specs.Kinds.{mode_number, mode_of}
use Rattle.vlapic_icr.specs.Fields.{is_reserved_mode, is_illegal_vector, is_invalid_shorthand, is_unsent}
use Rattle.vlapic_icr.specs.Icr.{send}
use Rattle.vlapic_theorems.specs.Targets.{Logical}
use Rattle.vlapic_theorems.specs.Numbers.{is_reserved, is_noted, is_above63}
use Rattle.vlapic_theorems.proofs.Targets.{any_none}
use Rattle.vlapic_theorems.proofs.Sending.{kind_sent}
use Rattle.vlapic.specs.Regs.{with_pending, with_command}
use Rattle.vcpus_ipi.specs.declared.Vcpu.{Vcpu}
use Rattle.vcpus_ipi.specs.declared.Ask.{Ask}
use Rattle.vcpus_ipi.specs.declared.Command.{Command}
use Rattle.vcpus_ipi.specs.Vcpu.{new_vcpu, with_regs}
use Rattle.vcpus_ipi.specs.Ipi.{is_icr, is_sending, destination, is_hit, is_reached, targets, is_unmatchable, is_logical_dest, any_unmatchable, answer_to, received, stored, answering, becomes, each_from, is_outside, ipi_reply, sender, command, answer, carried_out, send_ipi}
use Rattle.vcpus_ipi.specs.declared.Sent.{Sent}
use Rattle.vcpus_ipi.specs.Steps.{sent_reply, Left}
use Rattle.reply_code.proofs.Codes.{code_same}
use Rattle.vcpus_ipi.proofs.Whole.{both_false}
use Rattle.vcpus_ipi.proofs.Members.{one_of, cluster_16}
use Rattle.vcpus_theorems.specs.Statements.{mask_of, is_sent_to, before, SameCount, Untouched, SenderKept, Delivered, DeliveredToSender, Goes, Reaches, FlatNamed, FlatMatchable, ClusterNamed, ClusterMatchable, command_stored, RefusedKept, AnswersWhole}

-- ---- all places

each_length : (f : ℕ → Vcpu → Vcpu) (i : ℕ) (xs : List Vcpu) → length (each_from f i xs) ≡ length xs
each_length f i [] = refl
each_length f i (r ∷ rs) = ap suc (each_length f (suc i) rs)

each_at : (f : ℕ → Vcpu → Vcpu) (i k j : ℕ) (xs : List Vcpu) → k < length xs → j ≡ i + k → get_or (each_from f i xs) k new_vcpu ≡ f j (get_or xs k new_vcpu)
each_at f i k j [] h e = absurd (omega arith)
each_at f i zero j (r ∷ rs) h e = let q : j ≡ i = omega arith in rw q
each_at f i (suc k) j (r ∷ rs) h e = each_at f (suc i) k j rs (omega arith) (omega arith)

each_same : (f g : ℕ → Vcpu → Vcpu) → ((i : ℕ) (r : Vcpu) → f i r ≡ g i r) → (i : ℕ) (xs : List Vcpu) → each_from f i xs ≡ each_from g i xs
each_same f g h i [] = refl
each_same f g h i (r ∷ rs) = rw (h i r, each_same f g h (suc i) rs)

-- past the end stands the same
each_past : (f : ℕ → Vcpu → Vcpu) (i k : ℕ) (xs : List Vcpu) → length xs ≤ k → get_or (each_from f i xs) k new_vcpu ≡ get_or xs k new_vcpu
each_past f i k [] h = refl
each_past f i zero (r ∷ rs) h = absurd (omega arith)
each_past f i (suc k) (r ∷ rs) h = each_past f (suc i) k rs (omega arith)

-- ---- the three ways of a call

data Way (xs : List Vcpu) (a : Ask) : Outcome (List Vcpu) → Type 0 where
  outside : is_outside (length xs) a ≡ true → Way xs a (outcome_of xs (reply.Refused OutOfRange))
  unlisted : is_outside (length xs) a ≡ false → is_sending a (sender xs a).regs.x2apic ≡ false → Way xs a (outcome_of xs (reply.Refused InvalidRegister))
  carried : is_outside (length xs) a ≡ false → is_sending a (sender xs a).regs.x2apic ≡ true → Way xs a (carried_out xs a)

way : (xs : List Vcpu) (a : Ask) → Way xs a (send_ipi xs a)
unfolding send_ipi
way xs a = go (is_outside (length xs) a) refl (is_sending a (sender xs a).regs.x2apic) refl
  where
    go : (o : Bool) → is_outside (length xs) a ≡ o → (s : Bool) → is_sending a (sender xs a).regs.x2apic ≡ s
        → Way xs a (cond o (outcome_of xs (reply.Refused OutOfRange)) (cond s (carried_out xs a) (outcome_of xs (reply.Refused InvalidRegister))))
    go true o s p = outside o
    go false o true p = carried o p
    go false o false p = unlisted o p

count_fits : (n : ℕ) (a : Ask) → is_outside n a ≡ false → n ≤ 64
count_fits n a e = ltb-false 64 n (both_false (ltb 64 n) (leb n a.sender.0) e).0

sender_in : (n : ℕ) (a : Ask) → is_outside n a ≡ false → a.sender.0 < n
sender_in n a e = leb-false n a.sender.0 (both_false (ltb 64 n) (leb n a.sender.0) e).1

-- ---- what is touched

pub same_count : SameCount
same_count xs a = go (send_ipi xs a) (way xs a)
  where
    go : (o : Outcome (List Vcpu)) → Way xs a o → length o.state ≡ length xs
    go o (outside e) = refl
    go o (unlisted e s) = refl
    go o (carried e s) = each_length (becomes a.sender.0 (is_icr a) (command xs a) (answer xs a)) 0 xs

-- who isn't in the mask is left alone, and who is receives
spared : (ans : Result IcrAnswer Refusal) (i : ℕ) (r : Vcpu) → bit (mask_of (ipi_reply ans)) i ≡ false → answering ans false i r ≡ r
spared (Ok Nothing) i r e = refl
spared (Ok SendIllegalVector) i r e = refl
spared (Ok (Ipi ipi)) i r e = rw e
spared (Err why) i r e = refl

other_becomes : (s : ℕ) (icr : Bool) (c : Command) (ans : Result IcrAnswer Refusal) (i : ℕ) (r : Vcpu) → (i ≡ s → ⊥) → becomes s icr c ans i r ≡ answering ans false i r
unfolding becomes
other_becomes s icr c ans i r h = rw (ne_eqb i s h)

carried_at : (xs : List Vcpu) (a : Ask) (i : ℕ) → i < length xs
    → get_or (carried_out xs a).state i new_vcpu ≡ becomes a.sender.0 (is_icr a) (command xs a) (answer xs a) i (get_or xs i new_vcpu)
carried_at xs a i l = each_at (becomes a.sender.0 (is_icr a) (command xs a) (answer xs a)) 0 i i xs l (omega arith)

pub untouched : Untouched
untouched xs a i l h e = go (send_ipi xs a) (way xs a) e
  where
    go : (o : Outcome (List Vcpu)) → Way xs a o → bit (mask_of o.reply) i ≡ false → get_or o.state i new_vcpu ≡ get_or xs i new_vcpu
    go o (outside w) b = refl
    go o (unlisted w s) b = refl
    go o (carried w s) b =
        carried_at xs a i l ∙ other_becomes a.sender.0 (is_icr a) (command xs a) (answer xs a) i (get_or xs i new_vcpu) h ∙ spared (answer xs a) i (get_or xs i new_vcpu) b

-- whoever is in the mask of an IPI received it
got : (ans : Result IcrAnswer Refusal) (own : Bool) (kind vector mask i : ℕ) (r : Vcpu) → bit mask i ≡ true → ipi_reply ans ≡ reply.Three kind vector mask
    → answering ans own i r ≡ received kind (record { 0 = vector }) r
got (Ok Nothing) own kind vector mask i r b q = let z : ◌≡◌ {A = ℕ} 0 1 = cc in absurd (omega arith)
got (Ok SendIllegalVector) own kind vector mask i r b q = let z : ◌≡◌ {A = ℕ} 0 1 = cc in absurd (omega arith)
got (Ok (Ipi ipi)) own kind vector mask i r b q =
    let km : mode_number ipi.kind ≡ kind = cc in
    let vm : ipi.vector.0 ≡ vector = cc in
    let mm : ipi.mask ≡ mask = cc in
    rw (mm, b, km, ← vm)
got (Err why) own kind vector mask i r b q = let z : ◌≡◌ {A = ℕ} 0 1 = cc in absurd (omega arith)

pub delivered : Delivered
delivered xs a kind vector mask i e l h b = go (send_ipi xs a) (way xs a) e
  where
    go : (o : Outcome (List Vcpu)) → Way xs a o → o.reply ≡ reply.Three kind vector mask → get_or o.state i new_vcpu ≡ received kind (record { 0 = vector }) (get_or xs i new_vcpu)
    go o (outside w) q = let z : ◌≡◌ {A = ℕ} 0 1 = cc in absurd (omega arith)
    go o (unlisted w s) q = let z : ◌≡◌ {A = ℕ} 0 1 = cc in absurd (omega arith)
    go o (carried w s) q =
        carried_at xs a i l
        ∙ other_becomes a.sender.0 (is_icr a) (command xs a) (answer xs a) i (get_or xs i new_vcpu) h
        ∙ got (answer xs a) false kind vector mask i (get_or xs i new_vcpu) b q

-- ---- refusals

each_id : (f : ℕ → Vcpu → Vcpu) → ((i : ℕ) (r : Vcpu) → f i r ≡ r) → (i : ℕ) (xs : List Vcpu) → each_from f i xs ≡ xs
each_id f h i [] = refl
each_id f h i (r ∷ rs) = rw (h i r, each_id f h (suc i) rs)

refused_becomes : (s : ℕ) (icr : Bool) (c : Command) (why : Refusal) (i : ℕ) (r : Vcpu) → becomes s icr c (Err why) i r ≡ cond (eqb i s) (stored icr c r) r
unfolding becomes
refused_becomes s icr c why i r = refl

either_way : (b : Bool) (r : Vcpu) → cond b r r ≡ r
either_way true r = refl
either_way false r = refl

refused_each : (xs : List Vcpu) (s : ℕ) (icr : Bool) (c : Command) (why : Refusal) (ans : Result IcrAnswer Refusal) → ipi_reply ans ≡ reply.Refused why
    → each_from (becomes s icr c ans) 0 xs ≡ cond icr (each_from (λ i r. cond (eqb i s) (stored true c r) r) 0 xs) xs
refused_each xs s icr c why (Ok Nothing) e = let z : ◌≡◌ {A = ℕ} 0 1 = cc in absurd (omega arith)
refused_each xs s icr c why (Ok SendIllegalVector) e = let z : ◌≡◌ {A = ℕ} 0 1 = cc in absurd (omega arith)
refused_each xs s icr c why (Ok (Ipi ipi)) e = let z : ◌≡◌ {A = ℕ} 0 1 = cc in absurd (omega arith)
refused_each xs s true c why (Err w) e = each_same (becomes s true c (Err w)) (λ i r. cond (eqb i s) (stored true c r) r) (λ i r. refused_becomes s true c w i r) 0 xs
refused_each xs s false c why (Err w) e = each_id (becomes s false c (Err w)) (λ i r. refused_becomes s false c w i r ∙ either_way (eqb i s) r) 0 xs

pub refused_kept : RefusedKept
refused_kept xs a why e = go (send_ipi xs a) (way xs a) e
  where
    go : (o : Outcome (List Vcpu)) → Way xs a o → o.reply ≡ reply.Refused why
        → o.state ≡ cond (not (is_outside (length xs) a) && (is_sending a (sender xs a).regs.x2apic && is_icr a)) (command_stored xs a) xs
    go o (outside w) q = rw w
    go o (unlisted w s) q = rw (w, s)
    go o (carried w s) q = rw (w, s) (refused_each xs a.sender.0 (is_icr a) (command xs a) why (answer xs a) q)

-- ---- the sender's own record

own_words : (ans : Result IcrAnswer Refusal) (icr : Bool) (c : Command) (s : ℕ) (r : Vcpu) → bit (mask_of (ipi_reply ans)) s ≡ false
    → (lo : ℕ) × ((hi : ℕ) × ((errors : ℕ) × (answering ans true s (stored icr c r) ≡ with_regs r (with_pending (with_command r.regs lo hi) errors))))
own_words (Ok Nothing) true c s r e = (c.icr_lo, (c.icr_hi, (r.regs.esr_pending, refl)))
own_words (Ok Nothing) false c s r e = (r.regs.icr_lo, (r.regs.icr_hi, (r.regs.esr_pending, refl)))
own_words (Ok SendIllegalVector) true c s r e = (c.icr_lo, (c.icr_hi, (illegal_noted r.regs.esr_pending, refl)))
own_words (Ok SendIllegalVector) false c s r e = (r.regs.icr_lo, (r.regs.icr_hi, (illegal_noted r.regs.esr_pending, refl)))
own_words (Ok (Ipi ipi)) true c s r e = (c.icr_lo, (c.icr_hi, (r.regs.esr_pending, rw e)))
own_words (Ok (Ipi ipi)) false c s r e = (r.regs.icr_lo, (r.regs.icr_hi, (r.regs.esr_pending, rw e)))
own_words (Err why) true c s r e = (c.icr_lo, (c.icr_hi, (r.regs.esr_pending, refl)))
own_words (Err why) false c s r e = (r.regs.icr_lo, (r.regs.icr_hi, (r.regs.esr_pending, refl)))

own_becomes : (s : ℕ) (icr : Bool) (c : Command) (ans : Result IcrAnswer Refusal) (r : Vcpu) → becomes s icr c ans s r ≡ answering ans true s (stored icr c r)
unfolding becomes
own_becomes s icr c ans r = rw (eq-eqb s s refl)

pub sender_kept : SenderKept
sender_kept xs a e = let t = look (send_ipi xs a) (way xs a) e in record { lo = t.0; hi = t.1.0; errors = t.1.1.0; kept = t.1.1.1 }
  where
    look : (o : Outcome (List Vcpu)) → Way xs a o → bit (mask_of o.reply) a.sender.0 ≡ false
        → (lo : ℕ) × ((hi : ℕ) × ((errors : ℕ) × (get_or o.state a.sender.0 new_vcpu ≡ with_regs (before xs a.sender.0) (with_pending (with_command (before xs a.sender.0).regs lo hi) errors))))
    look o (outside w) b = ((before xs a.sender.0).regs.icr_lo, ((before xs a.sender.0).regs.icr_hi, ((before xs a.sender.0).regs.esr_pending, refl)))
    look o (unlisted w p) b = ((before xs a.sender.0).regs.icr_lo, ((before xs a.sender.0).regs.icr_hi, ((before xs a.sender.0).regs.esr_pending, refl)))
    look o (carried w p) b =
        let t = own_words (answer xs a) (is_icr a) (command xs a) a.sender.0 (before xs a.sender.0) b in (
          t.0,
          (
            t.1.0,
            (
              t.1.1.0,
              carried_at xs a a.sender.0 (sender_in (length xs) a w) ∙ own_becomes a.sender.0 (is_icr a) (command xs a) (answer xs a) (before xs a.sender.0) ∙ t.1.1.1,
            ),
          ),
        )

pub delivered_to_sender : DeliveredToSender
delivered_to_sender xs a kind vector mask e b = go (send_ipi xs a) (way xs a) e
  where
    go : (o : Outcome (List Vcpu)) → Way xs a o → o.reply ≡ reply.Three kind vector mask
        → get_or o.state a.sender.0 new_vcpu ≡ received kind (record { 0 = vector }) (stored (is_icr a) (command xs a) (before xs a.sender.0))
    go o (outside w) q = let z : ◌≡◌ {A = ℕ} 0 1 = cc in absurd (omega arith)
    go o (unlisted w s) q = let z : ◌≡◌ {A = ℕ} 0 1 = cc in absurd (omega arith)
    go o (carried w s) q =
        carried_at xs a a.sender.0 (sender_in (length xs) a w)
        ∙ own_becomes a.sender.0 (is_icr a) (command xs a) (answer xs a) (before xs a.sender.0)
        ∙ got (answer xs a) true kind vector mask a.sender.0 (stored (is_icr a) (command xs a) (before xs a.sender.0)) b q

-- ---- whom it reaches

module _ (xs : List Vcpu) (a : Ask) (g : Goes xs a) where
  free : (is_reserved (command xs a).icr_lo ≡ false)
      × ((is_noted (command xs a).icr_lo ≡ false) × ((is_invalid_shorthand (command xs a).icr_lo ≡ false) × (is_unsent (command xs a).icr_lo ≡ false)))
  free =
      let t = and_true _ _ (sym (kind_sent (command xs a).icr_lo) ∙ g.sent) in
      let u = and_true _ _ t.1 in
      let v = and_true _ _ u.1 in
      (not_is _ t.0, (not_is _ u.0, (not_is _ v.0, not_is _ v.1)))

  answer_sends : answer xs a ≡ Ok (send (command xs a).icr_lo (targets xs a.sender.0 a.active (command xs a)))
  unfolding answer_to
  answer_sends = rw (free.0, free.1.0, free.1.1.0, g.below, g.matchable)

  reply_is : (send_ipi xs a).reply ≡ ipi_reply (Ok (send (command xs a).icr_lo (targets xs a.sender.0 a.active (command xs a))))
  unfolding send_ipi
  reply_is = rw (g.inside, g.sending) (ap ipi_reply answer_sends)

  sent_mask_lem : (m : ℕ) → mask_of (ipi_reply (Ok (send (command xs a).icr_lo m))) ≡ m
  sent_mask_lem m = go (eqb m 0) refl
    where
      go : (b : Bool) → eqb m 0 ≡ b → mask_of (ipi_reply (Ok (send (command xs a).icr_lo m))) ≡ m
      go true e = rw e (sym (eqb-true m 0 e))
      go false e = rw (e, free.1.1.1)

  mask_is : mask_of (send_ipi xs a).reply ≡ targets xs a.sender.0 a.active (command xs a)
  mask_is = ap mask_of reply_is ∙ sent_mask_lem (targets xs a.sender.0 a.active (command xs a))

  pub reaches_each : (i : ℕ) → is_sent_to xs a i ≡ is_reached xs a.sender.0 a.active (command xs a) i
  reaches_each i = ap (λ (m : ℕ). bit m i) mask_is ∙ go (ltb i 64) refl
    where
      go : (b : Bool) → ltb i 64 ≡ b → bit (targets xs a.sender.0 a.active (command xs a)) i ≡ is_reached xs a.sender.0 a.active (command xs a) i
      go true e = bit_set_of 64 (is_reached xs a.sender.0 a.active (command xs a)) i (ltb-true i 64 e)
      go false e =
          let h : 64 ≤ i = ltb-false i 64 e in
          let n : length xs ≤ 64 = count_fits (length xs) a g.inside in
          bit_above 64 (targets xs a.sender.0 a.active (command xs a)) i (set_of_lt 64 (is_reached xs a.sender.0 a.active (command xs a))) h ∙ sym (rw (le-ltb i (length xs) (omega arith)))

pub reaches : Reaches
reaches xs a g i = reaches_each xs a g i

-- a test of those in the array
within : (n i : ℕ) (x y : Bool) → (i < n → x ≡ y) → (ltb i n && x) ≡ (ltb i n && y)
within n i x y h = go (ltb i n) refl
  where
    go : (b : Bool) → ltb i n ≡ b → (b && x) ≡ (b && y)
    go true e = h (ltb-true i n e)
    go false e = refl

flat_hit : (s active d own i : ℕ) (c : Command) (r : Vcpu) → destination c ≡ Logical d → r.regs.x2apic ≡ false → r.regs.dfr / 0x10000000 ≡ 15 → r.regs.ldr / 0x1000000 ≡ 2 ^ own → own < 8
    → is_hit s active c i r ≡ (bit d own && bit active i)
unfolding is_hit
flat_hit s active d own i c r e x f o l = rw (e, x, f, o, one_of 8 (2 ^ own) own d l (λ k h. bit_power own k)) (ap (λ (b : Bool). bit d own && b) (or_false (bit active i)))

pub flat_named : FlatNamed
flat_named xs a own d h g e i =
    reaches_each xs a g i
    ∙ within (length xs) i (is_hit a.sender.0 a.active (command xs a) i (before xs i)) (bit d (own i) && bit a.active i)
    (λ l. flat_hit a.sender.0 a.active d (own i) i (command xs a) (before xs i) e (h.xapic i l) (h.flat i l) (h.one i l) (h.small i l))

pub flat_matchable : FlatMatchable
unfolding is_unmatchable
flat_matchable xs a own h =
    any_none (length xs) (λ i. is_unmatchable a.active i (get_or xs i new_vcpu)) (λ k l. rw (h.xapic k l, h.flat k l) (and-false (bit a.active k)))

cluster_hit : (s active d i : ℕ) (c : Command) (r : Vcpu) → destination c ≡ Logical d → r.regs.x2apic ≡ true → bit active i ≡ true → i < 64
    → is_hit s active c i r ≡ (eqb (i / 16) (d / 0x10000) && bit d (i % 16))
unfolding is_hit
cluster_hit s active d i c r e x b l =
    let q : i / 16 % 0x10000 ≡ i / 16 = omega arith in
    rw (e, x, b, cluster_16 i d, q) (and_one (eqb (i / 16) (d / 0x10000) && bit d (i % 16)))

pub cluster_named : ClusterNamed
cluster_named xs a d h g e i =
    let n : length xs ≤ 64 = count_fits (length xs) a g.inside in
    reaches_each xs a g i
    ∙ within (length xs) i (is_hit a.sender.0 a.active (command xs a) i (before xs i)) (eqb (i / 16) (d / 0x10000) && bit d (i % 16))
    (λ l. cluster_hit a.sender.0 a.active d i (command xs a) (before xs i) e (h.x2apic i l) (h.active i l) (omega arith))

pub cluster_matchable : ClusterMatchable
unfolding is_unmatchable
cluster_matchable xs a h =
    any_none (length xs) (λ i. is_unmatchable a.active i (get_or xs i new_vcpu)) (λ k l. rw (h.x2apic k l) (and-false (bit a.active k)))

-- ---- answers

-- the replies that there are, whose codes hold them whole
abbrev Ipis : Reply → Type 0
Ipis (reply.Refused why) = Unit
Ipis reply.Nothing = Unit
Ipis (reply.One a) = ⊥
Ipis (reply.Two a b) = ⊥
Ipis (reply.Three a b c) = (a < 2 ^ 24) × (b < 2 ^ 24)

send_ipis : (lo mask : ℕ) → Ipis (ipi_reply (Ok (send lo mask)))
send_ipis lo mask =
    let k : mode_number (mode_of (lo / 256 % 8)) < 8 = mode_small (mode_of (lo / 256 % 8)) in
    let v : lo % 256 < 256 = mod-lt lo (lit< tt) in
    both (λ (x : IcrAnswer). Ipis (ipi_reply (Ok x))) (eqb mask 0) _ _ tt (both (λ (x : IcrAnswer). Ipis (ipi_reply (Ok x))) (is_unsent lo) _ _ tt (omega arith, omega arith))

answer_ipis : (xs : List Vcpu) (s active : ℕ) (c : Command) → Ipis (ipi_reply (answer_to xs s active c))
unfolding answer_to
answer_ipis xs s active c =
    both (λ (x : Result IcrAnswer Refusal). Ipis (ipi_reply x)) (is_reserved_mode c.icr_lo) _ _ tt
    (both (λ (x : Result IcrAnswer Refusal). Ipis (ipi_reply x)) (is_illegal_vector c.icr_lo) _ _ tt
    (both (λ (x : Result IcrAnswer Refusal). Ipis (ipi_reply x)) (is_invalid_shorthand c.icr_lo) _ _ tt
    (both (λ (x : Result IcrAnswer Refusal). Ipis (ipi_reply x)) (is_above63 (destination c)) _ _ tt
    (both (λ (x : Result IcrAnswer Refusal). Ipis (ipi_reply x)) (is_logical_dest (destination c) && any_unmatchable xs active) _ _ tt
    (send_ipis c.icr_lo (targets xs s active c))))))

reply_ipis : (xs : List Vcpu) (a : Ask) → Ipis (send_ipi xs a).reply
reply_ipis xs a = go (send_ipi xs a) (way xs a)
  where
    go : (o : Outcome (List Vcpu)) → Way xs a o → Ipis o.reply
    go o (outside e) = tt
    go o (unlisted e s) = tt
    go o (carried e s) = answer_ipis xs a.sender.0 a.active (command xs a)

sent_same : (r s : Reply) → Ipis r → Ipis s → sent_reply r ≡ sent_reply s → r ≡ s
sent_same (reply.Refused w) (reply.Refused v) p q e = code_same (reply.Refused w) (reply.Refused v) tt tt (ap (λ (t : Sent). t.code) e)
sent_same (reply.Refused w) reply.Nothing p q e = code_same (reply.Refused w) reply.Nothing tt tt (ap (λ (t : Sent). t.code) e)
sent_same (reply.Refused w) (reply.One x) p q e = absurd q
sent_same (reply.Refused w) (reply.Two x y) p q e = absurd q
sent_same (reply.Refused w) (reply.Three x y z) p q e =
    let t : reply.Refused w ≡ reply.Two x y = code_same (reply.Refused w) (reply.Two x y) tt q (ap (λ (t : Sent). t.code) e) in
    let u : ◌≡◌ {A = ℕ} 0 1 = cc in
    absurd (omega arith)
sent_same reply.Nothing (reply.Refused v) p q e = code_same reply.Nothing (reply.Refused v) tt tt (ap (λ (t : Sent). t.code) e)
sent_same reply.Nothing reply.Nothing p q e = refl
sent_same reply.Nothing (reply.One x) p q e = absurd q
sent_same reply.Nothing (reply.Two x y) p q e = absurd q
sent_same reply.Nothing (reply.Three x y z) p q e =
    let t : reply.Nothing ≡ reply.Two x y = code_same reply.Nothing (reply.Two x y) tt q (ap (λ (t : Sent). t.code) e) in
    let u : ◌≡◌ {A = ℕ} 0 1 = cc in
    absurd (omega arith)
sent_same (reply.One x) s p q e = absurd p
sent_same (reply.Two x y) s p q e = absurd p
sent_same (reply.Three x y z) (reply.Refused v) p q e =
    let t : reply.Two x y ≡ reply.Refused v = code_same (reply.Two x y) (reply.Refused v) p tt (ap (λ (t : Sent). t.code) e) in
    let u : ◌≡◌ {A = ℕ} 0 1 = cc in
    absurd (omega arith)
sent_same (reply.Three x y z) reply.Nothing p q e =
    let t : reply.Two x y ≡ reply.Nothing = code_same (reply.Two x y) reply.Nothing p tt (ap (λ (t : Sent). t.code) e) in
    let u : ◌≡◌ {A = ℕ} 0 1 = cc in
    absurd (omega arith)
sent_same (reply.Three x y z) (reply.One k) p q e = absurd q
sent_same (reply.Three x y z) (reply.Two k l) p q e = absurd q
sent_same (reply.Three x y z) (reply.Three k l m) p q e =
    let t : reply.Two x y ≡ reply.Two k l = code_same (reply.Two x y) (reply.Two k l) p q (ap (λ (t : Sent). t.code) e) in
    let u : z ≡ m = ap (λ (t : Sent). t.mask) e in
    let v : x ≡ k = cc in
    let w : y ≡ l = cc in
    rw (u, v, w)

outcome_same : (o p : Outcome (List Vcpu)) → o.state ≡ p.state → o.reply ≡ p.reply → o ≡ p
outcome_same o p e f = ap₂ outcome_of e f

pub answers_whole : AnswersWhole
answers_whole xs ys a b e =
    outcome_same (send_ipi xs a) (send_ipi ys b) (ap (λ (l : Left). l.records) e)
    (sent_same (send_ipi xs a).reply (send_ipi ys b).reply (reply_ipis xs a) (reply_ipis ys b) (ap (λ (l : Left). l.sent) e))
