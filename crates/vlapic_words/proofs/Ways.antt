-- A law for each way that a call goes. Assumes nothing.
use Prim.Native.Nat.{ℕ, ◌+◌, ◌*◌, ◌/◌, ◌%◌, ◌^◌, ◌≤◌, ◌<◌}
use native.Mathlib.Nat.{mod-lt}
use native.Mathlib.Omega.{arith}
use mathlib.Core.Bool.{Bool, true, false, not, cond, ◌&&◌, and-false}
use mathlib.Core.List.{List, [], ◌∷◌}
use mathlib.Core.Logic.{inl}
use mathlib.Core.Path.{◌≡◌, refl, sym, ap, ap₂, ◌∙◌}
use lib.Dec.{eqb, ltb}
use lib.ListN.{length, get_or, set, length-set}
use borrow.Author.Tests.{lt-ltb, le-ltb, le-leb, lt-leb, eq-eqb, ne_eqb, ltb-true, ltb-false}
use Rattle.utils.specs.Cases.{cond_yes, cond_no}
use Rattle.utils.specs.Set.{marked}
use Rattle.utils.proofs.Marked.{marked_lt}
use Rattle.std.specs.Prelude.{Result, Ok}
use Rattle.types.specs.declared.Refusal.{Refusal}
use Rattle.types.specs.declared.Refusal.TheVariants.{InvalidRegister, OutOfRange}
use Rattle.types.specs.declared.Reply.{Reply}
use Rattle.types.specs.declared.Reply.TheVariants.{Refused, Nothing, One}
use Rattle.types.specs.declared.VcpuId.{VcpuId}
use Rattle.types.specs.declared.Vector.{Vector}
use Rattle.types.specs.Counters.{apic_id, vcpu_of}
use Rattle.types.specs.Reply.{Outcome, Kept}
use Rattle.types.proofs.Replies.{kept_same}
use Rattle.vlapic_regs.specs.declared.register.Errors.{Errors}
use Rattle.vlapic_regs.specs.Vectors.{in_words}
use Rattle.vlapic_regs.specs.Register.{errors_shown, priority, broadcast}
use Rattle.vlapic_icr.specs.declared.InterruptCommand.{InterruptCommand}
use Rattle.vlapic_icr.specs.declared.IcrAnswer.{IcrAnswer}
use Rattle.vlapic_icr.specs.Fields.{idle, icr_width, icr_high}
use Rattle.vlapic_icr.specs.Icr.{command, self_ipi}
use Rattle.vlapic.specs.declared.VirtualApicRegs.{VirtualApicRegs}
use Rattle.vlapic.specs.Regs.{with_word, with_isr, with_tmr, with_errors, with_command}
use Rattle.vlapic.specs.Answers.{done, refused}
use Rattle.vlapic.specs.Priority.{update_ppr, accept_interrupt, broadcasts, handle_eoi}
use Rattle.vlapic.specs.Registers.{readable, eight_from, handle_read, in_xapic, stored, write_stored}
use Rattle.vlapic.specs.Calls.{out_of_range, setup, command_of, answered, write_icr, write_icr_low, write_self_ipi, handle_write}
use Rattle.vlapic.proofs.Range.{in_range, own_range, id_kept_lem}
use Rattle.vlapic.proofs.Offsets.{Apart, keys, no_word, no_register}
use Rattle.vlapic_words.specs.Words.{word, eight, view}
use Rattle.vlapic_words.specs.Calls.{Stored, Leaves, IsNew, command_stored, icr_refused, refused_words}
use Rattle.vlapic_words.specs.Steps.{start_words, served, marked_in, ranked, ended}
use Rattle.vlapic_words.proofs.Runs.{at_from}
use Rattle.vlapic_words.proofs.Search.{served_small}
use Rattle.vlapic_words.proofs.View.{cut_small, put_view, moved, mark_isr, mark_tmr, rank_view, priority_small, stored_set, stored_then, start_view, start_small, spare_of, start_stored, new_spare}

-- ---- nothing is stored

pub same : (l : List ℕ) (r : Reply) (o : Outcome VirtualApicRegs) → record { state = view l; reply = r } ≡ o → Leaves l l l r o
same l r o e = record { outcome = e; refused = kept_same l r; stored = λ k b. inl refl }

-- other names for what is left
pub leaves_as : {l k m : List ℕ} {r : Reply} {o : Outcome VirtualApicRegs} (p : Outcome VirtualApicRegs) (j : List ℕ) → Leaves l k m r o → o ≡ p → k ≡ j → Leaves l j m r p
leaves_as p j h e f = rw (← e, ← f) h

-- ---- a register is stored

module _ (l : List ℕ) (n : length l ≡ 48) where
  pub store_way : (m : List ℕ) (k x : ℕ) → (1 ≤ k) × (k < 18) → x < 2 ^ 32 → m ≡ set l k x → Leaves l l m Nothing (done (with_word (view l) k x))
  store_way m k x b h e = rw e record { outcome = ap done (put_view l n k x b.0 b.1 h); refused = tt; stored = stored_set l k x n (b.0, omega arith) h }

  two_view : (k x j y : ℕ) → (1 ≤ k) × (k < 18) → (1 ≤ j) × (j < 18) → x < 2 ^ 32 → y < 2 ^ 32 → view (set (set l k x) j y) ≡ with_word (with_word (view l) k x) j y
  two_view k x j y a b h g =
      put_view (set l k x) (simp length-set n) j y b.0 b.1 g
      ∙ ap (λ (s : VirtualApicRegs). with_word s j y) (put_view l n k x a.0 a.1 h)

  two_stored : (k x j y : ℕ) → (1 ≤ k) × (k < 42) → (1 ≤ j) × (j < 42) → x < 2 ^ 32 → y < 2 ^ 32 → Stored l (set (set l k x) j y)
  two_stored k x j y a b h g = stored_then l (set l k x) (set (set l k x) j y) (stored_set l k x n a h) (stored_set (set l k x) j y (simp length-set n) b g)

  pub errors_way : (a m : List ℕ) (e : Errors) (p : ℕ) → p ≡ word l 8 → e ≡ errors_shown p → a ≡ set l 7 e.esr → m ≡ set a 8 e.esr_pending
      → Leaves l l m Nothing (done (with_errors (view l) (errors_shown (view l).esr_pending)))
  unfolding view
  errors_way a m e p q s t u =
      rw (u, t, s, q)
      record {
        outcome = ap done (two_view 7 (word l 8) 8 0 (omega arith, omega arith) (omega arith, omega arith) (cut_small (get_or l 8 0)) (omega arith));
        refused = tt;
        stored = two_stored 7 (word l 8) 8 0 (omega arith, omega arith) (omega arith, omega arith) (cut_small (get_or l 8 0)) (omega arith);
      }

  -- an interrupt command
  command_is : (x : Bool) (id ldr dfr low hi lo : ℕ) → x ≡ (view l).x2apic → id ≡ word l 1 → ldr ≡ word l 4 → dfr ≡ word l 5 → low ≡ lo
      → ◌≡◌ {A = InterruptCommand} (record { x2apic = x; vapic_id = id; ldr = ldr; dfr = dfr; icr_lo = low; icr_hi = hi }) (command_of (with_command (view l) lo hi))
  unfolding view
  command_is x id ldr dfr low hi lo ex ei el ed eo = λ i. record { x2apic = ex i; vapic_id = ei i; ldr = el i; dfr = ed i; icr_lo = eo i; icr_hi = hi }

  written_is : (lo hi num active : ℕ) → answered (with_command (view l) (idle lo) hi) (command (command_of (with_command (view l) (idle lo) hi)) num active) ≡ write_icr (view l) lo hi num active
  unfolding write_icr
  written_is lo hi num active = refl

  pub icr_way : (a b m : List ℕ) (x : Bool) (id ldr dfr low : ℕ) (ans : Result IcrAnswer Refusal) (r : Reply) (lo hi num active : ℕ) → lo < 2 ^ 32 → hi < 2 ^ 32
      → x ≡ (view l).x2apic
      → id ≡ word l 1
      → ldr ≡ word l 4
      → dfr ≡ word l 5
      → low ≡ idle lo
      → a ≡ set l 9 low
      → b ≡ set a 10 hi
      → ans ≡ command (record { x2apic = x; vapic_id = id; ldr = ldr; dfr = dfr; icr_lo = low; icr_hi = hi }) num active
      → Leaves b b m r (answered (view b) ans)
      → Leaves l (command_stored l lo hi) m r (write_icr (view l) lo hi num active)
  icr_way a b m x id ldr dfr low ans r lo hi num active hl hh ex ei el ed eo ea eb ans-is k =
      let e : b ≡ command_stored l lo hi = rw (eb, ea, eo) in
      let v : view b ≡ with_command (view l) (idle lo) hi = ap view e ∙ two_view 9 (idle lo) 10 hi (omega arith, omega arith) (omega arith, omega arith) (omega arith) hh in
      let c : ans ≡ command (command_of (with_command (view l) (idle lo) hi)) num active = ans-is ∙ ap (λ (s : InterruptCommand). command s num active) (command_is x id ldr dfr low hi (idle lo) ex ei el ed eo) in
      record {
        outcome = k.outcome ∙ ap₂ answered v c ∙ written_is lo hi num active;
        refused = rw e at k.refused;
        stored = stored_then l b m (rw e (two_stored 9 (idle lo) 10 hi (omega arith, omega arith) (omega arith, omega arith) (omega arith) hh)) k.stored;
      }

-- one that only xAPIC mode has
module _ (l : List ℕ) (b : Bool) (next : VirtualApicRegs) (e : b ≡ (view l).x2apic) where
  pub xapic_out : b ≡ true → Leaves l l l (Refused InvalidRegister) (in_xapic (view l) next)
  xapic_out t = same l (Refused InvalidRegister) (in_xapic (view l) next) (rw (← e, t))

  pub xapic_in : (m : List ℕ) (r : Reply) → b ≡ false → Leaves l l m r (done next) → Leaves l l m r (in_xapic (view l) next)
  xapic_in m r t k = rw (← e, t) k

-- ---- acceptance and EOI

stored_mark : (l : List ℕ) (base v : ℕ) (up : Bool) → length l ≡ 48 → v < 256 → 1 ≤ base → base + 8 ≤ 42 → Stored l (marked_in l base v up)
stored_mark l base v up n h a b =
    stored_set l (base + v / 32) (marked (word l (base + v / 32)) (v % 32) up) n (omega arith, omega arith)
    (marked_lt 32 (word l (base + v / 32)) (v % 32) up (cut_small (get_or l (base + v / 32) 0)) (mod-lt v (omega arith)))

stored_rank : (l : List ℕ) → length l ≡ 48 → Stored l (ranked l)
stored_rank l n = stored_set l 3 (priority (word l 2) (served l)) n (omega arith, omega arith) (priority_small (word l 2) (served l) (cut_small (get_or l 2 0)))

module _ (l : List ℕ) (n : length l ≡ 48) where
  pub accept_way : (a b m : List ℕ) (v : Vector) (up : Bool) → v.0 < 256 → a ≡ marked_in l 18 v.0 true → b ≡ marked_in a 26 v.0 up → m ≡ ranked b → Leaves l l m Nothing (accept_interrupt (view l) v up)
  unfolding accept_interrupt
  accept_way a b m v up h ea eb e =
      let v₀ = v.0 in
      let na : length a ≡ 48 = rw ea (simp length-set n) in
      let nb : length b ≡ 48 = rw eb (simp length-set na) in
      let va : view a ≡ with_isr (view l) (moved (view l).isr v₀ true) = rw ea (mark_isr l n v₀ true h) in
      let vb : view b ≡ with_tmr (view a) (moved (view a).tmr v₀ up) = rw eb (mark_tmr a na v₀ up h) in
      record {
        outcome = ap done (ap view e ∙ rank_view b nb ∙ ap update_ppr (vb ∙ ap (λ (s : VirtualApicRegs). with_tmr s (moved s.tmr v₀ up)) va));
        refused = tt;
        stored = rw e (stored_then l b (ranked b) (rw eb (stored_then l a (marked_in a 26 v₀ up) (rw ea (stored_mark l 18 v₀ true n h (omega arith) (omega arith))) (stored_mark a 26 v₀ up na h (omega arith) (omega arith)))) (stored_rank b nb));
      }

  ended_view : view (ended l (served l)) ≡ update_ppr (with_isr (view l) (moved (view l).isr (served l) false))
  ended_view = rank_view (marked_in l 18 (served l) false) (simp length-set n) ∙ ap update_ppr (mark_isr l n (served l) false (served_small l))

  ended_stored : Stored l (ended l (served l))
  ended_stored =
      let m = marked_in l 18 (served l) false in
      stored_then l m (ranked m) (stored_mark l 18 (served l) false n (served_small l) (omega arith) (omega arith)) (stored_rank m (simp length-set n))

  module _ (v : ℕ) (e : v ≡ served l) where
    pub eoi_none : v ≡ 0 → Leaves l l l Nothing (handle_eoi (view l))
    unfolding handle_eoi view
    eoi_none z = same l Nothing (handle_eoi (view l)) (rw (← e, eq-eqb v 0 z))

    eoi_some : (m : List ℕ) (level told b : Bool) (svr : ℕ) → (v ≡ 0 → ⊥) → level ≡ in_words (eight l 26) v → svr ≡ word l 6 → told ≡ broadcast level svr
        → told ≡ b → m ≡ ended l v → Leaves l l m (cond b (One v) Nothing) (handle_eoi (view l))
    unfolding handle_eoi view
    eoi_some m level told b svr z el es et eb em =
        let p : eqb (served l) 0 ≡ false = rw (← e) (ne_eqb v 0 z) in
        let q : broadcasts (view l) (served l) ≡ b = rw (← e, ← el, ← es, ← et) eb in
        record {
          outcome = rw (em, e, p, q) (ap (λ (s : VirtualApicRegs). record { state = s; reply = cond b (One (served l)) Nothing }) ended_view);
          refused = not_refused b;
          stored = rw (em, e) ended_stored;
        }
      where
        not_refused : (c : Bool) → Kept (cond c (One v) Nothing) l m
        not_refused true = tt
        not_refused false = tt

    module _ (m : List ℕ) (level told : Bool) (svr : ℕ) (z : v ≡ 0 → ⊥) (el : level ≡ in_words (eight l 26) v) (es : svr ≡ word l 6) (et : told ≡ broadcast level svr) (em : m ≡ ended l v) where
      pub eoi_told : told ≡ true → Leaves l l m (One v) (handle_eoi (view l))
      eoi_told t = eoi_some m level told true svr z el es et t em

      pub eoi_silent : told ≡ false → Leaves l l m Nothing (handle_eoi (view l))
      eoi_silent t = eoi_some m level told false svr z el es et t em

    pub write_eoi_none : v ≡ 0 → Leaves l l l Nothing (done (handle_eoi (view l)).state)
    unfolding handle_eoi view
    write_eoi_none z = same l Nothing (done (handle_eoi (view l)).state) (rw (← e, eq-eqb v 0 z))

    pub write_eoi_some : (m : List ℕ) → (v ≡ 0 → ⊥) → m ≡ ended l v → Leaves l l m Nothing (done (handle_eoi (view l)).state)
    unfolding handle_eoi view
    write_eoi_some m z em =
        let p : eqb (served l) 0 ≡ false = rw (← e) (ne_eqb v 0 z) in
        record { outcome = rw (em, e, p) (ap done ended_view); refused = tt; stored = rw (em, e) ended_stored }

-- ---- offsets

-- the registers that can be read and those that are stored, in steps of 16
abbrev pub read_keys : List ℕ
read_keys = 0x2 ∷ 0x8 ∷ 0xa ∷ 0xd ∷ 0xe ∷ 0xf ∷ 0x28 ∷ 0x2f ∷ 0x30 ∷ 0x31 ∷ 0x32 ∷ 0x33 ∷ 0x34 ∷ 0x35 ∷ 0x36 ∷ 0x37 ∷ []

abbrev pub store_keys : List ℕ
store_keys = 0x2 ∷ 0x8 ∷ 0xd ∷ 0xe ∷ 0xf ∷ 0x28 ∷ 0x31 ∷ 0x2f ∷ 0x32 ∷ 0x33 ∷ 0x34 ∷ 0x35 ∷ 0x36 ∷ 0x37 ∷ []

-- keys sixteen apart
abbrev by16 : List ℕ → List ℕ
by16 [] = []
by16 (k ∷ ks) = k * 16 ∷ by16 ks

apart_16 : (o : ℕ) (ks : List ℕ) → Apart o ks → Apart (o * 16) (by16 ks)
apart_16 o [] h = tt
apart_16 o (k ∷ ks) h = ((λ e. h.0 (omega arith)), apart_16 o ks h.1)

-- an offset between them
abbrev Sixteens : List ℕ → Type 0
Sixteens [] = Unit
Sixteens (k ∷ ks) = (k % 16 ≡ 0) × Sixteens ks

apart_odd : (o : ℕ) (ks : List ℕ) → (o % 16 ≡ 0 → ⊥) → Sixteens ks → Apart o ks
apart_odd o [] h s = tt
apart_odd o (k ∷ ks) h s = ((λ e. h (rw e s.0)), apart_odd o ks h s.1)

-- ---- reads

-- three of the keys stand below ISR
pub from_13 : (at : ℕ) → 13 ≤ at → (at ≡ 13 → ⊥) → (at ≡ 14 → ⊥) → (at ≡ 15 → ⊥) → 16 ≤ at
from_13 at h a b c = omega arith

module _ (l : List ℕ) where
  pub read_vectors : (at : ℕ) → 16 ≤ at → at < 32 → One (word l (at + 2)) ≡ handle_read (view l) (at * 16)
  unfolding handle_read view
  read_vectors at a b = go (ltb at 24) refl
    where
      sixteen : eqb (at * 16 % 16) 0 ≡ true
      sixteen = eq-eqb (at * 16 % 16) 0 (omega arith)

      go : (c : Bool) → ltb at 24 ≡ c → One (word l (at + 2)) ≡ handle_read (view l) (at * 16)
      go true e =
          let h = ltb-true at 24 e in
          rw (sixteen, le-leb 0x100 (at * 16) (omega arith), lt-ltb (at * 16) 0x180 (omega arith))
          (ap One (sym (at_from l 18 8 (at * 16 / 16 % 8) (at + 2) (omega arith) (omega arith))))
      go false e =
          let h = ltb-false at 24 e in
          rw (sixteen, le-leb 0x100 (at * 16) (omega arith), le-ltb (at * 16) 0x180 (omega arith), le-leb 0x180 (at * 16) (omega arith), lt-ltb (at * 16) 0x200 (omega arith))
          (ap One (sym (at_from l 26 8 (at * 16 / 16 % 8) (at + 2) (omega arith) (omega arith))))

  -- none of the registers that can be read
  no_read : (o : ℕ) → eight_from 0x100 o ≡ false → eight_from 0x180 o ≡ false → Apart o (keys (readable (view l))) → Refused InvalidRegister ≡ handle_read (view l) o
  unfolding handle_read
  no_read o p q h = rw (p, q) (sym (no_word o (readable (view l)) h))

  pub read_none : (at : ℕ) → (16 ≤ at → at ≤ 31 → ⊥)
      → Apart at read_keys
      → Refused InvalidRegister ≡ handle_read (view l) (at * 16)
  read_none at n h = go (ltb at 16) refl
    where
      sixteen : eqb (at * 16 % 16) 0 ≡ true
      sixteen = eq-eqb (at * 16 % 16) 0 (omega arith)

      rest : eight_from 0x100 (at * 16) ≡ false → eight_from 0x180 (at * 16) ≡ false → Refused InvalidRegister ≡ handle_read (view l) (at * 16)
      rest p q = no_read (at * 16) p q (apart_16 at read_keys h)

      go : (c : Bool) → ltb at 16 ≡ c → Refused InvalidRegister ≡ handle_read (view l) (at * 16)
      go true e =
          let g = ltb-true at 16 e in
          rest (rw (sixteen, lt-leb 0x100 (at * 16) (omega arith))) (rw (sixteen, lt-leb 0x180 (at * 16) (omega arith)))
      go false e =
          let g = ltb-false at 16 e in
          let k : 32 ≤ at = omega (arith, n g) in
          rest
          (rw (sixteen, le-leb 0x100 (at * 16) (omega arith), le-ltb (at * 16) 0x180 (omega arith)))
          (rw (sixteen, le-leb 0x180 (at * 16) (omega arith), le-ltb (at * 16) 0x200 (omega arith)))

  pub read_odd : (o : ℕ) → (o % 16 ≡ 0 → ⊥) → Refused InvalidRegister ≡ handle_read (view l) o
  read_odd o h =
      let e : eqb (o % 16) 0 ≡ false = ne_eqb (o % 16) 0 h in
      no_read o (rw e) (rw e)
      (apart_odd o (keys (readable (view l))) h
      (refl, (refl, (refl, (refl, (refl, (refl, (refl, (refl, (refl, (refl, (refl, (refl, (refl, (refl, (refl, (refl, tt)))))))))))))))))

-- ---- writes

module _ (l : List ℕ) (o val : ℕ) where
  no_store : Apart o (keys (stored (view l) val)) → Leaves l l l (Refused InvalidRegister) (write_stored (view l) o val)
  unfolding write_stored
  no_store h = same l (Refused InvalidRegister) (write_stored (view l) o val) (sym (no_register (view l) o (stored (view l) val) h))

pub store_none : (l : List ℕ) (at val : ℕ)
    → Apart at store_keys
    → Leaves l l l (Refused InvalidRegister) (write_stored (view l) (at * 16) val)
unfolding stored
store_none l at val h = no_store l (at * 16) val (apart_16 at store_keys h)

-- the ICR
icr_hi_is : (l : List ℕ) → word l 10 ≡ (view l).icr_hi
unfolding view
icr_hi_is l = refl

pub id_is : (l : List ℕ) → word l 1 ≡ (view l).vapic_id
unfolding view
id_is l = refl

module _ (l : List ℕ) (val width num active : ℕ) (x w : Bool) (wide : ℕ) (ex : x ≡ (view l).x2apic) (en : wide ≡ width) (ew : w ≡ icr_width x wide) where
  fits : (b : Bool) → w ≡ b → icr_width (view l).x2apic width ≡ b
  fits b t = ap (λ (y : Bool). icr_width y width) (sym ex) ∙ ap (icr_width x) (sym en) ∙ sym ew ∙ t

  pub icr_in : (m : List ℕ) (r : Reply) (high hi : ℕ) → w ≡ true → high ≡ word l 10 → hi ≡ icr_high x val high
      → Leaves l (command_stored l (val % 0x100000000) hi) m r (write_icr (view l) (val % 0x100000000) hi num active)
      → Leaves l (icr_refused l val width) m r (write_icr_low (view l) val width num active)
  unfolding icr_refused write_icr_low
  icr_in m r high hi t eh e k =
      let h : hi ≡ icr_high (view l).x2apic val (view l).icr_hi = e ∙ ap (icr_high x val) (eh ∙ icr_hi_is l) ∙ ap (λ (y : Bool). icr_high y val (view l).icr_hi) ex in
      leaves_as (write_icr_low (view l) val width num active) (icr_refused l val width) k
      (cond_yes _ _ _ _ _ (fits true t) (ap (λ (y : ℕ). write_icr (view l) (val % 0x100000000) y num active) h))
      (cond_yes _ _ _ _ _ (fits true t) (ap (command_stored l (val % 0x100000000)) h))

  pub icr_out : w ≡ false → Leaves l (icr_refused l val width) l (Refused InvalidRegister) (write_icr_low (view l) val width num active)
  unfolding icr_refused write_icr_low
  icr_out t =
      leaves_as (write_icr_low (view l) val width num active) (icr_refused l val width) (same l (Refused InvalidRegister) (refused (view l) InvalidRegister) refl)
      (cond_no _ _ _ _ _ (fits false t) refl) (cond_no _ _ _ _ _ (fits false t) refl)

-- the self-IPI register
module _ (l : List ℕ) (val : ℕ) (x : Bool) (ex : x ≡ (view l).x2apic) where
  pub self_in : (m : List ℕ) (r : Reply) (n : ℕ) (id : VcpuId) (a : IcrAnswer) → x ≡ true → n ≡ word l 1 → id ≡ vcpu_of n → a ≡ self_ipi id (record { 0 = val % 256 })
      → Leaves l l m r (answered (view l) (Ok a)) → Leaves l l m r (write_self_ipi (view l) val)
  unfolding write_self_ipi
  self_in m r n id a t en ei ea k =
      leaves_as (write_self_ipi (view l) val) l k
      (cond_yes _ _ _ _ _ (sym ex ∙ t) (ap (λ (y : IcrAnswer). answered (view l) (Ok y)) (ea ∙ ap (λ (y : VcpuId). self_ipi y (record { 0 = val % 256 })) (ei ∙ ap vcpu_of (en ∙ id_is l))))) refl

  pub self_out : x ≡ false → Leaves l l l (Refused InvalidRegister) (write_self_ipi (view l) val)
  unfolding write_self_ipi
  self_out t = same l (Refused InvalidRegister) (write_self_ipi (view l) val) (cond_no _ _ _ _ _ (sym ex ∙ t) refl)

-- a register by its offset
module _ (l : List ℕ) (at val width num active : ℕ) (e : out_of_range num (view l).vapic_id ≡ false) (m : List ℕ) (r : Reply) where
  abbrev Written : Type 0
  Written = Leaves l (refused_words l (at * 16) val width num) m r (handle_write (view l) (at * 16) val width num active)

  pub at_eoi : at ≡ 0xb → Leaves l l m r (done (handle_eoi (view l)).state) → Written
  unfolding refused_words handle_write
  at_eoi q k = rw (q, e) k

  pub at_icr : at ≡ 0x30 → Leaves l (icr_refused l val width) m r (write_icr_low (view l) val width num active) → Written
  unfolding refused_words handle_write
  at_icr q k = rw (q, e) k

  pub at_self : at ≡ 0x3f → Leaves l l m r (write_self_ipi (view l) val) → Written
  unfolding refused_words handle_write
  at_self q k = rw (q, e) k

  pub at_rest : (at ≡ 0xb → ⊥) → (at ≡ 0x30 → ⊥) → (at ≡ 0x3f → ⊥) → Leaves l l m r (write_stored (view l) (at * 16) (val % 0x100000000)) → Written
  unfolding refused_words handle_write
  at_rest p q s k = rw (ne_eqb (at * 16) 0xb0 (λ z. p (omega arith)), ne_eqb (at * 16) 0x300 (λ z. q (omega arith)), ne_eqb (at * 16) 0x3f0 (λ z. s (omega arith)), e) k

module _ (l : List ℕ) (o val width num active : ℕ) (b : Bool) (n : ℕ) (id : VcpuId) (en : n ≡ word l 1) (ei : id ≡ vcpu_of n) (eb : b ≡ out_of_range num id.0) where
  range : (c : Bool) → b ≡ c → out_of_range num (view l).vapic_id ≡ c
  range c t = own_range num (view l).vapic_id id b c (ei ∙ ap vcpu_of (en ∙ id_is l)) eb t

  pub in_range_is : b ≡ false → out_of_range num (view l).vapic_id ≡ false
  in_range_is t = range false t

  -- refused before the register is looked at
  pub write_range : b ≡ true → Leaves l (refused_words l o val width num) l (Refused OutOfRange) (handle_write (view l) o val width num active)
  unfolding refused_words handle_write
  write_range t =
      leaves_as (handle_write (view l) o val width num active) (refused_words l o val width num) (same l (Refused OutOfRange) (refused (view l) OutOfRange) refl)
      (cond_yes _ _ _ _ _ (range true t) refl)
      (cond_no _ _ _ _ _ (ap (λ (y : Bool). eqb o 0x300 && not y) (range true t) ∙ and-false (eqb o 0x300)) refl)

  pub write_odd : b ≡ false → (o % 16 ≡ 0 → ⊥) → Leaves l (refused_words l o val width num) l (Refused InvalidRegister) (handle_write (view l) o val width num active)
  unfolding refused_words handle_write stored
  write_odd t h =
      let apart : (k : ℕ) → k % 16 ≡ 0 → eqb o k ≡ false = λ k p. ne_eqb o k (λ q. h (rw q p)) in
      leaves_as (handle_write (view l) o val width num active) (refused_words l o val width num)
      (no_store l o (val % 0x100000000)
      (apart_odd o (keys (stored (view l) (val % 0x100000000))) h
      (refl, (refl, (refl, (refl, (refl, (refl, (refl, (refl, (refl, (refl, (refl, (refl, (refl, (refl, tt))))))))))))))))
      (cond_no _ _ _ _ _ (range false t) (cond_no _ _ _ _ _ (apart 0xb0 refl) (cond_no _ _ _ _ _ (apart 0x300 refl) (cond_no _ _ _ _ _ (apart 0x3f0 refl) refl))))
      (cond_no _ _ _ _ _ (ap (λ (y : Bool). y && not (out_of_range num (view l).vapic_id)) (apart 0x300 refl)) refl)

even : (o : ℕ) → o % 16 ≡ 0 → o / 16 * 16 ≡ o
even o h = omega arith

pub write_even : (l m : List ℕ) (r : Reply) (o val width num active : ℕ) → o % 16 ≡ 0
    → Leaves l (refused_words l (o / 16 * 16) val width num) m r (handle_write (view l) (o / 16 * 16) val width num active)
    → Leaves l (refused_words l o val width num) m r (handle_write (view l) o val width num active)
write_even l m r o val width num active h k = rw (even o h) at k

pub read_even : (l : List ℕ) (r : Reply) (o : ℕ) → o % 16 ≡ 0 → r ≡ handle_read (view l) (o / 16 * 16) → r ≡ handle_read (view l) o
read_even l r o h k = rw (even o h) at k

-- ---- new and setup

pub new_way : (m : List ℕ) → m ≡ start_words false 0 (0 ∷ 0 ∷ 0 ∷ 0 ∷ 0 ∷ 0 ∷ []) → IsNew m
new_way m e = rw e record { registers = start_view false 0 (0 ∷ 0 ∷ 0 ∷ 0 ∷ 0 ∷ 0 ∷ []) (omega arith); spare = new_spare false 0; small = start_small false 0 (0 ∷ 0 ∷ 0 ∷ 0 ∷ 0 ∷ 0 ∷ []) (omega arith) }

module _ (l : List ℕ) (x2apic b : Bool) (id : VcpuId) (num : ℕ) (e : b ≡ out_of_range num id.0) where
  pub setup_out : b ≡ true → Leaves l l l (Refused OutOfRange) (setup (view l) x2apic id num)
  unfolding setup
  setup_out t = same l (Refused OutOfRange) (setup (view l) x2apic id num) (rw (← e, t))

  pub setup_in : (m : List ℕ) (n : ℕ) → b ≡ false → n ≡ apic_id id → m ≡ start_words x2apic n (spare_of l)
      → Leaves l l m Nothing (setup (view l) x2apic id num)
  unfolding setup
  setup_in m n t en em =
      let h : id.0 ≤ 63 = (in_range num id.0 (sym e ∙ t)).1 in
      rw (← e, t, em, id_kept_lem num id n b e t en)
      record {
        outcome = ap done (start_view x2apic id.0 (spare_of l) (omega arith));
        refused = tt;
        stored = start_stored x2apic id.0 l (omega arith);
      }
