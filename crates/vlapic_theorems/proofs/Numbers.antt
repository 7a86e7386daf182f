-- Refusal numbers: when, and only then, and the state after. Assumes nothing.
use mathlib.Core.Path.{◌≡◌, refl, sym, ap, ◌∙◌, subst}
use mathlib.Core.Bool.{Bool, true, false, not, cond, ◌&&◌, ◌||◌}
use mathlib.Core.Logic.{◌↔◌}
use mathlib.Core.List.{List, [], ◌∷◌}
use Prim.Native.Nat.{ℕ, ◌+◌, ◌%◌, ◌≤◌, ◌<◌}
use native.Mathlib.Omega.{arith}
use lib.Dec.{eqb, leb, ltb}
use borrow.Author.Tests.{eq-eqb, ne_eqb, eqb-true, leb-true, le-leb, ltb-true, ltb-false, lt-ltb}
use Rattle.utils.specs.Cases.{or_right_yes}
use Rattle.utils.proofs.Bools.{never, either, and-false, or_false}
use Rattle.types.specs.declared.VcpuId.{VcpuId}
use Rattle.std.specs.Prelude.{Result, Ok, Err}
use Rattle.types.specs.declared.Refusal.{Refusal}
use Rattle.types.specs.declared.Refusal.TheVariants.{InvalidRegister, OutOfRange}
use Rattle.types.specs.declared.Reply.{Reply}
use Rattle.types.specs.declared.Reply.TheVariants.{Refused, One}
use Rattle.types.specs.Counters.{vcpu_mask, vcpu_of}
use Rattle.types.specs.Reply.{Outcome, reply_number}
use Rattle.vlapic_icr.specs.declared.IcrAnswer.{IcrAnswer}
use Rattle.vlapic_icr.specs.declared.IcrAnswer.TheVariants.{Nothing, SendIllegalVector, Ipi}
use Rattle.vlapic_icr.specs.declared.fields.DeliveryMode.TheVariants.{Fixed}
use Rattle.vlapic_icr.specs.Icr.{self_ipi}
use Rattle.vlapic.specs.declared.VirtualApicRegs.{VirtualApicRegs}
use Rattle.vlapic.specs.Answers.{done, refused}
use Rattle.vlapic.specs.Regs.{start}
use Rattle.vlapic.specs.Registers.{readable, word_at, eight_from, handle_read}
use Rattle.vlapic.specs.Calls.{out_of_range, answered, setup, handle_write}
use Rattle.vlapic_theorems.specs.Sending.{low_word, destination, is_icr_width, is_storing}
use Rattle.vlapic_theorems.specs.Numbers.{is_one, read_offsets, is_read, is_written, is_command3, is_command5, is_write2, is_write3, is_write5, is_setup5, WritesNumbered, ReadsNumbered, SetupsNumbered, commanded, Leaves, WritesLeave, RefusedWrites, SetupsLeave}
use Rattle.vlapic_theorems.proofs.Targets.{is_hit}
use Rattle.vlapic_theorems.proofs.Sending.{Answers, sends, idles, notes, refuses_kind, refuses_id, Wrote, outside, unlisted, plain, self, commands_it, wrote}

-- ---- a number, and the four tests of which one holds

pub record Tested (number : ℕ) (zero two three five : Bool) : Type 0 where
  pub at_zero : number ≡ 0 ↔ zero ≡ true
  pub at_two : number ≡ 2 ↔ two ≡ true
  pub at_three : number ≡ 3 ↔ three ≡ true
  pub at_five : number ≡ 5 ↔ five ≡ true

is_0 : (two three five : Bool) → two ≡ false → three ≡ false → five ≡ false → Tested 0 (not (two || (three || five))) two three five
is_0 two three five a b c = record {
  at_zero = (λ e. rw (a, b, c), λ e. refl);
  at_two = (λ e. absurd (omega arith), λ e. never e a);
  at_three = (λ e. absurd (omega arith), λ e. never e b);
  at_five = (λ e. absurd (omega arith), λ e. never e c);
}

is_2 : (two three five : Bool) → two ≡ true → three ≡ false → five ≡ false → Tested 2 (not (two || (three || five))) two three five
is_2 two three five a b c = record {
  at_zero = (λ e. absurd (omega arith), λ e. never e (rw a));
  at_two = (λ e. a, λ e. refl);
  at_three = (λ e. absurd (omega arith), λ e. never e b);
  at_five = (λ e. absurd (omega arith), λ e. never e c);
}

is_3 : (two three five : Bool) → two ≡ false → three ≡ true → five ≡ false → Tested 3 (not (two || (three || five))) two three five
is_3 two three five a b c = record {
  at_zero = (λ e. absurd (omega arith), λ e. never e (rw (a, b)));
  at_two = (λ e. absurd (omega arith), λ e. never e a);
  at_three = (λ e. b, λ e. refl);
  at_five = (λ e. absurd (omega arith), λ e. never e c);
}

is_5 : (two three five : Bool) → two ≡ false → three ≡ false → five ≡ true → Tested 5 (not (two || (three || five))) two three five
is_5 two three five a b c = record {
  at_zero = (λ e. absurd (omega arith), λ e. never e (rw (a, b, c)));
  at_two = (λ e. absurd (omega arith), λ e. never e a);
  at_three = (λ e. absurd (omega arith), λ e. never e b);
  at_five = (λ e. c, λ e. refl);
}

-- ---- a write

-- a command's number, by what is known of the write: it is the ICR's, count and id are out of range, the width fits
module _ (icr out fits number : Bool) where
  no_icr : icr ≡ false → (icr && ((not out && fits) && number)) ≡ false
  no_icr e = rw e

  out_icr : out ≡ true → (icr && ((not out && fits) && number)) ≡ false
  out_icr e = rw e (and-false icr)

  unfit_icr : (icr ≡ true → fits ≡ false) → (icr && ((not out && fits) && number)) ≡ false
  unfit_icr h = go icr h
    where
      go : (b : Bool) → (b ≡ true → fits ≡ false) → (b && ((not out && fits) && number)) ≡ false
      go true h = rw (h refl, and-false (not out))
      go false h = refl

  fit_icr : icr ≡ true → out ≡ false → fits ≡ true → (icr && ((not out && fits) && number)) ≡ number
  fit_icr i o f = rw (i, o, f)

-- where count and id are in range
in_range_five : (out : Bool) {five number : Bool} → out ≡ false → five ≡ number → (out || five) ≡ number
in_range_five out e q = rw e q

-- the self-IPI register is never refused in its mode
itself_done : (s : VirtualApicRegs) (val : ℕ) → reply_number (answered s (Ok (self_ipi (record { 0 = s.vapic_id }) (record { 0 = val % 256 })))).reply ≡ 0
unfolding self_ipi
itself_done s val = go (ltb (val % 256) 16)
  where
    go : (b : Bool) → reply_number (answered s (Ok (cond b SendIllegalVector (Ipi (record { kind = Fixed; vector = record { 0 = val % 256 }; mask = vcpu_mask (vcpu_of s.vapic_id) }))))).reply ≡ 0
    go true = refl
    go false = refl

module _ (s : VirtualApicRegs) (offset val width num active : ℕ) where
  abbrev Numbered : ℕ → Type 0
  Numbered n =
      Tested n
      (not (is_write2 s offset width num || (is_write3 s offset val width num active || is_write5 s offset val width num)))
      (is_write2 s offset width num)
      (is_write3 s offset val width num active)
      (is_write5 s offset val width num)

  abbrev icr : Bool
  icr = eqb offset 0x300

  abbrev out : Bool
  out = out_of_range num s.vapic_id

  abbrev fits : Bool
  fits = is_icr_width s.x2apic width

  -- a register that is listed for this use
  listed : out ≡ false → is_written s.x2apic offset width ≡ true → is_write2 s offset width num ≡ false
  listed e y = rw (e, y)

  -- a command
  module _ (e : out ≡ false) (at : offset ≡ 0x300) (f : fits ≡ true) where
    three_is : {b : Bool} → is_command3 s val num active ≡ b → is_write3 s offset val width num active ≡ b
    three_is q = fit_icr icr out fits (is_command3 s val num active) (eq-eqb offset 0x300 at) e f ∙ q

    five_is : {b : Bool} → is_command5 s val ≡ b → is_write5 s offset val width num ≡ b
    five_is q = in_range_five out e (fit_icr icr out fits (is_command5 s val) (eq-eqb offset 0x300 at) e f ∙ q)

    two_is : is_write2 s offset width num ≡ false
    two_is = listed e (rw (at, f))

    command_numbered : {a : Result IcrAnswer Refusal}
        → Answers (low_word val) num (is_hit s active (destination s val)) (is_command3 s val num active) (is_command5 s val) a
        → Numbered (reply_number (answered (commanded s val) a).reply)
    command_numbered (sends go bits some t v) = is_0 _ _ _ two_is (three_is t) (five_is v)
    command_numbered (idles n t v) = is_0 _ _ _ two_is (three_is t) (five_is v)
    command_numbered (notes n t v) = is_0 _ _ _ two_is (three_is t) (five_is v)
    command_numbered (refuses_kind n t v) = is_3 _ _ _ two_is (three_is t) (five_is v)
    command_numbered (refuses_id n t v) = is_5 _ _ _ two_is (three_is t) (five_is v)

  numbered : (o : Outcome VirtualApicRegs) → Wrote s offset val width num active o → Numbered (reply_number o.reply)
  numbered o (outside e) = is_5 _ _ _ (rw e) (out_icr icr out fits (is_command3 s val num active) e) (rw e)
  numbered o (unlisted e n) =
      let none : icr ≡ true → fits ≡ false = λ q. subst (λ (k : ℕ). is_written s.x2apic k width ≡ false) (eqb-true offset 0x300 q) n in
      is_2 _ _ _ (rw (e, n)) (unfit_icr icr out fits (is_command3 s val num active) none)
      (in_range_five out e (unfit_icr icr out fits (is_command5 s val) none))
  numbered o (plain e y n m) =
      let i : icr ≡ false = ne_eqb offset 0x300 n in
      is_0 _ _ _ (listed e y) (no_icr icr out fits (is_command3 s val num active) i) (in_range_five out e (no_icr icr out fits (is_command5 s val) i))
  numbered o (self e at x) =
      let i : icr ≡ false = ne_eqb offset 0x300 (λ q. omega arith) in
      subst Numbered (sym (itself_done s val))
      (is_0 _ _ _ (listed e (rw (at, x))) (no_icr icr out fits (is_command3 s val num active) i) (in_range_five out e (no_icr icr out fits (is_command5 s val) i)))
  numbered o (commands_it e at f a) = command_numbered e at f a

pub writes_numbered : WritesNumbered
writes_numbered s offset val width num active =
    let t = numbered s offset val width num active (handle_write s offset val width num active) (wrote s offset val width num active) in
    record { done = t.at_zero; register = t.at_two; delivery = t.at_three; range = t.at_five }

-- ---- the state after

module _ (s : VirtualApicRegs) (offset val width num active : ℕ) where
  done_leaves : (o : Outcome VirtualApicRegs) → reply_number o.reply ≡ 0 → Leaves s val num o
  done_leaves o z = record {
    register = λ e. absurd (omega (arith, sym z ∙ e));
    delivery = λ e. absurd (omega (arith, sym z ∙ e));
    destination = λ e _. absurd (omega (arith, sym z ∙ e));
    range = λ e _. absurd (omega (arith, sym z ∙ e));
  }

  command_leaves : out_of_range num s.vapic_id ≡ false → (hit : ℕ → Bool) (three five : Bool) (a : Result IcrAnswer Refusal) → Answers (low_word val) num hit three five a
      → Leaves s val num (answered (commanded s val) a)
  command_leaves inside hit three five a (sends go bits some t v) = done_leaves _ refl
  command_leaves inside hit three five a (idles n t v) = done_leaves _ refl
  command_leaves inside hit three five a (notes n t v) = done_leaves _ refl
  command_leaves inside hit three five a (refuses_kind n t v) = record {
    register = λ e. absurd (omega arith);
    delivery = λ e. refl;
    destination = λ e _. refl;
    range = λ e _. absurd (omega arith);
  }
  command_leaves inside hit three five a (refuses_id n t v) = record {
    register = λ e. absurd (omega arith);
    delivery = λ e. refl;
    destination = λ e _. refl;
    range = λ e q. never q inside;
  }

  leaves : (o : Outcome VirtualApicRegs) → Wrote s offset val width num active o → Leaves s val num o
  leaves o (outside e) = record {
    register = λ q. absurd (omega arith);
    delivery = λ q. absurd (omega arith);
    destination = λ q n. never e n;
    range = λ q _. refl;
  }
  leaves o (unlisted e n) = record {
    register = λ q. refl;
    delivery = λ q. absurd (omega arith);
    destination = λ q _. absurd (omega arith);
    range = λ q _. refl;
  }
  leaves o (plain e y n m) = done_leaves _ refl
  leaves o (self e at x) = done_leaves _ (itself_done s val)
  leaves o (commands_it e at f a) = command_leaves e _ _ _ _ a

pub writes_leave : WritesLeave
writes_leave s offset val width num active = leaves s offset val width num active (handle_write s offset val width num active) (wrote s offset val width num active)

module _ (s : VirtualApicRegs) (offset val width num active : ℕ) where
  abbrev storing : Bool
  storing = eqb offset 0x300 && is_storing s width num

  not_storing : storing ≡ false → s ≡ cond storing (commanded s val) s
  not_storing e = rw e

  -- a command's outcome has its words in it, if it is refused
  with_words : (a : Result IcrAnswer Refusal) → (reply_number (answered (commanded s val) a).reply ≡ 0 → ⊥) → (answered (commanded s val) a).state ≡ commanded s val
  with_words (Ok Nothing) n = refl
  with_words (Ok SendIllegalVector) n = absurd (n refl)
  with_words (Ok (Ipi ipi)) n = refl
  with_words (Err why) n = refl

  left : (o : Outcome VirtualApicRegs) → Wrote s offset val width num active o → (reply_number o.reply ≡ 0 → ⊥) → o.state ≡ cond storing (commanded s val) s
  left o (outside e) n = not_storing (rw e (and-false (eqb offset 0x300)))
  left o (unlisted e m) n = not_storing (unfit (eqb offset 0x300) refl)
    where
      unfit : (b : Bool) → eqb offset 0x300 ≡ b → (b && is_storing s width num) ≡ false
      unfit true q =
          let f : is_icr_width s.x2apic width ≡ false = subst (λ (k : ℕ). is_written s.x2apic k width ≡ false) (eqb-true offset 0x300 q) m in
          rw f (and-false (not (out_of_range num s.vapic_id)))
      unfit false q = refl
  left o (plain e y c d) n = absurd (n refl)
  left o (self e at x) n = absurd (n (itself_done s val))
  left o (commands_it {a} e at f q) n =
      with_words a n ∙ sym (ap (λ (b : Bool). cond b (commanded s val) s) (stores (eq-eqb offset 0x300 at)))
    where
      stores : eqb offset 0x300 ≡ true → storing ≡ true
      stores i = rw (i, e, f)

pub refused_writes : RefusedWrites
refused_writes s offset val width num active n =
    left s offset val width num active (handle_write s offset val width num active) (wrote s offset val width num active) n

-- ---- a read

-- the eight words from a base on
module _ (base offset : ℕ) where
  eight_true : eight_from base offset ≡ true → (offset % 16 ≡ 0) × ((base ≤ offset) × (offset < base + 0x80))
  eight_true e = go (eqb (offset % 16) 0) refl (leb base offset) refl (ltb offset (base + 0x80)) refl
    where
      go : (a : Bool) → eqb (offset % 16) 0 ≡ a → (b : Bool) → leb base offset ≡ b → (c : Bool) → ltb offset (base + 0x80) ≡ c
          → (offset % 16 ≡ 0) × ((base ≤ offset) × (offset < base + 0x80))
      go true p true q true r = (eqb-true (offset % 16) 0 p, (leb-true base offset q, ltb-true offset (base + 0x80) r))
      go false p b q c r = never (rw p at e) refl
      go true p false q c r = never (rw (p, q) at e) refl
      go true p true q false r = never (rw (p, q, r) at e) refl

  eight_is : offset % 16 ≡ 0 → base ≤ offset → offset < base + 0x80 → eight_from base offset ≡ true
  eight_is m l h = rw (eq-eqb (offset % 16) 0 m, le-leb base offset l, lt-ltb offset (base + 0x80) h)

span : ℕ → Bool
span offset = eqb (offset % 16) 0 && (leb 0x100 offset && leb offset 0x1f0)

in_span : (offset : ℕ) → offset % 16 ≡ 0 → 0x100 ≤ offset → offset ≤ 0x1f0 → span offset ≡ true
unfolding span
in_span offset m l h = rw (eq-eqb (offset % 16) 0 m, le-leb 0x100 offset l, le-leb offset 0x1f0 h)

out_span : (offset : ℕ) → eight_from 0x100 offset ≡ false → eight_from 0x180 offset ≡ false → span offset ≡ false
unfolding span
out_span offset e f = go (eqb (offset % 16) 0) refl (leb 0x100 offset) refl (leb offset 0x1f0) refl
  where
    half : (b : Bool) → ltb offset 0x180 ≡ b → offset % 16 ≡ 0 → 0x100 ≤ offset → offset ≤ 0x1f0 → true ≡ false
    half true q m l h = sym (eight_is 0x100 offset m l (ltb-true offset 0x180 q)) ∙ e
    half false q m l h = sym (eight_is 0x180 offset m (ltb-false offset 0x180 q) (omega arith)) ∙ f

    go : (a : Bool) → eqb (offset % 16) 0 ≡ a → (b : Bool) → leb 0x100 offset ≡ b → (c : Bool) → leb offset 0x1f0 ≡ c → (a && (b && c)) ≡ false
    go false p b q c r = refl
    go true p false q c r = refl
    go true p true q false r = refl
    go true p true q true r = half (ltb offset 0x180) refl (eqb-true (offset % 16) 0 p) (leb-true 0x100 offset q) (leb-true offset 0x1f0 r)

-- the others
pub data Word (listed : Bool) : Reply → Type 0 where
  shows : {w : ℕ} → listed ≡ true → Word listed (One w)
  hides : listed ≡ false → Word listed (Refused InvalidRegister)

offsets_of : List (ℕ × ℕ) → List ℕ
offsets_of [] = []
offsets_of (r ∷ rs) = r.0 ∷ offsets_of rs

word_is : (rs : List (ℕ × ℕ)) (offset : ℕ) → Word (is_one offset (offsets_of rs)) (word_at rs offset)
unfolding offsets_of
word_is [] offset = hides refl
word_is (r ∷ rs) offset = go (eqb offset r.0) (word_is rs offset)
  where
    go : (b : Bool) {l : Bool} {w : Reply} → Word l w → Word (b || l) (cond b (One r.1) w)
    go true x = shows refl
    go false x = x

read_is : (s : VirtualApicRegs) (offset : ℕ) → Word (is_read offset) (handle_read s offset)
unfolding handle_read offsets_of span
read_is s offset =
    either (Word (is_read offset)) (eight_from 0x100 offset) _ _
    (λ e. let t = eight_true 0x100 offset e in let h = t.1.1 in shows (spanned (in_span offset t.0 t.1.0 (omega arith))))
    (λ e. either (Word (is_read offset)) (eight_from 0x180 offset) _ _
    (λ f. let t = eight_true 0x180 offset f in let l = t.1.0 in let h = t.1.1 in let m = t.0 in shows (spanned (in_span offset m (omega arith) (omega arith))))
    (λ f. alone (word_is (readable s) offset) (out_span offset e f)))
  where
    spanned : span offset ≡ true → (is_one offset read_offsets || span offset) ≡ true
    spanned e = or_right_yes (is_one offset read_offsets) (span offset) e

    alone : {l b : Bool} {w : Reply} → Word l w → b ≡ false → Word (l || b) w
    alone {l} x e = rw (e, or_false l) x

pub reads_numbered : ReadsNumbered
reads_numbered s offset = go (read_is s offset)
  where
    go : {l : Bool} {r : Reply} → Word l r → (reply_number r ≡ 0 ↔ l ≡ true) × (reply_number r ≡ 2 ↔ l ≡ false)
    go (shows y) = ((λ e. y, λ e. refl), (λ e. absurd (omega arith), λ e. never y e))
    go (hides n) = ((λ e. absurd (omega arith), λ e. never e n), (λ e. n, λ e. refl))

-- ---- a setup

-- the two ways to say that a count or an id is out of range
range_is : (num id : ℕ) → out_of_range num id ≡ is_setup5 num id
range_is num id = refl

module _ (s : VirtualApicRegs) (x2apic : Bool) (id : VcpuId) (num : ℕ) where
  pub setup_is : (b : Bool) → out_of_range num id.0 ≡ b → setup s x2apic id num ≡ cond b (refused s OutOfRange) (done (start x2apic id.0))
  unfolding setup
  setup_is b e = rw e

pub setups_numbered : SetupsNumbered
setups_numbered s x2apic id num = go (out_of_range num id.0) refl
  where
    numbered_by : (b : Bool)
        → (reply_number (cond b (refused s OutOfRange) (done (start x2apic id.0))).reply ≡ 0 ↔ b ≡ false)
        × (reply_number (cond b (refused s OutOfRange) (done (start x2apic id.0))).reply ≡ 5 ↔ b ≡ true)
    numbered_by true = ((λ e. absurd (omega arith), λ e. never refl e), (λ e. refl, λ e. refl))
    numbered_by false = ((λ e. refl, λ e. refl), (λ e. absurd (omega arith), λ e. never e refl))

    go : (b : Bool) → out_of_range num id.0 ≡ b
        → (reply_number (setup s x2apic id num).reply ≡ 0 ↔ is_setup5 num id.0 ≡ false)
        × (reply_number (setup s x2apic id num).reply ≡ 5 ↔ is_setup5 num id.0 ≡ true)
    go b e =
        subst
        (λ (t : Bool). (reply_number (setup s x2apic id num).reply ≡ 0 ↔ t ≡ false) × (reply_number (setup s x2apic id num).reply ≡ 5 ↔ t ≡ true))
        (sym e ∙ range_is num id.0)
        (subst (λ (o : Outcome VirtualApicRegs). (reply_number o.reply ≡ 0 ↔ b ≡ false) × (reply_number o.reply ≡ 5 ↔ b ≡ true)) (sym (setup_is s x2apic id num b e)) (numbered_by b))

pub setups_leave : SetupsLeave
setups_leave s x2apic id num q = go (out_of_range num id.0) refl
  where
    go : (b : Bool) → out_of_range num id.0 ≡ b → (setup s x2apic id num).state ≡ s
    go true e = ap (λ (o : Outcome VirtualApicRegs). o.state) (setup_is s x2apic id num true e)
    go false e = absurd (omega (arith, sym (ap (λ (o : Outcome VirtualApicRegs). reply_number o.reply) (setup_is s x2apic id num false e)) ∙ q))
