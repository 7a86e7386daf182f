-- Masking in version 0x20, and nobody unheard. Assumes nothing.
use Prim.Native.Nat.{ℕ, ◌+◌, ◌-◌, ◌*◌, ◌%◌, ◌^◌, ◌<◌}
use native.Mathlib.Omega.{arith}
use mathlib.Core.Bool.{Bool, true, false, not, cond, ◌&&◌}
use mathlib.Core.List.{List, [], ◌∷◌}
use mathlib.Core.Path.{◌≡◌, refl, sym, ◌∙◌, ap}
use borrow.Author.Tests.{eq-eqb, eqb-true, le-leb}
use lib.Dec.{eqb, leb}
use lib.ListN.{length}
use Rattle.utils.proofs.Bools.{never, and_true}
use Rattle.types.specs.Reply.{Outcome}
use Rattle.types.specs.declared.Gsi.{Gsi}
use Rattle.types.specs.declared.Vector.{Vector}
use Rattle.vioapic_entry.specs.Answers.{routed_reply}
use Rattle.vioapic_entry.specs.Redirection.{EntryStep, vector_of, is_fit, is_level, is_masked, remote_irr, has_vector, awaits, with_input, with_word, with_deferred, without_remote_irr, raise_entry, move_line, end_entry20, store_low20, write_low20}
use Rattle.vioapic.specs.Table.{Routing, is_version20, entry_at, set_level}
use Rattle.vioapic.specs.Registers.{is_entry_word, is_low, entry_of, entry_written, write_word, write_selected, write_at}
use Rattle.vioapic.specs.Agreement.{Agrees, end_each_in_table}
use Rattle.vioapic.proofs.Agree.{calls_agree, runs_agree}
use Rattle.vioapic.specs.IoApic.{writing_outcome, good_width, chip_of, set_gsi_level, handle_write}
use Rattle.vioapic.specs.Calls.{Call, SetGsiLevel, AssertGsi, EndOfInterrupt, VectorForGsi, AddressRange, HandleRead, HandleWrite, outcome, next, run}
use Rattle.vioapic_entry.specs.declared.Entry.{Entry}
use Rattle.vioapic_entry.proofs.Fields.{Alike, alike_refl, same_fit, same_level, same_vector, alike_high, irr_with, irr_high}
use Rattle.vioapic_entry.proofs.EntryLaws.{owed_grounded}
use Rattle.vioapic.specs.State.{IoApicState}
use Rattle.vioapic_theorems.specs.Sends.{routes, write_sends, sent}
use Rattle.vioapic_theorems.specs.Premises.{asks}
use Rattle.vioapic_theorems.specs.Heard20.{is_eoi_at, again, waits}
use Rattle.vioapic_theorems.specs.Masking.{writes_low, after, times, is_open, OpenedSends, MaskEoiUnmask, MaskUnmaskEoi, RaisedMasked, is_heard, AllHeard, NewHears, CallsHear, AlwaysHeard}
use Rattle.vioapic_theorems.proofs.Views.{Sent, Raised, raised_view, Moved, Over, over_view20, Stored, stored_view, Wrote, Routes, level_view}
use Rattle.vioapic_theorems.proofs.Steps.{implied, imply, one, awaits_yes, send_fresh, send_input, end_alike, stored_alike, stored_flight, stored_input}
use Rattle.vioapic_theorems.proofs.Tables.{put_same, every_at}
use Rattle.vioapic_theorems.proofs.Keeps.{calls_keep_version, call_is_version20, run_is_version20}
use Rattle.vioapic_theorems.proofs.Quiet.{routes_one, writes_window}
use Rattle.vioapic_theorems.proofs.Each.{Kept, calls_keep, new_all}
use Rattle.vioapic_theorems.proofs.Heard20.{is_eoi_lem, each_input, every_ended}

-- ---- one low word

-- the write is the entry's rule
record Low (g x : ℕ) (m : IoApicState) (c : Call) : Type 0 where
  entry : entry_at (next m c) g ≡ (write_low20 (entry_at m g) x).entry
  count : times g m c ≡ one (write_low20 (entry_at m g) x).answer

low_word : (m : IoApicState) (g x addr width y : ℕ) → is_version20 m ≡ true → length m.entries ≡ 24 → g < 24 → good_width width ≡ true → addr ≡ m.base + 0x10
    → m.selector ≡ 0x10 + 2 * g → y % 2 ^ 32 ≡ x → Low g x m (HandleWrite addr width y)
unfolding outcome handle_write write_at write_selected write_word sent
low_word m g x addr width y n size l p a s e =
    let q : leb m.base addr ≡ true = le-leb m.base addr (omega arith) in
    let o : addr - m.base ≡ 0x10 = omega arith in
    let i : is_entry_word (0x10 + 2 * g) ≡ true = rw (le-leb 0x10 (0x10 + 2 * g) (omega arith), le-leb (0x10 + 2 * g) 0x3f (omega arith)) in
    let j : is_low (0x10 + 2 * g) ≡ true = eq-eqb ((0x10 + 2 * g) % 2) 0 (omega arith) in
    let h : entry_of (0x10 + 2 * g) ≡ g = omega arith in
    let r : EntryStep = write_low20 (entry_at m g) x in
    let b : entry_of m.selector ≡ g = ap entry_of s ∙ h in
    let step : write_word (is_version20 m) m.selector (entry_at m (entry_of m.selector)) (y % 2 ^ 32) ≡ r = rw (n, s, j, h, e) in
    let w : handle_write m addr width y ≡ writing_outcome (entry_written m g r) = rw (p, q, o, s, i, h, j, n, e) in
    record {
      entry = ap (λ (z : Outcome IoApicState). entry_at z.state g) w ∙ put_same m g r.entry size l;
      count = ap (λ (z : Outcome IoApicState). write_sends g m addr z.reply) w ∙ writes_window g m addr g r.answer (omega arith) o (sym b) ∙ rw (eq-eqb g g refl);
    }

low_of : (m : IoApicState) (g x : ℕ) (c : Call) → is_version20 m ≡ true → length m.entries ≡ 24 → g < 24 → writes_low g x m c ≡ true → Low g x m c
low_of m g x (HandleWrite addr width y) n size l h =
    let p = and_true (good_width width && eqb addr (m.base + 0x10) && eqb m.selector (0x10 + 2 * g)) (eqb (y % 2 ^ 32) x) h in
    let q = and_true (good_width width && eqb addr (m.base + 0x10)) (eqb m.selector (0x10 + 2 * g)) p.0 in
    let r = and_true (good_width width) (eqb addr (m.base + 0x10)) q.0 in
    low_word m g x addr width y n size l r.0 (eqb-true _ _ r.1) (eqb-true _ _ q.1) (eqb-true _ _ p.1)
low_of m g x (SetGsiLevel gsi b) n size l h = never h refl
low_of m g x (AssertGsi gsi) n size l h = never h refl
low_of m g x (EndOfInterrupt v) n size l h = never h refl
low_of m g x (VectorForGsi gsi) n size l h = never h refl
low_of m g x AddressRange n size l h = never h refl
low_of m g x (HandleRead addr width) n size l h = never h refl

-- ---- the entry's rule, with the line up

own_vector : (w : ℕ) → has_vector w (vector_of w) ≡ true
own_vector w = eq-eqb (w % 2 ^ 8) (w % 2 ^ 8) refl

-- an open word
opened : (e : Entry) (x : ℕ) (r : EntryStep) → Stored e x r → is_open x ≡ true → e.input_level ≡ true
    → (one r.answer ≡ cond (remote_irr e.word) 0 1) × (waits (vector_of x) r.entry ≡ true)
opened e x r (Stored.owed h s) o u =
    let p = and_true (is_level x) (is_fit x) o in
    let a = stored_alike e x in
    let f : Entry = store_low20 e x in
    let i : remote_irr e.word ≡ false = sym (ap (λ (b : Bool). b && remote_irr e.word) p.0) ∙ sym (stored_flight e x) ∙ owed_grounded f h in
    let t = send_fresh (vector_of x) f r s (same_vector a (vector_of x) ∙ own_vector x) (same_level a ∙ p.0) (same_fit a ∙ p.1) (owed_grounded f h) in
    let up : r.entry.input_level ≡ true = send_input f r s ∙ stored_input e x ∙ u in
    (t.1 ∙ rw i, rw (t.0.fly, t.0.fit, up))
opened e x r (Stored.unowed h) o u =
    let p = and_true (is_level x) (is_fit x) o in
    let a = stored_alike e x in
    let l : is_level (store_low20 e x).word ≡ true = same_level a ∙ p.0 in
    let up : (store_low20 e x).input_level ≡ true = stored_input e x ∙ u in
    let i : remote_irr (store_low20 e x).word ≡ true = flying (remote_irr (store_low20 e x).word) (rw (l, up) at h) in
    let j : remote_irr e.word ≡ true = sym (ap (λ (b : Bool). b && remote_irr e.word) p.0) ∙ sym (stored_flight e x) ∙ i in
    let v : has_vector (store_low20 e x).word (vector_of x) ≡ true = same_vector a (vector_of x) ∙ own_vector x in
    let f : is_fit (store_low20 e x).word ≡ true = same_fit a ∙ p.1 in
    (sym (rw j), rw (v, l, i, f, up))
  where
    flying : (b : Bool) → (not b && true) ≡ false → b ≡ true
    flying true q = refl
    flying false q = never refl q

-- a masked one isn't sent: the entry is as it is stored
unfit_masked : (x : ℕ) → is_masked x ≡ true → is_fit x ≡ false
unfit_masked x h = rw h

masked : (e : Entry) (x : ℕ) (r : EntryStep) → Stored e x r → is_masked x ≡ true → r.entry ≡ store_low20 e x
masked e x r (Stored.owed h (Sent.unfit p)) k = refl
masked e x r (Stored.owed h (Sent.edge p q)) k = never (sym (same_fit (stored_alike e x)) ∙ p) (unfit_masked x k)
masked e x r (Stored.owed h (Sent.later p q i)) k = never (sym (same_fit (stored_alike e x)) ∙ p) (unfit_masked x k)
masked e x r (Stored.owed h (Sent.fresh p q i)) k = never (sym (same_fit (stored_alike e x)) ∙ p) (unfit_masked x k)
masked e x r (Stored.unowed h) k = refl

-- ---- the calls between

run_base : (m : IoApicState) (cs : List Call) → (run m cs).base ≡ m.base
unfolding run
run_base m [] = refl
run_base m (c ∷ cs) = run_base (next m c) cs ∙ (calls_keep_version m c).1

-- what stays over a call and others
record Onward (m n : IoApicState) : Type 0 where
  new : is_version20 n ≡ true
  agrees : Agrees n
  base : n.base ≡ m.base

onward : (m : IoApicState) (c : Call) (cs : List Call) → is_version20 m ≡ true → Agrees m → Onward m (after m c cs)
onward m c cs n a =
    record {
      new = run_is_version20 (next m c) cs ∙ call_is_version20 m c ∙ n;
      agrees = runs_agree (next m c) cs (calls_agree m c a);
      base = run_base (next m c) cs ∙ (calls_keep_version m c).1;
    }

pub opened_sends : OpenedSends
opened_sends m g x c n a l w o u =
    let t = low_of m g x c n a.table l w in
    let s = opened (entry_at m g) x (write_low20 (entry_at m g) x) (stored_view (entry_at m g) x) o u in
    (t.count ∙ s.0, rw t.entry s.1)

-- an entry that waits is sent by its EOI
waits_sent : (m : IoApicState) (g : ℕ) (v : Vector) (c : Call) → is_version20 m ≡ true → Agrees m → g < 24 → is_eoi_at m.base v c ≡ true → waits v (entry_at m g) ≡ true → times g m c ≡ 1
waits_sent m g v c n a l i w =
    let p = and_true (awaits v (entry_at m g)) (is_fit (entry_at m g).word && (entry_at m g).input_level) w in
    let q = and_true (is_fit (entry_at m g).word) (entry_at m g).input_level p.1 in
    let k : asks (entry_at m g) ≡ true = rw q.1 in
    (every_ended m g v c n a l i).0 ∙ rw (p.0, q.0, k)

-- ---- mask, EOI, unmask

-- a masked entry's own EOI sends nothing, and leaves it at rest with its line as it is
record Rests (g : ℕ) (m : IoApicState) (c : Call) : Type 0 where
  count : times g m c ≡ 0
  grounded : remote_irr (entry_at (next m c) g).word ≡ false
  input : (entry_at (next m c) g).input_level ≡ (entry_at m g).input_level

rests : (m : IoApicState) (g : ℕ) (v : Vector) (c : Call) → is_version20 m ≡ true → Agrees m → g < 24 → is_eoi_at m.base v c ≡ true
    → has_vector (entry_at m g).word v ≡ true → is_level (entry_at m g).word ≡ true → is_fit (entry_at m g).word ≡ false → Rests g m c
rests m g v c n a l i x y z =
    let e : Entry = entry_at m g in
    let t = every_ended m g v c n a l i in
    let k : again v e ≡ false = idle (awaits v e) in
    let at : entry_at (next m c) g ≡ end_each_in_table v e = ap (λ (s : IoApicState). entry_at s g) (is_eoi_lem m v c n a i).after ∙ every_at m v a g in
    let like : Alike (end_each_in_table v e).word e.word = each_alike (awaits v e) in
    let d : awaits v (end_each_in_table v e) ≡ false = ap (awaits v) (sym at) ∙ t.1 ∙ k in
    record {
      count = t.0 ∙ rw k;
      grounded = rw at (down (end_each_in_table v e) (same_vector like v ∙ x) (same_level like ∙ y) d);
      input = ap (λ (f : Entry). f.input_level) at ∙ each_input v e;
    }
  where
    idle : (b : Bool) → (b && (is_fit (entry_at m g).word && asks (entry_at m g))) ≡ false
    idle true = rw z
    idle false = refl

    each_alike : (b : Bool) → Alike (cond b (end_entry20 (entry_at m g)).entry (entry_at m g)).word (entry_at m g).word
    each_alike true = end_alike (entry_at m g) (end_entry20 (entry_at m g)) (over_view20 (entry_at m g))
    each_alike false = alike_refl (entry_at m g).word

    down : (f : Entry) → has_vector f.word v ≡ true → is_level f.word ≡ true → awaits v f ≡ false → remote_irr f.word ≡ false
    down f p q w = go (remote_irr f.word) refl
      where
        go : (b : Bool) → remote_irr f.word ≡ b → b ≡ false
        go true r = never (awaits_yes v f (record { vector = p; level = q; flight = r })) w
        go false r = refl

pub mask_eoi_unmask : MaskEoiUnmask
mask_eoi_unmask m g x y mask eoi unmask b c n a l u w lv k alone i alone2 w2 o =
    let m2 = onward m mask b n a in
    let m3 = onward (after m mask b) eoi c m2.new m2.agrees in
    let t = low_of m g x mask n a.table l w in
    let e = masked (entry_at m g) x (write_low20 (entry_at m g) x) (stored_view (entry_at m g) x) k in
    let at : entry_at (after m mask b) g ≡ store_low20 (entry_at m g) x = alone ∙ t.entry ∙ e in
    let s = stored_alike (entry_at m g) x in
    let v : has_vector (entry_at (after m mask b) g).word (vector_of x) ≡ true = rw at (same_vector s (vector_of x) ∙ own_vector x) in
    let level : is_level (entry_at (after m mask b) g).word ≡ true = rw at (same_level s ∙ lv) in
    let unfit : is_fit (entry_at (after m mask b) g).word ≡ false = rw at (same_fit s ∙ unfit_masked x k) in
    let i2 : is_eoi_at (after m mask b).base (vector_of x) eoi ≡ true = ap (λ (z : ℕ). is_eoi_at z (vector_of x) eoi) m2.base ∙ i in
    let r = rests (after m mask b) g (vector_of x) eoi m2.new m2.agrees l i2 v level unfit in
    let up : (entry_at (after (after m mask b) eoi c) g).input_level ≡ true =
    ap (λ (f : Entry). f.input_level) alone2 ∙ r.input ∙ ap (λ (f : Entry). f.input_level) at ∙ stored_input (entry_at m g) x ∙ u in
    let z = opened_sends (after (after m mask b) eoi c) g y unmask m3.new m3.agrees l w2 o up in
    let down : remote_irr (entry_at (after (after m mask b) eoi c) g).word ≡ false = ap (λ (f : Entry). remote_irr f.word) alone2 ∙ r.grounded in
    (r.count, z.0 ∙ ap (λ (q : Bool). cond q 0 1) down)

-- ---- mask, unmask, EOI

pub mask_unmask_eoi : MaskUnmaskEoi
mask_unmask_eoi m g x y mask unmask eoi b c n a l u f w lv k alone w2 o alone2 i =
    let m2 = onward m mask b n a in
    let m3 = onward (after m mask b) unmask c m2.new m2.agrees in
    let t = low_of m g x mask n a.table l w in
    let at : entry_at (after m mask b) g ≡ store_low20 (entry_at m g) x = alone ∙ t.entry ∙ masked (entry_at m g) x (write_low20 (entry_at m g) x) (stored_view (entry_at m g) x) k in
    let up : (entry_at (after m mask b) g).input_level ≡ true = rw at (stored_input (entry_at m g) x ∙ u) in
    let flies : remote_irr (entry_at (after m mask b) g).word ≡ true = rw at (stored_flight (entry_at m g) x ∙ rw (lv, f)) in
    let z = opened_sends (after m mask b) g y unmask m2.new m2.agrees l w2 o up in
    let i3 : is_eoi_at (after (after m mask b) unmask c).base (vector_of y) eoi ≡ true = ap (λ (j : ℕ). is_eoi_at j (vector_of y) eoi) (m3.base ∙ m2.base) ∙ i in
    (z.0 ∙ ap (λ (q : Bool). cond q 0 1) flies, waits_sent (after (after m mask b) unmask c) g (vector_of y) eoi m3.new m3.agrees l i3 (ap (waits (vector_of y)) alone2 ∙ z.1))

-- ---- raised while masked

-- the line is up, nothing else moves but what is deferred, and nothing is sent
raised_masked_entry : (e : Entry) (r : EntryStep) → Raised e r → is_masked e.word ≡ true → (r.entry.word ≡ e.word) × (r.entry.input_level ≡ true) × (one r.answer ≡ 0)
raised_masked_entry e r (Raised.again p q) k = (refl, refl, refl)
raised_masked_entry e r (Raised.raised (Sent.unfit p)) k = (refl, refl, refl)
raised_masked_entry e r (Raised.raised (Sent.edge p q)) k = never p (unfit_masked e.word k)
raised_masked_entry e r (Raised.raised (Sent.later p q i)) k = never p (unfit_masked e.word k)
raised_masked_entry e r (Raised.raised (Sent.fresh p q i)) k = never p (unfit_masked e.word k)

record Lifted (g : Gsi) (m : IoApicState) : Type 0 where
  word : (entry_at (next m (SetGsiLevel g true)) g.0).word ≡ (entry_at m g.0).word
  input : (entry_at (next m (SetGsiLevel g true)) g.0).input_level ≡ true
  count : times g.0 m (SetGsiLevel g true) ≡ 0

lifted_by : (g : Gsi) (m : IoApicState) (x : Routing) → length m.entries ≡ 24 → g.0 < 24 → is_masked (entry_at m g.0).word ≡ true → Routes m g (λ e. move_line e true) x
    → next m (SetGsiLevel g true) ≡ x.state → times g.0 m (SetGsiLevel g true) ≡ cond (eqb g.0 g.0) (routes (routed_reply x.answer)) 0 → Lifted g m
lifted_by g m x size l k (Routes.miss h) q z = absurd (omega arith)
lifted_by g m x size l k (Routes.hit h) q z =
    let e : Entry = entry_at m g.0 in
    let t = raised_masked_entry e (raise_entry e) (raised_view e) k in
    let at : entry_at (next m (SetGsiLevel g true)) g.0 ≡ (raise_entry e).entry = ap (λ (s : IoApicState). entry_at s g.0) q ∙ put_same m g.0 (raise_entry e).entry size l in
    record {
      word = ap (λ (f : Entry). f.word) at ∙ t.0;
      input = ap (λ (f : Entry). f.input_level) at ∙ t.1;
      count = z ∙ rw (eq-eqb g.0 g.0 refl) (routes_one (raise_entry e).answer ∙ t.2);
    }

lifted : (g : Gsi) (m : IoApicState) → length m.entries ≡ 24 → g.0 < 24 → is_masked (entry_at m g.0).word ≡ true → Lifted g m
unfolding outcome set_gsi_level sent
lifted g m size l k = lifted_by g m (set_level m g true) size l k (level_view m g true) refl refl

pub raised_masked : RaisedMasked
raised_masked m g y unmask eoi b c n a l k alone w o alone2 i =
    let raise : Call = SetGsiLevel g true in
    let m2 = onward m raise b n a in
    let m3 = onward (after m raise b) unmask c m2.new m2.agrees in
    let t = lifted g m a.table l k in
    let up : (entry_at (after m raise b) g.0).input_level ≡ true = ap (λ (f : Entry). f.input_level) alone ∙ t.input in
    let flies : remote_irr (entry_at (after m raise b) g.0).word ≡ remote_irr (entry_at m g.0).word = ap (λ (f : Entry). remote_irr f.word) alone ∙ ap remote_irr t.word in
    let z = opened_sends (after m raise b) g.0 y unmask m2.new m2.agrees l w o up in
    let i3 : is_eoi_at (after (after m raise b) unmask c).base (vector_of y) eoi ≡ true = ap (λ (j : ℕ). is_eoi_at j (vector_of y) eoi) (m3.base ∙ m2.base) ∙ i in (
      t.count,
      z.0 ∙ ap (λ (q : Bool). cond q 0 1) flies,
      waits_sent (after (after m raise b) unmask c) g.0 (vector_of y) eoi m3.new m3.agrees l i3 (ap (waits (vector_of y)) alone2 ∙ z.1),
    )

-- ---- nobody goes unheard

hears : (e : Entry) → (is_fit e.word ≡ true → is_level e.word ≡ true → e.input_level ≡ true → remote_irr e.word ≡ true) → is_heard e ≡ true
hears e f =
    imply (is_fit e.word && is_level e.word && e.input_level) (remote_irr e.word)
    (λ h.
    let p = and_true (is_fit e.word && is_level e.word) e.input_level h in
    let q = and_true (is_fit e.word) (is_level e.word) p.0 in
    f q.0 q.1 p.1)

-- whoever takes its turn to be sent is heard
sent_hears : (e : Entry) (r : EntryStep) → Sent e r → is_heard r.entry ≡ true
sent_hears e r (Sent.unfit p) = hears e (λ f l u. never f p)
sent_hears e r (Sent.edge p q) = hears e (λ f l u. never l q)
sent_hears e r (Sent.later p q i) = hears r.entry (λ f l u. i)
sent_hears e r (Sent.fresh p q i) = hears r.entry (λ f l u. irr_with e.word)

move_hears : (e : Entry) (b : Bool) (r : EntryStep) → Moved e b r → is_heard r.entry ≡ true
move_hears e b r (Moved.up (Raised.again p q)) = hears r.entry (λ f l u. q)
move_hears e b r (Moved.up (Raised.raised s)) = sent_hears (with_input e true) r s
move_hears e b r Moved.down = hears r.entry (λ f l u. never u refl)

end_hears : (e : Entry) (r : EntryStep) → Over e r → is_heard r.entry ≡ true
end_hears e r (Over.resent b a c s) = sent_hears (with_deferred (with_word e (without_remote_irr e.word)) b) r s
end_hears e r (Over.rested a) = hears r.entry (λ f l u. never (rw u) a)

wrote_hears : (n : Bool) (e : Entry) (x : ℕ) (r : EntryStep) → n ≡ true → Wrote n e x r → is_heard e ≡ true → is_heard r.entry ≡ true
wrote_hears n e x r new (Wrote.kept o b c) k = never new o
wrote_hears n e x r new (Wrote.changed o c) k = never new o
wrote_hears n e x r new (Wrote.stored o (Stored.owed h s)) k = sent_hears (store_low20 e x) r s
wrote_hears n e x r new (Wrote.stored o (Stored.unowed h)) k = hears (store_low20 e x) (λ f l u. flies (remote_irr (store_low20 e x).word) (rw (l, u) at h))
  where
    flies : (b : Bool) → (not b && true) ≡ false → b ≡ true
    flies true q = refl
    flies false q = never refl q
wrote_hears n e x r new Wrote.high k =
    let a = alike_high e.word x in
    hears r.entry
    (λ f l u. irr_high e.word x ∙ implied (is_fit e.word && is_level e.word && e.input_level) (remote_irr e.word) k (rw (sym (same_fit a) ∙ f, sym (same_level a) ∙ l, u)))

hearing : Kept (λ e. is_heard e ≡ true)
hearing =
    record {
      send = λ e r v k. sent_hears e r v;
      move = λ e b r v k. move_hears e b r v;
      end = λ e r v k. end_hears e r v;
      write = λ n e x r o v k. wrote_hears n e x r o v k;
    }

pub calls_hear : CallsHear
calls_hear m c n k = calls_keep (λ e. is_heard e ≡ true) hearing m c n k

pub new_hears : NewHears
new_hears version base size = new_all (λ e. is_heard e ≡ true) refl version base size

runs_hear : (m : IoApicState) (cs : List Call) → is_version20 m ≡ true → AllHeard m → AllHeard (run m cs)
unfolding run
runs_hear m [] n k = k
runs_hear m (c ∷ cs) n k = runs_hear (next m c) cs (call_is_version20 m c ∙ n) (calls_hear m c n k)

pub always_heard : AlwaysHeard
always_heard base size cs = runs_hear (chip_of 0x20 base size) cs refl (new_hears 0x20 base size)
