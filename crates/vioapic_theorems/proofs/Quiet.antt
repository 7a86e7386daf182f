-- An entry in flight over a call that is no EOI of its vector: it flies on, and isn't sent. Assumes nothing.
use Rattle.std.specs.Prelude.{Option, Some, None, Ok}
use Prim.Native.Nat.{ℕ, ◌+◌, ◌-◌, ◌%◌, ◌^◌, ◌≤◌, ◌<◌}
use native.Mathlib.Omega.{arith}
use native.Mathlib.Decide.{ℕ_discrete}
use mathlib.Core.Bool.{Bool, true, false, cond}
use mathlib.Core.Path.{◌≡◌, refl, sym, ◌∙◌, ap}
use borrow.Author.Tests.{eq-eqb, ne_eqb, eqb-true}
use lib.Dec.{eqb}
use lib.ListN.{length, length-set}
use Rattle.utils.proofs.Bools.{never}
use Rattle.types.specs.Reply.{Outcome}
use Rattle.types.specs.declared.Gsi.{Gsi}
use Rattle.types.specs.declared.Refusal.{Refusal}
use Rattle.types.specs.declared.Vector.{Vector}
use Rattle.types.specs.declared.Reply.TheVariants.{Refused, Nothing, Two}
use Rattle.vioapic_entry.specs.Answers.{routed_reply}
use Rattle.vioapic_entry.specs.Redirection.{EntryStep, is_level, remote_irr, low_part, send_entry, raise_entry, move_line}
use Rattle.vioapic.specs.Answers.{written_reply}
use Rattle.vioapic.specs.Table.{Routing, is_version20, entry_at, put, interrupt_for_entry, set_level}
use Rattle.vioapic.specs.Registers.{written_send, entry_of}
use Rattle.vioapic.specs.IoApic.{set_gsi_level, assert_gsi, handle_write}
use Rattle.vioapic.specs.Calls.{Call, SetGsiLevel, AssertGsi, HandleWrite, outcome, next}
use Rattle.vioapic_entry.specs.declared.Entry.{Entry}
use Rattle.vioapic_entry.specs.declared.IoApicInterrupt.{IoApicInterrupt}
use Rattle.vioapic.specs.State.{IoApicState}
use Rattle.vioapic_theorems.specs.Sends.{routes, write_sends, sent}
use Rattle.vioapic_theorems.specs.Premises.{keeps_low}
use Rattle.vioapic_theorems.proofs.Views.{sent_view, raised_view, moved_view, Routes, assert_view, level_view, Writes, Write, write_view}
use Rattle.vioapic_theorems.proofs.Steps.{one, awaiting, Flying, send_flying, move_flying, raised_level, wrote_quiet, wrote_kept}
use Rattle.vioapic_theorems.proofs.Tables.{put_same, put_other}

-- ---- an entry in flight, level

pub record Aloft (g : ℕ) (s : IoApicState) : Type 0 where
  pub size : length s.entries ≡ 24
  pub within : g < 24
  pub level : is_level (entry_at s g).word ≡ true
  pub flight : remote_irr (entry_at s g).word ≡ true

-- the call leaves its register as it is, and doesn't send it
pub record Unmoved (g : ℕ) (m : IoApicState) (c : Call) : Type 0 where
  pub size : length (next m c).entries ≡ 24
  pub word : (entry_at (next m c) g).word ≡ (entry_at m g).word
  pub unsent : sent g m c (outcome m c).reply ≡ 0

-- a call that leaves the entries as they are
pub idle : (g : ℕ) (m : IoApicState) (c : Call) → Aloft g m → (next m c).entries ≡ m.entries → sent g m c (outcome m c).reply ≡ 0 → Unmoved g m c
idle g m c k q z = record { size = rw q k.size; word = rw q; unsent = z }

pub only : (h g n : ℕ) → (h ≡ g → n ≡ 0) → cond (eqb h g) n 0 ≡ 0
only h g n z = go (ℕ_discrete h g)
  where
    go : Dec (h ≡ g) → cond (eqb h g) n 0 ≡ 0
    go (yes p) = rw (eq-eqb h g p) (z p)
    go (no p) = rw (ne_eqb h g p)

-- what a line's reply carries, and that of a write to the window
pub routes_one : (r : Option IoApicInterrupt) → routes (routed_reply r) ≡ one r
routes_one None = refl
routes_one (Some i) = refl

pub write_one : (r : Option IoApicInterrupt) → routes (written_reply (Ok (written_send r))) ≡ one r
write_one None = refl
write_one (Some i) = refl

-- the entry at g after a call that replaces entry h
pub at_replaced : (P : Entry → Type 0) (g : ℕ) (m : IoApicState) (h : ℕ) (f : Entry) → length m.entries ≡ 24 → h < 24 → (h ≡ g → P f) → P (entry_at m g) → P (entry_at (put m h f) g)
at_replaced P g m h f n l own other = go (ℕ_discrete g h)
  where
    go : Dec (g ≡ h) → P (entry_at (put m h f) g)
    go (yes p) = rw p (rw (put_same m h f n l) (own (sym p)))
    go (no p) = rw (put_other m h f g p) other

-- a line is moved or asserted
line_idle : (g : ℕ) (m : IoApicState) (c : Call) (gsi : Gsi) (step : Entry → EntryStep) (x : Routing) → Aloft g m
    → ((e : Entry) → is_level e.word ≡ true → remote_irr e.word ≡ true → ((step e).entry.word ≡ e.word) × (one (step e).answer ≡ 0))
    → Routes m gsi step x → next m c ≡ x.state → sent g m c (outcome m c).reply ≡ cond (eqb gsi.0 g) (routes (routed_reply x.answer)) 0 → Unmoved g m c
line_idle g m c gsi step x k t (Routes.hit l) q z =
    let h : ℕ = gsi.0 in
    let f : Entry = (step (entry_at m h)).entry in
    let own : h ≡ g → (f.word ≡ (entry_at m g).word) × (one (step (entry_at m h)).answer ≡ 0) =
    λ p. let u = t (entry_at m h) (rw p k.level) (rw p k.flight) in (u.0 ∙ ap (λ (j : ℕ). (entry_at m j).word) p, u.1) in
    record {
      size = ap (λ (s : IoApicState). length s.entries) q ∙ length-set m.entries h f ∙ k.size;
      word = ap (λ (s : IoApicState). (entry_at s g).word) q ∙ at_replaced (λ e. e.word ≡ (entry_at m g).word) g m h f k.size l (λ p. (own p).0) refl;
      unsent = z ∙ only h g (routes (routed_reply (step (entry_at m h)).answer)) (λ p. routes_one (step (entry_at m h)).answer ∙ (own p).1);
    }
line_idle g m c gsi step x k t (Routes.miss l) q z = idle g m c k (ap (λ (s : IoApicState). s.entries) q) (z ∙ only gsi.0 g 0 (λ p. refl))

pub level_idle : (g : ℕ) (m : IoApicState) (gsi : Gsi) (b : Bool) → Aloft g m → Unmoved g m (SetGsiLevel gsi b)
unfolding outcome set_gsi_level sent
level_idle g m gsi b k =
    line_idle g m (SetGsiLevel gsi b) gsi (λ e. move_line e b) (set_level m gsi b) k (λ e. move_flying e b (move_line e b) (moved_view e b)) (level_view m gsi b) refl refl

pub assert_idle : (g : ℕ) (m : IoApicState) (gsi : Gsi) → Aloft g m → Unmoved g m (AssertGsi gsi)
unfolding outcome assert_gsi sent
assert_idle g m gsi k =
    line_idle g m (AssertGsi gsi) gsi send_entry (interrupt_for_entry m gsi) k (λ e. send_flying e (send_entry e) (sent_view e)) (assert_view m gsi) refl refl

-- ---- in flight with v, and fit to be sent

-- what holds of entry g all the while
pub record Going (v : Vector) (g : ℕ) (s : IoApicState) : Type 0 where
  pub size : length s.entries ≡ 24
  pub within : g < 24
  pub on : Flying v (entry_at s g)

pub aloft : (v : Vector) (g : ℕ) (s : IoApicState) → Going v g s → Aloft g s
aloft v g s k = let a = awaiting v (entry_at s g) k.on.fly in record { size = k.size; within = k.within; level = a.level; flight = a.flight }

-- the call leaves it so, and doesn't send it
pub record Quiet (v : Vector) (g : ℕ) (m : IoApicState) (c : Call) : Type 0 where
  pub going : Going v g (next m c)
  pub unsent : sent g m c (outcome m c).reply ≡ 0

pub quiet : (v : Vector) (g : ℕ) (m : IoApicState) (c : Call) → Going v g m → Unmoved g m c → Quiet v g m c
quiet v g m c k u =
    record {
      going = record { size = u.size; within = k.within; on = record { fly = rw u.word k.on.fly; fit = rw u.word k.on.fit } };
      unsent = u.unsent;
    }

-- the entries after a call that replaces one of them
pub replaced : (v : Vector) (g : ℕ) (s : IoApicState) (h : ℕ) (f : Entry) → Going v g s → h < 24 → (h ≡ g → Flying v f) → Going v g (put s h f)
replaced v g s h f k l o = record { size = length-set s.entries h f ∙ k.size; within = k.within; on = at_replaced (Flying v) g s h f k.size l o k.on }

-- a call that replaces entry h
pub moves : (v : Vector) (g : ℕ) (m : IoApicState) (c : Call) (h : ℕ) (f : Entry) → Going v g m → h < 24 → next m c ≡ put m h f
    → sent g m c (outcome m c).reply ≡ 0 → (h ≡ g → Flying v f) → Quiet v g m c
moves v g m c h f k l q z o = record { going = rw q (replaced v g m h f k l o); unsent = z }

pub own : (v : Vector) (g : ℕ) (s : IoApicState) (h : ℕ) → Going v g s → h ≡ g → Flying v (entry_at s h)
own v g s h k p = rw p k.on

-- ---- a write

-- that answers nothing, that is refused, and one to the window
no_send : (a b : Bool) → ◌≡◌ {A = ℕ} (cond a (cond b 0 0) 0) 0
no_send true true = refl
no_send true false = refl
no_send false b = refl

pub writes_nothing : (g : ℕ) (m : IoApicState) (addr : ℕ) → write_sends g m addr Nothing ≡ 0
writes_nothing g m addr = no_send (eqb addr (m.base + 0x10)) (eqb (entry_of m.selector) g)

pub writes_refused : (g : ℕ) (m : IoApicState) (addr : ℕ) (why : Refusal) → write_sends g m addr (Refused why) ≡ 0
writes_refused g m addr why = no_send (eqb addr (m.base + 0x10)) (eqb (entry_of m.selector) g)

pub writes_window : (g : ℕ) (m : IoApicState) (addr h : ℕ) (r : Option IoApicInterrupt) → m.base ≤ addr → addr - m.base ≡ 0x10 → h ≡ entry_of m.selector
    → write_sends g m addr (written_reply (Ok (written_send r))) ≡ cond (eqb h g) (one r) 0
writes_window g m addr h r l o i =
    let e : eqb addr (m.base + 0x10) ≡ true = eq-eqb addr (m.base + 0x10) (omega arith) in
    rw (e, ← i, write_one r)

pub low_kept : (m : IoApicState) (c : Call) (h : ℕ) (f : Entry) → length m.entries ≡ 24 → h < 24 → next m c ≡ put m h f
    → keeps_low m c h ≡ true → low_part f.word ≡ low_part (entry_at m h).word
low_kept m c h f n l q r =
    ap (λ (y : Entry). low_part y.word) (sym (ap (λ (s : IoApicState). entry_at s h) q ∙ put_same m h f n l))
    ∙ eqb-true (low_part (entry_at (next m c) h).word) (low_part (entry_at m h).word) r

-- in version 0x11 none is an EOI, and none sends
word_quiet : (v : Vector) (g : ℕ) (m : IoApicState) (c : Call) (addr width x : ℕ) (o : Outcome IoApicState) → is_version20 m ≡ false → Going v g m → keeps_low m c g ≡ true
    → Write m addr width x o → outcome m c ≡ o → sent g m c (outcome m c).reply ≡ write_sends g m addr o.reply → Quiet v g m c
word_quiet v g m c addr width x o n k d (Write.refused why) q z = quiet v g m c k (idle g m c (aloft v g m k) (ap (λ (r : Outcome IoApicState). r.state.entries) q) (z ∙ writes_refused g m addr why))
word_quiet v g m c addr width x o n k d (Write.served p l (Writes.selected y)) q z = quiet v g m c k (idle g m c (aloft v g m k) (ap (λ (r : Outcome IoApicState). r.state.entries) q) (z ∙ writes_nothing g m addr))
word_quiet v g m c addr width x o n k d (Write.served p l (Writes.eoi i e)) q z = never i n
word_quiet v g m c addr width x o n k d (Write.served p l (Writes.word h r i j e u)) q z = moves v g m c h r.entry k i at (z ∙ writes_window g m addr h r.answer l e j ∙ none) mine
  where
    at : next m c ≡ put m h r.entry
    at = ap (λ (y : Outcome IoApicState). y.state) q

    none : cond (eqb h g) (one r.answer) 0 ≡ 0
    none = only h g (one r.answer) (λ y. ap one (wrote_quiet (is_version20 m) (entry_at m h) (x % 2 ^ 32) r n u))

    mine : h ≡ g → Flying v r.entry
    mine y =
        let a = own v g m h k y in
        let b = wrote_kept v (is_version20 m) (entry_at m h) (x % 2 ^ 32) r n (omega arith) u (low_kept m c h r.entry k.size i at (rw y d)) in
        record { fly = b.0 ∙ a.fly; fit = b.1 ∙ a.fit }

pub write_quiet : (v : Vector) (g : ℕ) (m : IoApicState) (addr width x : ℕ) → is_version20 m ≡ false → Going v g m → keeps_low m (HandleWrite addr width x) g ≡ true → Quiet v g m (HandleWrite addr width x)
unfolding outcome sent
write_quiet v g m addr width x n k d = word_quiet v g m (HandleWrite addr width x) addr width x (handle_write m addr width x) n k d (write_view m addr width x) refl refl

-- ---- the first send puts the entry in flight

pub begins : (s : IoApicState) (gsi : Gsi) (v : Vector) (x : Routing) → length s.entries ≡ 24 → Routes s gsi (λ e. move_line e true) x
    → routed_reply x.answer ≡ Two v.0 1 → Going v gsi.0 x.state
begins s gsi v x n (Routes.hit l) q =
    let f : Entry = (raise_entry (entry_at s gsi.0)).entry in
    let t = raised_level v (entry_at s gsi.0) (raise_entry (entry_at s gsi.0)) (raised_view (entry_at s gsi.0)) q in
    record { size = length-set s.entries gsi.0 f ∙ n; within = l; on = rw (put_same s gsi.0 (raise_entry (entry_at s gsi.0)).entry n l) t.2 }
begins s gsi v x n (Routes.miss l) q = absurd (let z : 0 ≡ 1 = ap routes q in omega arith)
