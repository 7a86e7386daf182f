-- What the I/O APIC sends is legal, and what an EOI sends again is of its vector. Assumes nothing.
use Rattle.std.specs.Prelude.{Option, Some, None, Err}
use Prim.Native.Nat.{ℕ, zero, suc, ◌+◌, ◌-◌, ◌%◌, ◌^◌, ◌≤◌, ◌<◌}
use native.Mathlib.Omega.{arith}
use mathlib.Core.Bool.{Bool, true, false, not, cond, ◌&&◌}
use mathlib.Core.Path.{◌≡◌, refl, ap, ◌∙◌}
use borrow.Author.Tests.{eq-eqb, ne_eqb, eqb-true, eqb-false, leb-true, leb-false}
use lib.Dec.{eqb, leb}
use Rattle.utils.specs.Set.{bit, set_of}
use Rattle.utils.proofs.Bools.{never, and_true, and-false}
use Rattle.utils.proofs.Laws.{set_of_same}
use Rattle.types.specs.declared.Gsi.{Gsi}
use Rattle.types.specs.declared.Vector.{Vector}
use Rattle.vioapic_entry.specs.Answers.{is_routed}
use Rattle.vioapic_entry.specs.Redirection.{EntryStep, vector_of, is_level, is_masked, is_fixed, is_deliverable, is_fit, has_vector, with_word, with_input, with_deferred, with_remote_irr, without_remote_irr, move_line, awaits, end_entry20, quietly, write_low, write_high, store_low20, write_low20}
use Rattle.vioapic_entry.specs.declared.Entry.{Entry}
use Rattle.vioapic_entry.specs.declared.IoApicInterrupt.{IoApicInterrupt}
use Rattle.vioapic_entry.proofs.Fields.{Alike, same_level, same_fit, alike_with, alike_without, alike_then}
use Rattle.vioapic.specs.State.{IoApicState}
use Rattle.vioapic.specs.Table.{Routing, is_version20, entry_at, ends, sent_by, end_of_every}
use Rattle.vioapic.specs.Registers.{Writing, writing, done, is_entry_word, entry_of, is_low, write_word, entry_written, write_selected, eoi_written, write_eoi, with_selector, write_at}
use Rattle.vioapic.specs.IoApic.{good_width, handle_writing}
use Rattle.vioapic.proofs.Ways.{entry_word_range}
use Rattle.types.specs.declared.Refusal.{Refusal}
use Rattle.types.specs.declared.Refusal.TheVariants.{Unsupported, InvalidAddress}
use Rattle.vioapic_theorems.proofs.Steps.{awaiting}
use Rattle.vioapic_theorems.proofs.Views.{Sent, Raised, Moved, moved_view, Over, over_view20, Stored, stored_view, Routes}
use Rattle.board_theorems.specs.Rules.{ResentAre}
use Rattle.board_theorems.specs.Traced.{is_low_word, is_eoi_word}

-- ---- legal: from 16 to 255

abbrev pub Legal : Option IoApicInterrupt → Type 0
Legal None = Unit
Legal (Some i) = (16 ≤ i.vector.0) × (i.vector.0 < 256)

pub fit_legal : (w : ℕ) → is_fit w ≡ true → (16 ≤ w % 256) × (w % 256 < 256)
fit_legal w h = (leb-true 16 (w % 256) (and_true (not (is_masked w) && is_fixed w) (is_deliverable w) h).1, omega arith)

pub sent_legal : (e : Entry) (r : EntryStep) → Sent e r → Legal r.answer
sent_legal e r (Sent.unfit p) = tt
sent_legal e r (Sent.edge p q) = fit_legal e.word p
sent_legal e r (Sent.later p q i) = tt
sent_legal e r (Sent.fresh p q i) = fit_legal (with_remote_irr e.word) (same_fit (alike_with e.word) ∙ p)

pub moved_legal : (e : Entry) (b : Bool) (r : EntryStep) → Moved e b r → Legal r.answer
moved_legal e b r (Moved.up (Raised.again p q)) = tt
moved_legal e b r (Moved.up (Raised.raised s)) = sent_legal (with_input e true) r s
moved_legal e b r Moved.down = tt

pub line_legal : (m : IoApicState) (g : Gsi) (b : Bool) (x : Routing) → Routes m g (λ e. move_line e b) x → Legal x.answer
line_legal m g b x (Routes.hit l) = moved_legal (entry_at m g.0) b (move_line (entry_at m g.0) b) (moved_view (entry_at m g.0) b)
line_legal m g b x (Routes.miss l) = tt

-- ---- sent again

vector_is : (w : ℕ) (v : Vector) → has_vector w v ≡ true → vector_of w ≡ v
vector_is w v h = ap (λ (n : ℕ). record { 0 = n }) (eqb-true (w % 256) v.0 h)

-- an entry that awaits v, ended and sent
again_is : (v : Vector) (e : Entry) (r : EntryStep) → Over e r → awaits v e ≡ true → is_routed r.answer ≡ true
    → r.answer ≡ Some (record { vector = v; level_triggered = true })
again_is v e r (Over.resent b a c (Sent.unfit p)) w h = never h refl
again_is v e r (Over.resent b a c (Sent.edge p q)) w h = never (same_level (alike_without e.word) ∙ (awaiting v e w).level) q
again_is v e r (Over.resent b a c (Sent.later p q i)) w h = never h refl
again_is v e r (Over.resent b a c (Sent.fresh p q i)) w h =
    let k : Alike (with_remote_irr (without_remote_irr e.word)) e.word = alike_then (alike_with (without_remote_irr e.word)) (alike_without e.word) in
    let t : is_level (with_remote_irr (without_remote_irr e.word)) ≡ true = same_level k ∙ (awaiting v e w).level in
    let u : vector_of (with_remote_irr (without_remote_irr e.word)) ≡ v = ap (λ (n : ℕ). record { 0 = n }) k.vector ∙ vector_is e.word v (awaiting v e w).vector in
    ap Some (λ i. record { vector = u i; level_triggered = t i })
again_is v e r (Over.rested a) w h = never h refl

again_legal : (v : Vector) (e : Entry) (r : EntryStep) → Over e r → awaits v e ≡ true → is_routed r.answer ≡ true → 16 ≤ v.0
again_legal v e r (Over.resent b a c s) w h =
    let f = sent_legal (with_deferred (with_word e (without_remote_irr e.word)) b) r s in
    let g = again_is v e r (Over.resent b a c s) w h in
    (rw g at f).0
again_legal v e r (Over.rested a) w h = never h refl

pub resent_are : ResentAre
resent_are m v g h =
    let p = and_true (ends v m g) (is_routed (end_entry20 (entry_at m g)).answer) h in
    again_is v (entry_at m g) (end_entry20 (entry_at m g)) (over_view20 (entry_at m g)) (and_true (bit m.in_flight g) (awaits v (entry_at m g)) p.0).1 p.1

-- where something is sent again, its vector is legal
set_some : (n : ℕ) (p : ℕ → Bool) → ((g : ℕ) → g < n → p g ≡ true → ⊥) → set_of n p ≡ 0
set_some n p h = set_of_same n p (λ g. false) (λ g l. go g l (p g) refl) ∙ set_none n
  where
    go : (g : ℕ) → g < n → (b : Bool) → p g ≡ b → p g ≡ false
    go g l true e = absurd (h g l e)
    go g l false e = e

    set_none : (k : ℕ) → set_of k (λ g. false) ≡ 0
    set_none zero = refl
    set_none (suc k) = rw (set_none k)

pub resent_legal : (m : IoApicState) (v : Vector) → (set_of 24 (sent_by v m) ≡ 0 → ⊥) → 16 ≤ v.0
resent_legal m v h = go (leb 16 v.0) refl
  where
    one : (g : ℕ) → sent_by v m g ≡ true → 16 ≤ v.0
    one g e =
        let p = and_true (ends v m g) (is_routed (end_entry20 (entry_at m g)).answer) e in
        again_legal v (entry_at m g) (end_entry20 (entry_at m g)) (over_view20 (entry_at m g)) (and_true (bit m.in_flight g) (awaits v (entry_at m g)) p.0).1 p.1

    go : (b : Bool) → leb 16 v.0 ≡ b → 16 ≤ v.0
    go true e = leb-true 16 v.0 e
    go false e = absurd (h (set_some 24 (sent_by v m) (λ g l q. omega (arith, leb-false 16 v.0 e, one g q))))

-- ---- a write

pub stored_legal : (e : Entry) (x : ℕ) (r : EntryStep) → Stored e x r → Legal r.answer
stored_legal e x r (Stored.owed h s) = sent_legal (store_low20 e x) r s
stored_legal e x r (Stored.unowed h) = tt

-- the cases of a write in version 0x20, with what is known of the call in each
pub data Serves (m : IoApicState) (addr width x : ℕ) : Writing → Type 0 where
  refused : (why : Refusal) → is_low_word m addr width ≡ false → is_eoi_word m addr width ≡ false → Serves m addr width x (writing m (Err why))
  selected : (y : ℕ) → is_low_word m addr width ≡ false → is_eoi_word m addr width ≡ false → Serves m addr width x (done (with_selector m y))
  low : (g : ℕ) (r : EntryStep) → g < 24 → g ≡ entry_of m.selector → is_low_word m addr width ≡ true → is_eoi_word m addr width ≡ false → Stored (entry_at m g) (x % 2 ^ 32) r
      → Serves m addr width x (entry_written m g r)
  high : (g : ℕ) → g < 24 → is_low_word m addr width ≡ false → is_eoi_word m addr width ≡ false → Serves m addr width x (entry_written m g (quietly (write_high (entry_at m g) (x % 2 ^ 32))))
  eoi : is_low_word m addr width ≡ false → is_eoi_word m addr width ≡ true → Serves m addr width x (eoi_written (end_of_every m (record { 0 = x % 2 ^ 32 % 2 ^ 8 })))

pub serves_view : (m : IoApicState) (addr width x : ℕ) → is_version20 m ≡ true → Serves m addr width x (handle_writing m addr width x)
unfolding write_at write_selected write_eoi write_word
serves_view m addr width x n = go (good_width width) (leb m.base addr) refl refl
  where
    y : ℕ
    y = x % 2 ^ 32

    no_low : (addr ≡ m.base + 0x10 → ⊥) → is_low_word m addr width ≡ false
    no_low h = rw (ne_eqb addr (m.base + 0x10) h, and-false (good_width width))

    no_eoi : (addr ≡ m.base + 0x40 → ⊥) → is_eoi_word m addr width ≡ false
    no_eoi h = rw (ne_eqb addr (m.base + 0x40) h) (and-false (good_width width))

    at : good_width width ≡ true → m.base ≤ addr → (a b c d e : Bool) → eqb (addr - m.base) 0 ≡ a → eqb (addr - m.base) 0x10 ≡ b → eqb (addr - m.base) 0x40 ≡ c
        → is_entry_word m.selector ≡ d → is_low m.selector ≡ e
        → Serves m addr width x
        (cond a (done (with_selector m y))
        (cond b (cond d (entry_written m (entry_of m.selector) (cond e (cond (is_version20 m) (write_low20 (entry_at m (entry_of m.selector)) y) (quietly (write_low (entry_at m (entry_of m.selector)) y))) (quietly (write_high (entry_at m (entry_of m.selector)) y)))) (done m))
        (cond c (cond (is_version20 m) (eoi_written (end_of_every m (record { 0 = y % 2 ^ 8 }))) (done m))
        (done m))))
    at g l true b c d e o p q r t =
        let z : addr - m.base ≡ 0 = eqb-true (addr - m.base) 0 o in
        selected y (no_low (λ i. omega arith)) (no_eoi (λ i. omega arith))
    at g l false true c false e o p q r t =
        let z : addr - m.base ≡ 0x10 = eqb-true (addr - m.base) 0x10 p in
        selected m.selector (rw (r, and-false (good_width width && eqb addr (m.base + 0x10)))) (no_eoi (λ i. omega arith))
    at g l false true c true true o p q r t =
        let z = entry_word_range m.selector r in
        let k : addr - m.base ≡ 0x10 = eqb-true (addr - m.base) 0x10 p in
        let h : addr ≡ m.base + 0x10 = omega arith in
        rw n (low (entry_of m.selector) (write_low20 (entry_at m (entry_of m.selector)) y) (omega arith) refl (rw (g, eq-eqb addr (m.base + 0x10) h, r, t)) (no_eoi (λ i. omega arith)) (stored_view (entry_at m (entry_of m.selector)) y))
    at g l false true c true false o p q r t =
        let z = entry_word_range m.selector r in
        let k : addr - m.base ≡ 0x10 = eqb-true (addr - m.base) 0x10 p in
        high (entry_of m.selector) (omega arith) (rw t (and-false (good_width width && eqb addr (m.base + 0x10) && is_entry_word m.selector))) (no_eoi (λ i. omega arith))
    at g l false false false d e o p q r t =
        let j : addr - m.base ≡ 0x10 → ⊥ = eqb-false (addr - m.base) 0x10 p in
        let k : addr - m.base ≡ 0x40 → ⊥ = eqb-false (addr - m.base) 0x40 q in
        selected m.selector (no_low (λ i. j (omega arith))) (no_eoi (λ i. k (omega arith)))
    at g l false false true d e o p q r t =
        let k : addr - m.base ≡ 0x40 = eqb-true (addr - m.base) 0x40 q in
        rw n (eoi (no_low (λ i. omega arith)) (rw (g, eq-eqb addr (m.base + 0x40) (omega arith))))

    go : (a b : Bool) → good_width width ≡ a → leb m.base addr ≡ b
        → Serves m addr width x (cond a (cond b (write_at m (addr - m.base) y) (writing m (Err InvalidAddress))) (writing m (Err Unsupported)))
    go false b p q = refused Unsupported (rw p) (rw p)
    go true false p q =
        let l : addr < m.base = leb-false m.base addr q in
        refused InvalidAddress (no_low (λ i. omega arith)) (no_eoi (λ i. omega arith))
    go true true p q =
        at p (leb-true m.base addr q) (eqb (addr - m.base) 0) (eqb (addr - m.base) 0x10) (eqb (addr - m.base) 0x40) (is_entry_word m.selector) (is_low m.selector) refl refl refl refl refl
