-- The cases of each rule of an entry and of each call, so that what is shown of them is shown case by case. Assumes nothing.
use Rattle.std.specs.Prelude.{None, Err}
use Prim.Native.Nat.{ℕ, ◌-◌, ◌%◌, ◌^◌, ◌≤◌, ◌<◌}
use native.Mathlib.Omega.{arith}
use mathlib.Core.Bool.{Bool, true, false, cond, ◌&&◌, ◌||◌}
use mathlib.Core.Path.{◌≡◌, refl, subst⁻¹}
use borrow.Author.Tests.{ltb-true, ltb-false, leb-true, eqb-true, eqb-false}
use lib.Dec.{eqb, ltb, leb}
use Rattle.types.specs.Counters.{entry_index}
use Rattle.types.specs.Reply.{Outcome}
use Rattle.types.specs.declared.Gsi.{Gsi}
use Rattle.types.specs.declared.Vector.{Vector}
use Rattle.types.specs.declared.Refusal.{Refusal}
use Rattle.types.specs.declared.Refusal.TheVariants.{Unsupported, InvalidAddress}
use Rattle.vioapic_entry.specs.Redirection.{EntryStep, is_fit, is_level, remote_irr, is_masked, same_low, low_part, with_remote_irr, without_remote_irr, replace_low, replace_high, with_word, with_deferred, with_input, quietly, sending, settled, send_entry, raise_entry, lower_entry, move_line, end_entry, end_entry20, write_low, write_high, store_low20, is_owed, write_low20}
use Rattle.vioapic.specs.Table.{Routing, Ending, is_version20, entry_at, route_at, unrouted, ending, end_at, interrupt_for_entry, set_level, first_awaiting, end_of_entry, end_of_every, end_of}
use Rattle.vioapic.specs.Registers.{Writing, writing, is_entry_word, entry_of, is_low, done, write_word, entry_written, write_selected, eoi_written, write_eoi, with_selector, write_at}
use Rattle.vioapic.specs.IoApic.{good_width, writing_outcome, refuse, handle_write}
use Rattle.vioapic.proofs.Ways.{entry_word_range}
use Rattle.vioapic_entry.specs.declared.Entry.{Entry}
use Rattle.vioapic.specs.State.{IoApicState}
use Rattle.vioapic_theorems.specs.Premises.{asks}

-- ---- an entry is sent

pub data Sent (e : Entry) : EntryStep → Type 0 where
  unfit : is_fit e.word ≡ false → Sent e (quietly e)
  edge : is_fit e.word ≡ true → is_level e.word ≡ false → Sent e (sending e)
  later : is_fit e.word ≡ true → is_level e.word ≡ true → remote_irr e.word ≡ true → Sent e (quietly (with_deferred e true))
  fresh : is_fit e.word ≡ true → is_level e.word ≡ true → remote_irr e.word ≡ false → Sent e (sending (with_word e (with_remote_irr e.word)))

pub sent_view : (e : Entry) → Sent e (send_entry e)
unfolding send_entry
sent_view e = go (is_fit e.word) (is_level e.word) (remote_irr e.word) refl refl refl
  where
    go : (a b c : Bool) → is_fit e.word ≡ a → is_level e.word ≡ b → remote_irr e.word ≡ c
        → Sent e (cond a (cond b (cond c (quietly (with_deferred e true)) (sending (with_word e (with_remote_irr e.word)))) (sending e)) (quietly e))
    go false b c p q r = unfit p
    go true false c p q r = edge p q
    go true true true p q r = later p q r
    go true true false p q r = fresh p q r

-- ---- its line moves

pub data Raised (e : Entry) : EntryStep → Type 0 where
  again : e.input_level ≡ true → remote_irr e.word ≡ true → Raised e (quietly (with_deferred (with_input e true) true))
  raised : {r : EntryStep} → Sent (with_input e true) r → Raised e r

pub raised_view : (e : Entry) → Raised e (raise_entry e)
unfolding raise_entry
raised_view e = go e.input_level (remote_irr e.word) refl refl
  where
    go : (a b : Bool) → e.input_level ≡ a → remote_irr e.word ≡ b
        → Raised e (cond (a && b) (quietly (with_deferred (with_input e true) true)) (send_entry (with_input e true)))
    go true true p q = again p q
    go true false p q = raised (sent_view (with_input e true))
    go false b p q = raised (sent_view (with_input e true))

pub data Moved (e : Entry) : Bool → EntryStep → Type 0 where
  up : {r : EntryStep} → Raised e r → Moved e true r
  down : Moved e false (quietly (with_deferred (with_input e false) false))

pub moved_view : (e : Entry) (b : Bool) → Moved e b (move_line e b)
unfolding lower_entry
moved_view e true = up (raised_view e)
moved_view e false = down

-- ---- an EOI ends it

-- sent again, with what was deferred before it or with nothing deferred; or at rest
pub data Over (e : Entry) : EntryStep → Type 0 where
  resent : {r : EntryStep} (b : Bool) → asks e ≡ true → (b ≡ true → e.pending_level ≡ true) → Sent (with_deferred (with_word e (without_remote_irr e.word)) b) r → Over e r
  rested : asks e ≡ false → Over e (quietly (with_deferred (with_word e (without_remote_irr e.word)) false))

pub over_view : (e : Entry) → Over e (end_entry e)
unfolding end_entry
over_view e = go e.input_level e.pending_level refl refl
  where
    go : (a b : Bool) → e.input_level ≡ a → e.pending_level ≡ b
        → Over e (cond a (send_entry (with_word e (without_remote_irr e.word))) (cond b (send_entry (with_deferred (with_word e (without_remote_irr e.word)) false)) (quietly (with_word e (without_remote_irr e.word)))))
    go true b p q = resent e.pending_level (rw p) (λ h. h) (sent_view (with_word e (without_remote_irr e.word)))
    go false true p q = resent false (rw (p, q)) (λ h. q) (sent_view (with_deferred (with_word e (without_remote_irr e.word)) false))
    go false false p q =
        let at : asks e ≡ false = rw (p, q) in
        subst⁻¹ (λ (b : Bool). Over e (quietly (with_deferred (with_word e (without_remote_irr e.word)) b))) q (rested at)

-- in version 0x20 nothing stays deferred
pub over_view20 : (e : Entry) → Over e (end_entry20 e)
unfolding end_entry20
over_view20 e = go e.input_level e.pending_level refl refl
  where
    f : Entry
    f = with_deferred (with_word e (without_remote_irr e.word)) false

    go : (a b : Bool) → e.input_level ≡ a → e.pending_level ≡ b → Over e (cond (a || b) (send_entry f) (quietly f))
    go true b p q = resent false (rw p) (λ h. absurd (let z : ◌≡◌ {A = ℕ} 0 1 = cc in omega arith)) (sent_view f)
    go false true p q = resent false (rw (p, q)) (λ h. q) (sent_view f)
    go false false p q = rested (rw (p, q))

-- ---- the guest writes it

-- a low word of version 0x20: stored, and sent if it is owed that
pub data Stored (e : Entry) (x : ℕ) : EntryStep → Type 0 where
  owed : {r : EntryStep} → is_owed (store_low20 e x) ≡ true → Sent (store_low20 e x) r → Stored e x r
  unowed : is_owed (store_low20 e x) ≡ false → Stored e x (quietly (store_low20 e x))

pub stored_view : (e : Entry) (x : ℕ) → Stored e x (write_low20 e x)
unfolding write_low20
stored_view e x = go (is_owed (store_low20 e x)) refl
  where
    go : (b : Bool) → is_owed (store_low20 e x) ≡ b → Stored e x (cond b (send_entry (store_low20 e x)) (quietly (store_low20 e x)))
    go true h = owed h (sent_view (store_low20 e x))
    go false h = unowed h

pub data Wrote (version20 : Bool) (e : Entry) (x : ℕ) : EntryStep → Type 0 where
  kept : version20 ≡ false → (b : Bool) → (b ≡ true → e.pending_level ≡ true) → Wrote version20 e x (quietly (with_deferred e b))
  changed : version20 ≡ false → (low_part e.word ≡ without_remote_irr x → ⊥) → Wrote version20 e x (quietly (with_deferred (with_word e (replace_low e.word x)) false))
  stored : {r : EntryStep} → version20 ≡ true → Stored e x r → Wrote version20 e x r
  high : Wrote version20 e x (quietly (with_word e (replace_high e.word x)))

pub wrote_view : (n : Bool) (sel : ℕ) (e : Entry) (x : ℕ) → Wrote n e x (write_word n sel e x)
unfolding write_word write_low write_high
wrote_view true sel e x = go (is_low sel)
  where
    go : (a : Bool) → Wrote true e x (cond a (write_low20 e x) (quietly (with_word e (replace_high e.word x))))
    go true = stored refl (stored_view e x)
    go false = high
wrote_view false sel e x = go (is_low sel) (same_low e.word x) refl refl
  where
    settle : (b : Bool) → Wrote false e x (quietly (cond b (with_deferred e false) e))
    settle true = kept refl false (λ h. absurd (let z : ◌≡◌ {A = ℕ} 0 1 = cc in omega arith))
    settle false = kept refl e.pending_level (λ h. h)

    plain : (f : Entry) → (b : Bool) → cond b (with_deferred (with_deferred f false) false) (with_deferred f false) ≡ with_deferred f false
    plain f true = refl
    plain f false = refl

    go : (a b : Bool) → is_low sel ≡ a → same_low e.word x ≡ b
        → Wrote false e x (cond a (quietly (settled (cond b e (with_deferred (with_word e (replace_low e.word x)) false)))) (quietly (with_word e (replace_high e.word x))))
    go true true p q = settle (is_masked e.word)
    go true false p q =
        rw (plain (with_word e (replace_low e.word x)) (is_masked (replace_low e.word x))) (changed refl (eqb-false (low_part e.word) (without_remote_irr x) q))
    go false b p q = high

-- ---- the calls on a state

pub data Routes (s : IoApicState) (gsi : Gsi) (step : Entry → EntryStep) : Routing → Type 0 where
  hit : gsi.0 < 24 → Routes s gsi step (route_at s gsi.0 (step (entry_at s gsi.0)))
  miss : 24 ≤ gsi.0 → Routes s gsi step (unrouted s)

routes_view : (s : IoApicState) (gsi : Gsi) (step : Entry → EntryStep) → Routes s gsi step (cond (ltb (entry_index gsi) 24) (route_at s (entry_index gsi) (step (entry_at s (entry_index gsi)))) (unrouted s))
routes_view s gsi step = go (ltb gsi.0 24) refl
  where
    go : (b : Bool) → ltb gsi.0 24 ≡ b → Routes s gsi step (cond (ltb (cond b gsi.0 24) 24) (route_at s (cond b gsi.0 24) (step (entry_at s (cond b gsi.0 24)))) (unrouted s))
    go true p = rw p (hit (ltb-true gsi.0 24 p))
    go false p = miss (ltb-false gsi.0 24 p)

pub assert_view : (s : IoApicState) (gsi : Gsi) → Routes s gsi send_entry (interrupt_for_entry s gsi)
unfolding interrupt_for_entry
assert_view s gsi = routes_view s gsi send_entry

pub level_view : (s : IoApicState) (gsi : Gsi) (b : Bool) → Routes s gsi (λ e. move_line e b) (set_level s gsi b)
unfolding set_level
level_view s gsi b = routes_view s gsi (λ e. move_line e b)

pub data Ends (s : IoApicState) (v : Vector) : Ending → Type 0 where
  found : first_awaiting s v < 24 → Ends s v (end_at s (first_awaiting s v))
  unfound : 24 ≤ first_awaiting s v → Ends s v (ending s None)

ends_view : (s : IoApicState) (v : Vector) → Ends s v (end_of_entry s v)
unfolding end_of_entry
ends_view s v = go (ltb (first_awaiting s v) 24) refl
  where
    go : (b : Bool) → ltb (first_awaiting s v) 24 ≡ b → Ends s v (cond b (end_at s (first_awaiting s v)) (ending s None))
    go true p = found (ltb-true (first_awaiting s v) 24 p)
    go false p = unfound (ltb-false (first_awaiting s v) 24 p)

-- the choice by version
pub data EndsBy (s : IoApicState) (v : Vector) : Ending → Type 0 where
  one : {x : Ending} → is_version20 s ≡ false → Ends s v x → EndsBy s v x
  every : is_version20 s ≡ true → EndsBy s v (end_of_every s v)

pub ends_by : (s : IoApicState) (v : Vector) → EndsBy s v (end_of s v)
unfolding end_of
ends_by s v = go (is_version20 s) refl
  where
    go : (b : Bool) → is_version20 s ≡ b → EndsBy s v (cond b (end_of_every s v) (end_of_entry s v))
    go true p = every p
    go false p = one p (ends_view s v)

pub ends_old : (s : IoApicState) (v : Vector) → is_version20 s ≡ false → Ends s v (end_of s v)
unfolding end_of
ends_old s v o = rw o (ends_view s v)

pub data Writes (s : IoApicState) (offset x : ℕ) : Writing → Type 0 where
  selected : (y : ℕ) → Writes s offset x (done (with_selector s y))
  word : (h : ℕ) (r : EntryStep) → h < 24 → h ≡ entry_of s.selector → offset ≡ 0x10 → Wrote (is_version20 s) (entry_at s h) x r → Writes s offset x (entry_written s h r)
  eoi : is_version20 s ≡ true → offset ≡ 0x40 → Writes s offset x (eoi_written (end_of_every s (record { 0 = x % 2 ^ 8 })))

writes_view : (s : IoApicState) (offset x : ℕ) → Writes s offset x (write_at s offset x)
unfolding write_at write_selected write_eoi
writes_view s offset x = go (eqb offset 0) (eqb offset 0x10) (eqb offset 0x40) (is_entry_word s.selector) (is_version20 s) refl refl refl refl
  where
    step : EntryStep
    step = write_word (is_version20 s) s.selector (entry_at s (entry_of s.selector)) x

    go : (a b d c n : Bool) → eqb offset 0x10 ≡ b → eqb offset 0x40 ≡ d → is_entry_word s.selector ≡ c → is_version20 s ≡ n
        → Writes s offset x (cond a (done (with_selector s x)) (cond b (cond c (entry_written s (entry_of s.selector) step) (done s)) (cond d (cond n (eoi_written (end_of_every s (record { 0 = x % 2 ^ 8 }))) (done s)) (done s))))
    go true b d c n w o p q = selected x
    go false false false c n w o p q = selected s.selector
    go false false true c false w o p q = selected s.selector
    go false false true c true w o p q = eoi q (eqb-true offset 0x40 o)
    go false true d false n w o p q = selected s.selector
    go false true d true n w o p q =
        let r = entry_word_range s.selector p in
        word (entry_of s.selector) step (omega arith) refl (eqb-true offset 0x10 w) (wrote_view (is_version20 s) s.selector (entry_at s (entry_of s.selector)) x)

-- a write as a call: refused, or served
pub data Write (m : IoApicState) (addr width x : ℕ) : Outcome IoApicState → Type 0 where
  refused : (why : Refusal) → Write m addr width x (refuse m why)
  served : {w : Writing} → good_width width ≡ true → m.base ≤ addr → Writes m (addr - m.base) (x % 2 ^ 32) w
      → Write m addr width x (writing_outcome w)

pub write_view : (m : IoApicState) (addr width x : ℕ) → Write m addr width x (handle_write m addr width x)
unfolding handle_write
write_view m addr width x = go (good_width width) (leb m.base addr) refl refl
  where
    go : (a b : Bool) → good_width width ≡ a → leb m.base addr ≡ b
        → Write m addr width x (writing_outcome (cond a (cond b (write_at m (addr - m.base) (x % 2 ^ 32)) (writing m (Err InvalidAddress))) (writing m (Err Unsupported))))
    go false b p q = refused Unsupported
    go true false p q = refused InvalidAddress
    go true true p q = served p (leb-true m.base addr q) (writes_view m (addr - m.base) (x % 2 ^ 32))
