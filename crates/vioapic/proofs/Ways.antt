-- A law for each way out of the calls: l are the words before, w those after. Assumes nothing.
use Rattle.std.specs.Prelude.{Option, Some, None, Result, Ok, Err, is_ok}
use Prim.Native.Nat.{ℕ, ◌+◌, ◌-◌, ◌/◌, ◌%◌, ◌^◌, ◌≤◌, ◌<◌}
use native.Mathlib.Omega.{arith}
use mathlib.Core.Bool.{Bool, true, false, not}
use mathlib.Core.List.{List}
use mathlib.Core.Path.{◌≡◌, refl, sym, ◌∙◌, ap, subst, subst⁻¹}
use borrow.Author.Tests.{lt-ltb, le-ltb, le-leb, lt-leb, leb-true, leb-false, eq-eqb, ne_eqb, not-true, not-false}
use lib.Dec.{eqb, leb}
use lib.ListN.{length, get_or, set}
use Rattle.utils.specs.Set.{bit}
use Rattle.utils.proofs.Bools.{and_true, both}
use Rattle.types.specs.Reply.{Kept}
use Rattle.types.specs.declared.Reply.{Reply}
use Rattle.types.specs.declared.Reply.TheVariants.{One, Two, Nothing, Refused}
use Rattle.types.specs.declared.Refusal.{Refusal}
use Rattle.types.specs.declared.Refusal.TheVariants.{Unsupported, InvalidAddress}
use Rattle.types.specs.declared.Gsi.{Gsi}
use Rattle.types.specs.declared.Vector.{Vector}
use Rattle.vioapic_entry.specs.Answers.{routed_reply}
use Rattle.vioapic_entry.specs.Redirection.{EntryStep, vector_of, is_fit, without_status, quietly, send_entry, raise_entry, lower_entry, move_line, end_entry, write_low, write_high, write_low20}
use Rattle.vioapic_entry.proofs.Fields.{status_clear}
use Rattle.vioapic_entry.specs.declared.Entry.{Entry}
use Rattle.vioapic_entry.specs.declared.IoApicInterrupt.{IoApicInterrupt}
use Rattle.vioapic.specs.Answers.{eoi_reply, gsi_vector_reply, written_reply}
use Rattle.vioapic.specs.State.{IoApicState, view, entries_from, new_words}
use Rattle.vioapic.specs.Table.{Routing, routing, ending, entry_at, put, route_at, interrupt_for_entry, set_level, is_version20, first_awaiting, end_of_entry, every_answer, end_of_every, end_of, vector_of_entry, vector_for}
use Rattle.vioapic.specs.Registers.{is_entry_word, entry_of, is_low, read_word, read_fixed, read_low, read_selected, write_word, writing, written_send, entry_written, write_selected, write_at, done, written_by, write_eoi, read_at}
use Rattle.vioapic.specs.IoApic.{routing_outcome, ending_outcome, writing_outcome, good_width, fits, version_number, version_of, chip_of, chip_at, new_default, Leaves, Wrote, new_or, Makes, created_version, vector_for_gsi, address_range, assert_gsi, set_gsi_level, end_of_interrupt, handle_read, handle_writing, handle_write, is_version, NamesVersion}
use Rattle.vioapic.specs.Inside.{Keeps, with_low, every_end, every_ending, cleared_in, sent_in}
use Rattle.vioapic.specs.declared.Ends.{Ends}
use Rattle.vioapic.specs.declared.IoApicVersion.{IoApicVersion}
use Rattle.vioapic.specs.declared.Written.{Written}
use Rattle.vioapic.specs.declared.Written.TheVariants as written
use Rattle.vioapic.specs.declared.Eoi.{Eoi}
use Rattle.vioapic.specs.declared.Eoi.TheVariants.{Ended, EndedAll}
use Rattle.vioapic.proofs.Words.{view_at, view_select, still, so_that}

-- ---- lines

routed_served : (l w : List ℕ) (a : Option IoApicInterrupt) → Kept (routed_reply a) l w
routed_served l w None = tt
routed_served l w (Some i) = tt

module _ (l : List ℕ) (gsi : Gsi) where
  assert_in_lem : (w : List ℕ) (a : Option IoApicInterrupt) → gsi.0 < 24 → Keeps l w (routing (view w) a ≡ route_at (view l) gsi.0 (send_entry (entry_at (view l) gsi.0)))
      → Leaves l w (routed_reply a) (assert_gsi (view l) gsi)
  unfolding assert_gsi interrupt_for_entry
  assert_in_lem w a h k =
      let q : routing (view w) a ≡ interrupt_for_entry (view l) gsi = k.is ∙ rw (lt-ltb _ _ h, lt-ltb _ _ h) in
      record { outcome = ap routing_outcome q; untouched = routed_served l w a; kept = k.kept }

  pub assert_in : (w : List ℕ) (a : Option IoApicInterrupt) (g : ℕ) → g ≡ gsi.0 → g < 24 → Keeps l w (routing (view w) a ≡ route_at (view l) g (send_entry (entry_at (view l) g)))
      → Leaves l w (routed_reply a) (assert_gsi (view l) gsi)
  assert_in w a g at h k =
      assert_in_lem w a (subst (λ (n : ℕ). n < 24) at h) (subst (λ (n : ℕ). Keeps l w (routing (view w) a ≡ route_at (view l) n (send_entry (entry_at (view l) n)))) at k)

  pub assert_out : 24 ≤ gsi.0 → Leaves l l Nothing (assert_gsi (view l) gsi)
  unfolding assert_gsi interrupt_for_entry
  assert_out h = record { outcome = rw (le-ltb _ _ h); untouched = tt; kept = refl }

  module _ (up : Bool) (w : List ℕ) (a : Option IoApicInterrupt) (here : gsi.0 < 24) where
    level_in_lem : (b : Bool) → up ≡ b → Keeps l w (routing (view w) a ≡ route_at (view l) gsi.0 (move_line (entry_at (view l) gsi.0) b)) → Leaves l w (routed_reply a) (set_gsi_level (view l) gsi up)
    unfolding set_gsi_level set_level
    level_in_lem b u k =
        let q : routing (view w) a ≡ set_level (view l) gsi up = k.is ∙ rw (u, lt-ltb _ _ here, lt-ltb _ _ here) in
        record { outcome = ap routing_outcome q; untouched = routed_served l w a; kept = k.kept }

  module _ (up : Bool) (w : List ℕ) (a : Option IoApicInterrupt) (g : ℕ) (at : g ≡ gsi.0) (here : g < 24) where
    moved : (b : Bool) → Keeps l w (routing (view w) a ≡ route_at (view l) g (move_line (entry_at (view l) g) b)) → Keeps l w (routing (view w) a ≡ route_at (view l) gsi.0 (move_line (entry_at (view l) gsi.0) b))
    moved b k = subst (λ (n : ℕ). Keeps l w (routing (view w) a ≡ route_at (view l) n (move_line (entry_at (view l) n) b))) at k

    pub level_up : up ≡ true → Keeps l w (routing (view w) a ≡ route_at (view l) g (raise_entry (entry_at (view l) g))) → Leaves l w (routed_reply a) (set_gsi_level (view l) gsi up)
    level_up u k = level_in_lem up w a (subst (λ (n : ℕ). n < 24) at here) true u (moved true k)

    pub level_down : up ≡ false → Keeps l w (routing (view w) a ≡ route_at (view l) g (lower_entry (entry_at (view l) g))) → Leaves l w (routed_reply a) (set_gsi_level (view l) gsi up)
    level_down u k = level_in_lem up w a (subst (λ (n : ℕ). n < 24) at here) false u (moved false k)

  pub level_out : (up : Bool) → 24 ≤ gsi.0 → Leaves l l Nothing (set_gsi_level (view l) gsi up)
  unfolding set_gsi_level set_level
  level_out up h = record { outcome = rw (le-ltb _ _ h); untouched = tt; kept = refl }

  pub vector_in_lem : (r : Option Vector) (g : ℕ) → g ≡ gsi.0 → g < 24 → r ≡ vector_of_entry (get_or l g 0) → gsi_vector_reply r ≡ vector_for_gsi (view l) gsi
  unfolding vector_for_gsi vector_for
  vector_in_lem r g at here q =
      let h : gsi.0 < 24 = subst (λ (n : ℕ). n < 24) at here in
      let p : r ≡ vector_for (view l) gsi =
      q ∙ ap (λ (n : ℕ). vector_of_entry (get_or l n 0)) at ∙ ap (λ (d : Entry). vector_of_entry d.word) (sym (view_at l gsi.0 h)) ∙ rw (lt-ltb _ _ h, lt-ltb _ _ h) in
      ap gsi_vector_reply p

  pub vector_out : 24 ≤ gsi.0 → Nothing ≡ vector_for_gsi (view l) gsi
  unfolding vector_for_gsi vector_for
  vector_out h = rw (le-ltb _ _ h)

pub vector_fit : (w : ℕ) (v : Vector) → is_fit w ≡ true → v ≡ vector_of w → Some v ≡ vector_of_entry w
vector_fit w v f q = rw f (ap Some q)

pub vector_unfit : (w : ℕ) → is_fit w ≡ false → None ≡ vector_of_entry w
vector_unfit w f = rw f

-- ---- EOIs

module _ (l : List ℕ) (v : Vector) (g : ℕ) (at : g ≡ first_awaiting (view l) v) where
  pub eoi_in : (w : List ℕ) (a : Option IoApicInterrupt) → g < 24 → Keeps l w (routing (view w) a ≡ route_at (view l) g (end_entry (entry_at (view l) g)))
      → Keeps l w (ending (view w) (Some (Ended (record { gsi = record { 0 = g }; pending = a }))) ≡ end_of_entry (view l) v)
  unfolding end_of_entry
  eoi_in w a h k = so_that k (λ r. rw (← at, lt-ltb _ _ h) (ap (λ (m : Routing). ending m.state (Some (Ended (record { gsi = record { 0 = g }; pending = m.answer })))) r))

  pub eoi_none : 24 ≤ g → Keeps l l (ending (view l) None ≡ end_of_entry (view l) v)
  unfolding end_of_entry
  eoi_none h = still l (rw (← at, le-ltb _ _ h))

eoi_served : (l w : List ℕ) (r : Option Eoi) → Kept (eoi_reply r) l w
eoi_served l w None = tt
eoi_served l w (Some (Ended e)) = go e.pending
  where
    go : (s : Option IoApicInterrupt) → Kept (eoi_reply (Some (Ended (record { gsi = e.gsi; pending = s })))) l w
    go None = tt
    go (Some i) = tt
eoi_served l w (Some (EndedAll e)) = tt

module _ (l w : List ℕ) (v : Vector) (b : Bool) (is : b ≡ is_version20 (view l)) where
  pub end_20 : (n : Ends) (r : Option Eoi) → b ≡ true → Keeps l w (every_ending (every_end (view w) (cleared_in n) (sent_in n)) ≡ end_of_every (view l) v) → r ≡ every_answer (cleared_in n) (sent_in n) → Leaves l w (eoi_reply r) (end_of_interrupt (view l) v)
  unfolding end_of_interrupt end_of
  end_20 n r h e k =
      record { outcome = rw (sym is ∙ h) (ap ending_outcome (ap (ending (view w)) k ∙ e.is)); untouched = eoi_served l w r; kept = e.kept }

  pub end_11 : (r : Option Eoi) → b ≡ false → Keeps l w (ending (view w) r ≡ end_of_entry (view l) v) → Leaves l w (eoi_reply r) (end_of_interrupt (view l) v)
  unfolding end_of_interrupt end_of
  end_11 r n e = record { outcome = rw (sym is ∙ n) (ap ending_outcome e.is); untouched = eoi_served l w r; kept = e.kept }

version_at : (l : List ℕ) → get_or l 29 0 ≡ (view l).version
unfolding view
version_at l = refl

pub version_is : (l : List ℕ) → eqb (get_or l 29 0) 0x20 ≡ is_version20 (view l)
version_is l = ap (λ (n : ℕ). eqb n 0x20) (version_at l)

pub version_held : (l : List ℕ) (r : IoApicVersion) → r ≡ version_of (get_or l 29 0) → r ≡ version_of (view l).version
version_held l r e = e ∙ ap version_of (version_at l)

-- ---- the registers

pub entry_word_range : (sel : ℕ) → is_entry_word sel ≡ true → (0x10 ≤ sel) × (sel ≤ 0x3f)
entry_word_range sel e = let p = and_true (leb 0x10 sel) (leb sel 0x3f) e in (leb-true 0x10 sel p.0, leb-true sel 0x3f p.1)

-- the same by the selector's half
pub half_from : (sel : ℕ) → is_entry_word sel ≡ true → 8 ≤ sel / 2
half_from sel e = omega (arith, (entry_word_range sel e).0)

pub entry_by_half : (sel g : ℕ) → is_entry_word sel ≡ true → g ≡ entry_of sel → sel / 2 - 8 ≡ g
entry_by_half sel g e q = omega (arith, (entry_word_range sel e).0, q)

module _ (l : List ℕ) (sel : ℕ) (b : Bool) (is : sel ≡ (view l).selector) (there : b ≡ is_entry_word sel) where
  found : (c : Bool) → b ≡ c → is_entry_word (view l).selector ≡ c
  found c h = sym (there ∙ ap is_entry_word is) ∙ h

  module _ (g word : ℕ) (c : Bool) (yes : b ≡ true) (which : g ≡ entry_of sel) (at : word ≡ (entry_at (view l) g).word) (low : c ≡ is_low sel) where
    pub read_low_word : (r : ℕ) → c ≡ true → r ≡ read_low (is_version20 (view l)) (word % 2 ^ 32) → r ≡ read_selected (view l)
    unfolding read_selected read_word
    read_low_word r h d = rw (found true yes, ← is, ← which, ← at, sym low ∙ h) d

    pub read_high_word : c ≡ false → word / 2 ^ 32 ≡ read_selected (view l)
    unfolding read_selected read_word
    read_high_word h = rw (found true yes, ← is, ← which, ← at, sym low ∙ h)

  pub read_other : (r : ℕ) → b ≡ false → r ≡ read_fixed (get_or l 29 0) sel → r ≡ read_selected (view l)
  unfolding read_selected
  read_other r h d = rw (found false h, ← is, ← version_at l) d

  module _ (x g : ℕ) (w : List ℕ) (c : Bool) (yes : b ≡ true) (which : g ≡ entry_of sel) (low : c ≡ is_low sel) where
    entry_written_lem : (a : Option IoApicInterrupt) (f : Entry → EntryStep) → ((e : Entry) → f e ≡ write_word (is_version20 (view l)) sel e x)
        → Keeps l w (routing (view w) a ≡ route_at (view l) g (f (entry_at (view l) g))) → Keeps l w (writing (view w) (Ok (written_send a)) ≡ write_selected (view l) x)
    unfolding write_selected
    entry_written_lem a f q k =
        so_that k
        (λ y. ap (λ (r : Routing). writing r.state (Ok (written_send r.answer))) y ∙ ap (λ (r : EntryStep). entry_written (view l) g r) (q (entry_at (view l) g))
        ∙ rw (which, is, found true yes))

    -- a word that sends nothing
    plain : (f : Entry → Entry) → ((e : Entry) → quietly (f e) ≡ write_word (is_version20 (view l)) sel e x) → Keeps l w (view w ≡ put (view l) g (f (entry_at (view l) g))) → Keeps l w (done (view w) ≡ write_selected (view l) x)
    plain f q k = entry_written_lem None (λ e. quietly (f e)) q (so_that k (λ y. ap (λ (s : IoApicState). routing s None) y))

    module _ (n : Bool) (by : n ≡ is_version20 (view l)) where
      pub write_low_word20 : (a : Option IoApicInterrupt) (y : Written) → c ≡ true → n ≡ true → Keeps l w (routing (view w) a ≡ route_at (view l) g (write_low20 (entry_at (view l) g) x)) → y ≡ written_send a
          → Keeps l w (writing (view w) (Ok y) ≡ write_selected (view l) x)
      unfolding write_word
      write_low_word20 a y h v k q = rw q (entry_written_lem a (λ e. write_low20 e x) (λ e. rw (sym low ∙ h, sym by ∙ v)) k)

      pub write_low_word : c ≡ true → n ≡ false → Keeps l w (view w ≡ put (view l) g (write_low (entry_at (view l) g) x)) → Keeps l w (done (view w) ≡ write_selected (view l) x)
      unfolding write_word
      write_low_word h v k = plain (λ e. write_low e x) (λ e. rw (sym low ∙ h, sym by ∙ v)) k

    pub write_high_word : c ≡ false → Keeps l w (view w ≡ put (view l) g (write_high (entry_at (view l) g) x)) → Keeps l w (done (view w) ≡ write_selected (view l) x)
    unfolding write_word
    write_high_word h k = plain (λ e. write_high e x) (λ e. rw (sym low ∙ h)) k

  pub write_other : (x : ℕ) → b ≡ false → Keeps l l (done (view l) ≡ write_selected (view l) x)
  unfolding write_selected
  write_other x h = still l (rw (found false h))

-- what a low word reads
module _ (l : List ℕ) (x : ℕ) (s : Bool) (status : s ≡ bit x 12) where
  pub low_clear : not s ≡ true → x ≡ read_low (is_version20 (view l)) x
  low_clear h =
      sym (both (λ (n : ℕ). n ≡ x) (is_version20 (view l)) (without_status x) x (status_clear x (sym status ∙ not-true s h)) refl)

  module _ (n : Bool) (is : n ≡ is_version20 (view l)) where
    pub low_new : (r : ℕ) → n ≡ true → r ≡ without_status x → r ≡ read_low (is_version20 (view l)) x
    low_new r h q = rw (sym is ∙ h) q

    pub low_old : n ≡ false → x ≡ read_low (is_version20 (view l)) x
    low_old h = rw (sym is ∙ h)

-- the EOI register
module _ (l : List ℕ) (x : ℕ) (b : Bool) (is : b ≡ is_version20 (view l)) where
  pub eoi_old : not b ≡ true → Keeps l l (done (view l) ≡ write_eoi (view l) x)
  unfolding write_eoi
  eoi_old h = still l (rw (sym is ∙ not-true b h))

  pub eoi_written_lem : (w : List ℕ) (n : Ends) (r : Option Eoi) (y : Written) → not b ≡ false → Keeps l w (every_ending (every_end (view w) (cleared_in n) (sent_in n)) ≡ end_of_every (view l) (record { 0 = x % 2 ^ 8 }))
      → r ≡ every_answer (cleared_in n) (sent_in n) → y ≡ written_by r → Keeps l w (writing (view w) (Ok y) ≡ write_eoi (view l) x)
  unfolding write_eoi
  eoi_written_lem w n r y h e k d = so_that e (λ q. rw (sym is ∙ not-false b h, ← q, d, k))

pub at_select : (l : List ℕ) (x n : ℕ) → length l ≡ 32 → x < 2 ^ 32 → n ≡ with_low (get_or l 26 0) x → Keeps l (set l 26 n) (done (view (set l 26 n)) ≡ write_at (view l) 0 x)
unfolding write_at
at_select l x n h k p = so_that (view_select l x n h k p) (λ q. ap done q)

module _ (l : List ℕ) (offset x : ℕ) (beyond : 0 < offset) where
  module _ (w : List ℕ) (y : Written) where
    pub at_eoi : offset ≡ 64 → Keeps l w (writing (view w) (Ok y) ≡ write_eoi (view l) x) → Keeps l w (writing (view w) (Ok y) ≡ write_at (view l) offset x)
    unfolding write_at
    at_eoi c k = so_that k (λ q. rw (ne_eqb offset 0 (λ e. omega arith), ne_eqb offset 16 (λ e. omega arith), eq-eqb _ _ c) q)

    pub at_window_lem : offset ≡ 16 → Keeps l w (writing (view w) (Ok y) ≡ write_selected (view l) x) → Keeps l w (writing (view w) (Ok y) ≡ write_at (view l) offset x)
    unfolding write_at
    at_window_lem b k = so_that k (λ q. rw (ne_eqb offset 0 (λ e. omega arith), eq-eqb _ _ b) q)

  -- at another offset
  pub at_none : (offset ≡ 64 → ⊥) → (offset ≡ 16 → ⊥) → Keeps l l (done (view l) ≡ write_at (view l) offset x)
  unfolding write_at
  at_none c b = still l (rw (ne_eqb offset 0 (λ e. omega arith), ne_eqb _ _ b, ne_eqb _ _ c))

-- ---- base and size

pub fits_is : (base size : ℕ) → base < 18446744073709551616 → leb size (18446744073709551615 - base) ≡ fits base size
fits_is base size h = go (leb size (18446744073709551615 - base)) refl
  where
    go : (b : Bool) → leb size (18446744073709551615 - base) ≡ b → b ≡ fits base size
    go true e = sym (le-leb (base + size) 18446744073709551615 (omega (arith, leb-true size (18446744073709551615 - base) e)))
    go false e = sym (lt-leb (base + size) 18446744073709551615 (omega (arith, leb-false size (18446744073709551615 - base) e)))

-- a sum that fits doesn't overflow
pub fits_sum : (base size : ℕ) (b : Bool) → b ≡ fits base size → b ≡ true → base + size < 18446744073709551616
fits_sum base size b e h = let p = leb-true (base + size) 18446744073709551615 (sym e ∙ h) in omega arith

module _ (l : List ℕ) (base size : ℕ) (b : Bool) (at : base ≡ (view l).base) (long : size ≡ (view l).size) (is : b ≡ fits base size) where
  fits_view : (c : Bool) → b ≡ c → fits (view l).base (view l).size ≡ c
  fits_view c h = rw (← at, ← long) (sym is ∙ h)

  pub range_fits : b ≡ true → Two base (base + size) ≡ address_range (view l)
  unfolding address_range
  range_fits h = rw (fits_view true h, ← at, ← long)

  pub range_wide : b ≡ false → Refused InvalidAddress ≡ address_range (view l)
  unfolding address_range
  range_wide h = rw (fits_view false h)

-- ---- the memory map

-- a write that is served says nothing of the words
served : (l w : List ℕ) (y : Written) → Kept (written_reply (Ok y)) l w
served l w written.Done = tt
served l w (written.Sent i) = tt
served l w (written.EndedAll e) = tt

-- a read of four bytes, and of eight, which is the same
module _ (l : List ℕ) (addr base : ℕ) (e : base ≡ (view l).base) where
  pub read_below : addr < base → Refused InvalidAddress ≡ handle_read (view l) addr 4
  unfolding handle_read
  read_below k = rw (← e, lt-leb _ _ k)

  pub read_served : (r : ℕ) → base ≤ addr → r ≡ read_at (view l) (addr - base) → One r ≡ handle_read (view l) addr 4
  unfolding handle_read
  read_served r k q = rw (le-leb (view l).base addr (subst (λ (n : ℕ). n ≤ addr) e k)) (ap One (q ∙ ap (λ (n : ℕ). read_at (view l) (addr - n)) e))

module _ (l : List ℕ) (addr width : ℕ) (r : Reply) where
  pub read_eight : width ≡ 8 → r ≡ handle_read (view l) addr 4 → r ≡ handle_read (view l) addr width
  unfolding handle_read
  read_eight h q = rw h q

pub read_width : (l : List ℕ) (addr width : ℕ) → (width ≡ 8 → ⊥) → (width ≡ 4 → ⊥) → Refused Unsupported ≡ handle_read (view l) addr width
unfolding handle_read
read_width l addr width a b = rw (ne_eqb _ _ b, ne_eqb _ _ a)

module _ (l : List ℕ) (addr width : ℕ) (b : Bool) (is : b ≡ good_width width) where
  module _ (x : ℕ) where
    pub write_width : not b ≡ true → Wrote l l (Err Unsupported) (handle_writing (view l) addr width x)
    write_width h = record { outcome = rw (sym is ∙ not-true b h); untouched = refl; kept = refl }

    module _ (base : ℕ) (h : not b ≡ false) (e : base ≡ (view l).base) where
      pub write_below : addr < base → Wrote l l (Err InvalidAddress) (handle_writing (view l) addr width x)
      write_below k = record { outcome = rw (sym is ∙ not-false b h, ← e, lt-leb _ _ k); untouched = refl; kept = refl }

      pub write_served : (w : List ℕ) (y : Written) → base ≤ addr → Keeps l w (writing (view w) (Ok y) ≡ write_at (view l) (addr - base) (x % 2 ^ 32))
          → Wrote l w (Ok y) (handle_writing (view l) addr width x)
      write_served w y k q =
          record {
            outcome =
                rw (sym is ∙ not-false b h, le-leb (view l).base addr (subst (λ (n : ℕ). n ≤ addr) e k))
                (q.is ∙ ap (λ (n : ℕ). write_at (view l) (addr - n) (x % 2 ^ 32)) e);
            untouched = served l w y;
            kept = q.kept;
          }

      pub write_selects : (w : List ℕ) (y : Written) → addr ≡ base → Keeps l w (writing (view w) (Ok y) ≡ write_at (view l) 0 (x % 2 ^ 32))
          → Wrote l w (Ok y) (handle_writing (view l) addr width x)
      write_selects w y k q = let o : addr - base ≡ 0 = omega arith in write_served w y (omega arith) (subst⁻¹ (λ (n : ℕ). Keeps l w (writing (view w) (Ok y) ≡ write_at (view l) n (x % 2 ^ 32))) o q)

-- what such a write leaves, in document 01's numbers
pub wrote_leaves : (l w : List ℕ) (r : Result Written Refusal) (addr width x : ℕ) → Wrote l w r (handle_writing (view l) addr width x) → Leaves l w (written_reply r) (handle_write (view l) addr width x)
unfolding handle_write
wrote_leaves l w r addr width x k = record { outcome = ap writing_outcome k.outcome; untouched = k.untouched; kept = k.kept }

-- ---- a new state

-- what names a version is the number of one
pub names_ok : (number : ℕ) (r : Result IoApicVersion Refusal) (b : Bool) → NamesVersion number r → b ≡ is_ok r → b ≡ is_version number
names_ok number (Ok v) b names e = e ∙ sym names.0
names_ok number (Err why) b names e = e ∙ sym names.0

pub new_shows : (version base size : ℕ) → view (new_words version base size) ≡ chip_of version base size
unfolding view entries_from
new_shows version base size = refl

module _ (l : List ℕ) (base size : ℕ) (version : IoApicVersion) (c : Bool) (e : c ≡ fits base size) where
  pub new_wide : not c ≡ true → Makes l l (Refused InvalidAddress) (created_version (view l) base size version) (new_words (version_number version) base size)
  unfolding created_version
  new_wide k = record { outcome = rw (sym e ∙ not-true c k); words = refl }

  pub new_done : (n : ℕ) (w : List ℕ) → not c ≡ false → n ≡ version_number version → w ≡ new_words n base size
      → Makes l w Nothing (created_version (view l) base size version) (new_words (version_number version) base size)
  unfolding created_version
  new_done n w k h q =
      let p : w ≡ new_words (version_number version) base size = q ∙ ap (λ (x : ℕ). new_words x base size) h in
      record {
        outcome = rw (sym e ∙ not-false c k) (ap (λ (m : IoApicState). record { state = m; reply = Nothing }) (ap view p ∙ new_shows (version_number version) base size));
        words = p;
      }

-- by value: a new state in the place of one that covers no address
pub new_value : (l w : List ℕ) (r : Reply) (base size : ℕ) (version : IoApicVersion) → l ≡ new_words 0x20 0 0
    → Makes l w r (created_version (view l) base size version) (new_words (version_number version) base size)
    → Makes (new_words 0x20 0 0) w r (created_version (chip_at 0 0) base size version) (new_words (version_number version) base size)
new_value l w r base size version e k =
    record {
      outcome = k.outcome ∙ ap (λ (m : IoApicState). created_version m base size version) (ap view e ∙ new_shows 0x20 0 0);
      words = k.words ∙ ap (λ (x : List ℕ). new_or r (new_words (version_number version) base size) x) e;
    }

pub new_default_lem : (l : List ℕ) → l ≡ new_words 0x20 0xfec00000 0x1000 → view l ≡ new_default
new_default_lem l e = ap view e ∙ new_shows 0x20 0xfec00000 0x1000

module _ (l : List ℕ) (n : ℕ) (version : IoApicVersion) (h : n ≡ version_number version) (e : l ≡ new_words n 0xfec00000 0x1000) where
  pub new_default_words : l ≡ new_words (version_number version) 0xfec00000 0x1000
  new_default_words = e ∙ ap (λ (x : ℕ). new_words x 0xfec00000 0x1000) h

  pub new_default_of : view l ≡ chip_of (version_number version) 0xfec00000 0x1000
  new_default_of = ap view new_default_words ∙ new_shows (version_number version) 0xfec00000 0x1000
