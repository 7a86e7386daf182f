-- What heals a lost line, exactly. Assumes nothing.
use Rattle.std.specs.Prelude.{Ok, Option, Some, None}
use Prim.Native.Nat.{ℕ, ◌%◌, ◌^◌, ◌<◌}
use native.Mathlib.Decide.{ℕ_discrete}
use native.Mathlib.Omega.{arith}
use mathlib.Core.Bool.{Bool, true, false, not, cond, ◌&&◌, ◌||◌}
use mathlib.Core.List.{[], ◌∷◌}
use mathlib.Core.Path.{◌≡◌, refl, sym, ap, ◌∙◌}
use borrow.Author.Tests.{eqb-true, eqb-false, eq-eqb, ne_eqb}
use lib.Dec.{eqb}
use Rattle.utils.specs.Set.{bit}
use Rattle.utils.proofs.Bools.{never, and_true, and-false, not_is}
use Rattle.types.specs.declared.Vector.{Vector}
use Rattle.vioapic_entry.specs.Redirection.{EntryStep, vector_of, remote_irr, is_level, has_vector, awaits, end_entry20, store_low20}
use Rattle.vioapic_entry.specs.declared.Entry.{Entry}
use Rattle.vioapic_entry.proofs.Fields.{Alike, alike_refl, same_level, same_vector}
use Rattle.vioapic_entry.proofs.EntryLaws.{owed_grounded}
use Rattle.vioapic.specs.Agreement.{end_each_in_table}
use Rattle.vioapic.specs.Table.{Ending, entry_at, put, set_level, end_of_every, end_of}
use Rattle.vioapic.specs.Registers.{Writing, written_send, entry_of, entry_written, eoi_written}
use Rattle.vioapic.specs.IoApic.{handle_writing}
use Rattle.vioapic_theorems.proofs.Steps.{awaiting, awaits_yes, end_alike, stored_alike, stored_flight}
use Rattle.vioapic_theorems.proofs.Tables.{put_same, put_other, every_at}
use Rattle.vioapic_theorems.proofs.Views.{level_view, over_view20, Stored}
use Rattle.vlapic.specs.declared.VirtualApicRegs.{VirtualApicRegs}
use Rattle.vlapic.specs.Priority.{broadcasts}
use Rattle.vlapic_regs.specs.Vectors.{in_words}
use Rattle.vlapic_requests.specs.Requests.{highest, ended}
use Rattle.vlapic_requests.specs.Requests as apic
use Rattle.board.specs.Board.{Board, new_board, told_to, set_gsi_level, accept_interrupt, handle_eoi, write_tpr, handle_write, receive, requested_by_write}
use Rattle.board.specs.Calls.{Call, SetGsiLevel, AcceptInterrupt, HandleEoi, WriteTpr, HandleWrite, Receive, outcome, next, run}
use Rattle.board_theorems.specs.Rules.{BoardRules, Tells}
use Rattle.board_theorems.specs.Traced.{trace, asked, asked_by_write, is_level_of, is_low_word, is_eoi_word, lost_over, lost_entry, is_lost, LostExactly, mends, heals, HealedExactly, healed_over, StaysLost}
use Rattle.board_theorems.proofs.Sent.{Serves, serves_view}
use Rattle.board_theorems.proofs.Rules.{highest_in, calls_keep_rules}
use Rattle.board_theorems.proofs.Entries.{line_stays, end_of_new, every_stays, every_awaits, high_stays}
use Rattle.board_theorems.proofs.Exact.{twice, eoi_asked, asked_for, tells_next, runs_exact}

-- ---- an entry in flight with v, where v has no trace

-- what is told has a trace, so that a lost vector's end is told to nobody
told_traced : (s : VirtualApicRegs) (v : Vector) → (highest s.isr ≡ 0 → ⊥) → broadcasts s (highest s.isr) ≡ true → highest s.isr ≡ v.0 → trace v s ≡ true
told_traced s v h q e =
    let p = and_true (in_words s.tmr (highest s.isr)) (not (bit s.svr 12)) q in
    let i : in_words s.isr v.0 ≡ true = rw (← e) (highest_in s.isr h) in
    let j : in_words s.tmr v.0 ≡ true = rw (← e) p.0 in
    rw (i, j) (either_true (in_words s.irr v.0))
  where
    either_true : (a : Bool) → ((a || true) && true) ≡ true
    either_true true = refl
    either_true false = refl

module _ (v : Vector) (b : Board) (k : BoardRules b) (e : trace v b.apic ≡ false) (g : ℕ) (l : g < 24) (w : awaits v (entry_at b.ioapic g) ≡ true) where
  abbrev Stays : VirtualApicRegs → Option Vector → Type 0
  Stays s a = awaits v (entry_at (told_to b.ioapic s a).board.ioapic g) ≡ true

  eoi_stays : Stays (apic.end_highest b.apic).state (apic.end_highest b.apic).answer
  unfolding apic.end_highest
  eoi_stays = go (eqb (highest b.apic.isr) 0) refl
    where
      other : (u : Vector) → (u.0 ≡ v.0 → ⊥) → awaits v (entry_at (end_of b.ioapic u).state g) ≡ true
      other u n = ap (λ (o : Ending). awaits v (entry_at o.state g)) (is_every u) ∙ every_stays b.ioapic k.chip.agrees u v g n w
        where
          is_every : (z : Vector) → end_of b.ioapic z ≡ end_of_every b.ioapic z
          is_every z = end_of_new b.ioapic z k.version

      told : (highest b.apic.isr ≡ 0 → ⊥) → (c : Bool) → broadcasts b.apic (highest b.apic.isr) ≡ c
          → Stays (ended b.apic (highest b.apic.isr)) (cond c (Some (record { 0 = highest b.apic.isr })) None)
      told h true q = other (record { 0 = highest b.apic.isr }) (λ i. never (told_traced b.apic v h q i) e)
      told h false q = w

      go : (c : Bool) → eqb (highest b.apic.isr) 0 ≡ c
          → Stays (cond c (apic.after b.apic None) (apic.ending b.apic (highest b.apic.isr))).state (cond c (apic.after b.apic None) (apic.ending b.apic (highest b.apic.isr))).answer
      go true q = w
      go false q = told (eqb-false (highest b.apic.isr) 0 q) (broadcasts b.apic (highest b.apic.isr)) refl

-- ---- a lost line

-- in flight with v, it is lost if v has no trace
aloft : (v : Vector) (e : Entry) (s : VirtualApicRegs) → awaits v e ≡ true → lost_entry e s ≡ not (trace v s)
aloft v e s w =
    let p = awaiting v e w in
    let i : vector_of e.word ≡ v = ap (λ (n : ℕ). record { 0 = n }) (eqb-true (e.word % 256) v.0 p.vector) in
    rw (p.level, p.flight) (ap (λ (u : Vector). not (trace u s)) i)

-- at rest, or edge, it isn't
landed : (v : Vector) (e : Entry) (s : VirtualApicRegs) → has_vector e.word v ≡ true → awaits v e ≡ false → lost_entry e s ≡ false
landed v e s h w = let p : (is_level e.word && remote_irr e.word) ≡ false = rw h at w in rw p

module _ (b : Board) (k : BoardRules b) (t : Tells b) (g : ℕ) (l : g < 24) (q : is_lost g b ≡ true) where
  abbrev v : Vector
  v = vector_of (entry_at b.ioapic g).word

  level : (is_level (entry_at b.ioapic g).word ≡ true) × (remote_irr (entry_at b.ioapic g).word ≡ true)
  level = and_true (is_level (entry_at b.ioapic g).word) (remote_irr (entry_at b.ioapic g).word) (and_true (is_level (entry_at b.ioapic g).word && remote_irr (entry_at b.ioapic g).word) (not (trace v b.apic)) q).0

  flies : awaits v (entry_at b.ioapic g) ≡ true
  flies = awaits_yes v (entry_at b.ioapic g) (record { vector = eq-eqb ((entry_at b.ioapic g).word % 256) ((entry_at b.ioapic g).word % 256) refl; level = level.0; flight = level.1 })

  untraced : trace v b.apic ≡ false
  untraced = not_is (trace v b.apic) (and_true (is_level (entry_at b.ioapic g).word && remote_irr (entry_at b.ioapic g).word) (not (trace v b.apic)) q).1

  -- still in flight with v, it is healed exactly if v is asked for
  still : (c : Call) → awaits v (entry_at (next b c).ioapic g) ≡ true → (mends g v b c ≡ true → is_level_of v (asked b c) ≡ true) → is_lost g (next b c) ≡ not (heals g b c)
  still c w m = aloft v (entry_at (next b c).ioapic g) (next b c).apic w ∙ ap not (asked_for v b c g k t untraced l w ∙ same (is_level_of v (asked b c)) (mends g v b c) m)
    where
      same : (x y : Bool) → (y ≡ true → x ≡ true) → x ≡ (x || y)
      same true y h = refl
      same false true h = h refl
      same false false h = refl

  -- a write, by its cases
  module _ (addr width x : ℕ) where
    abbrev mending : Bool
    mending = mends g v b (HandleWrite addr width x)

    abbrev asking : Writing → Bool
    asking w = is_level_of v (asked_by_write x w.answer)

    abbrev Goal : Writing → Type 0
    Goal w = lost_entry (entry_at w.state g) (requested_by_write b.apic x w.answer) ≡ not (asking w || mending)

    -- neither of the EOI register nor of the entry's low word
    passed : is_eoi_word b.ioapic addr width ≡ false → (is_low_word b.ioapic addr width && eqb (entry_of b.ioapic.selector) g) ≡ false → mending ≡ false
    unfolding mends
    passed p r = rw (p, r)

    -- of the EOI register, with the entry's vector, and with another
    mend : is_eoi_word b.ioapic addr width ≡ true → eqb (x % 2 ^ 8) v.0 ≡ true → mending ≡ true
    unfolding mends
    mend p e = rw (p, e)

    spare : is_low_word b.ioapic addr width ≡ false → eqb (x % 2 ^ 8) v.0 ≡ false → mending ≡ false
    unfolding mends
    spare p e = rw (p, e, and-false (is_eoi_word b.ioapic addr width))

    -- of the entry's low word
    own : (r : EntryStep) → is_eoi_word b.ioapic addr width ≡ false → is_low_word b.ioapic addr width ≡ true → entry_of b.ioapic.selector ≡ g
        → Stored (entry_at b.ioapic g) (x % 2 ^ 32) r
        → lost_entry r.entry (requested_by_write b.apic x (Ok (written_send r.answer))) ≡ not (is_level_of v (asked_by_write x (Ok (written_send r.answer))) || mending)
    unfolding mends
    own r p f i (Stored.owed o s) = never flight (owed_grounded stored o)
      where
        stored : Entry
        stored = store_low20 (entry_at b.ioapic g) (x % 2 ^ 32)

        triggers : is_level (x % 2 ^ 32) ≡ true
        triggers =
            sym (same_level (stored_alike (entry_at b.ioapic g) (x % 2 ^ 32)))
            ∙ (and_true (is_level stored.word) (not (remote_irr stored.word)) (and_true (is_level stored.word && not (remote_irr stored.word)) stored.input_level o).0).0

        flight : remote_irr stored.word ≡ true
        flight = stored_flight (entry_at b.ioapic g) (x % 2 ^ 32) ∙ rw (triggers, level.1)
    own r p f i (Stored.unowed o) = rw (p, f, eq-eqb (entry_of b.ioapic.selector) g i) (go (is_level (x % 2 ^ 32)) refl)
      where
        go : (d : Bool) → is_level (x % 2 ^ 32) ≡ d
            → lost_entry (store_low20 (entry_at b.ioapic g) (x % 2 ^ 32)) b.apic ≡ not (not (is_level (x % 2 ^ 32)) || trace (vector_of (x % 2 ^ 32)) b.apic)
        go false h = rw (same_level (stored_alike (entry_at b.ioapic g) (x % 2 ^ 32)), h)
        go true h =
            let a = stored_alike (entry_at b.ioapic g) (x % 2 ^ 32) in
            let i : is_level (store_low20 (entry_at b.ioapic g) (x % 2 ^ 32)).word ≡ true = same_level a ∙ h in
            let j : remote_irr (store_low20 (entry_at b.ioapic g) (x % 2 ^ 32)).word ≡ true = stored_flight (entry_at b.ioapic g) (x % 2 ^ 32) ∙ rw (h, level.1) in
            let u : vector_of (store_low20 (entry_at b.ioapic g) (x % 2 ^ 32)).word ≡ vector_of (x % 2 ^ 32) = ap (λ (n : ℕ). record { 0 = n }) a.vector in
            rw (i, j, h) (ap (λ (z : Vector). not (trace z b.apic)) u)

    -- of the EOI register, with the entry's vector: the entry is sent again, or at rest
    ends_own : x % 2 ^ 8 ≡ v.0 → (awaits v (entry_at (end_of_every b.ioapic (record { 0 = x % 2 ^ 32 % 2 ^ 8 })).state g) ≡ true → Goal (eoi_written (end_of_every b.ioapic (record { 0 = x % 2 ^ 32 % 2 ^ 8 }))))
        → mending ≡ true → Goal (eoi_written (end_of_every b.ioapic (record { 0 = x % 2 ^ 32 % 2 ^ 8 })))
    ends_own i s m = go (awaits v (entry_at (end_of_every b.ioapic u).state g)) refl
      where
        u : Vector
        u = record { 0 = x % 2 ^ 32 % 2 ^ 8 }

        or_true : (a : Bool) → not (a || true) ≡ false
        or_true true = refl
        or_true false = refl

        alike : Alike (end_each_in_table u (entry_at b.ioapic g)).word (entry_at b.ioapic g).word
        alike = each (awaits u (entry_at b.ioapic g))
          where
            each : (c : Bool) → Alike (cond c (end_entry20 (entry_at b.ioapic g)).entry (entry_at b.ioapic g)).word (entry_at b.ioapic g).word
            each true = end_alike (entry_at b.ioapic g) (end_entry20 (entry_at b.ioapic g)) (over_view20 (entry_at b.ioapic g))
            each false = alike_refl (entry_at b.ioapic g).word

        vector : has_vector (entry_at (end_of_every b.ioapic u).state g).word v ≡ true
        vector = ap (λ (f : Entry). has_vector f.word v) (every_at b.ioapic u k.chip.agrees g) ∙ same_vector alike v ∙ (awaiting v (entry_at b.ioapic g) flies).vector

        go : (c : Bool) → awaits v (entry_at (end_of_every b.ioapic u).state g) ≡ c → Goal (eoi_written (end_of_every b.ioapic u))
        go true w = s w
        go false w = landed v (entry_at (end_of_every b.ioapic u).state g) (requested_by_write b.apic x (eoi_written (end_of_every b.ioapic u)).answer) vector w
            ∙ sym (ap (λ (c : Bool). not (asking (eoi_written (end_of_every b.ioapic u)) || c)) m ∙ or_true (asking (eoi_written (end_of_every b.ioapic u))))

    write_healed : (w : Writing) → Serves b.ioapic addr width x w → (awaits v (entry_at w.state g) ≡ true → (mending ≡ true → asking w ≡ true) → Goal w) → Goal w
    write_healed w (Serves.refused why p r) s = s flies (λ m. never m (passed r (rw p)))
    write_healed w (Serves.selected z p r) s = s flies (λ m. never m (passed r (rw p)))
    write_healed w (Serves.low h r j i f o z) s = go (ℕ_discrete g h)
      where
        go : Dec (g ≡ h) → Goal (entry_written b.ioapic h r)
        go (yes e) =
            let at : entry_at (put b.ioapic h r.entry) g ≡ r.entry = rw e (put_same b.ioapic h r.entry k.chip.agrees.table j) in
            ap (λ (n : Entry). lost_entry n (requested_by_write b.apic x (Ok (written_send r.answer)))) at ∙ own r o f (sym i ∙ sym e) (rw e z)
        go (no e) =
            s (ap (awaits v) (put_other b.ioapic h r.entry g e) ∙ flies)
            (λ m. never m (passed o (rw (f, ne_eqb (entry_of b.ioapic.selector) g (λ n. e (sym n ∙ sym i))))))
    write_healed w (Serves.high h j f o) s = s (high_stays v b.ioapic h (x % 2 ^ 32) g k.chip.agrees j flies) (λ m. never m (passed o (rw f)))
    write_healed w (Serves.eoi f o) s = go (eqb (x % 2 ^ 8) v.0) refl
      where
        u : Vector
        u = record { 0 = x % 2 ^ 32 % 2 ^ 8 }

        is : x % 2 ^ 32 % 2 ^ 8 ≡ x % 2 ^ 8
        is = omega arith

        go : (c : Bool) → eqb (x % 2 ^ 8) v.0 ≡ c → Goal (eoi_written (end_of_every b.ioapic u))
        go true e =
            let i : x % 2 ^ 8 ≡ v.0 = eqb-true (x % 2 ^ 8) v.0 e in
            ends_own i (λ w. s w (λ m. sent w i (asking (eoi_written (end_of_every b.ioapic u))) refl)) (mend o e)
          where
            sent : awaits v (entry_at (end_of_every b.ioapic u).state g) ≡ true → x % 2 ^ 8 ≡ v.0 → (c : Bool) → asking (eoi_written (end_of_every b.ioapic u)) ≡ c → asking (eoi_written (end_of_every b.ioapic u)) ≡ true
            sent w i true e = e
            sent w i false e = absurd ((every_awaits b.ioapic k.chip.agrees u v g l (sym (eoi_asked v b.ioapic x) ∙ e) w).1 (is ∙ i))
        go false e =
            s (every_stays b.ioapic k.chip.agrees u v g (λ i. eqb-false (x % 2 ^ 8) v.0 e (sym is ∙ i)) flies) (λ m. never m (spare f e))

pub healed_exactly : HealedExactly
unfolding outcome set_gsi_level accept_interrupt handle_eoi write_tpr handle_write receive asked mends
healed_exactly b (SetGsiLevel gsi up) g k t l q =
    still b k t g l q (SetGsiLevel gsi up)
    (line_stays (v b k t g l q) b.ioapic gsi up (set_level b.ioapic gsi up) g k.chip.agrees (level_view b.ioapic gsi up) (flies b k t g l q)) (λ m. never m refl)
healed_exactly b AcceptInterrupt g k t l q = still b k t g l q AcceptInterrupt (flies b k t g l q) (λ m. never m refl)
healed_exactly b HandleEoi g k t l q =
    still b k t g l q HandleEoi (eoi_stays (v b k t g l q) b k (untraced b k t g l q) g l (flies b k t g l q)) (λ m. never m refl)
healed_exactly b (WriteTpr x) g k t l q = still b k t g l q (WriteTpr x) (flies b k t g l q) (λ m. never m refl)
healed_exactly b (HandleWrite addr width x) g k t l q =
    write_healed b k t g l q addr width x (handle_writing b.ioapic addr width x) (serves_view b.ioapic addr width x k.version) (still b k t g l q (HandleWrite addr width x))
healed_exactly b (Receive u level) g k t l q = still b k t g l q (Receive u level) (flies b k t g l q) (λ m. never m refl)

pub lost_exactly : LostExactly
lost_exactly cs g l = go (is_level w) refl (remote_irr w) refl
  where
    w : ℕ
    w = (entry_at (run new_board cs).ioapic g).word

    lost : Bool
    lost = lost_over (vector_of w) new_board cs false

    go : (a : Bool) → is_level w ≡ a → (c : Bool) → remote_irr w ≡ c → (is_level w && remote_irr w && not (trace (vector_of w) (run new_board cs).apic)) ≡ (is_level w && remote_irr w && lost)
    go false e c f = rw e
    go true e false f = rw (e, f)
    go true e true f =
        let i : awaits (vector_of w) (entry_at (run new_board cs).ioapic g) ≡ true =
        awaits_yes (vector_of w) (entry_at (run new_board cs).ioapic g) (record { vector = eq-eqb (w % 256) (w % 256) refl; level = e; flight = f }) in
        rw (e, f, runs_exact (vector_of w) cs g l i) (twice lost)

pub stays_lost : StaysLost
unfolding run healed_over
stays_lost b [] g k t l q h = q
stays_lost b (c ∷ cs) g k t l q h =
    let p = or_none (heals g b c) (healed_over g (next b c) cs) h in
    stays_lost (next b c) cs g (calls_keep_rules b c k) (tells_next b c t) l (healed_exactly b c g k t l q ∙ ap not p.0) p.1
  where
    or_none : (x y : Bool) → (x || y) ≡ false → (x ≡ false) × (y ≡ false)
    or_none true y e = never refl e
    or_none false y e = (refl, e)
