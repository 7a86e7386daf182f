-- Demand 3 in version 0x20, and the cure. Assumes nothing.
use Rattle.std.specs.Prelude.{Some, None, Ok}
use Prim.Native.Nat.{ℕ, zero, suc, ◌+◌, ◌-◌, ◌/◌, ◌%◌, ◌^◌, ◌<◌}
use native.Mathlib.Omega.{arith}
use native.Mathlib.Decide.{ℕ_discrete}
use mathlib.Core.Bool.{Bool, true, false, not, cond, ◌&&◌}
use mathlib.Core.List.{List, [], ◌∷◌}
use mathlib.Core.Path.{◌≡◌, refl, sym, ◌∙◌, ap}
use borrow.Author.Tests.{eq-eqb, ne_eqb, eqb-true, le-leb}
use lib.Dec.{eqb, leb}
use lib.ListN.{length, length-set, replicate}
use Rattle.utils.specs.Set.{bit, set_of}
use Rattle.utils.proofs.Laws.{bit_set_of, bit_above}
use Rattle.utils.proofs.Bools.{never, not_is, and_true, and-false}
use Rattle.types.specs.Reply.{Outcome}
use Rattle.types.specs.declared.Vector.{Vector}
use Rattle.vioapic_entry.specs.Answers.{is_routed}
use Rattle.vioapic.specs.Answers.{eoi_reply, written_reply}
use Rattle.vioapic_entry.specs.Redirection.{EntryStep, vector_of, is_fixed, is_deliverable, is_fit, is_level, is_masked, remote_irr, awaits, end_entry20}
use Rattle.vioapic.specs.Table.{Ending, is_version20, entry_at, put, set_level, every_answer, end_of_every, end_of}
use Rattle.vioapic.specs.Agreement.{Agrees, end_each_in_table, sent_in_table, end_of_every_in_table}
use Rattle.vioapic.proofs.Every.{every_in_table}
use Rattle.vioapic.proofs.Agree.{calls_agree}
use Rattle.vioapic.specs.Registers.{written_by, write_eoi, write_at}
use Rattle.vioapic.specs.IoApic.{good_width, chip_of, set_gsi_level, assert_gsi, end_of_interrupt, handle_write}
use Rattle.vioapic.specs.Calls.{Call, SetGsiLevel, AssertGsi, EndOfInterrupt, VectorForGsi, AddressRange, HandleRead, HandleWrite, outcome, next, run}
use Rattle.vioapic_entry.specs.declared.Entry.{Entry}
use Rattle.vioapic.specs.State.{IoApicState}
use Rattle.vioapic.specs.declared.Eoi.TheVariants.{EndedAll}
use Rattle.vioapic_theorems.specs.Sends.{resends, write_sends, sent, sends}
use Rattle.vioapic_theorems.specs.Premises.{all_true, always, line_up, asks, throughout}
use Rattle.vioapic_theorems.specs.Heard20.{is_eoi_at, eois_at, again, EveryEnded, unmasked, keeps, held_up, own_eoi, stays_level, asks_at_eoi, own_eois, SentAtItsEois, Heard20, Demand3Of20, waits, BothSent, sent_at_eoi, BothHeard, NeverStarved}
use Rattle.vioapic_entry.proofs.Fields.{same_fit, same_level, alike_without, irr_without}
use Rattle.vioapic_theorems.proofs.Views.{Sent, Over, over_view20, level_view, Writes, Write, write_view}
use Rattle.vioapic_theorems.proofs.Steps.{implied, imply, one, awaiting, awaits_yes, awaits_no, grounded, Flying, end_again, end_input, end_pending, wrote_aloft}
use Rattle.vioapic_theorems.proofs.Tables.{put_same, every_at, every_size}
use Rattle.vioapic_theorems.proofs.Keeps.{runs_keep_rules, new_keeps_rules, calls_keep_version, call_is_version20, run_is_version20}
use Rattle.vioapic_theorems.proofs.Quiet.{Aloft, Unmoved, idle, only, at_replaced, level_idle, assert_idle, Going, aloft, writes_nothing, writes_refused, writes_window, begins}

-- ---- an entry's end

-- an entry in flight is sent again exactly if it is fit and asks, and then it flies again
ends_again : (v : Vector) (e : Entry) (r : EntryStep) → Over e r → awaits v e ≡ true
    → (is_routed r.answer ≡ (is_fit e.word && asks e)) × (awaits v r.entry ≡ (is_fit e.word && asks e))
ends_again v e r (Over.resent b a c (Sent.unfit p)) h =
    let f : is_fit e.word ≡ false = sym (same_fit (alike_without e.word)) ∙ p in
    (rw f, rw f (grounded v r.entry (irr_without e.word)))
ends_again v e r (Over.resent b a c (Sent.edge p q)) h = never (same_level (alike_without e.word) ∙ (awaiting v e h).level) q
ends_again v e r (Over.resent b a c (Sent.later p q i)) h = never i (irr_without e.word)
ends_again v e r (Over.resent b a c (Sent.fresh p q i)) h =
    let f : is_fit e.word ≡ true = sym (same_fit (alike_without e.word)) ∙ p in
    let t : (is_fit e.word && asks e) ≡ true = rw (f, a) in
    (sym t, (end_again v e r (Over.resent b a c (Sent.fresh p q i)) (record { fly = h; fit = f }) a).0.fly ∙ sym t)
ends_again v e r (Over.rested a) h =
    let t : (is_fit e.word && asks e) ≡ false = rw a (and-false (is_fit e.word)) in
    (sym t, grounded v r.entry (irr_without e.word) ∙ sym t)

module _ (v : Vector) (e : Entry) where
  each_sent : (awaits v e && is_routed (end_entry20 e).answer) ≡ again v e
  each_sent = go (awaits v e) refl
    where
      go : (b : Bool) → awaits v e ≡ b → (b && is_routed (end_entry20 e).answer) ≡ (b && (is_fit e.word && asks e))
      go true p = (ends_again v e (end_entry20 e) (over_view20 e) p).0
      go false p = refl

  each_awaits : awaits v (end_each_in_table v e) ≡ again v e
  each_awaits = go (awaits v e) refl
    where
      go : (b : Bool) → awaits v e ≡ b → awaits v (cond b (end_entry20 e).entry e) ≡ (b && (is_fit e.word && asks e))
      go true p = (ends_again v e (end_entry20 e) (over_view20 e) p).1
      go false p = p

  each_pending : awaits v e ≡ true → (end_each_in_table v e).pending_level ≡ false
  each_pending p = rw p (end_pending e)

  pub each_input : (end_each_in_table v e).input_level ≡ e.input_level
  each_input = go (awaits v e)
    where
      go : (b : Bool) → (cond b (end_entry20 e).entry e).input_level ≡ e.input_level
      go true = end_input e (end_entry20 e) (over_view20 e)
      go false = refl

  -- an entry that flies and asks flies on
  each_flies : Flying v e → asks e ≡ true → Flying v (end_each_in_table v e)
  each_flies k a = rw k.fly (end_again v e (end_entry20 e) (over_view20 e) k a).0

-- ---- an EOI's answer

answer_sent : (cleared named g : ℕ) (b : Bool) → bit named g ≡ b → (cleared ≡ 0 → b ≡ false)
    → (resends g (eoi_reply (every_answer cleared named)) ≡ cond b 1 0) × (resends g (written_reply (Ok (written_by (every_answer cleared named)))) ≡ cond b 1 0)
answer_sent cleared named g b p z = go (eqb cleared 0) refl
  where
    go : (a : Bool) → eqb cleared 0 ≡ a
        → (resends g (eoi_reply (cond a None (Some (EndedAll (record { cleared = cleared; sent = named }))))) ≡ cond b 1 0)
        × (resends g (written_reply (Ok (written_by (cond a None (Some (EndedAll (record { cleared = cleared; sent = named }))))))) ≡ cond b 1 0)
    go true e = let y : b ≡ false = z (eqb-true cleared 0 e) in rw y (refl, refl)
    go false e = rw p (refl, refl)

-- it names those entries that are sent again
every_sent : (s : IoApicState) (v : Vector) (g : ℕ) → Agrees s → g < 24
    → (resends g (eoi_reply (end_of_every s v).answer) ≡ cond (again v (entry_at s g)) 1 0) × (resends g (written_reply (Ok (written_by (end_of_every s v).answer))) ≡ cond (again v (entry_at s g)) 1 0)
unfolding end_of_every_in_table
every_sent s v g a l =
    rw (every_in_table s v a)
    (answer_sent (set_of 24 (cleared_by v s)) (set_of 24 (sent_in_table v s)) g (again v (entry_at s g)) (bit_set_of 24 (sent_in_table v s) g l ∙ each_sent v (entry_at s g)) none)
  where
    cleared_by : Vector → IoApicState → ℕ → Bool
    cleared_by u t k = awaits u (entry_at t k)

    none : set_of 24 (cleared_by v s) ≡ 0 → again v (entry_at s g) ≡ false
    none z =
        let p : awaits v (entry_at s g) ≡ false = sym (bit_set_of 24 (cleared_by v s) g l) ∙ ap (λ (n : ℕ). bit n g) z ∙ bit_above 0 0 g (omega arith) (omega arith) in
        rw p

-- ---- either road

pub record Ended (m : IoApicState) (c : Call) (v : Vector) : Type 0 where
  pub after : next m c ≡ (end_of_every m v).state
  pub reply : (g : ℕ) → g < 24 → sent g m c (outcome m c).reply ≡ cond (again v (entry_at m g)) 1 0

by_call : (m : IoApicState) (v : Vector) → is_version20 m ≡ true → Agrees m → Ended m (EndOfInterrupt v) v
unfolding outcome end_of_interrupt end_of sent
by_call m v n a =
    let e : end_of m v ≡ end_of_every m v = rw n in
    record { after = ap (λ (x : Ending). x.state) e; reply = λ g l. ap (λ (x : Ending). resends g (eoi_reply x.answer)) e ∙ (every_sent m v g a l).0 }

by_write : (m : IoApicState) (addr width x : ℕ) → is_version20 m ≡ true → Agrees m → good_width width ≡ true → addr ≡ m.base + 0x40 → Ended m (HandleWrite addr width x) (record { 0 = x % 2 ^ 8 })
unfolding outcome handle_write write_at write_eoi sent
by_write m addr width x n a p e =
    let q : leb m.base addr ≡ true = le-leb m.base addr (omega arith) in
    let o : addr - m.base ≡ 0x40 = omega arith in
    let y : x % 2 ^ 32 % 2 ^ 8 ≡ x % 2 ^ 8 = omega arith in
    let u : Vector = record { 0 = x % 2 ^ 8 } in
    let away : eqb addr (m.base + 0x10) ≡ false = ne_eqb addr (m.base + 0x10) (omega arith) in
    let w : handle_write m addr width x ≡ record { state = (end_of_every m u).state; reply = written_reply (Ok (written_by (end_of_every m u).answer)) } = rw (p, q, o, n, y) in
    record {
      after = ap (λ (r : Outcome IoApicState). r.state) w;
      reply = λ g l. rw away (ap (λ (r : Outcome IoApicState). resends g r.reply) w ∙ (every_sent m u g a l).1);
    }

pub is_eoi_lem : (m : IoApicState) (v : Vector) (c : Call) → is_version20 m ≡ true → Agrees m → is_eoi_at m.base v c ≡ true → Ended m c v
is_eoi_lem m v (EndOfInterrupt u) n ag h =
    let e : u ≡ v = ap (λ (k : ℕ). record { 0 = k }) (eqb-true u.0 v.0 h) in
    rw e (by_call m v n ag)
is_eoi_lem m v (HandleWrite addr width x) n ag h =
    let p = and_true (good_width width && eqb addr (m.base + 0x40)) (eqb (x % 2 ^ 8) v.0) h in
    let q = and_true (good_width width) (eqb addr (m.base + 0x40)) p.0 in
    let e : record { 0 = x % 2 ^ 8 } ≡ v = ap (λ (k : ℕ). record { 0 = k }) (eqb-true (x % 2 ^ 8) v.0 p.1) in
    rw (← e) (by_write m addr width x n ag q.0 (eqb-true addr (m.base + 0x40) q.1))
is_eoi_lem m v (SetGsiLevel gsi b) n ag h = never h refl
is_eoi_lem m v (AssertGsi gsi) n ag h = never h refl
is_eoi_lem m v (VectorForGsi gsi) n ag h = never h refl
is_eoi_lem m v AddressRange n ag h = never h refl
is_eoi_lem m v (HandleRead addr width) n ag h = never h refl

pub every_ended : EveryEnded
every_ended m g v c n ag l h =
    let t = is_eoi_lem m v c n ag h in
    let at : entry_at (next m c) g ≡ end_each_in_table v (entry_at m g) = ap (λ (s : IoApicState). entry_at s g) t.after ∙ every_at m v ag g in
    (t.reply g l, rw at (each_awaits v (entry_at m g)), λ a. rw at (each_pending v (entry_at m g) a))

-- ---- a call's part in the count

record Turn (g : ℕ) (m : IoApicState) (c : Call) : Type 0 where
  aloft : Aloft g (next m c)
  count : sent g m c (outcome m c).reply ≡ cond (own_eoi g m c) 1 0

-- a call that is no EOI of the entry's vector, and leaves its register
passes : (g : ℕ) (m : IoApicState) (c : Call) → Aloft g m → Unmoved g m c → own_eoi g m c ≡ false → Turn g m c
passes g m c k u i =
    record {
      aloft = record { size = u.size; within = k.within; level = rw u.word k.level; flight = rw u.word k.flight };
      count = rw i u.unsent;
    }

-- an EOI of its vector sends it if it is fit and asks, and one of another vector leaves it as it is
eoi_turn : (g : ℕ) (m : IoApicState) (c : Call) (u : Vector) → Agrees m → Aloft g m → Ended m c u
    → own_eoi g m c ≡ eqb u.0 ((entry_at m g).word % 2 ^ 8) → (own_eoi g m c ≡ true → (is_fit (entry_at m g).word && asks (entry_at m g)) ≡ true) → Turn g m c
eoi_turn g m c u ag k t i h = go (ℕ_discrete u.0 ((entry_at m g).word % 2 ^ 8))
  where
    e : Entry
    e = entry_at m g

    at : entry_at (next m c) g ≡ end_each_in_table u e
    at = ap (λ (s : IoApicState). entry_at s g) t.after ∙ every_at m u ag g

    long : length (next m c).entries ≡ 24
    long = ap (λ (s : IoApicState). length s.entries) t.after ∙ every_size m u ag ∙ k.size

    go : Dec (u.0 ≡ (entry_at m g).word % 2 ^ 8) → Turn g m c
    go (yes p) =
        let own : own_eoi g m c ≡ true = i ∙ eq-eqb u.0 (e.word % 2 ^ 8) p in
        let a : awaits u e ≡ true = awaits_yes u e (record { vector = eq-eqb (e.word % 2 ^ 8) u.0 (sym p); level = k.level; flight = k.flight }) in
        let b : again u e ≡ true = rw (a, h own) in
        let f = awaiting u (end_each_in_table u e) (each_awaits u e ∙ b) in
        record {
          aloft = record { size = long; within = k.within; level = rw at f.level; flight = rw at f.flight };
          count = t.reply g k.within ∙ rw (b, own);
        }
    go (no p) =
        let own : own_eoi g m c ≡ false = i ∙ ne_eqb u.0 (e.word % 2 ^ 8) p in
        let b : awaits u e ≡ false = awaits_no u e (λ a. p (sym (eqb-true (e.word % 2 ^ 8) u.0 a.vector))) in
        record {
          aloft = record { size = long; within = k.within; level = rw at (rw b k.level); flight = rw at (rw b k.flight) };
          count = t.reply g k.within ∙ rw (b, own);
        }

-- a write that is no EOI
word_turn : (g : ℕ) (m : IoApicState) (c : Call) (addr width x : ℕ) (o : Outcome IoApicState) → is_version20 m ≡ true → Aloft g m → stays_level g m c ≡ true
    → (good_width width && eqb addr (m.base + 0x40)) ≡ false → own_eoi g m c ≡ false
    → Write m addr width x o → outcome m c ≡ o → sent g m c (outcome m c).reply ≡ write_sends g m addr o.reply → Turn g m c
word_turn g m c addr width x o n k d away i (Write.refused why) q z = passes g m c k (idle g m c k (ap (λ (r : Outcome IoApicState). r.state.entries) q) (z ∙ writes_refused g m addr why)) i
word_turn g m c addr width x o n k d away i (Write.served p l (Writes.selected y)) q z = passes g m c k (idle g m c k (ap (λ (r : Outcome IoApicState). r.state.entries) q) (z ∙ writes_nothing g m addr)) i
word_turn g m c addr width x o n k d away i (Write.served p l (Writes.eoi j e)) q z = never (rw (p, eq-eqb addr (m.base + 0x40) (omega arith))) away
word_turn g m c addr width x o n k d away i (Write.served p l (Writes.word h r b j e u)) q z =
    record {
      aloft = record { size = ap (λ (s : IoApicState). length s.entries) at ∙ length-set m.entries h r.entry ∙ k.size; within = k.within; level = d; flight = flies };
      count = z ∙ writes_window g m addr h r.answer l e j ∙ only h g (one r.answer) (λ y. (mine y).1) ∙ sym (ap (λ (b : Bool). cond b 1 0) i);
    }
  where
    at : next m c ≡ put m h r.entry
    at = ap (λ (y : Outcome IoApicState). y.state) q

    mine : h ≡ g → (remote_irr r.entry.word ≡ true) × (one r.answer ≡ 0)
    mine y =
        let own : entry_at (next m c) g ≡ r.entry = ap (λ (s : IoApicState). entry_at s g) at ∙ ap (entry_at (put m h r.entry)) (sym y) ∙ put_same m h r.entry k.size b in
        wrote_aloft (is_version20 m) (entry_at m h) (x % 2 ^ 32) r n u (rw y k.flight) (ap (λ (f : Entry). is_level f.word) (sym own) ∙ d)

    flies : remote_irr (entry_at (next m c) g).word ≡ true
    flies =
        ap (λ (s : IoApicState). remote_irr (entry_at s g).word) at
        ∙ at_replaced (λ f. remote_irr f.word ≡ true) g m h r.entry k.size b (λ y. (mine y).0) k.flight

turn : (g : ℕ) (m : IoApicState) (c : Call) → is_version20 m ≡ true → Agrees m → Aloft g m → stays_level g m c ≡ true
    → (own_eoi g m c ≡ true → (is_fit (entry_at m g).word && asks (entry_at m g)) ≡ true) → Turn g m c
unfolding outcome set_gsi_level assert_gsi sent
turn g m (SetGsiLevel gsi b) n ag k d a = passes g m (SetGsiLevel gsi b) k (level_idle g m gsi b k) refl
turn g m (AssertGsi gsi) n ag k d a = passes g m (AssertGsi gsi) k (assert_idle g m gsi k) refl
turn g m (EndOfInterrupt w) n ag k d a = eoi_turn g m (EndOfInterrupt w) w ag k (by_call m w n ag) refl a
turn g m (VectorForGsi gsi) n ag k d a = passes g m (VectorForGsi gsi) k (idle g m (VectorForGsi gsi) k refl refl) refl
turn g m AddressRange n ag k d a = passes g m AddressRange k (idle g m AddressRange k refl refl) refl
turn g m (HandleRead addr width) n ag k d a = passes g m (HandleRead addr width) k (idle g m (HandleRead addr width) k refl refl) refl
turn g m (HandleWrite addr width x) n ag k d a = go (good_width width && eqb addr (m.base + 0x40)) refl
  where
    go : (b : Bool) → (good_width width && eqb addr (m.base + 0x40)) ≡ b → Turn g m (HandleWrite addr width x)
    go true p =
        let q = and_true (good_width width) (eqb addr (m.base + 0x40)) p in
        eoi_turn g m (HandleWrite addr width x) (record { 0 = x % 2 ^ 8 }) ag k (by_write m addr width x n ag q.0 (eqb-true addr (m.base + 0x40) q.1)) (rw p) a
    go false p = word_turn g m (HandleWrite addr width x) addr width x (handle_write m addr width x) n k d p (rw p) (write_view m addr width x) refl refl

-- ---- a run

turns : (g : ℕ) (m : IoApicState) (cs : List Call) → is_version20 m ≡ true → Agrees m → Aloft g m → throughout (λ n c. stays_level g n c ∷ asks_at_eoi g n c ∷ []) m cs ≡ true → sends g m cs ≡ own_eois g m cs
unfolding sends own_eois throughout
turns g m [] n ag k h = refl
turns g m (c ∷ cs) n ag k h =
    let p = and_true (stays_level g m c && (asks_at_eoi g m c && true)) (throughout (λ n c. stays_level g n c ∷ asks_at_eoi g n c ∷ []) (next m c) cs) h in
    let q = and_true (stays_level g m c) (asks_at_eoi g m c && true) p.0 in
    let r = and_true (asks_at_eoi g m c) true q.1 in
    let t = turn g m c n ag k q.0 (implied (own_eoi g m c) (is_fit (entry_at m g).word && asks (entry_at m g)) r.0) in
    rw (t.count, turns g (next m c) cs (call_is_version20 m c ∙ n) (calls_agree m c ag) t.aloft p.1)

pub sent_at_its_eois : SentAtItsEois
sent_at_its_eois m g cs n ag l a b h = turns g m cs n ag (record { size = ag.table; within = l; level = a; flight = b }) h

-- ---- the demand's premises

record Held (g : ℕ) (m : IoApicState) (c : Call) : Type 0 where
  up : line_up g m ≡ true
  alike : is_fit (entry_at m g).word ≡ true → is_fit (entry_at (next m c) g).word ≡ true
  vector : (entry_at (next m c) g).word % 2 ^ 8 ≡ (entry_at m g).word % 2 ^ 8
  level : is_level (entry_at (next m c) g).word ≡ is_level (entry_at m g).word

held_up_lem : (g : ℕ) (m : IoApicState) (c : Call) → all_true (held_up g m c) ≡ true → Held g m c
held_up_lem g m c h =
    let w : ℕ = (entry_at m g).word in
    let y : ℕ = (entry_at (next m c) g).word in
    let p = and_true (always (line_up g) m c) (always (unmasked g) m c && (keeps (λ w. w % 2 ^ 8) g m c && (keeps (λ w. w / 2 ^ 8 % 8) g m c && (keeps (λ w. w / 2 ^ 15 % 2) g m c && true)))) h in
    let q = and_true (always (unmasked g) m c) (keeps (λ w. w % 2 ^ 8) g m c && (keeps (λ w. w / 2 ^ 8 % 8) g m c && (keeps (λ w. w / 2 ^ 15 % 2) g m c && true))) p.1 in
    let r = and_true (keeps (λ w. w % 2 ^ 8) g m c) (keeps (λ w. w / 2 ^ 8 % 8) g m c && (keeps (λ w. w / 2 ^ 15 % 2) g m c && true)) q.1 in
    let s = and_true (keeps (λ w. w / 2 ^ 8 % 8) g m c) (keeps (λ w. w / 2 ^ 15 % 2) g m c && true) r.1 in
    let t = and_true (keeps (λ w. w / 2 ^ 15 % 2) g m c) true s.1 in
    let v : y % 2 ^ 8 ≡ w % 2 ^ 8 = eqb-true _ _ r.0 in
    let d : y / 2 ^ 8 % 8 ≡ w / 2 ^ 8 % 8 = eqb-true _ _ s.0 in
    let l : y / 2 ^ 15 % 2 ≡ w / 2 ^ 15 % 2 = eqb-true _ _ t.0 in
    let u : is_masked y ≡ false = not_is (is_masked y) (and_true (unmasked g m) (unmasked g (next m c)) q.0).1 in
    record {
      up = (and_true (line_up g m) (line_up g (next m c)) p.0).0;
      alike = λ f.
          let a = and_true (not (is_masked w) && is_fixed w) (is_deliverable w) f in
          rw (u, d, v, (and_true (not (is_masked w)) (is_fixed w) a.0).1, a.1);
      vector = v;
      level = rw l;
    }

-- with them entry g goes on with v, fit, and is sent at each EOI of v
record HeldTurn (v : Vector) (g : ℕ) (m : IoApicState) (c : Call) : Type 0 where
  going : Going v g (next m c)
  count : sent g m c (outcome m c).reply ≡ cond (is_eoi_at m.base v c) 1 0

held_turn : (v : Vector) (g : ℕ) (m : IoApicState) (c : Call) → is_version20 m ≡ true → Agrees m → Going v g m → all_true (held_up g m c) ≡ true → HeldTurn v g m c
held_turn v g m c n ag k h =
    let d = held_up_lem g m c h in
    let a = awaiting v (entry_at m g) k.on.fly in
    let x : (entry_at m g).word % 2 ^ 8 ≡ v.0 = eqb-true _ _ a.vector in
    let i : vector_of (entry_at m g).word ≡ v = ap (λ (y : ℕ). record { 0 = y }) x in
    let t = turn g m c n ag (aloft v g m k) (d.level ∙ a.level) (λ o. rw (k.on.fit, d.up)) in
    record {
      going = record {
        size = t.aloft.size;
        within = k.within;
        on = record {
          fly = awaits_yes v (entry_at (next m c) g) (record { vector = eq-eqb _ _ (d.vector ∙ x); level = t.aloft.level; flight = t.aloft.flight });
          fit = d.alike k.on.fit;
        };
      };
      count = t.count ∙ ap (λ (u : Vector). cond (is_eoi_at m.base u c) 1 0) i;
    }

first_held : (g : ℕ) (m : IoApicState) (c : Call) (cs : List Call) → throughout (held_up g) m (c ∷ cs) ≡ true → (all_true (held_up g m c) ≡ true) × (throughout (held_up g) (next m c) cs ≡ true)
unfolding throughout
first_held g m c cs h = and_true (all_true (held_up g m c)) (throughout (held_up g) (next m c) cs) h

held_turns : (v : Vector) (g : ℕ) (m : IoApicState) (cs : List Call) → is_version20 m ≡ true → Agrees m → Going v g m → throughout (held_up g) m cs ≡ true → sends g m cs ≡ eois_at m.base v cs
unfolding sends eois_at
held_turns v g m [] n ag k h = refl
held_turns v g m (c ∷ cs) n ag k h =
    let p = first_held g m c cs h in
    let t = held_turn v g m c n ag k p.0 in
    let rest : sends g (next m c) cs ≡ eois_at m.base v cs = held_turns v g (next m c) cs (call_is_version20 m c ∙ n) (calls_agree m c ag) t.going p.1 ∙ ap (λ (b : ℕ). eois_at b v cs) (calls_keep_version m c).1 in
    rw (t.count, rest)

pub heard_20 : Heard20
unfolding sends sent outcome set_gsi_level
heard_20 m g v after n l q h =
    let k = begins m g v (set_level m g true) l.table (level_view m g true) q in
    let t = held_turns v g.0 (next m (SetGsiLevel g true)) after (call_is_version20 m (SetGsiLevel g true) ∙ n) (calls_agree m (SetGsiLevel g true) l) k h in
    rw (eq-eqb g.0 g.0 refl, q, t, (calls_keep_version m (SetGsiLevel g true)).1)

pub demand_3_of_20 : Demand3Of20
demand_3_of_20 base size before after g v q h =
    heard_20 (run (chip_of 0x20 base size) before) g v after (run_is_version20 (chip_of 0x20 base size) before) (runs_keep_rules (chip_of 0x20 base size) before (new_keeps_rules 0x20 base size)).agrees q h

-- ---- the cure

-- an entry that waits asks, and is sent again
waiting : (v : Vector) (e : Entry) → waits v e ≡ true → (again v e ≡ true) × Flying v e × (e.input_level ≡ true)
waiting v e h =
    let p = and_true (awaits v e) (is_fit e.word && e.input_level) h in
    let q = and_true (is_fit e.word) e.input_level p.1 in
    let a : asks e ≡ true = rw q.1 in
    (rw (p.0, q.0, a), record { fly = p.0; fit = q.0 }, q.1)

pub both_sent : BothSent
both_sent m g h v c n ag i j a b o =
    ((every_ended m g v c n ag i o).0 ∙ rw (waiting v (entry_at m g) a).0, (every_ended m h v c n ag j o).0 ∙ rw (waiting v (entry_at m h) b).0)

turn_sent : (v : Vector) (g : ℕ) (m : IoApicState) (c : Call) → HeldTurn v g m c → sent_at_eoi v g m c ≡ true
turn_sent v g m c t = imply (is_eoi_at m.base v c) (eqb (sent g m c (outcome m c).reply) 1) (λ i. eq-eqb (sent g m c (outcome m c).reply) 1 (t.count ∙ rw i))

both_turns : (m : IoApicState) (g h : ℕ) (v : Vector) (cs : List Call) → is_version20 m ≡ true → Agrees m → Going v g m → Going v h m
    → throughout (held_up g) m cs ≡ true → throughout (held_up h) m cs ≡ true → throughout (λ n c. sent_at_eoi v g n c ∷ sent_at_eoi v h n c ∷ []) m cs ≡ true
unfolding throughout
both_turns m g h v [] n ag k l a b = refl
both_turns m g h v (c ∷ cs) n ag k l a b =
    let p = first_held g m c cs a in
    let q = first_held h m c cs b in
    let t = held_turn v g m c n ag k p.0 in
    let u = held_turn v h m c n ag l q.0 in
    rw (turn_sent v g m c t, turn_sent v h m c u) (both_turns (next m c) g h v cs (call_is_version20 m c ∙ n) (calls_agree m c ag) t.going u.going p.1 q.1)

pub both_heard : BothHeard
both_heard m g h v cs n s i j a b =
    both_turns m g h v cs n s (record { size = s.table; within = i; on = (waiting v (entry_at m g) a).1 }) (record { size = s.table; within = j; on = (waiting v (entry_at m h) b).1 })

-- an EOI leaves such an entry so
unstarved : (n : ℕ) (v : Vector) (g : ℕ) (m : IoApicState) → is_version20 m ≡ true → Agrees m → g < 24 → waits v (entry_at m g) ≡ true → sends g m (replicate n (EndOfInterrupt v)) ≡ n
unfolding sends
unstarved zero v g m i ag l w = refl
unstarved (suc n) v g m i ag l w =
    let k = waiting v (entry_at m g) w in
    let e = by_call m v i ag in
    let one : sent g m (EndOfInterrupt v) (outcome m (EndOfInterrupt v)).reply ≡ 1 = e.reply g l ∙ rw k.0 in
    let at : entry_at (next m (EndOfInterrupt v)) g ≡ end_each_in_table v (entry_at m g) = ap (λ (s : IoApicState). entry_at s g) e.after ∙ every_at m v ag g in
    let a : asks (entry_at m g) ≡ true = rw k.2 in
    let f = each_flies v (entry_at m g) k.1 a in
    let up : (end_each_in_table v (entry_at m g)).input_level ≡ true = each_input v (entry_at m g) ∙ k.2 in
    let still : waits v (entry_at (next m (EndOfInterrupt v)) g) ≡ true = rw at (rw (f.fly, f.fit, up)) in
    rw (one, unstarved n v g (next m (EndOfInterrupt v)) (call_is_version20 m (EndOfInterrupt v) ∙ i) (calls_agree m (EndOfInterrupt v) ag) l still) (omega arith)

pub never_starved : NeverStarved
never_starved m h g v n i k l w a b = (unstarved n v h m i k.agrees (omega arith) a, unstarved n v g m i k.agrees w b)
