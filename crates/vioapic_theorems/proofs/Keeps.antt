-- The chip's rules are kept by every public call, refused calls hand the chip back, and a selector names an entry of the table. Assumes nothing.
use Rattle.std.specs.Prelude.{Option, Some, None, Ok}
use Prim.Native.Nat.{ℕ, zero, suc, ◌%◌, ◌-◌, ◌<◌}
use native.Mathlib.Omega.{arith}
use native.Mathlib.Decide.{ℕ_discrete}
use mathlib.Core.Bool.{Bool, true, false, cond, ◌&&◌, ◌||◌}
use mathlib.Core.List.{List, [], ◌∷◌}
use mathlib.Core.Path.{◌≡◌, refl, sym, ◌∙◌, ap}
use lib.Dec.{eqb}
use lib.ListN.{get_or, replicate}
use Rattle.utils.proofs.Bools.{never, and_true}
use Rattle.types.specs.Reply.{reply_number, Outcome}
use Rattle.types.specs.declared.Gsi.{Gsi}
use Rattle.types.specs.declared.Vector.{Vector}
use Rattle.vioapic_entry.specs.Answers.{routed_reply}
use Rattle.vioapic.specs.Answers.{eoi_reply, written_reply}
use Rattle.vioapic_entry.specs.Redirection.{EntryStep, is_fit, is_level, remote_irr, with_input, without_remote_irr, send_entry, move_line, awaits, end_entry, end_entry20, store_low20}
use Rattle.vioapic.specs.Table.{Routing, Ending, new_entry, no_entry, entry_at, put, interrupt_for_entry, set_level, is_version20, first_awaiting, end_of_every, end_of}
use Rattle.vioapic.specs.Agreement.{Agrees, end_each_in_table}
use Rattle.vioapic.specs.Registers.{Writing, written_send, written_by}
use Rattle.vioapic.specs.IoApic.{set_gsi_level, assert_gsi, end_of_interrupt, handle_write}
use Rattle.vioapic.specs.Calls.{Call, SetGsiLevel, AssertGsi, EndOfInterrupt, VectorForGsi, AddressRange, HandleRead, HandleWrite, outcome, next, run}
use Rattle.vioapic_entry.specs.declared.Entry.{Entry}
use Rattle.vioapic_entry.specs.declared.IoApicInterrupt.{IoApicInterrupt}
use Rattle.vioapic.specs.declared.Eoi.{Eoi}
use Rattle.vioapic.specs.declared.Eoi.TheVariants.{Ended, EndedAll}
use Rattle.vioapic.specs.State.{IoApicState}
use Rattle.vioapic_theorems.specs.Rules.{implies, entry_rules, ChipRules, NewKeepsRules, CallsKeepRules, RunsKeepRules, CallsKeepVersion, RefusedKeeps, TableIndex}
use Rattle.vioapic_entry.proofs.Fields.{same_fit, same_level, alike_with, alike_without, alike_high, irr_with, irr_without, irr_low, irr_high}
use Rattle.vioapic_theorems.proofs.Steps.{implied, imply, end_pending, same_trigger, stored_alike, stored_flight, stored_pending}
use Rattle.vioapic_theorems.proofs.Tables.{put_same, put_other, every_at}
use Rattle.vioapic.proofs.Flight.{put_agrees}
use Rattle.vioapic.proofs.Agree.{new_agrees, every_ended}
use Rattle.vioapic_theorems.proofs.Views.{Sent, sent_view, Raised, Moved, moved_view, Over, over_view, over_view20, Stored, Wrote, Routes, assert_view, level_view, Ends, EndsBy, ends_by, Writes, Write, write_view}

-- ---- the rules of one entry

pub record Rules (n : Bool) (e : Entry) : Type 0 where
  pub deferred : e.pending_level ≡ true → remote_irr e.word ≡ true
  pub level : remote_irr e.word ≡ true → is_level e.word ≡ true
  pub fit : n ≡ false → remote_irr e.word ≡ true → is_fit e.word ≡ true

pub rules_of : (n : Bool) (e : Entry) → entry_rules n e ≡ true → Rules n e
rules_of n e h =
    let p = and_true (implies e.pending_level (remote_irr e.word)) (implies (remote_irr e.word) (is_level e.word && (n || is_fit e.word))) h in
    record {
      deferred = implied e.pending_level (remote_irr e.word) p.0;
      level = λ i. (and_true (is_level e.word) (n || is_fit e.word) (implied (remote_irr e.word) (is_level e.word && (n || is_fit e.word)) p.1 i)).0;
      fit = λ o i. second n (is_fit e.word) o (and_true (is_level e.word) (n || is_fit e.word) (implied (remote_irr e.word) (is_level e.word && (n || is_fit e.word)) p.1 i)).1;
    }
  where
    second : (a b : Bool) → a ≡ false → (a || b) ≡ true → b ≡ true
    second true b o h = never refl o
    second false b o h = h

of_rules : (n : Bool) (e : Entry) → Rules n e → entry_rules n e ≡ true
of_rules n e r =
    rw (imply e.pending_level (remote_irr e.word) r.deferred) (imply (remote_irr e.word) (is_level e.word && (n || is_fit e.word)) (λ i. rw (r.level i) (go n refl i)))
  where
    go : (b : Bool) → n ≡ b → remote_irr e.word ≡ true → (b || is_fit e.word) ≡ true
    go true o i = refl
    go false o i = r.fit o i

module _ (n : Bool) where
  send_rules : (e : Entry) (r : EntryStep) → Sent e r → Rules n e → Rules n r.entry
  send_rules e r (Sent.unfit p) k = k
  send_rules e r (Sent.edge p q) k = k
  send_rules e r (Sent.later p q i) k = record { deferred = λ h. i; level = k.level; fit = k.fit }
  send_rules e r (Sent.fresh p q i) k =
      let a = alike_with e.word in
      record { deferred = λ h. irr_with e.word; level = λ h. same_level a ∙ q; fit = λ o h. same_fit a ∙ p }

  move_rules : (e : Entry) (b : Bool) (r : EntryStep) → Moved e b r → Rules n e → Rules n r.entry
  move_rules e b r (Moved.up (Raised.again p q)) k = record { deferred = λ h. q; level = k.level; fit = k.fit }
  move_rules e b r (Moved.up (Raised.raised s)) k = send_rules (with_input e true) r s (record { deferred = k.deferred; level = k.level; fit = k.fit })
  move_rules e b r Moved.down k = record { deferred = λ h. never h refl; level = k.level; fit = k.fit }

  -- an entry that isn't in flight and has nothing deferred
  resting : (e : Entry) → (e.pending_level ≡ true → ⊥) → remote_irr e.word ≡ false → Rules n e
  resting e d i = record { deferred = λ h. absurd (d h); level = λ h. never h i; fit = λ o h. never h i }

  -- an EOI ends it: what stays deferred in version 0x11 is in flight again, and nothing stays so in version 0x20
  end_rules : (e : Entry) (r : EntryStep) → Over e r → (r.entry.pending_level ≡ true → n ≡ false) → Rules n e → Rules n r.entry
  end_rules e r (Over.resent b a c (Sent.unfit p)) d k =
      resting r.entry (λ h. never (same_fit (alike_without e.word) ∙ k.fit (d h) (k.deferred (c h))) p) (irr_without e.word)
  end_rules e r (Over.resent b a c (Sent.edge p q)) d k =
      resting r.entry (λ h. never (same_level (alike_without e.word) ∙ k.level (k.deferred (c h))) q) (irr_without e.word)
  end_rules e r (Over.resent b a c (Sent.later p q i)) d k = never i (irr_without e.word)
  end_rules e r (Over.resent b a c (Sent.fresh p q i)) d k =
      let m = alike_with (without_remote_irr e.word) in
      record { deferred = λ h. irr_with (without_remote_irr e.word); level = λ h. same_level m ∙ q; fit = λ o h. same_fit m ∙ p }
  end_rules e r (Over.rested a) d k = resting r.entry (λ h. never h refl) (irr_without e.word)

  -- a low word of version 0x20 is stored: deferred only with the same one, which is level; in flight only if it is level
  store_rules : (e : Entry) (x : ℕ) → n ≡ true → Rules n e → Rules n (store_low20 e x)
  store_rules e x o k =
      record {
        deferred = λ h.
            let p = stored_pending e x h in
            let f : remote_irr e.word ≡ true = k.deferred p.1 in
            let l : is_level x ≡ true = sym (same_trigger e.word x p.0) ∙ k.level f in
            stored_flight e x ∙ rw (l, f);
        level = λ h. same_level (stored_alike e x) ∙ (and_true (is_level x) (remote_irr e.word) (sym (stored_flight e x) ∙ h)).0;
        fit = λ q. never o q;
      }

  wrote_rules : (e : Entry) (x : ℕ) (r : EntryStep) → Wrote n e x r → Rules n e → Rules n r.entry
  wrote_rules e x r (Wrote.kept o b c) k = record { deferred = λ h. k.deferred (c h); level = k.level; fit = k.fit }
  wrote_rules e x r (Wrote.changed o c) k = resting r.entry (λ h. never h refl) (irr_low e.word x)
  wrote_rules e x r (Wrote.stored o (Stored.owed h s)) k = send_rules (store_low20 e x) r s (store_rules e x o k)
  wrote_rules e x r (Wrote.stored o (Stored.unowed h)) k = store_rules e x o k
  wrote_rules e x r Wrote.high k =
      let i = irr_high e.word x in
      let a = alike_high e.word x in
      record { deferred = λ h. i ∙ k.deferred h; level = λ h. same_level a ∙ k.level (sym i ∙ h); fit = λ o h. same_fit a ∙ k.fit o (sym i ∙ h) }

-- ---- the rules of the chip

at_rules : (s : IoApicState) → ChipRules s → (h : ℕ) → h < 24 → Rules (is_version20 s) (entry_at s h)
at_rules s k h l = rules_of (is_version20 s) (entry_at s h) (k.each h l)

put_rules : (s : IoApicState) (h : ℕ) (f : Entry) → ChipRules s → h < 24 → Rules (is_version20 s) f → ChipRules (put s h f)
put_rules s h f k l r = record { agrees = put_agrees s h f k.agrees l; each = at }
  where
    at : (j : ℕ) → j < 24 → entry_rules (is_version20 s) (entry_at (put s h f) j) ≡ true
    at j i = go (ℕ_discrete j h)
      where
        go : Dec (j ≡ h) → entry_rules (is_version20 s) (entry_at (put s h f) j) ≡ true
        go (yes e) = rw e (ap (λ (x : Entry). entry_rules (is_version20 s) x) (put_same s h f k.agrees.table l) ∙ of_rules (is_version20 s) f r)
        go (no e) = ap (λ (x : Entry). entry_rules (is_version20 s) x) (put_other s h f j e) ∙ k.each j i

routes_rules : (s : IoApicState) (gsi : Gsi) (step : Entry → EntryStep) (x : Routing) → Routes s gsi step x
    → ((e : Entry) → Rules (is_version20 s) e → Rules (is_version20 s) (step e).entry) → ChipRules s → ChipRules x.state
routes_rules s gsi step x (Routes.hit l) f k = put_rules s gsi.0 (step (entry_at s gsi.0)).entry k l (f (entry_at s gsi.0) (at_rules s k gsi.0 l))
routes_rules s gsi step x (Routes.miss l) f k = k

ends_rules : (s : IoApicState) (v : Vector) (x : Ending) → is_version20 s ≡ false → Ends s v x → ChipRules s → ChipRules x.state
ends_rules s v x o (Ends.found l) k =
    put_rules s (first_awaiting s v) (end_entry (entry_at s (first_awaiting s v))).entry k l
    (end_rules (is_version20 s) (entry_at s (first_awaiting s v)) (end_entry (entry_at s (first_awaiting s v))) (over_view (entry_at s (first_awaiting s v))) (λ h. o) (at_rules s k (first_awaiting s v) l))
ends_rules s v x o (Ends.unfound l) k = k

-- in version 0x20 each entry is ended by itself, or left as it is
each_rules : (n : Bool) (v : Vector) (e : Entry) → Rules n e → Rules n (end_each_in_table v e)
each_rules n v e k = go (awaits v e)
  where
    go : (b : Bool) → Rules n (cond b (end_entry20 e).entry e)
    go true = end_rules n e (end_entry20 e) (over_view20 e) (λ h. never h (end_pending e)) k
    go false = k

every_version : (s : IoApicState) (v : Vector) → Agrees s → (j : ℕ) → entry_rules (is_version20 (end_of_every s v).state) (entry_at (end_of_every s v).state j) ≡ entry_rules (is_version20 s) (end_each_in_table v (entry_at s j))
unfolding end_of_every
every_version s v a j = ap (λ (x : Entry). entry_rules (is_version20 s) x) (every_at s v a j)

every_rules : (s : IoApicState) (v : Vector) → ChipRules s → ChipRules (end_of_every s v).state
every_rules s v k =
    record {
      agrees = every_ended s k.agrees v;
      each = λ j l. every_version s v k.agrees j ∙ of_rules (is_version20 s) (end_each_in_table v (entry_at s j)) (each_rules (is_version20 s) v (entry_at s j) (at_rules s k j l));
    }

by_rules : (s : IoApicState) (v : Vector) (x : Ending) → EndsBy s v x → ChipRules s → ChipRules x.state
by_rules s v x (EndsBy.one n e) k = ends_rules s v x n e k
by_rules s v x (EndsBy.every n) k = every_rules s v k

writes_rules : (s : IoApicState) (o x : ℕ) (w : Writing) → Writes s o x w → ChipRules s → ChipRules w.state
writes_rules s o x w (Writes.selected y) k = record { agrees = record { table = k.agrees.table; word = k.agrees.word }; each = k.each }
writes_rules s o x w (Writes.word h r l i p v) k = put_rules s h r.entry k l (wrote_rules (is_version20 s) (entry_at s h) x r v (at_rules s k h l))
writes_rules s o x w (Writes.eoi n e) k = every_rules s (record { 0 = x % 256 }) k

write_rules : (m : IoApicState) (addr width x : ℕ) (o : Outcome IoApicState) → Write m addr width x o → ChipRules m → ChipRules o.state
write_rules m addr width x o (Write.refused why) k = k
write_rules m addr width x o (Write.served {w} p l v) k = writes_rules m (addr - m.base) (x % 4294967296) w v k

pub calls_keep_rules : CallsKeepRules
unfolding outcome set_gsi_level assert_gsi end_of_interrupt handle_write
calls_keep_rules m (SetGsiLevel gsi b) k =
    routes_rules m gsi (λ e. move_line e b) (set_level m gsi b) (level_view m gsi b) (λ e r. move_rules (is_version20 m) e b (move_line e b) (moved_view e b) r) k
calls_keep_rules m (AssertGsi gsi) k =
    routes_rules m gsi send_entry (interrupt_for_entry m gsi) (assert_view m gsi) (λ e r. send_rules (is_version20 m) e (send_entry e) (sent_view e) r) k
calls_keep_rules m (EndOfInterrupt v) k = by_rules m v (end_of m v) (ends_by m v) k
calls_keep_rules m (VectorForGsi gsi) k = k
calls_keep_rules m AddressRange k = k
calls_keep_rules m (HandleRead addr width) k = k
calls_keep_rules m (HandleWrite addr width x) k = write_rules m addr width x (handle_write m addr width x) (write_view m addr width x) k

pub runs_keep_rules : RunsKeepRules
unfolding run
runs_keep_rules m [] k = k
runs_keep_rules m (c ∷ cs) k = runs_keep_rules (next m c) cs (calls_keep_rules m c k)

new_rules : (b : Bool) (n j : ℕ) → entry_rules b (get_or (replicate n new_entry) j no_entry) ≡ true
new_rules b zero j = refl
new_rules b (suc n) zero = refl
new_rules b (suc n) (suc j) = new_rules b n j

pub new_keeps_rules : NewKeepsRules
new_keeps_rules version base size = record { agrees = new_agrees version base size; each = λ j l. new_rules (eqb version 0x20) 24 j }

-- ---- the version and the addresses

abbrev Stays : IoApicState → IoApicState → Type 0
Stays s t = (t.version ≡ s.version) × (t.base ≡ s.base) × (t.size ≡ s.size)

routes_stays : (s : IoApicState) (gsi : Gsi) (step : Entry → EntryStep) (x : Routing) → Routes s gsi step x → Stays s x.state
routes_stays s gsi step x (Routes.hit l) = (refl, refl, refl)
routes_stays s gsi step x (Routes.miss l) = (refl, refl, refl)

ends_stays : (s : IoApicState) (v : Vector) (x : Ending) → EndsBy s v x → Stays s x.state
unfolding end_of_every
ends_stays s v x (EndsBy.one n (Ends.found l)) = (refl, refl, refl)
ends_stays s v x (EndsBy.one n (Ends.unfound l)) = (refl, refl, refl)
ends_stays s v x (EndsBy.every n) = (refl, refl, refl)

write_stays : (m : IoApicState) (addr width x : ℕ) (o : Outcome IoApicState) → Write m addr width x o → Stays m o.state
unfolding end_of_every
write_stays m addr width x o (Write.refused why) = (refl, refl, refl)
write_stays m addr width x o (Write.served p l (Writes.selected y)) = (refl, refl, refl)
write_stays m addr width x o (Write.served p l (Writes.word h r i j k v)) = (refl, refl, refl)
write_stays m addr width x o (Write.served p l (Writes.eoi n e)) = (refl, refl, refl)

pub calls_keep_version : CallsKeepVersion
unfolding outcome set_gsi_level assert_gsi end_of_interrupt handle_write
calls_keep_version m (SetGsiLevel gsi b) = routes_stays m gsi (λ e. move_line e b) (set_level m gsi b) (level_view m gsi b)
calls_keep_version m (AssertGsi gsi) = routes_stays m gsi send_entry (interrupt_for_entry m gsi) (assert_view m gsi)
calls_keep_version m (EndOfInterrupt v) = ends_stays m v (end_of m v) (ends_by m v)
calls_keep_version m (VectorForGsi gsi) = (refl, refl, refl)
calls_keep_version m AddressRange = (refl, refl, refl)
calls_keep_version m (HandleRead addr width) = (refl, refl, refl)
calls_keep_version m (HandleWrite addr width x) = write_stays m addr width x (handle_write m addr width x) (write_view m addr width x)

-- a chip of one version stays one
pub call_is_version20 : (m : IoApicState) (c : Call) → is_version20 (next m c) ≡ is_version20 m
call_is_version20 m c = ap (λ (n : ℕ). eqb n 0x20) (calls_keep_version m c).0

pub run_is_version20 : (m : IoApicState) (cs : List Call) → is_version20 (run m cs) ≡ is_version20 m
unfolding run
run_is_version20 m [] = refl
run_is_version20 m (c ∷ cs) = run_is_version20 (next m c) cs ∙ call_is_version20 m c

-- ---- refusals

routed_done : (r : Option IoApicInterrupt) → reply_number (routed_reply r) ≡ 0
routed_done None = refl
routed_done (Some i) = refl

eoi_done : (r : Option Eoi) → reply_number (eoi_reply r) ≡ 0
eoi_done None = refl
eoi_done (Some (Ended e)) = go e.gsi.0 e.pending
  where
    go : (g : ℕ) (r : Option IoApicInterrupt) → reply_number (eoi_reply (Some (Ended (record { gsi = record { 0 = g }; pending = r })))) ≡ 0
    go g None = refl
    go g (Some i) = refl
eoi_done (Some (EndedAll e)) = refl

written_done : (r : Option Eoi) → reply_number (written_reply (Ok (written_by r))) ≡ 0
written_done None = refl
written_done (Some (Ended e)) = refl
written_done (Some (EndedAll e)) = refl

send_done : (r : Option IoApicInterrupt) → reply_number (written_reply (Ok (written_send r))) ≡ 0
send_done None = refl
send_done (Some i) = refl

writes_done : (s : IoApicState) (o x : ℕ) (w : Writing) → Writes s o x w → reply_number (written_reply w.answer) ≡ 0
writes_done s o x w (Writes.selected y) = refl
writes_done s o x w (Writes.word h r l i p v) = send_done r.answer
writes_done s o x w (Writes.eoi n e) = written_done (end_of_every s (record { 0 = x % 256 })).answer

write_kept : (m : IoApicState) (addr width x : ℕ) (o : Outcome IoApicState) → Write m addr width x o → (reply_number o.reply ≡ 0 → ⊥) → o.state ≡ m
write_kept m addr width x o (Write.refused why) n = refl
write_kept m addr width x o (Write.served {w} p l v) n = absurd (n (writes_done m (addr - m.base) (x % 4294967296) w v))

pub refused_keeps : RefusedKeeps
unfolding outcome set_gsi_level assert_gsi end_of_interrupt handle_write
refused_keeps m (SetGsiLevel gsi b) n = absurd (n (routed_done (set_level m gsi b).answer))
refused_keeps m (AssertGsi gsi) n = absurd (n (routed_done (interrupt_for_entry m gsi).answer))
refused_keeps m (EndOfInterrupt v) n = absurd (n (eoi_done (end_of m v).answer))
refused_keeps m (VectorForGsi gsi) n = refl
refused_keeps m AddressRange n = refl
refused_keeps m (HandleRead addr width) n = refl
refused_keeps m (HandleWrite addr width x) n = write_kept m addr width x (handle_write m addr width x) (write_view m addr width x) n

-- ---- the selector

pub table_index : TableIndex
table_index sel l h = omega arith
