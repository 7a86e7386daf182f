-- Demand 3 in its own words: its premises give those that are needed. And last spring's story. Assumes nothing.
use Prim.Native.Nat.{ℕ, zero, suc, ◌≤◌, ◌<◌}
use native.Mathlib.Omega.{arith}
use native.Mathlib.Decide.{ℕ_discrete}
use mathlib.Core.Bool.{Bool, true, false, not, ◌&&◌}
use mathlib.Core.List.{List, [], ◌∷◌}
use mathlib.Core.Path.{◌≡◌, refl, ◌∙◌, ap}
use borrow.Author.Tests.{eqb-true, ne_eqb, ltb-true}
use lib.Dec.{eqb, ltb}
use lib.ListN.{replicate}
use Rattle.utils.proofs.Bools.{never, and_true, not_is}
use Rattle.types.specs.declared.Gsi.{Gsi}
use Rattle.types.specs.declared.Vector.{Vector}
use Rattle.types.specs.declared.Reply.{Reply}
use Rattle.types.specs.declared.Reply.TheVariants.{Refused, Nothing, One, Two, Three}
use Rattle.vioapic_entry.specs.Answers.{routed_reply}
use Rattle.vioapic.specs.Answers.{eoi_reply}
use Rattle.vioapic_entry.specs.Redirection.{EntryStep, is_level, has_vector, awaits, send_entry, raise_entry, move_line, end_entry}
use Rattle.vioapic.specs.Table.{Routing, Ending, is_version20, entry_at, put, first_awaiting, end_of, interrupt_for_entry, set_level}
use Rattle.vioapic.specs.IoApic.{chip_of, set_gsi_level, assert_gsi, end_of_interrupt}
use Rattle.vioapic.specs.Calls.{Call, SetGsiLevel, AssertGsi, EndOfInterrupt, VectorForGsi, AddressRange, HandleRead, HandleWrite, outcome, next, run}
use Rattle.vioapic_entry.specs.declared.Entry.{Entry}
use Rattle.vioapic.specs.State.{IoApicState}
use Rattle.vioapic_theorems.specs.Rules.{implies, ChipRules}
use Rattle.vioapic_theorems.specs.Sends.{routes, resends, sent, sends, is_eoi}
use Rattle.vioapic_theorems.specs.Premises.{all_true, always, line_up, keeps_low, lower_down, lower_undeferred, lower_kept, lower_unasserted, demanded, asks, own_asks, lower_rests, level_sent, lower_unsent, held, throughout}
use Rattle.vioapic_theorems.specs.Heard.{HeardFromRules, Demand3, NeverHeard}
use Rattle.vioapic_theorems.proofs.Views.{sent_view, raised_view, over_view, Routes, assert_view, level_view, Ends, ends_old}
use Rattle.vioapic_theorems.proofs.Steps.{implied, imply, awaiting, Flying, sent_level, raised_level, raise_input, end_again, end_input}
use Rattle.vioapic_theorems.proofs.Tables.{put_same, put_other, all_at, first_awaits, first_lowest}
use Rattle.vioapic_theorems.proofs.Keeps.{rules_of, calls_keep_rules, runs_keep_rules, new_keeps_rules, call_is_version20, run_is_version20}
use Rattle.vioapic_theorems.proofs.OnTime.{resends_one, heard}

-- a test that can't be true
refute : (b : Bool) → (b ≡ true → ⊥) → not b ≡ true
refute true n = absurd (n refl)
refute false n = refl

-- the reply of a level interrupt of v
level_reply : (v : Vector) (r : Reply) → level_sent v r ≡ true → r ≡ Two v.0 1
level_reply v (Two u l) h =
    let p = and_true (eqb u v.0) (eqb l 1) h in
    rw (eqb-true u v.0 p.0, eqb-true l 1 p.1)
level_reply v (Refused why) h = never h refl
level_reply v Nothing h = never h refl
level_reply v (One a) h = never h refl
level_reply v (Three a b c) h = never h refl

-- ---- the premises that are needed, one by one

module _ (v : Vector) (g : ℕ) (within : g < 24) where
  -- an EOI that ends a lower entry finds it at rest
  rests : (s : IoApicState) (c : Call) → lower_down v g s ≡ true → lower_undeferred v g s ≡ true → lower_rests v g s c ≡ true
  rests s c d u = imply (is_eoi v c && ltb (first_awaiting s v) g) (not (asks (entry_at s (first_awaiting s v)))) at
    where
      at : (is_eoi v c && ltb (first_awaiting s v) g) ≡ true → not (asks (entry_at s (first_awaiting s v))) ≡ true
      at h =
          let l : first_awaiting s v < g = ltb-true (first_awaiting s v) g (and_true (is_eoi v c) (ltb (first_awaiting s v) g) h).1 in
          let a : awaits v (entry_at s (first_awaiting s v)) ≡ true = first_awaits s v (omega (arith, l, within)) in
          let x : (entry_at s (first_awaiting s v)).input_level ≡ false = not_is (entry_at s (first_awaiting s v)).input_level (implied (awaits v (entry_at s (first_awaiting s v))) (not (entry_at s (first_awaiting s v)).input_level) (all_at g (λ j. implies (awaits v (entry_at s j)) (not (entry_at s j).input_level)) d (first_awaiting s v) l) a) in
          let y : (entry_at s (first_awaiting s v)).pending_level ≡ false = not_is (entry_at s (first_awaiting s v)).pending_level (implied (awaits v (entry_at s (first_awaiting s v))) (not (entry_at s (first_awaiting s v)).pending_level) (all_at g (λ j. implies (awaits v (entry_at s j)) (not (entry_at s j).pending_level)) u (first_awaiting s v) l) a) in
          rw (x, y)

  -- raising a lower line sends no level interrupt of v, since its entry would be in flight with its line up
  unraised : (s : IoApicState) (gsi : Gsi) (x : Routing) → ChipRules s → Routes s gsi (λ e. move_line e true) x → lower_down v g x.state ≡ true
      → not (ltb gsi.0 g && level_sent v (routed_reply x.answer)) ≡ true
  unraised s gsi x k (Routes.miss l) d = refute (ltb gsi.0 g && false) (λ h. never (and_true (ltb gsi.0 g) false h).1 refl)
  unraised s gsi x k (Routes.hit l) d = refute (ltb gsi.0 g && level_sent v (routed_reply r.answer)) bad
    where
      e : Entry
      e = entry_at s gsi.0

      r : EntryStep
      r = raise_entry (entry_at s gsi.0)

      bad : (ltb gsi.0 g && level_sent v (routed_reply r.answer)) ≡ true → ⊥
      bad h =
          let p = and_true (ltb gsi.0 g) (level_sent v (routed_reply r.answer)) h in
          let i : gsi.0 < g = ltb-true gsi.0 g p.0 in
          let f = (raised_level v e r (raised_view e) (level_reply v (routed_reply r.answer) p.1)).2 in
          let at : entry_at (put s gsi.0 r.entry) gsi.0 ≡ r.entry = put_same s gsi.0 r.entry k.agrees.table l in
          let a : awaits v (entry_at (put s gsi.0 r.entry) gsi.0) ≡ true = ap (awaits v) at ∙ f.fly in
          let b = implied (awaits v (entry_at (put s gsi.0 r.entry) gsi.0)) (not (entry_at (put s gsi.0 r.entry) gsi.0).input_level)
          (all_at g (λ j. implies (awaits v (entry_at (put s gsi.0 r.entry) j)) (not (entry_at (put s gsi.0 r.entry) j).input_level)) d gsi.0 i) a in
          never (ap (λ (y : Entry). y.input_level) at ∙ raise_input e r (raised_view e)) (not_is (entry_at (put s gsi.0 r.entry) gsi.0).input_level b)

  -- lowering one sends nothing
  lowered : (s : IoApicState) (gsi : Gsi) (x : Routing) → Routes s gsi (λ e. move_line e false) x → not (ltb gsi.0 g && level_sent v (routed_reply x.answer)) ≡ true
  unfolding Rattle.vioapic_entry.specs.Redirection.lower_entry
  lowered s gsi x (Routes.miss l) = refute (ltb gsi.0 g && false) (λ h. never (and_true (ltb gsi.0 g) false h).1 refl)
  lowered s gsi x (Routes.hit l) = refute (ltb gsi.0 g && false) (λ h. never (and_true (ltb gsi.0 g) false h).1 refl)

  -- asserting one that isn't a level entry of v sends no level interrupt of v
  unasserted : (s : IoApicState) (gsi : Gsi) (x : Routing) → Routes s gsi send_entry x
      → not (ltb gsi.0 g && (is_level (entry_at s gsi.0).word && has_vector (entry_at s gsi.0).word v)) ≡ true
      → not (ltb gsi.0 g && level_sent v (routed_reply x.answer)) ≡ true
  unasserted s gsi x (Routes.miss l) d = refute (ltb gsi.0 g && false) (λ h. never (and_true (ltb gsi.0 g) false h).1 refl)
  unasserted s gsi x (Routes.hit l) d = refute (ltb gsi.0 g && level_sent v (routed_reply (send_entry (entry_at s gsi.0)).answer)) bad
    where
      e : Entry
      e = entry_at s gsi.0

      bad : (ltb gsi.0 g && level_sent v (routed_reply (send_entry (entry_at s gsi.0)).answer)) ≡ true → ⊥
      bad h =
          let p = and_true (ltb gsi.0 g) (level_sent v (routed_reply (send_entry e).answer)) h in
          let q = sent_level v e (send_entry e) (sent_view e) (level_reply v (routed_reply (send_entry e).answer) p.1) in
          never (rw (p.0, q.1, q.0)) (not_is (ltb gsi.0 g && (is_level e.word && has_vector e.word v)) d)

  unsent : (m : IoApicState) (c : Call) → ChipRules m → lower_down v g (next m c) ≡ true → lower_unasserted v g m c ≡ true → lower_unsent v g c (outcome m c).reply ≡ true
  unfolding outcome set_gsi_level assert_gsi
  unsent m (SetGsiLevel gsi true) k d a = unraised m gsi (set_level m gsi true) k (level_view m gsi true) d
  unsent m (SetGsiLevel gsi false) k d a = lowered m gsi (set_level m gsi false) (level_view m gsi false)
  unsent m (AssertGsi gsi) k d a = unasserted m gsi (interrupt_for_entry m gsi) (assert_view m gsi) a
  unsent m (EndOfInterrupt u) k d a = refl
  unsent m (VectorForGsi gsi) k d a = refl
  unsent m AddressRange k d a = refl
  unsent m (HandleRead addr width) k d a = refl
  unsent m (HandleWrite addr width x) k d a = refl

  demanded_held : (m : IoApicState) (c : Call) → ChipRules m → all_true (demanded v g m c) ≡ true → all_true (held v g m c) ≡ true
  demanded_held m c k h =
      let a = and_true (always (line_up g) m c) (keeps_low m c g && (always (lower_down v g) m c && (always (lower_undeferred v g) m c && (lower_kept v g m c && (lower_unasserted v g m c && true))))) h in
      let b = and_true (keeps_low m c g) (always (lower_down v g) m c && (always (lower_undeferred v g) m c && (lower_kept v g m c && (lower_unasserted v g m c && true)))) a.1 in
      let d = and_true (always (lower_down v g) m c) (always (lower_undeferred v g) m c && (lower_kept v g m c && (lower_unasserted v g m c && true))) b.1 in
      let u = and_true (always (lower_undeferred v g) m c) (lower_kept v g m c && (lower_unasserted v g m c && true)) d.1 in
      let l = and_true (lower_kept v g m c) (lower_unasserted v g m c && true) u.1 in
      let n = and_true (lower_unasserted v g m c) true l.1 in
      let line : line_up g m ≡ true = (and_true (line_up g m) (line_up g (next m c)) a.0).0 in
      let down = and_true (lower_down v g m) (lower_down v g (next m c)) d.0 in
      let undeferred : lower_undeferred v g m ≡ true = (and_true (lower_undeferred v g m) (lower_undeferred v g (next m c)) u.0).0 in
      let own : own_asks v g m c ≡ true = imply (is_eoi v c && eqb (first_awaiting m v) g) (asks (entry_at m g)) (λ i. rw line) in
      five (own_asks v g m c) (keeps_low m c g) (lower_rests v g m c) (lower_kept v g m c) (lower_unsent v g c (outcome m c).reply)
      own b.0 (rests m c down.0 undeferred) l.0 (unsent m c k down.1 n.0)
    where
      five : (a b c d e : Bool) → a ≡ true → b ≡ true → c ≡ true → d ≡ true → e ≡ true → all_true (a ∷ b ∷ c ∷ d ∷ e ∷ []) ≡ true
      five a b c d e p q r s t = rw (p, q, r, s, t)

  all_held : (m : IoApicState) (cs : List Call) → ChipRules m → throughout (demanded v g) m cs ≡ true → throughout (held v g) m cs ≡ true
  unfolding throughout
  all_held m [] k h = refl
  all_held m (c ∷ cs) k h =
      let p = and_true (all_true (demanded v g m c)) (throughout (demanded v g) (next m c) cs) h in
      rw (demanded_held m c k p.0) (all_held (next m c) cs (calls_keep_rules m c k) p.1)

-- a line whose raising is answered has an entry
line_within : (s : IoApicState) (gsi : Gsi) (x : Routing) (v : Vector) → Routes s gsi (λ e. move_line e true) x → routed_reply x.answer ≡ Two v.0 1 → gsi.0 < 24
line_within s gsi x v (Routes.hit l) q = l
line_within s gsi x v (Routes.miss l) q = absurd (let z : 0 ≡ 1 = ap routes q in omega arith)

pub heard_from_rules : HeardFromRules
unfolding set_gsi_level
heard_from_rules m g v after o k q h =
    let l = line_within m g (set_level m g true) v (level_view m g true) q in
    heard m g v after o k.agrees q (all_held v g.0 l (next m (SetGsiLevel g true)) after (calls_keep_rules m (SetGsiLevel g true) k) h)

pub demand_3 : Demand3
demand_3 base size before after g v q h =
    heard_from_rules (run (chip_of 0x11 base size) before) g v after (run_is_version20 (chip_of 0x11 base size) before) (runs_keep_rules (chip_of 0x11 base size) before (new_keeps_rules 0x11 base size)) q h

-- ---- last spring's story

-- the lower entry goes on flying, and the upper one isn't sent
record Starved (v : Vector) (h g : ℕ) (m : IoApicState) : Type 0 where
  fly : Flying v (entry_at (next m (EndOfInterrupt v)) h)
  up : (entry_at (next m (EndOfInterrupt v)) h).input_level ≡ true
  unsent : sent g m (EndOfInterrupt v) (outcome m (EndOfInterrupt v)).reply ≡ 0

starved : (v : Vector) (h g : ℕ) (m : IoApicState) (x : Ending) → ChipRules m → h < g → g < 24 → Flying v (entry_at m h) → (entry_at m h).input_level ≡ true
    → Ends m v x → next m (EndOfInterrupt v) ≡ x.state → (outcome m (EndOfInterrupt v)).reply ≡ eoi_reply x.answer → Starved v h g m
unfolding sent
starved v h g m x k l w f u (Ends.unfound n) q r = absurd (let z = first_lowest m v k.agrees h f.fly (omega arith) in omega (arith, z))
starved v h g m x k l w f u (Ends.found n) q r = go (ℕ_discrete h (first_awaiting m v))
  where
    e : Entry
    e = entry_at m (first_awaiting m v)

    le : first_awaiting m v ≤ h
    le = first_lowest m v k.agrees h f.fly (omega arith)

    none : sent g m (EndOfInterrupt v) (outcome m (EndOfInterrupt v)).reply ≡ 0
    none = ap (resends g) r ∙ resends_one g (first_awaiting m v) (end_entry e).answer ∙ rw (ne_eqb (first_awaiting m v) g (λ p. omega (arith, le)))

    go : Dec (h ≡ first_awaiting m v) → Starved v h g m
    go (yes p) =
        let at : entry_at (next m (EndOfInterrupt v)) h ≡ (end_entry e).entry = ap (λ (s : IoApicState). entry_at s h) q ∙ rw p (put_same m (first_awaiting m v) (end_entry e).entry k.agrees.table n) in
        let y : e.input_level ≡ true = rw p at u in
        let t = end_again v e (end_entry e) (over_view e) (rw p at f) (rw y) in
        record { fly = rw at t.0; up = rw at (end_input e (end_entry e) (over_view e) ∙ y); unsent = none }
    go (no p) =
        let at : entry_at (next m (EndOfInterrupt v)) h ≡ entry_at m h = ap (λ (s : IoApicState). entry_at s h) q ∙ put_other m (first_awaiting m v) (end_entry e).entry h p in
        record { fly = rw at f; up = rw at u; unsent = none }

starves : (n : ℕ) (v : Vector) (h g : ℕ) (m : IoApicState) → is_version20 m ≡ false → ChipRules m → h < g → g < 24 → Flying v (entry_at m h) → (entry_at m h).input_level ≡ true
    → sends g m (replicate n (EndOfInterrupt v)) ≡ 0
unfolding sends outcome end_of_interrupt
starves zero v h g m o k l w f u = refl
starves (suc n) v h g m o k l w f u =
    let t = starved v h g m (end_of m v) k l w f u (ends_old m v o) refl refl in
    let z = starves n v h g (next m (EndOfInterrupt v)) (call_is_version20 m (EndOfInterrupt v) ∙ o) (calls_keep_rules m (EndOfInterrupt v) k) l w t.fly t.up in
    rw (t.unsent, z)

pub never_heard : NeverHeard
never_heard m h g v n o k l w a u =
    let r = rules_of (is_version20 m) (entry_at m h) (k.each h (omega arith)) in
    starves n v h g m o k l w (record { fly = a; fit = r.fit o (awaiting v (entry_at m h) a).flight }) u
