-- What is lost is exact, and a held line is never forgotten. Assumes nothing.
use Rattle.std.specs.Prelude.{Option, Some, None, Result, Ok, Err}
use Prim.Native.Nat.{ℕ, zero, suc, ◌%◌, ◌^◌, ◌<◌}
use native.Mathlib.Omega.{arith}
use mathlib.Core.Bool.{Bool, true, false, not, cond, ◌&&◌}
use mathlib.Core.List.{List, [], ◌∷◌}
use mathlib.Core.Path.{◌≡◌, refl, sym, ap, ◌∙◌}
use borrow.Author.Tests.{eqb-true, eqb-false, ltb-true, eq-eqb}
use lib.Dec.{eqb, ltb}
use lib.ListN.{get_or, replicate}
use Rattle.utils.specs.Set.{bit, set_of}
use Rattle.utils.specs.Vectors.{class_of}
use Rattle.utils.proofs.Bools.{never, and_true, not_is}
use Rattle.types.specs.declared.Vector.{Vector}
use Rattle.vioapic_entry.specs.Redirection.{vector_of, remote_irr, is_level, is_fit, awaits}
use Rattle.vioapic_entry.specs.declared.Entry.{Entry}
use Rattle.vioapic_entry.specs.declared.IoApicInterrupt.{IoApicInterrupt}
use Rattle.vioapic.specs.State.{IoApicState}
use Rattle.vioapic.specs.Table.{Ending, new_entry, no_entry, is_version20, entry_at, set_level, ends, sent_by, end_of_every, end_of}
use Rattle.vioapic.specs.Registers.{Writing, written_send, written_by, entry_of, eoi_written}
use Rattle.vioapic.specs.IoApic.{handle_writing}
use Rattle.vioapic.specs.declared.Eoi.{Eoi}
use Rattle.vioapic.specs.declared.Eoi.TheVariants as eoi
use Rattle.vioapic.specs.declared.Written.{Written}
use Rattle.vioapic.specs.declared.Written.TheVariants as written
use Rattle.vioapic_theorems.specs.Masking.{AllHeard, is_heard}
use Rattle.vioapic_theorems.proofs.Keeps.{call_is_version20}
use Rattle.vioapic_theorems.proofs.Masking.{calls_hear, new_hears}
use Rattle.vioapic_theorems.proofs.Steps.{implied, awaiting, awaits_yes, grounded}
use Rattle.vioapic_theorems.proofs.Views.{level_view}
use Rattle.vlapic.specs.declared.VirtualApicRegs.{VirtualApicRegs}
use Rattle.vlapic.specs.Priority.{broadcasts}
use Rattle.vlapic_regs.specs.Vectors.{in_words}
use Rattle.vlapic_requests.specs.Requests.{highest, ranked, received_illegal, is_acceptable, taken, ended}
use Rattle.vlapic_requests.specs.Requests as apic
use Rattle.board.specs.Board.{Board, new_board, requested, resent, requested_by_eoi, requested_by_write, told_to, set_gsi_level, accept_interrupt, handle_eoi, write_tpr, handle_write, receive}
use Rattle.board.specs.Calls.{Call, SetGsiLevel, AcceptInterrupt, HandleEoi, WriteTpr, HandleWrite, Receive, outcome, next, run}
use Rattle.board_theorems.specs.Rules.{LocalRules, BoardRules, Tells}
use Rattle.board_theorems.specs.Traced.{trace, Traced, Asked, Nobody, Asks, asked_by, asked_again, asked_by_eoi, asked_by_write, asked_by_told, asked, is_level_of, is_edge_of, is_low_word, renames, puts, lost_after, lost_over, Exact, NewTraced, CallsKeepTraced, spares, spares_over, RunsTraced, CallsExact, RunsExact, NeverForgotten}
use Rattle.board_theorems.proofs.Sent.{Serves, serves_view}
use Rattle.board_theorems.proofs.Rules.{highest_in, highest_legal, ended_keeps, chip_keeps_lem, calls_keep_rules, new_keeps_rules, calls_keep_svr}
use Rattle.board_theorems.proofs.Trace.{applied, taken_trace, ended_other, ended_edge, asked_trace}
use Rattle.board_theorems.proofs.Entries.{line_awaits, every_awaits, low_awaits, high_awaits}
use Rattle.types.specs.declared.Refusal.{Refusal}

-- ---- what a call requests, as `asked` says

pub requested_is : (s : VirtualApicRegs) (r : Option IoApicInterrupt) → requested s r ≡ applied s (asked_by r)
requested_is s None = refl
requested_is s (Some i) = refl

resent_is : (s : VirtualApicRegs) (v : Vector) (sent : ℕ) → resent s v sent ≡ applied s (asked_again v sent)
resent_is s v sent = go (eqb sent 0)
  where
    go : (b : Bool) → cond b s (apic.request s v true) ≡ applied s (cond b Nobody (Asks v true))
    go true = refl
    go false = refl

eoi_is : (s : VirtualApicRegs) (v : Vector) (a : Option Eoi) → requested_by_eoi s v a ≡ applied s (asked_by_eoi v a)
eoi_is s v None = refl
eoi_is s v (Some (eoi.Ended e)) = requested_is s e.pending
eoi_is s v (Some (eoi.EndedAll e)) = resent_is s v e.sent

pub write_is : (s : VirtualApicRegs) (x : ℕ) (a : Result Written Refusal) → requested_by_write s x a ≡ applied s (asked_by_write x a)
write_is s x (Ok written.Done) = refl
write_is s x (Ok (written.Sent i)) = refl
write_is s x (Ok (written.EndedAll e)) = resent_is s (record { 0 = x % 2 ^ 8 }) e.sent
write_is s x (Err why) = refl

pub told_is : (m : IoApicState) (s : VirtualApicRegs) (a : Option Vector) → (told_to m s a).board.apic ≡ applied s (asked_by_told m a)
told_is m s None = refl
told_is m s (Some v) = eoi_is s v (end_of m v).answer

-- what a write of the EOI register asks for is what that EOI does
pub eoi_asked : (v : Vector) (m : IoApicState) (y : ℕ) → is_level_of v (asked_by_write y (eoi_written (end_of_every m (record { 0 = y % 2 ^ 32 % 2 ^ 8 }))).answer)
    ≡ is_level_of v (asked_by_eoi (record { 0 = y % 2 ^ 32 % 2 ^ 8 }) (end_of_every m (record { 0 = y % 2 ^ 32 % 2 ^ 8 })).answer)
unfolding end_of_every
eoi_asked v m y = same (eqb (set_of 24 (ends (record { 0 = y % 2 ^ 32 % 2 ^ 8 }) m)) 0)
  where
    vector : ◌≡◌ {A = Vector} (record { 0 = y % 2 ^ 8 }) (record { 0 = y % 2 ^ 32 % 2 ^ 8 })
    vector = let e : y % 2 ^ 8 ≡ y % 2 ^ 32 % 2 ^ 8 = omega arith in ap (λ (z : ℕ). record { 0 = z }) e

    answer : Bool → Option Eoi
    answer c = cond c None (Some (eoi.EndedAll (record { cleared = set_of 24 (ends (record { 0 = y % 2 ^ 32 % 2 ^ 8 }) m); sent = set_of 24 (sent_by (record { 0 = y % 2 ^ 32 % 2 ^ 8 }) m) })))

    same : (c : Bool) → is_level_of v (asked_by_write y (Ok (written_by (answer c)))) ≡ is_level_of v (asked_by_eoi (record { 0 = y % 2 ^ 32 % 2 ^ 8 }) (answer c))
    same true = refl
    same false = ap (λ (z : Vector). is_level_of v (asked_again z (set_of 24 (sent_by (record { 0 = y % 2 ^ 32 % 2 ^ 8 }) m)))) vector

-- ---- one call

byte : (v : Vector) (e : Entry) → awaits v e ≡ true → v.0 < 256
byte v e w = omega (arith, eqb-true (e.word % 256) v.0 (awaiting v e w).vector)

pub twice : (b : Bool) → not (not b) ≡ b
twice true = refl
twice false = refl

-- acceptance
accept_trace : (s : VirtualApicRegs) → LocalRules s → (v : Vector) → v.0 < 256 → trace v (apic.accept s).state ≡ trace v s
unfolding apic.accept
accept_trace s k v l = go (is_acceptable s) refl
  where
    some : is_acceptable s ≡ true → highest s.irr ≡ 0 → ⊥
    some e z =
        let q : class_of s.ppr < class_of (highest s.irr) = ltb-true (class_of s.ppr) (class_of (highest s.irr)) e in
        omega arith

    go : (b : Bool) → is_acceptable s ≡ b → trace v (cond b (apic.after {A = Option Vector} (taken s (highest s.irr)) (Some (record { 0 = highest s.irr }))) (apic.after s None)).state ≡ trace v s
    go true e = taken_trace s k v l (highest s.irr) (highest_in s.irr (some e))
    go false e = refl

-- the end of u, told if and only if its trigger bit is set
silent_trace : (s : VirtualApicRegs) → LocalRules s → bit s.svr 12 ≡ false → (v : Vector) → v.0 < 256 → (u : ℕ) → broadcasts s u ≡ false → trace v (ended s u) ≡ trace v s
silent_trace s k t v l u e = go (eqb v.0 u) refl
  where
    edge : in_words s.tmr u ≡ false
    edge = first (in_words s.tmr u) (rw t at e)
      where
        first : (a : Bool) → (a && true) ≡ false → a ≡ false
        first true q = q
        first false q = refl

    go : (b : Bool) → eqb v.0 u ≡ b → trace v (ended s u) ≡ trace v s
    go true q = let i : v.0 ≡ u = eqb-true v.0 u q in ended_edge s k v l u (rw i edge)
    go false q = ended_other s k v l u (eqb-false v.0 u q)

module _ (v : Vector) (b : Board) (lost : Bool) (k : BoardRules b) (x : Exact v b lost) (g : ℕ) (l : g < 24) where
  -- v is lost after a call, by what the call asks for and what is so else
  abbrev lost_by : Asked → Bool → Bool
  lost_by a rest = cond (is_level_of v a) false (cond (is_edge_of v a) true rest)

  -- an EOI of u on the I/O APIC, the local APIC being s
  every_exact : (s : VirtualApicRegs) → LocalRules s → (u : Vector) (o : Ending) → o ≡ end_of_every b.ioapic u → ((u.0 ≡ v.0 → ⊥) → trace v s ≡ trace v b.apic)
      → awaits v (entry_at o.state g) ≡ true → trace v (requested_by_eoi s u o.answer) ≡ not (lost_by (asked_by_eoi u o.answer) lost)
  every_exact s ks u o e tr w =
      ap (trace v) (eoi_is s u o.answer)
      ∙ asked_trace s ks v (byte v (entry_at o.state g) w) (asked_by_eoi u o.answer) lost
      (λ n q. let p = every_awaits b.ioapic k.chip.agrees u v g l (rw e at n) (rw e at w) in tr p.1 ∙ x g l p.0)

  -- the guest's EOI
  abbrev Told : VirtualApicRegs → Option Vector → Type 0
  Told s a = awaits v (entry_at (told_to b.ioapic s a).board.ioapic g) ≡ true → trace v (told_to b.ioapic s a).board.apic ≡ not (lost_by (asked_by_told b.ioapic a) lost)

  every_is : (u : Vector) → end_of b.ioapic u ≡ end_of_every b.ioapic u
  unfolding end_of
  every_is u = rw k.version

  eoi_exact : Tells b → Told (apic.end_highest b.apic).state (apic.end_highest b.apic).answer
  unfolding apic.end_highest
  eoi_exact t = go (eqb (highest b.apic.isr) 0) refl
    where
      rules : (eqb (highest b.apic.isr) 0 ≡ false) → LocalRules (ended b.apic (highest b.apic.isr))
      rules e = ended_keeps b.apic k.local (highest b.apic.isr) (highest_legal b.apic.isr (eqb-false (highest b.apic.isr) 0 e))

      told : (eqb (highest b.apic.isr) 0 ≡ false) → (c : Bool) → broadcasts b.apic (highest b.apic.isr) ≡ c
          → Told (ended b.apic (highest b.apic.isr)) (cond c (Some (record { 0 = highest b.apic.isr })) None)
      told e true q w =
          every_exact (ended b.apic (highest b.apic.isr)) (rules e) (record { 0 = highest b.apic.isr }) (end_of b.ioapic (record { 0 = highest b.apic.isr })) (every_is (record { 0 = highest b.apic.isr }))
          (λ n. ended_other b.apic k.local v (byte v (entry_at (end_of b.ioapic (record { 0 = highest b.apic.isr })).state g) w) (highest b.apic.isr) (λ i. n (sym i))) w
      told e false q w = silent_trace b.apic k.local t v (byte v (entry_at b.ioapic g) w) (highest b.apic.isr) q ∙ x g l w

      go : (c : Bool) → eqb (highest b.apic.isr) 0 ≡ c
          → Told (cond c (apic.after b.apic None) (apic.ending b.apic (highest b.apic.isr))).state (cond c (apic.after b.apic None) (apic.ending b.apic (highest b.apic.isr))).answer
      go true e w = x g l w
      go false e w = told e (broadcasts b.apic (highest b.apic.isr)) refl w

  -- a message
  message_exact : (u : Vector) (level : Bool) → awaits v (entry_at b.ioapic g) ≡ true
      → trace v (apic.receive b.apic u level) ≡ not (lost_by (cond (ltb u.0 16) Nobody (Asks u level)) lost)
  unfolding apic.receive
  message_exact u level w = go (ltb u.0 16)
    where
      go : (c : Bool) → trace v (cond c (received_illegal b.apic) (apic.request b.apic u level)) ≡ not (lost_by (cond c Nobody (Asks u level)) lost)
      go true = x g l w
      go false = asked_trace b.apic k.local v (byte v (entry_at b.ioapic g) w) (Asks u level) lost (λ n e. x g l w)

  -- a write
  module _ (addr width y : ℕ) where
    abbrev putting : Bool
    putting = is_low_word b.ioapic addr width && renames v (entry_at b.ioapic (entry_of b.ioapic.selector)).word (y % 2 ^ 32)

    write_awaits : (w : Writing) → Serves b.ioapic addr width y w → is_level_of v (asked_by_write y w.answer) ≡ false → putting ≡ false
        → awaits v (entry_at w.state g) ≡ true → awaits v (entry_at b.ioapic g) ≡ true
    write_awaits w (Serves.refused why o u) n p q = q
    write_awaits w (Serves.selected z o u) n p q = q
    write_awaits w (Serves.low h r j i f o s) n p q =
        low_awaits v b.ioapic h (y % 2 ^ 32) r g k.chip j s (sym (same r.answer) ∙ n) (rw i (rw f at p)) q
      where
        same : (a : Option IoApicInterrupt) → is_level_of v (asked_by_write y (Ok (written_send a))) ≡ is_level_of v (asked_by a)
        same None = refl
        same (Some a) = refl
    write_awaits w (Serves.high h j f o) n p q = high_awaits v b.ioapic h (y % 2 ^ 32) g k.chip.agrees j q
    write_awaits w (Serves.eoi f o) n p q =
        (every_awaits b.ioapic k.chip.agrees (record { 0 = y % 2 ^ 32 % 2 ^ 8 }) v g l (sym (eoi_asked v b.ioapic y) ∙ n) q).0

    write_exact : (w : Writing) → Serves b.ioapic addr width y w → awaits v (entry_at w.state g) ≡ true
        → trace v (requested_by_write b.apic y w.answer) ≡ not (lost_by (asked_by_write y w.answer) (cond putting (not (trace v b.apic)) lost))
    write_exact w s q =
        ap (trace v) (write_is b.apic y w.answer)
        ∙ asked_trace b.apic k.local v (byte v (entry_at w.state g) q) (asked_by_write y w.answer) (cond putting (not (trace v b.apic)) lost)
        (λ n e. rest n putting refl)
      where
        rest : is_level_of v (asked_by_write y w.answer) ≡ false → (c : Bool) → putting ≡ c → trace v b.apic ≡ not (cond c (not (trace v b.apic)) lost)
        rest n true p = sym (twice (trace v b.apic))
        rest n false p = x g l (write_awaits w s n p q)

pub calls_exact : CallsExact
unfolding outcome set_gsi_level accept_interrupt handle_eoi write_tpr handle_write receive asked puts apic.write_tpr ranked
calls_exact v b (SetGsiLevel gsi up) lost k t x g l w =
    ap (trace v) (requested_is b.apic (set_level b.ioapic gsi up).answer)
    ∙ asked_trace b.apic k.local v (byte v (entry_at (set_level b.ioapic gsi up).state g) w) (asked_by (set_level b.ioapic gsi up).answer) lost
    (λ n e. x g l (line_awaits v b.ioapic gsi up (set_level b.ioapic gsi up) g k.chip.agrees (level_view b.ioapic gsi up) n w))
calls_exact v b AcceptInterrupt lost k t x g l w = accept_trace b.apic k.local v (byte v (entry_at b.ioapic g) w) ∙ x g l w
calls_exact v b HandleEoi lost k t x g l w = eoi_exact v b lost k x g l t w
calls_exact v b (WriteTpr y) lost k t x g l w = x g l w
calls_exact v b (HandleWrite addr width y) lost k t x g l w =
    write_exact v b lost k x g l addr width y (handle_writing b.ioapic addr width y) (serves_view b.ioapic addr width y k.version) w
calls_exact v b (Receive u level) lost k t x g l w = message_exact v b lost k x g l u level w

-- with nothing lost
pub calls_keep_traced : CallsKeepTraced
calls_keep_traced v b c k t x e p g l w =
    calls_exact v b c false k t x g l w ∙ rw (e, p) (none (is_level_of v (asked b c)))
  where
    none : (a : Bool) → not (cond a false false) ≡ true
    none true = refl
    none false = refl

-- with v lost, and an entry of v in flight after the call: v has a trace then exactly if the call asks for it, level-triggered
pub asked_for : (v : Vector) (b : Board) (c : Call) (g : ℕ) → BoardRules b → Tells b → trace v b.apic ≡ false → g < 24 → awaits v (entry_at (next b c).ioapic g) ≡ true
    → trace v (next b c).apic ≡ is_level_of v (asked b c)
asked_for v b c g k t e l w = calls_exact v b c true k t (λ h i j. e) g l w ∙ rw e (found (is_level_of v (asked b c)) (is_edge_of v (asked b c)) (puts v b c))
  where
    found : (a d p : Bool) → not (cond a false (cond d true (cond p true true))) ≡ a
    found true d p = refl
    found false true p = refl
    found false false true = refl
    found false false false = refl

-- ---- over a run

pub tells_next : (b : Board) (c : Call) → Tells b → Tells (next b c)
tells_next b c t = rw (calls_keep_svr b c) t

runs_exact_from : (v : Vector) (b : Board) (cs : List Call) (lost : Bool) → BoardRules b → Tells b → Exact v b lost → Exact v (run b cs) (lost_over v b cs lost)
unfolding run lost_over
runs_exact_from v b [] lost k t x = x
runs_exact_from v b (c ∷ cs) lost k t x =
    runs_exact_from v (next b c) cs (lost_after v b c lost) (calls_keep_rules b c k) (tells_next b c t) (calls_exact v b c lost k t x)

new_rests : (v : Vector) (n j : ℕ) → awaits v (get_or (replicate n new_entry) j no_entry) ≡ false
new_rests v zero j = grounded v no_entry refl
new_rests v (suc n) zero = grounded v new_entry refl
new_rests v (suc n) (suc j) = new_rests v n j

new_exact : (v : Vector) → Exact v new_board false
unfolding new_board
new_exact v g l w = never w (new_rests v 24 g)

pub new_traced : NewTraced
new_traced v = new_exact v

pub new_tells : Tells new_board
unfolding new_board
new_tells = refl

spared_from : (v : Vector) (b : Board) (cs : List Call) → BoardRules b → Tells b → Traced v b → spares_over v b cs ≡ true → Traced v (run b cs)
unfolding run spares_over
spared_from v b [] k t x h = x
spared_from v b (c ∷ cs) k t x h =
    let p = and_true (spares v b c) (spares_over v (next b c) cs) h in
    let q = and_true (not (is_edge_of v (asked b c))) (not (puts v b c)) p.0 in
    spared_from v (next b c) cs (calls_keep_rules b c k) (tells_next b c t)
    (calls_keep_traced v b c k t x (not_is (is_edge_of v (asked b c)) q.0) (not_is (puts v b c) q.1)) p.1

pub runs_traced : RunsTraced
runs_traced v cs h = spared_from v new_board cs new_keeps_rules new_tells (new_traced v) h

pub runs_exact : RunsExact
runs_exact v cs = runs_exact_from v new_board cs false new_keeps_rules new_tells (new_exact v)

-- ---- a held line

abbrev Hears : IoApicState → Type 0
Hears m = (is_version20 m ≡ true) × AllHeard m

runs_hear : (b : Board) (cs : List Call) → Hears b.ioapic → Hears (run b cs).ioapic
unfolding run
runs_hear b [] h = h
runs_hear b (c ∷ cs) h = runs_hear (next b c) cs (chip_keeps_lem Hears (λ m d p. (call_is_version20 m d ∙ p.0, calls_hear m d p.0 p.1)) b c h)

new_hearing : Hears new_board.ioapic
unfolding new_board
new_hearing = (refl, new_hears 0x20 0xfec00000 0x1000)

pub never_forgotten : NeverForgotten
never_forgotten cs g l f t u =
    let e = entry_at (run new_board cs).ioapic g in
    let h : is_heard e ≡ true = (runs_hear new_board cs new_hearing).1.each g l in
    let i : remote_irr e.word ≡ true = implied (is_fit e.word && is_level e.word && e.input_level) (remote_irr e.word) h (rw (f, t, u)) in
    let w : awaits (vector_of e.word) e ≡ true = awaits_yes (vector_of e.word) e (record { vector = eq-eqb (e.word % 256) (e.word % 256) refl; level = t; flight = i }) in
    (i, runs_exact (vector_of e.word) cs g l w)
