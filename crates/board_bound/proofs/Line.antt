-- From the line: a raise that sends, a line that is held, and the whole way from a new board. Assumes nothing.
use Rattle.std.specs.Prelude.{Option, Some}
use Prim.Native.Nat.{ℕ, zero, suc, ◌%◌, ◌≤◌, ◌<◌}
use native.Mathlib.Omega.{arith}
use mathlib.Core.Bool.{Bool, true, false, not, cond, ◌&&◌, ◌||◌}
use mathlib.Core.List.{List, [], ◌∷◌}
use mathlib.Core.Path.{◌≡◌, refl, sym, ap, ◌∙◌}
use mathlib.Core.Logic.{◌⊎◌, inl, inr}
use borrow.Author.Tests.{eqb-true, ne_eqb, ltb-true, ltb-false}
use lib.ListN.{length, get_or}
use lib.Dec.{ltb}
use Rattle.utils.proofs.Bools.{never, and_true, not_is}
use Rattle.types.specs.declared.Gsi.{Gsi}
use Rattle.types.specs.declared.Vector.{Vector}
use Rattle.vioapic_entry.specs.Redirection.{vector_of, is_level, awaits}
use Rattle.vioapic_entry.specs.declared.Entry.{Entry}
use Rattle.vioapic_entry.specs.declared.IoApicInterrupt.{IoApicInterrupt}
use Rattle.vioapic.specs.Table.{no_entry, entry_at, set_level}
use Rattle.vioapic_theorems.proofs.Steps.{awaits_yes, awaiting}
use Rattle.vioapic_theorems.proofs.Views.{level_view}
use Rattle.vlapic_regs.specs.Vectors.{in_words}
use Rattle.vlapic_requests.specs.Requests.{highest}
use Rattle.vlapic_requests.specs.Requests as apic
use Rattle.board.specs.Board.{Board, After, new_board, requested, set_gsi_level, accept_interrupt}
use Rattle.board.specs.Calls.{Call, SetGsiLevel, AcceptInterrupt, HandleEoi, WriteTpr, HandleWrite, Receive, outcome, next, run}
use Rattle.board_theorems.specs.Rules.{BoardRules, Tells}
use Rattle.board_theorems.specs.Traced.{trace, asked, is_edge_of, lost_over}
use Rattle.board_theorems.proofs.Vectors.{put_same, put_other}
use Rattle.board_theorems.proofs.Sent.{Legal, line_legal}
use Rattle.board_theorems.proofs.Rules.{calls_keep_rules, runs_keep_rules, new_keeps_rules}
use Rattle.board_theorems.specs.Highest.{can_pass}
use Rattle.board_theorems.proofs.Highest.{accepts_none}
use Rattle.board_theorems.proofs.Exact.{tells_next, new_tells, never_forgotten}
use Rattle.board_bound.specs.Trace.{is_requested, can_accept, steps_before, steps, is_of, accepts, later, accepted_at, until, obeys, is_new, is_quiet}
use Rattle.board_bound.specs.Bound.{is_held, holds, FromRaise, FromHeld, HeldIsHeard}
use Rattle.board_bound.specs.Forever.{Starves}
use Rattle.planner.proofs.Laws.{some_no, none_at}
use Rattle.board_bound.proofs.Calls.{edge_requests}
use Rattle.board_bound.proofs.Steps.{waits, accept_is, at_least, same_before, request_stays}
use Rattle.board_bound.proofs.Bound.{until_first, until_rest, exactly, bound}
use Rattle.board_bound.proofs.Flight.{holding, flight_stays, trace_stays}

-- ---- a raise that sends

raise_requests : (b : Board) (g : Gsi) (i : IoApicInterrupt) → BoardRules b → (set_gsi_level b g true).answer ≡ Some i → is_requested i.vector (next b (SetGsiLevel g true)) ≡ true
unfolding outcome set_gsi_level apic.request
raise_requests b g i k e =
    let l : Legal (Some i) = rw e at (line_legal b.ioapic g true (set_level b.ioapic g true) (level_view b.ioapic g true)) in
    ap (λ (r : Option IoApicInterrupt). in_words (requested b.apic r).irr i.vector.0) e ∙ put_same b.apic.irr i.vector.0 k.local.eight.0 l.1

-- nothing else changes, so that r and s are as before it
raise_quiet : (b : Board) (g : Gsi) (i : IoApicInterrupt) → BoardRules b → (set_gsi_level b g true).answer ≡ Some i → is_quiet i.vector b (SetGsiLevel g true) ≡ true
unfolding outcome set_gsi_level apic.request
raise_quiet b g i k e = ap not (some_no (is_new i.vector b (SetGsiLevel g true)) 256 (λ u l. at u l (ltb i.vector.0 u) refl))
  where
    at : (u : ℕ) → u < 256 → (c : Bool) → ltb i.vector.0 u ≡ c → is_new i.vector b (SetGsiLevel g true) u ≡ false
    at u l false q = rw q
    at u l true q =
        let n : i.vector.0 < u = ltb-true i.vector.0 u q in
        let same : in_words (requested b.apic (set_level b.ioapic g true).answer).irr u ≡ in_words b.apic.irr u =
        ap (λ (r : Option IoApicInterrupt). in_words (requested b.apic r).irr u) e ∙ put_other b.apic.irr i.vector.0 k.local.eight.0 u l (λ z. omega arith) in
        rw (q, same) (neither (in_words b.apic.irr u))
      where
        neither : (d : Bool) → (not d && d) ≡ false
        neither true = refl
        neither false = refl

pub from_raise : FromRaise
unfolding accepted_at steps accepts
from_raise b g i cs k e f =
    let same : steps_before i.vector b ≡ steps_before i.vector (next b (SetGsiLevel g true)) =
    same_before i.vector b (SetGsiLevel g true) k refl refl (raise_quiet b g i k e) in
    at_once (accepted_at i.vector (next b (SetGsiLevel g true)) cs)
    ∙ bound i.vector (next b (SetGsiLevel g true)) cs (calls_keep_rules b (SetGsiLevel g true) k) (raise_requests b g i k e) f
    ∙ ap (λ (n : ℕ). cond (ltb n (steps cs)) (suc n) 0) (sym same)
  where
    at_once : (n : ℕ) → later false n ≡ n
    at_once zero = refl
    at_once (suc n) = refl

-- ---- a held line

-- v isn't requested: the entry is in flight with v, and v has its trace
record Standing (v : Vector) (g : ℕ) (b : Board) : Type 0 where
  flies : awaits v (entry_at b.ioapic g) ≡ true
  traced : trace v b.apic ≡ true

stands_on : (v : Vector) (g : ℕ) → g < 24 → (b : Board) (c : Call) → BoardRules b → Tells b → Standing v g b → is_held v g (next b c) ≡ true → is_edge_of v (asked b c) ≡ false → Standing v g (next b c)
stands_on v g l b c k t h i e =
    let w : awaits v (entry_at (next b c).ioapic g) ≡ true = flight_stays v b c g k h.flies i in
    record { flies = w; traced = trace_stays v b c g k t l h.traced e w }

stands_waits : (v : Vector) (g : ℕ) (b : Board) → Standing v g b → waits v b ≡ true
stands_waits v g b h = (and_true (in_words b.apic.irr v.0 || in_words b.apic.isr v.0) (in_words b.apic.tmr v.0) h.traced).0

flies_small : (v : Vector) (g : ℕ) (b : Board) → awaits v (entry_at b.ioapic g) ≡ true → v.0 < 256
flies_small v g b h = omega (arith, eqb-true ((entry_at b.ioapic g).word % 256) v.0 (awaiting v (entry_at b.ioapic g) h).vector)

past : (es : List Entry) (g : ℕ) → length es ≤ g → get_or es g no_entry ≡ no_entry
past [] g h = refl
past (e ∷ es) zero h = absurd (omega arith)
past (e ∷ es) (suc g) h = past es g (omega arith)

-- there are 24 entries, and what stands for one behind them is edge-triggered
inside : (g : ℕ) (b : Board) → BoardRules b → is_level (entry_at b.ioapic g).word ≡ true → g < 24
inside g b k h = go (ltb g 24) refl
  where
    go : (d : Bool) → ltb g 24 ≡ d → g < 24
    go true q = ltb-true g 24 q
    go false q =
        let n : 24 ≤ g = ltb-false g 24 q in
        never h (ap (λ (e : Entry). is_level e.word) (past b.ioapic.entries g (omega (arith, k.chip.agrees.table))))

flies_inside : (v : Vector) (g : ℕ) (b : Board) → BoardRules b → awaits v (entry_at b.ioapic g) ≡ true → g < 24
flies_inside v g b k h = inside g b k (awaiting v (entry_at b.ioapic g) h).level

held_inside : (v : Vector) (g : ℕ) (b : Board) → BoardRules b → is_held v g b ≡ true → g < 24
held_inside v g b k h = inside g b k (holding v (entry_at b.ioapic g) h).level

-- so v is requested, or will be
record Heard (v : Vector) (g : ℕ) (b : Board) : Type 0 where
  tells : Tells b
  stands : (is_requested v b ≡ true) ⊎ Standing v g b

heard_waits : (v : Vector) (g : ℕ) (b : Board) → Heard v g b → waits v b ≡ true
heard_waits v g b s = go s.stands
  where
    go : (is_requested v b ≡ true) ⊎ Standing v g b → waits v b ≡ true
    go (inl h) = rw h
    go (inr h) = stands_waits v g b h

heard_on : (v : Vector) (g : ℕ) → v.0 < 256 → g < 24 → (b : Board) (c : Call) → BoardRules b → Heard v g b → obeys b c ≡ true → holds v g b c ≡ true → accepts v b c ≡ false → Heard v g (next b c)
heard_on v g n l b c k s o p a = record { tells = tells_next b c s.tells; stands = go s.stands }
  where
    stand : Standing v g b → (is_requested v (next b c) || is_held v g (next b c)) ≡ true → (d : Bool) → is_requested v (next b c) ≡ d → (is_requested v (next b c) ≡ true) ⊎ Standing v g (next b c)
    stand h p true e = inl e
    stand h p false e = inr (stands_on v g l b c k s.tells h (rw e at p) (quiet (is_edge_of v (asked b c)) refl))
      where
        quiet : (x : Bool) → is_edge_of v (asked b c) ≡ x → is_edge_of v (asked b c) ≡ false
        quiet true q = never (edge_requests v b c k n q) e
        quiet false q = q

    go : (is_requested v b ≡ true) ⊎ Standing v g b → (is_requested v (next b c) ≡ true) ⊎ Standing v g (next b c)
    go (inl h) = inl (request_stays v b k n (heard_waits v g b s) c o a h)
    go (inr h) = already (is_requested v b) refl
      where
        already : (d : Bool) → is_requested v b ≡ d → (is_requested v (next b c) ≡ true) ⊎ Standing v g (next b c)
        already true q = inl (request_stays v b k n (heard_waits v g b s) c o a q)
        already false q = stand h (rw q at p) (is_requested v (next b c)) refl

pub from_held : FromHeld
from_held v g b cs k t h r f n =
    let l : g < 24 = flies_inside v g b k h in
    let small : v.0 < 256 = flies_small v g b h in
    exactly v small (Heard v g) (holds v g) (heard_waits v g) (heard_on v g small l) b cs k (record { tells = t; stands = inr (record { flies = h; traced = r }) }) f n

-- ---- a held line above v

-- what is accepted is its vector, or above it
passes_over : (u v : Vector) (g : ℕ) (b : Board) (c : Call) → BoardRules b → v.0 < u.0 → Standing u g b → accepts v b c ≡ false
unfolding accepts
passes_over u v g b (SetGsiLevel gsi up) k m s = refl
passes_over u v g b AcceptInterrupt k m s = go (can_accept b) refl
  where
    go : (d : Bool) → can_accept b ≡ d → is_of v (accept_interrupt b).answer ≡ false
    go true a =
        let n : u.0 ≤ highest b.apic.irr = at_least u b k (flies_small u g b s.flies) (stands_waits u g b s) a in
        ap (λ (o : After (Option Vector)). is_of v o.answer) (accept_is u b k (flies_small u g b s.flies) (stands_waits u g b s) a) ∙ ne_eqb (highest b.apic.irr) v.0 (λ z. omega arith)
    go false a = ap (λ (o : After (Option Vector)). is_of v o.answer) (accepts_none b (λ w l. none_at (can_pass b.apic) 256 w a l))
passes_over u v g b HandleEoi k m s = refl
passes_over u v g b (WriteTpr x) k m s = refl
passes_over u v g b (HandleWrite addr width x) k m s = refl
passes_over u v g b (Receive w level) k m s = refl

starves_from : (u v : Vector) (g : ℕ) → g < 24 → v.0 < u.0 → (b : Board) (cs : List Call) → BoardRules b → Tells b → Standing u g b
    → until v (λ d c. is_held u g (next d c)) b cs ≡ true → until v (λ d c. not (is_edge_of u (asked d c))) b cs ≡ true → accepted_at v b cs ≡ 0
unfolding accepted_at
starves_from u v g l m b [] k t s h e = refl
starves_from u v g l m b (c ∷ cs) k t s h e =
    let a : accepts v b c ≡ false = passes_over u v g b c k m s in
    let i : is_held u g (next b c) ≡ true = until_first v (λ d c. is_held u g (next d c)) b c cs h in
    let j : is_edge_of u (asked b c) ≡ false = not_is (is_edge_of u (asked b c)) (until_first v (λ d c. not (is_edge_of u (asked d c))) b c cs e) in
    rw (
      a,
      starves_from u v g l m (next b c) cs (calls_keep_rules b c k) (tells_next b c t) (stands_on u g l b c k t s i j)
          (until_rest v (λ d c. is_held u g (next d c)) b c cs h a) (until_rest v (λ d c. not (is_edge_of u (asked d c))) b c cs e a),
    )

pub starves : Starves
starves u v g b cs k t m h r n e = starves_from u v g (flies_inside u g b k h) m b cs k t (record { flies = h; traced = r }) n e

-- ---- from a new board on

runs_tell : (b : Board) (cs : List Call) → Tells b → Tells (run b cs)
unfolding run
runs_tell b [] t = t
runs_tell b (c ∷ cs) t = runs_tell (next b c) cs (tells_next b c t)

pub held_is_heard : HeldIsHeard
held_is_heard before cs v g h n f p =
    let e = holding v (entry_at (run new_board before).ioapic g) h in
    let i : vector_of (entry_at (run new_board before).ioapic g).word ≡ v = ap (λ (m : ℕ). record { 0 = m }) (eqb-true ((entry_at (run new_board before).ioapic g).word % 256) v.0 e.vector) in
    let m = never_forgotten before g (held_inside v g (run new_board before) (runs_keep_rules new_board before new_keeps_rules) h) e.fit e.level e.up in
    let r : trace v (run new_board before).apic ≡ true =
    ap (λ (u : Vector). trace u (run new_board before).apic) (sym i) ∙ m.1 ∙ ap (λ (u : Vector). not (lost_over u new_board before false)) i ∙ ap not n in
    from_held v g (run new_board before) cs (runs_keep_rules new_board before new_keeps_rules) (runs_tell new_board before new_tells)
    (awaits_yes v (entry_at (run new_board before).ioapic g) (record { vector = e.vector; level = e.level; flight = m.0 })) r f p
