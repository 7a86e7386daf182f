-- What each call leaves of the registers of requests and of vectors in service. Assumes nothing.
use Rattle.std.specs.Prelude.{None}
use Prim.Native.Nat.{ℕ, ◌/◌, ◌%◌, ◌≤◌, ◌<◌}
use native.Mathlib.Omega.{arith}
use mathlib.Core.Bool.{Bool, true, false, not, cond}
use mathlib.Core.List.{List}
use mathlib.Core.Path.{◌≡◌, refl, sym, ap, ◌∙◌}
use borrow.Author.Tests.{eqb-true, eqb-false, ne_eqb, lt-ltb, leb-true, leb-false}
use lib.Dec.{eqb, leb, ltb}
use lib.ListN.{length, get_or-eq_default}
use Rattle.utils.proofs.Bools.{never, and_true, not_is}
use Rattle.utils.proofs.Laws.{bit_none}
use Rattle.types.specs.declared.Vector.{Vector}
use Rattle.planner.proofs.Laws.{none_at}
use Rattle.vioapic.specs.Table.{set_level}
use Rattle.vioapic.specs.IoApic.{handle_writing}
use Rattle.vlapic.specs.declared.VirtualApicRegs.{VirtualApicRegs}
use Rattle.vlapic_regs.specs.Vectors.{in_words}
use Rattle.vlapic_requests.specs.Requests.{highest, ranked, received_illegal, ended}
use Rattle.vlapic_requests.specs.Requests as apic
use Rattle.board.specs.Board.{Board, set_gsi_level, accept_interrupt, handle_eoi, write_tpr, handle_write, receive}
use Rattle.board.specs.Calls.{Call, SetGsiLevel, AcceptInterrupt, HandleEoi, WriteTpr, HandleWrite, Receive, outcome, next}
use Rattle.board_theorems.specs.Rules.{BoardRules}
use Rattle.board_theorems.specs.Traced.{Asked, Nobody, Asks, asked, is_edge_of}
use Rattle.board_theorems.proofs.Vectors.{put_same, put_other}
use Rattle.board_theorems.proofs.Trace.{applied}
use Rattle.board_theorems.proofs.Exact.{requested_is, write_is, told_is}
use Rattle.board_bound.specs.Trace.{is_step, is_new, is_quiet}

-- a vector in the words is below 256
pub in_small : (words : List ℕ) (v : ℕ) → length words ≡ 8 → in_words words v ≡ true → v < 256
in_small words v n h = go (leb 256 v) refl
  where
    go : (b : Bool) → leb 256 v ≡ b → v < 256
    go false e = leb-false 256 v e
    go true e =
        let l : length words ≤ v / 32 = omega (arith, leb-true 256 v e) in
        never h (rw (get_or-eq_default words 0 {n = v / 32} l) (bit_none (v % 32)))

-- ---- the local APIC before what a call asks for becomes a request

abbrev before : Board → Call → VirtualApicRegs
before b (SetGsiLevel gsi up) = b.apic
before b AcceptInterrupt = (apic.accept b.apic).state
before b HandleEoi = (apic.end_highest b.apic).state
before b (WriteTpr x) = apic.write_tpr b.apic x
before b (HandleWrite addr width x) = b.apic
before b (Receive u level) = cond (ltb u.0 16) (received_illegal b.apic) b.apic

next_is : (b : Board) (c : Call) → (next b c).apic ≡ applied (before b c) (asked b c)
unfolding outcome set_gsi_level accept_interrupt handle_eoi write_tpr handle_write receive asked apic.receive
next_is b (SetGsiLevel gsi up) = requested_is b.apic (set_level b.ioapic gsi up).answer
next_is b AcceptInterrupt = refl
next_is b HandleEoi = told_is b.ioapic (apic.end_highest b.apic).state (apic.end_highest b.apic).answer
next_is b (WriteTpr x) = refl
next_is b (HandleWrite addr width x) = write_is b.apic x (handle_writing b.ioapic addr width x).answer
next_is b (Receive u level) = go (ltb u.0 16)
  where
    go : (c : Bool) → cond c (received_illegal b.apic) (apic.request b.apic u level) ≡ applied (cond c (received_illegal b.apic) b.apic) (cond c Nobody (Asks u level))
    go true = refl
    go false = refl

applied_isr : (s : VirtualApicRegs) (a : Asked) → (applied s a).isr ≡ s.isr
unfolding apic.request
applied_isr s Nobody = refl
applied_isr s (Asks w level) = refl

applied_irr : (s : VirtualApicRegs) (a : Asked) (u : ℕ) → length s.irr ≡ 8 → u < 256 → in_words s.irr u ≡ true → in_words (applied s a).irr u ≡ true
unfolding apic.request
applied_irr s Nobody u n l h = h
applied_irr s (Asks w level) u n l h = go (eqb u w.0) refl
  where
    go : (b : Bool) → eqb u w.0 ≡ b → in_words (apic.request s w level).irr u ≡ true
    go true e = let i : u ≡ w.0 = eqb-true u w.0 e in rw i (put_same s.irr w.0 n (omega arith))
    go false e = put_other s.irr w.0 n u l (eqb-false u w.0 e) ∙ h

end_irr : (s : VirtualApicRegs) → (apic.end_highest s).state.irr ≡ s.irr
unfolding apic.end_highest ranked
end_irr s = go (eqb (highest s.isr) 0)
  where
    go : (b : Bool) → (cond b (apic.after s None) (apic.ending s (highest s.isr))).state.irr ≡ s.irr
    go true = refl
    go false = refl

-- only acceptance takes a request away
abbrev pub is_acceptance : Call → Bool
is_acceptance AcceptInterrupt = true
is_acceptance (SetGsiLevel gsi up) = false
is_acceptance HandleEoi = false
is_acceptance (WriteTpr x) = false
is_acceptance (HandleWrite addr width x) = false
is_acceptance (Receive u level) = false

before_irr : (b : Board) (c : Call) → is_acceptance c ≡ false → (before b c).irr ≡ b.apic.irr
unfolding apic.write_tpr ranked
before_irr b (SetGsiLevel gsi up) n = refl
before_irr b AcceptInterrupt n = never refl n
before_irr b HandleEoi n = end_irr b.apic
before_irr b (WriteTpr x) n = refl
before_irr b (HandleWrite addr width x) n = refl
before_irr b (Receive u level) n = go (ltb u.0 16)
  where
    go : (c : Bool) → (cond c (received_illegal b.apic) b.apic).irr ≡ b.apic.irr
    go true = refl
    go false = refl

pub stays_requested : (b : Board) (c : Call) (u : ℕ) → BoardRules b → is_acceptance c ≡ false → u < 256 → in_words b.apic.irr u ≡ true → in_words (next b c).apic.irr u ≡ true
stays_requested b c u k n l h =
    ap (λ (s : VirtualApicRegs). in_words s.irr u) (next_is b c)
    ∙ applied_irr (before b c) (asked b c) u (ap length (before_irr b c n) ∙ k.local.eight.0) l (ap (λ (w : List ℕ). in_words w u) (before_irr b c n) ∙ h)

-- an edge request that is asked for is there
applied_asked : (s : VirtualApicRegs) (a : Asked) (v : Vector) → length s.irr ≡ 8 → v.0 < 256 → is_edge_of v a ≡ true → in_words (applied s a).irr v.0 ≡ true
unfolding apic.request
applied_asked s Nobody v n l h = never h refl
applied_asked s (Asks u level) v n l h =
    let i : u.0 ≡ v.0 = eqb-true u.0 v.0 (and_true (eqb u.0 v.0) (not level) h).0 in
    rw i (put_same s.irr v.0 n l)

pub edge_requests : (v : Vector) (b : Board) (c : Call) → BoardRules b → v.0 < 256 → is_edge_of v (asked b c) ≡ true → in_words (next b c).apic.irr v.0 ≡ true
unfolding asked
edge_requests v b c k l h =
    ap (λ (s : VirtualApicRegs). in_words s.irr v.0) (next_is b c)
    ∙ applied_asked (before b c) (asked b c) v (ap length (before_irr b c (asks_not c h)) ∙ k.local.eight.0) l h
  where
    asks_not : (c : Call) → is_edge_of v (asked b c) ≡ true → is_acceptance c ≡ false
    asks_not (SetGsiLevel gsi up) h = refl
    asks_not AcceptInterrupt h = never h refl
    asks_not HandleEoi h = refl
    asks_not (WriteTpr x) h = refl
    asks_not (HandleWrite addr width x) h = refl
    asks_not (Receive u level) h = refl

-- so above v the requests stay, where no call is new there
pub same_above : (v : Vector) (b : Board) (c : Call) (u : ℕ) → BoardRules b → is_acceptance c ≡ false → is_quiet v b c ≡ true → v.0 < u → u < 256
    → in_words (next b c).apic.irr u ≡ in_words b.apic.irr u
same_above v b c u k n q a l = go (in_words b.apic.irr u) refl
  where
    none : is_new v b c u ≡ false
    none = none_at (is_new v b c) 256 u (not_is _ q) l

    go : (d : Bool) → in_words b.apic.irr u ≡ d → in_words (next b c).apic.irr u ≡ in_words b.apic.irr u
    go true e = stays_requested b c u k n l e ∙ sym e
    go false e = (rw (lt-ltb v.0 u a, e) at none) ∙ sym e

-- ---- in service: only a step changes it

pub same_service : (b : Board) (c : Call) → is_step c ≡ false → (next b c).apic.isr ≡ b.apic.isr
unfolding apic.write_tpr ranked
same_service b (SetGsiLevel gsi up) n = ap (λ (s : VirtualApicRegs). s.isr) (next_is b (SetGsiLevel gsi up)) ∙ applied_isr b.apic (asked b (SetGsiLevel gsi up))
same_service b AcceptInterrupt n = never refl n
same_service b HandleEoi n = never refl n
same_service b (WriteTpr x) n = ap (λ (s : VirtualApicRegs). s.isr) (next_is b (WriteTpr x)) ∙ applied_isr (apic.write_tpr b.apic x) (asked b (WriteTpr x))
same_service b (HandleWrite addr width x) n = ap (λ (s : VirtualApicRegs). s.isr) (next_is b (HandleWrite addr width x)) ∙ applied_isr b.apic (asked b (HandleWrite addr width x))
same_service b (Receive u level) n = ap (λ (s : VirtualApicRegs). s.isr) (next_is b (Receive u level)) ∙ applied_isr (before b (Receive u level)) (asked b (Receive u level)) ∙ go (ltb u.0 16)
  where
    go : (c : Bool) → (cond c (received_illegal b.apic) b.apic).isr ≡ b.apic.isr
    go true = refl
    go false = refl

-- an EOI takes the highest vector away
pub ended_service : (b : Board) → (highest b.apic.isr ≡ 0 → ⊥) → (next b HandleEoi).apic.isr ≡ (ended b.apic (highest b.apic.isr)).isr
unfolding apic.end_highest
ended_service b h =
    ap (λ (s : VirtualApicRegs). s.isr) (next_is b HandleEoi)
    ∙ applied_isr (apic.end_highest b.apic).state (asked b HandleEoi)
    ∙ rw (ne_eqb (highest b.apic.isr) 0 h)
