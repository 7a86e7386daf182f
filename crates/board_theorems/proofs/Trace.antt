-- The trace of a vector in the local APIC, step by step. Assumes nothing.
use Prim.Native.Nat.{ℕ, ◌<◌}
use mathlib.Core.Bool.{Bool, true, false, not, cond, ◌&&◌, ◌||◌}
use mathlib.Core.Path.{◌≡◌, refl, sym, ap, ◌∙◌}
use borrow.Author.Tests.{eqb-true, eqb-false}
use lib.Dec.{eqb}
use Rattle.utils.proofs.Bools.{and-false}
use Rattle.types.specs.declared.Vector.{Vector}
use Rattle.vlapic.specs.declared.VirtualApicRegs.{VirtualApicRegs}
use Rattle.vlapic_regs.specs.Vectors.{in_words, without_vector}
use Rattle.vlapic_requests.specs.Requests.{ranked, request, taken, ended}
use Rattle.board_theorems.specs.Rules.{LocalRules}
use Rattle.board_theorems.specs.Traced.{trace, Asked, Nobody, Asks, is_level_of, is_edge_of}
use Rattle.board_theorems.proofs.Vectors.{put_same, put_other, take_other, mark_same, mark_other}

-- what is asked for becomes a request
abbrev pub applied : VirtualApicRegs → Asked → VirtualApicRegs
applied s Nobody = s
applied s (Asks v level) = request s v level

-- a trace by its three bits
trace_by : (v : Vector) (s : VirtualApicRegs) (a b c : Bool) → in_words s.irr v.0 ≡ a → in_words s.isr v.0 ≡ b → in_words s.tmr v.0 ≡ c → trace v s ≡ ((a || b) && c)
trace_by v s a b c p q r = rw (p, q, r)

or_true : (b : Bool) → (b || true) ≡ true
or_true true = refl
or_true false = refl

module _ (s : VirtualApicRegs) (k : LocalRules s) (v : Vector) (l : v.0 < 256) where
  -- a request of v decides it
  request_own : (level : Bool) → trace v (request s v level) ≡ level
  unfolding request
  request_own level =
      trace_by v (request s v level) true (in_words s.isr v.0) level (put_same s.irr v.0 k.eight.0 l) refl (mark_same s.tmr v.0 k.eight.2 level l)

  -- and one of another vector leaves it
  request_other : (u : Vector) (level : Bool) → (v.0 ≡ u.0 → ⊥) → trace v (request s u level) ≡ trace v s
  unfolding request
  request_other u level n =
      trace_by v (request s u level) (in_words s.irr v.0) (in_words s.isr v.0) (in_words s.tmr v.0)
      (put_other s.irr u.0 k.eight.0 v.0 l n) refl (mark_other s.tmr u.0 k.eight.2 level v.0 l n)

  -- acceptance of a requested vector leaves it
  pub taken_trace : (u : ℕ) → in_words s.irr u ≡ true → trace v (taken s u) ≡ trace v s
  unfolding ranked
  taken_trace u h = go (eqb v.0 u) refl
    where
      go : (b : Bool) → eqb v.0 u ≡ b → trace v (taken s u) ≡ trace v s
      go true e =
          let i : v.0 ≡ u = eqb-true v.0 u e in
          trace_by v (taken s u) (in_words (without_vector s.irr u) v.0) true (in_words s.tmr v.0) refl (rw (← i) (put_same s.isr v.0 k.eight.1 l)) refl
          ∙ rw (or_true (in_words (without_vector s.irr u) v.0)) (sym (trace_by v s true (in_words s.isr v.0) (in_words s.tmr v.0) (rw i h) refl refl))
      go false e =
          let n : v.0 ≡ u → ⊥ = eqb-false v.0 u e in
          trace_by v (taken s u) (in_words s.irr v.0) (in_words s.isr v.0) (in_words s.tmr v.0)
          (take_other s.irr u k.eight.0 v.0 l n) (put_other s.isr u k.eight.1 v.0 l n) refl

  -- the end of another vector leaves it, and so does the end of v if v is edge-triggered
  pub ended_other : (u : ℕ) → (v.0 ≡ u → ⊥) → trace v (ended s u) ≡ trace v s
  unfolding ranked
  ended_other u n =
      trace_by v (ended s u) (in_words s.irr v.0) (in_words s.isr v.0) (in_words s.tmr v.0) refl (take_other s.isr u k.eight.1 v.0 l n) refl

  pub ended_edge : (u : ℕ) → in_words s.tmr v.0 ≡ false → trace v (ended s u) ≡ trace v s
  unfolding ranked
  ended_edge u e =
      rw (e, and-false (in_words s.irr v.0 || in_words (without_vector s.isr u) v.0), and-false (in_words s.irr v.0 || in_words s.isr v.0))

  -- what is asked for decides it, and else it is as it was
  pub asked_trace : (a : Asked) (rest : Bool) → (is_level_of v a ≡ false → is_edge_of v a ≡ false → trace v s ≡ not rest)
      → trace v (applied s a) ≡ not (cond (is_level_of v a) false (cond (is_edge_of v a) true rest))
  asked_trace Nobody rest h = h refl refl
  asked_trace (Asks u level) rest h = go (eqb u.0 v.0) refl level h
    where
      own : (d : Bool) → u.0 ≡ v.0 → trace v (request s u d) ≡ d
      own d i = let j : u ≡ v = ap (λ (n : ℕ). record { 0 = n }) i in rw j (request_own d)

      go : (b : Bool) → eqb u.0 v.0 ≡ b → (d : Bool) → ((b && d) ≡ false → (b && not d) ≡ false → trace v s ≡ not rest)
          → trace v (request s u d) ≡ not (cond (b && d) false (cond (b && not d) true rest))
      go true e true f = own true (eqb-true u.0 v.0 e)
      go true e false f = own false (eqb-true u.0 v.0 e)
      go false e d f = request_other u d (λ i. eqb-false u.0 v.0 e (sym i)) ∙ f refl refl
