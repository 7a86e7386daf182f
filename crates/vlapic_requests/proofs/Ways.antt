-- A law for each way that a call goes. Assumes nothing.
use Rattle.std.specs.Prelude.{Option, Some, None}
use Prim.Native.Nat.{ℕ, ◌^◌, ◌≤◌, ◌<◌}
use native.Mathlib.Omega.{arith}
use mathlib.Core.Bool.{Bool, true, false, cond}
use mathlib.Core.List.{List}
use mathlib.Core.Logic.{inl}
use mathlib.Core.Path.{◌≡◌, refl, sym, ap, ◌∙◌}
use lib.Dec.{eqb, ltb}
use lib.ListN.{length, get_or, set, length-set}
use borrow.Author.Tests.{lt-ltb, le-ltb, eq-eqb, ne_eqb}
use Rattle.utils.specs.Set.{with}
use Rattle.utils.specs.Vectors.{class_of}
use Rattle.utils.proofs.Laws.{with_lt}
use Rattle.utils.proofs.Search.{last_lt}
use Rattle.types.specs.declared.Vector.{Vector}
use Rattle.vlapic_regs.specs.Vectors.{in_words, highest_from}
use Rattle.vlapic_regs.specs.Register.{low_byte, broadcast}
use Rattle.vlapic_regs.proofs.Highest.{served}
use Rattle.vlapic.specs.declared.VirtualApicRegs.{VirtualApicRegs}
use Rattle.vlapic.specs.Regs.{with_isr, with_tmr, with_tpr}
use Rattle.vlapic.specs.Priority.{broadcasts}
use Rattle.vlapic_words.specs.Words.{word, eight, view}
use Rattle.vlapic_words.specs.Calls.{Stored}
use Rattle.vlapic_words.specs.Steps.{marked_in}
use Rattle.vlapic_words.proofs.View.{cut_small, put_view, moved, mark_isr, mark_tmr, stored_set, stored_then}
use Rattle.vlapic_requests.specs.Requests.{after, with_irr, highest, ranked, request, received_illegal, receive, is_acceptable, taken, accept, ended, end_highest, write_tpr}
use Rattle.vlapic_requests.specs.Promise.{Becomes, Answers, ranked_words}
use Rattle.vlapic_requests.proofs.View.{mark_irr, rank_view, stored_mark, stored_rank}

-- the highest vector is a byte
pub highest_small : (words : List ℕ) → highest words < 256
unfolding highest_from
highest_small words = last_lt 256 (served 16 words) (omega arith)

same_stored : (l : List ℕ) → Stored l l
same_stored l k b = inl refl

module _ (l : List ℕ) (n : length l ≡ 48) where
  -- ---- a request

  pub request_way : (a m : List ℕ) (v : Vector) (level : Bool) → v.0 < 256 → a ≡ marked_in l 34 v.0 true → m ≡ marked_in a 26 v.0 level → Becomes l m (request (view l) v level)
  unfolding request
  request_way a m v level h ea em =
      let v₀ = v.0 in
      let na : length a ≡ 48 = rw ea (simp length-set n) in
      let va : view a ≡ with_irr (view l) (moved (view l).irr v₀ true) = rw ea (mark_irr l n v₀ true h) in
      let vm : view m ≡ with_tmr (view a) (moved (view a).tmr v₀ level) = rw em (mark_tmr a na v₀ level h) in
      record {
        registers = vm ∙ ap (λ (s : VirtualApicRegs). with_tmr s (moved s.tmr v₀ level)) va;
        stored = rw em (stored_then l a (marked_in a 26 v₀ level) (rw ea (stored_mark l 34 v₀ true n h (omega arith) (omega arith))) (stored_mark a 26 v₀ level na h (omega arith) (omega arith)));
      }

  -- ---- a message

  pub illegal_way : (m : List ℕ) (pending noted : ℕ) → pending ≡ word l 8 → noted ≡ with pending 6 → m ≡ set l 8 noted → Becomes l m (received_illegal (view l))
  unfolding view
  illegal_way m pending noted ep en em =
      let b : with (word l 8) 6 < 2 ^ 32 = with_lt 32 (word l 8) 6 (cut_small (get_or l 8 0)) (omega arith) in
      rw (em, en, ep)
      record {
        registers = put_view l n 8 (with (word l 8) 6) (omega arith) (omega arith) b;
        stored = stored_set l 8 (with (word l 8) 6) n (omega arith, omega arith) b;
      }

  -- ---- TPR

  pub tpr_way : (a m : List ℕ) (x value : ℕ) → x ≡ low_byte value → a ≡ set l 2 x → m ≡ ranked_words a → Becomes l m (write_tpr (view l) value)
  unfolding write_tpr
  tpr_way a m x value ex ea em =
      let b : x < 2 ^ 32 = rw ex (omega arith) in
      let na : length a ≡ 48 = rw ea (simp length-set n) in
      let va : view a ≡ with_tpr (view l) x = rw ea (put_view l n 2 x (omega arith) (omega arith) b) in
      record {
        registers = ap view em ∙ rank_view a na ∙ ap ranked (va ∙ ap (with_tpr (view l)) ex);
        stored = rw em (stored_then l a (ranked_words a) (rw ea (stored_set l 2 x n (omega arith, omega arith) b)) (stored_rank a na));
      }

  -- ---- acceptance

  taken_view : (a b : List ℕ) (v : ℕ) → v < 256 → a ≡ marked_in l 34 v false → b ≡ marked_in a 18 v true → view (ranked_words b) ≡ taken (view l) v
  taken_view a b v h ea eb =
      let na : length a ≡ 48 = rw ea (simp length-set n) in
      let nb : length b ≡ 48 = rw eb (simp length-set na) in
      let va : view a ≡ with_irr (view l) (moved (view l).irr v false) = rw ea (mark_irr l n v false h) in
      let vb : view b ≡ with_isr (view a) (moved (view a).isr v true) = rw eb (mark_isr a na v true h) in
      rank_view b nb ∙ ap ranked (vb ∙ ap (λ (s : VirtualApicRegs). with_isr s (moved s.isr v true)) va)

  taken_stored : (a b : List ℕ) (v : ℕ) → v < 256 → a ≡ marked_in l 34 v false → b ≡ marked_in a 18 v true → Stored l (ranked_words b)
  taken_stored a b v h ea eb =
      let na : length a ≡ 48 = rw ea (simp length-set n) in
      let nb : length b ≡ 48 = rw eb (simp length-set na) in
      stored_then l b (ranked_words b)
      (rw eb (stored_then l a (marked_in a 18 v true) (rw ea (stored_mark l 34 v false n h (omega arith) (omega arith))) (stored_mark a 18 v true na h (omega arith) (omega arith))))
      (stored_rank b nb)

  module _ (v : Vector) (e : v.0 ≡ highest (eight l 34)) (ppr p q : ℕ) (ep : ppr ≡ word l 3) (eq : q ≡ class_of ppr) (er : p ≡ class_of v.0) where
    test : is_acceptable (view l) ≡ ltb q p
    unfolding view
    test = rw (er, eq, ep, e)

    pub accept_no : p ≤ q → Answers (Option Vector) l l None (accept (view l))
    unfolding accept
    accept_no h = record { outcome = rw (test, le-ltb q p h); stored = same_stored l }

    pub accept_yes : (a b m : List ℕ) → q < p → a ≡ marked_in l 34 v.0 false → b ≡ marked_in a 18 v.0 true → m ≡ ranked_words b → Answers (Option Vector) l m (Some v) (accept (view l))
    unfolding accept view
    accept_yes a b m h ea eb em =
        let s : v.0 < 256 = rw e (highest_small (eight l 34)) in
        let k : ◌≡◌ {A = Vector} (record { 0 = highest (eight l 34) }) v = ap (λ (x : ℕ). record { 0 = x }) (sym e) in
        record {
          outcome =
              ap (λ (w : List ℕ). after (view w) (Some v)) em
              ∙ ap (λ (w : VirtualApicRegs). after w (Some v)) (taken_view a b v.0 s ea eb)
              ∙ rw (test, lt-ltb q p h, k, ← e);
          stored = rw em (taken_stored a b v.0 s ea eb);
        }

  -- ---- EOI

  module _ (v : Vector) (e : v.0 ≡ highest (eight l 18)) where
    pub end_none : v.0 ≡ 0 → Answers (Option Vector) l l None (end_highest (view l))
    unfolding end_highest view
    end_none z = record { outcome = rw (← e, eq-eqb v.0 0 z); stored = same_stored l }

    module _ (a m : List ℕ) (level told : Bool) (svr : ℕ) (z : v.0 ≡ 0 → ⊥) (el : level ≡ in_words (eight l 26) v.0) (es : svr ≡ word l 6) (et : told ≡ broadcast level svr)
        (ea : a ≡ marked_in l 18 v.0 false) (em : m ≡ ranked_words a) where
      small : v.0 < 256
      small = rw e (highest_small (eight l 18))

      len : length a ≡ 48
      len = rw ea (simp length-set n)

      ended_view : view m ≡ ended (view l) v.0
      ended_view = ap view em ∙ rank_view a len ∙ ap ranked (rw ea (mark_isr l n v.0 false small))

      ended_stored : Stored l m
      ended_stored = rw em (stored_then l a (ranked_words a) (rw ea (stored_mark l 18 v.0 false n small (omega arith) (omega arith))) (stored_rank a len))

      ended_is : (b : Bool) (r : Option Vector) → told ≡ b → r ≡ cond b (Some v) None → after (view m) r ≡ end_highest (view l)
      unfolding end_highest view
      ended_is b r eb er =
          let p : eqb (highest (eight l 18)) 0 ≡ false = rw (← e) (ne_eqb v.0 0 z) in
          let q : broadcasts (view l) v.0 ≡ b = rw (← el, ← es, ← et) eb in
          let k : ◌≡◌ {A = Vector} (record { 0 = v.0 }) v = refl in
          rw er (ap (λ (w : VirtualApicRegs). after w (cond b (Some v) None)) ended_view ∙ rw (p, ← e, q))

      pub end_told : told ≡ true → Answers (Option Vector) l m (Some v) (end_highest (view l))
      end_told t = record { outcome = ended_is true (Some v) t refl; stored = ended_stored }

      pub end_silent : told ≡ false → Answers (Option Vector) l m None (end_highest (view l))
      end_silent t = record { outcome = ended_is false None t refl; stored = ended_stored }

-- a message goes either way
pub receive_low : (l m : List ℕ) (v : Vector) (level : Bool) → v.0 < 16 → Becomes l m (received_illegal (view l)) → Becomes l m (receive (view l) v level)
unfolding receive
receive_low l m v level h b = rw (lt-ltb v.0 16 h) b

pub receive_legal : (l m : List ℕ) (v : Vector) (level : Bool) → 16 ≤ v.0 → Becomes l m (request (view l) v level) → Becomes l m (receive (view l) v level)
unfolding receive
receive_legal l m v level h b = rw (le-ltb v.0 16 h) b
