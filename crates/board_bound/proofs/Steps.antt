-- One call: while v waits, 2r + s falls by one at a step and stays at any other call, and v is accepted where a step finds it 0. Assumes nothing.
use Rattle.std.specs.Prelude.{Option, Some}
use Prim.Native.Nat.{ℕ, ◌+◌, ◌*◌, ◌≤◌, ◌<◌}
use native.Mathlib.Omega.{arith}
use mathlib.Core.Bool.{Bool, true, false, cond, ◌&&◌, ◌||◌}
use mathlib.Core.List.{List}
use mathlib.Core.Path.{◌≡◌, refl, sym, ap, ◌∙◌}
use borrow.Author.Tests.{eqb-true, eqb-false, eq-eqb, ne_eqb, lt-ltb, ltb-true, ltb-false, le-leb, leb-true, leb-false}
use lib.Dec.{eqb, leb, ltb}
use Rattle.utils.specs.Vectors.{class_of}
use Rattle.utils.proofs.Bools.{never, and_true, and-false, not_is}
use Rattle.types.specs.Reply.{flag}
use Rattle.types.specs.declared.Vector.{Vector}
use Rattle.planner.specs.Lines.{some, count}
use Rattle.planner.proofs.Laws.{some_found, some_no}
use Rattle.planner_theorems.proofs.Counting.{count_same}
use Rattle.vlapic.specs.declared.VirtualApicRegs.{VirtualApicRegs}
use Rattle.vlapic_regs.specs.Vectors.{in_words, without_vector}
use Rattle.vlapic_regs.specs.Register.{priority}
use Rattle.vlapic_requests.specs.Requests.{highest, ranked, is_acceptable, taken, ended}
use Rattle.vlapic_requests.specs.Requests as apic
use Rattle.board.specs.Board.{Board, After, after, accept_interrupt}
use Rattle.board.specs.Calls.{Call, SetGsiLevel, AcceptInterrupt, HandleEoi, WriteTpr, HandleWrite, Receive, outcome, next}
use Rattle.board_theorems.specs.Rules.{LocalRules, BoardRules}
use Rattle.board_theorems.specs.Highest.{can_pass}
use Rattle.board_theorems.proofs.Vectors.{put_same, put_other, take_same, take_other}
use Rattle.board_theorems.proofs.Rules.{highest_small, highest_in}
use Rattle.board_theorems.proofs.Highest.{highest_top, pass_legal}
use Rattle.board_bound.specs.Trace.{is_requested, can_accept, is_above, requests_above, is_before, served_before, steps_before, is_step, is_of, accepts, obeys, tpr_below, is_quiet}
use Rattle.board_bound.proofs.Counting.{count_one, count_no}
use Rattle.board_bound.proofs.Calls.{is_acceptance, stays_requested, same_above, same_service, ended_service}

-- ---- priorities

class_mono : (u w : ℕ) → u ≤ w → w < 256 → class_of u ≤ class_of w
class_mono u w h l = omega arith

module _ (s : VirtualApicRegs) (k : LocalRules s) where
  legal_request : (u : ℕ) → in_words s.irr u ≡ true → 16 ≤ u
  legal_request u h = go (leb 16 u) refl
    where
      go : (b : Bool) → leb 16 u ≡ b → 16 ≤ u
      go true e = leb-true 16 u e
      go false e = never h (k.legal u (leb-false 16 u e)).0

  legal_service : (u : ℕ) → in_words s.isr u ≡ true → 16 ≤ u
  legal_service u h = go (leb 16 u) refl
    where
      go : (b : Bool) → leb 16 u ≡ b → 16 ≤ u
      go true e = leb-true 16 u e
      go false e = never h (k.legal u (leb-false 16 u e)).1

  -- PPR's class is that of TPR or that of the highest vector in service, whichever is higher
  ppr_class : (class_of (highest s.isr) ≤ class_of s.ppr) × ((c : ℕ) → class_of s.tpr < c → c ≤ class_of s.ppr → c ≤ class_of (highest s.isr))
  unfolding priority
  ppr_class = rw k.ppr (go (leb (class_of (highest s.isr)) (class_of s.tpr)) refl)
    where
      go : (b : Bool) → leb (class_of (highest s.isr)) (class_of s.tpr) ≡ b
          → (class_of (highest s.isr) ≤ class_of (cond b s.tpr (class_of (highest s.isr) * 16)))
          × ((c : ℕ) → class_of s.tpr < c → c ≤ class_of (cond b s.tpr (class_of (highest s.isr) * 16)) → c ≤ class_of (highest s.isr))
      go true e = (leb-true (class_of (highest s.isr)) (class_of s.tpr) e, λ c l m. absurd (omega arith))
      go false e = (omega arith, λ c l m. omega arith)

  -- nothing in service is of a class above PPR's
  service_class : (u : ℕ) → u < 256 → in_words s.isr u ≡ true → class_of u ≤ class_of s.ppr
  service_class u l h =
      let a : u ≤ highest s.isr = highest_top s.isr u (legal_service u h) l h in
      let b : class_of u ≤ class_of (highest s.isr) = class_mono u (highest s.isr) a (highest_small s.isr) in
      omega (arith, ppr_class.0)

-- something can be accepted exactly if the highest request can
acceptable : (s : VirtualApicRegs) → some 256 (can_pass s) ≡ is_acceptable s
acceptable s = go (is_acceptable s) refl
  where
    go : (b : Bool) → is_acceptable s ≡ b → some 256 (can_pass s) ≡ b
    go true e =
        let l : class_of s.ppr < class_of (highest s.irr) = ltb-true (class_of s.ppr) (class_of (highest s.irr)) e in
        let i : in_words s.irr (highest s.irr) ≡ true = highest_in s.irr (λ z. omega arith) in
        some_found (can_pass s) 256 (highest s.irr) (highest_small s.irr) (rw (i, e))
    go false e = some_no (can_pass s) 256 (λ u l. at u l (can_pass s u) refl)
      where
        at : (u : ℕ) → u < 256 → (b : Bool) → can_pass s u ≡ b → can_pass s u ≡ false
        at u l false q = q
        at u l true q =
            let p = pass_legal s u q in
            let a : u ≤ highest s.irr = highest_top s.irr u p.2 l p.0 in
            let m : class_of u ≤ class_of (highest s.irr) = class_mono u (highest s.irr) a (highest_small s.irr) in
            let n : class_of (highest s.irr) ≤ class_of s.ppr = ltb-false (class_of s.ppr) (class_of (highest s.irr)) e in
            absurd (omega (arith, p.1))

-- ---- sums

one_less : (r r' s s' : ℕ) → r ≡ r' + 1 → s' ≡ s + 1 → 2 * r + s ≡ 2 * r' + s' + 1
one_less r r' s s' p q = omega arith

ended_less : (r r' s s' : ℕ) → r ≡ r' → s ≡ s' + 1 → 2 * r + s ≡ 2 * r' + s' + 1
ended_less r r' s s' p q = omega arith

same_sum : (r r' s s' : ℕ) → r ≡ r' → s ≡ s' → 2 * r + s ≡ 2 * r' + s'
same_sum r r' s s' p q = omega arith

-- above v nothing changes at a call that is no acceptance and asks for nothing new there
quiet_requests : (v : Vector) (b : Board) (c : Call) → BoardRules b → is_acceptance c ≡ false → is_quiet v b c ≡ true → requests_above v b ≡ requests_above v (next b c)
unfolding requests_above
quiet_requests v b c k n q = count_same 256 (is_above v b) (is_above v (next b c)) (λ u m. at u m (ltb v.0 u) refl)
  where
    at : (u : ℕ) → u < 256 → (d : Bool) → ltb v.0 u ≡ d → is_above v b u ≡ is_above v (next b c) u
    at u m true e = ap (λ (d : Bool). ltb v.0 u && d) (sym (same_above v b c u k n q (ltb-true v.0 u e) m))
    at u m false e = rw e

same_served : (v : Vector) (b : Board) (c : Call) → is_step c ≡ false → served_before v b ≡ served_before v (next b c)
unfolding served_before
same_served v b c n = ap (λ (w : List ℕ). count 256 (λ u. leb (class_of v.0) (class_of u) && in_words w u)) (sym (same_service b c n))

taken_irr : (s : VirtualApicRegs) (h u : ℕ) → in_words (taken s h).irr u ≡ in_words (without_vector s.irr h) u
unfolding ranked
taken_irr s h u = refl

-- ---- the two steps

-- v waits: it is requested, or in service (a held line's)
abbrev pub is_in_service : Vector → Board → Bool
is_in_service v b = in_words b.apic.isr v.0

abbrev pub waits : Vector → Board → Bool
waits v b = is_requested v b || is_in_service v b

module _ (v : Vector) (b : Board) (k : BoardRules b) (l : v.0 < 256) (w : waits v b ≡ true) where
  -- acceptance

  module _ (a : can_accept b ≡ true) where
    passes : class_of b.apic.ppr < class_of (highest b.apic.irr)
    passes = ltb-true (class_of b.apic.ppr) (class_of (highest b.apic.irr)) (sym (acceptable b.apic) ∙ a)

    requested : in_words b.apic.irr (highest b.apic.irr) ≡ true
    requested = highest_in b.apic.irr (λ z. let p = passes in omega arith)

    small : highest b.apic.irr < 256
    small = highest_small b.apic.irr

    pub accept_is : accept_interrupt b ≡ after b.ioapic (taken b.apic (highest b.apic.irr)) (Some (record { 0 = highest b.apic.irr }))
    unfolding accept_interrupt apic.accept
    accept_is = rw (sym (acceptable b.apic) ∙ a)

    -- what is accepted is v, or above it
    pub at_least : v.0 ≤ highest b.apic.irr
    at_least = go (is_requested v b) refl (is_in_service v b) refl
      where
        go : (c : Bool) → is_requested v b ≡ c → (d : Bool) → is_in_service v b ≡ d → v.0 ≤ highest b.apic.irr
        go true e d f = highest_top b.apic.irr v.0 (legal_request b.apic k.local v.0 e) l e
        go false e true f =
            let m : class_of v.0 ≤ class_of b.apic.ppr = service_class b.apic k.local v.0 l f in
            omega (arith, passes, small)
        go false e false f = never w (rw (e, f))

    -- it is v: nothing goes before it
    own_none : highest b.apic.irr ≡ v.0 → steps_before v b ≡ 0
    unfolding requests_above served_before
    own_none e = rw (count_no 256 (is_above v b) (λ u m. above u m (is_above v b u) refl), count_no 256 (is_before v b) (λ u m. ahead u m (is_before v b u) refl))
      where
        above : (u : ℕ) → u < 256 → (c : Bool) → is_above v b u ≡ c → is_above v b u ≡ false
        above u m false q = q
        above u m true q =
            let p = and_true (ltb v.0 u) (in_words b.apic.irr u) q in
            let g : v.0 < u = ltb-true v.0 u p.0 in
            absurd (omega (arith, highest_top b.apic.irr u (legal_request b.apic k.local u p.1) m p.1))

        ahead : (u : ℕ) → u < 256 → (c : Bool) → is_before v b u ≡ c → is_before v b u ≡ false
        ahead u m false q = q
        ahead u m true q =
            let p = and_true (leb (class_of v.0) (class_of u)) (in_words b.apic.isr u) q in
            let g : class_of v.0 ≤ class_of u = leb-true (class_of v.0) (class_of u) p.0 in
            let i : class_of (highest b.apic.irr) ≡ class_of v.0 = ap class_of e in
            absurd (omega (arith, service_class b.apic k.local u m p.1, passes))

    -- it is above v: a request less, a vector in service more
    abbrev left_by : Board
    left_by = record { ioapic = b.ioapic; apic = taken b.apic (highest b.apic.irr) }

    pub accepted_is : next b AcceptInterrupt ≡ record { ioapic = b.ioapic; apic = taken b.apic (highest b.apic.irr) }
    unfolding outcome
    accepted_is = ap (λ (o : After (Option Vector)). o.board) accept_is

    fewer_requests : v.0 < highest b.apic.irr → requests_above v b ≡ requests_above v left_by + 1
    unfolding requests_above ranked
    fewer_requests higher =
        count_one 256 (is_above v b) (is_above v left_by) (highest b.apic.irr) small (rw (lt-ltb v.0 (highest b.apic.irr) higher, requested))
        (rw (take_same b.apic.irr (highest b.apic.irr) k.local.eight.0 small) (and-false (ltb v.0 (highest b.apic.irr))))
        (λ u m d. ap (λ (c : Bool). ltb v.0 u && c) (sym (take_other b.apic.irr (highest b.apic.irr) k.local.eight.0 u m d)))

    more_served : served_before v left_by ≡ served_before v b + 1
    unfolding served_before ranked
    more_served =
        count_one 256 (is_before v left_by) (is_before v b) (highest b.apic.irr) small
        (rw (le-leb (class_of v.0) (class_of (highest b.apic.irr)) (class_mono v.0 (highest b.apic.irr) at_least small)) (put_same b.apic.isr (highest b.apic.irr) k.local.eight.1 small))
        (rw (unserved (in_words b.apic.isr (highest b.apic.irr)) refl) (and-false (leb (class_of v.0) (class_of (highest b.apic.irr)))))
        (λ u m d. ap (λ (c : Bool). leb (class_of v.0) (class_of u) && c) (put_other b.apic.isr (highest b.apic.irr) k.local.eight.1 u m d))
      where
        unserved : (c : Bool) → in_words b.apic.isr (highest b.apic.irr) ≡ c → in_words b.apic.isr (highest b.apic.irr) ≡ false
        unserved true e = absurd (omega (arith, service_class b.apic k.local (highest b.apic.irr) small e, passes))
        unserved false e = e

    other_falls : (highest b.apic.irr ≡ v.0 → ⊥) → steps_before v b ≡ steps_before v (next b AcceptInterrupt) + 1
    other_falls n =
        one_less (requests_above v b) (requests_above v left_by) (served_before v b) (served_before v left_by) (fewer_requests (omega (arith, at_least, n))) more_served
        ∙ ap (λ (d : Board). steps_before v d + 1) (sym accepted_is)

  -- the EOI

  module _ (a : can_accept b ≡ false) (t : class_of b.apic.tpr < class_of v.0) where
    -- what it ends goes before v
    ends_before : class_of v.0 ≤ class_of (highest b.apic.isr)
    ends_before = go (is_requested v b) refl (is_in_service v b) refl
      where
        blocked : class_of (highest b.apic.irr) ≤ class_of b.apic.ppr
        blocked = ltb-false (class_of b.apic.ppr) (class_of (highest b.apic.irr)) (sym (acceptable b.apic) ∙ a)

        go : (c : Bool) → is_requested v b ≡ c → (d : Bool) → is_in_service v b ≡ d → class_of v.0 ≤ class_of (highest b.apic.isr)
        go true e d f =
            let m : v.0 ≤ highest b.apic.irr = highest_top b.apic.irr v.0 (legal_request b.apic k.local v.0 e) l e in
            let i : class_of v.0 ≤ class_of (highest b.apic.irr) = class_mono v.0 (highest b.apic.irr) m (highest_small b.apic.irr) in
            (ppr_class b.apic k.local).1 (class_of v.0) t (omega (arith, blocked))
        go false e true f =
            class_mono v.0 (highest b.apic.isr) (highest_top b.apic.isr v.0 (legal_service b.apic k.local v.0 f) l f) (highest_small b.apic.isr)
        go false e false f = never w (rw (e, f))

    some_served : highest b.apic.isr ≡ 0 → ⊥
    some_served z = omega (arith, ends_before, t)

    same_requests : is_quiet v b HandleEoi ≡ true → requests_above v b ≡ requests_above v (next b HandleEoi)
    same_requests q = quiet_requests v b HandleEoi k refl q

    fewer_served : served_before v b ≡ served_before v (next b HandleEoi) + 1
    unfolding served_before ranked
    fewer_served =
        count_one 256 (is_before v b) (is_before v (next b HandleEoi)) (highest b.apic.isr) (highest_small b.apic.isr)
        (rw (le-leb (class_of v.0) (class_of (highest b.apic.isr)) ends_before, highest_in b.apic.isr some_served))
        (rw (left, take_same b.apic.isr (highest b.apic.isr) k.local.eight.1 (highest_small b.apic.isr)) (and-false (leb (class_of v.0) (class_of (highest b.apic.isr)))))
        (λ u m d. rw left (ap (λ (c : Bool). leb (class_of v.0) (class_of u) && c) (sym (take_other b.apic.isr (highest b.apic.isr) k.local.eight.1 u m d))))
      where
        left : (next b HandleEoi).apic.isr ≡ (ended b.apic (highest b.apic.isr)).isr
        left = ended_service b some_served

    eoi_falls : is_quiet v b HandleEoi ≡ true → steps_before v b ≡ steps_before v (next b HandleEoi) + 1
    eoi_falls q = ended_less (requests_above v b) (requests_above v (next b HandleEoi)) (served_before v b) (served_before v (next b HandleEoi)) (same_requests q) fewer_served

-- ---- any call

-- where it is no step, and asks for nothing new above v, 2r + s stays
pub same_before : (v : Vector) (b : Board) (c : Call) → BoardRules b → is_step c ≡ false → is_acceptance c ≡ false → is_quiet v b c ≡ true → steps_before v b ≡ steps_before v (next b c)
same_before v b c k n d q = same_sum (requests_above v b) (requests_above v (next b c)) (served_before v b) (served_before v (next b c)) (quiet_requests v b c k d q) (same_served v b c n)

pub record One (v : Vector) (b : Board) (c : Call) : Type 0 where
  pub accepted : accepts v b c ≡ (is_step c && eqb (steps_before v b) 0)
  pub falls : accepts v b c ≡ false → steps_before v (next b c) + flag (is_step c) ≡ steps_before v b

module _ (v : Vector) (b : Board) (k : BoardRules b) (l : v.0 < 256) (w : waits v b ≡ true) where
  stay : (n m : ℕ) → n ≡ m → m + 0 ≡ n
  stay n m e = omega arith

  fell : (n m : ℕ) → n ≡ m + 1 → eqb n 0 ≡ false
  fell n m e = ne_eqb n 0 (λ z. omega arith)

  passed_by : (c : Call) → is_step c ≡ false → accepts v b c ≡ false → is_acceptance c ≡ false → is_quiet v b c ≡ true → One v b c
  passed_by c n a d q =
      record {
        accepted = rw (n, a);
        falls = λ e. rw n (stay (steps_before v b) (steps_before v (next b c)) (same_before v b c k n d q));
      }

  accept_call : can_accept b ≡ true → One v b AcceptInterrupt
  unfolding accepts
  accept_call a = go (eqb (highest b.apic.irr) v.0) refl
    where
      is : is_of v (accept_interrupt b).answer ≡ eqb (highest b.apic.irr) v.0
      is = ap (λ (o : After (Option Vector)). is_of v o.answer) (accept_is v b k l w a)

      go : (c : Bool) → eqb (highest b.apic.irr) v.0 ≡ c → One v b AcceptInterrupt
      go true e =
          let z : steps_before v b ≡ 0 = own_none v b k l w a (eqb-true (highest b.apic.irr) v.0 e) in
          record { accepted = is ∙ e ∙ sym (ap (λ (n : ℕ). eqb n 0) z); falls = λ f. never (is ∙ e) f }
      go false e =
          let f : steps_before v b ≡ steps_before v (next b AcceptInterrupt) + 1 = other_falls v b k l w a (eqb-false (highest b.apic.irr) v.0 e) in
          record { accepted = is ∙ e ∙ sym (fell (steps_before v b) (steps_before v (next b AcceptInterrupt)) f); falls = λ g. sym f }

  eoi_call : can_accept b ≡ false → class_of b.apic.tpr < class_of v.0 → is_quiet v b HandleEoi ≡ true → One v b HandleEoi
  unfolding accepts
  eoi_call a t q =
      let f : steps_before v b ≡ steps_before v (next b HandleEoi) + 1 = eoi_falls v b k l w a t q in
      record { accepted = sym (fell (steps_before v b) (steps_before v (next b HandleEoi)) f); falls = λ g. sym f }

  pub one_call : (c : Call) → obeys b c ≡ true → tpr_below v b c ≡ true → is_quiet v b c ≡ true → One v b c
  unfolding accepts
  one_call (SetGsiLevel gsi up) o t q = passed_by (SetGsiLevel gsi up) refl refl refl q
  one_call AcceptInterrupt o t q = accept_call o
  one_call HandleEoi o t q = eoi_call (not_is (can_accept b) o) (ltb-true (class_of b.apic.tpr) (class_of v.0) t) q
  one_call (WriteTpr x) o t q = passed_by (WriteTpr x) refl refl refl q
  one_call (HandleWrite addr width x) o t q = passed_by (HandleWrite addr width x) refl refl refl q
  one_call (Receive u level) o t q = passed_by (Receive u level) refl refl refl q

  -- a request of v stays, but where it is accepted
  pub request_stays : (c : Call) → obeys b c ≡ true → accepts v b c ≡ false → is_requested v b ≡ true → is_requested v (next b c) ≡ true
  unfolding accepts
  request_stays (SetGsiLevel gsi up) o a h = stays_requested b (SetGsiLevel gsi up) v.0 k refl l h
  request_stays AcceptInterrupt o a h = left
    where
      other : v.0 ≡ highest b.apic.irr → ⊥
      other e = never (eq-eqb (highest b.apic.irr) v.0 (sym e)) (sym (ap (λ (r : After (Option Vector)). is_of v r.answer) (accept_is v b k l w o)) ∙ a)

      left : is_requested v (next b AcceptInterrupt) ≡ true
      left = ap (is_requested v) (accepted_is v b k l w o) ∙ taken_irr b.apic (highest b.apic.irr) v.0 ∙ take_other b.apic.irr (highest b.apic.irr) k.local.eight.0 v.0 l other ∙ h
  request_stays HandleEoi o a h = stays_requested b HandleEoi v.0 k refl l h
  request_stays (WriteTpr x) o a h = stays_requested b (WriteTpr x) v.0 k refl l h
  request_stays (HandleWrite addr width x) o a h = stays_requested b (HandleWrite addr width x) v.0 k refl l h
  request_stays (Receive u level) o a h = stays_requested b (Receive u level) v.0 k refl l h
