-- The bound, over traces: from a request, from a raise, and from a held line. Assumes nothing.
use Prim.Native.Nat.{ℕ, suc, ◌+◌, ◌≤◌, ◌<◌}
use native.Mathlib.Omega.{arith}
use mathlib.Core.Bool.{Bool, true, false, cond, ◌||◌}
use mathlib.Core.List.{List, [], ◌∷◌}
use mathlib.Core.Path.{◌≡◌, refl, sym, ap, ◌∙◌}
use borrow.Author.Tests.{eqb-true, lt-ltb, le-ltb, ltb-true, ltb-false}
use lib.Dec.{eqb, ltb}
use Rattle.utils.proofs.Bools.{and_true}
use Rattle.types.specs.Reply.{flag}
use Rattle.types.specs.declared.Vector.{Vector}
use Rattle.board.specs.Board.{Board}
use Rattle.board.specs.Calls.{Call, next}
use Rattle.board_theorems.specs.Rules.{BoardRules}
use Rattle.board_theorems.proofs.Rules.{calls_keep_rules}
use Rattle.board_bound.specs.Trace.{is_requested, steps_before, is_step, steps, accepts, later, accepted_at, until, obeys, tpr_below, is_quiet}
use Rattle.board_bound.specs.Bound.{Fair, AcceptedAfter, Bound, Falls}
use Rattle.board_bound.proofs.Calls.{in_small}
use Rattle.board_bound.proofs.Steps.{waits, One, one_call, request_stays}

-- ---- one call

requested_waits : (v : Vector) (b : Board) → is_requested v b ≡ true → waits v b ≡ true
requested_waits v b h = rw h

pub falls : Falls
falls v b c k h o t q =
    let l : v.0 < 256 = in_small b.apic.irr v.0 k.local.eight.0 h in
    let f = one_call v b k l (requested_waits v b h) c o t q in
    (f.accepted, λ a. (request_stays v b k l (requested_waits v b h) c o a h, f.falls a))

-- ---- premises

-- a premise of a trace is one of its first call, and of the rest if that doesn't accept v
pub until_first : (v : Vector) (p : Board → Call → Bool) (b : Board) (c : Call) (cs : List Call) → until v p b (c ∷ cs) ≡ true → p b c ≡ true
unfolding until
until_first v p b c cs h = (and_true (p b c) (accepts v b c || until v p (next b c) cs) h).0

pub until_rest : (v : Vector) (p : Board → Call → Bool) (b : Board) (c : Call) (cs : List Call) → until v p b (c ∷ cs) ≡ true → accepts v b c ≡ false → until v p (next b c) cs ≡ true
unfolding until
until_rest v p b c cs h a = rw a at (and_true (p b c) (accepts v b c || until v p (next b c) cs) h).1

pub fair_rest : (v : Vector) (b : Board) (c : Call) (cs : List Call) → Fair v b (c ∷ cs) → accepts v b c ≡ false → Fair v (next b c) cs
fair_rest v b c cs f a =
    record {
      obeyed = until_rest v obeys b c cs f.obeyed a;
      below = until_rest v (tpr_below v) b c cs f.below a;
      quiet = until_rest v (is_quiet v) b c cs f.quiet a;
    }

-- ---- a trace, call by call

none_yet : (n : ℕ) → 0 ≡ cond (ltb n 0) (suc n) 0
none_yet n = rw (le-ltb n 0 (omega arith))

-- one call more: n steps before it, m after it
shift : (step : Bool) (n m k : ℕ) → m + flag step ≡ n → later step (cond (ltb m k) (suc m) 0) ≡ cond (ltb n (cond step (suc k) k)) (suc n) 0
shift step n m k e = go step e (ltb m k) refl
  where
    go : (step : Bool) → m + flag step ≡ n → (b : Bool) → ltb m k ≡ b → later step (cond b (suc m) 0) ≡ cond (ltb n (cond step (suc k) k)) (suc n) 0
    go true e true h = let l : m < k = ltb-true m k h in rw (lt-ltb n (suc k) (omega arith)) (ap suc (omega arith))
    go true e false h = let l : k ≤ m = ltb-false m k h in rw (le-ltb n (suc k) (omega arith))
    go false e true h = let i : m ≡ n = omega arith in rw (sym (ap (λ (z : ℕ). ltb z k) i) ∙ h) (ap suc i)
    go false e false h = let i : m ≡ n = omega arith in rw (sym (ap (λ (z : ℕ). ltb z k) i) ∙ h)

module _ (v : Vector) (l : v.0 < 256) (I : Board → Type 0) (P : Board → Call → Bool)
    (waiting : (b : Board) → I b → waits v b ≡ true)
    (keeps : (b : Board) (c : Call) → BoardRules b → I b → obeys b c ≡ true → P b c ≡ true → accepts v b c ≡ false → I (next b c)) where
  pub exactly : (b : Board) (cs : List Call) → BoardRules b → I b → Fair v b cs → until v P b cs ≡ true → AcceptedAfter (steps_before v b) v b cs
  unfolding accepted_at steps
  exactly b [] k i f p = none_yet (steps_before v b)
  exactly b (c ∷ cs) k i f p = go (accepts v b c) refl (λ a. exactly (next b c) cs (calls_keep_rules b c k) (onward a) (fair_rest v b c cs f a) (until_rest v P b c cs p a))
    where
      one : One v b c
      one = one_call v b k l (waiting b i) c (until_first v obeys b c cs f.obeyed) (until_first v (tpr_below v) b c cs f.below) (until_first v (is_quiet v) b c cs f.quiet)

      onward : accepts v b c ≡ false → I (next b c)
      onward a = keeps b c k i (until_first v obeys b c cs f.obeyed) (until_first v P b c cs p) a

      go : (d : Bool) → accepts v b c ≡ d → (accepts v b c ≡ false → accepted_at v (next b c) cs ≡ cond (ltb (steps_before v (next b c)) (steps cs)) (suc (steps_before v (next b c))) 0)
          → cond (accepts v b c) 1 (later (is_step c) (accepted_at v (next b c) cs)) ≡ cond (ltb (steps_before v b) (cond (is_step c) (suc (steps cs)) (steps cs))) (suc (steps_before v b)) 0
      go true a rest =
          let q = and_true (is_step c) (eqb (steps_before v b) 0) (sym one.accepted ∙ a) in
          let z : steps_before v b ≡ 0 = eqb-true (steps_before v b) 0 q.1 in
          rw (a, q.0) (now (steps_before v b) (steps cs) z)
        where
          now : (n m : ℕ) → n ≡ 0 → 1 ≡ cond (ltb n (suc m)) (suc n) 0
          now n m z = rw (lt-ltb n (suc m) (omega arith)) (ap suc (sym z))
      go false a rest =
          rw (a, rest a) (shift (is_step c) (steps_before v b) (steps_before v (next b c)) (steps cs) (one.falls a))

until_always : (v : Vector) (b : Board) (cs : List Call) → until v (λ d c. true) b cs ≡ true
unfolding until
until_always v b [] = refl
until_always v b (c ∷ cs) = either_way (accepts v b c) (until_always v (next b c) cs)
  where
    either_way : (d : Bool) → until v (λ d c. true) (next b c) cs ≡ true → (d || until v (λ d c. true) (next b c) cs) ≡ true
    either_way true h = refl
    either_way false h = h

pub bound : Bound
bound v b cs k h f =
    let l : v.0 < 256 = in_small b.apic.irr v.0 k.local.eight.0 h in
    exactly v l (λ d. is_requested v d ≡ true) (λ d c. true) (requested_waits v) (λ d c n i o p a. request_stays v d n l (requested_waits v d i) c o a i) b cs k h f (until_always v b cs)
