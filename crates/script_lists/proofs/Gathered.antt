-- The vectors that wait for a vCPU, gathered one by one. Assumes nothing.
use Rattle.std.proofs.Common.{Option, Some, None, Result, Ok, Err}
use mathlib.Core.Path.{◌≡◌, refl, sym, ap, ◌∙◌}
use mathlib.Core.Bool.{Bool, true, false, cond}
use mathlib.Core.List.{List, [], ◌∷◌, ◌++◌}
use Prim.Native.Nat.{ℕ, zero, suc, ◌+◌, ◌*◌, ◌≤◌, ◌<◌}
use native.Mathlib.Omega.{arith}
use lib.Dec.{ltb}
use lib.ListN.{length, get_or, take, drop, set, length-set, get_or-eq_default}
use lib.Seq.{take_all, take-suc, take-suc-set}
use borrow.Author.Tests.{ltb-true, ltb-false}
use Rattle.io.specs.Counts.{IsPrefixLen}
use Rattle.io.proofs.Counting.{prefix_len_of_le}
use Rattle.types.specs.declared.Refusal.{Refusal}
use Rattle.types.specs.declared.Refusal.TheVariants.{OutOfRange}
use Rattle.types.specs.declared.Reply.{Reply}
use Rattle.types.specs.declared.Reply.TheVariants.{Refused, Nothing, One}
use Rattle.types.specs.declared.VcpuId.{VcpuId}
use Rattle.types.specs.declared.Vector.{Vector}
use Rattle.types.specs.Reply.{Outcome, outcome_of, reply_number, reply_values}
use Rattle.types.proofs.Replies.{refused_not_done}
use Rattle.waiting.specs.Answers.{waited_reply}
use Rattle.waiting.specs.Waiting as one
use Rattle.waiting.specs.Waiting.{view, list_of, size_of, around, new_list, oldest}
use Rattle.waiting.specs.Lists.{Lists, vcpus_in, lists_from, lists_in, known_in, list_at, with_list, on_list, peek}
use Rattle.waiting.proofs.Ring.{around_length, size_le}
use Rattle.waiting.proofs.Lists.{lists_length, lists_at}

-- no more than 64 wait
waits_in : (l : List ℕ) → length (view l).waiting ≤ 64
unfolding view list_of
waits_in l = rw (around_length l (get_or l 64 0) (size_of (get_or l 65 0))) (size_le (get_or l 65 0))

pub waits_le : (l : List ℕ) (id : VcpuId) → length (list_at (lists_in l) id).waiting ≤ 64
unfolding lists_in new_list
waits_le l id = go (ltb id.0 (vcpus_in (length l))) refl
  where
    go : (b : Bool) → ltb id.0 (vcpus_in (length l)) ≡ b → length (get_or (lists_from (vcpus_in (length l)) l) id.0 new_list).waiting ≤ 64
    go true e = rw (lists_at (vcpus_in (length l)) id.0 l new_list (ltb-true id.0 (vcpus_in (length l)) e)) (waits_in (take 66 (drop (id.0 * 66) l)))
    go false e =
        rw (get_or-eq_default (lists_from (vcpus_in (length l)) l) new_list {n = id.0} (rw (lists_length (vcpus_in (length l)) l) (ltb-false id.0 (vcpus_in (length l)) e)))
        (omega arith)

-- what a reply says of a list from a place on
at_oldest : (w : List ℕ) (k v : ℕ) → oldest (drop k w) ≡ One v → (k < length w) × (v ≡ get_or w k 0)
at_oldest [] zero v e = let z : ◌≡◌ {A = ℕ} 0 1 = cc in absurd (omega arith)
at_oldest [] (suc k) v e = let z : ◌≡◌ {A = ℕ} 0 1 = cc in absurd (omega arith)
at_oldest (x ∷ w) zero v e = (omega arith, ap (λ (r : Reply). get_or (reply_values r) 0 0) (sym e))
at_oldest (x ∷ w) (suc k) v e = let r = at_oldest w k v e in (omega (arith, r.0), r.1)

behind_last : (w : List ℕ) (k : ℕ) → oldest (drop k w) ≡ Nothing → length w ≤ k
behind_last [] k e = omega arith
behind_last (x ∷ w) zero e = let z : ◌≡◌ {A = ℕ} 0 1 = cc in absurd (omega arith)
behind_last (x ∷ w) (suc k) e = omega (arith, behind_last w k e)

oldest_done : (l : List ℕ) → reply_number (oldest l) ≡ 0
oldest_done [] = refl
oldest_done (v ∷ l) = refl

replied_by : Lists → VcpuId → ℕ → Bool → Reply
replied_by s id k b = cond b (oldest (drop k (list_at s id).waiting)) (Refused OutOfRange)

module _ (s : Lists) (id : VcpuId) (k : ℕ) (r : Result (Option Vector) Refusal) (e : outcome_of s (waited_reply r) ≡ peek s id k) where
  said : waited_reply r ≡ replied_by s id k (known_in s id)
  unfolding on_list replied_by
  said = ap (λ (o : Outcome Lists). o.reply) e ∙ go (known_in s id)
    where
      go : (b : Bool) → (cond b (outcome_of (with_list s id (one.peek (list_at s id) k).state) (one.peek (list_at s id) k).reply) (outcome_of s (Refused OutOfRange))).reply
          ≡ cond b (oldest (drop k (list_at s id).waiting)) (Refused OutOfRange)
      go true = refl
      go false = refl

  pub gave : (v : Vector) → r ≡ Ok (Some v) → (k < length (list_at s id).waiting) × (v.0 ≡ get_or (list_at s id).waiting k 0)
  unfolding replied_by
  gave v er = go (known_in s id) (ap waited_reply (sym er) ∙ said)
    where
      go : (b : Bool) → One v.0 ≡ replied_by s id k b → (k < length (list_at s id).waiting) × (v.0 ≡ get_or (list_at s id).waiting k 0)
      go true p = at_oldest (list_at s id).waiting k v.0 (sym p)
      go false p = let z : ◌≡◌ {A = ℕ} 0 5 = ap reply_number p in absurd (omega arith)

  pub gave_none : r ≡ Ok None → length (list_at s id).waiting ≤ k
  unfolding replied_by
  gave_none er = go (known_in s id) (ap waited_reply (sym er) ∙ said)
    where
      go : (b : Bool) → Nothing ≡ replied_by s id k b → length (list_at s id).waiting ≤ k
      go true p = behind_last (list_at s id).waiting k (sym p)
      go false p = let z : ◌≡◌ {A = ℕ} 0 5 = ap reply_number p in absurd (omega arith)

  pub refused : (why : Refusal) → r ≡ Err why → length (list_at s id).waiting ≤ k
  unfolding replied_by new_list
  refused why er = go (known_in s id) refl (ap waited_reply (sym er) ∙ said)
    where
      go : (b : Bool) → known_in s id ≡ b → Refused why ≡ replied_by s id k b → length (list_at s id).waiting ≤ k
      go true t p = absurd (refused_not_done why (ap reply_number p ∙ oldest_done (drop k (list_at s id).waiting)))
      go false t p = rw (get_or-eq_default s.lists new_list {n = id.0} (ltb-false id.0 (length s.lists) t)) (omega arith)

-- so far: the first n of them
pub record Gathered (w vs : List ℕ) (n : ℕ) : Type 0 where
  pub within : n ≤ 64
  pub size : length vs ≡ 64
  pub same : take n vs ≡ take n w

pub gathered_none : (w vs : List ℕ) → length vs ≡ 64 → Gathered w vs 0
gathered_none w vs n = record { within = omega arith; size = n; same = refl }

module _ (w vs : List ℕ) (n : ℕ) (f : Gathered w vs n) where
  pub gathered_more : (v : ℕ) → n < 64 → (n < length w) × (v ≡ get_or w n 0) → Gathered w (set vs n v) (n + 1)
  gathered_more v h e =
      let next : n + 1 ≡ suc n = omega arith in
      record {
        within = omega arith;
        size = length-set vs n v ∙ f.size;
        same = rw next (take-suc-set vs n v (omega (arith, f.size)) ∙ (λ i. f.same i ++ (e.1 i ∷ [])) ∙ sym (take-suc w n 0 e.0));
      }

  pub gathered_all : length w ≤ n → (take n vs ≡ w) × IsPrefixLen n vs
  gathered_all h = (f.same ∙ take_all n w h, prefix_len_of_le n vs (omega (arith, f.within, f.size)))

  pub gathered_end : 64 ≤ n → length w ≤ 64 → (take 64 vs ≡ w) × IsPrefixLen 64 vs
  gathered_end h k = let all : n ≡ 64 = omega (arith, f.within) in rw all at (gathered_all (omega arith))
