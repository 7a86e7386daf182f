-- What a pass over the records finds: the sender's ICR, those whom the command hits, and whether there is one whom no logical destination can be held against. Assumes nothing.
use mathlib.Core.Path.{◌≡◌, refl, sym, ap, ◌∙◌}
use mathlib.Core.Bool.{Bool, true, false, cond, ◌||◌}
use Prim.Native.Nat.{ℕ, zero, suc, ◌+◌, ◌<◌, ◌≤◌}
use native.Mathlib.Omega.{arith}
use mathlib.Core.List.{List, [], ◌∷◌}
use lib.ListN.{length, get_or}
use borrow.Author.Tests.{eq-eqb, ne_eqb, lt-ltb}
use Rattle.utils.specs.Set.{set_of}
use Rattle.utils.proofs.Laws.{set_of_next}
use Rattle.vlapic_theorems.specs.Targets.{any}
use Rattle.vcpus_ipi.specs.declared.Vcpu.{Vcpu}
use Rattle.vcpus_ipi.specs.declared.Plan.{Plan}
use Rattle.vcpus_ipi.specs.Vcpu.{new_vcpu}
use Rattle.vcpus_ipi.specs.Ipi.{icr_of, is_hit, is_unmatchable}
use Rattle.vcpus_ipi.specs.Steps.{seen_by, seen_all}

-- ---- what stays

pub seen_count : (i : ℕ) (p : Plan) (ys : List Vcpu) → (seen_all i p ys).count ≡ p.count
unfolding seen_by
seen_count i p [] = refl
seen_count i p (r ∷ rs) = seen_count (suc i) (seen_by p r i) rs

pub seen_ask : (i : ℕ) (p : Plan) (ys : List Vcpu) → (seen_all i p ys).ask ≡ p.ask
unfolding seen_by
seen_ask i p [] = refl
seen_ask i p (r ∷ rs) = seen_ask (suc i) (seen_by p r i) rs

pub seen_command : (i : ℕ) (p : Plan) (ys : List Vcpu) → (seen_all i p ys).command ≡ p.command
unfolding seen_by
seen_command i p [] = refl
seen_command i p (r ∷ rs) = seen_command (suc i) (seen_by p r i) rs

-- ---- the sender

-- it was passed
seen_past : (i : ℕ) (p : Plan) (ys : List Vcpu) → p.ask.sender.0 < i → (seen_all i p ys).from ≡ p.from
unfolding seen_by
seen_past i p [] h = refl
seen_past i p (r ∷ rs) h =
    let e : (seen_by p r i).from ≡ p.from = rw (ne_eqb i p.ask.sender.0 (λ q. omega arith)) in
    seen_past (suc i) (seen_by p r i) rs (omega arith) ∙ e

pub seen_from : (i k : ℕ) (p : Plan) (ys : List Vcpu) → k < length ys → p.ask.sender.0 ≡ i + k → (seen_all i p ys).from ≡ icr_of (get_or ys k new_vcpu)
unfolding seen_by
seen_from i k p [] h e = absurd (omega arith)
seen_from i zero p (r ∷ rs) h e =
    let f : (seen_by p r i).from ≡ icr_of r = rw (eq-eqb i p.ask.sender.0 (omega arith)) in
    seen_past (suc i) (seen_by p r i) rs (omega arith) ∙ f
seen_from i (suc k) p (r ∷ rs) h e = seen_from (suc i) k (seen_by p r i) rs (omega arith) (omega arith)

-- ---- those whom the command hits

pub seen_mask : (P : ℕ → Bool) (i n : ℕ) (p : Plan) (ys : List Vcpu) → n ≡ i + length ys → n ≤ 64
    → ((k j : ℕ) → k < length ys → j ≡ i + k → is_hit p.ask.sender.0 p.ask.active p.command j (get_or ys k new_vcpu) ≡ P j)
    → p.mask ≡ set_of i P → (seen_all i p ys).mask ≡ set_of n P
unfolding seen_by
seen_mask P i n p [] en fits same e = let q : i ≡ n = omega arith in e ∙ ap (λ (m : ℕ). set_of m P) q
seen_mask P i n p (r ∷ rs) en fits same e =
    let hit : is_hit p.ask.sender.0 p.ask.active p.command i r ≡ P i = same 0 i (omega arith) (omega arith) in
    let step : (seen_by p r i).mask ≡ set_of (suc i) P = rw (hit, lt-ltb i 64 (omega arith), e) (sym (set_of_next i P)) in
    seen_mask P (suc i) n (seen_by p r i) rs (omega arith) fits (λ k j l q. same (suc k) j (omega arith) (omega arith)) step

-- ---- those whom no logical destination can be held against

or_cond : (b x : Bool) → cond b true x ≡ (b || x)
or_cond true x = refl
or_cond false x = refl

pub seen_reserved : (Q : ℕ → Bool) (i n : ℕ) (p : Plan) (ys : List Vcpu) → n ≡ i + length ys
    → ((k j : ℕ) → k < length ys → j ≡ i + k → is_unmatchable p.ask.active j (get_or ys k new_vcpu) ≡ Q j)
    → p.reserved ≡ any i Q → (seen_all i p ys).reserved ≡ any n Q
unfolding seen_by
seen_reserved Q i n p [] en same e = let q : i ≡ n = omega arith in e ∙ ap (λ (m : ℕ). any m Q) q
seen_reserved Q i n p (r ∷ rs) en same e =
    let own : is_unmatchable p.ask.active i r ≡ Q i = same 0 i (omega arith) (omega arith) in
    let step : (seen_by p r i).reserved ≡ any (suc i) Q = rw (own, e) (or_cond (Q i) (any i Q)) in
    seen_reserved Q (suc i) n (seen_by p r i) rs (omega arith) (λ k j l q. same (suc k) j (omega arith) (omega arith)) step
