use Rattle.std.proofs.Common.{◌≡◌, ◌↔◌, ℕ, ◌+◌, ◌<◌, Bool, true, false, refl, arith, rules, MatchBool}
use Rattle.std.specs.Prelude.{IsTrue}
use Rattle.std.specs.List.{HoldsAt, AllWithin, range_with_len}
use Rattle.std.proofs.lemmas.Iterator.{cases_from_all, YieldsList-from_range}
use Rattle.std.proofs.lemmas.List.FromFn.{get_or-range_with_len}
use Rattle.utils.proofs.Bools.{never}
use Rattle.image_rules.specs.Rules.{entry_kept}
use Rattle.image_rules.proofs.entries_keep.Goals as goal

-- what the call found of the first n numbers
found : (n : ℕ) (p : ℕ → Bool) (r : Bool)
    → MatchBool r (AllWithin (λ x. p x ≡ true) (range_with_len 0 n) 0 n) ((k : ℕ) × (k < n) × HoldsAt (λ x. p x ≡ false) (range_with_len 0 n) k)
    → IsTrue r ↔ ((k : ℕ) → k < n → p k ≡ true)
found n p true h = (λ _ k l. let z : 0 + k ≡ k = omega arith in rw (get_or-range_with_len 0 n k 0 l, z) at (h k 0 (omega arith) l), λ _. refl)
found n p false h =
    let z : 0 + h.0 ≡ h.0 = omega arith in
    (λ e. never e refl, λ f. never (f h.0 h.1) (rw (get_or-range_with_len 0 n h.0 0 h.1, z) at (h.2 0)))

pub returns : goal.returns
returns c =
    found 24 (entry_kept c.args.words.now) _
    (cases_from_all _ _ _ (λ x. entry_kept c.args.words.now x ≡ true) (λ x. entry_kept c.args.words.now x ≡ false) c.all.ensures.ran
    (YieldsList-from_range 0 24 24 refl refl) (λ x q k. search rules) (λ x q k. search rules))
