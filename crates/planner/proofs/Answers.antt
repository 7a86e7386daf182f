-- An answer is known by its reply. Assumes nothing.
use Rattle.std.proofs.Common.{◌≡◌, ℕ, Option, Result, ap, ap₂, arith, ◌∙◌}
use Rattle.types.specs.declared.Refusal.{Refusal}
use Rattle.types.specs.declared.Reply.TheVariants.{Refused, Nothing}
use Rattle.types.specs.Reply.{done_reply, option_reply}
use Rattle.types.proofs.Replies.{done_same, done_done, option_reply_same, option_done, result_reply_same}
use Rattle.planner.specs.declared.shortage.CrowdedRange.{CrowdedRange}
use Rattle.planner.specs.Answers.{plan_reply, shown_reply, shortage_reply}

pub plan_reply_same : (a b : Result (Unit {0}) Refusal) → plan_reply a ≡ plan_reply b → a ≡ b
plan_reply_same = result_reply_same done_reply done_same done_done

made : ℕ → ℕ → ℕ → CrowdedRange
made lowest highest lines = record { lowest = record { 0 = lowest }; highest = record { 0 = highest }; lines = lines }

shown_same : (a b : CrowdedRange) → shown_reply a ≡ shown_reply b → a ≡ b
unfolding made
shown_same a b e =
    let l : a.lowest.0 ≡ b.lowest.0 = cc in
    let h : a.highest.0 ≡ b.highest.0 = cc in
    let s : a.lines ≡ b.lines = cc in
    ap₂ (λ (m n : ℕ). made m n a.lines) l h ∙ ap (made b.lowest.0 b.highest.0) s

shown_some : (a : CrowdedRange) → shown_reply a ≡ Nothing → ⊥
shown_some a e = let z : ◌≡◌ {A = ℕ} 0 1 = cc in omega (arith, z)

shown_done : (a : CrowdedRange) (why : Refusal) → shown_reply a ≡ Refused why → ⊥
shown_done a why e = let z : ◌≡◌ {A = ℕ} 0 1 = cc in omega (arith, z)

pub shortage_reply_same : (a b : Result (Option CrowdedRange) Refusal) → shortage_reply a ≡ shortage_reply b → a ≡ b
shortage_reply_same = result_reply_same (option_reply shown_reply) (option_reply_same shown_reply shown_same shown_some) (option_done shown_reply shown_done)
