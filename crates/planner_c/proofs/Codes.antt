-- What each call's code shows. Assumes nothing.
use Prim.Native.Nat.{ℕ}
use mathlib.Core.Path.{◌≡◌, ap, ◌∙◌}
use mathlib.Core.Bool.{Bool}
use mathlib.Core.List.{List}
use Rattle.types.specs.declared.Reply.{Reply}
use Rattle.types.specs.declared.Reply.TheVariants.{One}
use Rattle.types.specs.Reply.{flag, Outcome, outcome_of}
use Rattle.reply_code.specs.Lent.{reply_code, lent}
use Rattle.std.proofs.Common.{Option, Result}
use Rattle.types.specs.declared.Refusal.{Refusal}
use Rattle.planner.specs.declared.shortage.CrowdedRange.{CrowdedRange}
use Rattle.planner.specs.Answers.{plan_reply, shortage_reply}
use Rattle.planner_c.specs.Calls.{coded, range_code, lines_in}

pub check_code : (b p : Bool) (f c : ℕ) → b ≡ p → f ≡ flag b → c ≡ reply_code (One f) → c ≡ reply_code (One (flag p))
check_code b p f c e g h = h ∙ ap (λ (n : ℕ). reply_code (One n)) (g ∙ ap flag e)

pub plan_code : (o : Outcome (List ℕ)) (after : List ℕ) (a : Result (Unit {0}) Refusal) (x : Reply) (c : ℕ) → outcome_of after (plan_reply a) ≡ o → x ≡ plan_reply a → c ≡ reply_code x → lent after c ≡ coded o
plan_code o after a x c e g h = ap (lent after) (h ∙ ap reply_code g) ∙ ap coded e

pub shown_code : (s : Result (Option CrowdedRange) Refusal) (x : Reply) (c : ℕ) (l m : List ℕ) → shortage_reply s ≡ x → c ≡ range_code (shortage_reply s) → m ≡ lines_in l (shortage_reply s) → (c ≡ range_code x) × (m ≡ lines_in l x)
shown_code s x c l m e g h = (g ∙ ap range_code e, h ∙ ap (lines_in l) e)
