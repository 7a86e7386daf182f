-- A call's answer, its reply and the reply's code. Assumes nothing.
use Prim.Native.Nat.{ℕ}
use mathlib.Core.Path.{◌≡◌, ap, ◌∙◌}
use mathlib.Core.List.{List}
use Rattle.types.specs.declared.Reply.{Reply}
use Rattle.types.specs.Reply.{Outcome, outcome_of}
use Rattle.reply_code.specs.Lent.{reply_code}
use Rattle.std.specs.Prelude.{Result}
use Rattle.types.specs.declared.Refusal.{Refusal}
use Rattle.image.specs.Save.{save_reply}
use Rattle.image.specs.Restore.{Chips, restore_reply}
use Rattle.image_c.specs.Calls.{shown, coded}

by_code : {S : Type 0} (q : S) (x y : Reply) (n : ℕ) (o : Outcome S) → outcome_of q y ≡ o → x ≡ y → n ≡ reply_code x → shown q n ≡ coded o
by_code q x y n o e ex en = ap (shown q) (en ∙ ap reply_code ex) ∙ ap coded e

pub save_code : (q : List ℕ) (x : Reply) (n : ℕ) (a : Result ℕ Refusal) (o : Outcome (List ℕ)) → outcome_of q (save_reply a) ≡ o → x ≡ save_reply a → n ≡ reply_code x → shown q n ≡ coded o
save_code q x n a o e ex en = by_code q x (save_reply a) n o e ex en

pub restore_code_lem : (q : Chips) (x : Reply) (n : ℕ) (a : Result (Unit {0}) Refusal) (o : Outcome Chips) → outcome_of q (restore_reply a) ≡ o → x ≡ restore_reply a → n ≡ reply_code x → shown q n ≡ coded o
restore_code_lem q x n a o e ex en = by_code q x (restore_reply a) n o e ex en
