-- A call's answer, its reply and the reply's code: io and l are the words before, io' and l' those after. Assumes nothing.
use Rattle.types.specs.declared.Refusal.{Refusal}
use Rattle.types.specs.declared.Vector.{Vector}
use Rattle.vioapic_entry.specs.declared.IoApicInterrupt.{IoApicInterrupt}
use Rattle.std.specs.Prelude.{Option, Result}
use Prim.Native.Nat.{ℕ, ◌%◌, ◌<◌, ◌≤◌}
use mathlib.Core.Bool.{Bool}
use mathlib.Core.List.{List}
use mathlib.Core.Logic.{inl}
use mathlib.Core.Path.{◌≡◌, refl, ap, ◌∙◌, subst}
use native.Mathlib.Omega.{arith}
use borrow.Author.Tests.{lt-ltb, le-ltb}
use Rattle.types.specs.Reply.{outcome_of, Kept}
use Rattle.types.specs.declared.Gsi.{Gsi}
use Rattle.types.specs.declared.Refusal.TheVariants.{OutOfRange}
use Rattle.types.specs.declared.Reply.{Reply}
use Rattle.types.specs.declared.Reply.TheVariants.{Refused, Nothing}
use Rattle.reply_code.specs.Lent.{reply_code, is_up}
use Rattle.vioapic_entry.specs.Answers.{routed_reply}
use Rattle.vioapic.specs.Answers.{eoi_reply, written_reply}
use Rattle.vioapic.specs.declared.Eoi.{Eoi}
use Rattle.vioapic.specs.declared.Written.{Written}
use Rattle.vlapic_requests.specs.Requests as apic
use Rattle.board.specs.Board.{Board, board_in, After, set_gsi_level, accept_interrupt, handle_eoi, write_tpr, handle_write, receive}
use Rattle.board.specs.Promise.{acceptance_reply, Gives, Becomes}
use Rattle.board.specs.Calls.{replied, outcome, SetGsiLevel, AcceptInterrupt, HandleEoi, WriteTpr, HandleWrite}
use Rattle.board_c.specs.Calls.{Coded, receive_number}

module _ (io io' l l' : List ℕ) where
  coded : {A : Type 0} (reply : A → Reply) (a : A) (x : Reply) (n : ℕ) (o : After A) → Gives A reply io io' l l' a o → x ≡ reply a → n ≡ reply_code x
      → Coded io io' l l' n (replied reply o)
  coded {A} reply a x n o h p q =
      let e : reply a ≡ reply o.answer = ap (λ (y : After A). reply y.answer) h.outcome in
      record {
        board = ap (λ (y : After A). y.board) h.outcome;
        answer = q ∙ ap reply_code (p ∙ e);
        untouched = (subst (λ (r : Reply). Kept r io io') e h.untouched.0, subst (λ (r : Reply). Kept r l l') e h.untouched.1);
        kept = h.kept;
        stored = h.stored;
      }

  silent : (b : Board) → Becomes io io' l l' b → Coded io io' l l' 0 (outcome_of b Nothing)
  silent b h = record { board = h.board; answer = refl; untouched = (tt, tt); kept = h.kept; stored = h.stored }

  module _ (x : Reply) (n : ℕ) where
    pub level_coded : (gsi : Gsi) (b up : Bool) (a : Option IoApicInterrupt) → b ≡ up → Gives (Option IoApicInterrupt) routed_reply io io' l l' a (set_gsi_level (board_in io l) gsi b) → x ≡ routed_reply a → n ≡ reply_code x
        → Coded io io' l l' n (outcome (board_in io l) (SetGsiLevel gsi up))
    unfolding outcome
    level_coded gsi b up a e h p q = rw (← e) (coded routed_reply a x n _ h p q)

    pub eoi_coded : (a : Option Eoi) → Gives (Option Eoi) eoi_reply io io' l l' a (handle_eoi (board_in io l)) → x ≡ eoi_reply a → n ≡ reply_code x
        → Coded io io' l l' n (outcome (board_in io l) HandleEoi)
    unfolding outcome
    eoi_coded a h p q = coded eoi_reply a x n _ h p q

    pub write_coded : (addr width value : ℕ) (a : Result Written Refusal) → Gives (Result Written Refusal) written_reply io io' l l' a (handle_write (board_in io l) addr width value) → x ≡ written_reply a → n ≡ reply_code x
        → Coded io io' l l' n (outcome (board_in io l) (HandleWrite addr width value))
    unfolding outcome
    write_coded addr width value a h p q = coded written_reply a x n _ h p q

-- the calls of the local APIC alone: whatever the I/O APIC holds
module _ (l l' : List ℕ) where
  pub acceptance_coded : (x : Reply) (n : ℕ) (a : Option Vector) → ((io : List ℕ) → Gives (Option Vector) acceptance_reply io io l l' a (accept_interrupt (board_in io l))) → x ≡ acceptance_reply a → n ≡ reply_code x
      → (io : List ℕ) → Coded io io l l' n (outcome (board_in io l) AcceptInterrupt)
  unfolding outcome
  acceptance_coded x n a h p q io = coded io io l l' acceptance_reply a x n _ (h io) p q

  -- TPR has eight bits
  tpr_low : (b : Board) (value : ℕ) → write_tpr b (value % 256) ≡ write_tpr b value
  unfolding write_tpr apic.write_tpr
  tpr_low b value = let z : value % 256 % 256 ≡ value % 256 = omega arith in rw z

  pub tpr_coded : (value : ℕ) → ((io : List ℕ) → Becomes io io l l' (write_tpr (board_in io l) (value % 256)))
      → (io : List ℕ) → Coded io io l l' 0 (outcome (board_in io l) (WriteTpr value))
  unfolding outcome
  tpr_coded value h io = silent io io l l' _ (rw (← tpr_low (board_in io l) value) (h io))

  pub receive_coded : (v level : ℕ) (b : Bool) → v ≤ 255 → b ≡ is_up level → ((io : List ℕ) → Becomes io io l l' (receive (board_in io l) (record { 0 = v }) b))
      → (io : List ℕ) → Coded io io l l' 0 (receive_number (board_in io l) v level)
  unfolding receive_number outcome
  receive_coded v level b h e k io = rw (le-ltb 255 v h, ← e) (silent io io l l' _ (k io))

pub receive_wide : (l : List ℕ) (v level n : ℕ) → 255 < v → n ≡ reply_code (Refused OutOfRange)
    → (io : List ℕ) → Coded io io l l n (receive_number (board_in io l) v level)
unfolding receive_number
receive_wide l v level n h e io =
    rw (lt-ltb 255 v h) (record { board = refl; answer = e; untouched = (refl, refl); kept = refl; stored = λ k b. inl refl })
