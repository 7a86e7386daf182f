-- Equal words and codes come from equal outcomes: the board's replies fit their codes. Assumes nothing.
use Rattle.types.specs.declared.Vector.{Vector}
use Rattle.std.specs.Prelude.{Option, Some, None}
use Prim.Native.Nat.{ℕ, ◌<◌, ◌^◌}
use mathlib.Core.Bool.{Bool, true, false}
use mathlib.Core.List.{List}
use mathlib.Core.Path.{◌≡◌, refl, sym, ap₂, ◌∙◌}
use native.Mathlib.Omega.{arith}
use lib.Dec.{ltb}
use Rattle.utils.specs.Set.{last}
use Rattle.utils.proofs.Search.{last_lt}
use Rattle.types.specs.Reply.{Outcome}
use Rattle.types.specs.declared.Reply.{Reply}
use Rattle.reply_code.specs.Lent.{Fits, is_up}
use Rattle.reply_code.proofs.Codes.{code_same}
use Rattle.vioapic.specs.State.{IoApicState}
use Rattle.vioapic.specs.IoApic as chip
use Rattle.vioapic.specs.Answers.{eoi_reply}
use Rattle.vioapic_fit.proofs.Fit.{level_fits, end_fits, write_fits}
use Rattle.vlapic.specs.declared.VirtualApicRegs.{VirtualApicRegs}
use Rattle.vlapic_regs.specs.Vectors.{highest_from}
use Rattle.vlapic_regs.proofs.Highest.{served}
use Rattle.vlapic_requests.specs.Requests as apic
use Rattle.board.specs.Board.{Board, told_to, set_gsi_level, accept_interrupt, handle_eoi, handle_write}
use Rattle.board.specs.Promise.{acceptance_reply}
use Rattle.board.specs.Calls.{Call, SetGsiLevel, AcceptInterrupt, HandleEoi, WriteTpr, HandleWrite, Receive, outcome}
use Rattle.board_c.specs.Calls.{Coded, receive_number}

highest_fits : (words : List ℕ) → apic.highest words < 2 ^ 32
unfolding highest_from
highest_fits words = let h : last 256 (served 16 words) < 256 = last_lt 256 (served 16 words) (omega arith) in omega arith

accept_fits : (s : VirtualApicRegs) → Fits (acceptance_reply (apic.accept s).answer)
unfolding apic.accept
accept_fits s = go (apic.is_acceptable s) refl
  where
    go : (b : Bool) → apic.is_acceptable s ≡ b → Fits (acceptance_reply (apic.accept s).answer)
    go true e = rw e (highest_fits s.irr)
    go false e = rw e tt

told_fits : (io : IoApicState) (s : VirtualApicRegs) (a : Option Vector) → Fits (eoi_reply (told_to io s a).answer)
unfolding chip.end_of_interrupt
told_fits io s None = tt
told_fits io s (Some v) = end_fits io v

pub replies_fit : (b : Board) (c : Call) → Fits (outcome b c).reply
unfolding outcome set_gsi_level accept_interrupt handle_eoi handle_write chip.set_gsi_level chip.handle_write
replies_fit b (SetGsiLevel gsi up) = level_fits b.ioapic gsi up
replies_fit b AcceptInterrupt = accept_fits b.apic
replies_fit b HandleEoi = told_fits b.ioapic (apic.end_highest b.apic).state (apic.end_highest b.apic).answer
replies_fit b (WriteTpr x) = tt
replies_fit b (HandleWrite addr width x) = write_fits b.ioapic addr width x
replies_fit b (Receive v level) = tt

pub message_fits : (b : Board) (v level : ℕ) → Fits (receive_number b v level).reply
unfolding receive_number
message_fits b v level = go (ltb 255 v) refl
  where
    go : (x : Bool) → ltb 255 v ≡ x → Fits (receive_number b v level).reply
    go true e = rw e tt
    go false e = rw e (replies_fit b (Receive (record { 0 = v }) (is_up level)))

-- two outcomes that words and code allow are the same
pub coded_same : (io io' l l' : List ℕ) (n : ℕ) (o p : Outcome Board) → Fits o.reply → Fits p.reply → Coded io io' l l' n o → Coded io io' l l' n p → o ≡ p
coded_same io io' l l' n o p f g x y =
    ap₂ (λ (b : Board) (r : Reply). record { state = b; reply = r })
    (sym x.board ∙ y.board)
    (code_same o.reply p.reply f g (sym x.answer ∙ y.answer))
