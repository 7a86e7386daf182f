-- A law for each way that a call goes. Assumes nothing.
use Rattle.std.specs.Prelude.{Option, Some, None, Result, Ok, Err}
use Prim.Native.Nat.{ℕ, ◌%◌, ◌^◌}
use mathlib.Core.Bool.{Bool, true}
use mathlib.Core.List.{List}
use mathlib.Core.Logic.{inl}
use mathlib.Core.Path.{◌≡◌, refl, sym, ap, ◌∙◌}
use borrow.Author.Tests.{eq-eqb, ne_eqb}
use Rattle.types.specs.declared.Gsi.{Gsi}
use Rattle.types.specs.declared.Vector.{Vector}
use Rattle.types.specs.declared.Refusal.{Refusal}
use Rattle.types.specs.declared.Reply.{Reply}
use Rattle.types.specs.declared.Reply.TheVariants.{Nothing}
use Rattle.types.specs.Reply.{Outcome, outcome_of, Kept}
use Rattle.types.proofs.Replies.{kept_same}
use Rattle.vioapic_entry.specs.Answers.{routed_reply}
use Rattle.vioapic_entry.specs.declared.IoApicInterrupt.{IoApicInterrupt}
use Rattle.vioapic_entry.proofs.Same.{routed_reply_same}
use Rattle.vioapic.specs.Answers.{pending_reply, eoi_reply, written_reply}
use Rattle.vioapic.specs.State.{IoApicState}
use Rattle.vioapic.specs.State as io-words
use Rattle.vioapic.specs.Table.{end_of, set_level}
use Rattle.vioapic.specs.IoApic as chip
use Rattle.vioapic.specs.declared.IoApicVersion.TheVariants.{V20}
use Rattle.vioapic.specs.declared.IoApicEoi.{IoApicEoi}
use Rattle.vioapic.specs.declared.IoApicEois.{IoApicEois}
use Rattle.vioapic.specs.declared.Eoi.{Eoi}
use Rattle.vioapic.specs.declared.Eoi.TheVariants as ioapic
use Rattle.vioapic.specs.declared.Written.{Written}
use Rattle.vioapic.specs.declared.Written.TheVariants as written
use Rattle.vioapic.proofs.Same.{eoi_reply_same}
use Rattle.vlapic.specs.declared.VirtualApicRegs.{VirtualApicRegs}
use Rattle.vlapic_words.specs.Words as apic-words
use Rattle.vlapic_words.specs.Calls.{Leaves, IsNew}
use Rattle.vlapic_words.proofs.View.{stored_then}
use Rattle.vlapic_requests.specs.Requests as apic
use Rattle.vlapic_requests.specs.Promise as registers
use Rattle.board.specs.Board.{board_in, new_board, after, requested, resent, requested_by_eoi, requested_by_write, set_gsi_level, beside, accept_interrupt, ended_to, ended_by, handle_eoi, write_tpr, written_to, handle_write, receive}
use Rattle.board.specs.Promise.{acceptance_reply, Gives, Becomes, Makes}

-- ---- requests

-- nothing is requested
pub same : (l : List ℕ) (s : VirtualApicRegs) → s ≡ apic-words.view l → registers.Becomes l l s
same l s e = record { registers = sym e; stored = λ k b. inl refl }

module _ (l : List ℕ) (r : Option IoApicInterrupt) where
  pub routed_none : r ≡ None → registers.Becomes l l (requested (apic-words.view l) r)
  routed_none e = same l (requested (apic-words.view l) r) (rw e)

  pub routed_some : (m : List ℕ) (i : IoApicInterrupt) → r ≡ Some i → registers.Becomes l m (apic.request (apic-words.view l) i.vector i.level_triggered)
      → registers.Becomes l m (requested (apic-words.view l) r)
  routed_some m i e h = rw e h

module _ (l : List ℕ) (v : Vector) (sent : ℕ) where
  pub resent_none : sent ≡ 0 → registers.Becomes l l (resent (apic-words.view l) v sent)
  resent_none e = same l (resent (apic-words.view l) v sent) (rw (eq-eqb sent 0 e))

  pub resent_some : (m : List ℕ) → (sent ≡ 0 → ⊥) → registers.Becomes l m (apic.request (apic-words.view l) v true) → registers.Becomes l m (resent (apic-words.view l) v sent)
  resent_some m h b = rw (ne_eqb sent 0 h) b

module _ (l : List ℕ) (v : Vector) (e : Option Eoi) where
  pub ended_none : e ≡ None → registers.Becomes l l (requested_by_eoi (apic-words.view l) v e)
  ended_none q = same l (requested_by_eoi (apic-words.view l) v e) (rw q)

  pub ended_one : (m : List ℕ) (x : IoApicEoi) → e ≡ Some (ioapic.Ended x) → registers.Becomes l m (requested (apic-words.view l) x.pending) → registers.Becomes l m (requested_by_eoi (apic-words.view l) v e)
  ended_one m x q h = rw q h

  pub ended_all : (m : List ℕ) (x : IoApicEois) → e ≡ Some (ioapic.EndedAll x) → registers.Becomes l m (resent (apic-words.view l) v x.sent) → registers.Becomes l m (requested_by_eoi (apic-words.view l) v e)
  ended_all m x q h = rw q h

-- with a write, a refused one leaves the words as they were
module _ (l : List ℕ) (x : ℕ) (w : Result Written Refusal) where
  abbrev Requests : List ℕ → Type 0
  Requests m = Leaves l l m (written_reply w) (outcome_of (requested_by_write (apic-words.view l) x w) (written_reply w))

  nothing : requested_by_write (apic-words.view l) x w ≡ apic-words.view l → Requests l
  nothing e = record { outcome = ap (λ (s : VirtualApicRegs). outcome_of s (written_reply w)) (sym e); refused = kept_same l (written_reply w); stored = λ k b. inl refl }

  pub written_done : w ≡ Ok written.Done → Requests l
  written_done e = nothing (rw e)

  pub written_refused : (why : Refusal) → w ≡ Err why → Requests l
  written_refused why e = nothing (rw e)

  something : (m : List ℕ) → registers.Becomes l m (requested_by_write (apic-words.view l) x w) → Kept (written_reply w) l m → Requests m
  something m h k = record { outcome = ap (λ (s : VirtualApicRegs). outcome_of s (written_reply w)) h.registers; refused = k; stored = h.stored }

  pub written_sent : (m : List ℕ) (i : IoApicInterrupt) → w ≡ Ok (written.Sent i) → registers.Becomes l m (apic.request (apic-words.view l) i.vector i.level_triggered) → Requests m
  written_sent m i e h = something m (rw e h) (rw e tt)

  pub written_ended : (m : List ℕ) (i : IoApicEois) → w ≡ Ok (written.EndedAll i) → registers.Becomes l m (resent (apic-words.view l) (record { 0 = x % 2 ^ 8 }) i.sent) → Requests m
  written_ended m i e h = something m (rw e h) (rw e tt)

-- ---- no reply but a write's refuses

routed_kept : (r : Option IoApicInterrupt) (a b : List ℕ) → Kept (routed_reply r) a b
routed_kept None a b = tt
routed_kept (Some i) a b = tt

eoi_kept : (r : Option Eoi) (a b : List ℕ) → Kept (eoi_reply r) a b
eoi_kept None a b = tt
eoi_kept (Some (ioapic.Ended e)) a b = go e.pending
  where
    go : (r : Option IoApicInterrupt) → Kept (pending_reply e.gsi.0 r) a b
    go None = tt
    go (Some i) = tt
eoi_kept (Some (ioapic.EndedAll e)) a b = tt

acceptance_kept : (r : Option Vector) (a b : List ℕ) → Kept (acceptance_reply r) a b
acceptance_kept None a b = tt
acceptance_kept (Some v) a b = tt

-- ---- the calls

module _ (io io' l m : List ℕ) where
  pub line_way : (gsi : Gsi) (up : Bool) (r : Option IoApicInterrupt)
      → chip.Leaves io io' (routed_reply r) (chip.set_gsi_level (io-words.view io) gsi up)
      → registers.Becomes l m (requested (apic-words.view l) r)
      → Gives (Option IoApicInterrupt) routed_reply io io' l m r (set_gsi_level (board_in io l) gsi up)
  unfolding board_in set_gsi_level chip.set_gsi_level
  line_way gsi up r h b =
      let o = set_level (io-words.view io) gsi up in
      let es : io-words.view io' ≡ o.state = ap (λ (x : Outcome IoApicState). x.state) h.outcome in
      let ea : r ≡ o.answer = routed_reply_same r o.answer (ap (λ (x : Outcome IoApicState). x.reply) h.outcome) in
      let er : apic-words.view m ≡ requested (apic-words.view l) o.answer = b.registers ∙ ap (requested (apic-words.view l)) ea in
      record {
        outcome = λ i. after (es i) (er i) (ea i);
        untouched = (routed_kept r io io', routed_kept r l m);
        kept = h.kept;
        stored = b.stored;
      }

  pub broadcast_way : (v : Vector) (r : Option Eoi)
      → chip.Leaves io io' (eoi_reply r) (chip.end_of_interrupt (io-words.view io) v)
      → registers.Becomes l m (requested_by_eoi (apic-words.view l) v r)
      → Gives (Option Eoi) eoi_reply io io' l m r (ended_to (apic-words.view l) v (end_of (io-words.view io) v))
  unfolding board_in chip.end_of_interrupt
  broadcast_way v r h b =
      let o = end_of (io-words.view io) v in
      let es : io-words.view io' ≡ o.state = ap (λ (x : Outcome IoApicState). x.state) h.outcome in
      let ea : r ≡ o.answer = eoi_reply_same r o.answer (ap (λ (x : Outcome IoApicState). x.reply) h.outcome) in
      let er : apic-words.view m ≡ requested_by_eoi (apic-words.view l) v o.answer = b.registers ∙ ap (requested_by_eoi (apic-words.view l) v) ea in
      record {
        outcome = λ i. after (es i) (er i) (ea i);
        untouched = (eoi_kept r io io', eoi_kept r l m);
        kept = h.kept;
        stored = b.stored;
      }

  pub write_way : (addr width x : ℕ) (r : Result Written Refusal)
      → chip.Wrote io io' r (chip.handle_writing (io-words.view io) addr width x)
      → Leaves l l m (written_reply r) (outcome_of (requested_by_write (apic-words.view l) x r) (written_reply r))
      → Gives (Result Written Refusal) written_reply io io' l m r (handle_write (board_in io l) addr width x)
  unfolding board_in handle_write
  write_way addr width x r h b =
      record {
        outcome =
            ap (λ (s : VirtualApicRegs). after (io-words.view io') s r) (ap (λ (o : Outcome VirtualApicRegs). o.state) b.outcome)
            ∙ ap (written_to (apic-words.view l) x) h.outcome;
        untouched = (h.untouched, b.refused);
        kept = h.kept;
        stored = b.stored;
      }

  pub eoi_told : (k : List ℕ) (v : Vector) (r : Option Eoi) (told : Option Vector)
      → told ≡ Some v
      → registers.Answers (Option Vector) l k told (apic.end_highest (apic-words.view l))
      → Gives (Option Eoi) eoi_reply io io' k m r (ended_to (apic-words.view k) v (end_of (io-words.view io) v))
      → Gives (Option Eoi) eoi_reply io io' l m r (handle_eoi (board_in io l))
  unfolding board_in handle_eoi
  eoi_told k v r told e a g =
      record {
        outcome = g.outcome ∙ ap (ended_by (io-words.view io)) (ap (apic.after (apic-words.view k)) (sym e) ∙ a.outcome);
        untouched = (eoi_kept r io io', eoi_kept r l m);
        kept = g.kept;
        stored = stored_then l k m a.stored g.stored;
      }

-- what leaves the I/O APIC alone
module _ (l m : List ℕ) where
  pub eoi_silent : (io : List ℕ) (told : Option Vector) → told ≡ None → registers.Answers (Option Vector) l m told (apic.end_highest (apic-words.view l))
      → Gives (Option Eoi) eoi_reply io io l m None (handle_eoi (board_in io l))
  unfolding board_in handle_eoi
  eoi_silent io told e a = record { outcome = ap (ended_by (io-words.view io)) (ap (apic.after (apic-words.view m)) (sym e) ∙ a.outcome); untouched = (tt, tt); kept = refl; stored = a.stored }

  pub accept_way : (r : Option Vector) → registers.Answers (Option Vector) l m r (apic.accept (apic-words.view l))
      → (io : List ℕ) → Gives (Option Vector) acceptance_reply io io l m r (accept_interrupt (board_in io l))
  unfolding board_in accept_interrupt
  accept_way r a io =
      record {
        outcome = ap (beside (io-words.view io)) a.outcome;
        untouched = (acceptance_kept r io io, acceptance_kept r l m);
        kept = refl;
        stored = a.stored;
      }

  pub tpr_way : (x : ℕ) → registers.Becomes l m (apic.write_tpr (apic-words.view l) x) → (io : List ℕ) → Becomes io io l m (write_tpr (board_in io l) x)
  unfolding board_in write_tpr
  tpr_way x b io = record { board = ap (λ (s : VirtualApicRegs). record { ioapic = io-words.view io; apic = s }) b.registers; kept = refl; stored = b.stored }

  pub receive_way : (v : Vector) (level : Bool) → registers.Becomes l m (apic.receive (apic-words.view l) v level)
      → (io : List ℕ) → Becomes io io l m (receive (board_in io l) v level)
  unfolding board_in receive
  receive_way v level b io =
      record { board = ap (λ (s : VirtualApicRegs). record { ioapic = io-words.view io; apic = s }) b.registers; kept = refl; stored = b.stored }

-- a new board
pub new_way : (before io l : List ℕ) (s : IoApicState) (r : Reply)
    → chip.Makes before io r (chip.created_version s 0xfec00000 0x1000 V20) (io-words.new_words 0x20 0xfec00000 0x1000)
    → IsNew l
    → Makes io l
unfolding board_in new_board chip.created_version
new_way before io l s r h n =
    let e : r ≡ Nothing = ap (λ (o : Outcome IoApicState). o.reply) h.outcome in
    record {
      board = rw (ap (λ (o : Outcome IoApicState). o.state) h.outcome, n.registers);
      words = rw e at h.words;
      local = n;
    }
