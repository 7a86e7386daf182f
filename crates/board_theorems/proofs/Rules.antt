-- The board's rules are kept by every call. Assumes nothing.
use Rattle.std.specs.Prelude.{Option, Some, None, Result, Ok, Err}
use Prim.Native.Nat.{ℕ, zero, suc, ◌/◌, ◌%◌, ◌^◌, ◌≤◌, ◌<◌}
use native.Mathlib.Omega.{arith}
use mathlib.Core.Bool.{Bool, true, false, cond}
use mathlib.Core.List.{List, [], ◌∷◌}
use mathlib.Core.Path.{◌≡◌, refl, ◌∙◌}
use borrow.Author.Tests.{eqb-false, ltb-true, ltb-false, leb-true}
use lib.Dec.{eqb, leb, ltb}
use lib.ListN.{get_or, replicate}
use Rattle.utils.specs.Set.{last, set_of}
use Rattle.utils.proofs.Bools.{never, and_true, and-false}
use Rattle.utils.proofs.Laws.{bit_none}
use Rattle.utils.proofs.Search.{last_holds, last_lt, last_none}
use Rattle.types.specs.Reply.{reply_number}
use Rattle.types.specs.declared.Vector.{Vector}
use Rattle.vioapic_entry.specs.declared.IoApicInterrupt.{IoApicInterrupt}
use Rattle.vioapic_entry.specs.Answers.{routed_reply}
use Rattle.vioapic.specs.Answers.{pending_reply, eoi_reply, written_reply}
use Rattle.vioapic.specs.State.{IoApicState}
use Rattle.vioapic.specs.Table.{is_version20, entry_at, set_level, ends, sent_by, end_of_every, end_of}
use Rattle.vioapic.specs.Registers.{Writing, written_send, written_by}
use Rattle.vioapic.specs.IoApic.{handle_writing}
use Rattle.vioapic.specs.IoApic as io
use Rattle.vioapic.specs.Calls as ioapic
use Rattle.vioapic.specs.declared.Eoi.{Eoi}
use Rattle.vioapic.specs.declared.Eoi.TheVariants as eoi
use Rattle.vioapic.specs.declared.Written.{Written}
use Rattle.vioapic.specs.declared.Written.TheVariants as written
use Rattle.vioapic_theorems.specs.Rules.{ChipRules}
use Rattle.vioapic_theorems.proofs.Keeps.{call_is_version20}
use Rattle.vioapic_theorems.proofs.Keeps as chip
use Rattle.vioapic_theorems.proofs.Views.{level_view}
use Rattle.vlapic.specs.declared.VirtualApicRegs.{VirtualApicRegs}
use Rattle.vlapic_regs.specs.Vectors.{in_words, highest_from}
use Rattle.vlapic_regs.specs.Register.{priority}
use Rattle.vlapic_regs.proofs.Highest.{served}
use Rattle.utils.specs.Vectors.{class_of}
use Rattle.vlapic_requests.specs.Requests.{highest, ranked, received_illegal, is_acceptable, taken, ended}
use Rattle.vlapic_requests.specs.Requests as apic
use Rattle.board.specs.Board.{Board, new_board, requested, resent, requested_by_eoi, requested_by_write, told_to, set_gsi_level, accept_interrupt, handle_eoi, write_tpr, handle_write, receive}
use Rattle.board.specs.Promise.{acceptance_reply}
use Rattle.board.specs.Calls.{Call, SetGsiLevel, AcceptInterrupt, HandleEoi, WriteTpr, HandleWrite, Receive, outcome, next, run}
use Rattle.board_theorems.specs.Rules.{LocalRules, BoardRules, NewKeepsRules, CallsKeepRules, RunsKeepRules, CallsKeepSvr, RefusedKeeps}
use Rattle.board_theorems.proofs.Vectors.{put_other, take_other, put_length, take-length, mark_length}
use Rattle.board_theorems.proofs.Sent.{Legal, line_legal, resent_legal, Serves, serves_view, stored_legal}
use Rattle.types.specs.declared.Refusal.{Refusal}

-- ---- the highest vector

pub highest_small : (words : List ℕ) → highest words < 256
unfolding highest_from
highest_small words = last_lt 256 (served 16 words) (omega arith)

-- where there is one, it is in the words, and legal
highest_served : (words : List ℕ) → (highest words ≡ 0 → ⊥) → served 16 words (highest words) ≡ true
unfolding highest_from
highest_served words h = go (served 16 words (last 256 (served 16 words))) refl
  where
    none : served 16 words (last 256 (served 16 words)) ≡ false → (j : ℕ) → j < 256 → served 16 words j ≡ false
    none q j l = at (served 16 words j) refl
      where
        at : (b : Bool) → served 16 words j ≡ b → served 16 words j ≡ false
        at true e = never (last_holds 256 (served 16 words) j l e) q
        at false e = e

    go : (b : Bool) → served 16 words (last 256 (served 16 words)) ≡ b → served 16 words (last 256 (served 16 words)) ≡ true
    go true e = e
    go false e = absurd (h (last_none 256 (served 16 words) (none e)))

pub highest_legal : (words : List ℕ) → (highest words ≡ 0 → ⊥) → 16 ≤ highest words
highest_legal words h = leb-true 16 (highest words) (and_true (leb 16 (highest words)) (in_words words (highest words)) (highest_served words h)).0

pub highest_in : (words : List ℕ) → (highest words ≡ 0 → ⊥) → in_words words (highest words) ≡ true
highest_in words h = (and_true (leb 16 (highest words)) (in_words words (highest words)) (highest_served words h)).1

-- ---- the local APIC

apart : (u v : ℕ) → u < 16 → 16 ≤ v → u ≡ v → ⊥
apart u v a b e = omega arith

module _ (s : VirtualApicRegs) (k : LocalRules s) where
  pub request_keeps : (v : Vector) (level : Bool) → 16 ≤ v.0 → LocalRules (apic.request s v level)
  unfolding apic.request
  request_keeps v level h =
      record {
        ppr = k.ppr;
        legal = λ u l. (put_other s.irr v.0 k.eight.0 u (omega arith) (apart u v.0 l h) ∙ (k.legal u l).0, (k.legal u l).1);
        eight = (put_length s.irr v.0 k.eight.0, k.eight.1, mark_length s.tmr v.0 k.eight.2 level);
      }

  illegal_keeps : LocalRules (received_illegal s)
  illegal_keeps = record { ppr = k.ppr; legal = k.legal; eight = k.eight }

  receive_keeps : (v : Vector) (level : Bool) → LocalRules (apic.receive s v level)
  unfolding apic.receive
  receive_keeps v level = go (ltb v.0 16) refl
    where
      go : (b : Bool) → ltb v.0 16 ≡ b → LocalRules (cond b (received_illegal s) (apic.request s v level))
      go true e = illegal_keeps
      go false e = request_keeps v level (ltb-false v.0 16 e)

  tpr_keeps : (x : ℕ) → LocalRules (apic.write_tpr s x)
  unfolding apic.write_tpr ranked
  tpr_keeps x = record { ppr = refl; legal = k.legal; eight = k.eight }

  taken_keeps : (v : ℕ) → 16 ≤ v → LocalRules (taken s v)
  unfolding ranked
  taken_keeps v h =
      record {
        ppr = refl;
        legal = λ u l. (
          take_other s.irr v k.eight.0 u (omega arith) (apart u v l h) ∙ (k.legal u l).0,
          put_other s.isr v k.eight.1 u (omega arith) (apart u v l h) ∙ (k.legal u l).1,
        );
        eight = (take-length s.irr v k.eight.0, put_length s.isr v k.eight.1, k.eight.2);
      }

  pub ended_keeps : (v : ℕ) → 16 ≤ v → LocalRules (ended s v)
  unfolding ranked
  ended_keeps v h =
      record {
        ppr = refl;
        legal = λ u l. ((k.legal u l).0, take_other s.isr v k.eight.1 u (omega arith) (apart u v l h) ∙ (k.legal u l).1);
        eight = (k.eight.0, take-length s.isr v k.eight.1, k.eight.2);
      }

  accept_keeps : LocalRules (apic.accept s).state
  unfolding apic.accept
  accept_keeps = go (is_acceptable s) refl
    where
      some : is_acceptable s ≡ true → highest s.irr ≡ 0 → ⊥
      some e z =
          let l : class_of s.ppr < class_of (highest s.irr) = ltb-true (class_of s.ppr) (class_of (highest s.irr)) e in
          omega arith

      go : (b : Bool) → is_acceptable s ≡ b → LocalRules (cond b (apic.after {A = Option Vector} (taken s (highest s.irr)) (Some (record { 0 = highest s.irr }))) (apic.after s None)).state
      go true e = taken_keeps (highest s.irr) (highest_legal s.irr (some e))
      go false e = k

  -- an EOI's first step, and the vector that it tells
  pub end_keeps : LocalRules (apic.end_highest s).state
  unfolding apic.end_highest
  end_keeps = go (eqb (highest s.isr) 0) refl
    where
      go : (b : Bool) → eqb (highest s.isr) 0 ≡ b → LocalRules (cond b (apic.after s None) (apic.ending s (highest s.isr))).state
      go true e = k
      go false e = ended_keeps (highest s.isr) (highest_legal s.isr (eqb-false (highest s.isr) 0 e))

  -- what the I/O APIC sends becomes a request
  requested_keeps : (r : Option IoApicInterrupt) → Legal r → LocalRules (requested s r)
  requested_keeps None h = k
  requested_keeps (Some i) h = request_keeps i.vector i.level_triggered h.0

  resent_keeps : (v : Vector) (sent : ℕ) → ((sent ≡ 0 → ⊥) → 16 ≤ v.0) → LocalRules (resent s v sent)
  resent_keeps v sent h = go (eqb sent 0) refl
    where
      go : (b : Bool) → eqb sent 0 ≡ b → LocalRules (cond b s (apic.request s v true))
      go true e = k
      go false e = request_keeps v true (h (eqb-false sent 0 e))

  -- by an EOI of version 0x20, and by a write of it
  every_keeps : (m : IoApicState) (v : Vector) → LocalRules (requested_by_eoi s v (end_of_every m v).answer)
  unfolding end_of_every
  every_keeps m v = go (eqb (set_of 24 (ends v m)) 0)
    where
      go : (b : Bool) → LocalRules (requested_by_eoi s v (cond b None (Some (eoi.EndedAll (record { cleared = set_of 24 (ends v m); sent = set_of 24 (sent_by v m) })))))
      go true = k
      go false = resent_keeps v (set_of 24 (sent_by v m)) (resent_legal m v)

  eoi_keeps : (m : IoApicState) (v : Vector) → is_version20 m ≡ true → LocalRules (requested_by_eoi s v (end_of m v).answer)
  unfolding end_of
  eoi_keeps m v n = rw n (every_keeps m v)

  write_keeps : (m : IoApicState) (addr width x : ℕ) (w : Writing) → is_version20 m ≡ true → Serves m addr width x w → LocalRules (requested_by_write s x w.answer)
  unfolding end_of_every
  write_keeps m addr width x w n (Serves.refused why p q) = k
  write_keeps m addr width x w n (Serves.selected y p q) = k
  write_keeps m addr width x w n (Serves.low g r l e f q v) = sent r.answer (stored_legal (entry_at m g) (x % 2 ^ 32) r v)
    where
      sent : (a : Option IoApicInterrupt) → Legal a → LocalRules (requested_by_write s x (Ok (written_send a)))
      sent None h = k
      sent (Some i) h = request_keeps i.vector i.level_triggered h.0
  write_keeps m addr width x w n (Serves.high g l f q) = k
  write_keeps m addr width x w n (Serves.eoi f q) = every (eqb (set_of 24 (ends u m)) 0)
    where
      u : Vector
      u = record { 0 = x % 2 ^ 32 % 2 ^ 8 }

      every : (b : Bool) → LocalRules (requested_by_write s x (Ok (written_by (cond b None (Some (eoi.EndedAll (record { cleared = set_of 24 (ends u m); sent = set_of 24 (sent_by u m) })))))))
      every true = k
      every false =
          let e : x % 2 ^ 32 % 2 ^ 8 ≡ x % 2 ^ 8 = omega arith in
          resent_keeps (record { 0 = x % 2 ^ 8 }) (set_of 24 (sent_by u m)) (λ h. omega (arith, resent_legal m u h, e))

-- ---- the board

told_keeps : (m : IoApicState) (s : VirtualApicRegs) (a : Option Vector) → is_version20 m ≡ true → LocalRules s → LocalRules (told_to m s a).board.apic
told_keeps m s None n k = k
told_keeps m s (Some v) n k = eoi_keeps s k m v n

local_keeps : (b : Board) (c : Call) → BoardRules b → LocalRules (next b c).apic
unfolding outcome set_gsi_level accept_interrupt handle_eoi write_tpr handle_write receive
local_keeps b (SetGsiLevel g up) k = requested_keeps b.apic k.local (set_level b.ioapic g up).answer (line_legal b.ioapic g up (set_level b.ioapic g up) (level_view b.ioapic g up))
local_keeps b AcceptInterrupt k = accept_keeps b.apic k.local
local_keeps b HandleEoi k = told_keeps b.ioapic (apic.end_highest b.apic).state (apic.end_highest b.apic).answer k.version (end_keeps b.apic k.local)
local_keeps b (WriteTpr x) k = tpr_keeps b.apic k.local x
local_keeps b (HandleWrite addr width x) k =
    write_keeps b.apic k.local b.ioapic addr width x (handle_writing b.ioapic addr width x) k.version (serves_view b.ioapic addr width x k.version)
local_keeps b (Receive v level) k = receive_keeps b.apic k.local v level

-- of the I/O APIC a call is one of its own calls, or none
told_chip : (P : IoApicState → Type 0) → ((m : IoApicState) (c : ioapic.Call) → P m → P (ioapic.next m c)) → (m : IoApicState) (s : VirtualApicRegs) (a : Option Vector) → P m → P (told_to m s a).board.ioapic
unfolding ioapic.outcome io.end_of_interrupt
told_chip P f m s None p = p
told_chip P f m s (Some v) p = f m (ioapic.EndOfInterrupt v) p

pub chip_keeps_lem : (P : IoApicState → Type 0) → ((m : IoApicState) (c : ioapic.Call) → P m → P (ioapic.next m c)) → (b : Board) (c : Call) → P b.ioapic → P (next b c).ioapic
unfolding outcome set_gsi_level accept_interrupt handle_eoi write_tpr handle_write receive ioapic.outcome io.set_gsi_level io.handle_write
chip_keeps_lem P f b (SetGsiLevel g up) p = f b.ioapic (ioapic.SetGsiLevel g up) p
chip_keeps_lem P f b AcceptInterrupt p = p
chip_keeps_lem P f b HandleEoi p = told_chip P f b.ioapic (apic.end_highest b.apic).state (apic.end_highest b.apic).answer p
chip_keeps_lem P f b (WriteTpr x) p = p
chip_keeps_lem P f b (HandleWrite addr width x) p = f b.ioapic (ioapic.HandleWrite addr width x) p
chip_keeps_lem P f b (Receive v level) p = p

pub calls_keep_rules : CallsKeepRules
calls_keep_rules b c k =
    record {
      chip = chip_keeps_lem ChipRules chip.calls_keep_rules b c k.chip;
      version = chip_keeps_lem (λ m. is_version20 m ≡ true) (λ m d p. call_is_version20 m d ∙ p) b c k.version;
      local = local_keeps b c k;
    }

pub runs_keep_rules : RunsKeepRules
unfolding run
runs_keep_rules b [] k = k
runs_keep_rules b (c ∷ cs) k = runs_keep_rules (next b c) cs (calls_keep_rules b c k)

-- a new one

none_in : (n v : ℕ) → in_words (replicate n 0) v ≡ false
none_in n v = rw (zeros n (v / 32)) (bit_none (v % 32))
  where
    zeros : (k j : ℕ) → ◌≡◌ {A = ℕ} (get_or (replicate k 0) j 0) 0
    zeros zero j = refl
    zeros (suc k) zero = refl
    zeros (suc k) (suc j) = zeros k j

pub new_keeps_rules : NewKeepsRules
unfolding new_board priority highest_from
new_keeps_rules =
    record {
      chip = chip.new_keeps_rules 0x20 0xfec00000 0x1000;
      version = refl;
      local = record { ppr = new_ppr; legal = λ v l. (none_in 8 v, none_in 8 v); eight = (refl, refl, refl) };
    }
  where
    new_ppr : 0 ≡ priority 0 (highest (replicate 8 0))
    new_ppr = rw (last_none 256 (served 16 (replicate 8 0)) (λ j l. rw (none_in 8 j) (and-false (leb 16 j))))

-- ---- refusals: only a write is refused

routed_done : (r : Option IoApicInterrupt) → reply_number (routed_reply r) ≡ 0
routed_done None = refl
routed_done (Some i) = refl

eoi_done : (r : Option Eoi) → reply_number (eoi_reply r) ≡ 0
eoi_done None = refl
eoi_done (Some (eoi.Ended e)) = go e.pending
  where
    go : (r : Option IoApicInterrupt) → reply_number (pending_reply e.gsi.0 r) ≡ 0
    go None = refl
    go (Some i) = refl
eoi_done (Some (eoi.EndedAll e)) = refl

acceptance_done : (r : Option Vector) → reply_number (acceptance_reply r) ≡ 0
acceptance_done None = refl
acceptance_done (Some v) = refl

write_refused : (s : VirtualApicRegs) (x : ℕ) (a : Result Written Refusal) → (reply_number (written_reply a) ≡ 0 → ⊥) → requested_by_write s x a ≡ s
write_refused s x (Ok written.Done) n = refl
write_refused s x (Ok (written.Sent i)) n = absurd (n refl)
write_refused s x (Ok (written.EndedAll e)) n = absurd (n refl)
write_refused s x (Err why) n = refl

pub refused_keeps : RefusedKeeps
unfolding outcome set_gsi_level accept_interrupt handle_eoi write_tpr handle_write receive ioapic.outcome io.handle_write
refused_keeps b (SetGsiLevel g up) n = absurd (n (routed_done (set_level b.ioapic g up).answer))
refused_keeps b AcceptInterrupt n = absurd (n (acceptance_done (apic.accept b.apic).answer))
refused_keeps b HandleEoi n = absurd (n (eoi_done (told_to b.ioapic (apic.end_highest b.apic).state (apic.end_highest b.apic).answer).answer))
refused_keeps b (WriteTpr x) n = absurd (n refl)
refused_keeps b (HandleWrite addr width x) n =
    λ i. record { ioapic = chip.refused_keeps b.ioapic (ioapic.HandleWrite addr width x) n i; apic = write_refused b.apic x (handle_writing b.ioapic addr width x).answer n i }
refused_keeps b (Receive v level) n = absurd (n refl)

-- ---- SVR

requested_svr : (s : VirtualApicRegs) (r : Option IoApicInterrupt) → (requested s r).svr ≡ s.svr
unfolding apic.request
requested_svr s None = refl
requested_svr s (Some i) = refl

resent_svr : (s : VirtualApicRegs) (v : Vector) (sent : ℕ) → (resent s v sent).svr ≡ s.svr
unfolding apic.request
resent_svr s v sent = go (eqb sent 0)
  where
    go : (b : Bool) → (cond b s (apic.request s v true)).svr ≡ s.svr
    go true = refl
    go false = refl

eoi_svr : (s : VirtualApicRegs) (v : Vector) (a : Option Eoi) → (requested_by_eoi s v a).svr ≡ s.svr
eoi_svr s v None = refl
eoi_svr s v (Some (eoi.Ended e)) = requested_svr s e.pending
eoi_svr s v (Some (eoi.EndedAll e)) = resent_svr s v e.sent

write_svr : (s : VirtualApicRegs) (x : ℕ) (a : Result Written Refusal) → (requested_by_write s x a).svr ≡ s.svr
write_svr s x (Ok written.Done) = refl
write_svr s x (Ok (written.Sent i)) = requested_svr s (Some i)
write_svr s x (Ok (written.EndedAll e)) = resent_svr s (record { 0 = x % 2 ^ 8 }) e.sent
write_svr s x (Err why) = refl

told_svr : (m : IoApicState) (s : VirtualApicRegs) (a : Option Vector) → (told_to m s a).board.apic.svr ≡ s.svr
told_svr m s None = refl
told_svr m s (Some v) = eoi_svr s v (end_of m v).answer

accept_svr : (s : VirtualApicRegs) → (apic.accept s).state.svr ≡ s.svr
unfolding apic.accept ranked
accept_svr s = go (is_acceptable s)
  where
    go : (b : Bool) → (cond b (apic.after {A = Option Vector} (taken s (highest s.irr)) (Some (record { 0 = highest s.irr }))) (apic.after s None)).state.svr ≡ s.svr
    go true = refl
    go false = refl

pub end_svr : (s : VirtualApicRegs) → (apic.end_highest s).state.svr ≡ s.svr
unfolding apic.end_highest ranked
end_svr s = go (eqb (highest s.isr) 0)
  where
    go : (b : Bool) → (cond b (apic.after s None) (apic.ending s (highest s.isr))).state.svr ≡ s.svr
    go true = refl
    go false = refl

receive_svr : (s : VirtualApicRegs) (v : Vector) (level : Bool) → (apic.receive s v level).svr ≡ s.svr
unfolding apic.receive apic.request
receive_svr s v level = go (ltb v.0 16)
  where
    go : (b : Bool) → (cond b (received_illegal s) (apic.request s v level)).svr ≡ s.svr
    go true = refl
    go false = refl

pub calls_keep_svr : CallsKeepSvr
unfolding outcome set_gsi_level accept_interrupt handle_eoi write_tpr handle_write receive apic.write_tpr ranked
calls_keep_svr b (SetGsiLevel g up) = requested_svr b.apic (set_level b.ioapic g up).answer
calls_keep_svr b AcceptInterrupt = accept_svr b.apic
calls_keep_svr b HandleEoi = told_svr b.ioapic (apic.end_highest b.apic).state (apic.end_highest b.apic).answer ∙ end_svr b.apic
calls_keep_svr b (WriteTpr x) = refl
calls_keep_svr b (HandleWrite addr width x) = write_svr b.apic x (handle_writing b.ioapic addr width x).answer
calls_keep_svr b (Receive v level) = receive_svr b.apic v level
