-- Every call of the board keeps its rules. Assumes nothing.
use Rattle.std.specs.Prelude.{Option, Some, None, Result, Ok, Err}
use mathlib.Core.Path.{◌≡◌, refl, sym, ◌∙◌, ap}
use mathlib.Core.Bool.{Bool, true, cond}
use Prim.Native.Nat.{ℕ, ◌+◌, ◌*◌, ◌/◌, ◌%◌, ◌<◌}
use native.Mathlib.Omega.{arith}
use lib.Dec.{ltb, eqb}
use borrow.Author.Tests.{eqb-false}
use Rattle.utils.specs.Set.{bit, with}
use Rattle.utils.proofs.Bools.{both, either}
use Rattle.types.specs.declared.Vector.{Vector}
use Rattle.vioapic_entry.specs.declared.IoApicInterrupt.{IoApicInterrupt}
use Rattle.vioapic.specs.State.{IoApicState}
use Rattle.vioapic.specs.Table.{is_version20, set_level, end_of}
use Rattle.vioapic.specs.IoApic.{is_version, handle_writing}
use Rattle.vioapic.specs.declared.Eoi.{Eoi}
use Rattle.vioapic.specs.declared.Eoi.TheVariants as eoi
use Rattle.vioapic.specs.declared.Written.{Written}
use Rattle.vioapic.specs.declared.Written.TheVariants as written
use Rattle.vioapic_theorems.proofs.Keeps.{calls_keep_rules, new_keeps_rules, calls_keep_version, call_is_version20}
use Rattle.vioapic_theorems.proofs.Each.{calls_keep_clear, new_clear}
use Rattle.vlapic.specs.declared.VirtualApicRegs.{VirtualApicRegs}
use Rattle.vlapic_regs.specs.Lvt.{lvt_timer, lvt_error, lvt_pin, lvt_monitor}
use Rattle.vlapic_regs.specs.Register.{low_byte, top_byte, model_bits}
use Rattle.vlapic_icr.specs.Fields.{idle}
use Rattle.vlapic_requests.specs.Requests.{ranked, is_acceptable}
use Rattle.vlapic_requests.specs.Requests as apic
use Rattle.board.specs.Board.{Board, new_board, requested, resent, requested_by_eoi, requested_by_write, told_to, set_gsi_level, accept_interrupt, handle_eoi, write_tpr, handle_write, receive}
use Rattle.board.specs.Calls.{Call, SetGsiLevel, AcceptInterrupt, HandleEoi, WriteTpr, HandleWrite, Receive, outcome, next}
use Rattle.board_theorems.specs.Rules.{LocalRules, BoardRules}
use Rattle.board_theorems.proofs.Rules as board
use Rattle.image_rules.specs.Rules.{id_kept, errors}
use Rattle.image_state_theorems.specs.Rules.{IoRules, ApicRules}
use Rattle.image_state_theorems.specs.Made.{NewIoKeeps, IoCallsKeep, BoardKeeps, NewBoardKeeps, BoardCallsKeep}
use Rattle.types.specs.declared.Refusal.{Refusal}

-- ---- the I/O APIC

pub new_io_keeps : NewIoKeeps
new_io_keeps version base size h = record { chip = new_keeps_rules version base size; version = h; clear = λ v. new_clear version base size }

pub io_calls_keep : IoCallsKeep
io_calls_keep m c k = record {
  chip = calls_keep_rules m c k.chip;
  version = ap is_version (calls_keep_version m c).0 ∙ k.version;
  clear = λ v. let w : is_version20 m ≡ true = sym (call_is_version20 m c) ∙ v in calls_keep_clear m c w (k.clear w);
}

-- ---- the local APIC: what its registers keep, in one product

abbrev Masks : VirtualApicRegs → Type 0
Masks s =
    (low_byte s.tpr ≡ s.tpr) × (top_byte s.ldr ≡ s.ldr) × (model_bits s.dfr ≡ s.dfr) × (errors s.esr ≡ s.esr) × (errors s.esr_pending ≡ s.esr_pending)
    × (idle s.icr_lo ≡ s.icr_lo) × (cond s.x2apic s.icr_hi (top_byte s.icr_hi) ≡ s.icr_hi) × (lvt_monitor s.lvt_cmci ≡ s.lvt_cmci)
    × (lvt_timer s.lvt_timer ≡ s.lvt_timer) × (lvt_monitor s.lvt_thermal ≡ s.lvt_thermal) × (lvt_monitor s.lvt_pmi ≡ s.lvt_pmi)
    × (lvt_pin s.lvt_lint0 ≡ s.lvt_lint0) × (lvt_pin s.lvt_lint1 ≡ s.lvt_lint1) × (lvt_error s.lvt_error ≡ s.lvt_error) × (id_kept s.x2apic s.vapic_id ≡ s.vapic_id)

masks : (s : VirtualApicRegs) → ApicRules s → Masks s
masks s r = (r.tpr, r.ldr, r.dfr, r.esr, r.pending, r.icr_lo, r.icr_hi, r.cmci, r.timer, r.thermal, r.pmi, r.lint0, r.lint1, r.error, r.id)

rules : (s : VirtualApicRegs) → LocalRules s → Masks s → ApicRules s
rules s l m = record {
  local = l;
  id = m.14;
  tpr = m.0;
  ldr = m.1;
  dfr = m.2;
  esr = m.3;
  pending = m.4;
  icr_lo = m.5;
  icr_hi = m.6;
  cmci = m.7;
  timer = m.8;
  thermal = m.9;
  pmi = m.10;
  lint0 = m.11;
  lint1 = m.12;
  error = m.13;
}

-- bit 6 is one of the errors
noted : (p : ℕ) → errors p ≡ p → errors (with p 6) ≡ with p 6
unfolding with
noted p h = either (λ (x : ℕ). errors x ≡ x) (bit p 6) p (p + 64) (λ t. h) (λ t.
    let d : (p / 64 % 2 ≡ 1) → ⊥ = eqb-false (p / 64 % 2) 1 t in
    let a : p < 128 = omega (arith, h) in
    let b : p < 64 = omega (arith, a, d) in
    let q : p / 32 < 2 = omega (arith, b) in
    let e : (p + 64) / 32 ≡ p / 32 + 2 = omega arith in
    let f : p ≡ p / 32 * 32 = omega (arith, h, q) in
    let g : (p + 64) / 32 % 4 ≡ p / 32 + 2 = omega (arith, e, q) in
    rw g (omega (arith, f)))

module _ (s : VirtualApicRegs) (k : Masks s) where
  request_masks : (v : Vector) (level : Bool) → Masks (apic.request s v level)
  unfolding apic.request
  request_masks v level = k

  requested_masks : (r : Option IoApicInterrupt) → Masks (requested s r)
  requested_masks None = k
  requested_masks (Some i) = request_masks i.vector i.level_triggered

  resent_masks : (v : Vector) (sent : ℕ) → Masks (resent s v sent)
  resent_masks v sent = both Masks (eqb sent 0) s (apic.request s v true) k (request_masks v true)

  eoi_masks : (v : Vector) (a : Option Eoi) → Masks (requested_by_eoi s v a)
  eoi_masks v None = k
  eoi_masks v (Some (eoi.Ended e)) = requested_masks e.pending
  eoi_masks v (Some (eoi.EndedAll e)) = resent_masks v e.sent

  write_masks : (x : ℕ) (a : Result Written Refusal) → Masks (requested_by_write s x a)
  write_masks x (Ok written.Done) = k
  write_masks x (Ok (written.Sent i)) = request_masks i.vector i.level_triggered
  write_masks x (Ok (written.EndedAll e)) = resent_masks (record { 0 = x % 256 }) e.sent
  write_masks x (Err why) = k

  told_masks : (m : IoApicState) (a : Option Vector) → Masks (told_to m s a).board.apic
  told_masks m None = k
  told_masks m (Some v) = eoi_masks v (end_of m v).answer

  accept_masks : Masks (apic.accept s).state
  unfolding apic.accept ranked
  accept_masks = both (λ (r : apic.After (Option Vector)). Masks r.state) (is_acceptable s) _ _ k k

  end_masks : Masks (apic.end_highest s).state
  unfolding apic.end_highest ranked
  end_masks = both (λ (r : apic.After (Option Vector)). Masks r.state) (eqb (apic.highest s.isr) 0) _ _ k k

  tpr_masks : (x : ℕ) → Masks (apic.write_tpr s x)
  unfolding apic.write_tpr ranked
  tpr_masks x = (omega arith, k.1, k.2, k.3, k.4, k.5, k.6, k.7, k.8, k.9, k.10, k.11, k.12, k.13, k.14)

  receive_masks : (v : Vector) (level : Bool) → Masks (apic.receive s v level)
  unfolding apic.receive
  receive_masks v level = both Masks (ltb v.0 16) _ _ (k.0, k.1, k.2, k.3, noted s.esr_pending k.4, k.5, k.6, k.7, k.8, k.9, k.10, k.11, k.12, k.13, k.14) (request_masks v level)

local_masks : (b : Board) (c : Call) → Masks b.apic → Masks (next b c).apic
unfolding outcome set_gsi_level accept_interrupt handle_eoi write_tpr handle_write receive
local_masks b (SetGsiLevel g up) k = requested_masks b.apic k (set_level b.ioapic g up).answer
local_masks b AcceptInterrupt k = accept_masks b.apic k
local_masks b HandleEoi k = told_masks (apic.end_highest b.apic).state (end_masks b.apic k) b.ioapic (apic.end_highest b.apic).answer
local_masks b (WriteTpr x) k = tpr_masks b.apic k x
local_masks b (HandleWrite addr width x) k = write_masks b.apic k x (handle_writing b.ioapic addr width x).answer
local_masks b (Receive v level) k = receive_masks b.apic k v level

-- ---- the board

pub board_rules : (b : Board) → BoardKeeps b → BoardRules b
board_rules b k = record { chip = k.ioapic.chip; version = k.version; local = k.apic.local }

pub board_calls_keep : BoardCallsKeep
board_calls_keep b c k =
    let r = board.calls_keep_rules b c (board_rules b k) in
    record {
      ioapic = board.chip_keeps_lem IoRules io_calls_keep b c k.ioapic;
      version = r.version;
      base = board.chip_keeps_lem (λ m. m.base ≡ 0xfec00000) (λ m d p. (calls_keep_version m d).1 ∙ p) b c k.base;
      size = board.chip_keeps_lem (λ m. m.size ≡ 0x1000) (λ m d p. (calls_keep_version m d).2 ∙ p) b c k.size;
      apic = rules (next b c).apic r.local (local_masks b c (masks b.apic k.apic));
    }

pub new_board_keeps : NewBoardKeeps
unfolding new_board
new_board_keeps = record {
  ioapic = new_io_keeps 0x20 0xfec00000 0x1000 refl;
  version = refl;
  base = refl;
  size = refl;
  apic = rules new_board.apic (board.new_keeps_rules).local (refl, refl, refl, refl, refl, refl, refl, refl, refl, refl, refl, refl, refl, refl, refl);
}
