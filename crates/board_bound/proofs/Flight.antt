-- A held line's entry stays in flight, and its vector keeps its trace. Assumes nothing.
use Rattle.std.specs.Prelude.{Option, Some, None}
use Prim.Native.Nat.{ℕ, ◌%◌, ◌^◌, ◌<◌}
use native.Mathlib.Decide.{ℕ_discrete}
use mathlib.Core.Bool.{Bool, true, false, not, cond, ◌&&◌}
use mathlib.Core.Path.{◌≡◌, refl, sym, ap, ◌∙◌}
use borrow.Author.Tests.{eqb-true, eqb-false}
use lib.Dec.{eqb}
use Rattle.utils.proofs.Bools.{never, and_true}
use Rattle.types.specs.declared.Vector.{Vector}
use Rattle.vioapic_theorems.specs.Premises.{asks}
use Rattle.vioapic_entry.specs.Redirection.{EntryStep, without_remote_irr, remote_irr, is_level, is_fit, has_vector, awaits, end_entry20, store_low20}
use Rattle.vioapic_entry.specs.declared.Entry.{Entry}
use Rattle.vioapic_entry.proofs.Fields.{irr_with}
use Rattle.vioapic.specs.State.{IoApicState}
use Rattle.vioapic.specs.Agreement.{Agrees}
use Rattle.vioapic.specs.Table.{Ending, entry_at, put, set_level, end_of_every}
use Rattle.vioapic.specs.Registers.{Writing}
use Rattle.vioapic.specs.IoApic.{handle_writing}
use Rattle.vioapic_theorems.proofs.Steps.{awaits_yes}
use Rattle.vioapic_theorems.proofs.Tables.{put_same, put_other, every_at}
use Rattle.vioapic_theorems.proofs.Views.{Sent, Over, over_view20, Stored, level_view}
use Rattle.vlapic.specs.declared.VirtualApicRegs.{VirtualApicRegs}
use Rattle.vlapic_requests.specs.Requests as apic
use Rattle.board.specs.Board.{Board, told_to, set_gsi_level, accept_interrupt, handle_eoi, write_tpr, handle_write, receive}
use Rattle.board.specs.Calls.{Call, SetGsiLevel, AcceptInterrupt, HandleEoi, WriteTpr, HandleWrite, Receive, outcome, next}
use Rattle.board_theorems.specs.Rules.{BoardRules, Tells}
use Rattle.board_theorems.specs.Traced.{trace, asked, is_level_of, is_edge_of, puts}
use Rattle.board_theorems.proofs.Sent.{Serves, serves_view}
use Rattle.board_theorems.proofs.Entries.{line_stays, end_of_new, every_stays, high_stays}
use Rattle.board_theorems.proofs.Exact.{calls_exact}
use Rattle.board_bound.specs.Bound.{held_entry, is_held}

-- the parts of a held entry
pub record Held (v : Vector) (e : Entry) : Type 0 where
  pub vector : has_vector e.word v ≡ true
  pub level : is_level e.word ≡ true
  pub fit : is_fit e.word ≡ true
  pub up : e.input_level ≡ true

pub holding : (v : Vector) (e : Entry) → held_entry v e ≡ true → Held v e
holding v e h =
    let p = and_true (has_vector e.word v && is_level e.word && is_fit e.word) e.input_level h in
    let q = and_true (has_vector e.word v && is_level e.word) (is_fit e.word) p.0 in
    let r = and_true (has_vector e.word v) (is_level e.word) q.0 in
    record { vector = r.0; level = r.1; fit = q.1; up = p.1 }

-- an EOI leaves it held only if it sends it again
ended_aloft : (v : Vector) (e : Entry) (r : EntryStep) → Over e r → Held v r.entry → remote_irr r.entry.word ≡ true
ended_aloft v e r (Over.resent b a c (Sent.unfit p)) k = never k.fit p
ended_aloft v e r (Over.resent b a c (Sent.edge p q)) k = never k.level q
ended_aloft v e r (Over.resent b a c (Sent.later p q i)) k = i
ended_aloft v e r (Over.resent b a c (Sent.fresh p q i)) k = irr_with (without_remote_irr e.word)
ended_aloft v e r (Over.rested a) k = let h : asks e ≡ true = rw k.up in never h a

every_flies : (v u : Vector) (m : IoApicState) (g : ℕ) → Agrees m → awaits v (entry_at m g) ≡ true → held_entry v (entry_at (end_of_every m u).state g) ≡ true → awaits v (entry_at (end_of_every m u).state g) ≡ true
every_flies v u m g a w n = go (eqb u.0 v.0) refl
  where
    go : (b : Bool) → eqb u.0 v.0 ≡ b → awaits v (entry_at (end_of_every m u).state g) ≡ true
    go false e = every_stays m a u v g (eqb-false u.0 v.0 e) w
    go true e =
        let i : u ≡ v = ap (λ (n : ℕ). record { 0 = n }) (eqb-true u.0 v.0 e) in
        let here : entry_at (end_of_every m u).state g ≡ (end_entry20 (entry_at m g)).entry = rw i (every_at m v a g ∙ rw w) in
        let k : Held v (end_entry20 (entry_at m g)).entry = holding v (end_entry20 (entry_at m g)).entry (rw here at n) in
        rw here (awaits_yes v (end_entry20 (entry_at m g)).entry (record { vector = k.vector; level = k.level; flight = ended_aloft v (entry_at m g) (end_entry20 (entry_at m g)) (over_view20 (entry_at m g)) k }))

-- its low word, written: held still, it is in flight
stored_aloft : (v : Vector) (e : Entry) (x : ℕ) (r : EntryStep) → Stored e x r → Held v r.entry → remote_irr r.entry.word ≡ true
stored_aloft v e x r (Stored.owed o (Sent.unfit p)) k = never k.fit p
stored_aloft v e x r (Stored.owed o (Sent.edge p q)) k = never k.level q
stored_aloft v e x r (Stored.owed o (Sent.later p q i)) k = i
stored_aloft v e x r (Stored.owed o (Sent.fresh p q i)) k = irr_with (store_low20 e x).word
stored_aloft v e x r (Stored.unowed o) k = go (remote_irr (store_low20 e x).word) (rw (k.level, k.up) at o)
  where
    go : (b : Bool) → (not b && true) ≡ false → b ≡ true
    go true q = refl
    go false q = never refl q

stored_flies : (v : Vector) (e : Entry) (x : ℕ) (r : EntryStep) → Stored e x r → held_entry v r.entry ≡ true → awaits v r.entry ≡ true
stored_flies v e x r s h =
    let k : Held v r.entry = holding v r.entry h in
    awaits_yes v r.entry (record { vector = k.vector; level = k.level; flight = stored_aloft v e x r s k })

pub flight_stays : (v : Vector) (b : Board) (c : Call) (g : ℕ) → BoardRules b → awaits v (entry_at b.ioapic g) ≡ true → is_held v g (next b c) ≡ true
    → awaits v (entry_at (next b c).ioapic g) ≡ true
unfolding outcome set_gsi_level accept_interrupt handle_eoi write_tpr handle_write receive
flight_stays v b (SetGsiLevel gsi up) g k w n = line_stays v b.ioapic gsi up (set_level b.ioapic gsi up) g k.chip.agrees (level_view b.ioapic gsi up) w
flight_stays v b AcceptInterrupt g k w n = w
flight_stays v b HandleEoi g k w n = told (apic.end_highest b.apic).state (apic.end_highest b.apic).answer n
  where
    told : (s : VirtualApicRegs) (a : Option Vector) → held_entry v (entry_at (told_to b.ioapic s a).board.ioapic g) ≡ true → awaits v (entry_at (told_to b.ioapic s a).board.ioapic g) ≡ true
    told s None n = w
    told s (Some u) n =
        let same = end_of_new b.ioapic u k.version in
        ap (λ (o : Ending). awaits v (entry_at o.state g)) same
        ∙ every_flies v u b.ioapic g k.chip.agrees w (sym (ap (λ (o : Ending). held_entry v (entry_at o.state g)) same) ∙ n)
flight_stays v b (WriteTpr x) g k w n = w
flight_stays v b (HandleWrite addr width x) g k w n = written (handle_writing b.ioapic addr width x) (serves_view b.ioapic addr width x k.version) n
  where
    written : (o : Writing) → Serves b.ioapic addr width x o → held_entry v (entry_at o.state g) ≡ true → awaits v (entry_at o.state g) ≡ true
    written o (Serves.refused why p q) n = w
    written o (Serves.selected y p q) n = w
    written o (Serves.low i r j e p q z) n = at (ℕ_discrete g i)
      where
        at : Dec (g ≡ i) → awaits v (entry_at (put b.ioapic i r.entry) g) ≡ true
        at (yes e) =
            let here : entry_at (put b.ioapic i r.entry) g ≡ r.entry = rw e (put_same b.ioapic i r.entry k.chip.agrees.table j) in
            rw here (stored_flies v (entry_at b.ioapic i) (x % 2 ^ 32) r z (rw here at n))
        at (no e) = ap (awaits v) (put_other b.ioapic i r.entry g e) ∙ w
    written o (Serves.high i j p q) n = high_stays v b.ioapic i (x % 2 ^ 32) g k.chip.agrees j w
    written o (Serves.eoi p q) n = every_flies v (record { 0 = x % 2 ^ 32 % 2 ^ 8 }) b.ioapic g k.chip.agrees w n
flight_stays v b (Receive u level) g k w n = w

-- and so v keeps its trace, where no call asks for it edge-triggered
pub trace_stays : (v : Vector) (b : Board) (c : Call) (g : ℕ) → BoardRules b → Tells b → g < 24 → trace v b.apic ≡ true → is_edge_of v (asked b c) ≡ false
    → awaits v (entry_at (next b c).ioapic g) ≡ true → trace v (next b c).apic ≡ true
trace_stays v b c g k t l h e w = calls_exact v b c false k t (λ j i z. h) g l w ∙ rw (e, h) (kept (is_level_of v (asked b c)) (puts v b c))
  where
    kept : (a p : Bool) → not (cond a false (cond p false false)) ≡ true
    kept true p = refl
    kept false true = refl
    kept false false = refl
