-- What holds after a restore (document 02, T-11): the state read keeps what the chips' theorems ask, so that they start from it. Demand 2, every call's promise, is of any words; so
-- each call answers as it would have on the chips that were saved.
use Rattle.std.specs.Prelude.{ℕ, ◌+◌, ◌-◌, ◌<◌, true, false, List, [], ◌∷◌, ◌++◌, ◌≡◌}
use Rattle.types.specs.declared.Gsi.{Gsi}
use Rattle.types.specs.declared.Vector.{Vector}
use Rattle.types.specs.declared.Reply.TheVariants.{Two, Nothing}
use Rattle.vioapic_entry.specs.Redirection.{remote_irr}
use Rattle.vioapic.specs.State.{IoApicState}
use Rattle.vioapic.specs.Table.{is_version20, entry_at}
use Rattle.vioapic.specs.IoApic.{set_gsi_level}
use Rattle.vioapic.specs.Calls as ioapic
use Rattle.vioapic_theorems.specs.Rules.{ChipRules}
use Rattle.vioapic_theorems.specs.Sends.{sends, eois, lower_in_flight}
use Rattle.vioapic_theorems.specs.Premises.{throughout, demanded}
use Rattle.vioapic_theorems.specs.Heard.{SentOnTime}
use Rattle.vioapic_theorems.specs.Heard20.{held_up, SentEachTime, stays_level, asks_at_eoi, own_eois}
use Rattle.vlapic.specs.Registers.{handle_read}
use Rattle.vpic.specs.Pair.{Keeps}
use Rattle.vpic_theorems.specs.Statements as pair
use Rattle.vpic_theorems.specs.Rule as pair_runs
use Rattle.board.specs.Calls as board
use Rattle.board_theorems.specs.Rules.{BoardRules}
use Rattle.board_bound.specs.Trace.{is_requested, steps_before}
use Rattle.board_bound.specs.Bound.{Fair, AcceptedAfter}
use Rattle.image.specs.Restore.{Chips, restored}
use Rattle.image_state_theorems.specs.Rules.{State, StateRules}
use Rattle.image_state_theorems.specs.States.{state_in, image_in, Words, Bytes}

-- the state that restoring these bytes leaves
abbrev pub left : List ℕ → Chips → State
left s before = state_in (restored s before).state

abbrev pub is_taken : List ℕ → Chips → Type 0
is_taken s before = Bytes s × ((restored s before).reply ≡ Nothing)

-- ---- it answers as the one that was saved: the board's calls, the pair's, the I/O APIC's own, its reads among them, and the reads of local registers

pub record AnswersAs (s t : State) : Type 0 where
  pub call : (c : board.Call) → board.outcome s.board c ≡ board.outcome t.board c
  pub calls : (cs : List board.Call) → board.run s.board cs ≡ board.run t.board cs
  pub claim : (c : pair.Call) → pair.outcome s.pair c ≡ pair.outcome t.pair c
  pub claims : (cs : List pair.Call) → pair_runs.run s.pair cs ≡ pair_runs.run t.pair cs
  pub own : (c : ioapic.Call) → ioapic.outcome s.board.ioapic c ≡ ioapic.outcome t.board.ioapic c
  pub owns : (cs : List ioapic.Call) → ioapic.run s.board.ioapic cs ≡ ioapic.run t.board.ioapic cs
  pub read : (offset : ℕ) → handle_read s.board.apic offset ≡ handle_read t.board.apic offset

abbrev pub GoesOn : Type 0
GoesOn = (c before : Chips) → Words c → StateRules (state_in c) → AnswersAs (left (image_in c) before) (state_in c)

-- ---- demand 3: a device that holds its line is heard, from the state read on

abbrev pub RestoredHeard : Type 0
RestoredHeard =
    (s : List ℕ) (before : Chips) (g : Gsi) (v : Vector) (after : List ioapic.Call)
    → is_taken s before
    → is_version20 (left s before).board.ioapic ≡ false
    → (set_gsi_level (left s before).board.ioapic g true).reply ≡ Two v.0 1
    → throughout (demanded v g.0) (ioapic.next (left s before).board.ioapic (ioapic.SetGsiLevel g true)) after ≡ true
    → SentOnTime (left s before).board.ioapic g v after

abbrev pub RestoredHeard20 : Type 0
RestoredHeard20 =
    (s : List ℕ) (before : Chips) (g : Gsi) (v : Vector) (after : List ioapic.Call)
    → is_taken s before
    → is_version20 (left s before).board.ioapic ≡ true
    → (set_gsi_level (left s before).board.ioapic g true).reply ≡ Two v.0 1
    → throughout (held_up g.0) (ioapic.next (left s before).board.ioapic (ioapic.SetGsiLevel g true)) after ≡ true
    → SentEachTime (left s before).board.ioapic g v after

-- a line that is in flight in the state read, whatever raised it: it is sent at each EOI of its vector that finds it fit and asking, and by no other call
abbrev pub RestoredHeld20 : Type 0
RestoredHeld20 =
    (s : List ℕ) (before : Chips) (g : ℕ) (after : List ioapic.Call)
    → is_taken s before
    → is_version20 (left s before).board.ioapic ≡ true
    → g < 24
    → remote_irr (entry_at (left s before).board.ioapic g).word ≡ true
    → throughout (λ m c. stays_level g m c ∷ asks_at_eoi g m c ∷ []) (left s before).board.ioapic after ≡ true
    → sends g (left s before).board.ioapic after ≡ own_eois g (left s before).board.ioapic after

-- ---- a run that is cut by a move: calls cs before the save, and `after` on the chip that was restored

-- in both versions, an entry is sent as often as in one run on one chip
abbrev pub MovedSends : Type 0
MovedSends =
    (m : IoApicState) (g : ℕ) (cs after : List ioapic.Call) (c before : Chips)
    → Words c
    → StateRules (state_in c)
    → (state_in c).board.ioapic ≡ ioapic.run m cs
    → sends g m (cs ++ after) ≡ sends g m cs + sends g (left (image_in c) before).board.ioapic after

-- so demand 3 of version 0x11 for a line that was raised before the move and is held across it
abbrev pub MovedHeard : Type 0
MovedHeard =
    (m : IoApicState) (g : Gsi) (v : Vector) (during after : List ioapic.Call) (c before : Chips)
    → Words c
    → StateRules (state_in c)
    → (state_in c).board.ioapic ≡ ioapic.run m (ioapic.SetGsiLevel g true ∷ during)
    → is_version20 m ≡ false
    → ChipRules m
    → (set_gsi_level m g true).reply ≡ Two v.0 1
    → throughout (demanded v g.0) (ioapic.next m (ioapic.SetGsiLevel g true)) (during ++ after) ≡ true
    → sends g.0 m (ioapic.SetGsiLevel g true ∷ during) + sends g.0 (left (image_in c) before).board.ioapic after
    ≡ 1 + (eois v (during ++ after) - lower_in_flight v g.0 m)

-- ---- the board's rules, and T-09's bound on a request's wait

abbrev pub RestoredBoard : Type 0
RestoredBoard = (s : List ℕ) (before : Chips) → is_taken s before → is_version20 (left s before).board.ioapic ≡ true → BoardRules (left s before).board

abbrev pub RestoredBound : Type 0
RestoredBound =
    (s : List ℕ) (before : Chips) (v : Vector) (cs : List board.Call)
    → is_taken s before
    → is_version20 (left s before).board.ioapic ≡ true
    → is_requested v (left s before).board ≡ true
    → Fair v (left s before).board cs
    → AcceptedAfter (steps_before v (left s before).board) v (left s before).board cs

-- the pair keeps the cascade rule, which its theorems ask
abbrev pub RestoredPair : Type 0
RestoredPair = (s : List ℕ) (before : Chips) → is_taken s before → Keeps (left s before).pair
