-- The chips' theorems start from the state read. Assumes nothing.
use mathlib.Core.Path.{◌≡◌, sym, ◌∙◌, ap}
use mathlib.Core.Bool.{Bool, true, ◌&&◌, ◌||◌}
use mathlib.Core.List.{List, [], ◌∷◌, ◌++◌}
use Prim.Native.Nat.{ℕ, ◌+◌}
use native.Mathlib.Omega.{arith}
use Rattle.utils.proofs.Bools.{and_true}
use Rattle.vioapic_entry.specs.Redirection.{remote_irr, is_level, is_fit}
use Rattle.vioapic.specs.State.{IoApicState}
use Rattle.vioapic.specs.Table.{is_version20, entry_at}
use Rattle.vioapic.specs.Calls as ioapic
use Rattle.vioapic_theorems.specs.Rules.{implies}
use Rattle.vioapic_theorems.specs.Sends.{sent, sends}
use Rattle.vioapic_theorems.proofs.Demand.{heard_from_rules}
use Rattle.vioapic_theorems.proofs.Heard20.{heard_20, sent_at_its_eois}
use Rattle.vlapic.specs.Registers.{handle_read}
use Rattle.vpic_theorems.specs.Statements as pair
use Rattle.vpic_theorems.specs.Rule as pair_runs
use Rattle.board.specs.Calls as board
use Rattle.board_bound.proofs.Bound.{bound}
use Rattle.image.specs.Restore.{Chips}
use Rattle.image_state_theorems.specs.Rules.{State, StateRules}
use Rattle.image_state_theorems.specs.After.{left, is_taken, GoesOn, RestoredHeard, RestoredHeard20, RestoredHeld20, MovedSends, MovedHeard, RestoredBoard, RestoredBound, RestoredPair}
use Rattle.image_state_theorems.specs.States.{image_in}
use Rattle.image_state_theorems.proofs.Back.{read_back_state}
use Rattle.image_state_theorems.proofs.Taken.{taken_is_written}

pub goes_on : GoesOn
goes_on c before fit r =
    let e = (read_back_state c before fit r).state in
    record {
      call = λ d. ap (λ (s : State). board.outcome s.board d) e;
      calls = λ ds. ap (λ (s : State). board.run s.board ds) e;
      claim = λ d. ap (λ (s : State). pair.outcome s.pair d) e;
      claims = λ ds. ap (λ (s : State). pair_runs.run s.pair ds) e;
      own = λ d. ap (λ (s : State). ioapic.outcome s.board.ioapic d) e;
      owns = λ ds. ap (λ (s : State). ioapic.run s.board.ioapic ds) e;
      read = λ o. ap (λ (s : State). handle_read s.board.apic o) e;
    }

left_rules : (s : List ℕ) (before : Chips) → is_taken s before → StateRules (left s before)
left_rules s before t = (taken_is_written s before t.0 t.1).rules

pub restored_heard : RestoredHeard
restored_heard s before g v after t o q h = heard_from_rules (left s before).board.ioapic g v after o (left_rules s before t).ioapic.chip q h

pub restored_heard_20 : RestoredHeard20
restored_heard_20 s before g v after t o q h = heard_20 (left s before).board.ioapic g v after o (left_rules s before t).ioapic.chip.agrees q h

-- in flight only level
level_of : (a r l x : Bool) → (implies a r && implies r (l && x)) ≡ true → r ≡ true → l ≡ true
level_of a r l x h e = let k : implies r (l && x) ≡ true = (and_true (implies a r) (implies r (l && x)) h).1 in (and_true l x (rw e at k)).0

pub restored_held_20 : RestoredHeld20
restored_held_20 s before g after t o l f h =
    let m = (left s before).board.ioapic in
    let e = entry_at m g in
    let r = (left_rules s before t).ioapic.chip in
    sent_at_its_eois m g after o r.agrees l (level_of e.pending_level (remote_irr e.word) (is_level e.word) (is_version20 m || is_fit e.word) (r.each g l) f) f h

-- ---- a run that is cut

sends_append : (g : ℕ) (m : IoApicState) (cs ds : List ioapic.Call) → sends g m (cs ++ ds) ≡ sends g m cs + sends g (ioapic.run m cs) ds
unfolding sends ioapic.run
sends_append g m [] ds = omega arith
sends_append g m (c ∷ cs) ds =
    let e = sends_append g (ioapic.next m c) cs ds in
    ap (λ (n : ℕ). sent g m c (ioapic.outcome m c).reply + n) e ∙ omega arith

pub moved_sends : MovedSends
moved_sends m g cs after c before fit r e =
    let f : (left (image_in c) before).board.ioapic ≡ ioapic.run m cs = ap (λ (s : State). s.board.ioapic) (read_back_state c before fit r).state ∙ e in
    sends_append g m cs after ∙ ap (λ (n : IoApicState). sends g m cs + sends g n after) (sym f)

pub moved_heard : MovedHeard
moved_heard m g v during after c before fit r e o k q h = sym (moved_sends m g.0 (ioapic.SetGsiLevel g true ∷ during) after c before fit r e) ∙ heard_from_rules m g v (during ++ after) o k q h

pub restored_board : RestoredBoard
restored_board s before t o = let r = left_rules s before t in record { chip = r.ioapic.chip; version = o; local = r.apic.local }

pub restored_bound : RestoredBound
restored_bound s before v cs t o q f = bound v (left s before).board cs (restored_board s before t o) q f

pub restored_pair : RestoredPair
restored_pair s before t = (left_rules s before t).pair.cascade
