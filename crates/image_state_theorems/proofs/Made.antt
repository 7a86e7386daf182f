-- What calls made keeps the rules, and is read back. Assumes nothing.
use mathlib.Core.Path.{◌≡◌, refl, sym, ◌∙◌, subst}
use mathlib.Core.List.{List, [], ◌∷◌}
use Rattle.vioapic.specs.State.{IoApicState}
use Rattle.vioapic.specs.IoApic.{chip_of}
use Rattle.vioapic.specs.Calls as ioapic
use Rattle.vioapic_theorems.proofs.Keeps.{calls_keep_version}
use Rattle.vpic.specs.Words.{PicState}
use Rattle.vpic.specs.Pair.{new_state}
use Rattle.vpic_theorems.specs.Statements as pair
use Rattle.vpic_theorems.specs.Rule as pair_runs
use Rattle.board.specs.Board.{Board, new_board}
use Rattle.board.specs.Calls as board
use Rattle.image_state_theorems.specs.Rules.{IoRules, PairRules, StateRules}
use Rattle.image_state_theorems.specs.Made.{BoardKeeps, MadeKeeps, MadeReadBack, IoMadeKeeps, IoMadeReadBack}
use Rattle.image_state_theorems.proofs.Back.{read_back_state}
use Rattle.image_state_theorems.proofs.MadePair.{pair_calls_keep, new_pair_keeps}
use Rattle.image_state_theorems.proofs.MadeBoard.{io_calls_keep, new_io_keeps, board_calls_keep, new_board_keeps}

board_runs_keep : (b : Board) (cs : List board.Call) → BoardKeeps b → BoardKeeps (board.run b cs)
unfolding board.run
board_runs_keep b [] k = k
board_runs_keep b (c ∷ cs) k = board_runs_keep (board.next b c) cs (board_calls_keep b c k)

pair_runs_keep : (p : PicState) (ds : List pair.Call) → PairRules p → PairRules (pair_runs.run p ds)
pair_runs_keep p [] k = k
pair_runs_keep p (d ∷ ds) k = pair_runs_keep (pair.outcome p d).state ds (pair_calls_keep p d k)

pub made_keeps : MadeKeeps
made_keeps cs rule ds =
    let b = board_runs_keep new_board cs new_board_keeps in
    record { ioapic = b.ioapic; base = b.base; size = b.size; apic = b.apic; pair = pair_runs_keep (new_state rule) ds (new_pair_keeps rule) }

pub made_read_back : MadeReadBack
made_read_back cs rule ds c before fit e =
    let t = read_back_state c before fit (subst StateRules (sym e) (made_keeps cs rule ds)) in
    record { reply = t.reply; state = t.state ∙ e }

-- ---- an I/O APIC of either version

io_runs_keep : (m : IoApicState) (cs : List ioapic.Call) → IoRules m → IoRules (ioapic.run m cs)
unfolding ioapic.run
io_runs_keep m [] k = k
io_runs_keep m (c ∷ cs) k = io_runs_keep (ioapic.next m c) cs (io_calls_keep m c k)

place_kept : (m : IoApicState) (cs : List ioapic.Call) → ((ioapic.run m cs).base ≡ m.base) × ((ioapic.run m cs).size ≡ m.size)
unfolding ioapic.run
place_kept m [] = (refl, refl)
place_kept m (c ∷ cs) =
    let e = place_kept (ioapic.next m c) cs in
    (e.0 ∙ (calls_keep_version m c).1, e.1 ∙ (calls_keep_version m c).2)

pub io_made_keeps : IoMadeKeeps
io_made_keeps version cs a p h k q =
    let m = chip_of version 0xfec00000 0x1000 in
    record { ioapic = io_runs_keep m cs (new_io_keeps version 0xfec00000 0x1000 h); base = (place_kept m cs).0; size = (place_kept m cs).1; apic = k; pair = q }

pub io_made_read_back : IoMadeReadBack
io_made_read_back version cs a p c before h k q fit e =
    let t = read_back_state c before fit (subst StateRules (sym e) (io_made_keeps version cs a p h k q)) in
    record { reply = t.reply; state = t.state ∙ e }
