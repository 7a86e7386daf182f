-- Theorems about the cascade rule (8259A, cascade mode: a slave's INT output drives its line of the master): every call keeps it, and no slave request that counts
-- goes unheard.
use Rattle.std.specs.Prelude.{ℕ, ◌≡◌, Bool, true, false, List, [], ◌∷◌, ltb, Some}
use Rattle.utils.specs.Set.{bit}
use Rattle.types.specs.declared.PicLine.{PicLine}
use Rattle.types.specs.Reply.{reply_number}
use Rattle.vpic_chip.specs.Registers.{Chip}
use Rattle.vpic.specs.Words.{PicState}
use Rattle.vpic.specs.declared.PicRule.{PicRule}
use Rattle.vpic.specs.declared.PicInterruptClaim.{PicInterruptClaim}
use Rattle.vpic_chip.specs.Chip.{is_above, blocks_line, is_polled, asks, counts, pending_line, Highest, cascade_irq}
use Rattle.vpic.specs.Pair.{Port, master_command, master_data, slave_command, slave_data, no_port, port_at, rule_in, new_state, is_cascade, Keeps, slave_claim, claim_pending, latched, restored, port_written, restore_interrupt, handle_read}
use Rattle.vpic.specs.Departures.{at, line}
use Rattle.vpic_theorems.specs.Statements.{Call, call_claim_irq, claim_pending_interrupt, pulse_irq, next_interrupt, call_restore_interrupt, call_handle_read, call_handle_write, outcome}

-- ---- what the rule says

-- a chip's output is up exactly when some request of it counts: where one does, it is up
abbrev pub AsksIfCounts : Type 0
AsksIfCounts = (c : Chip) (k : ℕ) → counts c k ≡ true → asks c ≡ true

-- and where it is up, one does: the line that the search finds is the highest of them
abbrev pub CountsIfAsks : Type 0
CountsIfAsks = (c : Chip) → asks c ≡ true → Highest c (pending_line c)

-- ---- it is kept

-- calls one after another
abbrev pub run : PicState → List Call → PicState
run p [] = p
run p (c ∷ l) = run (outcome p c).state l

-- a new pair has the rule that was asked for, and keeps it
abbrev pub NewHasRule : Type 0
NewHasRule = (rule : PicRule) → rule_in (new_state rule).rule ≡ rule

abbrev pub NewKeeps : Type 0
NewKeeps = (rule : PicRule) → Keeps (new_state rule)

-- so does every call, with any arguments, on a pair that keeps it; and the rule stays the one that was chosen
abbrev pub CallsKeep : Type 0
CallsKeep = (p : PicState) (c : Call) → Keeps p → Keeps (outcome p c).state

abbrev pub CallsKeepNumber : Type 0
CallsKeepNumber = (p : PicState) (c : Call) → (outcome p c).state.rule ≡ p.rule

-- so any calls on a new pair do
abbrev pub RunsKeep : Type 0
RunsKeep = (rule : PicRule) (l : List Call) → Keeps (run (new_state rule) l)

-- whether a poll waits on the chip of a port
abbrev pub polled_at : PicState → Port → Bool
polled_at p master_command = is_polled p.master
polled_at p master_data = is_polled p.master
polled_at p slave_command = is_polled p.slave
polled_at p slave_data = is_polled p.slave
polled_at p no_port = false

abbrev pub poll_waits : PicState → ℕ → Bool
poll_waits p port = polled_at p (port_at port)

-- the calls that leave it kept whatever the pair was before, where they aren't refused: all but a read without a poll, and a claim of a line that the pair hasn't, which change
-- nothing
abbrev pub settles : PicState → Call → Bool
settles p (call_claim_irq l) = ltb l.0 16
settles p claim_pending_interrupt = true
settles p (pulse_irq l) = ltb l.0 16
settles p next_interrupt = true
settles p (call_restore_interrupt c) = true
settles p (call_handle_read port width) = poll_waits p port
settles p (call_handle_write port width value) = true

abbrev pub CallsSettle : Type 0
CallsSettle = (p : PicState) (c : Call) → settles p c ≡ true → reply_number (outcome p c).reply ≡ 0 → Keeps (outcome p c).state

-- so a pair keeps it with a line latched before anything is claimed, with any byte written to any port, and with any claim restored
abbrev pub LatchedKeeps : Type 0
LatchedKeeps = (p : PicState) (l : PicLine) → Keeps (latched p l)

abbrev pub WrittenKeeps : Type 0
WrittenKeeps = (p : PicState) (port byte : ℕ) → Keeps (port_written p port byte)

abbrev pub RestoredKeeps : Type 0
RestoredKeeps = (p : PicState) (c : PicInterruptClaim) → Keeps (restored p c)

-- a read changes nothing unless a poll waits on its chip
abbrev pub ReadsUnchanged : Type 0
ReadsUnchanged = (p : PicState) (port width : ℕ) → poll_waits p port ≡ false → (handle_read p port width).state ≡ p

-- line 2 raised by hand latches nothing
abbrev pub LineTwoLatchesNothing : Type 0
LineTwoLatchesNothing = (p : PicState) → is_cascade p ≡ true → Keeps p → latched p (line 2) ≡ p

-- ---- no slave request that counts goes unheard

-- nothing on the master stands before its line 2: it is unmasked, it is above every line that is in its way, and no unmasked request of a line above it waits
pub record Clear (m : Chip) : Type 0 where
  pub unmasked : bit m.mask cascade_irq.0 ≡ false
  pub idle : (k : ℕ) → is_above m cascade_irq.0 k ≡ false → blocks_line m cascade_irq.0 k ≡ false
  pub quiet : (k : ℕ) → is_above m k cascade_irq.0 ≡ true → bit m.request k ≡ true → bit m.mask k ≡ true

-- the slave answers for its line k, the highest of its requests that count: its vector, line k + 8
pub record Heard (p : PicState) (k : ℕ) : Type 0 where
  pub highest : Highest p.slave k
  pub served : claim_pending p ≡ slave_claim p (line k)

abbrev pub SlaveHeard : Type 0
SlaveHeard = (p : PicState) (j : ℕ) → is_cascade p ≡ true → Keeps p → counts p.slave j ≡ true → Clear p.master → Heard p (pending_line p.slave)

-- ---- a computed example

-- why a claim restored at once asks for a pair that keeps the rule: of the two chips of base 0 with nothing masked and nothing in service, the master's request 2 stands and
-- no request of the slave's. The claim of line 2 is restored, and the request is gone: the rule holds then
abbrev pub unkept : PicState
unkept = record { rule = 1; master = at 4 0 0; slave = at 0 0 0; spare = 0 }

abbrev pub line_two : PicInterruptClaim
line_two = record { vector = record { 0 = 2 }; irq = line 2; master_in_service = true; slave_in_service = false }

abbrev pub UnkeptNotRestored : Type 0
UnkeptNotRestored =
    ((claim_pending unkept).claim ≡ Some line_two)
    × ((restore_interrupt (claim_pending unkept).state line_two).state.master.request ≡ 0)
    × (unkept.master.request ≡ 4)
