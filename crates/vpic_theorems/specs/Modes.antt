-- Theorems about the full profile's modes (8259A: poll command; special mask mode; special fully nested mode; OCW3, ICW4): what a poll answers, on one chip and beside the pair's
-- claims, what begins one and what ends it; what each mode lets by, and what it leaves blocked; that a claim restored at once stays exact though line 2 was in service before. Computed examples.
use Rattle.std.specs.Prelude.{ℕ, ◌+◌, ◌-◌, ◌%◌, ◌<◌, ◌≤◌, ◌≡◌, Bool, true, false, not, ◌&&◌, ◌||◌, [], ◌∷◌, eqb, Some, None}
use Rattle.utils.specs.Set.{bit, without}
use Rattle.vpic_chip.specs.Registers.{Chip, with_in_service, with_poll, with_nested, with_special_mask, placed}
use Rattle.vpic_chip.specs.Chip.{cascade_irq, lowest_by, is_above, is_special, is_nested, blocks_line, non_specific_eoi, commanded, counts, pending_line, Highest, acknowledged, is_polled, poll_shown, polled}
use Rattle.vpic.specs.declared.PicInterruptClaim.{PicInterruptClaim}
use Rattle.vpic.specs.Words.{PicState}
use Rattle.vpic.specs.Pair.{chips, settled, claim_pending, restore_interrupt, handle_read, port_written}
use Rattle.vpic.specs.Departures.{pair}
use Rattle.vpic_theorems.specs.Statements.{Call, call_claim_irq, claim_pending_interrupt, pulse_irq, next_interrupt, call_restore_interrupt, call_handle_read, call_handle_write, outcome}
use Rattle.vpic_theorems.specs.Rotation.{full_chip, full_at, shown_at}

-- ---- poll

-- a poll of a chip takes what a claim of that chip alone would take: the highest request that counts is acknowledged, and shown with bit 7
pub record Polls (c : Chip) (k : ℕ) : Type 0 where
  pub shown : poll_shown c ≡ 0x80 + k
  pub taken : polled c ≡ with_poll (acknowledged c k) false

abbrev pub PollTakes : Type 0
PollTakes = (c : Chip) (k : ℕ) → Highest c k → Polls c k

-- and it shows 0 exactly if nothing counts; then nothing is acknowledged
abbrev pub PollIdle : Type 0
PollIdle = (c : Chip) → ((k : ℕ) → counts c k ≡ false) → (poll_shown c ≡ 0) × (polled c ≡ with_poll c false)

abbrev pub PollZero : Type 0
PollZero = (c : Chip) → poll_shown c ≡ 0 → (k : ℕ) → counts c k ≡ false

-- beside the pair's claims, on any pair. A poll of the master shows 0 exactly if a claim finds nothing
abbrev pub MasterSilent : Type 0
MasterSilent = (p : PicState) → (claim_pending p).claim ≡ None → poll_shown p.master ≡ 0

abbrev pub NothingToClaim : Type 0
NothingToClaim = (p : PicState) → poll_shown p.master ≡ 0 → (claim_pending p).claim ≡ None

-- the pair with no poll waiting on the master
abbrev pub unpolled : PicState → PicState
unpolled p = chips p (with_poll p.master false) p.slave

-- where a claim of line k turns p into q. Below 8: a poll of the master shows that line, and leaves the same pair, the poll apart. From 8 up, through line 2: a poll of the master
-- shows line 2, and a poll of the slave shows line k - 8
pub record PollsBeside (p q : PicState) (k : ℕ) : Type 0 where
  pub master : k < 8 → poll_shown p.master ≡ 0x80 + k
  pub state : k < 8 → settled (chips p (polled p.master) p.slave) ≡ unpolled q
  pub cascade : 8 ≤ k → poll_shown p.master ≡ 0x80 + cascade_irq.0
  pub slave : 8 ≤ k → poll_shown p.slave ≡ 0x80 + (k - 8)

abbrev pub PollsAsClaims : Type 0
PollsAsClaims = (p : PicState) (c : PicInterruptClaim) → (claim_pending p).claim ≡ Some c → PollsBeside p (claim_pending p).state c.irq.0

-- but a poll of the slave doesn't show what the pair's claim takes: the master's lines are masked, and the slave's line 0 asks
abbrev pub masked : PicState
masked = pair 2 (placed true (full_at 4 255 0 false)) (full_at 1 0 0 false)

abbrev pub SlavePollsAlone : Type 0
SlavePollsAlone = (poll_shown masked.slave ≡ 0x80) × ((claim_pending masked).claim ≡ None)

-- ---- what begins a poll, and what ends it

-- the poll command: OCW3 (bits 4-3 = 01) with bit 2
abbrev pub is_poll_command : ℕ → Bool
is_poll_command v = not (bit v 4) && bit v 3 && bit v 2

-- of the chip whose command port is `at` and whose data port is the next one: that command, written there, begins a poll
abbrev pub begins_poll : ℕ → Call → Bool
begins_poll at (call_claim_irq l) = false
begins_poll at claim_pending_interrupt = false
begins_poll at (pulse_irq l) = false
begins_poll at next_interrupt = false
begins_poll at (call_restore_interrupt c) = false
begins_poll at (call_handle_read port width) = false
begins_poll at (call_handle_write port width value) = eqb width 1 && eqb port at && is_poll_command (value % 256)

-- a read of either port ends it, and so does ICW1 (bit 4) at the command port. A read or a write of another width than a byte is refused, and does neither
abbrev pub ends_poll : ℕ → Call → Bool
ends_poll at (call_claim_irq l) = false
ends_poll at claim_pending_interrupt = false
ends_poll at (pulse_irq l) = false
ends_poll at next_interrupt = false
ends_poll at (call_restore_interrupt c) = false
ends_poll at (call_handle_read port width) = eqb width 1 && (eqb port at || eqb port (at + 1))
ends_poll at (call_handle_write port width value) = eqb width 1 && eqb port at && bit (value % 256) 4

-- after a call a poll waits exactly if the call begins one and the chip is of the full profile, or if one waited and the call doesn't end it
abbrev pub poll_after : Chip → ℕ → Call → Bool
poll_after c at call = (c.full && begins_poll at call) || (is_polled c && not (ends_poll at call))

-- so it is after every call, with any arguments, on both chips of any pair, by every rule: what is read or written at one chip's ports leaves the other's poll alone
abbrev pub PollsAfter : Type 0
PollsAfter =
    (p : PicState) (c : Call)
    → (is_polled (outcome p c).state.master ≡ poll_after p.master 0x20 c)
    × (is_polled (outcome p c).state.slave ≡ poll_after p.slave 0xa0 c)

-- a poll waits on a full chip alone, and no call makes a chip full, or plain: none begins or ends a poll that way
abbrev pub CallsKeepFull : Type 0
CallsKeepFull = (p : PicState) (c : Call) → ((outcome p c).state.master.full ≡ p.master.full) × ((outcome p c).state.slave.full ≡ p.slave.full)

-- so, by PollsAfter alone, the calls at no port, those that claim, raise and restore, leave both chips' polls as they were
abbrev pub is_at_port : Call → Bool
is_at_port (call_claim_irq l) = false
is_at_port claim_pending_interrupt = false
is_at_port (pulse_irq l) = false
is_at_port next_interrupt = false
is_at_port (call_restore_interrupt c) = false
is_at_port (call_handle_read port width) = true
is_at_port (call_handle_write port width value) = true

abbrev pub SamePolls : PicState → PicState → Type 0
SamePolls p q = (is_polled q.master ≡ is_polled p.master) × (is_polled q.slave ≡ is_polled p.slave)

abbrev pub ClaimsLeavePolls : Type 0
ClaimsLeavePolls = (p : PicState) (c : Call) → is_at_port c ≡ false → SamePolls p (outcome p c).state

-- ---- what counts, in one sentence for all modes

-- a line's request counts exactly if it is there, unmasked, and the line is above each that is in its way
abbrev pub CountsIf : Type 0
CountsIf =
    (c : Chip) (k : ℕ) → k < 8 → bit c.request k ≡ true → bit c.mask k ≡ false → ((j : ℕ) → j < 8 → blocks_line c k j ≡ true → is_above c k j ≡ true)
    → counts c k ≡ true

pub record Counted (c : Chip) (k : ℕ) : Type 0 where
  pub requested : bit c.request k ≡ true
  pub unmasked : bit c.mask k ≡ false
  pub above : (j : ℕ) → j < 8 → blocks_line c k j ≡ true → is_above c k j ≡ true

abbrev pub CountsOnlyIf : Type 0
CountsOnlyIf = (c : Chip) (k : ℕ) → counts c k ≡ true → Counted c k

-- ---- special mask mode

-- a masked line in service is in nobody's way: the same requests count as if it weren't in service
abbrev pub MaskedLetsBy : Type 0
MaskedLetsBy = (c : Chip) (j : ℕ) → is_special c ≡ true → bit c.mask j ≡ true → (k : ℕ) → counts c k ≡ counts (with_in_service c (without c.in_service j)) k

-- and a plain EOI, with rotation or without, leaves it in service
abbrev pub MaskedStays : Type 0
MaskedStays = (c : Chip) (j : ℕ) (rotates : Bool) → is_special c ≡ true → bit c.mask j ≡ true → bit (non_specific_eoi c rotates).in_service j ≡ bit c.in_service j

-- another line in service blocks itself and every line below it, in every mode, but that in special fully nested mode the master's line 2 doesn't block itself
abbrev pub ServedBlocks : Type 0
ServedBlocks =
    (c : Chip) (j k : ℕ) → j < 8 → bit c.in_service j ≡ true → (is_special c && bit c.mask j) ≡ false → is_above c k j ≡ false
    → (is_nested c && eqb k cascade_irq.0 && eqb j cascade_irq.0) ≡ false → counts c k ≡ false

-- ---- special fully nested mode

-- line 2 in service isn't in its own way: it counts as if it weren't in service
abbrev pub TwoLetsItselfBy : Type 0
TwoLetsItselfBy = (c : Chip) → is_nested c ≡ true → counts c cascade_irq.0 ≡ counts (with_in_service c (without c.in_service cascade_irq.0)) cascade_irq.0

-- no other line is let by: the same ones count as without the mode
abbrev pub NoOtherLetBy : Type 0
NoOtherLetBy = (c : Chip) (k : ℕ) → (k ≡ cascade_irq.0 → ⊥) → counts c k ≡ counts (with_nested c false) k

-- so while line 2 is in service, every line below it by today's priorities stays blocked; where 7 is lowest, lines 3 to 7
abbrev pub BelowTwoBlocked : Type 0
BelowTwoBlocked =
    (c : Chip) (k : ℕ) → bit c.in_service cascade_irq.0 ≡ true → (is_special c && bit c.mask cascade_irq.0) ≡ false → is_above c k cascade_irq.0 ≡ false
    → (k ≡ cascade_irq.0 → ⊥) → counts c k ≡ false

abbrev pub ThreeToSevenBlocked : Type 0
ThreeToSevenBlocked =
    (c : Chip) (k : ℕ) → bit c.in_service cascade_irq.0 ≡ true → (is_special c && bit c.mask cascade_irq.0) ≡ false → lowest_by c ≡ 7 → cascade_irq.0 < k → k < 8
    → counts c k ≡ false

-- on the slave the mode does nothing
abbrev pub SlaveUnnested : Type 0
SlaveUnnested = (c : Chip) (k : ℕ) → counts (with_nested (placed false c) true) k ≡ counts (with_nested (placed false c) false) k

-- ---- computed examples

-- the master in special fully nested mode has line 2 in service for the slave's line 1, and the slave's line 0 asks: the claim names the slave's bit alone, and its restore gives the
-- pair back
abbrev pub nested_pair : PicState
nested_pair = pair 2 (with_nested (placed true (full_at 4 0 4 false)) true) (full_at 1 0 2 false)

abbrev pub second_slave : Bool → PicInterruptClaim
second_slave m = record { vector = record { 0 = 0 }; irq = record { 0 = 8 }; master_in_service = m; slave_in_service = true }

pub record FlagsKept : Type 0 where
  pub claim : (claim_pending nested_pair).claim ≡ Some (second_slave false)
  pub restored : (restore_interrupt (claim_pending nested_pair).state (second_slave false)).state ≡ nested_pair
  -- with the flags of before, which said that automatic EOI mode was off, the restore took line 2 out of service, though line 1's handler still runs
  pub before : (restore_interrupt (claim_pending nested_pair).state (second_slave true)).state.master.in_service ≡ 0

pub record Computed : Type 0 where
  -- special mask mode: line 1 is in service and line 3 waits; its handler masks line 1, and line 3 is claimed; without the mode it isn't
  pub special : pending_line (commanded (full_at 8 2 2 false) 0x68) ≡ 3
  pub unspecial : pending_line (full_at 8 2 2 false) ≡ 8
  -- and off again by 0x48; 0x28, without bit 6, leaves it
  pub off : pending_line (commanded (commanded (full_at 8 2 2 false) 0x68) 0x48) ≡ 8
  pub kept : pending_line (commanded (commanded (full_at 8 2 2 false) 0x68) 0x28) ≡ 3
  -- a plain EOI ends line 3 then, not line 1
  pub ended : (commanded (commanded (full_at 0 2 10 false) 0x68) 0x20).in_service ≡ 2
  -- a poll: 0x80 with the line, which is in service then; the next read shows the mask again
  pub poll : shown_at (port_written (pair 2 (placed true (full_at 8 0 0 false)) (full_at 0 0 0 false)) 0x20 0x0c) 0x21 ≡ 0x83 ∷ []
  pub polled :
      (handle_read (port_written (pair 2 (placed true (full_at 8 0 0 false)) (full_at 0 0 0 false)) 0x20 0x0c) 0x21 1).state ≡ pair 2 (placed true (full_at 0 0 8 false)) (full_at 0 0 0 false)
  pub silent : shown_at (port_written (pair 2 (placed true (full_at 0 0 0 false)) (full_at 0 0 0 false)) 0x20 0x0c) 0x20 ≡ 0 ∷ []
  -- a write doesn't end it
  pub written : shown_at (port_written (port_written (pair 2 (placed true (full_at 8 0 0 false)) (full_at 0 0 0 false)) 0x20 0x0c) 0x20 0x0b) 0x20 ≡ 0x83 ∷ []
  -- a poll of the master's line 2: request 2 stands as long as the slave asks
  pub cascade : (handle_read (pair 2 (with_poll (placed true (full_at 4 0 0 false)) true) (full_at 1 0 0 false)) 0x20 1).state.master.request ≡ 4
  -- a poll in special mask mode, and one in special fully nested mode
  pub «special-poll» : shown_at (pair 2 (with_poll (with_special_mask (placed true (full_at 8 2 2 false)) true) true) (full_at 0 0 0 false)) 0x20 ≡ 0x83 ∷ []
  pub «nested-poll» : shown_at (pair 2 (with_poll nested_pair.master true) nested_pair.slave) 0x20 ≡ 0x82 ∷ []
  -- special fully nested mode with special mask mode: lines 1 and 2 are in service, line 1 masked, and line 2 asks again: it counts by both modes, and by neither alone
  pub «nested-special» : pending_line (with_special_mask (with_nested (placed true (full_at 4 2 6 false)) true) true) ≡ 2
  pub «nested-alone» : pending_line (with_nested (placed true (full_at 4 2 6 false)) true) ≡ 8
  pub «special-alone» : pending_line (with_special_mask (placed true (full_at 4 2 6 false)) true) ≡ 8
  -- special fully nested mode with rotation: line 1 lowest, so that 2 is highest; it is in service, and 2 and 3 ask. Without the mode none counts
  pub «nested-rotated» : pending_line (with_nested (placed true (full_chip 0 0 12 4 0 false false 1 false)) true) ≡ 2
  pub «rotated-alone» : pending_line (placed true (full_chip 0 0 12 4 0 false false 1 false)) ≡ 8
