-- One 8259A chip: initialization command words ICW1 to ICW4, operation command words OCW1 to OCW3, fully nested mode, special fully nested mode, special mask mode, end of
-- interrupt, automatic end of interrupt mode, automatic and specific rotation, reading the 8259A status, poll command. A set of the chip's eight lines is a number (`Rattle.utils.specs.Set`).
-- Departures from the data sheet are marked D-nn and stand in docs/DIFFERENCES.md.
use Rattle.std.specs.Prelude.{ℕ, ◌+◌, ◌*◌, ◌/◌, ◌%◌, ◌<◌, Bool, true, false, not, cond, ◌&&◌, ◌||◌, ◌≡◌, ltb, eqb, Option, Some, None}
use Rattle.utils.specs.Set.{bit, with, without}
use Rattle.vpic_priority.specs.Ring.{rank, above, first_rank, first_by}
use Rattle.types.specs.declared.PicLine.{PicLine}
use Rattle.types.specs.declared.Vector.{Vector}
use Rattle.types.specs.declared.Reply.{Reply}
use Rattle.types.specs.declared.Reply.TheVariants as reply
use Rattle.types.specs.Counters.{line_vector}
use Rattle.types.specs.Reply.{Outcome, option_reply, vector_reply as given_reply}
use Rattle.vpic_chip.specs.declared.PicChip.{PicChip}
use Rattle.vpic_chip.specs.Registers.{Chip, chip, with_base, with_mask, with_request, with_in_service, with_step, with_auto_eoi, with_read_isr, with_lowest, with_auto_rotation, with_special_mask, with_poll, with_nested, chip_in, full_in, placed}

-- a new chip (the data sheet says nothing of a chip before its ICW1): every line masked. D-17: any base byte, not only multiples of 8
unfoldable pub opened : ℕ → Chip
opened base = chip base 255 0 0 0 false false false false

-- ---- priorities

-- the lowest line: in the full profile the chip's own; else line 7, so that line 0 is highest
abbrev pub lowest_by : Chip → ℕ
lowest_by c = cond c.full c.lowest_line 7

-- the first line of a set by today's priorities, or 8
abbrev pub first_of : Chip → (ℕ → Bool) → ℕ
first_of c set = first_by (lowest_by c) set

-- line j is above line k
abbrev pub is_above : Chip → ℕ → ℕ → Bool
is_above c j k = above (lowest_by c) j k

-- line k is above every line of a set
abbrev pub is_above_all : Chip → ℕ → (ℕ → Bool) → Bool
is_above_all c k set = ltb (rank (lowest_by c) k) (first_rank (lowest_by c) set)

-- rotation: line k becomes lowest, where the command rotates. D-08: in the full profile alone
abbrev pub turned : Chip → Bool → ℕ → Chip
turned c rotates k = with_lowest c (cond (c.full && rotates) k c.lowest_line)

-- ---- what is in the way of a line

-- the master's line that the slave hangs on
abbrev pub cascade_irq : PicLine
cascade_irq = record { 0 = 2 }

-- special mask mode. D-06: in the full profile alone
abbrev pub is_special : Chip → Bool
is_special c = c.full && c.special_mask

-- special fully nested mode is for the master; on the slave ICW4's bit does nothing. D-10: in the full profile alone
abbrev pub is_nested : Chip → Bool
is_nested c = c.full && c.cascades && c.nested

-- fully nested mode: the lines in service are in the way of those that aren't above them; but in special mask mode the masked ones are in nobody's way
abbrev pub blocks : Chip → ℕ → Bool
blocks c j = bit c.in_service j && not (is_special c && bit c.mask j)

-- and in special fully nested mode the master's line 2 isn't in its own: another line of the slave may come through it
abbrev pub blocks_line : Chip → ℕ → ℕ → Bool
blocks_line c k j = blocks c j && not (is_nested c && eqb k cascade_irq.0 && eqb j cascade_irq.0)

-- ---- the command port

-- ICW1: bit 0 announces ICW4, bit 1 is SNGL. The base stays until ICW2. D-01: without the full profile the mask stays. D-02: in-service is cleared. D-03: automatic EOI goes off
-- also where ICW4 follows. D-04: LTIM (bit 3) does nothing: edges only. The call interval (bit 2) and bits 5 to 7 are for MCS-80/85 mode (D-11). Line 7 is lowest again. D-20:
-- rotation in automatic EOI mode goes off. D-21: special fully nested mode goes off also where ICW4 follows. A poll that waits is over (the data sheet says nothing of it)
abbrev pub icw1 : Chip → ℕ → Chip
icw1 c v = record {
  vector_base = c.vector_base;
  mask = cond c.full 0 c.mask;
  request = 0;
  in_service = 0;
  init_step = 1;
  needs_icw4 = bit v 0;
  single = bit v 1;
  auto_eoi = false;
  read_isr = false;
  full = c.full;
  cascades = c.cascades;
  lowest_line = 7;
  auto_rotation = false;
  special_mask = false;
  poll = false;
  nested = false;
  spare = c.spare;
}

-- OCW3: bit 6 enables the choice of special mask mode, bit 5; bit 2 polls, and a poll waits whatever is written before the next read; bit 1 enables the choice of the register that
-- is read next, bit 0
abbrev pub full_ocw3 : Chip → ℕ → Chip
full_ocw3 c v =
    with_poll (with_special_mask (with_read_isr c (cond (bit v 1) (bit v 0) c.read_isr)) (cond (bit v 6) (bit v 5) c.special_mask)) (bit v 2 || c.poll)

-- without the full profile, D-05: bit 1, which enables the choice in the data sheet, is the choice here, and bit 0 does nothing. D-06: no special mask mode. D-07: no poll
abbrev pub ocw3 : Chip → ℕ → Chip
ocw3 c v = cond c.full (full_ocw3 c v) (with_read_isr c (bit v 1))

-- OCW2, end of interrupt: specific (line in bits 0 to 2), or of the highest line in service, masked ones left aside in special mask mode; with none that does nothing, rotation
-- included
abbrev pub specific_eoi : Chip → ℕ → Chip
specific_eoi c k = with_in_service c (without c.in_service k)

abbrev pub non_specific_eoi : Chip → Bool → Chip
non_specific_eoi c rotates = cond (ltb (first_of c (blocks c)) 8) (turned (specific_eoi c (first_of c (blocks c))) rotates (first_of c (blocks c))) c

-- rotation in automatic EOI mode, on or off
abbrev pub auto_rotated : Chip → Bool → Chip
auto_rotated c on = with_auto_rotation c (cond c.full on c.auto_rotation)

-- bit 5 is EOI, bit 6 SL, bit 7 R: 001 plain EOI, 011 specific, 101 and 111 both with rotation, 110 set priority, 100 and 000 rotation in automatic EOI mode on and off,
-- 010 no operation. D-08: without the full profile bit 7, rotation, does nothing: line 7 stays lowest, and the commands without EOI are no operation
abbrev pub ocw2 : Chip → ℕ → Chip
ocw2 c v =
    cond (bit v 5)
    (cond (bit v 6) (turned (specific_eoi c (v % 8)) (bit v 7) (v % 8)) (non_specific_eoi c (bit v 7)))
    (cond (bit v 6) (turned c (bit v 7) (v % 8)) (auto_rotated c (bit v 7)))

-- a byte written to the command port: ICW1 by bit 4, OCW3 by bits 4-3 = 01, else OCW2
unfoldable pub commanded : Chip → ℕ → Chip
commanded c v = cond (bit v 4) (icw1 c v) (cond (bit v 3) (ocw3 c v) (ocw2 c v))

-- ---- the data port

-- the step after ICW3, or after ICW2 where ICW3 is left out: ICW4 if ICW1 announced it, else ready
abbrev pub after_icw3 : Chip → ℕ
after_icw3 c = cond c.needs_icw4 3 0

-- ICW2: bits 3 to 7 are the vector's; no ICW3 where single. D-12: single does no more than that, and leaves the slave where it is
abbrev pub icw2 : Chip → ℕ → Chip
icw2 c v = with_step (with_base c (v / 8 * 8)) (cond c.single (after_icw3 c) 2)

-- ICW3. D-09: its value does nothing: the slave hangs on the master's line 2
abbrev pub icw3 : Chip → Chip
icw3 c = with_step c (after_icw3 c)

-- ICW4: bit 1 is AEOI, bit 4 SFNM. D-10: without the full profile no special fully nested mode. D-11: no MCS-80/85 mode (bit 0 clear); buffered mode (bits 2, 3) only drives a pin
abbrev pub icw4 : Chip → ℕ → Chip
icw4 c v = with_step (with_nested (with_auto_eoi c (bit v 1)) (cond c.full (bit v 4) c.nested)) 0

-- OCW1: the interrupt mask
abbrev pub ocw1 : Chip → ℕ → Chip
ocw1 c v = with_mask c v

-- a byte written to the data port, by the step of initialization
unfoldable pub fed : Chip → ℕ → Chip
fed c v =
    cond (eqb c.init_step 1) (icw2 c v)
    (cond (eqb c.init_step 2) (icw3 c)
    (cond (eqb c.init_step 3) (icw4 c v)
    (ocw1 c v)))

-- ---- reading the status: the command port shows the ISR or the IRR, the data port the IMR

unfoldable pub command_read : Chip → ℕ
command_read c = cond c.read_isr c.in_service c.request

-- ---- requests and their acknowledgement

-- an edge on a line latches its request; a chip has eight lines. D-15: the line need not stay up: a request is never withdrawn
unfoldable pub pulsed : Chip → PicLine → Chip
pulsed c l = cond (ltb l.0 8) (with_request c (with c.request l.0)) c

-- a request counts, in every mode, if it is unmasked and above every line that is in its way. D-19: before the last ICW too, with the base of before
unfoldable pub counts : Chip → ℕ → Bool
counts c k = bit c.request k && not (bit c.mask k) && is_above_all c k (blocks_line c k)

-- the highest request that counts, or 8. D-14: with none there is nothing to acknowledge, where the data sheet's chip gives its line 7
unfoldable pub pending_line : Chip → ℕ
pending_line c = first_of c (counts c)

-- which line that is: line k's request counts, and none of the chip's that counts is above it
pub record Highest (c : Chip) (k : ℕ) : Type 0 where
  pub low : k < 8
  pub counted : counts c k ≡ true
  pub above : (j : ℕ) → is_above c j k ≡ true → counts c j ≡ false

-- the chip's output, INT: up exactly while a request counts
unfoldable pub asks : Chip → Bool
asks c = ltb (pending_line c) 8

-- line k driven by a level: its request stands exactly while that is up
unfoldable pub driven : Chip → ℕ → Bool → Chip
driven c k up = with_request c (cond up (with c.request k) (without c.request k))

abbrev pub irq_of : ℕ → Option PicLine
irq_of k = cond (ltb k 8) (Some (record { 0 = k })) None

unfoldable pub pending_irq : Chip → Option PicLine
pending_irq c = irq_of (pending_line c)

abbrev pub pending_reply : Option PicLine → Reply
pending_reply (Some l) = reply.One l.0
pending_reply None = reply.Nothing

-- the interrupt acknowledge sequence on one chip: the request goes, and the line is in service unless in automatic EOI mode, in which it may become lowest
unfoldable pub acknowledged : Chip → ℕ → Chip
acknowledged c k =
    turned (with_in_service (with_request c (without c.request k)) (cond c.auto_eoi c.in_service (with c.in_service k))) (c.auto_eoi && c.auto_rotation) k

-- the vector that a chip gave, or nothing
abbrev pub vector_reply : Option Vector → Reply
vector_reply = option_reply given_reply

abbrev pub acknowledge_outcome : PicChip × Option Vector → Outcome Chip
acknowledge_outcome r = record { state = chip_in r.0.0; reply = vector_reply r.1 }

abbrev pub full_outcome : PicChip × Option Vector → Outcome Chip
full_outcome r = record { state = full_in r.0.0; reply = vector_reply r.1 }

-- with the vector, base plus line modulo 256; nothing for a line that a chip doesn't have
unfoldable pub acknowledge : Chip → PicLine → Outcome Chip
acknowledge c l =
    cond (ltb l.0 8) (record { state = acknowledged c l.0; reply = reply.One (line_vector c.vector_base l).0 })
    (record { state = c; reply = reply.Nothing })

-- an acknowledgement taken back: requested again and, if that had put the line there, out of service
unfoldable pub unacknowledged : Chip → PicLine → Bool → Chip
unacknowledged c l inService = cond inService (cond (ltb l.0 8) (specific_eoi (pulsed c l) l.0) (pulsed c l)) (pulsed c l)

-- ---- poll command: the next read of either port is an acknowledgement. D-07: in the full profile alone

abbrev pub is_polled : Chip → Bool
is_polled c = c.full && c.poll

-- it shows bit 7 with the highest request that counts, or 0 where none does. D-22: that counts at the read, not at the command before it
unfoldable pub poll_shown : Chip → ℕ
poll_shown c = cond (asks c) (0x80 + pending_line c) 0

-- and acknowledges it, on this chip alone; the poll is over
unfoldable pub polled : Chip → Chip
polled c = with_poll (cond (asks c) (acknowledged c (pending_line c)) c) false

-- what a read shows, of a port that shows a register where no poll waits
unfoldable pub read_shown : Chip → ℕ → ℕ
read_shown c register = cond (is_polled c) (poll_shown c) register

abbrev pub poll_outcome : Bool → PicChip × ℕ → Outcome Chip
poll_outcome cascades r = record { state = placed cascades (full_in r.0.0); reply = reply.One r.1 }

unfoldable pub poll_read : Chip → Outcome Chip
poll_read c = record { state = polled c; reply = reply.One (poll_shown c) }
