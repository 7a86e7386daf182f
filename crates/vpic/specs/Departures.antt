-- Where the pair does other than the 8259A's data sheet: docs/DIFFERENCES.md, D-01 to D-19, each at its smallest case. Rule 0, where the rule matters, but in D-18.
use Rattle.std.specs.Prelude.{ℕ, true, false, List, [], ◌∷◌, refl}
use Rattle.utils.specs.Set.{with, without, outside, lowest}
use Rattle.vpic_priority.specs.Ring.{above, first_rank, first_by}
use Rattle.types.specs.declared.PicLine.{PicLine}
use Rattle.types.specs.Reply.{flag, reply_values}
use Rattle.types.specs.Departure.{Departure, Shown}
use Rattle.vpic_chip.specs.Registers.{Chip, chip}
use Rattle.vpic_chip.specs.Chip.{opened, commanded, fed, command_read, pulsed, counts, pending_line, asks, driven, pending_irq, acknowledged, acknowledge, pending_reply, vector_reply}
use Rattle.vpic.specs.declared.PicRule.{PicRule}
use Rattle.vpic.specs.declared.PicRule.TheVariants.{Latch}
use Rattle.vpic.specs.Words.{PicState}
use Rattle.vpic.specs.Pair.{new_state, settled, latched, master_claim, slave_claim, claim_pending, claim_irq, port_written, written_at, claim_reply, claim_vector}

abbrev pub line : ℕ → PicLine
line k = record { 0 = k }

-- a chip at base 0 with these requests, mask, and lines in service, and initialized
abbrev pub at : ℕ → ℕ → ℕ → Chip
at irr imr isr = chip 0 imr irr isr 0 false false false false

abbrev pub pair : ℕ → Chip → Chip → PicState
pair rule m s = record { rule = rule; master = m; slave = s; spare = 0 }

-- the pair of a rule with its masks open
abbrev pub open' : PicRule → PicState
open' rule = port_written (port_written (new_state rule) 0x21 0) 0xa1 0

-- bytes written to a port, one after another
abbrev pub writes : PicState → ℕ → List ℕ → PicState
writes p port [] = p
writes p port (b ∷ l) = writes (port_written p port b) port l

abbrev pub claimed_vector : PicState → ℕ → List ℕ
claimed_vector p k = reply_values (vector_reply (claim_vector (claim_irq p (line k)).claim))

-- example 7: lines 12, 13 and 14 one after another, and the EOIs after each
abbrev pub seventh : PicRule → PicState
seventh rule =
    let three = (claim_irq (claim_irq (claim_irq (open' rule) (line 12)).state (line 13)).state (line 14)).state in
    let two = (claim_pending (writes (writes three 0xa0 (0x20 ∷ [])) 0x20 (0x20 ∷ []))).state in
    writes (writes two 0xa0 (0x20 ∷ [])) 0x20 (0x20 ∷ [])

pub departures : List Departure
departures =
    record { number = 1; computed = (commanded (opened 0) 0x11).mask ∷ []; ours = 255 ∷ []; text = 0 ∷ [] }
    ∷ record { number = 2; computed = (commanded (at 0 0 1) 0x11).in_service ∷ []; ours = 0 ∷ []; text = 1 ∷ [] }
    ∷ record { number = 3; computed = flag (commanded (chip 0 0 0 0 0 true false true false) 0x11).auto_eoi ∷ []; ours = 0 ∷ []; text = 1 ∷ [] }
    -- the line is still up after the acknowledgement
    ∷ record { number = 4; computed = (acknowledged (pulsed (fed (commanded (opened 0) 0x1a) 0) (line 0)) 0).request ∷ []; ours = 0 ∷ []; text = 1 ∷ [] }
    -- IRR 2, ISR 1: a command that chooses the IRR, and one that chooses nothing
    ∷ record { number = 5; computed = command_read (commanded (at 2 0 1) 0x0a) ∷ []; ours = 1 ∷ []; text = 2 ∷ [] }
    ∷ record { number = 5; computed = command_read (commanded (chip 0 0 2 1 0 false false false true) 0x08) ∷ []; ours = 2 ∷ []; text = 1 ∷ [] }
    -- line 0 is masked and in service, line 1 waits
    ∷ record { number = 6; computed = pending_line (commanded (at 2 1 1) 0x68) ∷ []; ours = 8 ∷ []; text = 1 ∷ [] }
    ∷ record { number = 7; computed = command_read (commanded (at 1 0 0) 0x0c) ∷ []; ours = 1 ∷ []; text = 0x80 ∷ [] }
    -- lines 0 and 1 wait: EOI of line 0 with rotation; line 0 made lowest
    ∷ record { number = 8; computed = pending_line (commanded (at 3 0 1) 0xa0) ∷ []; ours = 0 ∷ []; text = 1 ∷ [] }
    ∷ record { number = 8; computed = pending_line (commanded (at 3 0 0) 0xc0) ∷ []; ours = 0 ∷ []; text = 1 ∷ [] }
    -- rotation in automatic EOI mode: line 0 is acknowledged and asks again
    ∷ record {
      number = 8;
      computed = pending_line (pulsed (acknowledged (commanded (chip 0 0 3 0 0 false false true false) 0x80) 0) (line 0)) ∷ [];
      ours = 0 ∷ [];
      text = 1 ∷ [];
    }
    -- ICW3 says that no line of the master has a slave
    ∷ record { number = 9; computed = claimed_vector (writes (writes (open' Latch) 0x20 (0x11 ∷ [])) 0x21 (0x08 ∷ 0 ∷ 1 ∷ [])) 8; ours = 0x70 ∷ []; text = 0x0a ∷ [] }
    -- the master's line 2 is in service and the slave asks again
    ∷ record { number = 10; computed = pending_line (fed (chip 0 0 4 4 3 true false false false) 0x11) ∷ []; ours = 8 ∷ []; text = 2 ∷ [] }
    -- ICW4 with bit 0 clear: the data sheet's chip puts a CALL instruction on the bus
    ∷ record { number = 11; computed = reply_values (acknowledge (pulsed (fed (chip 0x20 0 0 0 3 true false false false) 0) (line 0)) (line 0)).reply; ours = 0x20 ∷ []; text = 0xcd ∷ [] }
    ∷ record { number = 12; computed = claimed_vector (writes (writes (open' Latch) 0x20 (0x13 ∷ [])) 0x21 (0x08 ∷ 1 ∷ [])) 8; ours = 0x70 ∷ []; text = 0x0a ∷ [] }
    ∷ record { number = 13; computed = reply_values (claim_reply (claim_pending (seventh Latch)).claim); ours = []; text = 0x76 ∷ 14 ∷ 3 ∷ [] }
    ∷ record { number = 14; computed = reply_values (pending_reply (pending_irq (at 0 0 0))); ours = []; text = 7 ∷ [] }
    -- the line went down before the acknowledgement
    ∷ record { number = 15; computed = (pulsed (at 0 0 0) (line 0)).request ∷ []; ours = 1 ∷ []; text = 0 ∷ [] }
    ∷ record { number = 16; computed = claimed_vector (open' Latch) 2; ours = 0x0a ∷ []; text = 0x77 ∷ [] }
    ∷ record { number = 17; computed = reply_values (acknowledge (opened 0x0b) (line 1)).reply; ours = 0x0c ∷ []; text = 0x09 ∷ [] }
    -- by rule 1 the slave's line 0 asks, and the master gets its ICW1
    ∷ record { number = 18; computed = (port_written (pair 1 (at 4 0 0) (at 1 0 0)) 0x20 0x11).master.request ∷ []; ours = 4 ∷ []; text = 0 ∷ [] }
    -- the master waits for its ICW2, and line 0 is raised
    ∷ record { number = 19; computed = claimed_vector (pair 0 (chip 0x08 0 0 0 1 true false false false) (at 0 0 0)) 0; ours = 0x08 ∷ []; text = [] }
    ∷ []

pub departures_hold : Shown departures
unfolding first_rank first_by above departures opened commanded fed command_read pulsed counts pending_line pending_irq acknowledged acknowledge asks driven new_state settled latched master_claim slave_claim claim_pending claim_irq port_written written_at with without outside lowest
departures_hold = ((refl, refl), ((refl, refl), ((refl, refl), ((refl, refl), ((refl, refl), ((refl, refl), ((refl, refl), ((refl, refl), ((refl, refl), ((refl, refl), ((refl, refl), ((refl, refl), ((refl, refl), ((refl, refl), ((refl, refl), ((refl, refl), ((refl, refl), ((refl, refl), ((refl, refl), ((refl, refl), ((refl, refl), ((refl, refl), tt))))))))))))))))))))))
