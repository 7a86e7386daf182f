-- The PC's two 8259A chips. Cascade mode: the slave hangs on the master's line 2, and an acknowledgement of that line is answered by the slave. The interrupt
-- sequence; the four ports. Departures from the data sheet are marked D-nn and stand in docs/DIFFERENCES.md. By rule 1 (document 02,
-- T-02) the slave's output drives the master's line 2, as in the data sheet but for D-18; by rule 0, the Rust's, it doesn't (D-13). By rule 2 (T-04, T-06) it does, and the chips are
-- full 8259As: rotation, special mask mode, poll command, special fully nested mode.
use Rattle.std.specs.Prelude.{ℕ, ◌+◌, ◌*◌, ◌%◌, Bool, true, false, not, cond, ◌≡◌, ltb, eqb, Option, Some, None, Result, Ok, Err}
use Rattle.utils.specs.Set.{bit, outside}
use Rattle.types.specs.declared.PicLine.{PicLine}
use Rattle.types.specs.declared.PicPlace.{PicPlace}
use Rattle.types.specs.declared.PicPlace.TheVariants.{Master, Slave}
use Rattle.types.specs.declared.Vector.{Vector}
use Rattle.types.specs.declared.Refusal.{Refusal}
use Rattle.types.specs.declared.Refusal.TheVariants.{Unsupported, OutOfRange}
use Rattle.types.specs.declared.Reply.{Reply}
use Rattle.types.specs.declared.Reply.TheVariants as reply
use Rattle.types.specs.Counters.{place_of, line_vector}
use Rattle.types.specs.Reply.{Outcome, flag, number_reply, option_reply, result_reply, done_reply as nothing_reply}
use Rattle.vpic_chip.specs.Registers.{Chip, as_full, placed}
use Rattle.vpic_chip.specs.Chip.{opened, commanded, fed, command_read, pulsed, asks, cascade_irq, driven, pending_irq, acknowledged, unacknowledged, vector_reply, is_polled, polled, read_shown}
use Rattle.vpic.specs.declared.PicRule.{PicRule}
use Rattle.vpic.specs.declared.PicRule.TheVariants.{Latch, Cascade, Full}
use Rattle.vpic.specs.declared.PicInterruptClaim.{PicInterruptClaim}
use Rattle.vpic.specs.declared.PicPort.{PicPort}
use Rattle.vpic.specs.declared.PicPort.TheVariants.{MasterCommand, MasterData, SlaveCommand, SlaveData}
use Rattle.vpic.specs.declared.PortRanges.{PortRanges}
use Rattle.vpic.specs.Words.{PicState}

-- p with these chips in it
abbrev pub chips : PicState → Chip → Chip → PicState
chips p m s = record { rule = p.rule; master = m; slave = s; spare = p.spare }

-- ---- the three rules

-- the rules by number: in the pair's words any number but 1 and 2 is rule 0
abbrev pub rule_number : PicRule → ℕ
rule_number Latch = 0
rule_number Cascade = 1
rule_number Full = 2

abbrev pub rule_in : ℕ → PicRule
rule_in n = cond (eqb n 1) Cascade (cond (eqb n 2) Full Latch)

-- the numbers that a rule has
abbrev pub is_rule : ℕ → Bool
is_rule n = ltb n 3

-- the rule of a number from outside
abbrev pub rule_of : ℕ → Result PicRule Refusal
rule_of n = cond (is_rule n) (Ok (rule_in n)) (Err Unsupported)

-- whether the slave's output drives the master's line 2
abbrev pub drives : PicRule → Bool
drives Latch = false
drives Cascade = true
drives Full = true

-- a chip of a pair of this rule, the master or the slave: rule 2 is the full 8259A profile
abbrev pub of_rule : Bool → PicRule → Chip → Chip
of_rule cascades Latch c = c
of_rule cascades Cascade c = c
of_rule cascades Full c = placed cascades (as_full c)

abbrev pub is_cascade : PicState → Bool
is_cascade p = drives (rule_in p.rule)

-- a new pair of a rule, with the bases that the PC's BIOS gives them (the slave's is 0x70)
unfoldable pub new_state : PicRule → PicState
new_state rule = record { rule = rule_number rule; master = of_rule true rule (opened 0x08); slave = of_rule false rule (opened 0x70); spare = 0 }

-- what ends every call that isn't refused, but a read without a poll and a claim of a line that isn't there. Rules 1 and 2: the slave's output drives the master's line 2.
-- D-18: request 2 stands again straight after the master's ICW1, which resets the edge sense in the data sheet. D-13, rule 0: the output drives no line: request 2 is a
-- latch, set by a slave's edge and cleared by an acknowledgement, so that nothing is left to do
unfoldable pub settled : PicState → PicState
settled p = cond (is_cascade p) (chips p (driven p.master cascade_irq.0 (asks p.slave)) p.slave) p

-- what that leaves: by the cascade rule, the master's request 2 set exactly when some slave request counts
abbrev pub Keeps : PicState → Type 0
Keeps p = is_cascade p ≡ true → bit p.master.request cascade_irq.0 ≡ asks p.slave

-- ---- an edge on a line of the pair

abbrev pub is_place : Option PicPlace → Bool
is_place (Some (Master k)) = true
is_place (Some (Slave k)) = true
is_place None = false

abbrev pub latched_at : PicState → Option PicPlace → PicState
latched_at p (Some (Master k)) = chips p (pulsed p.master k) p.slave
latched_at p (Some (Slave k)) = chips p (pulsed p.master cascade_irq) (pulsed p.slave k)
latched_at p None = p

unfoldable pub latched : PicState → PicLine → PicState
latched p l = settled (latched_at p (place_of l))

-- ---- the interrupt sequence

-- the pair after a claim, and the claim
pub record StateClaim : Type 0 where
  pub state : PicState
  pub claim : Option PicInterruptClaim

abbrev pub state_claim : PicState → Option PicInterruptClaim → StateClaim
state_claim p c = record { state = p; claim = c }

-- a claim says what it did: the vector, the line, and which chip's in-service set grew by it: some line is in service after, and wasn't before
abbrev pub grew : Chip → Chip → Bool
grew before after = not (eqb (outside 8 after.in_service before.in_service) 0)

-- the claim of line l with vector v that turned p into q
abbrev pub claimed : PicState → PicState → Vector → PicLine → StateClaim
claimed p q v l = record {
  state = settled q;
  claim = Some (record {
    vector = v;
    irq = l;
    master_in_service = grew p.master q.master;
    slave_in_service = grew p.slave q.slave;
  });
}

-- the master answers for its line k
unfoldable pub master_claim : PicState → PicLine → StateClaim
master_claim p k = claimed p (chips p (acknowledged p.master k.0) p.slave) (line_vector p.master.vector_base k) k

-- the slave answers for its line k, the pair's line k + 8
unfoldable pub slave_claim : PicState → PicLine → StateClaim
slave_claim p k =
    claimed p (chips p (acknowledged p.master cascade_irq.0) (acknowledged p.slave k.0)) (line_vector p.slave.vector_base k) (record { 0 = k.0 + 8 })

-- the master's line 2 is acknowledged. D-16: with no slave request that counts the master answers for line 2 (in the data sheet the slave, for its line 7)
abbrev pub cascade_place : Option PicLine → Option PicPlace
cascade_place (Some k) = Some (Slave k)
cascade_place None = Some (Master cascade_irq)

abbrev pub place_from : PicState → Option PicLine → Option PicPlace
place_from p (Some k) = cond (eqb k.0 cascade_irq.0) (cascade_place (pending_irq p.slave)) (Some (Master k))
place_from p None = None

-- whose line answers for the highest request of the master that counts
abbrev pub pending_place : PicState → Option PicPlace
pending_place p = place_from p (pending_irq p.master)

abbrev pub nothing_claimed : PicState → StateClaim
nothing_claimed p = record { state = p; claim = None }

abbrev pub claim_at : PicState → Option PicPlace → StateClaim
claim_at p (Some (Master k)) = master_claim p k
claim_at p (Some (Slave k)) = slave_claim p k
claim_at p None = nothing_claimed (settled p)

-- the highest request of the master that counts is claimed; where none does, the pair is settled all the same
unfoldable pub claim_pending : PicState → StateClaim
claim_pending p = claim_at p (pending_place p)

-- a line is latched, and then what counts is claimed, be it that line or another; a line that the pair hasn't is nothing
unfoldable pub claim_irq : PicState → PicLine → StateClaim
claim_irq p l = cond (ltb l.0 16) (claim_pending (latched p l)) (nothing_claimed p)

-- ---- a claim that couldn't be published is put back (not in the data sheet: the Rust's). Below line 8 the slave's flag is ignored

abbrev pub restored_at : PicState → Option PicPlace → Bool → Bool → PicState
restored_at p (Some (Master k)) m s = chips p (unacknowledged p.master k m) p.slave
restored_at p (Some (Slave k)) m s = chips p (unacknowledged p.master cascade_irq m) (unacknowledged p.slave k s)
restored_at p None m s = p

unfoldable pub restored : PicState → PicInterruptClaim → PicState
restored p c = settled (restored_at p (place_of c.irq) c.master_in_service c.slave_in_service)

-- ---- the ports: commands at 0x20 and 0xa0, data at 0x21 and 0xa1; one byte wide

pub data Port : Type 0 where
  master_command : Port
  master_data : Port
  slave_command : Port
  slave_data : Port
  no_port : Port

abbrev pub port_at : ℕ → Port
port_at port =
    cond (eqb port 0x20) master_command
    (cond (eqb port 0x21) master_data
    (cond (eqb port 0xa0) slave_command
    (cond (eqb port 0xa1) slave_data
    no_port)))

abbrev pub is_there : Port → Bool
is_there master_command = true
is_there master_data = true
is_there slave_command = true
is_there slave_data = true
is_there no_port = false

-- the port that the code has found, and what it finds
abbrev pub at_port : PicPort → Port
at_port MasterCommand = master_command
at_port MasterData = master_data
at_port SlaveCommand = slave_command
at_port SlaveData = slave_data

abbrev pub found_at : Port → Result PicPort Refusal
found_at master_command = Ok MasterCommand
found_at master_data = Ok MasterData
found_at slave_command = Ok SlaveCommand
found_at slave_data = Ok SlaveData
found_at no_port = Err Unsupported

abbrev pub port_found : ℕ → Result PicPort Refusal
port_found port = found_at (port_at port)

-- what a read shows: the poll's answer where one waits on the chip, else the port's register
abbrev pub read_from : PicState → Port → Result ℕ Refusal
read_from p master_command = Ok (read_shown p.master (command_read p.master))
read_from p master_data = Ok (read_shown p.master p.master.mask)
read_from p slave_command = Ok (read_shown p.slave (command_read p.slave))
read_from p slave_data = Ok (read_shown p.slave p.slave.mask)
read_from p no_port = Err Unsupported

-- what it leaves: a poll acknowledges on its chip alone; another read changes nothing
abbrev pub master_read : PicState → PicState
master_read p = cond (is_polled p.master) (settled (chips p (polled p.master) p.slave)) p

abbrev pub slave_read : PicState → PicState
slave_read p = cond (is_polled p.slave) (settled (chips p p.master (polled p.slave))) p

abbrev pub left_after : PicState → Port → PicState
left_after p master_command = master_read p
left_after p master_data = master_read p
left_after p slave_command = slave_read p
left_after p slave_data = slave_read p
left_after p no_port = p

abbrev pub written_to : PicState → Port → ℕ → PicState
written_to p master_command byte = chips p (commanded p.master byte) p.slave
written_to p master_data byte = chips p (fed p.master byte) p.slave
written_to p slave_command byte = chips p p.master (commanded p.slave byte)
written_to p slave_data byte = chips p p.master (fed p.slave byte)
written_to p no_port byte = p

abbrev pub is_port : ℕ → Bool
is_port port = is_there (port_at port)

unfoldable pub port_read : PicState → ℕ → Result ℕ Refusal
port_read p port = read_from p (port_at port)

unfoldable pub port_left : PicState → ℕ → PicState
port_left p port = left_after p (port_at port)

unfoldable pub written_at : PicState → ℕ → ℕ → PicState
written_at p port byte = written_to p (port_at port) byte

unfoldable pub port_written : PicState → ℕ → ℕ → PicState
port_written p port byte = settled (written_at p port byte)

-- ---- the numbers and values of document 01 for each kind of answer

-- flags: 1 if the master's in-service set grew, 2 if the slave's did
abbrev pub claim_flags : PicInterruptClaim → ℕ
claim_flags c = flag c.master_in_service + 2 * flag c.slave_in_service

-- vector, line, flags
abbrev pub interrupt_reply : PicInterruptClaim → Reply
interrupt_reply c = reply.Three c.vector.0 c.irq.0 (claim_flags c)

-- or nothing
abbrev pub claim_reply : Option PicInterruptClaim → Reply
claim_reply = option_reply interrupt_reply

abbrev pub claim_vector : Option PicInterruptClaim → Option Vector
claim_vector (Some c) = Some c.vector
claim_vector None = None

-- the claim of a line by the vector that its chip gave
abbrev pub claim_of : Option Vector → PicLine → Bool → Bool → Option PicInterruptClaim
claim_of (Some v) l m s = Some (record { vector = v; irq = l; master_in_service = m; slave_in_service = s })
claim_of None l m s = None

abbrev pub done_reply : Result (Unit {0}) Refusal → Reply
done_reply = result_reply nothing_reply

abbrev pub value_reply : Result ℕ Refusal → Reply
value_reply = result_reply number_reply

-- ---- what each public call leaves: the whole pair, and the reply

abbrev pub claim_outcome : PicState → Option PicInterruptClaim → Outcome PicState
claim_outcome p c = record { state = p; reply = claim_reply c }

abbrev pub vector_outcome : PicState → Option Vector → Outcome PicState
vector_outcome p v = record { state = p; reply = vector_reply v }

abbrev pub done_outcome : PicState → Result (Unit {0}) Refusal → Outcome PicState
done_outcome p d = record { state = p; reply = done_reply d }

abbrev pub value_outcome : PicState → Result ℕ Refusal → Outcome PicState
value_outcome p v = record { state = p; reply = value_reply v }

abbrev pub refused : PicState → Refusal → Outcome PicState
refused p why = record { state = p; reply = reply.Refused why }

abbrev pub port_ranges : PortRanges
port_ranges = record { master = record { start = 0x20; end = 0x21 }; slave = record { start = 0xa0; end = 0xa1 } }

abbrev pub with_claim : StateClaim → Outcome PicState
with_claim r = record { state = r.state; reply = claim_reply r.claim }

abbrev pub with_vector : StateClaim → Outcome PicState
with_vector r = record { state = r.state; reply = vector_reply (claim_vector r.claim) }

abbrev pub restore_interrupt : PicState → PicInterruptClaim → Outcome PicState
restore_interrupt p c = cond (ltb c.irq.0 16) (record { state = restored p c; reply = reply.Nothing }) (refused p OutOfRange)

-- width before port
abbrev pub handle_read : PicState → ℕ → ℕ → Outcome PicState
handle_read p port width = cond (eqb width 1) (record { state = port_left p port; reply = value_reply (port_read p port) }) (refused p Unsupported)

abbrev pub handle_write : PicState → ℕ → ℕ → ℕ → Outcome PicState
handle_write p port width value =
    cond (eqb width 1)
    (cond (is_port port) (record { state = port_written p port (value % 256); reply = reply.Nothing }) (refused p Unsupported))
    (refused p Unsupported)
