-- The chips of a pair (8259A, cascade mode): what any call does to each is a list of one chip's events, so that rotation is fair there too, on the premises of one chip, with nested
-- handlers, a slave that comes and goes, and polls.
use Rattle.std.specs.Prelude.{ℕ, suc, ◌-◌, ◌%◌, ◌<◌, ◌≡◌, Bool, true, false, cond, List, [], ◌∷◌, ◌++◌, ltb, eqb, length, Option, Some, None}
use Rattle.types.specs.declared.PicLine.{PicLine}
use Rattle.types.specs.declared.PicPlace.{PicPlace}
use Rattle.types.specs.declared.PicPlace.TheVariants.{Master, Slave}
use Rattle.types.specs.Counters.{place_of}
use Rattle.vpic_priority.specs.Ring.{rank}
use Rattle.vpic_chip.specs.Registers.{Chip, placed}
use Rattle.vpic_chip.specs.Chip.{cascade_irq, lowest_by, asks, is_polled, poll_shown}
use Rattle.vpic.specs.Words.{PicState}
use Rattle.vpic.specs.Pair.{Port, master_command, master_data, slave_command, slave_data, no_port, port_at, is_cascade, latched, pending_place, claim_pending, restored, slave_read, written_to}
use Rattle.vpic.specs.Departures.{line, pair}
use Rattle.vpic_theorems.specs.Statements.{Call, call_claim_irq, claim_pending_interrupt, pulse_irq, next_interrupt, call_restore_interrupt, call_handle_read, call_handle_write, outcome}
use Rattle.vpic_theorems.specs.Rotation.{Event, raise, drive, acknowledge, read_poll, take_back, command, data_write, after, lines, within, fairly, Waits, full_at, claim_line, claimed_by, claims}

-- ---- what a call does to the master, event by event

-- what ends each: the output of the slave of q on line 2
abbrev pub drive_from : PicState → Event
drive_from q = drive cascade_irq (asks q.slave)

-- an edge on a line of the pair; one on the slave's comes in at line 2
abbrev pub edges_at : Option PicPlace → List Event
edges_at (Some (Master k)) = raise k ∷ []
edges_at (Some (Slave k)) = raise cascade_irq ∷ []
edges_at None = []

abbrev pub latch_events : PicState → PicLine → List Event
latch_events p l = edges_at (place_of l) ++ drive_from (latched p l) ∷ []

abbrev pub claim_events : PicState → List Event
claim_events p = acknowledge ∷ drive_from (claim_pending p).state ∷ []

abbrev pub irq_events : PicState → PicLine → List Event
irq_events p l = cond (ltb l.0 16) (latch_events p l ++ claim_events (latched p l)) []

abbrev pub back_at : Option PicPlace → Bool → List Event
back_at (Some (Master k)) f = take_back k f ∷ []
back_at (Some (Slave k)) f = take_back cascade_irq f ∷ []
back_at None f = []

-- a read of the slave where a poll waits there may take its request away
abbrev pub read_events : PicState → Port → List Event
read_events p master_command = cond (is_polled p.master) (read_poll ∷ drive_from p ∷ []) []
read_events p master_data = cond (is_polled p.master) (read_poll ∷ drive_from p ∷ []) []
read_events p slave_command = cond (is_polled p.slave) (drive_from (slave_read p) ∷ []) []
read_events p slave_data = cond (is_polled p.slave) (drive_from (slave_read p) ∷ []) []
read_events p no_port = []

abbrev pub write_events : PicState → Port → ℕ → List Event
write_events p master_command byte = command byte ∷ drive_from p ∷ []
write_events p master_data byte = data_write byte ∷ drive_from p ∷ []
write_events p slave_command byte = drive_from (written_to p slave_command byte) ∷ []
write_events p slave_data byte = drive_from (written_to p slave_data byte) ∷ []
write_events p no_port byte = []

abbrev pub master_events : PicState → Call → List Event
master_events p (call_claim_irq l) = irq_events p l
master_events p claim_pending_interrupt = claim_events p
master_events p (pulse_irq l) = irq_events p l
master_events p next_interrupt = claim_events p
master_events p (call_restore_interrupt c) = cond (ltb c.irq.0 16) (back_at (place_of c.irq) c.master_in_service ++ drive_from (restored p c) ∷ []) []
master_events p (call_handle_read port width) = cond (eqb width 1) (read_events p (port_at port)) []
master_events p (call_handle_write port width value) = cond (eqb width 1) (write_events p (port_at port) (value % 256)) []

abbrev pub after_all : Chip → List Event → Chip
after_all c [] = c
after_all c (e ∷ l) = after_all (after c e) l

-- by rules 1 and 2 the master after any call is the master after these events
abbrev pub MasterIs : Type 0
MasterIs = (p : PicState) (c : Call) → is_cascade p ≡ true → (outcome p c).state.master ≡ after_all p.master (master_events p c)

-- ---- which lines of the master are served

-- of what a claim answers its own line, and line 2 for a slave's
abbrev pub on_master : List ℕ → List ℕ
on_master [] = []
on_master (k ∷ l) = cond (ltb k 8) k cascade_irq.0 ∷ on_master l

-- and the line that a poll shows, by the byte that is read
abbrev pub shown_line : ℕ → List ℕ
shown_line byte = cond (ltb byte 0x80) [] ((byte - 0x80) ∷ [])

abbrev pub polled_line : PicState → Port → List ℕ
polled_line p master_command = cond (is_polled p.master) (shown_line (poll_shown p.master)) []
polled_line p master_data = cond (is_polled p.master) (shown_line (poll_shown p.master)) []
polled_line p slave_command = []
polled_line p slave_data = []
polled_line p no_port = []

abbrev pub master_served : PicState → Call → List ℕ
master_served p (call_claim_irq l) = on_master (claim_line (claimed_by p (call_claim_irq l)))
master_served p claim_pending_interrupt = on_master (claim_line (claimed_by p claim_pending_interrupt))
master_served p (pulse_irq l) = on_master (claim_line (claimed_by p (pulse_irq l)))
master_served p next_interrupt = on_master (claim_line (claimed_by p next_interrupt))
master_served p (call_restore_interrupt c) = []
master_served p (call_handle_read port width) = cond (eqb width 1) (polled_line p (port_at port)) []
master_served p (call_handle_write port width value) = []

abbrev pub MasterServedAre : Type 0
MasterServedAre = (p : PicState) (c : Call) → is_cascade p ≡ true → lines p.master (master_events p c) ≡ master_served p c

-- ---- so rotation is fair to the master's lines, as far as one chip's premises go

-- what f says of each call of a run
abbrev pub along : {A : Type 0} → (PicState → Call → List A) → PicState → List Call → List A
along f p [] = []
along f p (c ∷ l) = f p c ++ along f (outcome p c).state l

-- `fairly` asks of line 2 itself also that the slave's output stays up; a rotating EOI in a nested handler of the slave may lower it
abbrev pub FairOnMaster : Type 0
FairOnMaster =
    (p : PicState) (n : ℕ) (l : List Call) → is_cascade p ≡ true → Waits p.master n → fairly n p.master (along master_events p l) ≡ true
    → rank (lowest_by p.master) n < length (along master_served p l) → within n (suc (rank (lowest_by p.master) n)) (along master_served p l) ≡ true

-- ---- the same of the slave, by every rule

abbrev pub slave_edges : Option PicPlace → List Event
slave_edges (Some (Master k)) = []
slave_edges (Some (Slave k)) = raise k ∷ []
slave_edges None = []

-- a claim acknowledges there where it comes through line 2
abbrev pub slave_claims : Option PicPlace → List Event
slave_claims (Some (Master k)) = []
slave_claims (Some (Slave k)) = acknowledge ∷ []
slave_claims None = []

abbrev pub slave_back : Option PicPlace → Bool → List Event
slave_back (Some (Master k)) f = []
slave_back (Some (Slave k)) f = take_back k f ∷ []
slave_back None f = []

abbrev pub slave_reads : PicState → Port → List Event
slave_reads p master_command = []
slave_reads p master_data = []
slave_reads p slave_command = cond (is_polled p.slave) (read_poll ∷ []) []
slave_reads p slave_data = cond (is_polled p.slave) (read_poll ∷ []) []
slave_reads p no_port = []

abbrev pub slave_writes : Port → ℕ → List Event
slave_writes master_command byte = []
slave_writes master_data byte = []
slave_writes slave_command byte = command byte ∷ []
slave_writes slave_data byte = data_write byte ∷ []
slave_writes no_port byte = []

abbrev pub slave_irq : PicState → PicLine → List Event
slave_irq p l = cond (ltb l.0 16) (slave_edges (place_of l) ++ slave_claims (pending_place (latched p l))) []

abbrev pub slave_events : PicState → Call → List Event
slave_events p (call_claim_irq l) = slave_irq p l
slave_events p claim_pending_interrupt = slave_claims (pending_place p)
slave_events p (pulse_irq l) = slave_irq p l
slave_events p next_interrupt = slave_claims (pending_place p)
slave_events p (call_restore_interrupt c) = cond (ltb c.irq.0 16) (slave_back (place_of c.irq) c.slave_in_service) []
slave_events p (call_handle_read port width) = cond (eqb width 1) (slave_reads p (port_at port)) []
slave_events p (call_handle_write port width value) = cond (eqb width 1) (slave_writes (port_at port) (value % 256)) []

abbrev pub SlaveIs : Type 0
SlaveIs = (p : PicState) (c : Call) → (outcome p c).state.slave ≡ after_all p.slave (slave_events p c)

-- of what a claim answers the lines from 8 up
abbrev pub on_slave : List ℕ → List ℕ
on_slave [] = []
on_slave (k ∷ l) = cond (ltb k 8) (on_slave l) ((k - 8) ∷ on_slave l)

abbrev pub slave_polled : PicState → Port → List ℕ
slave_polled p master_command = []
slave_polled p master_data = []
slave_polled p slave_command = cond (is_polled p.slave) (shown_line (poll_shown p.slave)) []
slave_polled p slave_data = cond (is_polled p.slave) (shown_line (poll_shown p.slave)) []
slave_polled p no_port = []

abbrev pub slave_served : PicState → Call → List ℕ
slave_served p (call_claim_irq l) = on_slave (claim_line (claimed_by p (call_claim_irq l)))
slave_served p claim_pending_interrupt = on_slave (claim_line (claimed_by p claim_pending_interrupt))
slave_served p (pulse_irq l) = on_slave (claim_line (claimed_by p (pulse_irq l)))
slave_served p next_interrupt = on_slave (claim_line (claimed_by p next_interrupt))
slave_served p (call_restore_interrupt c) = []
slave_served p (call_handle_read port width) = cond (eqb width 1) (slave_polled p (port_at port)) []
slave_served p (call_handle_write port width value) = []

abbrev pub SlaveServedAre : Type 0
SlaveServedAre = (p : PicState) (c : Call) → lines p.slave (slave_events p c) ≡ slave_served p c

abbrev pub FairOnSlave : Type 0
FairOnSlave =
    (p : PicState) (n : ℕ) (l : List Call) → Waits p.slave n → fairly n p.slave (along slave_events p l) ≡ true
    → rank (lowest_by p.slave) n < length (along slave_served p l) → within n (suc (rank (lowest_by p.slave) n)) (along slave_served p l) ≡ true

-- ---- such runs

-- the master's bound is met: line 3, of rank 3, waits, line 1 is claimed, line 0 in the middle of its handler, a slave's line waits for both EOIs, and line 3 is the fourth, by a poll;
-- the slave's line 1 is served meanwhile
abbrev pub three_waits : PicState
three_waits = pair 2 (placed true (full_at 8 0 0 false)) (full_at 0 0 0 false)

abbrev pub nested_calls : List Call
nested_calls =
    call_claim_irq (line 1) ∷ call_claim_irq (line 0) ∷ call_claim_irq (line 9) ∷ call_handle_write 0x20 1 0xa0 ∷ call_handle_write 0x20 1 0xa0 ∷ claim_pending_interrupt
    ∷ call_handle_write 0xa0 1 0xa0 ∷ call_handle_write 0x20 1 0xa0 ∷ call_handle_write 0x20 1 0x0c ∷ call_handle_read 0x20 1 ∷ []

pub record NestedOnPair : Type 0 where
  pub waits : Waits three_waits.master 3
  pub fair : fairly 3 three_waits.master (along master_events three_waits nested_calls) ≡ true
  pub master : along master_served three_waits nested_calls ≡ 1 ∷ 0 ∷ 2 ∷ 3 ∷ []
  pub slave : along slave_served three_waits nested_calls ≡ 1 ∷ []
  pub claims : claims three_waits nested_calls ≡ 1 ∷ 0 ∷ 9 ∷ []

-- and the slave's line 3: its line 1 is claimed, its line 0 in the middle of that handler, and line 3 is the third, by a poll
abbrev pub three_on_slave : PicState
three_on_slave = pair 2 (placed true (full_at 4 0 0 false)) (full_at 8 0 0 false)

abbrev pub slave_calls : List Call
slave_calls =
    call_claim_irq (line 9) ∷ call_handle_write 0x20 1 0xa0 ∷ call_claim_irq (line 8) ∷ call_handle_write 0xa0 1 0xa0 ∷ call_handle_write 0xa0 1 0xa0 ∷ call_handle_write 0x20 1 0xa0
    ∷ call_handle_write 0xa0 1 0x0c ∷ call_handle_read 0xa0 1 ∷ []

pub record NestedOnSlave : Type 0 where
  pub waits : Waits three_on_slave.slave 3
  pub fair : fairly 3 three_on_slave.slave (along slave_events three_on_slave slave_calls) ≡ true
  pub slave : along slave_served three_on_slave slave_calls ≡ 1 ∷ 0 ∷ 3 ∷ []
  pub claims : claims three_on_slave slave_calls ≡ 9 ∷ 8 ∷ []
