-- Theorems about rotating priority (8259A, OCW2: automatic rotation, for devices of equal priority; specific rotation) and the full profile, rule 2: each line that asks is
-- served in its turn, on one chip and on the pair; the cascade rule is kept; what a restored claim leaves; that rule 2 answers as rule 1 where line 7 is lowest and no mode is on; and
-- where the profile does other than the data sheet.
use Rattle.std.specs.Prelude.{ℕ, zero, suc, ◌+◌, ◌*◌, ◌%◌, ◌<◌, ◌≤◌, ◌≡◌, Bool, true, false, not, cond, ◌&&◌, ◌||◌, List, [], ◌∷◌, ◌++◌, ltb, eqb, length, Option, Some, None}
use Rattle.utils.specs.Set.{bit, without}
use Rattle.types.specs.declared.PicLine.{PicLine}
use Rattle.types.specs.declared.Reply.TheVariants as reply
use Rattle.types.specs.Reply.{Outcome, flag, reply_values}
use Rattle.types.specs.Departure.{Departure, Shown}
use Rattle.vpic_priority.specs.Ring.{rank}
use Rattle.vpic_chip.specs.Registers.{Chip, registers, plain_registers, with_request, with_step, with_read_isr, with_lowest, with_nested, as_full, placed}
use Rattle.vpic_chip.specs.Chip.{cascade_irq, lowest_by, is_special, is_nested, is_polled, opened, commanded, fed, command_read, pulsed, driven, pending_line, asks, pending_irq, pending_reply, acknowledged, acknowledge as chipAcknowledge, unacknowledged, poll_shown, polled}
use Rattle.vpic.specs.declared.PicRule.TheVariants.{Cascade, Full}
use Rattle.vpic.specs.declared.PicInterruptClaim.{PicInterruptClaim}
use Rattle.vpic.specs.Words.{PicState}
use Rattle.vpic.specs.Pair.{Port, master_command, master_data, slave_command, slave_data, no_port, port_at, handle_read, chips, is_cascade, Keeps, new_state, settled, latched, claim_irq, claim_pending, port_written, restore_interrupt, claim_reply}
use Rattle.vpic.specs.Departures.{at, line, pair, open', writes, claimed_vector, seventh}
use Rattle.vpic_theorems.specs.Statements.{Call, call_claim_irq, claim_pending_interrupt, pulse_irq, next_interrupt, call_restore_interrupt, call_handle_read, call_handle_write, outcome}
use Rattle.vpic_theorems.specs.Rule.{run}

-- ---- what happens to one chip

pub data Event : Type 0 where
  raise : PicLine → Event
  drive : PicLine → Bool → Event  -- by a level, as the slave's output drives the master's line 2 after each call on the pair
  acknowledge : Event  -- of the first line that counts; where none does, nothing
  read_poll : Event  -- a read while a poll waits: the same
  take_back : PicLine → Bool → Event  -- an acknowledgement that couldn't be published
  command : ℕ → Event
  data_write : ℕ → Event

abbrev pub after : Chip → Event → Chip
after c (raise l) = pulsed c l
after c (drive l up) = driven c l.0 up
after c acknowledge = cond (asks c) (acknowledged c (pending_line c)) c
after c read_poll = polled c
after c (take_back l f) = unacknowledged c l f
after c (command v) = commanded c v
after c (data_write v) = fed c v

-- the lines acknowledged, in order
abbrev pub lines_of : Chip → Event → List ℕ
lines_of c (raise l) = []
lines_of c (drive l up) = []
lines_of c acknowledge = cond (asks c) (pending_line c ∷ []) []
lines_of c read_poll = cond (asks c) (pending_line c ∷ []) []
lines_of c (take_back l f) = []
lines_of c (command v) = []
lines_of c (data_write v) = []

abbrev pub lines : Chip → List Event → List ℕ
lines c [] = []
lines c (e ∷ l) = lines_of c e ++ lines (after c e) l

-- n is among the first b
abbrev pub within : ℕ → ℕ → List ℕ → Bool
within n zero l = false
within n (suc b) [] = false
within n (suc b) (k ∷ l) = eqb k n || within n b l

-- ---- one chip is fair

-- commands that leave the turns alone: OCW3; of OCW2, an EOI (bit 5) that is plain and rotates, and every command without EOI except set priority. Not ICW1
abbrev pub keeps_turns : ℕ → Bool
keeps_turns v = not (bit v 4) && (bit v 3 || cond (bit v 5) (not (bit v 6) && bit v 7) (not (bit v 6) || not (bit v 7)))

-- an acknowledgement turns the priorities, itself or by its EOI: automatic EOI mode is off, or rotates
abbrev pub turns : Chip → Bool
turns c = not c.auto_eoi || c.auto_rotation

-- neither special mask mode nor special fully nested mode is on
abbrev pub is_ordinary : Chip → Bool
is_ordinary c = not (is_special c) && not (is_nested c)

-- what is asked of each event as long as line n waits: at an acknowledgement, a poll's too, the line is unmasked, and the chip turns; nothing is taken back; no level takes the line's own request
-- away. Edges and levels on any other lines, and any writes to the data port; but no mode is on
abbrev pub lets : ℕ → Chip → Event → Bool
lets n c (raise l) = true
lets n c (drive l up) = up || not (eqb n l.0)
lets n c acknowledge = not (bit c.mask n) && turns c
lets n c read_poll = not (bit c.mask n) && turns c
lets n c (take_back l f) = false
lets n c (command v) = keeps_turns v
lets n c (data_write v) = true

-- until n is served
abbrev pub fairly : ℕ → Chip → List Event → Bool
fairly n c [] = true
fairly n c (e ∷ l) = is_ordinary c && (lets n c e && (within n 1 (lines_of c e) || fairly n (after c e) l))

-- line n of a chip of the full profile has asked, and nothing is in service
pub record Waits (c : Chip) (n : ℕ) : Type 0 where
  pub full : c.full ≡ true
  pub low : n < 8
  pub asked : bit c.request n ≡ true
  pub idle : c.in_service ≡ 0

-- then it is served by the rank'th acknowledgement after the next one; handlers may be nested in between
abbrev pub Fair : Type 0
Fair =
    (c : Chip) (n : ℕ) (l : List Event) → Waits c n → fairly n c l ≡ true → rank (lowest_by c) n < length (lines c l)
    → within n (suc (rank (lowest_by c) n)) (lines c l) ≡ true

-- so by the eighth
abbrev pub FairInEight : Type 0
FairInEight = (c : Chip) (n : ℕ) (l : List Event) → Waits c n → fairly n c l ≡ true → 8 ≤ length (lines c l) → within n 8 (lines c l) ≡ true

-- and it does come to acknowledgements, in every mode. A guest's round: an acknowledgement, edges on any lines, the plain EOI with rotation (0xa0)
abbrev pub raises : List PicLine → List Event → List Event
raises [] l = l
raises (p ∷ ps) l = raise p ∷ raises ps l

abbrev pub rounds : List (List PicLine) → List Event
rounds [] = []
rounds (ps ∷ r) = acknowledge ∷ raises ps (command 0xa0 ∷ rounds r)

abbrev pub FairRounds : Type 0
FairRounds =
    (c : Chip) (n : ℕ) (r : List (List PicLine)) → Waits c n → bit c.mask n ≡ false → turns c ≡ true → rank (lowest_by c) n < length r
    → within n (suc (rank (lowest_by c) n)) (lines c (rounds r)) ≡ true

-- ---- eight is met, and each premise is needed

-- a chip of the full profile by its registers, with no mode on: base, mask, requests, lines in service, step of initialization, ICW4 announced, automatic EOI mode, lowest line,
-- rotation in automatic EOI mode
abbrev pub full_chip : ℕ → ℕ → ℕ → ℕ → ℕ → Bool → Bool → ℕ → Bool → Chip
full_chip base imr irr isr step icw4 aeoi low rot = registers base imr irr isr step icw4 false aeoi false true false low rot false false false 0

-- at base 0 with these requests, mask, and lines in service, initialized, line 7 lowest; in automatic EOI mode or not
abbrev pub full_at : ℕ → ℕ → ℕ → Bool → Chip
full_at irr imr isr aeoi = full_chip 0 imr irr isr 0 false aeoi 7 false

abbrev pub edge : ℕ → Event
edge k = raise (line k)

abbrev pub often : {A : Type 0} → ℕ → List A → List A
often zero l = []
often (suc m) l = l ++ often m l

-- all lines ask again in each round: line 7 is the eighth
abbrev pub LastIsEighth : Type 0
LastIsEighth =
    lines (full_at 255 0 0 false) (often 8 (acknowledge ∷ command 0xa0 ∷ edge 0 ∷ edge 1 ∷ edge 2 ∷ edge 3 ∷ edge 4 ∷ edge 5 ∷ edge 6 ∷ edge 7 ∷ []))
    ≡ 0 ∷ 1 ∷ 2 ∷ 3 ∷ 4 ∷ 5 ∷ 6 ∷ 7 ∷ []

-- lines 0 and 1 ask, and 0 again after each acknowledgement: line 1, of rank 1, would be the second at the latest. In eight acknowledgements it isn't served
abbrev pub starves : Chip → List Event → Type 0
starves c l = lines c (often 8 (acknowledge ∷ l ++ edge 0 ∷ [])) ≡ often 8 (0 ∷ [])

-- a run without each premise
pub record Needed : Type 0 where
  -- EOIs without rotation, plain and specific
  pub «plain-eoi» : starves (full_at 3 0 0 false) (command 0x20 ∷ [])
  pub «specific-eoi» : starves (full_at 3 0 0 false) (command 0x60 ∷ [])
  -- line 7 made lowest after each EOI: by set priority, and by a specific EOI with rotation
  pub «set-priority» : starves (full_at 3 0 0 false) (command 0xa0 ∷ command 0xc7 ∷ [])
  pub «specific-rotation» : starves (full_at 3 0 0 false) (command 0xa0 ∷ command 0xe7 ∷ [])
  -- automatic EOI mode without rotation
  pub «auto-eoi» : starves (full_at 3 0 0 true) []
  pub «auto-eoi-polled» : lines (full_at 3 0 0 true) (often 8 (read_poll ∷ edge 0 ∷ [])) ≡ often 8 (0 ∷ [])
  pub «taken_back» : starves (full_at 3 0 0 false) (take_back (line 0) true ∷ [])
  pub masked : starves (full_at 3 2 0 false) (command 0xa0 ∷ [])
  pub «masked-polled» : lines (full_at 3 2 0 false) (often 8 (read_poll ∷ command 0xa0 ∷ edge 0 ∷ [])) ≡ often 8 (0 ∷ [])
  -- line 1 driven by a level, and let down after the acknowledgement
  pub «driven_down» : starves (full_at 3 0 0 false) (command 0xa0 ∷ drive (line 1) false ∷ [])
  -- a chip that isn't of the full profile
  pub plain : starves (at 3 0 0) (command 0xa0 ∷ [])
  -- ICW1, after which line 1 asks again
  pub initialized : starves (full_at 3 0 0 false) (command 0x12 ∷ edge 1 ∷ [])
  -- special mask mode: line 0 is masked while line 1 is served and ended, and its own EOI turns the priorities back to it; line 2, of rank 2, would be the third at the latest
  pub special :
      lines (full_at 7 0 0 false) (acknowledge ∷ command 0x68 ∷ data_write 1 ∷ acknowledge ∷ command 0xa0 ∷ data_write 0 ∷ command 0xa0 ∷ edge 1 ∷ acknowledge ∷ []) ≡ 0 ∷ 1 ∷ 1 ∷ []
  -- special mask mode: line 0 is masked at its EOI, which passes it by, and then stands in the way of lines 1 and 2 for good
  pub «masked-eoi» :
      lines (full_at 7 0 0 false) (command 0x68 ∷ acknowledge ∷ data_write 1 ∷ command 0xa0 ∷ data_write 0 ∷ often 8 (acknowledge ∷ edge 1 ∷ edge 2 ∷ [])) ≡ 0 ∷ []
  -- special fully nested mode: the master's line 2 comes again and again; line 3, of rank 3, would be the fourth at the latest
  pub nested : lines (with_nested (placed true (full_at 12 0 0 false)) true) (often 4 (acknowledge ∷ edge 2 ∷ [])) ≡ often 4 (2 ∷ [])
  -- line 7 was in service at the start: its EOI makes it lowest, and line 1 isn't the second; with an EOI to each acknowledgement alone, no line is the third
  pub idle : lines (full_at 3 0 0x80 false) (acknowledge ∷ command 0xa0 ∷ command 0xa0 ∷ edge 0 ∷ acknowledge ∷ []) ≡ 0 ∷ 0 ∷ []
  pub stuck : lines (full_at 3 0 0x80 false) (often 2 (acknowledge ∷ command 0xa0 ∷ edge 0 ∷ edge 1 ∷ []) ++ often 8 (acknowledge ∷ [])) ≡ 0 ∷ 1 ∷ []
  -- and in rounds: line 0 was in service, and asks again; its own round serves nothing
  pub «idle-rounds» : lines (full_at 1 0 1 false) (rounds ([] ∷ [])) ≡ []

-- ---- the pair is fair

-- a guest's round on the pair: an interrupt is claimed, with an edge on a line or of what waits, and the plain EOI with rotation goes to both chips;
-- `rounds_with` has any commands in its place, to the slave and to the master
pub data Round : Type 0 where
  edge_on : PicLine → Round
  waiting : Round

abbrev pub claim_call : Round → Call
claim_call (edge_on l) = call_claim_irq l
claim_call waiting = claim_pending_interrupt

abbrev pub rounds_with : ℕ → ℕ → List Round → List Call
rounds_with s m [] = []
rounds_with s m (r ∷ rs) = claim_call r ∷ call_handle_write 0xa0 1 s ∷ call_handle_write 0x20 1 m ∷ rounds_with s m rs

abbrev pub pair_rounds : List Round → List Call
pair_rounds r = rounds_with 0xa0 0xa0 r

-- every edge is on a line that the pair has
abbrev pub known_in : Round → Bool
known_in (edge_on l) = ltb l.0 16
known_in waiting = true

abbrev pub are_known : List Round → Bool
are_known [] = true
are_known (r ∷ rs) = known_in r && are_known rs

-- the lines claimed, in order
abbrev pub claim_line : Option PicInterruptClaim → List ℕ
claim_line (Some c) = c.irq.0 ∷ []
claim_line None = []

abbrev pub claimed_by : PicState → Call → Option PicInterruptClaim
claimed_by p (call_claim_irq l) = (claim_irq p l).claim
claimed_by p claim_pending_interrupt = (claim_pending p).claim
claimed_by p (pulse_irq l) = (claim_irq p l).claim
claimed_by p next_interrupt = (claim_pending p).claim
claimed_by p (call_restore_interrupt c) = None
claimed_by p (call_handle_read port width) = None
claimed_by p (call_handle_write port width value) = None

abbrev pub claims : PicState → List Call → List ℕ
claims p [] = []
claims p (c ∷ l) = claim_line (claimed_by p c) ++ claims (outcome p c).state l

-- a pair of the full profile that keeps its rule, with nothing in service, on which both chips rotate at each round
pub record Rotating (p : PicState) : Type 0 where
  pub cascade : is_cascade p ≡ true
  pub keeps : Keeps p
  pub master : p.master.full ≡ true
  pub slave : p.slave.full ≡ true
  pub «master-idle» : p.master.in_service ≡ 0
  pub «slave-idle» : p.slave.in_service ≡ 0
  pub «master_turns» : turns p.master ≡ true
  pub «slave_turns_lem» : turns p.slave ≡ true

-- a line of the slave waits, and line 2 of the master is open to it
pub record SlaveWaits (p : PicState) (n : ℕ) : Type 0 where
  pub low : n < 8
  pub asked : bit p.slave.request n ≡ true
  pub unmasked : bit p.slave.mask n ≡ false
  pub cascade : bit p.master.mask cascade_irq.0 ≡ false

pub record MasterWaits (p : PicState) (n : ℕ) : Type 0 where
  pub low : n < 8
  pub other : n ≡ cascade_irq.0 → ⊥
  pub asked : bit p.master.request n ≡ true
  pub unmasked : bit p.master.mask n ≡ false

-- before the slave's line n come the lines above line 2 on the master; and for each line above n on the slave, eight claims
abbrev pub slave_bound : PicState → ℕ → ℕ
slave_bound p n = rank (lowest_by p.master) cascade_irq.0 + 8 * rank (lowest_by p.slave) n

abbrev pub FairSlave : Type 0
FairSlave =
    (p : PicState) (n : ℕ) (r : List Round) → Rotating p → SlaveWaits p n → are_known r ≡ true → slave_bound p n < length r
    → within (n + 8) (suc (slave_bound p n)) (claims p (pair_rounds r)) ≡ true

abbrev pub FairMaster : Type 0
FairMaster =
    (p : PicState) (n : ℕ) (r : List Round) → Rotating p → MasterWaits p n → are_known r ≡ true → rank (lowest_by p.master) n < length r
    → within n (suc (rank (lowest_by p.master) n)) (claims p (pair_rounds r)) ≡ true

-- so in 64 claims at the latest
abbrev pub SixtyFour : Type 0
SixtyFour =
    (p : PicState) (n : ℕ) (r : List Round) → Rotating p → SlaveWaits p n → are_known r ≡ true → 64 ≤ length r → within (n + 8) 64 (claims p (pair_rounds r)) ≡ true

-- which is met: every line has asked and is raised again by the claim after its own, the master's line 2 and the slave's line 7 are lowest
abbrev pub all_ask : PicState
all_ask = record { rule = 2; master = full_chip 0 0 255 0 0 false false 2 false; slave = full_at 255 0 0 false; spare = 0 }

abbrev pub on : ℕ → Round
on k = edge_on (line k)

-- seven lines of the master, the first raising the line that was served last, and then the slave's
abbrev pub eight : ℕ → List ℕ → List ℕ
eight k l = 3 ∷ 4 ∷ 5 ∷ 6 ∷ 7 ∷ 0 ∷ 1 ∷ k ∷ l

abbrev pub turns_of_all : List ℕ
turns_of_all = eight 8 (eight 9 (eight 10 (eight 11 (eight 12 (eight 13 (eight 14 (eight 15 [])))))))

abbrev pub all_on : List ℕ → List Round
all_on [] = []
all_on (k ∷ l) = on k ∷ all_on l

abbrev pub LastIsSixtyFourth : Type 0
LastIsSixtyFourth = claims all_ask (pair_rounds (waiting ∷ all_on turns_of_all)) ≡ turns_of_all ++ 3 ∷ []

-- each premise is needed. Line 8 waits, and line 0 is raised in each round: line 8 would be the third at the latest, and in eight claims it isn't served
abbrev pub starves_eight : PicState → ℕ → Type 0
starves_eight p m = claims p (rounds_with 0xa0 m (often 8 (on 0 ∷ []))) ≡ often 8 (0 ∷ [])

-- lines 8 and 9 wait, and line 8 is raised again in each round: line 9 would be the eleventh claim at the latest, and in eleven it isn't served
abbrev pub starves_nine : PicState → ℕ → Type 0
starves_nine p s = claims p (rounds_with s 0xa0 (often 11 (on 8 ∷ []))) ≡ often 11 (8 ∷ [])

-- the same where other calls come between the claims
abbrev pub starves_eight_by : List Call → Type 0
starves_eight_by l = claims (pair 2 (full_at 4 0 0 false) (full_at 1 0 0 false)) (often 8 (call_claim_irq (line 0) ∷ l)) ≡ often 8 (0 ∷ [])

abbrev pub line_zero : PicInterruptClaim
line_zero = record { vector = record { 0 = 0 }; irq = record { 0 = 0 }; master_in_service = true; slave_in_service = false }

-- a run without each premise
pub record NeededOnPair : Type 0 where
  -- EOIs without rotation
  pub «master-eoi» : starves_eight (pair 2 (full_at 4 0 0 false) (full_at 1 0 0 false)) 0x20
  pub «slave-eoi» : starves_nine (pair 2 (full_at 4 0 0 false) (full_at 3 0 0 false)) 0x20
  -- other calls than a round's: a claim that is restored; line 7 made lowest after each EOI, by set priority and by a specific EOI with rotation
  pub restored : starves_eight_by (call_restore_interrupt line_zero ∷ [])
  pub «set-priority» : starves_eight_by (call_handle_write 0x20 1 0xa0 ∷ call_handle_write 0x20 1 0xc7 ∷ [])
  pub «specific-rotation» : starves_eight_by (call_handle_write 0x20 1 0xa0 ∷ call_handle_write 0x20 1 0xe7 ∷ [])
  -- line 2 of the master, when the slave's output falls: its line 0 waits, its lines 1 and 5 are in service, and the rotating EOI of line 1 puts line 0 below line 5. Line 8 would be
  -- the third claim at the latest
  pub output :
      claims (pair 2 (full_at 4 0 0 false) (full_at 1 0 0x22 false)) (call_claim_irq (line 0) ∷ call_handle_write 0xa0 1 0xa0 ∷ often 2 (call_handle_write 0x20 1 0xa0 ∷ call_claim_irq (line 0) ∷ []))
      ≡ often 3 (0 ∷ [])
  -- automatic EOI mode without rotation
  pub «master_turns» : starves_eight (pair 2 (full_at 4 0 0 true) (full_at 1 0 0 false)) 0xa0
  pub «slave_turns_lem» : starves_nine (pair 2 (full_at 4 0 0 false) (full_at 3 0 0 true)) 0xa0
  -- a chip that isn't of the full profile
  pub «master-plain» : starves_eight (pair 2 (at 4 0 0) (full_at 1 0 0 false)) 0xa0
  pub «slave-plain» : starves_nine (pair 2 (full_at 4 0 0 false) (at 3 0 0)) 0xa0
  -- the master's line 1 masked; its line 2; and the slave's line 1
  pub «master-masked» : claims (pair 2 (full_at 2 2 0 false) (full_at 0 0 0 false)) (pair_rounds (often 8 (on 0 ∷ []))) ≡ often 8 (0 ∷ [])
  pub «cascade-masked» : starves_eight (pair 2 (full_at 4 4 0 false) (full_at 1 0 0 false)) 0xa0
  pub «slave-masked» : starves_nine (pair 2 (full_at 4 0 0 false) (full_at 3 2 0 false)) 0xa0
  -- edges on a line that the pair hasn't claim nothing
  pub unknown : claims (pair 2 (full_at 4 0 0 false) (full_at 1 0 0 false)) (pair_rounds (often 3 (on 16 ∷ []))) ≡ []
  -- full chips by rule 0: the slave's request drives no line
  pub rule : claims (pair 0 (full_at 0 0 0 false) (full_at 1 0 0 false)) (pair_rounds (often 3 (waiting ∷ []))) ≡ []
  -- request 2 doesn't stand, though the slave asks: the first round claims nothing
  pub keeps : claims (pair 2 (full_at 0 0 0 false) (full_at 1 0 0 false)) (pair_rounds (waiting ∷ on 0 ∷ on 1 ∷ [])) ≡ 0 ∷ 1 ∷ []
  -- line 2 of the master was in service at the start: the third round claims nothing; or line 8 of the slave: its EOI makes it lowest, and line 9 comes before it
  pub «master-idle» : claims (pair 2 (full_at 4 0 4 false) (full_at 1 0 0 false)) (pair_rounds (on 0 ∷ on 1 ∷ waiting ∷ [])) ≡ 0 ∷ 1 ∷ []
  pub «slave-idle» : claims (pair 2 (full_at 0 0 0 false) (full_at 1 0 1 false)) (pair_rounds (on 0 ∷ on 9 ∷ on 3 ∷ [])) ≡ 0 ∷ 9 ∷ 3 ∷ []
  -- of the master's lines, line 2 itself: the slave's line is claimed in its place
  pub other : claims (pair 2 (full_at 4 0 0 false) (full_at 1 0 0 false)) (pair_rounds (often 8 (on 8 ∷ []))) ≡ often 8 (8 ∷ [])

-- ---- the cascade rule is kept

-- a pair of the full profile that keeps its rule: request 2 of the master stands exactly while a request of the slave counts, by the slave's priorities of now
pub record FullKeeps (p : PicState) : Type 0 where
  pub rule : p.rule ≡ 2
  pub master : p.master.full ≡ true
  pub slave : p.slave.full ≡ true
  pub keeps : bit p.master.request cascade_irq.0 ≡ asks p.slave

-- every call keeps it, and so do any calls on a new pair of rule 2
abbrev pub FullCallsKeep : Type 0
FullCallsKeep = (p : PicState) (c : Call) → FullKeeps p → FullKeeps (outcome p c).state

abbrev pub FullRunsKeep : Type 0
FullRunsKeep = (l : List Call) → FullKeeps (run (new_state Full) l)

-- ---- a claim is restored at once

-- p with the lowest lines of q
abbrev pub with_priorities : PicState → PicState → PicState
with_priorities p q = chips p (with_lowest p.master q.master.lowest_line) (with_lowest p.slave q.slave.lowest_line)

-- a restore doesn't turn priorities back: it leaves the former pair with the priorities that the claim left, and settled: by the cascade rule, the master's request 2 as these
-- priorities ask for it. Of any pair, of every rule
abbrev pub RestoredButPriorities : Type 0
RestoredButPriorities =
    (p : PicState) (c : PicInterruptClaim) → (claim_pending p).claim ≡ Some c
    → restore_interrupt (claim_pending p).state c ≡ record { state = settled (with_priorities p (claim_pending p).state); reply = reply.Nothing }

-- the same after a line was raised
abbrev pub RestoredAfterRaiseButPriorities : Type 0
RestoredAfterRaiseButPriorities =
    (p : PicState) (l : PicLine) (c : PicInterruptClaim) → (claim_irq p l).claim ≡ Some c
    → restore_interrupt (claim_irq p l).state c ≡ record { state = settled (with_priorities (latched p l) (claim_irq p l).state); reply = reply.Nothing }

-- and that request may go: the slave, in automatic EOI mode with rotation, has line 1 in service, and line 0 is claimed and restored: now line 0 is lowest, below line 1
abbrev pub slave_turns : Chip
slave_turns = full_chip 0 0 1 2 0 false true 7 true

abbrev pub turning : PicState
turning = record { rule = 2; master = full_at 4 0 0 false; slave = slave_turns; spare = 0 }

abbrev pub line_eight : PicInterruptClaim
line_eight = record { vector = record { 0 = 0 }; irq = record { 0 = 8 }; master_in_service = true; slave_in_service = false }

pub record RequestTwoLost : Type 0 where
  pub claim : (claim_pending turning).claim ≡ Some line_eight
  pub before : turning.master.request ≡ 4
  pub after : (restore_interrupt (claim_pending turning).state line_eight).state.master.request ≡ 0
  pub slave : (restore_interrupt (claim_pending turning).state line_eight).state.slave ≡ with_lowest slave_turns 0

-- ---- where line 7 is lowest, rule 2 answers as rule 1

-- the chip without the full profile's words, and the pair by rule 1
abbrev pub plain_chip : Chip → Chip
plain_chip c =
    plain_registers c.vector_base c.mask c.request c.in_service c.init_step c.needs_icw4 c.single c.auto_eoi c.read_isr c.spare

abbrev pub by_rule_one : PicState → PicState
by_rule_one p = record { rule = 1; master = plain_chip p.master; slave = plain_chip p.slave; spare = p.spare }

-- but for the master's request 2
abbrev pub but_two : PicState → PicState
but_two p = chips p (with_request p.master (without p.master.request cascade_irq.0)) p.slave

-- what a call answers and leaves by rule 2, x, and by rule 1, y: the same answer; and the same pair but for the full profile's words and the master's request 2, and that too where line 7
-- is the slave's lowest still and no mode is on there
pub record Alike (x y : Outcome PicState) : Type 0 where
  pub reply : x.reply ≡ y.reply
  pub state : but_two (by_rule_one x.state) ≡ but_two y.state
  pub exact : lowest_by x.state.slave ≡ 7 → is_ordinary x.state.slave ≡ true → by_rule_one x.state ≡ y.state

-- before the call line 7 is lowest on both chips, no mode of T-06 is on, and no poll waits
pub record Ordinary (p : PicState) : Type 0 where
  pub rule : p.rule ≡ 2
  pub master : lowest_by p.master ≡ 7
  pub slave : lowest_by p.slave ≡ 7
  pub «master-mode» : is_ordinary p.master ≡ true
  pub «slave-mode» : is_ordinary p.slave ≡ true
  pub «master-poll» : is_polled p.master ≡ false
  pub «slave-poll» : is_polled p.slave ≡ false

-- the bytes that profile 2 takes otherwise: ICW1, which clears the mask, and OCW3, which chooses modes and polls; and ICW4 with bit 4
abbrev pub chooses_mode : ℕ → Bool
chooses_mode v = bit v 4 || bit v 3

abbrev pub sets_nested : Chip → ℕ → Bool
sets_nested c v = eqb c.init_step 3 && bit v 4

abbrev pub writes_mode : PicState → Port → ℕ → Bool
writes_mode p master_command byte = chooses_mode byte
writes_mode p master_data byte = sets_nested p.master byte
writes_mode p slave_command byte = chooses_mode byte
writes_mode p slave_data byte = sets_nested p.slave byte
writes_mode p no_port byte = false

abbrev pub is_mode_call : PicState → Call → Bool
is_mode_call p (call_claim_irq l) = false
is_mode_call p claim_pending_interrupt = false
is_mode_call p (pulse_irq l) = false
is_mode_call p next_interrupt = false
is_mode_call p (call_restore_interrupt c) = false
is_mode_call p (call_handle_read port width) = false
is_mode_call p (call_handle_write port width value) = writes_mode p (port_at port) (value % 256)

abbrev pub AsCascade : Type 0
AsCascade = (p : PicState) (c : Call) → Ordinary p → is_mode_call p c ≡ false → Alike (outcome p c) (outcome (by_rule_one p) c)

-- and that request too after every call but a write to the slave's command port: no other call turns the slave's priorities so that another set of its requests counts
abbrev pub commands_slave : Call → Bool
commands_slave (call_claim_irq l) = false
commands_slave claim_pending_interrupt = false
commands_slave (pulse_irq l) = false
commands_slave next_interrupt = false
commands_slave (call_restore_interrupt c) = false
commands_slave (call_handle_read port width) = false
commands_slave (call_handle_write port width value) = eqb port 0xa0

abbrev pub AsCascadeExactly : Type 0
AsCascadeExactly =
    (p : PicState) (c : Call) → Ordinary p → is_mode_call p c ≡ false → commands_slave c ≡ false → by_rule_one (outcome p c).state ≡ (outcome (by_rule_one p) c).state

-- without each of the three bytes it is false. ICW1: the mask is shown, 0 and 255. OCW3: the register that is shown, the requests and what is in service. ICW4 with bit 4: line 2 is in
-- service, and the slave's line 1 is claimed through it, or not
abbrev pub shown_at : PicState → ℕ → List ℕ
shown_at p port = reply_values (handle_read p port 1).reply

abbrev pub before_icw4 : PicState
before_icw4 = pair 2 (placed true (full_chip 0 0 4 4 3 true false 7 false)) (full_at 2 0 0 false)

pub record ModesNeeded : Type 0 where
  pub «icw1-full» : shown_at (port_written (new_state Full) 0x20 0x10) 0x21 ≡ 0 ∷ []
  pub «icw1-cascade» : shown_at (port_written (new_state Cascade) 0x20 0x10) 0x21 ≡ 255 ∷ []
  pub «ocw3-full» : shown_at (port_written (pair 2 (full_at 2 0 1 false) (full_at 0 0 0 false)) 0x20 0x0a) 0x20 ≡ 2 ∷ []
  pub «ocw3-cascade» : shown_at (port_written (by_rule_one (pair 2 (full_at 2 0 1 false) (full_at 0 0 0 false))) 0x20 0x0a) 0x20 ≡ 1 ∷ []
  pub «icw4-full» : reply_values (claim_reply (claim_pending (port_written before_icw4 0x21 0x11)).claim) ≡ 1 ∷ 9 ∷ 2 ∷ []
  pub «icw4-cascade» : reply_values (claim_reply (claim_pending (port_written (by_rule_one before_icw4) 0x21 0x11)).claim) ≡ []

-- such a write may: the slave's line 1 is in service and its line 0 waits; set priority makes line 0 lowest, and by rule 2 it no longer asks
abbrev pub slave_asks : PicState
slave_asks = record { rule = 2; master = full_at 4 0 0 false; slave = full_at 1 0 2 false; spare = 0 }

abbrev pub RequestTwoTurned : Type 0
RequestTwoTurned = ((port_written slave_asks 0xa0 0xc0).master.request ≡ 0) × ((port_written (by_rule_one slave_asks) 0xa0 0xc0).master.request ≡ 4)

-- ---- where the full profile does other than the data sheet

-- a full chip by its registers, with nothing requested or in service: base, step of initialization, ICW4 announced, automatic EOI mode, rotation in it
abbrev pub full_with : ℕ → ℕ → Bool → Bool → Bool → Chip
full_with base step icw4 aeoi rot = full_chip base 0 0 0 step icw4 aeoi 7 rot

-- as in docs/DIFFERENCES.md, each at its smallest case by rule 2. D-01, D-05, D-06, D-07, D-08, D-10 and D-13 are gone
unfoldable pub full_departures : List Departure
full_departures =
    record { number = 2; computed = (commanded (full_at 0 0 1 false) 0x11).in_service ∷ []; ours = 0 ∷ []; text = 1 ∷ [] }
    ∷ record { number = 3; computed = flag (commanded (full_with 0 0 true true false) 0x11).auto_eoi ∷ []; ours = 0 ∷ []; text = 1 ∷ [] }
    ∷ record { number = 4; computed = (acknowledged (pulsed (fed (commanded (as_full (opened 0)) 0x1a) 0) (line 0)) 0).request ∷ []; ours = 0 ∷ []; text = 1 ∷ [] }
    ∷ record { number = 9; computed = claimed_vector (writes (writes (open' Full) 0x20 (0x11 ∷ [])) 0x21 (0x08 ∷ 0 ∷ 1 ∷ [])) 8; ours = 0x70 ∷ []; text = 0x0a ∷ [] }
    ∷ record {
      number = 11;
      computed = reply_values (chipAcknowledge (pulsed (fed (full_with 0x20 3 true false false) 0) (line 0)) (line 0)).reply;
      ours = 0x20 ∷ [];
      text = 0xcd ∷ [];
    }
    ∷ record { number = 12; computed = claimed_vector (writes (writes (open' Full) 0x20 (0x13 ∷ [])) 0x21 (0x08 ∷ 1 ∷ [])) 8; ours = 0x70 ∷ []; text = 0x0a ∷ [] }
    ∷ record { number = 14; computed = reply_values (pending_reply (pending_irq (full_at 0 0 0 false))); ours = []; text = 7 ∷ [] }
    ∷ record { number = 15; computed = (pulsed (full_at 0 0 0 false) (line 0)).request ∷ []; ours = 1 ∷ []; text = 0 ∷ [] }
    -- line 2 latches nothing, as by rule 1
    ∷ record { number = 16; computed = claimed_vector (open' Full) 2; ours = []; text = 0x77 ∷ [] }
    ∷ record { number = 17; computed = reply_values (chipAcknowledge (as_full (opened 0x0b)) (line 1)).reply; ours = 0x0c ∷ []; text = 0x09 ∷ [] }
    ∷ record { number = 18; computed = (port_written (pair 2 (full_at 4 0 0 false) (full_at 1 0 0 false)) 0x20 0x11).master.request ∷ []; ours = 4 ∷ []; text = 0 ∷ [] }
    ∷ record { number = 19; computed = claimed_vector (pair 2 (full_with 0x08 1 true false false) (full_at 0 0 0 false)) 0; ours = 0x08 ∷ []; text = [] }
    -- rotation in automatic EOI mode isn't among what ICW1 resets
    ∷ record { number = 20; computed = flag (commanded (full_with 0 0 true false true) 0x11).auto_rotation ∷ []; ours = 0 ∷ []; text = 1 ∷ [] }
    -- special fully nested mode, and an ICW1 that announces ICW4
    ∷ record { number = 21; computed = flag (commanded (with_nested (full_with 0 0 true false false) true) 0x11).nested ∷ []; ours = 0 ∷ []; text = 1 ∷ [] }
    -- a poll is given while line 3 waits, and line 1 asks before the read
    ∷ record { number = 22; computed = poll_shown (pulsed (commanded (full_at 8 0 0 false) 0x0c) (line 1)) ∷ []; ours = 0x81 ∷ []; text = 0x83 ∷ [] }
    ∷ []

abbrev pub FullDeparts : Type 0
FullDeparts = Shown full_departures

-- the other departures' cases: by rule 2 they give what the text gives
abbrev pub Cured : List Departure → Type 0
Cured [] = Unit
Cured (d ∷ ds) = (d.computed ≡ d.text) × Cured ds

unfoldable pub full_cured : List Departure
full_cured =
    record { number = 1; computed = (commanded (as_full (opened 0)) 0x11).mask ∷ []; ours = 255 ∷ []; text = 0 ∷ [] }
    ∷ record { number = 5; computed = command_read (commanded (full_at 2 0 1 false) 0x0a) ∷ []; ours = 1 ∷ []; text = 2 ∷ [] }
    ∷ record { number = 5; computed = command_read (commanded (with_read_isr (full_at 2 0 1 false) true) 0x08) ∷ []; ours = 2 ∷ []; text = 1 ∷ [] }
    ∷ record { number = 6; computed = pending_line (commanded (full_at 2 1 1 false) 0x68) ∷ []; ours = 8 ∷ []; text = 1 ∷ [] }
    ∷ record { number = 7; computed = shown_at (port_written (pair 2 (full_at 1 0 0 false) (full_at 0 0 0 false)) 0x20 0x0c) 0x20; ours = 1 ∷ []; text = 0x80 ∷ [] }
    ∷ record { number = 8; computed = pending_line (commanded (full_at 3 0 1 false) 0xa0) ∷ []; ours = 0 ∷ []; text = 1 ∷ [] }
    ∷ record { number = 8; computed = pending_line (commanded (full_at 3 0 0 false) 0xc0) ∷ []; ours = 0 ∷ []; text = 1 ∷ [] }
    ∷ record { number = 8; computed = pending_line (pulsed (acknowledged (commanded (full_at 3 0 0 true) 0x80) 0) (line 0)) ∷ []; ours = 0 ∷ []; text = 1 ∷ [] }
    ∷ record { number = 10; computed = pending_line (fed (placed true (with_step (full_at 4 0 4 false) 3)) 0x11) ∷ []; ours = 8 ∷ []; text = 2 ∷ [] }
    ∷ record { number = 13; computed = reply_values (claim_reply (claim_pending (seventh Full)).claim); ours = []; text = 0x76 ∷ 14 ∷ 3 ∷ [] }
    ∷ []

abbrev pub FullCured : Type 0
FullCured = Cured full_cured
