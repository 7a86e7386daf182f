-- A claim as one number, and what the functions below the public calls say of a claim and of a read. On its way a claim is the number that the boundary answers for it, 0 for none:
-- `Codes.claim_kept` says that nothing is lost.
use Rattle.vpic.specs.declared.PicInterruptClaim.{PicInterruptClaim}
use Rattle.types.specs.declared.Refusal.{Refusal}
use Rattle.std.specs.Prelude.{ℕ, ◌/◌, ◌%◌, ◌^◌, ◌+◌, Bool, cond, ◌≡◌, eqb, Option, Some, None, Result, Ok, Err}
use Rattle.utils.specs.Set.{bit}
use Rattle.types.specs.declared.PicLine.{PicLine}
use Rattle.types.specs.declared.PicPlace.{PicPlace}
use Rattle.types.specs.declared.PicPlace.TheVariants.{Master, Slave}
use Rattle.types.specs.declared.Refusal.TheVariants.{Unsupported}
use Rattle.types.specs.declared.Reply.TheVariants as reply
use Rattle.types.specs.Reply.{Outcome}
use Rattle.reply_code.specs.Lent.{reply_code}
use Rattle.vpic_chip.specs.Registers.{Chip}
use Rattle.vpic_chip.specs.Chip.{cascade_irq, acknowledged, read_shown}
use Rattle.vpic.specs.Words.{PicState, is_full}
use Rattle.vpic.specs.Pair.{StateClaim, state_claim, chips, nothing_claimed, master_claim, slave_claim, claim_reply, port_left, port_read, is_port, written_at, port_written, refused, value_reply}

-- the vector in bits 0 to 7, the line in 16 to 23, and the two flags in 32 and 33
abbrev pub claim_in : ℕ → Option PicInterruptClaim
claim_in n = cond (eqb n 0) None (Some (record {
  vector = record { 0 = n % 2 ^ 8 };
  irq = record { 0 = n / 2 ^ 16 % 2 ^ 8 };
  master_in_service = bit n 32;
  slave_in_service = bit n 33;
}))

-- the number of a claim: the code of its reply
abbrev pub claim_number : Option PicInterruptClaim → ℕ
claim_number c = reply_code (claim_reply c)

-- the pair after a claim, and the claim's number
pub record Numbered : Type 0 where
  pub state : PicState
  pub number : ℕ

abbrev pub numbered : PicState → ℕ → Numbered
numbered p n = record { state = p; number = n }

abbrev pub with_number : StateClaim → Numbered
with_number r = numbered r.state (claim_number r.claim)

-- a line of the master, or of the slave, is taken, and the pair isn't settled yet
abbrev pub master_taken : PicState → PicLine → StateClaim
master_taken p k = state_claim (chips p (acknowledged p.master k.0) p.slave) (master_claim p k).claim

abbrev pub slave_taken : PicState → PicLine → StateClaim
slave_taken p k = state_claim (chips p (acknowledged p.master cascade_irq.0) (acknowledged p.slave k.0)) (slave_claim p k).claim

abbrev pub taken_at : PicState → Option PicPlace → StateClaim
taken_at p (Some (Master k)) = master_taken p k
taken_at p (Some (Slave k)) = slave_claim p k
taken_at p None = nothing_claimed p

-- nothing is requested: a claim then takes nothing and leaves the pair as it is (`Laws.quiet`)
abbrev pub is_quiet : PicState → Bool
is_quiet p = eqb (p.master.request + p.slave.request) 0

-- a read of a chip's port that shows a register where no poll waits: the pair that it leaves, and what it shows
pub record ReadOf (c : Chip) (left q : PicState) (register shown : ℕ) : Type 0 where
  pub state : q ≡ left
  pub answer : shown ≡ read_shown c register

-- a read of a port, of one byte
abbrev pub port_outcome : PicState → ℕ → Outcome PicState
port_outcome p port = record { state = port_left p port; reply = value_reply (port_read p port) }

-- a write, before and after the pair is settled
abbrev pub write_outcome : PicState → ℕ → ℕ → Outcome PicState
write_outcome p port byte = cond (is_port port) (record { state = written_at p port byte; reply = reply.Nothing }) (refused p Unsupported)

abbrev pub settled_outcome : PicState → ℕ → ℕ → Outcome PicState
settled_outcome p port byte = cond (is_port port) (record { state = port_written p port byte; reply = reply.Nothing }) (refused p Unsupported)

-- what a read of a port, of one byte, shows where that is all that it does, and nothing elsewhere: a full pair's read may be a poll's, and a port that the pair hasn't is refused
abbrev pub byte_shown : Result ℕ Refusal → Option ℕ
byte_shown (Ok byte) = Some byte
byte_shown (Err why) = None

abbrev pub plain_shown : PicState → ℕ → Option ℕ
plain_shown p port = cond (is_full p.rule) None (byte_shown (port_read p port))
