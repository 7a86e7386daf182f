-- Theorems about the pair that belong to no one call: a refusal changes nothing, a claim can be taken back, and the highest request is served; what a claim's flags say.
use Rattle.std.specs.Prelude.{ℕ, ◌-◌, ◌/◌, ◌^◌, ◌<◌, ◌≤◌, ◌≡◌, Bool, true, false, not, cond, ◌&&◌, eqb, List, get_or, length, Some, None}
use Rattle.types.specs.declared.PicLine.{PicLine}
use Rattle.types.specs.declared.Reply.TheVariants as reply
use Rattle.types.specs.Reply.{Outcome, reply_number}
use Rattle.vpic_chip.specs.Registers.{Chip}
use Rattle.vpic.specs.Words.{PicState, is_full, view}
use Rattle.vpic.specs.declared.PicRule.TheVariants.{Latch}
use Rattle.vpic.specs.declared.PicInterruptClaim.{PicInterruptClaim}
use Rattle.utils.specs.Set.{bit}
use Rattle.vpic_chip.specs.Chip.{is_nested, counts, Highest, cascade_irq, acknowledged}
use Rattle.vpic.specs.Pair.{chips, settled, Keeps, claim_pending, claim_irq, latched, restore_interrupt, with_claim, with_vector, handle_read, handle_write}
use Rattle.vpic.specs.Departures.{seventh}

-- every public call of the pair, with any arguments
pub data Call : Type 0 where
  call_claim_irq : PicLine → Call
  claim_pending_interrupt : Call
  pulse_irq : PicLine → Call
  next_interrupt : Call
  call_restore_interrupt : PicInterruptClaim → Call
  call_handle_read : ℕ → ℕ → Call  -- port, width
  call_handle_write : ℕ → ℕ → ℕ → Call  -- port, width, value

-- what the call leaves: what its promise says
unfoldable pub outcome : PicState → Call → Outcome PicState
outcome p (call_claim_irq l) = with_claim (claim_irq p l)
outcome p claim_pending_interrupt = with_claim (claim_pending p)
outcome p (pulse_irq l) = with_vector (claim_irq p l)
outcome p next_interrupt = with_vector (claim_pending p)
outcome p (call_restore_interrupt c) = restore_interrupt p c
outcome p (call_handle_read port width) = handle_read p port width
outcome p (call_handle_write port width value) = handle_write p port width value

-- a refused call hands back the pair that it was given
abbrev pub RefusedUnchanged : Type 0
RefusedUnchanged = (p : PicState) (c : Call) → (reply_number (outcome p c).reply ≡ 0 → ⊥) → (outcome p c).state ≡ p

-- over lent words: l before the call, and m what it leaves. A refused call leaves every word as it was
abbrev pub RefusedKeepsWords : Type 0
RefusedKeepsWords =
    (l m : List ℕ) (c : Call) → length l ≡ 4 → length m ≡ 4 → view m ≡ (outcome (view l) c).state → (reply_number (outcome (view l) c).reply ≡ 0 → ⊥) → m ≡ l

-- the first bit of a chip's word that stands for nothing: 44, and by rule 2, where the full profile's registers come before, 51
abbrev pub spare_from : ℕ → ℕ
spare_from rule = cond (eqb rule 2) 51 44

-- every call keeps what stands for nothing, the bits of a chip's word from there up and the last word, and the rule's word as it was
pub record Kept (l m : List ℕ) : Type 0 where
  pub master : get_or m 0 0 / 2 ^ spare_from (get_or l 2 0) ≡ get_or l 0 0 / 2 ^ spare_from (get_or l 2 0)
  pub slave : get_or m 1 0 / 2 ^ spare_from (get_or l 2 0) ≡ get_or l 1 0 / 2 ^ spare_from (get_or l 2 0)
  pub rule : get_or m 2 0 ≡ get_or l 2 0
  pub last : get_or m 3 0 ≡ get_or l 3 0

abbrev pub CallsKeepRest : Type 0
CallsKeepRest = (l m : List ℕ) (c : Call) → view m ≡ (outcome (view l) c).state → Kept l m

-- a chip whose acknowledgements turn no priorities: every chip but one of the full profile with rotation in automatic EOI mode
abbrev pub Steady : Chip → Type 0
Steady c = (c.full && (c.auto_eoi && c.auto_rotation)) ≡ false

abbrev pub BothSteady : PicState → Type 0
BothSteady p = Steady p.master × Steady p.slave

-- so are both chips of a pair by rules 0 and 1: in any words, only rule 2's pair has full chips, and a chip that isn't full turns no priorities
abbrev pub BothPlain : PicState → Type 0
BothPlain p = (p.master.full ≡ false) × (p.slave.full ≡ false)

abbrev pub PlainWords : Type 0
PlainWords = (l : List ℕ) → is_full (view l).rule ≡ false → BothPlain (view l)

abbrev pub PlainSteady : Type 0
PlainSteady = (p : PicState) → BothPlain p → BothSteady p

-- a claim that is restored at once gives the pair back as it was, if the pair kept its rule and the claim turned no priorities
abbrev pub RestoredAtOnce : Type 0
RestoredAtOnce =
    (p : PicState) (c : PicInterruptClaim) → Keeps p → BothSteady p → (claim_pending p).claim ≡ Some c
    → restore_interrupt (claim_pending p).state c ≡ record { state = p; reply = reply.Nothing }

-- the same after a line was raised: the pair as it was, with that line latched; a pair with a line latched keeps its rule, whatever it was
abbrev pub RestoredAfterRaise : Type 0
RestoredAfterRaise =
    (p : PicState) (l : PicLine) (c : PicInterruptClaim) → BothSteady p → (claim_irq p l).claim ≡ Some c
    → restore_interrupt (claim_irq p l).state c ≡ record { state = latched p l; reply = reply.Nothing }

-- so by rules 0 and 1 nothing is asked of the modes: a plain pair that kept its rule is as it was, and after a line was raised any plain pair is, with that line latched
abbrev pub PlainRestoredAtOnce : Type 0
PlainRestoredAtOnce =
    (p : PicState) (c : PicInterruptClaim) → BothPlain p → Keeps p → (claim_pending p).claim ≡ Some c → restore_interrupt (claim_pending p).state c ≡ record { state = p; reply = reply.Nothing }

abbrev pub PlainRestoredAfterRaise : Type 0
PlainRestoredAfterRaise =
    (p : PicState) (l : PicLine) (c : PicInterruptClaim) → BothPlain p → (claim_irq p l).claim ≡ Some c → restore_interrupt (claim_irq p l).state c ≡ record { state = latched p l; reply = reply.Nothing }

-- the highest of the chip's requests that count was acknowledged, line k
pub record Served (before after : Chip) (k : ℕ) : Type 0 where
  pub highest : Highest before k
  pub done : after ≡ acknowledged before k

-- a claim of line k below 8 served the master's line; from 8 up it served the master's line 2 and the slave's line k - 8. The pair was settled then
pub record ServedBy (p q : PicState) (k : ℕ) : Type 0 where
  pub m : Chip
  pub s : Chip
  pub settles : q ≡ settled (chips p m s)
  pub master : k < 8 → Served p.master m k
  pub alone : k < 8 → s ≡ p.slave
  pub cascade : 8 ≤ k → Served p.master m cascade_irq.0
  pub slave : 8 ≤ k → Served p.slave s (k - 8)

abbrev pub HighestServed : Type 0
HighestServed = (p : PicState) (c : PicInterruptClaim) → (claim_pending p).claim ≡ Some c → ServedBy p (claim_pending p).state c.irq.0

-- over the pair the like is false by rule 0 (D-13): at the end of example 7 nothing is in service, the slave's line 6 is requested and counts, and nothing is claimed
abbrev pub SecondCallerUnheard : Type 0
SecondCallerUnheard = (counts (seventh Latch).slave 6 ≡ true) × ((claim_pending (seventh Latch)).claim ≡ None) × ((seventh Latch).master.in_service ≡ 0)

-- a claim's flags name the in-service bits that it set: the line of each chip that answered for it, where that wasn't in service already, nor the chip in automatic EOI mode;
-- the slave answers from line 8 up alone, through the master's line 2
abbrev pub sets : Chip → ℕ → Bool
sets c k = not c.auto_eoi && not (bit c.in_service k)

pub record Flagged (p : PicState) (c : PicInterruptClaim) : Type 0 where
  pub master : c.irq.0 < 8 → c.master_in_service ≡ sets p.master c.irq.0
  pub cascade : 8 ≤ c.irq.0 → c.master_in_service ≡ sets p.master cascade_irq.0
  pub slave : 8 ≤ c.irq.0 → c.slave_in_service ≡ sets p.slave (c.irq.0 - 8)
  pub alone : c.irq.0 < 8 → c.slave_in_service ≡ false

-- of any pair, of every rule: where what waits is claimed, and where a line is raised
abbrev pub FlagsSay : Type 0
FlagsSay = (p : PicState) (c : PicInterruptClaim) → (claim_pending p).claim ≡ Some c → Flagged p c

abbrev pub FlagsSayAfterRaise : Type 0
FlagsSayAfterRaise = (p : PicState) (l : PicLine) (c : PicInterruptClaim) → (claim_irq p l).claim ≡ Some c → Flagged p c

-- only in special fully nested mode can a line be claimed that is in service, and that is the master's line 2: outside it the flags say no more than the modes, as before T-06
pub record FlaggedByMode (p : PicState) (c : PicInterruptClaim) : Type 0 where
  pub master : is_nested p.master ≡ false → c.master_in_service ≡ not p.master.auto_eoi
  pub slave : is_nested p.slave ≡ false → 8 ≤ c.irq.0 → c.slave_in_service ≡ not p.slave.auto_eoi

abbrev pub FlagsByMode : Type 0
FlagsByMode = (p : PicState) (c : PicInterruptClaim) → (claim_pending p).claim ≡ Some c → FlaggedByMode p c
