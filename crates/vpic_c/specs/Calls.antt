-- Each call of the pair over lent words is the core's call on the pair that they stand for (`Rattle.vpic.specs.Words`), its reply as a code.
-- The pair's view takes in every bit of the four words, so that an equation of what is shown is one of the words too.
use Rattle.std.specs.Prelude.{ℕ, ◌/◌, ◌%◌, ◌^◌, Bool, cond, ◌&&◌, List, ◌≡◌, ltb, eqb, set, length}
use Rattle.utils.specs.Set.{bit}
use Rattle.types.specs.declared.PicLine.{PicLine}
use Rattle.types.specs.declared.Refusal.TheVariants.{Unsupported, OutOfRange}
use Rattle.types.specs.declared.Reply.TheVariants.{Nothing}
use Rattle.types.specs.Reply.{Outcome, reply_number}
use Rattle.reply_code.specs.Lent.{Lent, reply_code, lent}
use Rattle.vpic.specs.declared.PicRule.{PicRule}
use Rattle.vpic.specs.declared.PicInterruptClaim.{PicInterruptClaim}
use Rattle.vpic.specs.Words.{PicState, view}
use Rattle.vpic.specs.Pair.{rule_in, is_rule, new_state, port_ranges, refused, restore_interrupt}

-- the pair that the words stand for after a call, and the call's code
pub record Coded : Type 0 where
  pub state : PicState
  pub code : ℕ

abbrev pub shown : PicState → ℕ → Coded
shown p c = record { state = p; code = c }

abbrev pub coded : Outcome PicState → Coded
coded o = record { state = o.state; code = reply_code o.reply }

-- a new pair of a rule
abbrev pub made : PicRule → Outcome PicState
made rule = record { state = new_state rule; reply = Nothing }

-- by the rule's number, in the place of p: for a number that no rule has nothing is created. This refusal is the boundary's own
abbrev pub new_rule : PicState → ℕ → Outcome PicState
new_rule p n = cond (is_rule n) (made (rule_in n)) (refused p Unsupported)

-- and every word is left as it was: l before the call, m after it
abbrev pub RefusedNewKeepsWords : Type 0
RefusedNewKeepsWords =
    (l m : List ℕ) (n : ℕ) → length l ≡ 4 → length m ≡ 4 → view m ≡ (new_rule (view l) n).state → (reply_number (new_rule (view l) n).reply ≡ 0 → ⊥) → m ≡ l

-- the first and the last port of each chip
abbrev pub range_words : List ℕ → Lent
range_words l =
    lent (set (set (set (set l 0 port_ranges.master.start) 1 port_ranges.master.end) 2 port_ranges.slave.start) 3 port_ranges.slave.end) (reply_code Nothing)

abbrev pub line : ℕ → PicLine
line k = record { 0 = k }

-- any number from 16 up is taken for line 16, which the pair hasn't
abbrev pub line_of : ℕ → PicLine
line_of irq = cond (ltb irq 16) (line irq) (line 16)

-- the claim of these three values
abbrev pub claim_with : ℕ → ℕ → ℕ → PicInterruptClaim
claim_with vector irq flags = record {
  vector = record { 0 = vector };
  irq = line irq;
  master_in_service = eqb (flags % 2) 1;
  slave_in_service = eqb (flags / 2) 1;
}

-- a number that a claim answers: of three values, in their ranges
abbrev pub is_claim : ℕ → Bool
is_claim c = eqb (c / 2 ^ 48) 3 && (ltb (c % 2 ^ 16) 256 && (ltb (c / 2 ^ 16 % 2 ^ 16) 16 && ltb (c / 2 ^ 32 % 2 ^ 16) 4))

-- how it is taken apart: any other number is taken for a claim of line 16
abbrev pub claimed_line : ℕ → PicLine
claimed_line c = cond (is_claim c) (line (c / 2 ^ 16 % 2 ^ 4)) (line 16)

abbrev pub claim_of : ℕ → PicInterruptClaim
claim_of c = record { vector = record { 0 = c % 2 ^ 8 }; irq = claimed_line c; master_in_service = bit c 32; slave_in_service = bit c 33 }

-- restore_interrupt takes the code that a claim answered, and no other number
abbrev pub restore_code : PicState → ℕ → Outcome PicState
restore_code p c = cond (is_claim c) (restore_interrupt p (claim_with (c % 2 ^ 16) (c / 2 ^ 16 % 2 ^ 16) (c / 2 ^ 32 % 2 ^ 16))) (refused p OutOfRange)
