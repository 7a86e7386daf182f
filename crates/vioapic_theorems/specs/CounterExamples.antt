-- What each of demand 3's premises is for: a run in which that premise alone fails, and in which the count is another than demand 3's.
-- On a new chip of version 0x11 at address 0, entries 0 and 1 are level entries of vector 0x30; entry 1 is the one that is counted.
use Rattle.std.specs.Prelude.{ℕ, ◌+◌, ◌-◌, Bool, true, false, ◌&&◌, List, [], ◌∷◌, ◌≡◌, refl, eqb}
use Rattle.utils.specs.Set.{with, without}
use Rattle.types.specs.declared.Vector.{Vector}
use Rattle.vioapic_entry.specs.Redirection.{send_entry, raise_entry, lower_entry, end_entry, write_low, write_high}
use Rattle.vioapic.specs.Table.{interrupt_for_entry, set_level, first_awaiting, end_of_entry, end_of}
use Rattle.vioapic.specs.Registers.{write_word, write_selected, write_at}
use Rattle.vioapic.specs.IoApic.{chip_of, assert_gsi, set_gsi_level, end_of_interrupt, handle_write}
use Rattle.vioapic.specs.Calls.{Call, outcome, next, run}
use Rattle.vioapic.specs.Departures.{raise, lower, assert, eoi, select, write}
use Rattle.vioapic.specs.State.{IoApicState}
use Rattle.vioapic_theorems.specs.Sends.{sent, sends, eois, count, lower_in_flight}
use Rattle.vioapic_theorems.specs.Premises.{all_below, throughout, demanded, held}

abbrev pub vector : Vector
vector = record { 0 = 0x30 }

-- the chip after both entries were written and some further calls
abbrev pub after : List Call → IoApicState
after cs = run (run (chip_of 0x11 0 0x1000) (select 0x10 ∷ write 0x8030 ∷ select 0x12 ∷ write 0x8030 ∷ [])) cs

-- two lists of answers, joined one by one
abbrev pub both : List Bool → List Bool → List Bool
both [] bs = bs
both (a ∷ l) [] = a ∷ l
both (a ∷ l) (b ∷ m) = (a && b) ∷ both l m

-- of each premise, whether it holds at every call of a run
unfoldable pub along : (IoApicState → Call → List Bool) → IoApicState → List Call → List Bool
along premises m [] = []
along premises m (c ∷ cs) = both (premises m c) (along premises (next m c) cs)

-- before line 1 is raised, and from then on; which premises hold; how often entry 1 is sent, and how often demand 3 would say
pub record CounterExample : Type 0 where
  pub before : List Call
  pub from : List Call
  pub demanded : List Bool
  pub held : List Bool
  pub sent : ℕ
  pub said : ℕ

-- each is as it says, and its two counts differ
abbrev pub Counters : List CounterExample → Type 0
Counters [] = Unit
Counters (x ∷ xs) =
    (
    (along (demanded vector 1) (next (after x.before) (raise 1)) x.from ≡ x.demanded)
    × (along (held vector 1) (next (after x.before) (raise 1)) x.from ≡ x.held)
    × (sends 1 (after x.before) (raise 1 ∷ x.from) ≡ x.sent)
    × (1 + (eois vector x.from - lower_in_flight vector 1 (after x.before)) ≡ x.said)
    × (eqb x.sent x.said ≡ false)
    )
    × Counters xs

abbrev pub counter_examples : List CounterExample
counter_examples =
    -- its line goes down
    record {
      before = [];
      from = lower 1 ∷ eoi 0x30 ∷ [];
      demanded = false ∷ true ∷ true ∷ true ∷ true ∷ true ∷ [];
      held = false ∷ true ∷ true ∷ true ∷ true ∷ [];
      sent = 1;
      said = 2;
    }
    -- its low word is changed
    ∷ record {
      before = [];
      from = write 0x8031 ∷ eoi 0x30 ∷ [];
      demanded = true ∷ false ∷ true ∷ true ∷ true ∷ true ∷ [];
      held = true ∷ false ∷ true ∷ true ∷ true ∷ [];
      sent = 1;
      said = 2;
    }
    -- a lower entry in flight has its line up
    ∷ record {
      before = raise 0 ∷ [];
      from = eoi 0x30 ∷ eoi 0x30 ∷ [];
      demanded = true ∷ true ∷ false ∷ true ∷ true ∷ true ∷ [];
      held = true ∷ true ∷ false ∷ true ∷ true ∷ [];
      sent = 1;
      said = 2;
    }
    -- a lower entry in flight is deferred
    ∷ record {
      before = assert 0 ∷ assert 0 ∷ [];
      from = eoi 0x30 ∷ eoi 0x30 ∷ [];
      demanded = true ∷ true ∷ true ∷ false ∷ true ∷ true ∷ [];
      held = true ∷ true ∷ false ∷ true ∷ true ∷ [];
      sent = 1;
      said = 2;
    }
    -- a lower entry in flight has its low word changed
    ∷ record {
      before = assert 0 ∷ [];
      from = select 0x10 ∷ write 0x8031 ∷ eoi 0x30 ∷ [];
      demanded = true ∷ true ∷ true ∷ true ∷ false ∷ true ∷ [];
      held = true ∷ true ∷ true ∷ false ∷ true ∷ [];
      sent = 2;
      said = 1;
    }
    -- a lower level entry of the vector is asserted
    ∷ record {
      before = [];
      from = assert 0 ∷ eoi 0x30 ∷ [];
      demanded = true ∷ true ∷ true ∷ true ∷ true ∷ false ∷ [];
      held = true ∷ true ∷ true ∷ true ∷ false ∷ [];
      sent = 1;
      said = 2;
    }
    -- a lower level entry of the vector is raised, and lowered again before the EOI: of the premises in the demand's words it is the lower line's that fails
    ∷ record {
      before = [];
      from = raise 0 ∷ lower 0 ∷ eoi 0x30 ∷ [];
      demanded = true ∷ true ∷ false ∷ true ∷ true ∷ true ∷ [];
      held = true ∷ true ∷ true ∷ true ∷ false ∷ [];
      sent = 1;
      said = 2;
    }
    ∷ []

pub counter_examples_lem : Counters counter_examples
unfolding along run outcome with without sends sent eois count all_below assert_gsi set_gsi_level end_of_interrupt handle_write interrupt_for_entry set_level first_awaiting end_of_entry end_of write_word write_selected write_at send_entry raise_entry lower_entry end_entry write_low write_high
counter_examples_lem = ((refl, refl, refl, refl, refl), ((refl, refl, refl, refl, refl), ((refl, refl, refl, refl, refl), ((refl, refl, refl, refl, refl), ((refl, refl, refl, refl, refl), ((refl, refl, refl, refl, refl), ((refl, refl, refl, refl, refl), tt)))))))

-- and the premises can all be met: entry 0 is in flight once, so of three EOIs the first goes to it, and entry 1 is sent 1 + (3 - 1) times
pub premises_met :
    (throughout (demanded vector 1) (next (after (assert 0 ∷ [])) (raise 1)) (eoi 0x30 ∷ eoi 0x30 ∷ eoi 0x30 ∷ []) ≡ true)
    × (sends 1 (after (assert 0 ∷ [])) (raise 1 ∷ eoi 0x30 ∷ eoi 0x30 ∷ eoi 0x30 ∷ []) ≡ 3)
unfolding along run outcome with without sends sent eois count all_below assert_gsi set_gsi_level end_of_interrupt handle_write interrupt_for_entry set_level first_awaiting end_of_entry end_of write_word write_selected write_at send_entry raise_entry lower_entry end_entry write_low write_high throughout
premises_met = (refl, refl)
