-- What a state that keeps the rules writes is read back. Assumes nothing.
use mathlib.Core.Path.{◌≡◌, refl, sym, ◌∙◌, ap, subst}
use mathlib.Core.Bool.{Bool, true, false, not, cond, ◌&&◌, ◌||◌}
use mathlib.Core.List.{List, [], ◌∷◌}
use Prim.Native.Nat.{ℕ, zero, suc, ◌+◌, ◌-◌, ◌%◌, ◌^◌, ◌<◌, ◌≤◌}
use native.Mathlib.Omega.{arith}
use native.Mathlib.Nat.{mod-eq_of_lt}
use lib.Dec.{eqb, ltb}
use lib.ListN.{get_or, drop}
use lib.Seq.{get_or-take, get_or-drop}
use borrow.Author.Tests.{lt-ltb, le-ltb, ltb-true, eqb-true, ne_eqb}
use Rattle.utils.specs.Cases.{and_yes}
use Rattle.utils.specs.Set.{bit}
use Rattle.utils.proofs.Laws.{bit_cut}
use Rattle.types.specs.Reply.{flag, Outcome, outcome_of}
use Rattle.types.specs.declared.Reply.TheVariants.{Nothing}
use Rattle.vioapic.specs.State.{entry_in, entries_from}
use Rattle.vioapic.specs.State as io-words
use Rattle.vioapic.specs.IoApic.{is_version, version_number, version_of}
use Rattle.vioapic.specs.declared.IoApicVersion.{IoApicVersion}
use Rattle.vioapic.specs.declared.IoApicVersion.TheVariants.{V11, V20}
use Rattle.vlapic_words.specs.Words.{word}
use Rattle.vlapic_words.specs.Words as apic-words
use Rattle.vpic_chip.specs.Registers.{chip_in, full_in, placed}
use Rattle.vpic.specs.Words.{chip_by}
use Rattle.vpic.specs.Words as pair-words
use Rattle.vpic.specs.declared.PicRule.{PicRule}
use Rattle.vpic.specs.declared.PicRule.TheVariants.{Latch, Cascade, Full}
use Rattle.vpic.specs.Pair.{is_rule, rule_number, rule_in}
use Rattle.board.specs.Board.{board_in}
use Rattle.image_format.specs.Reading.{is_read}
use Rattle.image_theorems.proofs.Exact.{written_is_read}
use Rattle.image_rules.specs.Rules.{ioapic_keeps, apic_keeps, keeps_pair}
use Rattle.image.specs.Words.{chip_word, word_at, listed, gathered}
use Rattle.image.specs.Restore.{Chips, io_of, apic_of, pair_of, chips_of, row_keeps, row_in, put_back, restored}
use Rattle.image_state_theorems.specs.Rules.{ApicRules, StateRules}
use Rattle.image_state_theorems.specs.States.{state_in, image_in, Words, ReadBack}
use Rattle.image_state_theorems.proofs.Laws.{io_kept}
use Rattle.image_state_theorems.proofs.ApicLaws.{apic_kept}
use Rattle.image_state_theorems.proofs.PairLaws.{pair_kept}
use Rattle.image_state_theorems.proofs.Row.{cut_to, cut, row_of_lem, row_at, word_io, word_apic}

-- ---- words that stand for the same state

entries_same : (a b : List ℕ) (i n : ℕ) → ((g : ℕ) → i ≤ g → g < i + n → entry_in a g ≡ entry_in b g) → entries_from a i n ≡ entries_from b i n
unfolding entries_from
entries_same a b i zero h = refl
entries_same a b i (suc n) h = let q : entries_from a (suc i) n ≡ entries_from b (suc i) n = entries_same a b (suc i) n (λ g k l. h g (omega arith) (omega arith)) in λ j. h i (omega arith) (omega arith) j ∷ q j

pub record SameIo (a b : List ℕ) : Type 0 where
  pub entries : (g : ℕ) → g < 24 → get_or a g 0 ≡ get_or b g 0
  pub deferred : get_or a 24 0 % 2 ^ 24 ≡ get_or b 24 0 % 2 ^ 24
  pub lines : get_or a 25 0 % 2 ^ 24 ≡ get_or b 25 0 % 2 ^ 24
  pub selector : get_or a 26 0 % 2 ^ 32 ≡ get_or b 26 0 % 2 ^ 32
  pub base : get_or a 27 0 ≡ get_or b 27 0
  pub size : get_or a 28 0 ≡ get_or b 28 0
  pub version : get_or a 29 0 ≡ get_or b 29 0
  pub flight : get_or a 30 0 % 2 ^ 24 ≡ get_or b 30 0 % 2 ^ 24

flag_same : (x y g : ℕ) → g < 24 → x % 2 ^ 24 ≡ y % 2 ^ 24 → bit x g ≡ bit y g
flag_same x y g h e = sym (bit_cut x 24 g h) ∙ ap (λ (n : ℕ). bit n g) e ∙ bit_cut y 24 g h

io_view : (a b : List ℕ) → SameIo a b → io-words.view a ≡ io-words.view b
unfolding io-words.view
io_view a b s =
    let q : entries_from a 0 24 ≡ entries_from b 0 24 = entries_same a b 0 24 (λ g k l.
    λ j. record { word = s.entries g l j; pending_level = flag_same (get_or a 24 0) (get_or b 24 0) g l s.deferred j; input_level = flag_same (get_or a 25 0) (get_or b 25 0) g l s.lines j }) in
    λ j. record { base = s.base j; size = s.size j; version = s.version j; selector = s.selector j; in_flight = s.flight j; entries = q j }

module _ (a b : List ℕ) (m : not (eqb (get_or a 0 0) 0) ≡ not (eqb (get_or b 0 0) 0)) (h : (k : ℕ) → k < 41 → word a (suc k) ≡ word b (suc k)) where
  w : (k : ℕ) → ltb k 41 ≡ true → word a (suc k) ≡ word b (suc k)
  w k e = h k (ltb-true k 41 e)

  apic_view : apic-words.view a ≡ apic-words.view b
  unfolding apic-words.view
  apic_view = λ j. record {
    x2apic = m j;
    vapic_id = w 0 refl j;
    tpr = w 1 refl j;
    ppr = w 2 refl j;
    ldr = w 3 refl j;
    dfr = w 4 refl j;
    svr = w 5 refl j;
    esr = w 6 refl j;
    esr_pending = w 7 refl j;
    icr_lo = w 8 refl j;
    icr_hi = w 9 refl j;
    lvt_cmci = w 10 refl j;
    lvt_timer = w 11 refl j;
    lvt_thermal = w 12 refl j;
    lvt_pmi = w 13 refl j;
    lvt_lint0 = w 14 refl j;
    lvt_lint1 = w 15 refl j;
    lvt_error = w 16 refl j;
    isr = w 17 refl j ∷ w 18 refl j ∷ w 19 refl j ∷ w 20 refl j ∷ w 21 refl j ∷ w 22 refl j ∷ w 23 refl j ∷ w 24 refl j ∷ [];
    tmr = w 25 refl j ∷ w 26 refl j ∷ w 27 refl j ∷ w 28 refl j ∷ w 29 refl j ∷ w 30 refl j ∷ w 31 refl j ∷ w 32 refl j ∷ [];
    irr = w 33 refl j ∷ w 34 refl j ∷ w 35 refl j ∷ w 36 refl j ∷ w 37 refl j ∷ w 38 refl j ∷ w 39 refl j ∷ w 40 refl j ∷ [];
  }

-- ---- spelled as they stand

pub version_is : (n : ℕ) → is_version n ≡ true → version_number (version_of n) ≡ n
version_is n h = go (eqb n 0x20) refl
  where
    go : (b : Bool) → eqb n 0x20 ≡ b → version_number (version_of n) ≡ n
    go true e = let q : n ≡ 0x20 = eqb-true n 0x20 e in rw q
    go false e = let q : n ≡ 0x11 = eqb-true n 0x11 (first (eqb n 0x11) (eqb n 0x20) h e) in rw q
      where
        first : (a b : Bool) → (a || b) ≡ true → b ≡ false → a ≡ true
        first true b x y = refl
        first false b x y = sym y ∙ x

pub rule_is : (n : ℕ) → is_rule n ≡ true → rule_number (rule_in n) ≡ n
rule_is zero h = refl
rule_is (suc zero) h = refl
rule_is (suc (suc zero)) h = refl
rule_is (suc (suc (suc n))) h = let l = ltb-true (suc (suc (suc n))) 3 h in absurd (omega (arith, l))

pub chip_is : (place : Bool) (rule x : ℕ) → (chip_by place rule x).spare ≡ 0 → chip_word rule x ≡ x
unfolding chip_in
chip_is place rule x = go (eqb rule 2)
  where
    go : (b : Bool) → (cond b (placed place (full_in x)) (chip_in x)).spare ≡ 0 → cond b (x % 2 ^ 51) (x % 2 ^ 44) ≡ x
    go true e = omega arith
    go false e = omega arith

version_cut : (n : ℕ) → is_version n ≡ true → version_number (version_of n) % 2 ^ 8 ≡ n
version_cut n h = byte (version_of n) ∙ version_is n h
  where
    byte : (v : IoApicVersion) → version_number v % 2 ^ 8 ≡ version_number v
    byte V11 = refl
    byte V20 = refl

rule_cut : (n : ℕ) → is_rule n ≡ true → rule_number (rule_in n) % 2 ^ 8 ≡ n
rule_cut n h = byte (rule_in n) ∙ rule_is n h
  where
    byte : (v : PicRule) → rule_number v % 2 ^ 8 ≡ rule_number v
    byte Latch = refl
    byte Cascade = refl
    byte Full = refl

chip_cut : (place : Bool) (rule x : ℕ) → (chip_by place rule x).spare ≡ 0 → chip_word rule x % 2 ^ 64 ≡ x
unfolding chip_in
chip_cut place rule x = go (eqb rule 2)
  where
    go : (b : Bool) → (cond b (placed place (full_in x)) (chip_in x)).spare ≡ 0 → cond b (x % 2 ^ 51) (x % 2 ^ 44) % 2 ^ 64 ≡ x
    go true e = omega arith
    go false e = omega arith

mode_back : (b : Bool) → not (eqb (flag b % 2 ^ 8) 0) ≡ b
mode_back true = refl
mode_back false = refl

mode_small : (b : Bool) → ltb (flag b % 2 ^ 8) 2 ≡ true
mode_small true = refl
mode_small false = refl

cut_register : (k x : ℕ) → 32 < k → k < 74 → cut_to k x ≡ x % 2 ^ 32
cut_register k x a b =
    rw (le-ltb k 24 (omega arith), le-ltb k 26 (omega arith), ne_eqb k 26 (λ e. omega arith), ne_eqb k 27 (λ e. omega arith), ne_eqb k 28 (λ e. omega arith), ne_eqb k 29 (λ e. omega arith), ne_eqb k 30 (λ e. omega arith), ne_eqb k 31 (λ e. omega arith), ne_eqb k 32 (λ e. omega arith), lt-ltb k 74 b)

pair_view : (a b : List ℕ) → get_or a 0 0 ≡ get_or b 0 0 → get_or a 1 0 ≡ get_or b 1 0 → get_or a 2 0 ≡ get_or b 2 0 → get_or a 3 0 ≡ get_or b 3 0 → pair-words.view a ≡ pair-words.view b
unfolding pair-words.view
pair_view a b p q r s = λ j. record { rule = r j; master = chip_by true (r j) (p j); slave = chip_by false (r j) (q j); spare = s j }

-- ---- the round trip

-- a row that was read and keeps the rules is the state
pub took : (s : List ℕ) (before : Chips) → is_read s ≡ true → row_keeps (row_in s) ≡ true → restored s before ≡ outcome_of (chips_of (row_in s)) Nothing
unfolding restored put_back
took s before a b = rw (a, b)

module _ (c : Chips) (fit : Words c) (r : StateRules (state_in c)) where
  row : List ℕ
  row = cut (gathered c.io c.apic c.pair)

  io_back : SameIo (io_of row) c.io
  unfolding row cut gathered listed word_at state_in board_in io-words.view
  io_back = record {
    entries = λ g h. get_or-take 32 row g 0 (omega arith) ∙ row_at c.io c.apic c.pair g (omega arith) ∙ rw (lt-ltb g 24 h, word_io c.io c.apic c.pair g (omega arith) (λ e. omega arith)) (mod-eq_of_lt (fit g h));
    deferred = omega arith;
    lines = omega arith;
    selector = omega arith;
    base = sym r.base;
    size = sym r.size;
    version = version_cut (get_or c.io 29 0) r.ioapic.version;
    flight = omega arith;
  }

  io_is : io-words.view (io_of row) ≡ io-words.view c.io
  io_is = io_view (io_of row) c.io io_back

  mode_is : not (eqb (get_or (apic_of row) 0 0) 0) ≡ not (eqb (get_or c.apic 0 0) 0)
  unfolding row cut gathered listed word_at
  mode_is = mode_back (not (eqb (get_or c.apic 0 0) 0))

  register_is : (k : ℕ) → k < 41 → word (apic_of row) (suc k) ≡ word c.apic (suc k)
  unfolding row
  register_is k h =
      let a : get_or (apic_of row) (suc k) 0 ≡ get_or row (32 + suc k) 0 = get_or-take 48 (drop 32 row) (suc k) 0 (omega arith) ∙ get_or-drop 32 row (suc k) 0 in
      let b : get_or row (32 + suc k) 0 ≡ word_at c.io c.apic c.pair (32 + suc k) % 2 ^ 32 = row_at c.io c.apic c.pair (32 + suc k) (omega arith) ∙ cut_register (32 + suc k) _ (omega arith) (omega arith) in
      let d : word_at c.io c.apic c.pair (32 + suc k) ≡ get_or c.apic (32 + suc k - 32) 0 = word_apic c.io c.apic c.pair (32 + suc k) (omega arith) (omega arith) in
      let n : 32 + suc k - 32 ≡ suc k = omega arith in
      let e : get_or (apic_of row) (suc k) 0 ≡ get_or c.apic (suc k) 0 % 2 ^ 32 = a ∙ b ∙ ap (λ (x : ℕ). x % 2 ^ 32) (rw n at d) in
      ap (λ (x : ℕ). x % 2 ^ 32) e ∙ (let z : get_or c.apic (suc k) 0 % 2 ^ 32 % 2 ^ 32 ≡ get_or c.apic (suc k) 0 % 2 ^ 32 = omega arith in z)

  apic_is : apic-words.view (apic_of row) ≡ apic-words.view c.apic
  apic_is = apic_view (apic_of row) c.apic mode_is register_is

  pair_is : pair-words.view (pair_of row) ≡ pair-words.view c.pair
  unfolding row cut gathered listed word_at state_in pair-words.view
  pair_is = pair_view (pair_of row) c.pair
      (chip_cut true (get_or c.pair 2 0) (get_or c.pair 0 0) r.pair.master.spare)
      (chip_cut false (get_or c.pair 2 0) (get_or c.pair 1 0) r.pair.slave.spare)
      (rule_cut (get_or c.pair 2 0) r.pair.rule)
      (sym r.pair.spare)

  state_is : state_in (chips_of row) ≡ state_in c
  unfolding state_in board_in
  state_is = λ j. record { board = record { ioapic = io_is j; apic = apic_is j }; pair = pair_is j }

  mode_kept : ltb (get_or row 32 0) 2 ≡ true
  unfolding row cut gathered listed word_at
  mode_kept = mode_small (not (eqb (get_or c.apic 0 0) 0))

  keeps : row_keeps row ≡ true
  unfolding row_keeps state_in board_in
  keeps =
      and_yes (ltb (get_or row 32 0) 2) (ioapic_keeps (io-words.view (io_of row)) && (apic_keeps (apic_of row) && keeps_pair (pair-words.view (pair_of row)))) mode_kept
      (and_yes (ioapic_keeps (io-words.view (io_of row))) (apic_keeps (apic_of row) && keeps_pair (pair-words.view (pair_of row))) (ap ioapic_keeps io_is ∙ io_kept (io-words.view c.io) r.ioapic)
      (and_yes (apic_keeps (apic_of row)) (keeps_pair (pair-words.view (pair_of row))) (apic_kept (apic_of row) (subst ApicRules (sym apic_is) r.apic))
      (ap keeps_pair pair_is ∙ pair_kept (pair-words.view c.pair) r.pair)))

  read : is_read (image_in c) ≡ true
  unfolding image_in
  read = written_is_read (gathered c.io c.apic c.pair)

  back : (before : Chips) → restored (image_in c) before ≡ outcome_of (chips_of row) Nothing
  unfolding row
  back before = took (image_in c) before read (ap row_keeps (row_of_lem c) ∙ keeps) ∙ ap (λ (l : List ℕ). outcome_of (chips_of l) Nothing) (row_of_lem c)

pub read_back_state : ReadBack
read_back_state c before fit r = record {
  reply = ap (λ (o : Outcome Chips). o.reply) (back c fit r before);
  state = ap (λ (o : Outcome Chips). state_in o.state) (back c fit r before) ∙ state_is c fit r;
}
