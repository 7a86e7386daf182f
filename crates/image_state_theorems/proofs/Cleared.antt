-- Bits that stand for nothing are left out. Assumes nothing.
use mathlib.Core.Path.{◌≡◌, refl, sym, ◌∙◌, ap, subst}
use mathlib.Core.Bool.{Bool, true, false, cond}
use mathlib.Core.List.{List, [], ◌∷◌}
use Prim.Native.Nat.{ℕ, zero, suc, ◌+◌, ◌-◌, ◌/◌, ◌%◌, ◌^◌, ◌<◌, ◌≤◌}
use native.Mathlib.Omega.{arith}
use lib.Dec.{eqb, ltb}
use lib.ListN.{get_or}
use lib.Pow.{field}
use borrow.Author.Tests.{lt-ltb, ltb-true, ltb-false, ne_eqb}
use Rattle.utils.specs.Set.{bit}
use Rattle.utils.proofs.Bools.{either}
use Rattle.utils.proofs.Laws.{bit_cut}
use Rattle.vpic_chip.specs.Registers.{registers, chip_in, full_in, placed}
use Rattle.vpic.specs.Words.{chip_by}
use Rattle.vpic.specs.Words as pair-words
use Rattle.board.specs.Board.{board_in}
use Rattle.image_format.specs.Image.{image_of}
use Rattle.image.specs.Words.{chip_word, word_at}
use Rattle.image.specs.Restore.{Chips, chips, restored}
use Rattle.image_state_theorems.specs.Rules.{StateRules}
use Rattle.image_state_theorems.specs.States.{state_in, image_in, cleared_chip, cleared, ReadBackCleared}
use Rattle.image_state_theorems.proofs.Row.{cut_to, row_same, image_of_lem}
use Rattle.image_state_theorems.proofs.Back.{read_back_state}

-- ---- a chip's word

plain_cleared : (w : ℕ) → chip_in (w % 2 ^ 44) ≡ cleared_chip (chip_in w)
unfolding chip_in
plain_cleared w =
    let base : w % 2 ^ 44 % 2 ^ 8 ≡ w % 2 ^ 8 = omega arith in
    let mask : w % 2 ^ 44 / 2 ^ 8 % 2 ^ 8 ≡ w / 2 ^ 8 % 2 ^ 8 = rw (field w 36 8) (omega arith) in
    let irr : w % 2 ^ 44 / 2 ^ 16 % 2 ^ 8 ≡ w / 2 ^ 16 % 2 ^ 8 = rw (field w 28 16) (omega arith) in
    let isr : w % 2 ^ 44 / 2 ^ 24 % 2 ^ 8 ≡ w / 2 ^ 24 % 2 ^ 8 = rw (field w 20 24) (omega arith) in
    let step : w % 2 ^ 44 / 2 ^ 32 % 2 ^ 8 ≡ w / 2 ^ 32 % 2 ^ 8 = rw (field w 12 32) (omega arith) in
    let icw4 : bit (w % 2 ^ 44) 40 ≡ bit w 40 = bit_cut w 44 40 (omega arith) in
    let sngl : bit (w % 2 ^ 44) 41 ≡ bit w 41 = bit_cut w 44 41 (omega arith) in
    let aeoi : bit (w % 2 ^ 44) 42 ≡ bit w 42 = bit_cut w 44 42 (omega arith) in
    let ris : bit (w % 2 ^ 44) 43 ≡ bit w 43 = bit_cut w 44 43 (omega arith) in
    let spare : w % 2 ^ 44 / 2 ^ 44 ≡ 0 = omega arith in
    λ i. registers (base i) (mask i) (irr i) (isr i) (step i) (icw4 i) (sngl i) (aeoi i) (ris i) false false 7 false false false false (spare i)

lowest_cut : (y : ℕ) → (y % 2 ^ 7 + 7) % 2 ^ 3 ≡ (y + 7) % 2 ^ 3
lowest_cut y = omega arith

nothing_left : (y : ℕ) → y % 2 ^ 7 / 2 ^ 7 ≡ 0
nothing_left y = omega arith

full_cleared : (place : Bool) (w : ℕ) → placed place (full_in (w % 2 ^ 51)) ≡ cleared_chip (placed place (full_in w))
unfolding chip_in
full_cleared place w =
    let base : w % 2 ^ 51 % 2 ^ 8 ≡ w % 2 ^ 8 = omega arith in
    let mask : w % 2 ^ 51 / 2 ^ 8 % 2 ^ 8 ≡ w / 2 ^ 8 % 2 ^ 8 = rw (field w 43 8) (omega arith) in
    let irr : w % 2 ^ 51 / 2 ^ 16 % 2 ^ 8 ≡ w / 2 ^ 16 % 2 ^ 8 = rw (field w 35 16) (omega arith) in
    let isr : w % 2 ^ 51 / 2 ^ 24 % 2 ^ 8 ≡ w / 2 ^ 24 % 2 ^ 8 = rw (field w 27 24) (omega arith) in
    let step : w % 2 ^ 51 / 2 ^ 32 % 2 ^ 8 ≡ w / 2 ^ 32 % 2 ^ 8 = rw (field w 19 32) (omega arith) in
    let icw4 : bit (w % 2 ^ 51) 40 ≡ bit w 40 = bit_cut w 51 40 (omega arith) in
    let sngl : bit (w % 2 ^ 51) 41 ≡ bit w 41 = bit_cut w 51 41 (omega arith) in
    let aeoi : bit (w % 2 ^ 51) 42 ≡ bit w 42 = bit_cut w 51 42 (omega arith) in
    let ris : bit (w % 2 ^ 51) 43 ≡ bit w 43 = bit_cut w 51 43 (omega arith) in
    let rest : w % 2 ^ 51 / 2 ^ 44 ≡ w / 2 ^ 44 % 2 ^ 7 = field w 7 44 in
    let lowest : (w % 2 ^ 51 / 2 ^ 44 + 7) % 2 ^ 3 ≡ (w / 2 ^ 44 + 7) % 2 ^ 3 = rw rest (lowest_cut (w / 2 ^ 44)) in
    let rot : bit (w % 2 ^ 51 / 2 ^ 44) 3 ≡ bit (w / 2 ^ 44) 3 = rw rest (bit_cut (w / 2 ^ 44) 7 3 (omega arith)) in
    let smm : bit (w % 2 ^ 51 / 2 ^ 44) 4 ≡ bit (w / 2 ^ 44) 4 = rw rest (bit_cut (w / 2 ^ 44) 7 4 (omega arith)) in
    let poll : bit (w % 2 ^ 51 / 2 ^ 44) 5 ≡ bit (w / 2 ^ 44) 5 = rw rest (bit_cut (w / 2 ^ 44) 7 5 (omega arith)) in
    let sfnm : bit (w % 2 ^ 51 / 2 ^ 44) 6 ≡ bit (w / 2 ^ 44) 6 = rw rest (bit_cut (w / 2 ^ 44) 7 6 (omega arith)) in
    let spare : w % 2 ^ 51 / 2 ^ 44 / 2 ^ 7 ≡ 0 = rw rest (nothing_left (w / 2 ^ 44)) in
    λ i. registers (base i) (mask i) (irr i) (isr i) (step i) (icw4 i) (sngl i) (aeoi i) (ris i) true place (lowest i) (rot i) (smm i) (poll i) (sfnm i) (spare i)

chip_cleared : (place : Bool) (rule w : ℕ) → chip_by place rule (chip_word rule w) ≡ cleared_chip (chip_by place rule w)
chip_cleared place rule w = go (eqb rule 2)
  where
    go : (b : Bool) → cond b (placed place (full_in (cond b (w % 2 ^ 51) (w % 2 ^ 44)))) (chip_in (cond b (w % 2 ^ 51) (w % 2 ^ 44))) ≡ cleared_chip (cond b (placed place (full_in w)) (chip_in w))
    go true = full_cleared place w
    go false = plain_cleared w

word_again : (rule w : ℕ) → chip_word rule (chip_word rule w) ≡ chip_word rule w
word_again rule w = go (eqb rule 2)
  where
    go : (b : Bool) → cond b (cond b (w % 2 ^ 51) (w % 2 ^ 44) % 2 ^ 51) (cond b (w % 2 ^ 51) (w % 2 ^ 44) % 2 ^ 44) ≡ cond b (w % 2 ^ 51) (w % 2 ^ 44)
    go true = omega arith
    go false = omega arith

-- ---- the pair's words without them

module _ (c : Chips) where
  rule : ℕ
  rule = get_or c.pair 2 0

  plain : List ℕ
  plain = chip_word rule (get_or c.pair 0 0) ∷ chip_word rule (get_or c.pair 1 0) ∷ rule ∷ 0 ∷ []

  without : Chips
  without = chips c.io c.apic plain

  state_cleared : state_in without ≡ cleared (state_in c)
  unfolding rule plain without state_in board_in pair-words.view
  state_cleared = λ i. record { board = board_in c.io c.apic; pair = record { rule = rule; master = chip_cleared true rule (get_or c.pair 0 0) i; slave = chip_cleared false rule (get_or c.pair 1 0) i; spare = 0 } }

  below : (k : ℕ) → k < 80 → word_at c.io c.apic plain k ≡ word_at c.io c.apic c.pair k
  unfolding word_at
  below k h = rw (ne_eqb k 82 (λ e. omega arith), lt-ltb k 80 h)

  above : (k : ℕ) → k < 4 → cut_to (80 + k) (word_at c.io c.apic plain (80 + k)) ≡ cut_to (80 + k) (word_at c.io c.apic c.pair (80 + k))
  unfolding word_at rule plain
  above zero h = ap (λ (x : ℕ). x % 2 ^ 64) (word_again rule (get_or c.pair 0 0))
  above (suc zero) h = ap (λ (x : ℕ). x % 2 ^ 64) (word_again rule (get_or c.pair 1 0))
  above (suc (suc zero)) h = refl
  above (suc (suc (suc zero))) h = refl
  above (suc (suc (suc (suc k)))) h = absurd (omega arith)

  same_cut : (k : ℕ) → k < 84 → cut_to k (word_at c.io c.apic plain k) ≡ cut_to k (word_at c.io c.apic c.pair k)
  same_cut k h = either (λ (_ : ℕ). cut_to k (word_at c.io c.apic plain k) ≡ cut_to k (word_at c.io c.apic c.pair k)) (ltb k 80) 0 0
      (λ t. ap (cut_to k) (below k (ltb-true k 80 t)))
      (λ t. let l : 80 ≤ k = ltb-false k 80 t in let e : 80 + (k - 80) ≡ k = omega arith in subst (λ (j : ℕ). cut_to j (word_at c.io c.apic plain j) ≡ cut_to j (word_at c.io c.apic c.pair j)) e (above (k - 80) (omega arith)))

  image_same : image_in without ≡ image_in c
  unfolding without
  image_same = sym (image_of_lem without) ∙ ap image_of (row_same c.io c.apic plain c.io c.apic c.pair same_cut) ∙ image_of_lem c

pub read_back_cleared : ReadBackCleared
unfolding without
read_back_cleared c before fit r =
    let t = read_back_state (without c) before fit (subst StateRules (sym (state_cleared c)) r) in
    record {
      reply = ap (λ (s : List ℕ). (restored s before).reply) (sym (image_same c)) ∙ t.reply;
      state = ap (λ (s : List ℕ). state_in (restored s before).state) (sym (image_same c)) ∙ t.state ∙ state_cleared c;
    }
