-- An image that is taken is the one that its state writes. Assumes nothing.
use mathlib.Core.Path.{◌≡◌, refl, sym, ◌∙◌, ap, subst}
use mathlib.Core.Bool.{Bool, true, false, not, cond, ◌&&◌}
use mathlib.Core.List.{List}
use Prim.Native.Nat.{ℕ, zero, suc, ◌+◌, ◌-◌, ◌%◌, ◌^◌, ◌<◌, ◌≤◌}
use native.Mathlib.Omega.{arith}
use lib.Dec.{eqb, ltb}
use lib.ListN.{get_or, length, drop}
use lib.Seq.{get_or-take, get_or-drop}
use borrow.Author.Tests.{lt-ltb, ltb-true, ltb-false, eqb-true, eqb-false}
use Rattle.utils.proofs.Bools.{either, and_true}
use Rattle.types.specs.Reply.{flag, Outcome, outcome_of}
use Rattle.types.specs.declared.Reply.TheVariants.{Refused, Nothing}
use Rattle.types.specs.declared.Refusal.TheVariants.{BadImage}
use Rattle.vioapic.specs.State as io-words
use Rattle.vioapic.proofs.Words.{view_long, view_small}
use Rattle.vpic.specs.Words as pair-words
use Rattle.board.specs.Board.{board_in}
use Rattle.image_format.specs.Image.{image_of, words_in}
use Rattle.image_format.specs.Reading.{is_read}
use Rattle.image_theorems.proofs.Exact.{read_back, same_image, read_is_image}
use Rattle.image_rules.specs.Rules.{ioapic_keeps, apic_keeps, keeps_pair}
use Rattle.image.specs.Words.{chip_word, word_at, listed, gathered}
use Rattle.image.specs.Restore.{Chips, io_of, apic_of, pair_of, chips_of, row_keeps, blank, row_in, not_restored, put_back, restored}
use Rattle.image_state_theorems.specs.Rules.{IoRules, PairRules}
use Rattle.image_state_theorems.specs.States.{state_in, image_in, Bytes, Written, Refused10, TakenIsWritten, SameBytes, TenIfNoneWrites, TenOnlyIfNoneWrites}
use Rattle.image_state_theorems.proofs.Laws.{io_rules}
use Rattle.image_state_theorems.proofs.ApicLaws.{apic_rules}
use Rattle.image_state_theorems.proofs.PairLaws.{pair_rules}
use Rattle.image_state_theorems.proofs.Row.{get_d_listed, cut_to, cut, carried_is, row_base, row_size}
use Rattle.image_state_theorems.proofs.Alike.{one_image}
use Rattle.image_state_theorems.proofs.Back.{version_is, rule_is, chip_is, took, read_back_state}

-- ---- a row that keeps the rules is gathered as it stands

mode_is : (m : ℕ) → m < 2 → flag (not (eqb m 0)) ≡ m
mode_is zero h = refl
mode_is (suc zero) h = refl
mode_is (suc (suc m)) h = absurd (omega arith)

no_bits : (rule : ℕ) → chip_word rule 0 ≡ 0
no_bits rule = go (eqb rule 2)
  where
    go : (b : Bool) → cond b (0 % 2 ^ 51) (0 % 2 ^ 44) ≡ 0
    go true = refl
    go false = refl

module _ (row : List ℕ) (h : row_keeps row ≡ true) where
  parts : (ltb (get_or row 32 0) 2 ≡ true) × ((ioapic_keeps (io-words.view (io_of row)) && (apic_keeps (apic_of row) && keeps_pair (pair-words.view (pair_of row)))) ≡ true)
  unfolding row_keeps
  parts = and_true (ltb (get_or row 32 0) 2) (ioapic_keeps (io-words.view (io_of row)) && (apic_keeps (apic_of row) && keeps_pair (pair-words.view (pair_of row)))) h

  rest : (ioapic_keeps (io-words.view (io_of row)) ≡ true) × ((apic_keeps (apic_of row) && keeps_pair (pair-words.view (pair_of row))) ≡ true)
  rest = and_true (ioapic_keeps (io-words.view (io_of row))) (apic_keeps (apic_of row) && keeps_pair (pair-words.view (pair_of row))) parts.1

  last : (apic_keeps (apic_of row) ≡ true) × (keeps_pair (pair-words.view (pair_of row)) ≡ true)
  last = and_true (apic_keeps (apic_of row)) (keeps_pair (pair-words.view (pair_of row))) rest.1

  io_kept : IoRules (io-words.view (io_of row))
  io_kept = io_rules (io-words.view (io_of row)) rest.0 (view_long (io_of row)) (view_small (io_of row))

  pair_kept : PairRules (pair-words.view (pair_of row))
  pair_kept = pair_rules (pair_of row) last.1

  apic_at : (k : ℕ) → k < 48 → get_or (apic_of row) k 0 ≡ get_or row (32 + k) 0
  apic_at k l = get_or-take 48 (drop 32 row) k 0 l ∙ get_or-drop 32 row k 0

  pair_at : (k : ℕ) → k < 4 → get_or (pair_of row) k 0 ≡ get_or row (80 + k) 0
  pair_at k l = get_or-take 4 (drop 80 row) k 0 l ∙ get_or-drop 80 row k 0

  chip_at_lem : (j : ℕ) → j < 4 → (j ≡ 2 → ⊥) → chip_word (get_or (pair_of row) 2 0) (get_or (pair_of row) j 0) ≡ get_or (pair_of row) j 0
  unfolding pair-words.view
  chip_at_lem zero l n = chip_is true (get_or (pair_of row) 2 0) (get_or (pair_of row) 0 0) pair_kept.master.spare
  chip_at_lem (suc zero) l n = chip_is false (get_or (pair_of row) 2 0) (get_or (pair_of row) 1 0) pair_kept.slave.spare
  chip_at_lem (suc (suc zero)) l n = absurd (n refl)
  chip_at_lem (suc (suc (suc zero))) l n = ap (chip_word (get_or (pair_of row) 2 0)) pair_kept.spare ∙ no_bits (get_or (pair_of row) 2 0) ∙ sym pair_kept.spare
  chip_at_lem (suc (suc (suc (suc j)))) l n = absurd (omega arith)

  word_is : (k : ℕ) → k < 84 → word_at (io_of row) (apic_of row) (pair_of row) k ≡ get_or row k 0
  unfolding word_at io-words.view pair-words.view
  word_is k l =
      either (λ (x : ℕ). x ≡ get_or row k 0) (eqb k 29) _ _
      (λ t. let q : k ≡ 29 = eqb-true k 29 t in rw q (version_is (get_or (io_of row) 29 0) io_kept.version ∙ get_or-take 32 row 29 0 (omega arith)))
      (λ t29. either (λ (x : ℕ). x ≡ get_or row k 0) (eqb k 32) _ _
      (λ t. let q : k ≡ 32 = eqb-true k 32 t in rw q (ap (λ (m : ℕ). flag (not (eqb m 0))) (apic_at 0 (omega arith)) ∙ mode_is (get_or row 32 0) (ltb-true (get_or row 32 0) 2 parts.0)))
      (λ t32. either (λ (x : ℕ). x ≡ get_or row k 0) (eqb k 82) _ _
      (λ t. let q : k ≡ 82 = eqb-true k 82 t in rw q (rule_is (get_or (pair_of row) 2 0) pair_kept.rule ∙ pair_at 2 (omega arith)))
      (λ t82. either (λ (x : ℕ). x ≡ get_or row k 0) (ltb k 32) _ _
      (λ t. get_or-take 32 row k 0 (ltb-true k 32 t))
      (λ t. let b : 32 ≤ k = ltb-false k 32 t in either (λ (x : ℕ). x ≡ get_or row k 0) (ltb k 80) _ _
      (λ t. let a : k < 80 = ltb-true k 80 t in let n : 32 + (k - 32) ≡ k = omega arith in apic_at (k - 32) (omega arith) ∙ rw n)
      (λ t. let a : 80 ≤ k = ltb-false k 80 t in let n : 80 + (k - 80) ≡ k = omega arith in let z : (k ≡ 82) → ⊥ = eqb-false k 82 t82 in
      chip_at_lem (k - 80) (omega arith) (λ e. z (omega (arith, e, n))) ∙ pair_at (k - 80) (omega arith) ∙ rw n)))))

  gathered_is : image_in (chips_of row) ≡ image_of row
  unfolding image_in gathered
  gathered_is = same_image (listed (word_at (io_of row) (apic_of row) (pair_of row)) 0 84) row (λ k l. get_d_listed (word_at (io_of row) (apic_of row) (pair_of row)) k l ∙ word_is k l)

-- ---- what was taken

blank_length : length blank ≡ 84
unfolding blank
blank_length = refl

module _ (s : List ℕ) (bytes : Bytes s) (r : is_read s ≡ true) where
  image_is : image_of (row_in s) ≡ s
  unfolding row_in
  image_is = read_is_image s blank bytes blank_length r

  -- it is cut to its fields already
  cut_is : row_in s ≡ cut (row_in s)
  unfolding row_in
  cut_is = ap (λ (t : List ℕ). words_in t blank) (sym image_is) ∙ read_back (words_in s blank) blank ∙ carried_is (words_in s blank)

  entry_fits : (k : ℕ) → k < 24 → get_or (row_in s) k 0 < 2 ^ 64
  unfolding cut
  entry_fits k h =
      let e : get_or (row_in s) k 0 ≡ cut_to k (get_or (row_in s) k 0) = ap (λ (l : List ℕ). get_or l k 0) cut_is ∙ get_d_listed (λ j. cut_to j (get_or (row_in s) j 0)) k (omega arith) in
      let q : cut_to k (get_or (row_in s) k 0) ≡ get_or (row_in s) k 0 % 2 ^ 64 = rw (lt-ltb k 24 h) in
      omega (arith, e, q)

  pub taken_written : row_keeps (row_in s) ≡ true → Written s (chips_of (row_in s))
  unfolding state_in board_in io-words.view
  taken_written h = record {
    words = λ k l. let e : get_or (io_of (row_in s)) k 0 ≡ get_or (row_in s) k 0 = get_or-take 32 (row_in s) k 0 (omega arith) in rw e (entry_fits k l);
    rules = record {
      ioapic = io_kept (row_in s) h;
      base = get_or-take 32 (row_in s) 27 0 (omega arith) ∙ row_base s;
      size = get_or-take 32 (row_in s) 28 0 (omega arith) ∙ row_size s;
      apic = apic_rules (apic_of (row_in s)) (last (row_in s) h).0;
      pair = pair_kept (row_in s) h;
    };
    image = gathered_is (row_in s) h ∙ image_is;
  }

not_nothing : Nothing ≡ Refused BadImage → ⊥
not_nothing e = let z : ◌≡◌ {A = ℕ} 0 1 = cc in omega arith

-- the answer says which it was
module _ (s : List ℕ) (before : Chips) where
  abbrev by : Bool → Bool → Outcome Chips
  by a b = cond a (cond b (outcome_of (chips_of (row_in s)) Nothing) (not_restored before)) (not_restored before)

  restored_by : restored s before ≡ by (is_read s) (row_keeps (row_in s))
  unfolding restored put_back
  restored_by = refl

  both_held : (a b : Bool) → (by a b).reply ≡ Nothing → (a ≡ true) × (b ≡ true)
  both_held true true e = (refl, refl)
  both_held true false e = absurd (not_nothing (sym e))
  both_held false b e = absurd (not_nothing (sym e))

  not_both : (a b : Bool) → ((a ≡ true) → (b ≡ true) → ⊥) → Refused10 before (by a b)
  not_both true true n = absurd (n refl refl)
  not_both true false n = record { reply = refl; kept = refl }
  not_both false b n = record { reply = refl; kept = refl }

pub taken_is_written : TakenIsWritten
taken_is_written s before bytes e =
    let t = both_held s before (is_read s) (row_keeps (row_in s)) (ap (λ (o : Outcome Chips). o.reply) (sym (restored_by s before)) ∙ e) in
    subst (λ (o : Outcome Chips). Written s o.state) (sym (took s before t.0 t.1)) (taken_written s bytes t.0 t.1)

pub same_bytes : SameBytes
same_bytes s t before other bs bt rs rt e = sym (taken_is_written s before bs rs).image ∙ one_image _ _ e ∙ (taken_is_written t other bt rt).image

pub ten_if_none_writes : TenIfNoneWrites
ten_if_none_writes s before bytes none =
    subst (Refused10 before) (sym (restored_by s before)) (not_both s before (is_read s) (row_keeps (row_in s)) (λ a b. none (chips_of (row_in s)) (taken_written s bytes a b)))

pub ten_only_if_none_writes : TenOnlyIfNoneWrites
ten_only_if_none_writes s before c w e =
    not_nothing (sym (read_back_state c before w.words w.rules).reply ∙ ap (λ (t : List ℕ). (restored t before).reply) w.image ∙ e)
