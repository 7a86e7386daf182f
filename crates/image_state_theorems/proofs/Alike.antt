-- Words that stand for the same state write the same image. Assumes nothing.
use mathlib.Core.Path.{◌≡◌, refl, sym, ◌∙◌, ap, ap₂}
use mathlib.Core.Bool.{Bool, true, false, not, cond}
use mathlib.Core.List.{List, [], ◌∷◌}
use Prim.Native.Nat.{ℕ, zero, suc, ◌+◌, ◌-◌, ◌%◌, ◌^◌, ◌<◌, ◌≤◌}
use native.Mathlib.Omega.{arith}
use native.Mathlib.Nat.{mod-lt}
use lib.Dec.{eqb, ltb, lit<}
use lib.ListN.{get_or}
use borrow.Author.Tests.{ltb-true, ltb-false, eqb-true, eqb-false}
use Rattle.utils.specs.Set.{bit}
use Rattle.utils.proofs.Bools.{either}
use Rattle.utils.proofs.Laws.{same_bits, bit_cut}
use Rattle.types.specs.Reply.{flag}
use Rattle.vioapic_entry.specs.declared.Entry.{Entry}
use Rattle.vioapic.specs.State.{IoApicState, entry_in}
use Rattle.vioapic.specs.State as io-words
use Rattle.vioapic.specs.Table.{entry_at}
use Rattle.vioapic.specs.IoApic.{version_number, version_of}
use Rattle.vioapic.proofs.Words.{view_at}
use Rattle.vlapic.specs.declared.VirtualApicRegs.{VirtualApicRegs}
use Rattle.vlapic_words.specs.Words.{word}
use Rattle.vlapic_words.specs.Words as apic-words
use Rattle.vpic.specs.Words as pair-words
use Rattle.vpic.specs.Pair.{rule_number, rule_in}
use Rattle.vpic.proofs.Codes.{words_same}
use Rattle.board.specs.Board.{board_in}
use Rattle.image_format.specs.Image.{image_of}
use Rattle.image.specs.Words.{chip_word, word_at}
use Rattle.image.specs.Restore.{Chips}
use Rattle.image_state_theorems.specs.Rules.{State}
use Rattle.image_state_theorems.specs.States.{state_in, OneImage}
use Rattle.image_state_theorems.proofs.Row.{cut_to, row_same, word_io, word_apic, image_of_lem}

cond_same : {A : Type 0} (t : Bool) (a b c d : A) → (t ≡ true → a ≡ b) → (t ≡ false → c ≡ d) → cond t a c ≡ cond t b d
cond_same true a b c d h k = h refl
cond_same false a b c d h k = k refl

above : (k n : ℕ) → n ≤ k → eqb k n ≡ false → n + 1 ≤ k
above k n l q = let d : (k ≡ n) → ⊥ = eqb-false k n q in omega arith

-- ---- what a state says of its words

module _ (a b : List ℕ) (e : io-words.view a ≡ io-words.view b) where
  entry_same : (g : ℕ) → g < 24 → entry_in a g ≡ entry_in b g
  entry_same g h = sym (view_at a g h) ∙ ap (λ (m : IoApicState). entry_at m g) e ∙ view_at b g h

  flags_same : (k : ℕ) → ((g : ℕ) → g < 24 → bit (get_or a k 0) g ≡ bit (get_or b k 0) g) → get_or a k 0 % 2 ^ 24 ≡ get_or b k 0 % 2 ^ 24
  flags_same k h =
      same_bits 24 (get_or a k 0 % 2 ^ 24) (get_or b k 0 % 2 ^ 24) (mod-lt (get_or a k 0) (lit< tt)) (mod-lt (get_or b k 0) (lit< tt))
      (λ g l. bit_cut (get_or a k 0) 24 g l ∙ h g l ∙ sym (bit_cut (get_or b k 0) 24 g l))

  low_same : (k : ℕ) → k < 26 → cond (ltb k 24) (get_or a k 0) (get_or a k 0 % 2 ^ 24) ≡ cond (ltb k 24) (get_or b k 0) (get_or b k 0 % 2 ^ 24)
  low_same k h = cond_same (ltb k 24) _ _ _ _
      (λ t. ap (λ (d : Entry). d.word) (entry_same k (ltb-true k 24 t)))
      (λ t. let l = ltb-false k 24 t in either (λ (_ : ℕ). get_or a k 0 % 2 ^ 24 ≡ get_or b k 0 % 2 ^ 24) (eqb k 24) 0 0
      (λ q. let d : k ≡ 24 = eqb-true k 24 q in rw d (flags_same 24 (λ g m. ap (λ (x : Entry). x.pending_level) (entry_same g m))))
      (λ q. let n : (k ≡ 24) → ⊥ = eqb-false k 24 q in let d : k ≡ 25 = omega (arith, l, h) in rw d (flags_same 25 (λ g m. ap (λ (x : Entry). x.input_level) (entry_same g m)))))

module _ (a b : List ℕ) (e : apic-words.view a ≡ apic-words.view b) where
  mode_same : not (eqb (get_or a 0 0) 0) ≡ not (eqb (get_or b 0 0) 0)
  unfolding apic-words.view
  mode_same = ap (λ (s : VirtualApicRegs). s.x2apic) e

  register_same : (k : ℕ) → k < 41 → word a (suc k) ≡ word b (suc k)
  unfolding apic-words.view
  register_same zero h = ap (λ (s : VirtualApicRegs). s.vapic_id) e
  register_same (suc zero) h = ap (λ (s : VirtualApicRegs). s.tpr) e
  register_same (suc (suc zero)) h = ap (λ (s : VirtualApicRegs). s.ppr) e
  register_same (suc (suc (suc zero))) h = ap (λ (s : VirtualApicRegs). s.ldr) e
  register_same (suc (suc (suc (suc zero)))) h = ap (λ (s : VirtualApicRegs). s.dfr) e
  register_same (suc (suc (suc (suc (suc zero))))) h = ap (λ (s : VirtualApicRegs). s.svr) e
  register_same (suc (suc (suc (suc (suc (suc zero)))))) h = ap (λ (s : VirtualApicRegs). s.esr) e
  register_same (suc (suc (suc (suc (suc (suc (suc zero))))))) h = ap (λ (s : VirtualApicRegs). s.esr_pending) e
  register_same (suc (suc (suc (suc (suc (suc (suc (suc zero)))))))) h = ap (λ (s : VirtualApicRegs). s.icr_lo) e
  register_same (suc (suc (suc (suc (suc (suc (suc (suc (suc zero))))))))) h = ap (λ (s : VirtualApicRegs). s.icr_hi) e
  register_same (suc (suc (suc (suc (suc (suc (suc (suc (suc (suc zero)))))))))) h = ap (λ (s : VirtualApicRegs). s.lvt_cmci) e
  register_same (suc (suc (suc (suc (suc (suc (suc (suc (suc (suc (suc zero))))))))))) h = ap (λ (s : VirtualApicRegs). s.lvt_timer) e
  register_same (suc (suc (suc (suc (suc (suc (suc (suc (suc (suc (suc (suc zero)))))))))))) h = ap (λ (s : VirtualApicRegs). s.lvt_thermal) e
  register_same (suc (suc (suc (suc (suc (suc (suc (suc (suc (suc (suc (suc (suc zero))))))))))))) h = ap (λ (s : VirtualApicRegs). s.lvt_pmi) e
  register_same (suc (suc (suc (suc (suc (suc (suc (suc (suc (suc (suc (suc (suc (suc zero)))))))))))))) h = ap (λ (s : VirtualApicRegs). s.lvt_lint0) e
  register_same (suc (suc (suc (suc (suc (suc (suc (suc (suc (suc (suc (suc (suc (suc (suc zero))))))))))))))) h = ap (λ (s : VirtualApicRegs). s.lvt_lint1) e
  register_same (suc (suc (suc (suc (suc (suc (suc (suc (suc (suc (suc (suc (suc (suc (suc (suc zero)))))))))))))))) h = ap (λ (s : VirtualApicRegs). s.lvt_error) e
  register_same (suc (suc (suc (suc (suc (suc (suc (suc (suc (suc (suc (suc (suc (suc (suc (suc (suc zero))))))))))))))))) h = ap (λ (s : VirtualApicRegs). get_or s.isr 0 0) e
  register_same (suc (suc (suc (suc (suc (suc (suc (suc (suc (suc (suc (suc (suc (suc (suc (suc (suc (suc zero)))))))))))))))))) h = ap (λ (s : VirtualApicRegs). get_or s.isr 1 0) e
  register_same (suc (suc (suc (suc (suc (suc (suc (suc (suc (suc (suc (suc (suc (suc (suc (suc (suc (suc (suc zero))))))))))))))))))) h = ap (λ (s : VirtualApicRegs). get_or s.isr 2 0) e
  register_same (suc (suc (suc (suc (suc (suc (suc (suc (suc (suc (suc (suc (suc (suc (suc (suc (suc (suc (suc (suc zero)))))))))))))))))))) h = ap (λ (s : VirtualApicRegs). get_or s.isr 3 0) e
  register_same (suc (suc (suc (suc (suc (suc (suc (suc (suc (suc (suc (suc (suc (suc (suc (suc (suc (suc (suc (suc (suc zero))))))))))))))))))))) h = ap (λ (s : VirtualApicRegs). get_or s.isr 4 0) e
  register_same (suc (suc (suc (suc (suc (suc (suc (suc (suc (suc (suc (suc (suc (suc (suc (suc (suc (suc (suc (suc (suc (suc zero)))))))))))))))))))))) h = ap (λ (s : VirtualApicRegs). get_or s.isr 5 0) e
  register_same (suc (suc (suc (suc (suc (suc (suc (suc (suc (suc (suc (suc (suc (suc (suc (suc (suc (suc (suc (suc (suc (suc (suc zero))))))))))))))))))))))) h = ap (λ (s : VirtualApicRegs). get_or s.isr 6 0) e
  register_same (suc (suc (suc (suc (suc (suc (suc (suc (suc (suc (suc (suc (suc (suc (suc (suc (suc (suc (suc (suc (suc (suc (suc (suc zero)))))))))))))))))))))))) h = ap (λ (s : VirtualApicRegs). get_or s.isr 7 0) e
  register_same (suc (suc (suc (suc (suc (suc (suc (suc (suc (suc (suc (suc (suc (suc (suc (suc (suc (suc (suc (suc (suc (suc (suc (suc (suc zero))))))))))))))))))))))))) h = ap (λ (s : VirtualApicRegs). get_or s.tmr 0 0) e
  register_same (suc (suc (suc (suc (suc (suc (suc (suc (suc (suc (suc (suc (suc (suc (suc (suc (suc (suc (suc (suc (suc (suc (suc (suc (suc (suc zero)))))))))))))))))))))))))) h = ap (λ (s : VirtualApicRegs). get_or s.tmr 1 0) e
  register_same (suc (suc (suc (suc (suc (suc (suc (suc (suc (suc (suc (suc (suc (suc (suc (suc (suc (suc (suc (suc (suc (suc (suc (suc (suc (suc (suc zero))))))))))))))))))))))))))) h = ap (λ (s : VirtualApicRegs). get_or s.tmr 2 0) e
  register_same (suc (suc (suc (suc (suc (suc (suc (suc (suc (suc (suc (suc (suc (suc (suc (suc (suc (suc (suc (suc (suc (suc (suc (suc (suc (suc (suc (suc zero)))))))))))))))))))))))))))) h = ap (λ (s : VirtualApicRegs). get_or s.tmr 3 0) e
  register_same (suc (suc (suc (suc (suc (suc (suc (suc (suc (suc (suc (suc (suc (suc (suc (suc (suc (suc (suc (suc (suc (suc (suc (suc (suc (suc (suc (suc (suc zero))))))))))))))))))))))))))))) h = ap (λ (s : VirtualApicRegs). get_or s.tmr 4 0) e
  register_same (suc (suc (suc (suc (suc (suc (suc (suc (suc (suc (suc (suc (suc (suc (suc (suc (suc (suc (suc (suc (suc (suc (suc (suc (suc (suc (suc (suc (suc (suc zero)))))))))))))))))))))))))))))) h = ap (λ (s : VirtualApicRegs). get_or s.tmr 5 0) e
  register_same (suc (suc (suc (suc (suc (suc (suc (suc (suc (suc (suc (suc (suc (suc (suc (suc (suc (suc (suc (suc (suc (suc (suc (suc (suc (suc (suc (suc (suc (suc (suc zero))))))))))))))))))))))))))))))) h = ap (λ (s : VirtualApicRegs). get_or s.tmr 6 0) e
  register_same (suc (suc (suc (suc (suc (suc (suc (suc (suc (suc (suc (suc (suc (suc (suc (suc (suc (suc (suc (suc (suc (suc (suc (suc (suc (suc (suc (suc (suc (suc (suc (suc zero)))))))))))))))))))))))))))))))) h = ap (λ (s : VirtualApicRegs). get_or s.tmr 7 0) e
  register_same (suc (suc (suc (suc (suc (suc (suc (suc (suc (suc (suc (suc (suc (suc (suc (suc (suc (suc (suc (suc (suc (suc (suc (suc (suc (suc (suc (suc (suc (suc (suc (suc (suc zero))))))))))))))))))))))))))))))))) h = ap (λ (s : VirtualApicRegs). get_or s.irr 0 0) e
  register_same (suc (suc (suc (suc (suc (suc (suc (suc (suc (suc (suc (suc (suc (suc (suc (suc (suc (suc (suc (suc (suc (suc (suc (suc (suc (suc (suc (suc (suc (suc (suc (suc (suc (suc zero)))))))))))))))))))))))))))))))))) h = ap (λ (s : VirtualApicRegs). get_or s.irr 1 0) e
  register_same (suc (suc (suc (suc (suc (suc (suc (suc (suc (suc (suc (suc (suc (suc (suc (suc (suc (suc (suc (suc (suc (suc (suc (suc (suc (suc (suc (suc (suc (suc (suc (suc (suc (suc (suc zero))))))))))))))))))))))))))))))))))) h = ap (λ (s : VirtualApicRegs). get_or s.irr 2 0) e
  register_same (suc (suc (suc (suc (suc (suc (suc (suc (suc (suc (suc (suc (suc (suc (suc (suc (suc (suc (suc (suc (suc (suc (suc (suc (suc (suc (suc (suc (suc (suc (suc (suc (suc (suc (suc (suc zero)))))))))))))))))))))))))))))))))))) h = ap (λ (s : VirtualApicRegs). get_or s.irr 3 0) e
  register_same (suc (suc (suc (suc (suc (suc (suc (suc (suc (suc (suc (suc (suc (suc (suc (suc (suc (suc (suc (suc (suc (suc (suc (suc (suc (suc (suc (suc (suc (suc (suc (suc (suc (suc (suc (suc (suc zero))))))))))))))))))))))))))))))))))))) h = ap (λ (s : VirtualApicRegs). get_or s.irr 4 0) e
  register_same (suc (suc (suc (suc (suc (suc (suc (suc (suc (suc (suc (suc (suc (suc (suc (suc (suc (suc (suc (suc (suc (suc (suc (suc (suc (suc (suc (suc (suc (suc (suc (suc (suc (suc (suc (suc (suc (suc zero)))))))))))))))))))))))))))))))))))))) h = ap (λ (s : VirtualApicRegs). get_or s.irr 5 0) e
  register_same (suc (suc (suc (suc (suc (suc (suc (suc (suc (suc (suc (suc (suc (suc (suc (suc (suc (suc (suc (suc (suc (suc (suc (suc (suc (suc (suc (suc (suc (suc (suc (suc (suc (suc (suc (suc (suc (suc (suc zero))))))))))))))))))))))))))))))))))))))) h = ap (λ (s : VirtualApicRegs). get_or s.irr 6 0) e
  register_same (suc (suc (suc (suc (suc (suc (suc (suc (suc (suc (suc (suc (suc (suc (suc (suc (suc (suc (suc (suc (suc (suc (suc (suc (suc (suc (suc (suc (suc (suc (suc (suc (suc (suc (suc (suc (suc (suc (suc (suc zero)))))))))))))))))))))))))))))))))))))))) h = ap (λ (s : VirtualApicRegs). get_or s.irr 7 0) e
  register_same (suc (suc (suc (suc (suc (suc (suc (suc (suc (suc (suc (suc (suc (suc (suc (suc (suc (suc (suc (suc (suc (suc (suc (suc (suc (suc (suc (suc (suc (suc (suc (suc (suc (suc (suc (suc (suc (suc (suc (suc (suc k))))))))))))))))))))))))))))))))))))))))) h = absurd (omega arith)

-- ---- one image

module _ (c d : Chips) (e : state_in c ≡ state_in d) where
  io_same : io-words.view c.io ≡ io-words.view d.io
  unfolding state_in board_in
  io_same = ap (λ (s : State). s.board.ioapic) e

  apic_same : apic-words.view c.apic ≡ apic-words.view d.apic
  unfolding state_in board_in
  apic_same = ap (λ (s : State). s.board.apic) e

  pair_same : pair-words.view c.pair ≡ pair-words.view d.pair
  unfolding state_in
  pair_same = ap (λ (s : State). s.pair) e

  -- the pair's words are its state's
  abbrev four : List ℕ → List ℕ
  four l = get_or l 0 0 ∷ get_or l 1 0 ∷ get_or l 2 0 ∷ get_or l 3 0 ∷ []

  four_same : four c.pair ≡ four d.pair
  unfolding pair-words.view
  four_same = words_same (four c.pair) (four d.pair) refl refl pair_same

  word_same : (k : ℕ) → k < 4 → get_or c.pair k 0 ≡ get_or d.pair k 0
  word_same zero h = ap (λ (l : List ℕ). get_or l 0 0) four_same
  word_same (suc zero) h = ap (λ (l : List ℕ). get_or l 1 0) four_same
  word_same (suc (suc zero)) h = ap (λ (l : List ℕ). get_or l 2 0) four_same
  word_same (suc (suc (suc zero))) h = ap (λ (l : List ℕ). get_or l 3 0) four_same
  word_same (suc (suc (suc (suc k)))) h = absurd (omega arith)

  F : ℕ → ℕ
  F = word_at c.io c.apic c.pair

  G : ℕ → ℕ
  G = word_at d.io d.apic d.pair

  -- word k, where it is a register of the local APIC
  register_word : (k : ℕ) → 32 < k → k < 74 → F k % 2 ^ 32 ≡ G k % 2 ^ 32
  unfolding F G
  register_word k a b =
      let n : k - 32 ≡ suc (k - 33) = omega arith in
      let x : F k ≡ get_or c.apic (k - 32) 0 = word_apic c.io c.apic c.pair k a (omega arith) in
      let y : G k ≡ get_or d.apic (k - 32) 0 = word_apic d.io d.apic d.pair k a (omega arith) in
      let r : word c.apic (k - 32) ≡ word d.apic (k - 32) = rw n (register_same c.apic d.apic apic_same (k - 33) (omega arith)) in
      ap (λ (z : ℕ). z % 2 ^ 32) x ∙ r ∙ sym (ap (λ (z : ℕ). z % 2 ^ 32) y)

  -- and where it is one of the pair's
  pair_word : (k : ℕ) → 80 ≤ k → k < 82 → F k ≡ G k
  unfolding F G word_at
  pair_word k a b = either (λ (_ : ℕ). F k ≡ G k) (eqb k 80) 0 0
      (λ q. let z : k ≡ 80 = eqb-true k 80 q in rw z (ap₂ chip_word (word_same 2 (omega arith)) (word_same 0 (omega arith))))
      (λ q. let n : (k ≡ 80) → ⊥ = eqb-false k 80 q in let z : k ≡ 81 = omega arith in rw z (ap₂ chip_word (word_same 2 (omega arith)) (word_same 1 (omega arith))))

  low_word : (k : ℕ) → k < 26 → cond (ltb k 24) (F k) (F k % 2 ^ 24) ≡ cond (ltb k 24) (G k) (G k % 2 ^ 24)
  unfolding F G
  low_word k h =
      ap (λ (x : ℕ). cond (ltb k 24) x (x % 2 ^ 24)) (word_io c.io c.apic c.pair k (omega arith) (λ q. omega arith)) ∙ low_same c.io d.io io_same k h
      ∙ sym (ap (λ (x : ℕ). cond (ltb k 24) x (x % 2 ^ 24)) (word_io d.io d.apic d.pair k (omega arith) (λ q. omega arith)))

  cuts_same : (k : ℕ) → k < 84 → cut_to k (F k) ≡ cut_to k (G k)
  unfolding F G word_at io-words.view
  cuts_same k h =
      cond_same (ltb k 24) _ _ _ _
      (λ t. let l = ltb-true k 24 t in let q : F k ≡ G k = rw t at (low_word k (omega (arith, l))) in rw q)
      (λ t24. cond_same (ltb k 26) _ _ _ _
      (λ t. rw t24 at (low_word k (ltb-true k 26 t)))
      (λ tl. let l26 : 26 ≤ k = ltb-false k 26 tl in cond_same (eqb k 26) _ _ _ _
      (λ t. let q : k ≡ 26 = eqb-true k 26 t in rw q (ap (λ (m : IoApicState). m.selector) io_same))
      (λ t. let l27 : 27 ≤ k = above k 26 l26 t in cond_same (eqb k 27) _ _ _ _ (λ t. refl)
      (λ t. let l28 : 28 ≤ k = above k 27 l27 t in cond_same (eqb k 28) _ _ _ _ (λ t. refl)
      (λ t. let l29 : 29 ≤ k = above k 28 l28 t in cond_same (eqb k 29) _ _ _ _
      (λ t. let q : k ≡ 29 = eqb-true k 29 t in rw q (ap (λ (m : IoApicState). version_number (version_of m.version) % 2 ^ 8) io_same))
      (λ t. let l30 : 30 ≤ k = above k 29 l29 t in cond_same (eqb k 30) _ _ _ _
      (λ t. let q : k ≡ 30 = eqb-true k 30 t in rw q (ap (λ (m : IoApicState). m.in_flight) io_same))
      (λ t. let l31 : 31 ≤ k = above k 30 l30 t in cond_same (eqb k 31) _ _ _ _ (λ t. refl)
      (λ t. let l32 : 32 ≤ k = above k 31 l31 t in cond_same (eqb k 32) _ _ _ _
      (λ t. let q : k ≡ 32 = eqb-true k 32 t in rw q (ap (λ (m : Bool). flag m % 2 ^ 8) (mode_same c.apic d.apic apic_same)))
      (λ t. let l33 : 33 ≤ k = above k 32 l32 t in cond_same (ltb k 74) _ _ _ _
      (λ t. register_word k l33 (ltb-true k 74 t))
      (λ t. cond_same (ltb k 80) _ _ _ _ (λ t. refl)
      (λ t80. cond_same (ltb k 82) _ _ _ _
      (λ t. let q : F k ≡ G k = pair_word k (ltb-false k 80 t80) (ltb-true k 82 t) in ap (λ (z : ℕ). z % 2 ^ 64) q)
      (λ t. cond_same (eqb k 82) _ _ _ _
      (λ t. let q : k ≡ 82 = eqb-true k 82 t in rw q (ap (λ (n : ℕ). rule_number (rule_in n) % 2 ^ 8) (word_same 2 (omega arith))))
      (λ t. refl)))))))))))))

pub one_image : OneImage
unfolding F G
one_image c d e = sym (image_of_lem c) ∙ ap image_of (row_same c.io c.apic c.pair d.io d.apic d.pair (cuts_same c d e)) ∙ image_of_lem d
