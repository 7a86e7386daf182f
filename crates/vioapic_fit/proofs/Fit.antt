-- Every reply of the I/O APIC that a code stands for fits it, so that equal codes and words come from equal outcomes (`shown_same` of `reply_code`).
-- Assumes nothing but that words are below 2^64.
use Rattle.std.specs.Prelude.{Option, Some, None, Ok}
use Prim.Native.Nat.{ℕ, ◌-◌, ◌/◌, ◌%◌, ◌^◌, ◌<◌}
use native.Mathlib.Omega.{arith}
use mathlib.Core.Bool.{Bool, true, false, cond, ◌&&◌}
use mathlib.Core.List.{List}
use mathlib.Core.Path.{◌≡◌, refl}
use borrow.Author.Tests.{ltb-true}
use lib.Dec.{eqb, ltb, leb}
use lib.ListN.{get_or}
use Rattle.utils.proofs.Bools.{both}
use Rattle.utils.proofs.Laws.{set_of_lt}
use Rattle.types.specs.Reply.{flag}
use Rattle.types.specs.Counters.{entry_index}
use Rattle.types.specs.declared.Gsi.{Gsi}
use Rattle.types.specs.declared.Vector.{Vector}
use Rattle.types.specs.declared.Reply.{Reply}
use Rattle.reply_code.specs.Lent.{Fits}
use Rattle.vioapic.proofs.Ways.{entry_word_range}
use Rattle.vioapic_entry.specs.Answers.{routed_reply}
use Rattle.vioapic.specs.Answers.{pending_reply, eoi_reply, written_reply}
use Rattle.vioapic.specs.IoApic.{good_width, assert_gsi, set_gsi_level, end_of_interrupt, vector_for_gsi, handle_read, handle_write}
use Rattle.vioapic_entry.specs.Redirection.{EntryStep, is_fit, is_level, remote_irr, send_entry, raise_entry, lower_entry, move_line, end_entry, with_word, with_deferred, with_input, with_remote_irr, without_remote_irr, store_low20, is_owed, write_low20}
use Rattle.vioapic.specs.Registers.{is_entry_word, entry_of, is_low, read_fixed, read_low, read_word, read_selected, read_at, write_word, written_send, write_selected, written_by, write_eoi, write_at}
use Rattle.vioapic.specs.Table.{is_version20, entry_at, interrupt_for_entry, set_level, first_awaiting, end_of_entry, ends, sent_by, every_answer, end_of_every, end_of, vector_for}
use Rattle.vioapic_entry.specs.declared.Entry.{Entry}
use Rattle.vioapic_entry.specs.declared.IoApicInterrupt.{IoApicInterrupt}
use Rattle.vioapic.specs.State.{IoApicState, view}
use Rattle.vioapic.specs.declared.Eoi.TheVariants.{EndedAll}
use Rattle.vioapic.proofs.Words.{view_at}

-- an interrupt whose vector is a byte
abbrev Small : Option IoApicInterrupt → Type 0
Small None = Unit
Small (Some i) = i.vector.0 < 2 ^ 8

flag_small : (b : Bool) → flag b < 2
flag_small true = omega arith
flag_small false = omega arith

routed_fits : (r : Option IoApicInterrupt) → Small r → Fits (routed_reply r)
routed_fits None s = tt
routed_fits (Some i) s = (omega (arith, s), omega (arith, flag_small i.level_triggered))

pending_fits : (g : ℕ) (r : Option IoApicInterrupt) → g < 24 → Small r → Fits (pending_reply g r)
pending_fits g None h s = omega arith
pending_fits g (Some i) h s = (omega arith, omega (arith, s), omega (arith, flag_small i.level_triggered))

-- the sets of an EOI of version 0x20 have 24 bits each
every_fits : (c s : ℕ) → c < 2 ^ 24 → s < 2 ^ 24 → Fits (eoi_reply (every_answer c s))
every_fits c s h k = go (eqb c 0)
  where
    go : (b : Bool) → Fits (eoi_reply (cond b None (Some (EndedAll (record { cleared = c; sent = s })))))
    go true = tt
    go false = (h, k)

every_write_fits : (c s : ℕ) → c < 2 ^ 24 → s < 2 ^ 24 → Fits (written_reply (Ok (written_by (every_answer c s))))
every_write_fits c s h k = go (eqb c 0)
  where
    go : (b : Bool) → Fits (written_reply (Ok (written_by (cond b None (Some (EndedAll (record { cleared = c; sent = s })))))))
    go true = tt
    go false = (h, k)

-- of two steps whichever is taken
either : (b : Bool) (x y : EntryStep) → Small x.answer → Small y.answer → Small (cond b x y).answer
either b x y p q = both (λ (z : EntryStep). Small z.answer) b x y p q

send_small : (e : Entry) → Small (send_entry e).answer
unfolding send_entry
send_small e =
    let byte : e.word % 2 ^ 8 < 2 ^ 8 = omega arith in
    let flown : with_remote_irr e.word % 2 ^ 8 < 2 ^ 8 = omega arith in
    either (is_fit e.word) _ _ (either (is_level e.word) _ _ (either (remote_irr e.word) _ _ tt flown) byte) tt

move_small : (e : Entry) (up : Bool) → Small (move_line e up).answer
unfolding raise_entry lower_entry
move_small e true = either (e.input_level && remote_irr e.word) _ _ tt (send_small (with_input e true))
move_small e false = tt

end_small : (e : Entry) → Small (end_entry e).answer
unfolding end_entry
end_small e =
    either e.input_level _ _ (send_small (with_word e (without_remote_irr e.word)))
    (either e.pending_level _ _ (send_small (with_deferred (with_word e (without_remote_irr e.word)) false)) tt)

-- a write that may send
write_small : (n : Bool) (sel : ℕ) (e : Entry) (x : ℕ) → Small (write_word n sel e x).answer
unfolding write_word write_low20
write_small n sel e x =
    either (is_low sel) _ _ (either n _ _ (either (is_owed (store_low20 e x)) _ _ (send_small (store_low20 e x)) tt) tt) tt

written_send_fits : (r : Option IoApicInterrupt) → Small r → Fits (written_reply (Ok (written_send r)))
written_send_fits None s = tt
written_send_fits (Some i) s = routed_fits (Some i) s

module _ (m : IoApicState) where
  pub assert_fits : (gsi : Gsi) → Fits (assert_gsi m gsi).reply
  unfolding assert_gsi interrupt_for_entry
  assert_fits gsi = go (ltb (entry_index gsi) 24) refl
    where
      go : (a : Bool) → ltb (entry_index gsi) 24 ≡ a → Fits (assert_gsi m gsi).reply
      go true p = rw p (routed_fits (send_entry (entry_at m (entry_index gsi))).answer (send_small (entry_at m (entry_index gsi))))
      go false p = rw p tt

  pub level_fits : (gsi : Gsi) (up : Bool) → Fits (set_gsi_level m gsi up).reply
  unfolding set_gsi_level set_level
  level_fits gsi up = go (ltb (entry_index gsi) 24) refl
    where
      go : (a : Bool) → ltb (entry_index gsi) 24 ≡ a → Fits (set_gsi_level m gsi up).reply
      go true p = rw p (routed_fits (move_line (entry_at m (entry_index gsi)) up).answer (move_small (entry_at m (entry_index gsi)) up))
      go false p = rw p tt

  first_end_fits : (v : Vector) → Fits (eoi_reply (end_of_entry m v).answer)
  unfolding end_of_entry
  first_end_fits v = go (ltb (first_awaiting m v) 24) refl
    where
      go : (a : Bool) → ltb (first_awaiting m v) 24 ≡ a → Fits (eoi_reply (end_of_entry m v).answer)
      go true p = rw p (pending_fits (first_awaiting m v) (end_entry (entry_at m (first_awaiting m v))).answer (ltb-true _ 24 p) (end_small (entry_at m (first_awaiting m v))))
      go false p = rw p tt

  every_end_fits : (v : Vector) → Fits (eoi_reply (end_of_every m v).answer)
  unfolding end_of_every
  every_end_fits v = every_fits _ _ (set_of_lt 24 (ends v m)) (set_of_lt 24 (sent_by v m))

  pub end_fits : (v : Vector) → Fits (end_of_interrupt m v).reply
  unfolding end_of_interrupt end_of
  end_fits v = go (is_version20 m) refl
    where
      go : (a : Bool) → is_version20 m ≡ a → Fits (end_of_interrupt m v).reply
      go true p = rw p (every_end_fits v)
      go false p = rw p (first_end_fits v)

  pub vector_fits : (gsi : Gsi) → Fits (vector_for_gsi m gsi)
  unfolding vector_for_gsi vector_for
  vector_fits gsi = go (ltb (entry_index gsi) 24) (is_fit (entry_at m (entry_index gsi)).word) refl refl
    where
      go : (a b : Bool) → ltb (entry_index gsi) 24 ≡ a → is_fit (entry_at m (entry_index gsi)).word ≡ b → Fits (vector_for_gsi m gsi)
      go true true p q = rw (p, q) (omega arith)
      go true false p q = rw (p, q) tt
      go false b p q = rw p tt

  written_fits : (offset x : ℕ) → Fits (written_reply (write_at m offset x).answer)
  unfolding write_at write_selected write_eoi end_of_every
  written_fits offset x = go (eqb offset 0) (eqb offset 0x10) (eqb offset 0x40) (is_entry_word m.selector) (is_version20 m) refl refl refl refl refl
    where
      v : Vector
      v = record { 0 = x % 2 ^ 8 }

      go : (a b c d n : Bool) → eqb offset 0 ≡ a → eqb offset 0x10 ≡ b → eqb offset 0x40 ≡ c → is_entry_word m.selector ≡ d → is_version20 m ≡ n
          → Fits (written_reply (write_at m offset x).answer)
      go true b c d n p q r t u = rw p tt
      go false true c true n p q r t u =
          rw (p, q, t)
          (written_send_fits (write_word (is_version20 m) m.selector (entry_at m (entry_of m.selector)) x).answer (write_small (is_version20 m) m.selector (entry_at m (entry_of m.selector)) x))
      go false true c false n p q r t u = rw (p, q, t) tt
      go false false true d true p q r t u = rw (p, q, r, u) (every_write_fits _ _ (set_of_lt 24 (ends v m)) (set_of_lt 24 (sent_by v m)))
      go false false true d false p q r t u = rw (p, q, r, u) tt
      go false false false d n p q r t u = rw (p, q, r) tt

  pub write_fits : (addr width x : ℕ) → Fits (handle_write m addr width x).reply
  unfolding handle_write
  write_fits addr width x = go (good_width width) (leb m.base addr) refl refl
    where
      go : (a b : Bool) → good_width width ≡ a → leb m.base addr ≡ b → Fits (handle_write m addr width x).reply
      go true true p q = rw (p, q) (written_fits (addr - m.base) (x % 2 ^ 32))
      go true false p q = rw (p, q) tt
      go false b p q = rw p tt

-- a read's value has 32 bits
module _ (l : List ℕ) (words : (i : ℕ) → get_or l i 0 < 2 ^ 64) where
  low_half : (n : Bool) (w : ℕ) → read_low n (w % 2 ^ 32) < 2 ^ 32
  low_half true w = omega arith
  low_half false w = omega arith

  halves : (n : Bool) (sel g : ℕ) → g < 24 → read_word n sel (entry_at (view l) g) < 2 ^ 32
  unfolding read_word
  halves n sel g h = go (is_low sel) refl
    where
      go : (a : Bool) → is_low sel ≡ a → read_word n sel (entry_at (view l) g) < 2 ^ 32
      go true p = rw p (low_half n (entry_at (view l) g).word)
      go false p = rw (p, view_at l g h) (omega (arith, words g))

  fixed : (version sel : ℕ) → read_fixed version sel < 2 ^ 32
  unfolding read_fixed
  fixed version sel = go (eqb sel 0) (eqb sel 1) (eqb sel 2) (eqb version 0x20) refl refl refl refl
    where
      go : (a b c d : Bool) → eqb sel 0 ≡ a → eqb sel 1 ≡ b → eqb sel 2 ≡ c → eqb version 0x20 ≡ d → read_fixed version sel < 2 ^ 32
      go true b c d p q r t = rw p (omega arith)
      go false true c true p q r t = rw (p, q, t) (omega arith)
      go false true c false p q r t = rw (p, q, t) (omega arith)
      go false false true d p q r t = rw (p, q, r) (omega arith)
      go false false false d p q r t = rw (p, q, r) (omega arith)

  selected : read_selected (view l) < 2 ^ 32
  unfolding read_selected
  selected = go (is_entry_word (view l).selector) refl
    where
      go : (a : Bool) → is_entry_word (view l).selector ≡ a → read_selected (view l) < 2 ^ 32
      go true p =
          let k = entry_word_range (view l).selector p in
          rw p (halves (is_version20 (view l)) (view l).selector (entry_of (view l).selector) (omega (arith, k.0, k.1)))
      go false p = rw p (fixed (view l).version (view l).selector)

  register : (offset : ℕ) → read_at (view l) offset < 2 ^ 32
  unfolding read_at view
  register offset = go (eqb offset 0) (eqb offset 0x10) refl refl
    where
      go : (a b : Bool) → eqb offset 0 ≡ a → eqb offset 0x10 ≡ b → read_at (view l) offset < 2 ^ 32
      go true b p q = rw p (omega arith)
      go false true p q = rw (p, q) selected
      go false false p q = rw (p, q) (omega arith)

  pub read_fits : (addr width : ℕ) → Fits (handle_read (view l) addr width)
  unfolding handle_read
  read_fits addr width = go (good_width width) (leb (view l).base addr) refl refl
    where
      go : (a b : Bool) → good_width width ≡ a → leb (view l).base addr ≡ b → Fits (handle_read (view l) addr width)
      go true true p q = rw (p, q) (register (addr - (view l).base))
      go true false p q = rw (p, q) tt
      go false b p q = rw p tt
