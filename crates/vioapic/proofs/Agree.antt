-- The word of lines in flight agrees with the table on a new chip, and after every public call on a chip where it agreed. Assumes nothing.
use Rattle.std.specs.Prelude.{None}
use Prim.Native.Nat.{ℕ, ◌-◌, ◌%◌, ◌^◌}
use native.Mathlib.Omega.{arith}
use mathlib.Core.Bool.{Bool, true, false, cond}
use mathlib.Core.List.{[], ◌∷◌}
use mathlib.Core.Path.{◌≡◌, refl, ◌∙◌, subst⁻¹}
use borrow.Author.Tests.{ltb-true}
use lib.Dec.{eqb, ltb, leb}
use lib.ListN.{length-map}
use Rattle.types.specs.Counters.{entry_index}
use Rattle.types.specs.declared.Gsi.{Gsi}
use Rattle.types.specs.declared.Vector.{Vector}
use Rattle.vioapic_entry.specs.Redirection.{EntryStep, send_entry, move_line, end_entry}
use Rattle.vioapic.specs.State.{IoApicState}
use Rattle.vioapic.specs.Table.{Ending, entry_at, route_at, unrouted, end_at, ending, interrupt_for_entry, set_level, first_awaiting, end_of_entry, end_of_every, is_version20, end_of}
use Rattle.vioapic.specs.Registers.{is_entry_word, entry_of, write_word, done, entry_written, write_selected, eoi_written, write_eoi, with_selector, write_at}
use Rattle.vioapic.specs.IoApic.{good_width, assert_gsi, set_gsi_level, end_of_interrupt, handle_write}
use Rattle.vioapic.specs.Calls.{SetGsiLevel, AssertGsi, EndOfInterrupt, VectorForGsi, AddressRange, HandleRead, HandleWrite, outcome, next, run}
use Rattle.vioapic.specs.Agreement.{Agrees, end_each_in_table, end_of_every_in_table, NewAgrees, CallsAgree, RunsAgree}
use Rattle.vioapic.proofs.Ways.{entry_word_range}
use Rattle.vioapic.proofs.Flight.{put_agrees}
use Rattle.vioapic.proofs.Every.{every_in_table}

pub new_agrees : NewAgrees
new_agrees version base size = record { table = refl; word = refl }

module _ (s : IoApicState) (k : Agrees s) where
  -- an entry takes a step, or there is none
  routed : (g : ℕ) (r : EntryStep) (b : Bool) → ltb g 24 ≡ b → Agrees (cond b (route_at s g r) (unrouted s)).state
  routed g r true e = put_agrees s g r.entry k (ltb-true g 24 e)
  routed g r false e = k

  asserted : (gsi : Gsi) → Agrees (interrupt_for_entry s gsi).state
  unfolding interrupt_for_entry
  asserted gsi = routed (entry_index gsi) (send_entry (entry_at s (entry_index gsi))) (ltb (entry_index gsi) 24) refl

  moved : (gsi : Gsi) (up : Bool) → Agrees (set_level s gsi up).state
  unfolding set_level
  moved gsi up = routed (entry_index gsi) (move_line (entry_at s (entry_index gsi)) up) (ltb (entry_index gsi) 24) refl

  first_ended : (v : Vector) → Agrees (end_of_entry s v).state
  unfolding end_of_entry
  first_ended v = go (ltb (first_awaiting s v) 24) refl
    where
      go : (b : Bool) → ltb (first_awaiting s v) 24 ≡ b → Agrees (cond b (end_at s (first_awaiting s v)) (ending s None)).state
      go true e = put_agrees s (first_awaiting s v) (end_entry (entry_at s (first_awaiting s v))).entry k (ltb-true (first_awaiting s v) 24 e)
      go false e = k

  -- what the EOI by the table leaves agrees
  pub every_ended : (v : Vector) → Agrees (end_of_every s v).state
  unfolding end_of_every_in_table
  every_ended v =
      subst⁻¹ (λ (x : Ending). Agrees x.state) (every_in_table s v k) (record { table = length-map s.entries (end_each_in_table v) ∙ k.table; word = refl })

  ended : (v : Vector) → Agrees (end_of s v).state
  unfolding end_of
  ended v = go (is_version20 s)
    where
      go : (b : Bool) → Agrees (cond b (end_of_every s v) (end_of_entry s v)).state
      go true = every_ended v
      go false = first_ended v

  window : (x : ℕ) → Agrees (write_selected s x).state
  unfolding write_selected
  window x = go (is_entry_word s.selector) refl
    where
      go : (b : Bool) → is_entry_word s.selector ≡ b
          → Agrees (cond b (entry_written s (entry_of s.selector) (write_word (is_version20 s) s.selector (entry_at s (entry_of s.selector)) x)) (done s)).state
      go true e =
          let r = entry_word_range s.selector e in
          put_agrees s (entry_of s.selector) (write_word (is_version20 s) s.selector (entry_at s (entry_of s.selector)) x).entry k (omega (arith, r.0, r.1))
      go false e = k

  eoi : (x : ℕ) → Agrees (write_eoi s x).state
  unfolding write_eoi
  eoi x = go (is_version20 s)
    where
      go : (b : Bool) → Agrees (cond b (eoi_written (end_of_every s (record { 0 = x % 2 ^ 8 }))) (done s)).state
      go true = every_ended (record { 0 = x % 2 ^ 8 })
      go false = k

  written : (offset x : ℕ) → Agrees (write_at s offset x).state
  unfolding write_at
  written offset x = go (eqb offset 0) (eqb offset 0x10) (eqb offset 0x40)
    where
      go : (a b c : Bool) → Agrees (cond a (done (with_selector s x)) (cond b (write_selected s x) (cond c (write_eoi s x) (done s)))).state
      go true b c = record { table = k.table; word = k.word }
      go false true c = window x
      go false false true = eoi x
      go false false false = k

pub calls_agree : CallsAgree
unfolding outcome set_gsi_level assert_gsi end_of_interrupt handle_write
calls_agree m (SetGsiLevel gsi up) k = moved m k gsi up
calls_agree m (AssertGsi gsi) k = asserted m k gsi
calls_agree m (EndOfInterrupt v) k = ended m k v
calls_agree m (VectorForGsi gsi) k = k
calls_agree m AddressRange k = k
calls_agree m (HandleRead addr width) k = k
calls_agree m (HandleWrite addr width x) k = go (good_width width) (leb m.base addr) refl refl
  where
    go : (a b : Bool) → good_width width ≡ a → leb m.base addr ≡ b → Agrees (handle_write m addr width x).state
    go true true p q = rw (p, q) (written m k (addr - m.base) (x % 2 ^ 32))
    go true false p q = rw (p, q) k
    go false b p q = rw p k

pub runs_agree : RunsAgree
unfolding run
runs_agree m [] k = k
runs_agree m (c ∷ cs) k = runs_agree (next m c) cs (calls_agree m c k)
