-- Version 0x20: what each rule of an entry keeps, every call keeps of all entries. And one such thing: Delivery Status stays clear. Assumes nothing.
use Prim.Native.Nat.{ℕ, zero, suc, ◌+◌, ◌/◌, ◌%◌, ◌^◌, ◌<◌}
use native.Mathlib.Omega.{arith}
use mathlib.Core.Bool.{Bool, true, false, cond}
use mathlib.Core.List.{List, [], ◌∷◌}
use mathlib.Core.Path.{◌≡◌, refl, sym, ◌∙◌, ap, subst⁻¹}
use borrow.Author.Tests.{ne_eqb}
use lib.ListN.{length, length-set, get_or, replicate}
use Rattle.utils.specs.Set.{bit}
use Rattle.utils.proofs.Bools.{never}
use Rattle.types.specs.Reply.{Outcome}
use Rattle.types.specs.declared.Gsi.{Gsi}
use Rattle.types.specs.declared.Vector.{Vector}
use Rattle.vioapic_entry.specs.Redirection.{EntryStep, with_remote_irr, without_remote_irr, with_word, with_deferred, with_input, replace_low, replace_high, without_status, keeps_flight, store_low20, send_entry, move_line, end_entry20}
use Rattle.vioapic.specs.Table.{Routing, Ending, new_entry, no_entry, is_version20, entry_at, put, ends, end_each, map_entries, interrupt_for_entry, set_level, end_of_every, end_of}
use Rattle.vioapic.specs.IoApic.{chip_of, set_gsi_level, assert_gsi, end_of_interrupt, handle_write}
use Rattle.vioapic.specs.Calls.{Call, SetGsiLevel, AssertGsi, EndOfInterrupt, VectorForGsi, AddressRange, HandleRead, HandleWrite, outcome, next}
use Rattle.vioapic_entry.specs.declared.Entry.{Entry}
use Rattle.vioapic.specs.State.{IoApicState}
use Rattle.vioapic_theorems.specs.Rules.{AllOf, Clear, NewClear, CallsKeepClear}
use Rattle.vioapic_theorems.proofs.Views.{Sent, sent_view, Raised, Moved, moved_view, Over, over_view20, Stored, Wrote, Routes, assert_view, level_view, EndsBy, ends_by, Writes, Write, write_view}
use Rattle.vioapic_theorems.proofs.Quiet.{at_replaced}

-- what an entry keeps over each of its rules
pub record Kept (P : Entry → Type 0) : Type 0 where
  pub send : (e : Entry) (r : EntryStep) → Sent e r → P e → P r.entry
  pub move : (e : Entry) (b : Bool) (r : EntryStep) → Moved e b r → P e → P r.entry
  pub end : (e : Entry) (r : EntryStep) → Over e r → P e → P r.entry
  pub write : (n : Bool) (e : Entry) (x : ℕ) (r : EntryStep) → n ≡ true → Wrote n e x r → P e → P r.entry

-- a change of each entry of a table
at_map : (f : ℕ → Entry → Entry) (i : ℕ) (es : List Entry) (k : ℕ) → k < length es → get_or (map_entries f i es) k no_entry ≡ f (i + k) (get_or es k no_entry)
at_map f i [] k h = absurd (omega arith)
at_map f i (e ∷ es) zero h = let p : i + 0 ≡ i = omega arith in rw p
at_map f i (e ∷ es) (suc k) h = let p : i + suc k ≡ suc i + k = omega arith in rw p (at_map f (suc i) es k (omega arith))

map_long : (f : ℕ → Entry → Entry) (i : ℕ) (es : List Entry) → length (map_entries f i es) ≡ length es
map_long f i [] = refl
map_long f i (e ∷ es) = ap suc (map_long f (suc i) es)

module _ (P : Entry → Type 0) (keeps : Kept P) where
  put_keeps : (s : IoApicState) (h : ℕ) (f : Entry) → AllOf P s → h < 24 → P f → AllOf P (put s h f)
  put_keeps s h f k l r =
      record {
        table = length-set s.entries h f ∙ k.table;
        each = λ j i. at_replaced P j s h f k.table l (λ q. r) (k.each j i);
      }

  routes_keep : (s : IoApicState) (gsi : Gsi) (step : Entry → EntryStep) (x : Routing) → Routes s gsi step x → ((e : Entry) → P e → P (step e).entry) → AllOf P s → AllOf P x.state
  routes_keep s gsi step x (Routes.hit l) f k = put_keeps s gsi.0 (step (entry_at s gsi.0)).entry k l (f (entry_at s gsi.0) (k.each gsi.0 l))
  routes_keep s gsi step x (Routes.miss l) f k = k

  -- an EOI ends each entry by itself, or leaves it as it is, whatever the word of lines in flight says
  every_keeps : (s : IoApicState) (v : Vector) → AllOf P s → AllOf P (end_of_every s v).state
  unfolding end_of_every
  every_keeps s v k =
      record {
        table = map_long (end_each v s) 0 s.entries ∙ k.table;
        each = λ j l. subst⁻¹ P (at_map (end_each v s) 0 s.entries j (rw k.table l)) (turn j l (ends v s (0 + j)));
      }
    where
      turn : (j : ℕ) → j < 24 → (b : Bool) → P (cond b (end_entry20 (entry_at s j)).entry (entry_at s j))
      turn j l true = keeps.end (entry_at s j) (end_entry20 (entry_at s j)) (over_view20 (entry_at s j)) (k.each j l)
      turn j l false = k.each j l

  ends_keep : (s : IoApicState) (v : Vector) (x : Ending) → is_version20 s ≡ true → EndsBy s v x → AllOf P s → AllOf P x.state
  ends_keep s v x n (EndsBy.one o e) k = never n o
  ends_keep s v x n (EndsBy.every o) k = every_keeps s v k

  write_keeps : (m : IoApicState) (addr width x : ℕ) (o : Outcome IoApicState) → is_version20 m ≡ true → Write m addr width x o → AllOf P m → AllOf P o.state
  write_keeps m addr width x o n (Write.refused why) k = k
  write_keeps m addr width x o n (Write.served p l (Writes.selected y)) k = record { table = k.table; each = k.each }
  write_keeps m addr width x o n (Write.served p l (Writes.word h r i j e u)) k = put_keeps m h r.entry k i (keeps.write (is_version20 m) (entry_at m h) (x % 2 ^ 32) r n u (k.each h i))
  write_keeps m addr width x o n (Write.served p l (Writes.eoi i e)) k = every_keeps m (record { 0 = x % 2 ^ 32 % 2 ^ 8 }) k

  pub calls_keep : (m : IoApicState) (c : Call) → is_version20 m ≡ true → AllOf P m → AllOf P (next m c)
  unfolding outcome set_gsi_level assert_gsi end_of_interrupt
  calls_keep m (SetGsiLevel gsi b) n k = routes_keep m gsi (λ e. move_line e b) (set_level m gsi b) (level_view m gsi b) (λ e. keeps.move e b (move_line e b) (moved_view e b)) k
  calls_keep m (AssertGsi gsi) n k = routes_keep m gsi send_entry (interrupt_for_entry m gsi) (assert_view m gsi) (λ e. keeps.send e (send_entry e) (sent_view e)) k
  calls_keep m (EndOfInterrupt v) n k = ends_keep m v (end_of m v) n (ends_by m v) k
  calls_keep m (VectorForGsi gsi) n k = k
  calls_keep m AddressRange n k = k
  calls_keep m (HandleRead addr width) n k = k
  calls_keep m (HandleWrite addr width x) n k = write_keeps m addr width x (handle_write m addr width x) n (write_view m addr width x) k

-- a new chip's entries are all the same
new_at : (P : Entry → Type 0) → P new_entry → (n j : ℕ) → j < n → P (get_or (replicate n new_entry) j no_entry)
new_at P p zero j h = absurd (omega arith)
new_at P p (suc n) zero h = p
new_at P p (suc n) (suc j) h = new_at P p n j (omega arith)

pub new_all : (P : Entry → Type 0) → P new_entry → (version base size : ℕ) → AllOf P (chip_of version base size)
new_all P p version base size = record { table = refl; each = λ j l. new_at P p 24 j l }

-- ---- Delivery Status

-- bit 12 stands below Remote IRR, and in the low word
low_bits : (u w : ℕ) → u % 16384 ≡ w % 16384 → bit u 12 ≡ bit w 12
low_bits u w e =
    let b : (n : ℕ) → n / 4096 % 2 ≡ n % 16384 / 4096 % 2 = λ n. omega arith in
    let q : u / 4096 % 2 ≡ w / 4096 % 2 = b u ∙ ap (λ (n : ℕ). n / 4096 % 2) e ∙ sym (b w) in
    rw q

status_with : (w : ℕ) → bit (with_remote_irr w) 12 ≡ bit w 12
status_with w = low_bits (with_remote_irr w) w (omega arith)

status_without : (w : ℕ) → bit (without_remote_irr w) 12 ≡ bit w 12
status_without w = low_bits (without_remote_irr w) w (omega arith)

status_high : (w x : ℕ) → bit (replace_high w x) 12 ≡ bit w 12
status_high w x = low_bits (replace_high w x) w (omega arith)

status_low : (w x : ℕ) → bit (replace_low w x) 12 ≡ bit x 12
status_low w x = low_bits (replace_low w x) x (omega arith)

status_cleared : (x : ℕ) → bit (without_status x) 12 ≡ false
status_cleared x = ne_eqb (without_status x / 4096 % 2) 1 (omega arith)

stored_clear : (e : Entry) (x : ℕ) → Clear (store_low20 e x)
unfolding store_low20
stored_clear e x = go (keeps_flight e.word x)
  where
    go : (b : Bool) → bit (cond b (with_remote_irr (replace_low e.word (without_status x))) (replace_low e.word (without_status x))) 12 ≡ false
    go true = status_with (replace_low e.word (without_status x)) ∙ status_low e.word (without_status x) ∙ status_cleared x
    go false = status_low e.word (without_status x) ∙ status_cleared x

send_clear : (e : Entry) (r : EntryStep) → Sent e r → Clear e → Clear r.entry
send_clear e r (Sent.unfit p) k = k
send_clear e r (Sent.edge p q) k = k
send_clear e r (Sent.later p q i) k = k
send_clear e r (Sent.fresh p q i) k = status_with e.word ∙ k

move_clear : (e : Entry) (b : Bool) (r : EntryStep) → Moved e b r → Clear e → Clear r.entry
move_clear e b r (Moved.up (Raised.again p q)) k = k
move_clear e b r (Moved.up (Raised.raised s)) k = send_clear (with_input e true) r s k
move_clear e b r Moved.down k = k

end_clear : (e : Entry) (r : EntryStep) → Over e r → Clear e → Clear r.entry
end_clear e r (Over.resent b a c s) k = send_clear (with_deferred (with_word e (without_remote_irr e.word)) b) r s (status_without e.word ∙ k)
end_clear e r (Over.rested a) k = status_without e.word ∙ k

wrote_clear : (n : Bool) (e : Entry) (x : ℕ) (r : EntryStep) → n ≡ true → Wrote n e x r → Clear e → Clear r.entry
wrote_clear n e x r new (Wrote.kept o b c) k = never new o
wrote_clear n e x r new (Wrote.changed o c) k = never new o
wrote_clear n e x r new (Wrote.stored o (Stored.owed h s)) k = send_clear (store_low20 e x) r s (stored_clear e x)
wrote_clear n e x r new (Wrote.stored o (Stored.unowed h)) k = stored_clear e x
wrote_clear n e x r new Wrote.high k = status_high e.word x ∙ k

pub calls_keep_clear : CallsKeepClear
calls_keep_clear m c n k =
    calls_keep Clear (record { send = send_clear; move = move_clear; end = end_clear; write = wrote_clear }) m c n k

pub new_clear : NewClear
new_clear version base size = new_all Clear refl version base size
