-- Nothing is lost in an outcome: each answer can be read back from its reply, a write's with its address, so equal outcomes come from equal results. Assumes nothing.
use Rattle.std.specs.Prelude.{Option, Some, None, Result, Ok, Err}
use Prim.Native.Nat.{ℕ, zero, suc, ◌+◌, ◌-◌, ◌/◌, ◌%◌, ◌^◌, ◌<◌}
use native.Mathlib.Nat.{mod-lt}
use native.Mathlib.Omega.{arith}
use mathlib.Core.Bool.{Bool, true, false, cond}
use mathlib.Core.List.{List}
use mathlib.Core.Path.{◌≡◌, refl, sym, ◌∙◌, ap, subst⁻¹}
use borrow.Author.Tests.{ltb-true, ltb-false}
use lib.Dec.{eqb, ltb, leb, lit<}
use lib.ListN.{get_or}
use lib.Seq.{ext_get_or}
use Rattle.utils.specs.Set.{bit}
use Rattle.utils.proofs.Bools.{never}
use Rattle.utils.proofs.Laws.{same_bits, bit_cut}
use Rattle.types.specs.Reply.{Outcome}
use Rattle.types.specs.declared.Refusal.TheVariants.{Unsupported, InvalidAddress}
use Rattle.types.specs.declared.Reply.{Reply}
use Rattle.types.specs.declared.Vector.{Vector}
use Rattle.types.specs.declared.Reply.TheVariants.{Refused, Nothing, One, Two, Three}
use Rattle.vioapic_entry.proofs.Same.{same, interrupt_of, interrupt_back, routed_of, routed_back}
use Rattle.vioapic_entry.specs.declared.IoApicInterrupt.{IoApicInterrupt}
use Rattle.vioapic.specs.Answers.{eoi_reply, gsi_vector_reply, read_reply, written_reply, new_reply, range_reply}
use Rattle.vioapic_entry.specs.declared.Entry.{Entry}
use Rattle.vioapic_entry.specs.Redirection.{EntryStep}
use Rattle.vioapic.specs.State.{IoApicState, entry_in, view, spare, Whole}
use Rattle.vioapic.specs.Table.{Routing, Ending, routing, ending, is_version20, entry_at, end_of_every}
use Rattle.vioapic.specs.Registers.{Writing, writing, done, is_entry_word, entry_of, write_word, written_send, entry_written, write_selected, written_by, eoi_written, write_eoi, with_selector, write_at}
use Rattle.vioapic.proofs.Words.{view_at}
use Rattle.vioapic.specs.IoApic.{routing_outcome, ending_outcome, writing_outcome, good_width, handle_writing}
use Rattle.vioapic.specs.declared.Eoi.{Eoi}
use Rattle.vioapic.specs.declared.Eoi.TheVariants.{Ended, EndedAll}
use Rattle.vioapic.specs.declared.Written.{Written}
use Rattle.vioapic.specs.declared.Written.TheVariants as written
use Rattle.vioapic.specs.declared.AddressRange.{AddressRange}
use Rattle.types.specs.declared.Refusal.{Refusal}

-- ---- answers

abbrev ended_of : ℕ → Option IoApicInterrupt → Option Eoi
ended_of g r = Some (Ended (record { gsi = record { 0 = g }; pending = r }))

abbrev eoi_of : Reply → Option Eoi
eoi_of (Refused why) = None
eoi_of Nothing = None
eoi_of (One g) = ended_of g None
eoi_of (Two cleared sent) = Some (EndedAll (record { cleared = cleared; sent = sent }))
eoi_of (Three g v l) = ended_of g (Some (interrupt_of v l))

eoi_back : (r : Option Eoi) → eoi_of (eoi_reply r) ≡ r
eoi_back None = refl
eoi_back (Some (Ended e)) = go e.gsi.0 e.pending
  where
    go : (g : ℕ) (r : Option IoApicInterrupt) → eoi_of (eoi_reply (ended_of g r)) ≡ ended_of g r
    go g None = refl
    go g (Some i) = ap (λ (x : IoApicInterrupt). ended_of g (Some x)) (interrupt_back i)
eoi_back (Some (EndedAll e)) = refl

pub eoi_reply_same : (a b : Option Eoi) → eoi_reply a ≡ eoi_reply b → a ≡ b
eoi_reply_same = same eoi_reply eoi_of eoi_back

abbrev gsi_vector_of : Reply → Option Vector
gsi_vector_of (Refused why) = None
gsi_vector_of Nothing = None
gsi_vector_of (One v) = Some (record { 0 = v })
gsi_vector_of (Two a b) = None
gsi_vector_of (Three a b c) = None

gsi_vector_back : (r : Option Vector) → gsi_vector_of (gsi_vector_reply r) ≡ r
gsi_vector_back None = refl
gsi_vector_back (Some v) = refl

pub gsi_vector_reply_same : (a b : Option Vector) → gsi_vector_reply a ≡ gsi_vector_reply b → a ≡ b
gsi_vector_reply_same = same gsi_vector_reply gsi_vector_of gsi_vector_back

abbrev read_of : Reply → Result ℕ Refusal
read_of (Refused why) = Err why
read_of Nothing = Ok 0
read_of (One x) = Ok x
read_of (Two a b) = Ok a
read_of (Three a b c) = Ok a

read_back : (r : Result ℕ Refusal) → read_of (read_reply r) ≡ r
read_back (Ok x) = refl
read_back (Err why) = refl

pub read_reply_same : (a b : Result ℕ Refusal) → read_reply a ≡ read_reply b → a ≡ b
read_reply_same = same read_reply read_of read_back

abbrev new_of : Reply → Result (Unit {0}) Refusal
new_of (Refused why) = Err why
new_of Nothing = Ok tt
new_of (One a) = Ok tt
new_of (Two a b) = Ok tt
new_of (Three a b c) = Ok tt

new_back : (r : Result (Unit {0}) Refusal) → new_of (new_reply r) ≡ r
new_back (Ok done) = refl
new_back (Err why) = refl

pub new_reply_same : (a b : Result (Unit {0}) Refusal) → new_reply a ≡ new_reply b → a ≡ b
new_reply_same = same new_reply new_of new_back

-- a write that sends and one that is an EOI may have the same reply
pub written_reply_shared :
    written_reply (Ok (written.Sent (record { vector = record { 0 = 0x30 }; level_triggered = true }))) ≡ written_reply (Ok (written.EndedAll (record { cleared = 0x30; sent = 1 })))
written_reply_shared = refl

-- but only a write to the window sends, and it is no EOI
abbrev pub Tells : Bool → Result Written Refusal → Type 0
Tells window (Ok written.Done) = Unit
Tells window (Ok (written.Sent i)) = window ≡ true
Tells window (Ok (written.EndedAll e)) = window ≡ false
Tells window (Err why) = Unit

abbrev written_of : Bool → Reply → Result Written Refusal
written_of window (Refused why) = Err why
written_of window Nothing = Ok written.Done
written_of window (One a) = Ok written.Done
written_of true (Two v l) = Ok (written.Sent (interrupt_of v l))
written_of false (Two cleared sent) = Ok (written.EndedAll (record { cleared = cleared; sent = sent }))
written_of window (Three a b c) = Ok written.Done

written_back : (window : Bool) (r : Result Written Refusal) → Tells window r → written_of window (written_reply r) ≡ r
written_back window (Ok written.Done) t = refl
written_back true (Ok (written.Sent i)) t = ap (λ (x : IoApicInterrupt). Ok (written.Sent x)) (interrupt_back i)
written_back false (Ok (written.Sent i)) t = never t refl
written_back true (Ok (written.EndedAll e)) t = never refl t
written_back false (Ok (written.EndedAll e)) t = refl
written_back window (Err why) t = refl

-- so with the place of the write known, nothing is lost
pub written_reply_same : (window : Bool) (a b : Result Written Refusal) → Tells window a → Tells window b → written_reply a ≡ written_reply b → a ≡ b
written_reply_same window a b t u e = sym (written_back window a t) ∙ ap (written_of window) e ∙ written_back window b u

abbrev between : ℕ → ℕ → Result AddressRange Refusal
between a b = Ok (record { start = a; end = b })

abbrev range_of : Reply → Result AddressRange Refusal
range_of (Refused why) = Err why
range_of Nothing = between 0 0
range_of (One a) = between a a
range_of (Two a b) = between a b
range_of (Three a b c) = between a b

range_back : (r : Result AddressRange Refusal) → range_of (range_reply r) ≡ r
range_back (Ok r) = refl
range_back (Err why) = refl

pub range_reply_same : (a b : Result AddressRange Refusal) → range_reply a ≡ range_reply b → a ≡ b
range_reply_same = same range_reply range_of range_back

-- ---- results

pub routing_same : (a b : Routing) → routing_outcome a ≡ routing_outcome b → a ≡ b
routing_same =
    same routing_outcome (λ (o : Outcome IoApicState). routing o.state (routed_of o.reply))
    (λ a. ap (routing a.state) (routed_back a.answer))

pub ending_same : (a b : Ending) → ending_outcome a ≡ ending_outcome b → a ≡ b
ending_same =
    same ending_outcome (λ (o : Outcome IoApicState). ending o.state (eoi_of o.reply))
    (λ a. ap (ending a.state) (eoi_back a.answer))

-- of a write, with its place
abbrev at_window : IoApicState → ℕ → Bool
at_window m addr = eqb (addr - m.base) 0x10

send_tells : (r : Option IoApicInterrupt) → Tells true (Ok (written_send r))
send_tells None = tt
send_tells (Some i) = refl

eoi_tells : (r : Option Eoi) → Tells false (Ok (written_by r))
eoi_tells None = tt
eoi_tells (Some (Ended e)) = tt
eoi_tells (Some (EndedAll e)) = refl

write_tells : (s : IoApicState) (offset x : ℕ) → Tells (eqb offset 0x10) (write_at s offset x).answer
unfolding write_at write_selected write_eoi
write_tells s offset x = go (eqb offset 0) (eqb offset 0x10) (eqb offset 0x40) (is_entry_word s.selector) (is_version20 s)
  where
    step : EntryStep
    step = write_word (is_version20 s) s.selector (entry_at s (entry_of s.selector)) x

    go : (a b c d n : Bool)
        → Tells b (cond a (done (with_selector s x)) (cond b (cond d (entry_written s (entry_of s.selector) step) (done s)) (cond c (cond n (eoi_written (end_of_every s (record { 0 = x % 2 ^ 8 }))) (done s)) (done s)))).answer
    go true b c d n = tt
    go false true c true n = send_tells step.answer
    go false true c false n = tt
    go false false true d true = eoi_tells (end_of_every s (record { 0 = x % 2 ^ 8 })).answer
    go false false true d false = tt
    go false false false d n = tt

pub handled_tells : (m : IoApicState) (addr width x : ℕ) → Tells (at_window m addr) (handle_writing m addr width x).answer
handled_tells m addr width x = go (good_width width) (leb m.base addr)
  where
    go : (a b : Bool)
        → Tells (at_window m addr) (cond a (cond b (write_at m (addr - m.base) (x % 2 ^ 32)) (writing m (Err InvalidAddress))) (writing m (Err Unsupported))).answer
    go true true = write_tells m (addr - m.base) (x % 2 ^ 32)
    go true false = tt
    go false b = tt

-- two writes at one address of chips at one base
pub writing_same : (m n : IoApicState) (addr width other x y : ℕ) → m.base ≡ n.base
    → writing_outcome (handle_writing m addr width x) ≡ writing_outcome (handle_writing n addr other y) → handle_writing m addr width x ≡ handle_writing n addr other y
writing_same m n addr width other x y h e =
    let a : Writing = handle_writing m addr width x in
    let b : Writing = handle_writing n addr other y in
    let t : Tells (at_window m addr) b.answer = subst⁻¹ (λ (k : ℕ). Tells (eqb (addr - k) 0x10) b.answer) h (handled_tells n addr other y) in
    let p : a.state ≡ b.state = ap (λ (o : Outcome IoApicState). o.state) e in
    let q : a.answer ≡ b.answer = written_reply_same (at_window m addr) a.answer b.answer (handled_tells m addr width x) t (ap (λ (o : Outcome IoApicState). o.reply) e) in
    λ i. writing (p i) (q i)

-- ---- words

module _ (a b : List ℕ) (v : view a ≡ view b) (s : spare a ≡ spare b) where
  entry : (g : ℕ) → g < 24 → entry_in a g ≡ entry_in b g
  entry g h = sym (view_at a g h) ∙ ap (λ (m : IoApicState). entry_at m g) v ∙ view_at b g h

  -- a word of flags: its lower bits are the entries'
  flags : (k : ℕ) → ((g : ℕ) → g < 24 → bit (get_or a k 0) g ≡ bit (get_or b k 0) g) → get_or a k 0 % 2 ^ 24 ≡ get_or b k 0 % 2 ^ 24
  flags k h =
      same_bits 24 (get_or a k 0 % 2 ^ 24) (get_or b k 0 % 2 ^ 24) (mod-lt (get_or a k 0) (lit< tt)) (mod-lt (get_or b k 0) (lit< tt))
      (λ g l. bit_cut (get_or a k 0) 24 g l ∙ h g l ∙ sym (bit_cut (get_or b k 0) 24 g l))

  beyond : (k : ℕ) → k < 8 → get_or a (24 + k) 0 ≡ get_or b (24 + k) 0
  unfolding view spare
  beyond zero h =
      let q : get_or a 24 0 / 2 ^ 24 ≡ get_or b 24 0 / 2 ^ 24 = ap (λ (l : List ℕ). get_or l 0 0) s in
      let r = flags 24 (λ g l. ap (λ (e : Entry). e.pending_level) (entry g l)) in
      omega (arith, q, r)
  beyond (suc zero) h =
      let q : get_or a 25 0 / 2 ^ 24 ≡ get_or b 25 0 / 2 ^ 24 = ap (λ (l : List ℕ). get_or l 1 0) s in
      let r = flags 25 (λ g l. ap (λ (e : Entry). e.input_level) (entry g l)) in
      omega (arith, q, r)
  beyond (suc (suc zero)) h =
      let q : get_or a 26 0 / 2 ^ 32 ≡ get_or b 26 0 / 2 ^ 32 = ap (λ (l : List ℕ). get_or l 2 0) s in
      let r : get_or a 26 0 % 2 ^ 32 ≡ get_or b 26 0 % 2 ^ 32 = ap (λ (m : IoApicState). m.selector) v in
      omega (arith, q, r)
  beyond (suc (suc (suc zero))) h = ap (λ (m : IoApicState). m.base) v
  beyond (suc (suc (suc (suc zero)))) h = ap (λ (m : IoApicState). m.size) v
  beyond (suc (suc (suc (suc (suc zero))))) h = ap (λ (m : IoApicState). m.version) v
  beyond (suc (suc (suc (suc (suc (suc zero)))))) h =
      let q : get_or a 30 0 / 2 ^ 24 ≡ get_or b 30 0 / 2 ^ 24 = ap (λ (l : List ℕ). get_or l 3 0) s in
      let r : get_or a 30 0 % 2 ^ 24 ≡ get_or b 30 0 % 2 ^ 24 = ap (λ (m : IoApicState). m.in_flight) v in
      omega (arith, q, r)
  beyond (suc (suc (suc (suc (suc (suc (suc zero))))))) h = ap (λ (l : List ℕ). get_or l 4 0) s
  beyond (suc (suc (suc (suc (suc (suc (suc (suc k)))))))) h = absurd (omega arith)

  each : (i : ℕ) (c : Bool) → ltb i 24 ≡ c → i < 32 → get_or a i 0 ≡ get_or b i 0
  each i true e h = ap (λ (d : Entry). d.word) (entry i (ltb-true i 24 e))
  each i false e h =
      let l = ltb-false i 24 e in
      let p : 24 + (i - 24) ≡ i = omega (arith, l) in
      rw (← p) (beyond (i - 24) (omega (arith, l, h)))

pub whole : Whole
whole a b h k v s = ext_get_or 0 a b (h ∙ sym k) (λ i l. each a b v s i (ltb i 24) refl (omega (arith, h, l)))
