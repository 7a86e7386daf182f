-- An entry in flight with v after a call was so before it, unless a level request of v went with it or the word of another was put there. Assumes nothing.
use Rattle.std.specs.Prelude.{Option, Some, None}
use Prim.Native.Nat.{ℕ, ◌%◌, ◌<◌}
use native.Mathlib.Decide.{ℕ_discrete}
use mathlib.Core.Bool.{Bool, true, false, not, cond, ◌&&◌}
use mathlib.Core.Path.{◌≡◌, refl, sym, ap, ◌∙◌}
use borrow.Author.Tests.{eqb-true, ne_eqb, eq-eqb}
use lib.Dec.{eqb}
use Rattle.utils.specs.Set.{bit, set_of}
use Rattle.utils.proofs.Bools.{never, and_true, not_is}
use Rattle.utils.proofs.Laws.{bit_set_of, bit_none}
use Rattle.types.specs.Reply.{flag}
use Rattle.types.specs.declared.Gsi.{Gsi}
use Rattle.types.specs.declared.Vector.{Vector}
use Rattle.vioapic_entry.specs.Answers.{routed_reply, is_routed}
use Rattle.vioapic_entry.specs.Redirection.{EntryStep, is_level, remote_irr, has_vector, awaits, move_line, end_entry20, write_high, replace_high, with_word, store_low20}
use Rattle.vioapic_entry.specs.declared.Entry.{Entry}
use Rattle.vioapic_entry.specs.declared.IoApicInterrupt.{IoApicInterrupt}
use Rattle.vioapic_entry.proofs.Fields.{Alike, same_vector, alike_high, irr_high, irr_without}
use Rattle.vioapic.specs.State.{IoApicState}
use Rattle.vioapic.specs.Table.{Routing, is_version20, entry_at, put, ends, sent_by, end_of_every, end_of}
use Rattle.vioapic.specs.Agreement.{Agrees, end_each_in_table}
use Rattle.vioapic_theorems.specs.Premises.{level_sent}
use Rattle.vioapic_theorems.specs.Rules.{ChipRules}
use Rattle.vioapic_theorems.proofs.Keeps.{rules_of}
use Rattle.vioapic_theorems.proofs.Steps.{awaiting, awaits_yes, grounded, awaits_alike, send_awaits, move_awaits, move_flying, end_alike, stored_alike, stored_flight}
use Rattle.vioapic_theorems.proofs.Tables.{put_same, put_other, every_at}
use Rattle.vioapic_theorems.proofs.Views.{Sent, moved_view, Over, over_view20, Stored, Routes}
use Rattle.board_theorems.specs.Traced.{asked_by, asked_by_eoi, is_level_of, renames}

-- a reply's level interrupt is a level request
flag_is : (b : Bool) → eqb (flag b) 1 ≡ b
flag_is true = refl
flag_is false = refl

pub not_level : (v : Vector) (r : Option IoApicInterrupt) → is_level_of v (asked_by r) ≡ false → level_sent v (routed_reply r) ≡ false
not_level v None h = refl
not_level v (Some i) h = rw (flag_is i.level_triggered) h

-- ---- an entry of the state

-- the one that was replaced, or another
pub put_awaits : (v : Vector) (m : IoApicState) (h : ℕ) (f : Entry) (g : ℕ) → Agrees m → h < 24
    → (awaits v f ≡ true → awaits v (entry_at m h) ≡ true) → awaits v (entry_at (put m h f) g) ≡ true → awaits v (entry_at m g) ≡ true
put_awaits v m h f g a l k w = go (ℕ_discrete g h)
  where
    go : Dec (g ≡ h) → awaits v (entry_at m g) ≡ true
    go (yes e) = rw e (k (sym (ap (awaits v) (put_same m h f a.table l)) ∙ (rw e at w)))
    go (no e) = sym (ap (awaits v) (put_other m h f g e)) ∙ w

-- and it stays in flight where the one that replaces it is
pub put_stays : (v : Vector) (m : IoApicState) (h : ℕ) (f : Entry) (g : ℕ) → Agrees m → h < 24
    → (g ≡ h → awaits v f ≡ true) → awaits v (entry_at m g) ≡ true → awaits v (entry_at (put m h f) g) ≡ true
put_stays v m h f g a l k w = go (ℕ_discrete g h)
  where
    go : Dec (g ≡ h) → awaits v (entry_at (put m h f) g) ≡ true
    go (yes e) = rw e (ap (awaits v) (put_same m h f a.table l) ∙ k e)
    go (no e) = ap (awaits v) (put_other m h f g e) ∙ w

-- ---- a line

pub line_awaits : (v : Vector) (m : IoApicState) (gsi : Gsi) (up : Bool) (x : Routing) (g : ℕ) → Agrees m → Routes m gsi (λ e. move_line e up) x
    → is_level_of v (asked_by x.answer) ≡ false → awaits v (entry_at x.state g) ≡ true → awaits v (entry_at m g) ≡ true
line_awaits v m gsi up x g a (Routes.hit l) n w =
    let e : Entry = entry_at m gsi.0 in
    put_awaits v m gsi.0 (move_line e up).entry g a l
    (λ k. sym (move_awaits v e up (move_line e up) (moved_view e up) (not_level v (move_line e up).answer n)) ∙ k) w
line_awaits v m gsi up x g a (Routes.miss l) n w = w

-- an entry in flight stays so, whatever its line does
pub line_stays : (v : Vector) (m : IoApicState) (gsi : Gsi) (up : Bool) (x : Routing) (g : ℕ) → Agrees m → Routes m gsi (λ e. move_line e up) x
    → awaits v (entry_at m g) ≡ true → awaits v (entry_at x.state g) ≡ true
line_stays v m gsi up x g a (Routes.hit l) w = put_stays v m gsi.0 (move_line (entry_at m gsi.0) up).entry g a l own w
  where
    own : g ≡ gsi.0 → awaits v (move_line (entry_at m gsi.0) up).entry ≡ true
    own e =
        let w' : awaits v (entry_at m gsi.0) ≡ true = rw e at w in
        let t = awaiting v (entry_at m gsi.0) w' in
        let f = move_flying (entry_at m gsi.0) up (move_line (entry_at m gsi.0) up) (moved_view (entry_at m gsi.0) up) t.level t.flight in
        ap (λ (n : ℕ). has_vector n v && is_level n && remote_irr n) f.0 ∙ w'
line_stays v m gsi up x g a (Routes.miss l) w = w

-- ---- an EOI of u

pub end_of_new : (m : IoApicState) (u : Vector) → is_version20 m ≡ true → end_of m u ≡ end_of_every m u
unfolding end_of
end_of_new m u n = rw n

-- an entry that was ended and flies again was sent
flies_sent : (v : Vector) (e : Entry) (r : EntryStep) → Over e r → awaits v r.entry ≡ true → is_routed r.answer ≡ true
flies_sent v e r (Over.resent b a c (Sent.unfit p)) w = never w (grounded v r.entry (irr_without e.word))
flies_sent v e r (Over.resent b a c (Sent.edge p q)) w = refl
flies_sent v e r (Over.resent b a c (Sent.later p q i)) w = never i (irr_without e.word)
flies_sent v e r (Over.resent b a c (Sent.fresh p q i)) w = refl
flies_sent v e r (Over.rested a) w = never w (grounded v r.entry (irr_without e.word))

same_vectors : (u v : Vector) (w : ℕ) → has_vector w u ≡ true → has_vector w v ≡ true → u.0 ≡ v.0
same_vectors u v w p q = sym (eqb-true (w % 256) u.0 p) ∙ eqb-true (w % 256) v.0 q

module _ (m : IoApicState) (a : Agrees m) (u : Vector) where
  -- the word of lines in flight says it too
  ends_is : (g : ℕ) → g < 24 → awaits u (entry_at m g) ≡ true → ends u m g ≡ true
  ends_is g l w = rw (in_flight_lem, w)
    where
      in_flight_lem : bit m.in_flight g ≡ true
      in_flight_lem = rw a.word (bit_set_of 24 (λ h. remote_irr (entry_at m h).word) g l ∙ (awaiting u (entry_at m g) w).flight)

  some : (p : ℕ → Bool) (g : ℕ) → g < 24 → p g ≡ true → set_of 24 p ≡ 0 → ⊥
  some p g l e z = never (bit_set_of 24 p g l ∙ e) (rw z (bit_none g))

  -- where something is sent again, u is asked for
  asks_own : (v : Vector) → (set_of 24 (ends u m) ≡ 0 → ⊥) → (set_of 24 (sent_by u m) ≡ 0 → ⊥) → u.0 ≡ v.0 → is_level_of v (asked_by_eoi u (end_of_every m u).answer) ≡ true
  unfolding end_of_every
  asks_own v p q own = rw (ne_eqb (set_of 24 (ends u m)) 0 p, ne_eqb (set_of 24 (sent_by u m)) 0 q, eq-eqb u.0 v.0 own)

  -- an entry of v after it was one before it, or u is v and it is asked for
  pub every_awaits : (v : Vector) (g : ℕ) → g < 24 → is_level_of v (asked_by_eoi u (end_of_every m u).answer) ≡ false
      → awaits v (entry_at (end_of_every m u).state g) ≡ true → (awaits v (entry_at m g) ≡ true) × (u.0 ≡ v.0 → ⊥)
  every_awaits v g l n w = go (awaits u (entry_at m g)) refl
    where
      e : Entry
      e = entry_at m g

      w' : awaits v (end_each_in_table u e) ≡ true
      w' = sym (ap (awaits v) (every_at m u a g)) ∙ w

      go : (b : Bool) → awaits u (entry_at m g) ≡ b → (awaits v (entry_at m g) ≡ true) × (u.0 ≡ v.0 → ⊥)
      go true q = never asks n
        where
          flies : awaits v (end_entry20 (entry_at m g)).entry ≡ true
          flies = rw q at w'

          alike : Alike (end_entry20 (entry_at m g)).entry.word (entry_at m g).word
          alike = end_alike (entry_at m g) (end_entry20 (entry_at m g)) (over_view20 (entry_at m g))

          own : u.0 ≡ v.0
          own = same_vectors u v (entry_at m g).word (awaiting u (entry_at m g) q).vector (sym (same_vector alike v) ∙ (awaiting v (end_entry20 (entry_at m g)).entry flies).vector)

          ended : ends u m g ≡ true
          ended = ends_is g l q

          sent : sent_by u m g ≡ true
          sent = rw (ended, flies_sent v (entry_at m g) (end_entry20 (entry_at m g)) (over_view20 (entry_at m g)) flies)

          asks : is_level_of v (asked_by_eoi u (end_of_every m u).answer) ≡ true
          asks = asks_own v (some (ends u m) g l ended) (some (sent_by u m) g l sent) own
      go false q =
          let k : awaits v (entry_at m g) ≡ true = rw q at w' in
          (k, λ i. let j : u ≡ v = ap (λ (x : ℕ). record { 0 = x }) i in never k (rw (← j) q))

-- an entry of another vector stays
pub every_stays : (m : IoApicState) → Agrees m → (u v : Vector) (g : ℕ) → (u.0 ≡ v.0 → ⊥) → awaits v (entry_at m g) ≡ true → awaits v (entry_at (end_of_every m u).state g) ≡ true
every_stays m a u v g n w = ap (awaits v) (every_at m u a g) ∙ go (awaits u (entry_at m g)) refl
  where
    go : (b : Bool) → awaits u (entry_at m g) ≡ b → awaits v (cond b (end_entry20 (entry_at m g)).entry (entry_at m g)) ≡ true
    go true q = absurd (n (same_vectors u v (entry_at m g).word (awaiting u (entry_at m g) q).vector (awaiting v (entry_at m g) w).vector))
    go false q = w

-- ---- a write

level_of : (m : IoApicState) (g : ℕ) → ChipRules m → g < 24 → remote_irr (entry_at m g).word ≡ true → is_level (entry_at m g).word ≡ true
level_of m g k l = (rules_of (is_version20 m) (entry_at m g) (k.each g l)).level

pub low_awaits : (v : Vector) (m : IoApicState) (h x : ℕ) (r : EntryStep) (g : ℕ) → ChipRules m → h < 24 → Stored (entry_at m h) x r
    → is_level_of v (asked_by r.answer) ≡ false → renames v (entry_at m h).word x ≡ false → awaits v (entry_at (put m h r.entry) g) ≡ true → awaits v (entry_at m g) ≡ true
low_awaits v m h x r g k l (Stored.owed o s) n p w = put_awaits v m h r.entry g k.agrees l (λ q. never (sym sent ∙ q) rests) w
  where
    rests : awaits v (store_low20 (entry_at m h) x) ≡ false
    rests =
        grounded v (store_low20 (entry_at m h) x)
        (not_is (remote_irr (store_low20 (entry_at m h) x).word)
        (and_true (is_level (store_low20 (entry_at m h) x).word) (not (remote_irr (store_low20 (entry_at m h) x).word))
        (and_true (is_level (store_low20 (entry_at m h) x).word && not (remote_irr (store_low20 (entry_at m h) x).word)) (store_low20 (entry_at m h) x).input_level o).0).1)

    sent : awaits v r.entry ≡ awaits v (store_low20 (entry_at m h) x)
    sent = send_awaits v (store_low20 (entry_at m h) x) r s (not_level v r.answer n)
low_awaits v m h x r g k l (Stored.unowed o) n p w = put_awaits v m h (store_low20 (entry_at m h) x) g k.agrees l own w
  where
    own : awaits v (store_low20 (entry_at m h) x) ≡ true → awaits v (entry_at m h) ≡ true
    own q =
        let t = awaiting v (store_low20 (entry_at m h) x) q in
        let b = and_true (is_level x) (remote_irr (entry_at m h).word) (sym (stored_flight (entry_at m h) x) ∙ t.flight) in
        let c : has_vector x v ≡ true = sym (same_vector (stored_alike (entry_at m h) x) v) ∙ t.vector in
        awaits_yes v (entry_at m h) (record { vector = kept (has_vector (entry_at m h).word v) refl b.0 c b.1; level = level_of m h k l b.1; flight = b.1 })
      where
        kept : (d : Bool) → has_vector (entry_at m h).word v ≡ d → is_level x ≡ true → has_vector x v ≡ true → remote_irr (entry_at m h).word ≡ true → has_vector (entry_at m h).word v ≡ true
        kept true e i j z = e
        kept false e i j z = never (rw (i, j, z, e)) p

pub high_awaits : (v : Vector) (m : IoApicState) (h x g : ℕ) → Agrees m → h < 24 → awaits v (entry_at (put m h (write_high (entry_at m h) x)) g) ≡ true → awaits v (entry_at m g) ≡ true
unfolding write_high
high_awaits v m h x g a l w =
    put_awaits v m h (with_word (entry_at m h) (replace_high (entry_at m h).word x)) g a l
    (λ q. sym (awaits_alike v (with_word (entry_at m h) (replace_high (entry_at m h).word x)) (entry_at m h) (alike_high (entry_at m h).word x) (irr_high (entry_at m h).word x)) ∙ q) w

pub high_stays : (v : Vector) (m : IoApicState) (h x g : ℕ) → Agrees m → h < 24 → awaits v (entry_at m g) ≡ true → awaits v (entry_at (put m h (write_high (entry_at m h) x)) g) ≡ true
unfolding write_high
high_stays v m h x g a l w =
    put_stays v m h (with_word (entry_at m h) (replace_high (entry_at m h).word x)) g a l
    (λ e. awaits_alike v (with_word (entry_at m h) (replace_high (entry_at m h).word x)) (entry_at m h) (alike_high (entry_at m h).word x) (irr_high (entry_at m h).word x) ∙ (rw e at w)) w
