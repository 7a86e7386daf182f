-- What each rule does to an entry that is in flight, and what it keeps. Assumes nothing.
use Rattle.std.specs.Prelude.{Option, Some, None}
use Prim.Native.Nat.{ℕ, ◌/◌, ◌%◌, ◌^◌, ◌<◌}
use native.Mathlib.Omega.{arith}
use mathlib.Core.Bool.{Bool, true, false, not, cond, ◌&&◌, ◌||◌}
use mathlib.Core.Path.{◌≡◌, refl, sym, ◌∙◌, ap}
use borrow.Author.Tests.{eq-eqb, eqb-true}
use Rattle.utils.proofs.Bools.{never, and_true, both}
use Rattle.types.specs.Reply.{flag}
use Rattle.types.specs.declared.Vector.{Vector}
use Rattle.types.specs.declared.Reply.{Reply}
use Rattle.types.specs.declared.Reply.TheVariants.{Refused, Nothing, One, Two, Three}
use Rattle.vioapic_entry.specs.Answers.{routed_reply}
use Rattle.vioapic_entry.specs.Redirection.{EntryStep, is_fit, is_level, remote_irr, has_vector, awaits, low_part, with_remote_irr, without_remote_irr, with_word, with_deferred, with_input, is_masked, quietly, send_entry, end_entry20, without_status, same_low20, keeps_deferred, store_low20}
use Rattle.vioapic_entry.specs.declared.Entry.{Entry}
use Rattle.vioapic_entry.specs.declared.IoApicInterrupt.{IoApicInterrupt}
use Rattle.vioapic_theorems.specs.Rules.{implies}
use Rattle.vioapic_theorems.specs.Premises.{asks, level_sent}
use Rattle.vioapic_entry.proofs.Fields.{Alike, alike_refl, alike_then, same_fit, same_level, same_vector, alike_with, alike_without, alike_high, irr_with, irr_without, irr_low, irr_high, low_written, alike_low20, irr_low20}
use Rattle.vioapic_entry.proofs.EntryLaws.{owed_level, owed_grounded}
use Rattle.vioapic_theorems.proofs.Views.{Sent, sent_view, Raised, Moved, Over, Stored, Wrote}

pub implied : (a b : Bool) → implies a b ≡ true → a ≡ true → b ≡ true
implied true b e h = e
implied false b e h = never h refl

pub imply : (a b : Bool) → (a ≡ true → b ≡ true) → implies a b ≡ true
imply true b f = f refl
imply false b f = refl

-- 1 for an interrupt, 0 for none
abbrev pub one : Option IoApicInterrupt → ℕ
one None = 0
one (Some i) = 1

-- ---- an entry in flight with v

pub record Awaiting (v : Vector) (e : Entry) : Type 0 where
  pub vector : has_vector e.word v ≡ true
  pub level : is_level e.word ≡ true
  pub flight : remote_irr e.word ≡ true

pub awaiting : (v : Vector) (e : Entry) → awaits v e ≡ true → Awaiting v e
awaiting v e h =
    let p = and_true (has_vector e.word v && is_level e.word) (remote_irr e.word) h in
    let q = and_true (has_vector e.word v) (is_level e.word) p.0 in
    record { vector = q.0; level = q.1; flight = p.1 }

pub awaits_yes : (v : Vector) (e : Entry) → Awaiting v e → awaits v e ≡ true
awaits_yes v e a = rw (a.vector, a.level, a.flight)

pub awaits_no : (v : Vector) (e : Entry) → (Awaiting v e → ⊥) → awaits v e ≡ false
awaits_no v e n = go (awaits v e) refl
  where
    go : (b : Bool) → awaits v e ≡ b → b ≡ false
    go true q = absurd (n (awaiting v e q))
    go false q = refl

pub grounded : (v : Vector) (e : Entry) → remote_irr e.word ≡ false → awaits v e ≡ false
grounded v e h = awaits_no v e (λ a. never a.flight h)

pub awaits_alike : (v : Vector) (f e : Entry) → Alike f.word e.word → remote_irr f.word ≡ remote_irr e.word → awaits v f ≡ awaits v e
awaits_alike v f e a h = rw (same_vector a v, same_level a, h)

-- ---- sending

-- unless a level interrupt of v is sent, the entry is in flight with v as before
pub send_awaits : (v : Vector) (e : Entry) (r : EntryStep) → Sent e r → level_sent v (routed_reply r.answer) ≡ false → awaits v r.entry ≡ awaits v e
send_awaits v e r (Sent.unfit p) n = refl
send_awaits v e r (Sent.edge p q) n = refl
send_awaits v e r (Sent.later p q i) n = refl
send_awaits v e r (Sent.fresh p q i) n = other ∙ sym (grounded v e i)
  where
    level : is_level (with_remote_irr e.word) ≡ true
    level = same_level (alike_with e.word) ∙ q

    other : awaits v (with_word e (with_remote_irr e.word)) ≡ false
    other = awaits_no v (with_word e (with_remote_irr e.word)) (λ a. never (rw (a.vector, level)) n)

-- an entry in flight isn't sent, and its register stays
pub send_flying : (e : Entry) (r : EntryStep) → Sent e r → is_level e.word ≡ true → remote_irr e.word ≡ true → (r.entry.word ≡ e.word) × (one r.answer ≡ 0)
send_flying e r (Sent.unfit p) l f = (refl, refl)
send_flying e r (Sent.edge p q) l f = never l q
send_flying e r (Sent.later p q i) l f = (refl, refl)
send_flying e r (Sent.fresh p q i) l f = never f i

-- what a level interrupt of v leaves: an entry in flight with v, fit to be sent
pub record Flying (v : Vector) (e : Entry) : Type 0 where
  pub fly : awaits v e ≡ true
  pub fit : is_fit e.word ≡ true

-- a fit level entry of v that isn't in flight is sent, and flies
pub send_fresh : (v : Vector) (e : Entry) (r : EntryStep) → Sent e r → has_vector e.word v ≡ true → is_level e.word ≡ true → is_fit e.word ≡ true → remote_irr e.word ≡ false
    → Flying v r.entry × (one r.answer ≡ 1)
send_fresh v e r (Sent.unfit p) s l f i = never f p
send_fresh v e r (Sent.edge p q) s l f i = never l q
send_fresh v e r (Sent.later p q j) s l f i = never j i
send_fresh v e r (Sent.fresh p q j) s l f i =
    let a = alike_with e.word in (
      record {
        fly = awaits_yes v (with_word e (with_remote_irr e.word)) (record { vector = same_vector a v ∙ s; level = same_level a ∙ l; flight = irr_with e.word });
        fit = same_fit a ∙ f;
      },
      refl,
    )

-- the two values of a line's reply
abbrev vector_in : Reply → ℕ
vector_in (Two v l) = v
vector_in (Refused why) = 0
vector_in Nothing = 0
vector_in (One a) = 0
vector_in (Three a b c) = 0

abbrev level_in : Reply → ℕ
level_in (Two v l) = l
level_in (Refused why) = 0
level_in Nothing = 0
level_in (One a) = 0
level_in (Three a b c) = 0

flag_one : (b : Bool) → flag b ≡ 1 → b ≡ true
flag_one true e = refl
flag_one false e = absurd (omega arith)

-- and whoever answers with a level interrupt of v was such an entry
pub sent_level : (v : Vector) (e : Entry) (r : EntryStep) → Sent e r → routed_reply r.answer ≡ Two v.0 1
    → (has_vector e.word v ≡ true) × (is_level e.word ≡ true) × Flying v r.entry
sent_level v e r (Sent.unfit p) h = absurd (let z : 0 ≡ 1 = ap level_in h in omega arith)
sent_level v e r (Sent.edge p q) h = never (flag_one (is_level e.word) (ap level_in h)) q
sent_level v e r (Sent.later p q i) h = absurd (let z : 0 ≡ 1 = ap level_in h in omega arith)
sent_level v e r (Sent.fresh p q i) h =
    let s : has_vector e.word v ≡ true = sym (same_vector (alike_with e.word) v) ∙ eq-eqb (with_remote_irr e.word % 2 ^ 8) v.0 (ap vector_in h) in
    (s, q, (send_fresh v e r (Sent.fresh p q i) s q p i).0)

-- ---- the line

pub raise_awaits : (v : Vector) (e : Entry) (r : EntryStep) → Raised e r → level_sent v (routed_reply r.answer) ≡ false → awaits v r.entry ≡ awaits v e
raise_awaits v e r (Raised.again p q) n = refl
raise_awaits v e r (Raised.raised s) n = send_awaits v (with_input e true) r s n

pub move_awaits : (v : Vector) (e : Entry) (b : Bool) (r : EntryStep) → Moved e b r → level_sent v (routed_reply r.answer) ≡ false → awaits v r.entry ≡ awaits v e
move_awaits v e b r (Moved.up s) n = raise_awaits v e r s n
move_awaits v e b r Moved.down n = refl

pub move_flying : (e : Entry) (b : Bool) (r : EntryStep) → Moved e b r → is_level e.word ≡ true → remote_irr e.word ≡ true → (r.entry.word ≡ e.word) × (one r.answer ≡ 0)
move_flying e b r (Moved.up (Raised.again p q)) l f = (refl, refl)
move_flying e b r (Moved.up (Raised.raised s)) l f = send_flying (with_input e true) r s l f
move_flying e b r Moved.down l f = (refl, refl)

pub raised_level : (v : Vector) (e : Entry) (r : EntryStep) → Raised e r → routed_reply r.answer ≡ Two v.0 1
    → (has_vector e.word v ≡ true) × (is_level e.word ≡ true) × Flying v r.entry
raised_level v e r (Raised.again p q) h = absurd (let z : 0 ≡ 1 = ap level_in h in omega arith)
raised_level v e r (Raised.raised s) h = sent_level v (with_input e true) r s h

-- a sending doesn't move the line, and a raised line is up
pub send_input : (e : Entry) (r : EntryStep) → Sent e r → r.entry.input_level ≡ e.input_level
send_input e r (Sent.unfit p) = refl
send_input e r (Sent.edge p q) = refl
send_input e r (Sent.later p q i) = refl
send_input e r (Sent.fresh p q i) = refl

pub raise_input : (e : Entry) (r : EntryStep) → Raised e r → r.entry.input_level ≡ true
raise_input e r (Raised.again p q) = refl
raise_input e r (Raised.raised s) = send_input (with_input e true) r s

-- ---- the end

-- the vector of an entry stays over its end
send_alike : (e : Entry) (r : EntryStep) → Sent e r → Alike r.entry.word e.word
send_alike e r (Sent.unfit p) = alike_refl e.word
send_alike e r (Sent.edge p q) = alike_refl e.word
send_alike e r (Sent.later p q i) = alike_refl e.word
send_alike e r (Sent.fresh p q i) = alike_with e.word

pub end_alike : (e : Entry) (r : EntryStep) → Over e r → Alike r.entry.word e.word
end_alike e r (Over.resent b a c s) = alike_then (send_alike (with_deferred (with_word e (without_remote_irr e.word)) b) r s) (alike_without e.word)
end_alike e r (Over.rested a) = alike_without e.word

-- an entry that asks is sent again and flies again
pub end_again : (v : Vector) (e : Entry) (r : EntryStep) → Over e r → Flying v e → asks e ≡ true → Flying v r.entry × (one r.answer ≡ 1)
end_again v e r (Over.resent b a c s) k h =
    let n = awaiting v e k.fly in
    let m = alike_without e.word in
    send_fresh v (with_deferred (with_word e (without_remote_irr e.word)) b) r s (same_vector m v ∙ n.vector) (same_level m ∙ n.level) (same_fit m ∙ k.fit) (irr_without e.word)
end_again v e r (Over.rested a) k h = never h a

-- and one that doesn't ask is at rest
pub end_rest : (v : Vector) (e : Entry) (r : EntryStep) → Over e r → asks e ≡ false → (awaits v r.entry ≡ false) × (one r.answer ≡ 0)
end_rest v e r (Over.resent b a c s) h = never a h
end_rest v e r (Over.rested a) h = (grounded v (with_deferred (with_word e (without_remote_irr e.word)) false) (irr_without e.word), refl)

pub end_input : (e : Entry) (r : EntryStep) → Over e r → r.entry.input_level ≡ e.input_level
end_input e r (Over.resent b a c s) = send_input (with_deferred (with_word e (without_remote_irr e.word)) b) r s
end_input e r (Over.rested a) = refl

-- what was deferred is as before where the entry isn't in flight, and in version 0x20 nothing is deferred after an EOI
send_pending : (e : Entry) (r : EntryStep) → Sent e r → remote_irr e.word ≡ false → r.entry.pending_level ≡ e.pending_level
send_pending e r (Sent.unfit p) h = refl
send_pending e r (Sent.edge p q) h = refl
send_pending e r (Sent.later p q i) h = never i h
send_pending e r (Sent.fresh p q i) h = refl

pub end_pending : (e : Entry) → (end_entry20 e).entry.pending_level ≡ false
unfolding end_entry20
end_pending e = go (e.input_level || e.pending_level)
  where
    f : Entry
    f = with_deferred (with_word e (without_remote_irr e.word)) false

    go : (b : Bool) → (cond b (send_entry f) (quietly f)).entry.pending_level ≡ false
    go true = send_pending f (send_entry f) (sent_view f) (irr_without e.word)
    go false = refl

-- ---- the guest's writes, version 0x11

-- nothing is sent
pub wrote_quiet : (n : Bool) (e : Entry) (x : ℕ) (r : EntryStep) → n ≡ false → Wrote n e x r → r.answer ≡ None
wrote_quiet n e x r old (Wrote.kept o b c) = refl
wrote_quiet n e x r old (Wrote.changed o c) = refl
wrote_quiet n e x r old (Wrote.stored o s) = never o old
wrote_quiet n e x r old Wrote.high = refl

-- with the low word kept, the entry is in flight as before, and as fit
pub wrote_kept : (v : Vector) (n : Bool) (e : Entry) (x : ℕ) (r : EntryStep) → n ≡ false → x < 4294967296 → Wrote n e x r → low_part r.entry.word ≡ low_part e.word
    → (awaits v r.entry ≡ awaits v e) × (is_fit r.entry.word ≡ is_fit e.word)
wrote_kept v n e x r old h (Wrote.kept o b c) q = (refl, refl)
wrote_kept v n e x r old h (Wrote.changed o c) q = absurd (c (sym q ∙ low_written e.word x h))
wrote_kept v n e x r old h (Wrote.stored o s) q = never o old
wrote_kept v n e x r old h Wrote.high q = (awaits_alike v r.entry e (alike_high e.word x) (irr_high e.word x), same_fit (alike_high e.word x))

-- and no write puts an entry in flight
pub wrote_none : (v : Vector) (n : Bool) (e : Entry) (x : ℕ) (r : EntryStep) → n ≡ false → Wrote n e x r → awaits v e ≡ false → awaits v r.entry ≡ false
wrote_none v n e x r old (Wrote.kept o b c) q = q
wrote_none v n e x r old (Wrote.changed o c) q = grounded v r.entry (irr_low e.word x)
wrote_none v n e x r old (Wrote.stored o s) q = never o old
wrote_none v n e x r old Wrote.high q = awaits_alike v r.entry e (alike_high e.word x) (irr_high e.word x) ∙ q

-- ---- the guest's writes, version 0x20

-- bit 15 stands above Delivery Status and Remote IRR, and in the low word
level_status : (w : ℕ) → is_level (without_status w) ≡ is_level w
level_status w =
    let e : without_status w / 8192 ≡ w / 8192 = omega arith in
    let t : (n : ℕ) → n / 32768 ≡ n / 8192 / 4 = λ n. omega arith in
    let b : without_status w / 32768 ≡ w / 32768 = t (without_status w) ∙ ap (λ (n : ℕ). n / 4) e ∙ sym (t w) in
    rw b

level_low : (w : ℕ) → is_level (low_part w) ≡ is_level w
level_low w =
    let b : w % 4294967296 / 32768 % 2 ≡ w / 32768 % 2 = omega arith in
    same_level (alike_without (w % 4294967296)) ∙ rw b

-- so that the same low word has the same trigger mode
pub same_trigger : (w x : ℕ) → same_low20 w x ≡ true → is_level w ≡ is_level x
same_trigger w x h =
    let e = eqb-true (low_part (without_status w)) (without_remote_irr (without_status x)) h in
    sym (level_low (without_status w) ∙ level_status w) ∙ ap is_level e ∙ same_level (alike_without (without_status x)) ∙ level_status x

module _ (e : Entry) (x : ℕ) where
  -- the entry as it is stored: the fields of the word that was written, in flight as before if that is level, the line as it is
  pub stored_alike : Alike (store_low20 e x).word x
  unfolding store_low20
  stored_alike = alike_low20 e.word x

  pub stored_flight : remote_irr (store_low20 e x).word ≡ (is_level x && remote_irr e.word)
  unfolding store_low20
  stored_flight = irr_low20 e.word x

  pub stored_input : (store_low20 e x).input_level ≡ e.input_level
  unfolding store_low20
  stored_input = both (λ (f : Entry). f.input_level ≡ e.input_level) (keeps_deferred e.word x) e (with_deferred e false) refl refl

  -- what is deferred then was deferred, and the low word is the same
  pub stored_pending : (store_low20 e x).pending_level ≡ true → (same_low20 e.word x ≡ true) × (e.pending_level ≡ true)
  unfolding store_low20
  stored_pending = go (same_low20 e.word x) (is_masked x) refl
    where
      go : (a b : Bool) → same_low20 e.word x ≡ a → (cond (a && not b) e (with_deferred e false)).pending_level ≡ true → (a ≡ true) × (e.pending_level ≡ true)
      go true true p h = never h refl
      go true false p h = (refl, h)
      go false b p h = never h refl

-- an entry in flight isn't sent by a write, and flies on if that leaves it level
pub wrote_aloft : (n : Bool) (e : Entry) (x : ℕ) (r : EntryStep) → n ≡ true → Wrote n e x r → remote_irr e.word ≡ true → is_level r.entry.word ≡ true
    → (remote_irr r.entry.word ≡ true) × (one r.answer ≡ 0)
wrote_aloft n e x r new (Wrote.kept o b c) f l = never new o
wrote_aloft n e x r new (Wrote.changed o c) f l = never new o
wrote_aloft n e x r new (Wrote.stored o (Stored.owed h s)) f l =
    let p : is_level x ≡ true = sym (same_level (stored_alike e x)) ∙ owed_level (store_low20 e x) h in
    never (stored_flight e x ∙ rw (p, f)) (owed_grounded (store_low20 e x) h)
wrote_aloft n e x r new (Wrote.stored o (Stored.unowed h)) f l =
    let p : is_level x ≡ true = sym (same_level (stored_alike e x)) ∙ l in
    (stored_flight e x ∙ rw (p, f), refl)
wrote_aloft n e x r new Wrote.high f l = (irr_high e.word x ∙ f, refl)
