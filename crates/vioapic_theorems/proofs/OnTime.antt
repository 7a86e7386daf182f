-- Demand 3 with the premises that are needed: each call's part in the count, and then a run of calls. Assumes nothing.
use Rattle.std.specs.Prelude.{Option, Some, None}
use Prim.Native.Nat.{ℕ, zero, suc, ◌+◌, ◌-◌, ◌%◌, ◌<◌}
use native.Mathlib.Omega.{arith}
use native.Mathlib.Decide.{ℕ_discrete}
use mathlib.Core.Bool.{Bool, true, false, not, cond, ◌&&◌}
use mathlib.Core.List.{List, [], ◌∷◌}
use mathlib.Core.Path.{◌≡◌, refl, sym, ◌∙◌, ap}
use borrow.Author.Tests.{eq-eqb, ne_eqb, eqb-true, lt-ltb}
use lib.Dec.{eqb, ltb}
use lib.ListN.{length}
use Rattle.utils.proofs.Bools.{never, and_true, not_is}
use Rattle.types.specs.Reply.{Outcome}
use Rattle.types.specs.declared.Gsi.{Gsi}
use Rattle.types.specs.declared.Vector.{Vector}
use Rattle.vioapic_entry.specs.Answers.{routed_reply}
use Rattle.vioapic.specs.Answers.{pending_reply, eoi_reply}
use Rattle.vioapic_entry.specs.Redirection.{EntryStep, awaits, has_vector, send_entry, raise_entry, move_line, end_entry}
use Rattle.vioapic.specs.Table.{Routing, Ending, is_version20, entry_at, put, first_awaiting, end_of, interrupt_for_entry, set_level}
use Rattle.vioapic.specs.Agreement.{Agrees}
use Rattle.vioapic.proofs.Agree.{calls_agree}
use Rattle.vioapic.specs.IoApic.{set_gsi_level, assert_gsi, end_of_interrupt, handle_write}
use Rattle.vioapic.specs.Calls.{Call, SetGsiLevel, AssertGsi, EndOfInterrupt, VectorForGsi, AddressRange, HandleRead, HandleWrite, outcome, next}
use Rattle.vioapic_entry.specs.declared.Entry.{Entry}
use Rattle.vioapic_entry.specs.declared.IoApicInterrupt.{IoApicInterrupt}
use Rattle.vioapic.specs.State.{IoApicState}
use Rattle.vioapic_theorems.specs.Rules.{implies}
use Rattle.vioapic_theorems.specs.Sends.{resends, sent, sends, is_eoi, eois, lower_in_flight}
use Rattle.vioapic_theorems.specs.Premises.{all_true, keeps_low, lower_kept, asks, own_asks, lower_rests, level_sent, lower_unsent, held, throughout}
use Rattle.vioapic_theorems.specs.Heard.{Heard}
use Rattle.vioapic_entry.proofs.Fields.{Alike, same_vector}
use Rattle.vioapic_theorems.proofs.Views.{sent_view, moved_view, Over, over_view, Routes, assert_view, level_view, Ends, ends_old, Writes, Write, write_view}
use Rattle.vioapic_theorems.proofs.Steps.{implied, one, awaiting, awaits_no, send_awaits, move_awaits, end_alike, end_again, end_rest, wrote_kept, wrote_none}
use Rattle.vioapic_theorems.proofs.Tables.{all_at, lower_put, lower_gone, first_awaits, first_lowest, first_own, first_lower}
use Rattle.vioapic_theorems.proofs.Keeps.{call_is_version20}
use Rattle.vioapic_theorems.proofs.Quiet.{Going, Quiet, aloft, quiet, replaced, idle, moves, own, only, level_idle, assert_idle, low_kept, write_quiet, begins}

-- ---- the premises of one call

pub record Held (v : Vector) (g : ℕ) (m : IoApicState) (c : Call) : Type 0 where
  pub own_asks_lem : own_asks v g m c ≡ true
  pub own_kept : keeps_low m c g ≡ true
  pub lower_rests_lem : lower_rests v g m c ≡ true
  pub lower_kept_lem : lower_kept v g m c ≡ true
  pub lower_unsent_lem : lower_unsent v g c (outcome m c).reply ≡ true

held_of : (v : Vector) (g : ℕ) (m : IoApicState) (c : Call) → all_true (held v g m c) ≡ true → Held v g m c
held_of v g m c h =
    let p = and_true (own_asks v g m c) (keeps_low m c g && (lower_rests v g m c && (lower_kept v g m c && (lower_unsent v g c (outcome m c).reply && true)))) h in
    let q = and_true (keeps_low m c g) (lower_rests v g m c && (lower_kept v g m c && (lower_unsent v g c (outcome m c).reply && true))) p.1 in
    let r = and_true (lower_rests v g m c) (lower_kept v g m c && (lower_unsent v g c (outcome m c).reply && true)) q.1 in
    let s = and_true (lower_kept v g m c) (lower_unsent v g c (outcome m c).reply && true) r.1 in
    let t = and_true (lower_unsent v g c (outcome m c).reply) true s.1 in
    record { own_asks_lem = p.0; own_kept = q.0; lower_rests_lem = r.0; lower_kept_lem = s.0; lower_unsent_lem = t.0 }

-- ---- a call's part in the count, whatever n EOIs of v come after it

record Turn (v : Vector) (g : ℕ) (m : IoApicState) (c : Call) : Type 0 where
  going : Going v g (next m c)
  count : (n : ℕ) → sent g m c (outcome m c).reply + (n - lower_in_flight v g (next m c)) ≡ cond (is_eoi v c) 1 0 + n - lower_in_flight v g m

-- a call that sends nothing for entry g, is no EOI of v, and keeps what is in flight with v below g
passes : (v : Vector) (g : ℕ) (m : IoApicState) (c : Call) → Quiet v g m c → is_eoi v c ≡ false → lower_in_flight v g (next m c) ≡ lower_in_flight v g m → Turn v g m c
passes v g m c k i l = record { going = k.going; count = λ n. rw (k.unsent, i, l) (omega arith) }

-- what an EOI's reply carries
pub resends_one : (g h : ℕ) (r : Option IoApicInterrupt) → resends g (pending_reply h r) ≡ cond (eqb h g) (one r) 0
resends_one g h None = go (eqb h g)
  where
    go : (b : Bool) → ◌≡◌ {A = ℕ} 0 (cond b 0 0)
    go true = refl
    go false = refl
resends_one g h (Some i) = refl

unsent : (h g : ℕ) (b : Bool) → not (ltb h g && b) ≡ true → h < g → b ≡ false
unsent h g b e l = let k : not b ≡ true = rw (lt-ltb h g l) at e in not_is b k

-- ---- a line is moved or asserted

line_lower : (v : Vector) (g : ℕ) (s : IoApicState) (gsi : Gsi) (step : Entry → EntryStep) (x : Routing) → length s.entries ≡ 24
    → ((e : Entry) → level_sent v (routed_reply (step e).answer) ≡ false → awaits v (step e).entry ≡ awaits v e)
    → Routes s gsi step x → not (ltb gsi.0 g && level_sent v (routed_reply x.answer)) ≡ true → lower_in_flight v g x.state ≡ lower_in_flight v g s
line_lower v g s gsi step x n t (Routes.hit l) u =
    lower_put v g s n gsi.0 (step (entry_at s gsi.0)).entry l
    (λ p. t (entry_at s gsi.0) (unsent gsi.0 g (level_sent v (routed_reply (step (entry_at s gsi.0)).answer)) u p))
line_lower v g s gsi step x n t (Routes.miss l) u = refl

-- ---- a write

write_lower : (v : Vector) (g : ℕ) (m : IoApicState) (c : Call) (addr width x : ℕ) (r : Outcome IoApicState) → is_version20 m ≡ false → length m.entries ≡ 24 → lower_kept v g m c ≡ true
    → Write m addr width x r → outcome m c ≡ r → lower_in_flight v g r.state ≡ lower_in_flight v g m
write_lower v g m c addr width x r o n d (Write.refused why) q = refl
write_lower v g m c addr width x r o n d (Write.served p l (Writes.selected y)) q = refl
write_lower v g m c addr width x r o n d (Write.served p l (Writes.eoi i e)) q = never i o
write_lower v g m c addr width x r o n d (Write.served p l (Writes.word h f i j y u)) q = lower_put v g m n h f.entry i (λ k. lower k (awaits v (entry_at m h)) refl)
  where
    lower : h < g → (a : Bool) → awaits v (entry_at m h) ≡ a → awaits v f.entry ≡ awaits v (entry_at m h)
    lower k true e =
        let t = all_at g (λ j. implies (awaits v (entry_at m j)) (keeps_low m c j)) d h k in
        let b = low_kept m c h f.entry n i (ap (λ (z : Outcome IoApicState). z.state) q) (implied (awaits v (entry_at m h)) (keeps_low m c h) t e) in
        (wrote_kept v (is_version20 m) (entry_at m h) (x % 4294967296) f o (omega arith) u b).0
    lower k false e = wrote_none v (is_version20 m) (entry_at m h) (x % 4294967296) f o u e ∙ sym e

-- ---- an EOI of another vector

other_turn : (v : Vector) (g : ℕ) (m : IoApicState) (u : Vector) (x : Ending) → Going v g m → (u.0 ≡ v.0 → ⊥) → Ends m u x
    → next m (EndOfInterrupt u) ≡ x.state → (outcome m (EndOfInterrupt u)).reply ≡ eoi_reply x.answer → Turn v g m (EndOfInterrupt u)
unfolding sent
other_turn v g m u x k n (Ends.found l) q r =
    passes v g m (EndOfInterrupt u)
    (moves v g m (EndOfInterrupt u) h (end_entry (entry_at m h)).entry k l q
    (ap (resends g) r ∙ resends_one g h (end_entry (entry_at m h)).answer ∙ only h g (one (end_entry (entry_at m h)).answer) (λ p. absurd (apart p)))
    (λ p. absurd (apart p)))
    (ne_eqb u.0 v.0 n)
    (rw q (lower_put v g m k.size h (end_entry (entry_at m h)).entry l
    (λ p. awaits_no v (end_entry (entry_at m h)).entry (λ a. differ (sym (same_vector alike v) ∙ a.vector)) ∙ sym (awaits_no v (entry_at m h) (λ a. differ a.vector)))))
  where
    h : ℕ
    h = first_awaiting m u

    alike : Alike (end_entry (entry_at m h)).entry.word (entry_at m h).word
    alike = end_alike (entry_at m h) (end_entry (entry_at m h)) (over_view (entry_at m h))

    -- the entry is of u, and so not of v
    differ : has_vector (entry_at m h).word v ≡ true → ⊥
    differ e =
        let a = awaiting u (entry_at m h) (first_awaits m u l) in
        n (sym (eqb-true ((entry_at m h).word % 256) u.0 a.vector) ∙ eqb-true ((entry_at m h).word % 256) v.0 e)

    apart : h ≡ g → ⊥
    apart p = differ (awaiting v (entry_at m h) (own v g m h k p).fly).vector
other_turn v g m u x k n (Ends.unfound l) q r = passes v g m (EndOfInterrupt u) (quiet v g m (EndOfInterrupt u) k (idle g m (EndOfInterrupt u) (aloft v g m k) (ap (λ (s : IoApicState). s.entries) q) (ap (resends g) r))) (ne_eqb u.0 v.0 n) (rw q)

-- ---- an EOI of v

own_turn : (v : Vector) (g : ℕ) (m : IoApicState) (u : Vector) (x : Ending) → Agrees m → Going v g m → u ≡ v → Held v g m (EndOfInterrupt u) → Ends m v x
    → next m (EndOfInterrupt u) ≡ x.state → (outcome m (EndOfInterrupt u)).reply ≡ eoi_reply x.answer → Turn v g m (EndOfInterrupt u)
unfolding sent
own_turn v g m u x ag k e d (Ends.unfound l) q r = absurd (let z = first_lowest m v ag g k.on.fly k.within in omega (arith, z, k.within))
own_turn v g m u x ag k e d (Ends.found l) q r = go (lower_in_flight v g m) refl
  where
    h : ℕ
    h = first_awaiting m v

    over : Over (entry_at m h) (end_entry (entry_at m h))
    over = over_view (entry_at m h)

    eoi : is_eoi v (EndOfInterrupt u) ≡ true
    eoi = eq-eqb u.0 v.0 (ap (λ (y : Vector). y.0) e)

    reply : sent g m (EndOfInterrupt u) (outcome m (EndOfInterrupt u)).reply ≡ cond (eqb h g) (one (end_entry (entry_at m h)).answer) 0
    reply = ap (resends g) r ∙ resends_one g h (end_entry (entry_at m h)).answer

    go : (n : ℕ) → lower_in_flight v g m ≡ n → Turn v g m (EndOfInterrupt u)
    go zero z =
        let p : h ≡ g = first_own m v ag g k.within k.on.fly z in
        let a : asks (entry_at m g) ≡ true = implied (is_eoi v (EndOfInterrupt u) && eqb h g) (asks (entry_at m g)) d.own_asks_lem (rw (eoi, eq-eqb h g p)) in
        let t = end_again v (entry_at m h) (end_entry (entry_at m h)) over (own v g m h k p) (rw p a) in
        let y : sent g m (EndOfInterrupt u) (outcome m (EndOfInterrupt u)).reply ≡ 1 = reply ∙ rw (eq-eqb h g p) t.1 in
        let b : lower_in_flight v g (next m (EndOfInterrupt u)) ≡ 0 = rw q (lower_put v g m k.size h (end_entry (entry_at m h)).entry l (λ j. absurd (omega arith)) ∙ z) in
        record {
          going = rw q (replaced v g m h (end_entry (entry_at m h)).entry k l (λ j. t.0));
          count = λ n. rw (y, b, z, eoi) (omega arith);
        }
    go (suc j) z =
        let p : h < g = first_lower m v ag g j z in
        let a : asks (entry_at m h) ≡ false = not_is (asks (entry_at m h)) (implied (is_eoi v (EndOfInterrupt u) && ltb h g) (not (asks (entry_at m h))) d.lower_rests_lem (rw (eoi, lt-ltb h g p))) in
        let t = end_rest v (entry_at m h) (end_entry (entry_at m h)) over a in
        let y : sent g m (EndOfInterrupt u) (outcome m (EndOfInterrupt u)).reply ≡ 0 = reply ∙ only h g (one (end_entry (entry_at m h)).answer) (λ i. t.1) in
        let s : lower_in_flight v g m ≡ suc (lower_in_flight v g (put m h (end_entry (entry_at m h)).entry)) = lower_gone v g m k.size h (end_entry (entry_at m h)).entry l p (first_awaits m v l) t.0 in
        let b : lower_in_flight v g (next m (EndOfInterrupt u)) ≡ j = rw q (omega (arith, s, z)) in
        record {
          going = rw q (replaced v g m h (end_entry (entry_at m h)).entry k l (λ i. absurd (omega arith)));
          count = λ n. rw (y, b, z, eoi) (omega arith);
        }

-- ---- any call, and a run

turn : (v : Vector) (g : ℕ) (m : IoApicState) (c : Call) → is_version20 m ≡ false → Agrees m → Going v g m → Held v g m c → Turn v g m c
unfolding outcome set_gsi_level assert_gsi end_of_interrupt sent
turn v g m (SetGsiLevel gsi b) o ag k d =
    passes v g m (SetGsiLevel gsi b) (quiet v g m (SetGsiLevel gsi b) k (level_idle g m gsi b (aloft v g m k))) refl
    (line_lower v g m gsi (λ e. move_line e b) (set_level m gsi b) k.size (λ e. move_awaits v e b (move_line e b) (moved_view e b)) (level_view m gsi b) d.lower_unsent_lem)
turn v g m (AssertGsi gsi) o ag k d =
    passes v g m (AssertGsi gsi) (quiet v g m (AssertGsi gsi) k (assert_idle g m gsi (aloft v g m k))) refl
    (line_lower v g m gsi send_entry (interrupt_for_entry m gsi) k.size (λ e. send_awaits v e (send_entry e) (sent_view e)) (assert_view m gsi) d.lower_unsent_lem)
turn v g m (EndOfInterrupt u) o ag k d = go (ℕ_discrete u.0 v.0)
  where
    go : Dec (u.0 ≡ v.0) → Turn v g m (EndOfInterrupt u)
    go (yes p) =
        let e : u ≡ v = ap (λ (n : ℕ). record { 0 = n }) p in
        own_turn v g m u (end_of m u) ag k e d (rw e (ends_old m v o)) refl refl
    go (no p) = other_turn v g m u (end_of m u) k p (ends_old m u o) refl refl
turn v g m (VectorForGsi gsi) o ag k d = passes v g m (VectorForGsi gsi) (quiet v g m (VectorForGsi gsi) k (idle g m (VectorForGsi gsi) (aloft v g m k) refl refl)) refl refl
turn v g m AddressRange o ag k d = passes v g m AddressRange (quiet v g m AddressRange k (idle g m AddressRange (aloft v g m k) refl refl)) refl refl
turn v g m (HandleRead addr width) o ag k d = passes v g m (HandleRead addr width) (quiet v g m (HandleRead addr width) k (idle g m (HandleRead addr width) (aloft v g m k) refl refl)) refl refl
turn v g m (HandleWrite addr width x) o ag k d =
    passes v g m (HandleWrite addr width x)
    (write_quiet v g m addr width x o k d.own_kept)
    refl
    (write_lower v g m (HandleWrite addr width x) addr width x (handle_write m addr width x) o k.size d.lower_kept_lem (write_view m addr width x) refl)

turns : (v : Vector) (g : ℕ) (m : IoApicState) (cs : List Call) → is_version20 m ≡ false → Agrees m → Going v g m → throughout (held v g) m cs ≡ true
    → sends g m cs ≡ eois v cs - lower_in_flight v g m
unfolding sends eois throughout
turns v g m [] o ag k h = omega arith
turns v g m (c ∷ cs) o ag k h =
    let p = and_true (all_true (held v g m c)) (throughout (held v g) (next m c) cs) h in
    let t = turn v g m c o ag k (held_of v g m c p.0) in
    rw (turns v g (next m c) cs (call_is_version20 m c ∙ o) (calls_agree m c ag) t.going p.1) (t.count (eois v cs))

-- ---- the first send

lower_raised : (s : IoApicState) (gsi : Gsi) (v : Vector) (x : Routing) → length s.entries ≡ 24 → Routes s gsi (λ e. move_line e true) x → lower_in_flight v gsi.0 x.state ≡ lower_in_flight v gsi.0 s
lower_raised s gsi v x n (Routes.hit l) = lower_put v gsi.0 s n gsi.0 (raise_entry (entry_at s gsi.0)).entry l (λ j. absurd (omega arith))
lower_raised s gsi v x n (Routes.miss l) = refl

pub heard : Heard
unfolding sends sent outcome set_gsi_level
heard m g v after o n q h =
    let b = begins m g v (set_level m g true) n.table (level_view m g true) q in
    let t = turns v g.0 (next m (SetGsiLevel g true)) after (call_is_version20 m (SetGsiLevel g true) ∙ o) (calls_agree m (SetGsiLevel g true) n) b h in
    rw (eq-eqb g.0 g.0 refl, q, t, lower_raised m g v (set_level m g true) n.table (level_view m g true))
