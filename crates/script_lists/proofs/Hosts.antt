-- A step of a host. Assumes nothing.
use mathlib.Core.Path.{◌≡◌, refl, sym, ap}
use mathlib.Core.Bool.{Bool, true, false, cond}
use mathlib.Core.List.{List}
use Prim.Native.Nat.{ℕ, ◌+◌, ◌≤◌}
use native.Mathlib.Omega.{arith}
use lib.Dec.{ltb}
use lib.ListN.{length, get_or}
use borrow.Author.Tests.{ltb-false}
use Rattle.types.specs.declared.Reply.{Reply}
use Rattle.types.specs.Reply.{Outcome, outcome_of}
use Rattle.script_format.specs.declared.Cursor.{Cursor}
use Rattle.script_format.specs.Fields.{Good, Bad, end_at, body_at, field_of}
use Rattle.script_machine.specs.declared.Stop.TheVariants.{BadField}
use Rattle.script_machine.specs.declared.Machine as declared
use Rattle.script_machine.specs.Machine.{Machine, machine_in, machine_of}
use Rattle.script_machine.specs.Run.{Step, did, stopped, step_of}
use Rattle.script_machine.proofs.Places as machine
use Rattle.vpic.specs.Words.{PicState, view}
use Rattle.waiting.specs.Lists.{Lists, lists_in}
use Rattle.waiting_claims.specs.Claims.{host}
use Rattle.script_lists.specs.declared.ListCall.{ListCall}
use Rattle.std.specs.Prelude.{Option, Some, None, Result, Ok, Err}
use Rattle.script_format.specs.declared.BadField.{BadField as NoField}
use Rattle.script_format.specs.declared.Field.{Field}
use Rattle.script_lists.specs.Fields.{Other, decoded, list_field_at}
use Rattle.script_lists.specs.Steps.{list_outcome, HostStep, step_with, host_step_by, host_step, host_step_in}

-- a call of the lists alone, and its reply
pub on_lists_lem : (s : Lists) (p : PicState) (r r' : Reply) (o : Outcome Lists) → r ≡ r' → outcome_of s r' ≡ o → outcome_of (host s p) r ≡ outcome_of (host o.state p) o.reply
on_lists_lem s p r r' o e h = rw e (λ i. outcome_of (host (h i).state p) (h i).reply)

module _ (s : List ℕ) (l : List ℕ) (m : declared.Machine) (at : ℕ) where
  pub step_list : (l' pair' : List ℕ) (f : Field ListCall) (r : Reply) → list_field_at s at ≡ Ok (Some f)
      → outcome_of (host (lists_in l') (view pair')) r ≡ list_outcome (host (lists_in l) (view m.pic)) f.call
      → host_step_in l' (record { ioapic = m.ioapic; pic = pair'; apic = m.apic; board_ioapic = m.board_ioapic; board_apic = m.board_apic; vm = m.vm }) (f.next, did f.tag r)
      ≡ host_step s (lists_in l) (machine_of m) at
  unfolding host_step machine_in
  step_list l' pair' f r e h = rw e (ap (step_with (machine_of m) f.tag f.next.at) h)

  pub step_bad : (next : Cursor) (b : NoField) → next.at ≡ at → list_field_at s at ≡ Err b
      → host_step_in l m (next, stopped BadField) ≡ host_step s (lists_in l) (machine_of m) at
  unfolding host_step
  step_bad next b n e = rw e (λ i. record { lists = lists_in l; step = record { machine = machine_of m; next = record { at = n i }; said = stopped BadField } })

  pub step_other : (x : Step) → list_field_at s at ≡ Other → x ≡ step_of s (machine_of m) at
      → ◌≡◌ {A = HostStep} (record { lists = lists_in l; step = x }) (host_step s (lists_in l) (machine_of m) at)
  unfolding host_step
  step_other x e h = rw e (λ i. record { lists = lists_in l; step = h i })

-- ---- a field that is performed ends three bytes behind its tag's place or later, and within the script

next_of : Result (Option (Field ListCall)) NoField → ℕ
next_of (Ok (Some f)) = f.next.at
next_of (Err b) = 0
next_of (Ok None) = 0

body_ends : (tag next : ℕ) (b : Option ListCall) (tag' : ℕ) (c : ListCall) (after : Cursor) → field_of tag b next ≡ Good tag' c after → after.at ≡ next
unfolding next_of
body_ends tag next (Some call) tag' c after e = ap next_of (sym e)
body_ends tag next None tag' c after e = let z : ◌≡◌ {A = ℕ} 0 1 = cc in absurd (omega arith)

good_lies : (s : List ℕ) (at tag : ℕ) (c : ListCall) (next : Cursor) → list_field_at s at ≡ Good tag c next → (at + 3 ≤ next.at) × (next.at ≤ length s)
unfolding list_field_at
good_lies s at tag c next e = go (ltb (get_or s at 0) 0x40) (ltb (length s) (at + 3)) (ltb (length s) (end_at s at)) refl e
  where
    go : (b₁ b₂ b₃ : Bool) → ltb (length s) (end_at s at) ≡ b₃
        → cond b₁ Other (cond b₂ Bad (cond b₃ Bad (field_of (get_or s at 0) (decoded (get_or s at 0) (body_at s at)) (end_at s at)))) ≡ Good tag c next
        → (at + 3 ≤ next.at) × (next.at ≤ length s)
    go true b₂ b₃ t p = let z : ◌≡◌ {A = ℕ} 0 1 = cc in absurd (omega arith)
    go false true b₃ t p = let z : ◌≡◌ {A = ℕ} 0 1 = cc in absurd (omega arith)
    go false false true t p = let z : ◌≡◌ {A = ℕ} 0 1 = cc in absurd (omega arith)
    go false false false t p =
        let ends : next.at ≡ end_at s at = body_ends (get_or s at 0) (end_at s at) (decoded (get_or s at 0) (body_at s at)) tag c next p in
        (omega (arith, ends), omega (arith, ends, ltb-false (length s) (end_at s at) t))

pub did_lies : (s : List ℕ) (l : Lists) (m : Machine) (at : ℕ) (x : HostStep) (tag : ℕ) (r : Reply) → x ≡ host_step s l m at → x.step.said ≡ did tag r
    → (at + 3 ≤ x.step.next.at) × (x.step.next.at ≤ length s)
unfolding host_step
did_lies s l m at x tag r g h = rw g (go (list_field_at s at) refl (rw g at h))
  where
    go : (f : Result (Option (Field ListCall)) NoField) → list_field_at s at ≡ f → (host_step_by s l m at f).step.said ≡ did tag r
        → (at + 3 ≤ (host_step_by s l m at f).step.next.at) × ((host_step_by s l m at f).step.next.at ≤ length s)
    go (Ok (Some y)) f p = good_lies s at y.tag y.call y.next f
    go (Err b) f p = let z : ◌≡◌ {A = ℕ} 0 1 = cc in absurd (omega arith)
    go (Ok None) f p = machine.did_lies s m at (step_of s m at) tag r refl p
