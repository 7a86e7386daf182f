-- A call's answer, its reply and the reply's code: l are the words before, w those after. Assumes nothing.
use Rattle.std.specs.Prelude.{Result, Ok, Err}
use Prim.Native.Nat.{ℕ, ◌<◌, ◌≤◌}
use mathlib.Core.Bool.{Bool, true, false, cond, ◌||◌}
use mathlib.Core.List.{List, [], ◌∷◌}
use mathlib.Core.Path.{◌≡◌, refl, sym, ap, ◌∙◌, subst}
use borrow.Author.Tests.{lt-ltb, le-ltb, eqb-true}
use lib.Dec.{eqb}
use Rattle.utils.proofs.Bools.{never}
use Rattle.types.specs.Reply.{Outcome, Kept}
use Rattle.types.specs.declared.Gsi.{Gsi}
use Rattle.types.specs.declared.Refusal.{Refusal}
use Rattle.types.specs.declared.Refusal.TheVariants.{Unsupported, OutOfRange}
use Rattle.types.specs.declared.Reply.{Reply}
use Rattle.types.specs.declared.Reply.TheVariants.{Refused, Nothing}
use Rattle.reply_code.specs.Lent.{reply_code, lent}
use Rattle.vioapic.specs.Answers.{written_reply, range_reply}
use Rattle.vioapic.specs.State.{IoApicState, view, new_words}
use Rattle.vioapic.proofs.Ways.{wrote_leaves}
use Rattle.vioapic.specs.IoApic.{new_or, version_number, version_of, is_version, Leaves, Wrote, Makes, created_version, set_gsi_level, end_of_interrupt, address_range, handle_writing, handle_write}
use Rattle.vioapic.specs.declared.IoApicVersion.{IoApicVersion}
use Rattle.vioapic.specs.declared.IoApicVersion.TheVariants.{V11, V20}
use Rattle.vioapic.specs.declared.Written.{Written}
use Rattle.vioapic.specs.declared.AddressRange.{AddressRange}
use Rattle.vioapic_c.specs.Calls.{Coded, Made, new_number, end_number, range_words}

module _ (l w : List ℕ) (r x : Reply) (n : ℕ) (same : x ≡ r) (en : n ≡ reply_code x) where
  pub coded : (o : Outcome IoApicState) → Leaves l w r o → Coded l w n o
  coded o k =
      let q : r ≡ o.reply = ap (λ (z : Outcome IoApicState). z.reply) k.outcome in
      record {
        shows = (ap (λ (z : Outcome IoApicState). z.state) k.outcome, en ∙ ap reply_code (same ∙ q));
        untouched = subst (λ (z : Reply). Kept z l w) q k.untouched;
        kept = k.kept;
      }

  pub made : (o : Outcome IoApicState) (new : List ℕ) → Makes l w r o new → Made l w n o new
  made o new k =
      let q : r ≡ o.reply = ap (λ (z : Outcome IoApicState). z.reply) k.outcome in
      record {
        shows = (ap (λ (z : Outcome IoApicState). z.state) k.outcome, en ∙ ap reply_code (same ∙ q));
        words = k.words ∙ ap (λ (z : Reply). new_or z new l) q;
      }

  pub level_coded : (gsi : Gsi) (b up : Bool) → b ≡ up → Leaves l w r (set_gsi_level (view l) gsi b) → Coded l w n (set_gsi_level (view l) gsi up)
  level_coded gsi b up e k = rw (← e) (coded (set_gsi_level (view l) gsi b) k)

  pub end_coded : (v : ℕ) → v < 256 → Leaves l w r (end_of_interrupt (view l) (record { 0 = v })) → Coded l w n (end_number (view l) v)
  unfolding end_number
  end_coded v h k = rw (lt-ltb _ _ h) (coded (end_of_interrupt (view l) (record { 0 = v })) k)

pub write_coded : (l w : List ℕ) (r : Result Written Refusal) (x : Reply) (n addr width value : ℕ) → Wrote l w r (handle_writing (view l) addr width value) → x ≡ written_reply r → n ≡ reply_code x
    → Coded l w n (handle_write (view l) addr width value)
write_coded l w r x n addr width value k same en = coded l w (written_reply r) x n same en (handle_write (view l) addr width value) (wrote_leaves l w r addr width value k)

pub end_wide : (l : List ℕ) (v n : ℕ) → 256 ≤ v → n ≡ reply_code (Refused OutOfRange) → Coded l l n (end_number (view l) v)
unfolding end_number
end_wide l v n h e = rw (le-ltb _ _ h) (record { shows = (refl, e); untouched = refl; kept = refl })

-- new_version: the number of the version of a number
number_of : (n : ℕ) → is_version n ≡ true → version_number (version_of n) ≡ n
number_of n h = go (eqb n 0x11) (eqb n 0x20) refl refl h
  where
    go : (a b : Bool) → eqb n 0x11 ≡ a → eqb n 0x20 ≡ b → (a || b) ≡ true → version_number (cond b V20 V11) ≡ n
    go a true p q s = sym (eqb-true n 0x20 q)
    go true false p q s = sym (eqb-true n 0x11 p)
    go false false p q s = never s refl

module _ (l : List ℕ) (base size version : ℕ) where
  pub new_unknown : (n : ℕ) (why : Refusal) → (is_version version ≡ false) × (why ≡ Unsupported) → n ≡ reply_code (Refused why)
      → Made l l n (new_number (view l) base size version) (new_words version base size)
  unfolding new_number
  new_unknown n why names e = rw names.0 (record { shows = (refl, e ∙ ap (λ (z : Refusal). reply_code (Refused z)) names.1); words = refl })

  pub new_known : (w : List ℕ) (v : IoApicVersion) (r x : Reply) (n : ℕ) → (is_version version ≡ true) × (v ≡ version_of version)
      → Makes l w r (created_version (view l) base size v) (new_words (version_number v) base size) → x ≡ r → n ≡ reply_code x
      → Made l w n (new_number (view l) base size version) (new_words version base size)
  unfolding new_number
  new_known w v r x n names k same en =
      let s = names.0 in
      let q = names.1 in
      let p = ap (λ (z : ℕ). new_words z base size) (ap version_number q ∙ number_of version s) in
      let o = ap (created_version (view l) base size) q in
      rw s (subst (Made l w n (created_version (view l) base size (version_of version))) p
      (subst (λ (z : Outcome IoApicState). Made l w n z (new_words (version_number v) base size)) o
      (made l w r x n same en (created_version (view l) base size v) (new_words (version_number v) base size) k)))

-- a call that only reads
pub told : (r x y : Reply) (n : ℕ) → x ≡ r → r ≡ y → n ≡ reply_code x → n ≡ reply_code y
told r x y n a b e = e ∙ ap reply_code (a ∙ b)

module _ (l range : List ℕ) (a : Result AddressRange Refusal) (n : ℕ) (is : range_reply a ≡ address_range (view l)) where
  pub range_between : (between : AddressRange) → a ≡ Ok between → n ≡ reply_code Nothing → lent (between.start ∷ between.end ∷ []) n ≡ range_words l range
  unfolding range_words
  range_between between e k = rw (← is, e, k)

  pub range_none : (why : Refusal) → a ≡ Err why → n ≡ reply_code (Refused why) → lent range n ≡ range_words l range
  unfolding range_words
  range_none why e k = rw (← is, e, k)
