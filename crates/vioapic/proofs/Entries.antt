-- What the code does to an entry in place, part by part, is the entry's rule: l are the words before, w those after. Assumes nothing.
use Rattle.std.specs.Prelude.{Option, Some, None}
use Prim.Native.Nat.{ℕ, zero, suc, ◌%◌, ◌^◌, ◌<◌}
use native.Mathlib.Omega.{arith}
use mathlib.Core.Bool.{Bool, true, false, not, cond, ◌&&◌}
use mathlib.Core.List.{List, [], ◌∷◌}
use mathlib.Core.Path.{◌≡◌, refl, sym, ◌∙◌, ap, ap₂, subst}
use borrow.Author.Tests.{eqb-true, not-true, not-false}
use lib.Dec.{eqb}
use lib.ListN.{length, get_or, set, length-set}
use lib.Seq.{get_or-set_same, get_or-set_other, set-get_or, set-set}
use Rattle.utils.specs.Set.{bit, marked}
use Rattle.utils.proofs.Laws.{bit_above, bit_cut}
use Rattle.utils.proofs.Bools.{never, both, and_one}
use Rattle.utils.specs.Cases.{and_yes, and_left_no, and_right_no, or_left_yes, or_right_yes, or_no}
use Rattle.vioapic_entry.specs.Redirection.{EntryStep, vector_of, is_fit, is_level, is_masked, remote_irr, same_low, with_remote_irr, without_remote_irr, replace_low, replace_high, with_word, with_deferred, with_input, quietly, sending, send_entry, raise_entry, lower_entry, end_entry, end_entry20, write_low, write_high, without_status, replace_low20, keeps_deferred, store_low20, is_owed, write_low20}
use Rattle.vioapic_entry.proofs.EntryLaws.{send_unfit, send_edge, send_later, send_level, raise_again, raise_new, lower_is, end_up, end_deferred, end_quiet, end20_asks, end20_quiet, resend_fit, resend_unfit, low_masked, low_same, low_changed, low20_owed, low20_quiet, low20_resting, low20_flying, owed_level, flight_level, flight_edge, flight_still, high_is}
use Rattle.vioapic_entry.proofs.Fields.{alike_with, alike_low20, same_level, irr_with, irr_without, irr_low, irr_low20, irr_high}
use Rattle.vioapic_entry.specs.declared.Entry.{Entry}
use Rattle.vioapic_entry.specs.declared.IoApicInterrupt.{IoApicInterrupt}
use Rattle.vioapic.specs.State.{IoApicState, view}
use Rattle.vioapic.specs.Table.{no_entry, routing, with_flight, noted, put, route_at, entry_at}
use Rattle.vioapic.specs.Inside.{Keeps, put_flag, parts, NoneDeferred, Quiet, Flown, forgetting}
use Rattle.vioapic.proofs.Words.{view_long, word_at_lem, deferred_at, input_at, word_is, deferred_is, input_is, flight_is, still, then, so_that}

-- ---- an entry that is put

noted_same : (n g : ℕ) (b : Bool) → noted n g b b ≡ n
noted_same n g true = refl
noted_same n g false = refl

module _ (s : IoApicState) (g : ℕ) (f : Entry) where
  -- where Remote IRR stays, and where it comes and goes
  put_same : remote_irr f.word ≡ remote_irr (entry_at s g).word → parts s g f ≡ put s g f
  put_same h = ap (with_flight (parts s g f)) (sym (ap (noted s.in_flight g (remote_irr (entry_at s g).word)) h ∙ noted_same s.in_flight g (remote_irr (entry_at s g).word)))

  put_up : remote_irr (entry_at s g).word ≡ false → remote_irr f.word ≡ true → with_flight (parts s g f) (marked s.in_flight g true) ≡ put s g f
  put_up h k = rw (h, k)

  put_down : remote_irr (entry_at s g).word ≡ true → remote_irr f.word ≡ false → with_flight (parts s g f) (marked s.in_flight g false) ≡ put s g f
  put_down h k = rw (h, k)

  -- the entry that is there
  put_back : f ≡ entry_at s g → put s g f ≡ s
  put_back q =
      let i : noted s.in_flight g (remote_irr (entry_at s g).word) (remote_irr f.word) ≡ s.in_flight = rw q (noted_same s.in_flight g (remote_irr (entry_at s g).word)) in
      let t : set s.entries g f ≡ s.entries = ap (set s.entries g) q ∙ set-get_or s.entries g no_entry in
      λ j. record { base = s.base; size = s.size; version = s.version; selector = s.selector; in_flight = i j; entries = t j }

  module _ (long : length s.entries ≡ 24) (here : g < 24) where
    pub at_put : entry_at (put s g f) g ≡ f
    at_put = get_or-set_same s.entries g f no_entry (omega arith)

    -- and another one after it, which is in flight as this one is
    put_put : (e : Entry) → remote_irr f.word ≡ remote_irr (entry_at s g).word → put (put s g f) g e ≡ put s g e
    put_put e h =
        let i : noted (noted s.in_flight g (remote_irr (entry_at s g).word) (remote_irr f.word)) g (remote_irr (entry_at (put s g f) g).word) (remote_irr e.word) ≡ noted s.in_flight g (remote_irr (entry_at s g).word) (remote_irr e.word) =
        rw (at_put, h, noted_same s.in_flight g (remote_irr (entry_at s g).word)) in
        let t = set-set s.entries g f e in
        λ j. record { base = s.base; size = s.size; version = s.version; selector = s.selector; in_flight = i j; entries = t j }

    -- and another one after it, which is in flight as it is
    put_then : (e : Entry) → remote_irr e.word ≡ remote_irr f.word → put (put s g f) g e ≡ put s g e
    put_then e h =
        let i : noted (noted s.in_flight g (remote_irr (entry_at s g).word) (remote_irr f.word)) g (remote_irr (entry_at (put s g f) g).word) (remote_irr e.word) ≡ noted s.in_flight g (remote_irr (entry_at s g).word) (remote_irr e.word) =
        rw (at_put, h) (noted_same (noted s.in_flight g (remote_irr (entry_at s g).word) (remote_irr f.word)) g (remote_irr f.word)) in
        let t = set-set s.entries g f e in
        λ j. record { base = s.base; size = s.size; version = s.version; selector = s.selector; in_flight = i j; entries = t j }

-- a step that leaves the words as they are; one that puts the entry; and one on words in which a flag was moved
stays : (l : List ℕ) (g : ℕ) (a : Option IoApicInterrupt) (x : EntryStep) → x ≡ record { entry = entry_at (view l) g; answer = a } → Keeps l l (routing (view l) a ≡ route_at (view l) g x)
stays l g a x q = still l (rw q (ap (λ (s : IoApicState). routing s a) (sym (put_back (view l) g (entry_at (view l) g) refl))))

steps : (l w : List ℕ) (g : ℕ) (f : Entry) (a : Option IoApicInterrupt) (x : EntryStep) → Keeps l w (view w ≡ put (view l) g f) → x ≡ record { entry = f; answer = a }
    → Keeps l w (routing (view w) a ≡ route_at (view l) g x)
steps l w g f a x k q = so_that k (λ p. rw q (ap (λ (s : IoApicState). routing s a) p))

moves : (l u w : List ℕ) (g : ℕ) (f : Entry) (a : Option IoApicInterrupt) (x y : EntryStep) → g < 24 → remote_irr f.word ≡ remote_irr (entry_at (view l) g).word
    → Keeps l u (view u ≡ put (view l) g f) → Keeps u w (routing (view w) a ≡ route_at (view u) g y) → x ≡ y → Keeps l w (routing (view w) a ≡ route_at (view l) g x)
moves l u w g f a x y h i b c q =
    then b c
    (λ p r. r ∙ rw q (ap (λ (s : IoApicState). routing (put s g y.entry) y.answer) p ∙ ap (λ (s : IoApicState). routing s y.answer) (put_put (view l) g f (view_long l) h y.entry i)))

-- what is known of the register
pub irr_of : (x y : ℕ) → x ≡ y → remote_irr y ≡ true → remote_irr x ≡ true
irr_of x y q h = rw q h

pub irr_low_of : (x w v : ℕ) → x ≡ replace_low w v → remote_irr x ≡ false
irr_low_of x w v q = rw q (irr_low w v)

pub level_of : (x y : ℕ) → x ≡ y → is_level y ≡ true → is_level x ≡ true
level_of x y q h = rw q h

-- ---- part by part

-- two places
set_swap : (l : List ℕ) (i j a b : ℕ) → (i ≡ j → ⊥) → set (set l i a) j b ≡ set (set l j b) i a
set_swap [] i j a b h = refl
set_swap (x ∷ xs) zero zero a b h = absurd (h refl)
set_swap (x ∷ xs) zero (suc j) a b h = refl
set_swap (x ∷ xs) (suc i) zero a b h = refl
set_swap (x ∷ xs) (suc i) (suc j) a b h = ap (λ (t : List ℕ). x ∷ t) (set_swap xs i j a b (λ e. h (ap suc e)))

module _ (l w : List ℕ) (g : ℕ) (long : length l ≡ 32) (here : g < 24) where
  pub set_deferred_is : (b : Bool) → w ≡ put_flag l 24 g b → Keeps l w (view w ≡ put (view l) g (with_deferred (entry_at (view l) g) b))
  set_deferred_is b q = rw q (so_that (deferred_is l g long here b) (λ p. p ∙ put_same (view l) g (with_deferred (entry_at (view l) g) b) refl))

  pub set_input_is : (b : Bool) → w ≡ put_flag l 25 g b → Keeps l w (view w ≡ put (view l) g (with_input (entry_at (view l) g) b))
  set_input_is b q = rw q (so_that (input_is l g long here b) (λ p. p ∙ put_same (view l) g (with_input (entry_at (view l) g) b) refl))

  -- the register, and the bit of the lines in flight with it
  register : (x : ℕ) (b : Bool) → w ≡ put_flag (set l g x) 30 g b → Keeps l w (view w ≡ with_flight (parts (view l) g (with_word (entry_at (view l) g) x)) (marked (view l).in_flight g b))
  register x b q =
      then (word_is l g long here x) (flight_is (set l g x) w g b (length-set l g x ∙ long) here q)
      (λ p r. r ∙ ap (λ (s : IoApicState). with_flight s (marked s.in_flight g b)) p)

  module _ (word x : ℕ) (at : word ≡ (entry_at (view l) g).word) where
    pub fly_is : (u : List ℕ) → remote_irr word ≡ false → u ≡ put_flag l 30 g true → x ≡ with_remote_irr (get_or u g 0) → w ≡ set u g x
        → Keeps l w (view w ≡ put (view l) g (with_word (entry_at (view l) g) (with_remote_irr word)))
    fly_is u h f p r =
        let m : ℕ = marked (get_or l 30 0) g true in
        let v : get_or u g 0 ≡ word = ap (λ (t : List ℕ). get_or t g 0) f ∙ get_or-set_other l 30 g m 0 (omega arith) ∙ word_at_lem l g here ∙ sym at in
        let q : x ≡ with_remote_irr word = p ∙ ap with_remote_irr v in
        let t : w ≡ put_flag (set l g x) 30 g true =
        r ∙ ap (λ (t : List ℕ). set t g x) f ∙ set_swap l 30 g m x (omega arith) ∙ ap (λ (n : ℕ). set (set l g x) 30 (marked n g true)) (sym (get_or-set_other l g 30 x 0 (omega arith))) in
        rw (← q) (so_that (register x true t) (λ p. p ∙ put_up (view l) g (with_word (entry_at (view l) g) x) (rw (← at) h) (rw q (irr_with word))))

    pub rest_is : remote_irr word ≡ true → x ≡ without_remote_irr word → w ≡ put_flag (set l g x) 30 g false → Keeps l w (view w ≡ put (view l) g (with_word (entry_at (view l) g) (without_remote_irr word)))
    rest_is h q r =
        rw (← q) (so_that (register x false r) (λ p. p ∙ put_down (view l) g (with_word (entry_at (view l) g) x) (rw (← at) h) (rw q (irr_without word))))

    pub ground_flying : remote_irr word ≡ true → remote_irr x ≡ false → w ≡ put_flag (set l g x) 30 g false → Keeps l w (view w ≡ put (view l) g (with_word (entry_at (view l) g) x))
    ground_flying h k r = so_that (register x false r) (λ p. p ∙ put_down (view l) g (with_word (entry_at (view l) g) x) (rw (← at) h) k)

    pub ground_still : remote_irr word ≡ false → remote_irr x ≡ false → w ≡ set l g x → Keeps l w (view w ≡ put (view l) g (with_word (entry_at (view l) g) x))
    ground_still h k r = rw r (so_that (word_is l g long here x) (λ p. p ∙ put_same (view l) g (with_word (entry_at (view l) g) x) (rw (← at) (k ∙ sym h))))

pub write_high_is : (l : List ℕ) (g x v : ℕ) → length l ≡ 32 → g < 24 → x ≡ replace_high (get_or l g 0) v → Keeps l (set l g x) (view (set l g x) ≡ put (view l) g (write_high (entry_at (view l) g) v))
write_high_is l g x v long here q =
    let e : get_or l g 0 ≡ (entry_at (view l) g).word = word_at_lem l g here in
    let y : x ≡ replace_high (entry_at (view l) g).word v = q ∙ ap (λ (w : ℕ). replace_high w v) e in
    so_that (word_is l g long here x)
    (λ p. p ∙ put_same (view l) g (with_word (entry_at (view l) g) x) (rw y (irr_high (entry_at (view l) g).word v)) ∙ ap (put (view l) g) (ap (with_word (entry_at (view l) g)) y ∙ sym (high_is (entry_at (view l) g) v)))

-- ---- sending

module _ (l : List ℕ) (g word : ℕ) (at : word ≡ (entry_at (view l) g).word) (a : Bool) (fit : a ≡ is_fit word) where
  fits : (b : Bool) → a ≡ b → is_fit (entry_at (view l) g).word ≡ b
  fits b h = ap is_fit (sym at) ∙ sym fit ∙ h

  pub sent_unfit : not a ≡ true → Keeps l l (routing (view l) None ≡ route_at (view l) g (send_entry (entry_at (view l) g)))
  sent_unfit h = stays l g None (send_entry (entry_at (view l) g)) (send_unfit (entry_at (view l) g) (fits false (not-true a h)))

  module _ (b : Bool) (is : not a ≡ false) (level : b ≡ is_level word) where
    levels : (c : Bool) → b ≡ c → is_level (entry_at (view l) g).word ≡ c
    levels c h = ap is_level (sym at) ∙ sym level ∙ h

    pub sent_edge : (r : Option IoApicInterrupt) → not b ≡ true → r ≡ Some (record { vector = vector_of word; level_triggered = false })
        → Keeps l l (routing (view l) r ≡ route_at (view l) g (send_entry (entry_at (view l) g)))
    sent_edge r h q =
        let k : is_level (entry_at (view l) g).word ≡ false = levels false (not-true b h) in
        stays l g r (send_entry (entry_at (view l) g)) (send_edge (entry_at (view l) g) (fits true (not-false a is)) k ∙ rw (q, k, at))

    module _ (w : List ℕ) (c : Bool) (there : not b ≡ false) (flying : c ≡ remote_irr word) where
      pub sent_later : c ≡ true → Keeps l w (view w ≡ put (view l) g (with_deferred (entry_at (view l) g) true)) → Keeps l w (routing (view w) None ≡ route_at (view l) g (send_entry (entry_at (view l) g)))
      sent_later h k =
          steps l w g (with_deferred (entry_at (view l) g) true) None (send_entry (entry_at (view l) g)) k
          (send_later (entry_at (view l) g) (fits true (not-false a is)) (levels true (not-false b there)) (ap remote_irr (sym at) ∙ sym flying ∙ h))

      pub sent_level : (r : Option IoApicInterrupt) → c ≡ false → Keeps l w (view w ≡ put (view l) g (with_word (entry_at (view l) g) (with_remote_irr word)))
          → r ≡ Some (record { vector = vector_of word; level_triggered = true }) → Keeps l w (routing (view w) r ≡ route_at (view l) g (send_entry (entry_at (view l) g)))
      sent_level r h k q =
          let e : Entry = entry_at (view l) g in
          let m : is_level (with_remote_irr e.word) ≡ true = same_level (alike_with e.word) ∙ levels true (not-false b there) in
          let v : with_remote_irr e.word % 2 ^ 8 ≡ e.word % 2 ^ 8 = (alike_with e.word).vector in
          steps l w g (with_word e (with_remote_irr word)) r (send_entry e) k
          (send_level e (fits true (not-false a is)) (levels true (not-false b there)) (ap remote_irr (sym at) ∙ sym flying ∙ h) ∙ rw (q, at, m, v))

-- ---- the line

module _ (l : List ℕ) (g word : ℕ) (at : word ≡ (entry_at (view l) g).word) (a : Bool) (flies : a ≡ remote_irr word) where
  flying : (b : Bool) → a ≡ b → remote_irr (entry_at (view l) g).word ≡ b
  flying b h = ap remote_irr (sym at) ∙ sym flies ∙ h

  pub raised_again : (b : Bool) (w : List ℕ) → not a ≡ false → b ≡ (entry_at (view l) g).input_level → b ≡ true → Keeps l w (view w ≡ put (view l) g (with_deferred (entry_at (view l) g) true))
      → Keeps l w (routing (view w) None ≡ route_at (view l) g (raise_entry (entry_at (view l) g)))
  raised_again b w i u h k =
      steps l w g (with_deferred (entry_at (view l) g) true) None (raise_entry (entry_at (view l) g)) k
      (raise_again (entry_at (view l) g) (and_yes (entry_at (view l) g).input_level (remote_irr (entry_at (view l) g).word) (sym u ∙ h) (flying true (not-false a i))) (sym u ∙ h))

  module _ (u : List ℕ) (here : g < 24) (lifted : Keeps l u (view u ≡ put (view l) g (with_input (entry_at (view l) g) true))) where
    up_at : entry_at (view u) g ≡ with_input (entry_at (view l) g) true
    up_at = ap (λ (s : IoApicState). entry_at s g) lifted.is ∙ at_put (view l) g (with_input (entry_at (view l) g) true) (view_long l) here

    pub word_up : word ≡ (entry_at (view u) g).word
    word_up = at ∙ sym (ap (λ (e : Entry). e.word) up_at)

    module _ (w : List ℕ) (r : Option IoApicInterrupt) (does : Keeps u w (routing (view w) r ≡ route_at (view u) g (send_entry (entry_at (view u) g)))) where
      anew : ((entry_at (view l) g).input_level && remote_irr (entry_at (view l) g).word) ≡ false → Keeps l w (routing (view w) r ≡ route_at (view l) g (raise_entry (entry_at (view l) g)))
      anew h =
          moves l u w g (with_input (entry_at (view l) g) true) r (raise_entry (entry_at (view l) g)) (send_entry (entry_at (view u) g)) here refl lifted does
          (raise_new (entry_at (view l) g) h ∙ ap send_entry (sym up_at))

      pub raised_still : not a ≡ true → Keeps l w (routing (view w) r ≡ route_at (view l) g (raise_entry (entry_at (view l) g)))
      raised_still i = anew (and_right_no (entry_at (view l) g).input_level (remote_irr (entry_at (view l) g).word) (flying false (not-true a i)))

      pub raised_flying : (b : Bool) → b ≡ (entry_at (view l) g).input_level → b ≡ false → Keeps l w (routing (view w) r ≡ route_at (view l) g (raise_entry (entry_at (view l) g)))
      raised_flying b d h = anew (and_left_no (entry_at (view l) g).input_level (remote_irr (entry_at (view l) g).word) (sym d ∙ h))

pub lowered_plain : (l w : List ℕ) (g : ℕ) (b : Bool) → b ≡ (entry_at (view l) g).pending_level → b ≡ false → Keeps l w (view w ≡ put (view l) g (with_input (entry_at (view l) g) false))
    → Keeps l w (routing (view w) None ≡ route_at (view l) g (lower_entry (entry_at (view l) g)))
lowered_plain l w g b d h k =
    let e : Entry = entry_at (view l) g in
    let n : e ≡ with_deferred e false = ap (with_deferred e) (sym d ∙ h) in
    steps l w g (with_input e false) None (lower_entry e) k (lower_is e ∙ ap (λ (x : Entry). quietly (with_input x false)) (sym n))

pub lowered : (l u w : List ℕ) (g : ℕ) → g < 24 → Keeps l u (view u ≡ put (view l) g (with_deferred (entry_at (view l) g) false)) → Keeps u w (view w ≡ put (view u) g (with_input (entry_at (view u) g) false))
    → Keeps l w (routing (view w) None ≡ route_at (view l) g (lower_entry (entry_at (view l) g)))
lowered l u w g h b c =
    let f : Entry = with_deferred (entry_at (view l) g) false in
    let q : entry_at (view u) g ≡ f = ap (λ (s : IoApicState). entry_at s g) b.is ∙ at_put (view l) g f (view_long l) h in
    moves l u w g f None (lower_entry (entry_at (view l) g)) (quietly (with_input (entry_at (view u) g) false)) h refl b
    (steps u w g (with_input (entry_at (view u) g) false) None (quietly (with_input (entry_at (view u) g) false)) c refl)
    (lower_is (entry_at (view l) g) ∙ ap (λ (e : Entry). quietly (with_input e false)) (sym q))

-- ---- an EOI

module _ (l : List ℕ) (g word : ℕ) (at : word ≡ (entry_at (view l) g).word) (a : Bool) (fit : a ≡ is_fit word) where
  pub resent_fit : (r : Option IoApicInterrupt) → remote_irr word ≡ true → is_level word ≡ true → a ≡ true → r ≡ Some (record { vector = vector_of word; level_triggered = true })
      → Keeps l l (routing (view l) r ≡ route_at (view l) g (send_entry (with_word (entry_at (view l) g) (without_remote_irr word))))
  resent_fit r i k h q =
      let e : Entry = entry_at (view l) g in
      let y : is_level e.word ≡ true = rw (← at) k in
      let p : send_entry (with_word e (without_remote_irr e.word)) ≡ sending e = resend_fit e (rw (← at) i) y (rw (← at) (sym fit ∙ h)) in
      let z : sending e ≡ record { entry = e; answer = r } = rw (q, at, y) in
      stays l g r (send_entry (with_word e (without_remote_irr word))) (ap (λ (n : ℕ). send_entry (with_word e (without_remote_irr n))) at ∙ p ∙ z)

  pub resent_unfit : (w : List ℕ) → a ≡ false → Keeps l w (view w ≡ put (view l) g (with_word (entry_at (view l) g) (without_remote_irr word)))
      → Keeps l w (routing (view w) None ≡ route_at (view l) g (send_entry (with_word (entry_at (view l) g) (without_remote_irr word))))
  resent_unfit w h k =
      steps l w g (with_word (entry_at (view l) g) (without_remote_irr word)) None (send_entry (with_word (entry_at (view l) g) (without_remote_irr word))) k
      (rw at (resend_unfit (entry_at (view l) g) (rw (← at) (sym fit ∙ h))))

-- words in which what was deferred is forgotten
module _ (l u : List ℕ) (g word : ℕ) (here : g < 24) (at : word ≡ (entry_at (view l) g).word) (forgot : Keeps l u (view u ≡ put (view l) g (with_deferred (entry_at (view l) g) false))) where
  down_at : entry_at (view u) g ≡ with_deferred (entry_at (view l) g) false
  down_at = ap (λ (s : IoApicState). entry_at s g) forgot.is ∙ at_put (view l) g (with_deferred (entry_at (view l) g) false) (view_long l) here

  pub word_down : word ≡ (entry_at (view u) g).word
  word_down = at ∙ sym (ap (λ (e : Entry). e.word) down_at)

  -- sent again from there
  afresh : (w : List ℕ) (a : Option IoApicInterrupt) (x : EntryStep) → x ≡ send_entry (with_word (with_deferred (entry_at (view l) g) false) (without_remote_irr (entry_at (view l) g).word))
      → Keeps u w (routing (view w) a ≡ route_at (view u) g (send_entry (with_word (entry_at (view u) g) (without_remote_irr word)))) → Keeps l w (routing (view w) a ≡ route_at (view l) g x)
  afresh w a x q k =
      moves l u w g (with_deferred (entry_at (view l) g) false) a x (send_entry (with_word (entry_at (view u) g) (without_remote_irr word))) here refl forgot k
      (q ∙ ap₂ (λ (e : Entry) (n : ℕ). send_entry (with_word e (without_remote_irr n))) (sym down_at) (sym at))

  module _ (b : Bool) (was : b ≡ (entry_at (view l) g).pending_level) (w : List ℕ) (a : Option IoApicInterrupt) where
    pub ended_deferred : (c : Bool) → c ≡ (entry_at (view l) g).input_level → c ≡ false → not b ≡ false
        → Keeps u w (routing (view w) a ≡ route_at (view u) g (send_entry (with_word (entry_at (view u) g) (without_remote_irr word)))) → Keeps l w (routing (view w) a ≡ route_at (view l) g (end_entry (entry_at (view l) g)))
    ended_deferred c p q h = afresh w a (end_entry (entry_at (view l) g)) (end_deferred (entry_at (view l) g) (sym p ∙ q) (sym was ∙ not-false b h))

    pub ended20_deferred : b ≡ true → Keeps u w (routing (view w) a ≡ route_at (view u) g (send_entry (with_word (entry_at (view u) g) (without_remote_irr word))))
        → Keeps l w (routing (view w) a ≡ route_at (view l) g (end_entry20 (entry_at (view l) g)))
    ended20_deferred h = afresh w a (end_entry20 (entry_at (view l) g)) (end20_asks (entry_at (view l) g) (or_right_yes (entry_at (view l) g).input_level (entry_at (view l) g).pending_level (sym was ∙ h)))

module _ (l w : List ℕ) (g word : ℕ) (at : word ≡ (entry_at (view l) g).word) (c : Bool) (line : c ≡ (entry_at (view l) g).input_level) where
  pub ended_up : (a : Option IoApicInterrupt) → c ≡ true → Keeps l w (routing (view w) a ≡ route_at (view l) g (send_entry (with_word (entry_at (view l) g) (without_remote_irr word)))) → Keeps l w (routing (view w) a ≡ route_at (view l) g (end_entry (entry_at (view l) g)))
  ended_up a h k = so_that k (λ p. p ∙ ap (route_at (view l) g) (ap (λ (n : ℕ). send_entry (with_word (entry_at (view l) g) (without_remote_irr n))) at ∙ sym (end_up (entry_at (view l) g) (sym line ∙ h))))

  module _ (b : Bool) (was : b ≡ (entry_at (view l) g).pending_level) where
    pub ended_quiet : c ≡ false → not b ≡ true → Keeps l w (view w ≡ put (view l) g (with_word (entry_at (view l) g) (without_remote_irr word)))
        → Keeps l w (routing (view w) None ≡ route_at (view l) g (end_entry (entry_at (view l) g)))
    ended_quiet h d k =
        steps l w g (with_word (entry_at (view l) g) (without_remote_irr word)) None (end_entry (entry_at (view l) g)) k
        (end_quiet (entry_at (view l) g) (sym line ∙ h) (sym was ∙ not-true b d) ∙ rw at)

    module _ (none : b ≡ false) where
      nothing : with_deferred (entry_at (view l) g) false ≡ entry_at (view l) g
      nothing = ap (with_deferred (entry_at (view l) g)) (sym (sym was ∙ none))

      pub ended20_up : (a : Option IoApicInterrupt) → c ≡ true → Keeps l w (routing (view w) a ≡ route_at (view l) g (send_entry (with_word (entry_at (view l) g) (without_remote_irr word))))
          → Keeps l w (routing (view w) a ≡ route_at (view l) g (end_entry20 (entry_at (view l) g)))
      ended20_up a h k =
          so_that k
          (λ p. p ∙ ap (route_at (view l) g)
          (ap₂ (λ (e : Entry) (n : ℕ). send_entry (with_word e (without_remote_irr n))) (sym nothing) at
          ∙ sym (end20_asks (entry_at (view l) g) (or_left_yes (entry_at (view l) g).input_level (entry_at (view l) g).pending_level (sym line ∙ h)))))

      pub ended20_quiet : c ≡ false → Keeps l w (view w ≡ put (view l) g (with_word (entry_at (view l) g) (without_remote_irr word)))
          → Keeps l w (routing (view w) None ≡ route_at (view l) g (end_entry20 (entry_at (view l) g)))
      ended20_quiet h k =
          steps l w g (with_word (entry_at (view l) g) (without_remote_irr word)) None (end_entry20 (entry_at (view l) g)) k
          (end20_quiet (entry_at (view l) g) (or_no (entry_at (view l) g).input_level (entry_at (view l) g).pending_level (sym line ∙ h) (sym was ∙ none))
          ∙ ap₂ (λ (e : Entry) (n : ℕ). quietly (with_word e (without_remote_irr n))) nothing (sym at))

-- ---- the guest's writes

module _ (l : List ℕ) (g word x : ℕ) (at : word ≡ (entry_at (view l) g).word) (wide : ℕ) (cast : wide ≡ x) (a : Bool) (given : a ≡ same_low word wide) where
  same : a ≡ same_low word x
  same = given ∙ ap (same_low word) cast

  sames : (b : Bool) → a ≡ b → same_low (entry_at (view l) g).word x ≡ b
  sames b h = ap (λ (n : ℕ). same_low n x) (sym at) ∙ sym same ∙ h

  pub low_written_anew : (u w : List ℕ) (y : ℕ) → g < 24 → not a ≡ true → y ≡ replace_low word x → Keeps l u (view u ≡ put (view l) g (with_deferred (entry_at (view l) g) false))
      → Keeps u w (view w ≡ put (view u) g (with_word (entry_at (view u) g) y)) → Keeps l w (view w ≡ put (view l) g (write_low (entry_at (view l) g) x))
  low_written_anew u w y h d q b c =
      let f : Entry = with_deferred (entry_at (view l) g) false in
      let e : entry_at (view u) g ≡ f = ap (λ (s : IoApicState). entry_at s g) b.is ∙ at_put (view l) g f (view_long l) h in
      then b c
      (λ p r. r ∙ ap (λ (s : IoApicState). put s g (with_word (entry_at (view u) g) y)) p ∙ put_put (view l) g f (view_long l) h (with_word (entry_at (view u) g) y) refl
      ∙ ap (put (view l) g) (ap₂ (λ (z : Entry) (n : ℕ). with_word z n) e (q ∙ ap (λ (n : ℕ). replace_low n x) at) ∙ sym (low_changed (entry_at (view l) g) x (sames false (not-true a d)))))

  -- where nothing is deferred, nothing is forgotten
  module _ (b : Bool) (here : g < 24) (none : b ≡ true → NoneDeferred (view l)) (yes : b ≡ true) where
    pub low_anew_none : (w : List ℕ) (y : ℕ) → not a ≡ true → y ≡ replace_low word x → Keeps l w (view w ≡ put (view l) g (with_word (entry_at (view l) g) y))
        → Keeps l w (view w ≡ put (view l) g (write_low (entry_at (view l) g) x))
    low_anew_none w y d q k =
        let e : Entry = entry_at (view l) g in
        let f : with_word e y ≡ with_deferred (with_word e (replace_low e.word x)) false =
        ap₂ (λ (n : ℕ) (c : Bool). with_deferred (with_word e n) c) (q ∙ ap (λ (n : ℕ). replace_low n x) at) (none yes g here) in
        so_that k (λ p. p ∙ ap (put (view l) g) (f ∙ sym (low_changed e x (sames false (not-true a d)))))

    pub low_same_none : not a ≡ false → Keeps l l (view l ≡ put (view l) g (write_low (entry_at (view l) g) x))
    low_same_none d = still l (sym (put_back (view l) g (write_low (entry_at (view l) g) x) (go (is_masked (entry_at (view l) g).word) refl)))
      where
        go : (m : Bool) → is_masked (entry_at (view l) g).word ≡ m → write_low (entry_at (view l) g) x ≡ entry_at (view l) g
        go true h = low_masked (entry_at (view l) g) x (sames true (not-false a d)) h ∙ ap (with_deferred (entry_at (view l) g)) (sym (none yes g here))
        go false h = low_same (entry_at (view l) g) x (sames true (not-false a d)) h

  module _ (b : Bool) (is : not a ≡ false) (masked : b ≡ is_masked word) where
    masks : (c : Bool) → b ≡ c → is_masked (entry_at (view l) g).word ≡ c
    masks c h = ap is_masked (sym at) ∙ sym masked ∙ h

    pub low_written_masked : (w : List ℕ) → b ≡ true → Keeps l w (view w ≡ put (view l) g (with_deferred (entry_at (view l) g) false)) → Keeps l w (view w ≡ put (view l) g (write_low (entry_at (view l) g) x))
    low_written_masked w h k = so_that k (λ p. p ∙ ap (put (view l) g) (sym (low_masked (entry_at (view l) g) x (sames true (not-false a is)) (masks true h))))

    pub low_written_same : b ≡ false → Keeps l l (view l ≡ put (view l) g (write_low (entry_at (view l) g) x))
    low_written_same h = still l (sym (put_back (view l) g (write_low (entry_at (view l) g) x) (low_same (entry_at (view l) g) x (sames true (not-false a is)) (masks false h))))

-- ---- the guest's writes, version 0x20

-- the register takes a low word
module _ (l w : List ℕ) (g word x y : ℕ) (a : Bool) (long : length l ≡ 32) (here : g < 24) (at : word ≡ (entry_at (view l) g).word) (flies : a ≡ remote_irr word) where
  module _ (new : y ≡ replace_low word (without_status x)) where
    pub laid_level : (b : Bool) (z wide : ℕ) → not a ≡ false → wide ≡ x → b ≡ is_level wide → not b ≡ false → z ≡ cond (remote_irr word) (with_remote_irr (replace_low word (without_status x))) (replace_low word (without_status x))
        → w ≡ set (set l g y) g z → Keeps l w (view w ≡ put (view l) g (with_word (entry_at (view l) g) (replace_low20 word x)))
    laid_level b z wide f cast v h q r =
        let k : is_level x ≡ true = sym (v ∙ ap is_level cast) ∙ not-false b h in
        let n : z ≡ replace_low20 word x = q ∙ flight_level word x k in
        let i : remote_irr z ≡ remote_irr word = ap remote_irr n ∙ irr_low20 word x ∙ ap (λ (c : Bool). c && remote_irr word) k in
        rw (r ∙ set-set l g y z, ← n) (so_that (word_is l g long here z) (λ p. p ∙ put_same (view l) g (with_word (entry_at (view l) g) z) (i ∙ ap remote_irr at)))

    -- or the bit is set where it lies
    pub laid_again : (b : Bool) (k z wide : ℕ) → not a ≡ false → wide ≡ x → b ≡ is_level wide → not b ≡ false → k ≡ g → z ≡ with_remote_irr (get_or (set l g y) k 0) → w ≡ set (set l g y) k z
        → Keeps l w (view w ≡ put (view l) g (with_word (entry_at (view l) g) (replace_low20 word x)))
    laid_again b k z wide f cast v h e q r =
        let i : remote_irr word ≡ true = sym flies ∙ not-false a f in
        let n : get_or (set l g y) k 0 ≡ replace_low word (without_status x) = ap (λ (j : ℕ). get_or (set l g y) j 0) e ∙ get_or-set_same l g y 0 (omega arith) ∙ new in
        laid_level b z wide f cast v h (rw i (q ∙ ap with_remote_irr n)) (r ∙ ap (λ (j : ℕ). set (set l g y) j z) e)

    pub laid_none : (b : Bool) → not a ≡ false → (b ≡ true → NoneDeferred (view (set l g y))) → b ≡ true → Flown word (entry_at (view l) g)
    laid_none b f none h =
        let e : entry_at (view (set l g y)) g ≡ with_word (entry_at (view l) g) y =
        ap (λ (s : IoApicState). entry_at s g) (word_is l g long here y).is ∙ get_or-set_same (view l).entries g (with_word (entry_at (view l) g) y) no_entry (omega (arith, view_long l)) in
        record { flying = sym flies ∙ not-false a f; undeferred = sym (ap (λ (z : Entry). z.pending_level) e) ∙ none h g here }

    pub laid_edge : (b : Bool) (wide : ℕ) → not a ≡ false → wide ≡ x → b ≡ is_level wide → not b ≡ true → w ≡ put_flag (set l g y) 30 g false → Keeps l w (view w ≡ put (view l) g (with_word (entry_at (view l) g) (replace_low20 word x)))
    laid_edge b wide f cast v h r =
        so_that (ground_flying l w g long here word y at (sym flies ∙ not-false a f) (irr_low_of y word (without_status x) new) r)
        (λ p. p ∙ ap (λ (n : ℕ). put (view l) g (with_word (entry_at (view l) g) n)) (new ∙ flight_edge word x (sym (v ∙ ap is_level cast) ∙ not-true b h)))

    pub laid_still : not a ≡ true → w ≡ set l g y → Keeps l w (view w ≡ put (view l) g (with_word (entry_at (view l) g) (replace_low20 word x)))
    laid_still f r =
        so_that (ground_still l w g long here word y at (sym flies ∙ not-true a f) (irr_low_of y word (without_status x) new) r)
        (λ p. p ∙ ap (λ (n : ℕ). put (view l) g (with_word (entry_at (view l) g) n)) (new ∙ flight_still word x (sym flies ∙ not-true a f)))

pub unflown : (word : ℕ) (e : Entry) → false ≡ true → Flown word e
unflown word e h = never h refl

-- and what was deferred is forgotten
module _ (l : List ℕ) (g word x : ℕ) where
  pub forgot_unset : (entry_at (view l) g).pending_level ≡ false → Keeps l l (view l ≡ put (view l) g (forgetting word (entry_at (view l) g) x))
  forgot_unset none =
      let e : Entry = entry_at (view l) g in
      still l (sym (put_back (view l) g (forgetting word e x) (both (λ (z : Entry). z ≡ e) (keeps_deferred word x) e (with_deferred e false) refl (ap (with_deferred e) (sym none)))))

  pub forgot_none : (b : Bool) → g < 24 → (b ≡ true → NoneDeferred (view l)) → b ≡ true → Keeps l l (view l ≡ put (view l) g (forgetting word (entry_at (view l) g) x))
  forgot_none b i none h = forgot_unset (none h g i)

  module _ (a : Bool) (is : a ≡ keeps_deferred word x) where
    forgets : (b : Bool) → a ≡ b → forgetting word (entry_at (view l) g) x ≡ cond b (entry_at (view l) g) (with_deferred (entry_at (view l) g) false)
    forgets b h = ap (λ (c : Bool). cond c (entry_at (view l) g) (with_deferred (entry_at (view l) g) false)) (sym is ∙ h)

    pub forgot_nothing : a ≡ true → Keeps l l (view l ≡ put (view l) g (forgetting word (entry_at (view l) g) x))
    forgot_nothing h = still l (sym (put_back (view l) g (forgetting word (entry_at (view l) g) x) (forgets true h)))

    pub forgot : (w : List ℕ) → a ≡ false → Keeps l w (view w ≡ put (view l) g (with_deferred (entry_at (view l) g) false)) → Keeps l w (view w ≡ put (view l) g (forgetting word (entry_at (view l) g) x))
    forgot w h k = so_that k (λ p. p ∙ ap (put (view l) g) (sym (forgets false h)))

-- nothing is deferred
pub none_deferred : (l : List ℕ) → eqb (get_or l 24 0) 0 ≡ true → NoneDeferred (view l)
none_deferred l h g i =
    let z : get_or l 24 0 ≡ 0 = eqb-true (get_or l 24 0) 0 h in
    sym (deferred_at l g false i (sym (ap (λ (n : ℕ). bit n g) z ∙ bit_above 0 0 g (omega arith) (omega arith))))

pub quiet : (l : List ℕ) (g : ℕ) (b c : Bool) → g < 24 → (b ≡ true → NoneDeferred (view l)) → b ≡ true → c ≡ bit (get_or l 25 0 % 4294967296) g → not c ≡ true → Quiet (entry_at (view l) g)
quiet l g b c i none n line d =
    record { undeferred = none n g i; down = sym (input_at l g c i (line ∙ bit_cut (get_or l 25 0) 32 g (omega arith))) ∙ not-true c d }

-- the low word laid down, from the words l to u
module _ (l u : List ℕ) (g x word : ℕ) (here : g < 24) (at : word ≡ (entry_at (view l) g).word) (a : Bool) (flies : a ≡ remote_irr word)
    (laid : Keeps l u (view u ≡ put (view l) g (with_word (entry_at (view l) g) (replace_low20 word x)))) where
  laid_at : entry_at (view u) g ≡ with_word (entry_at (view l) g) (replace_low20 word x)
  laid_at = ap (λ (s : IoApicState). entry_at s g) laid.is ∙ at_put (view l) g (with_word (entry_at (view l) g) (replace_low20 word x)) (view_long l) here

  -- the line down and nothing deferred, at rest
  pub low20_rested : (b : Bool) → a ≡ false → (b ≡ true → Quiet (entry_at (view u) g)) → b ≡ true → Keeps l u (routing (view u) None ≡ route_at (view l) g (write_low20 (entry_at (view l) g) x))
  low20_rested b f is h =
      let e : Entry = entry_at (view l) g in
      let q : Quiet (with_word e (replace_low20 word x)) = subst Quiet laid_at (is h) in
      let i : remote_irr word ≡ false = sym flies ∙ f in
      steps l u g (with_word e (replace_low20 word x)) None (write_low20 e x) laid
      (low20_resting e x (ap remote_irr (sym at) ∙ i) q.undeferred q.down
      ∙ ap (λ (n : ℕ). quietly (with_word e n)) (ap (λ (n : ℕ). replace_low n (without_status x)) (sym at) ∙ flight_still word x i))

  -- and what was deferred forgotten, up to the words w
  module _ (w : List ℕ) (left : Keeps u w (view w ≡ put (view u) g (forgetting word (entry_at (view u) g) x))) where
    stored : Keeps l w (view w ≡ put (view l) g (store_low20 (entry_at (view l) g) x))
    unfolding store_low20
    stored =
        let e : Entry = entry_at (view l) g in
        let f : Entry = with_word e (replace_low20 word x) in
        let made : forgetting word f x ≡ store_low20 e x = go (keeps_deferred word x) ∙ ap (λ (n : ℕ). with_word (cond (keeps_deferred n x) e (with_deferred e false)) (replace_low20 n x)) at in
        let n : remote_irr (forgetting word f x).word ≡ remote_irr f.word = both (λ (z : Entry). remote_irr z.word ≡ remote_irr f.word) (keeps_deferred word x) f (with_deferred f false) refl refl in
        then laid left
        (λ p r. r ∙ ap₂ (λ (s : IoApicState) (z : Entry). put s g (forgetting word z x)) p laid_at ∙ put_then (view l) g f (view_long l) here (forgetting word f x) n ∙ ap (put (view l) g) made)
      where
        go : (b : Bool) → cond b (with_word (entry_at (view l) g) (replace_low20 word x)) (with_deferred (with_word (entry_at (view l) g) (replace_low20 word x)) false) ≡ with_word (cond b (entry_at (view l) g) (with_deferred (entry_at (view l) g) false)) (replace_low20 word x)
        go true = refl
        go false = refl

    stored_at : entry_at (view w) g ≡ store_low20 (entry_at (view l) g) x
    stored_at = ap (λ (s : IoApicState). entry_at s g) stored.is ∙ at_put (view l) g (store_low20 (entry_at (view l) g) x) (view_long l) here

    pub low20_flown : a ≡ true → Keeps l w (routing (view w) None ≡ route_at (view l) g (write_low20 (entry_at (view l) g) x))
    low20_flown h =
        let e : Entry = entry_at (view l) g in
        steps l w g (store_low20 e x) None (write_low20 e x) stored (low20_quiet e x (low20_flying e x (ap remote_irr (sym at) ∙ sym flies ∙ h)))

    -- the register then, of an entry that was at rest
    pub word_stored : (y : ℕ) → a ≡ false → y ≡ replace_low word (without_status x) → y ≡ (entry_at (view w) g).word
    unfolding store_low20
    word_stored y f q = q ∙ flight_still word x (sym flies ∙ f) ∙ ap (λ (n : ℕ). replace_low20 n x) at ∙ sym (ap (λ (e : Entry). e.word) stored_at)

    module _ (b : Bool) (is : b ≡ is_owed (entry_at (view w) g)) where
      owing : (c : Bool) → b ≡ c → is_owed (store_low20 (entry_at (view l) g) x) ≡ c
      owing c h = ap is_owed (sym stored_at) ∙ sym is ∙ h

      -- a level word flies as it did
      as_before : b ≡ true → remote_irr (store_low20 (entry_at (view l) g) x).word ≡ remote_irr (entry_at (view l) g).word
      unfolding store_low20
      as_before h =
          let n : ℕ = (entry_at (view l) g).word in
          let p : is_level (replace_low20 n x) ≡ true = owed_level (store_low20 (entry_at (view l) g) x) (owing true h) in
          irr_low20 n x ∙ ap (λ (c : Bool). c && remote_irr n) (sym (same_level (alike_low20 n x)) ∙ p)

      pub low20_sent : (v : List ℕ) (r : Option IoApicInterrupt) → b ≡ true → Keeps w v (routing (view v) r ≡ route_at (view w) g (send_entry (entry_at (view w) g)))
          → Keeps l v (routing (view v) r ≡ route_at (view l) g (write_low20 (entry_at (view l) g) x))
      low20_sent v r h k =
          moves l w v g (store_low20 (entry_at (view l) g) x) r (write_low20 (entry_at (view l) g) x) (send_entry (entry_at (view w) g)) here (as_before h) stored k
          (low20_owed (entry_at (view l) g) x (owing true h) ∙ ap send_entry (sym stored_at))

      pub low20_unsent : b ≡ false → Keeps l w (routing (view w) None ≡ route_at (view l) g (write_low20 (entry_at (view l) g) x))
      low20_unsent h =
          steps l w g (store_low20 (entry_at (view l) g) x) None (write_low20 (entry_at (view l) g) x) stored (low20_quiet (entry_at (view l) g) x (owing false h))

-- in flight as before, with nothing to be forgotten
pub low20_stayed : (l u : List ℕ) (g x word : ℕ) → g < 24 → word ≡ (entry_at (view l) g).word → (b : Bool)
    → Keeps l u (view u ≡ put (view l) g (with_word (entry_at (view l) g) (replace_low20 word x))) → (b ≡ true → Flown word (entry_at (view l) g)) → b ≡ true
    → Keeps l u (routing (view u) None ≡ route_at (view l) g (write_low20 (entry_at (view l) g) x))
low20_stayed l u g x word here at b laid is h =
    let f : Entry = with_word (entry_at (view l) g) (replace_low20 word x) in
    let none : (entry_at (view u) g).pending_level ≡ false =
    ap (λ (s : IoApicState). (entry_at s g).pending_level) laid.is ∙ ap (λ (e : Entry). e.pending_level) (at_put (view l) g f (view_long l) here) ∙ (is h).undeferred in
    low20_flown l u g x word here at true (sym (is h).flying) laid u (forgot_unset u g word x none) refl
