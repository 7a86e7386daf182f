-- The rules of one entry, a law for each case: what the proofs of the code cite. Assumes nothing.
use Prim.Native.Nat.{ℕ, ◌+◌, ◌*◌, ◌/◌, ◌%◌, ◌^◌, ◌<◌, ◌≤◌}
use native.Mathlib.Omega.{arith}
use mathlib.Core.Bool.{Bool, true, false, not, cond, ◌&&◌, ◌||◌}
use mathlib.Core.Path.{◌≡◌, refl, sym, ◌∙◌, ap, ap₂}
use lib.Dec.{eqb, ltb}
use borrow.Author.Tests.{eqb-true, eqb-false, eq-eqb, ne_eqb, lt-ltb, le-ltb, lt-leb, le-leb}
use Rattle.utils.specs.Set.{bit}
use Rattle.utils.specs.Cases.{and_right_no}
use Rattle.utils.proofs.Bools.{both, and_true, not_is}
use Rattle.vioapic_entry.specs.Redirection.{is_fixed, is_fit, is_level, is_masked, remote_irr, same_low, with_remote_irr, without_remote_irr, replace_low, replace_high, with_word, with_deferred, with_input, quietly, sending, send_entry, raise_entry, lower_entry, end_entry, end_entry20, write_low, write_high, without_status, same_low20, keeps_flight, replace_low20, keeps_deferred, store_low20, is_owed, write_low20}
use Rattle.vioapic_entry.specs.declared.Entry.{Entry}
use Rattle.vioapic_entry.proofs.Fields.{same_fit, same_level, alike_without, alike_low20, level_low, irr_without, irr_low20}

-- an entry whose line stands so already
input_same : (e : Entry) (b : Bool) → e.input_level ≡ b → with_input e b ≡ e
input_same e b h = ap (with_input e) (sym h)

module _ (e : Entry) where
  -- ---- it is sent
  pub send_unfit : is_fit e.word ≡ false → send_entry e ≡ quietly e
  unfolding send_entry
  send_unfit h = rw h

  pub send_edge : is_fit e.word ≡ true → is_level e.word ≡ false → send_entry e ≡ sending e
  unfolding send_entry
  send_edge h l = rw (h, l)

  pub send_later : is_fit e.word ≡ true → is_level e.word ≡ true → remote_irr e.word ≡ true → send_entry e ≡ quietly (with_deferred e true)
  unfolding send_entry
  send_later h l f = rw (h, l, f)

  pub send_level : is_fit e.word ≡ true → is_level e.word ≡ true → remote_irr e.word ≡ false → send_entry e ≡ sending (with_word e (with_remote_irr e.word))
  unfolding send_entry
  send_level h l f = rw (h, l, f)

  -- ---- its line moves
  pub raise_again : (e.input_level && remote_irr e.word) ≡ true → e.input_level ≡ true → raise_entry e ≡ quietly (with_deferred e true)
  unfolding raise_entry
  raise_again h u = rw h (ap (λ (x : Entry). quietly (with_deferred x true)) (input_same e true u))

  pub raise_new : (e.input_level && remote_irr e.word) ≡ false → raise_entry e ≡ send_entry (with_input e true)
  unfolding raise_entry
  raise_new h = rw h

  pub lower_is : lower_entry e ≡ quietly (with_input (with_deferred e false) false)
  unfolding lower_entry
  lower_is = refl

  -- ---- an EOI ends it
  pub end_up : e.input_level ≡ true → end_entry e ≡ send_entry (with_word e (without_remote_irr e.word))
  unfolding end_entry
  end_up h = rw h

  pub end_deferred : e.input_level ≡ false → e.pending_level ≡ true → end_entry e ≡ send_entry (with_word (with_deferred e false) (without_remote_irr e.word))
  unfolding end_entry
  end_deferred h l = rw (h, l)

  pub end_quiet : e.input_level ≡ false → e.pending_level ≡ false → end_entry e ≡ quietly (with_word e (without_remote_irr e.word))
  unfolding end_entry
  end_quiet h l = rw (h, l)

  pub end20_asks : (e.input_level || e.pending_level) ≡ true → end_entry20 e ≡ send_entry (with_word (with_deferred e false) (without_remote_irr e.word))
  unfolding end_entry20
  end20_asks h = rw h

  pub end20_quiet : (e.input_level || e.pending_level) ≡ false → end_entry20 e ≡ quietly (with_word (with_deferred e false) (without_remote_irr e.word))
  unfolding end_entry20
  end20_quiet h = rw h

  -- ended and sent again it is in flight as before
  again : remote_irr e.word ≡ true → with_remote_irr (without_remote_irr e.word) ≡ e.word
  again h = let p : e.word / 2 ^ 14 % 2 ≡ 1 = eqb-true _ _ h in omega (arith, p)

  pub resend_fit : remote_irr e.word ≡ true → is_level e.word ≡ true → is_fit e.word ≡ true → send_entry (with_word e (without_remote_irr e.word)) ≡ sending e
  unfolding send_entry
  resend_fit i l f =
      let a = alike_without e.word in
      let x : is_fit (without_remote_irr e.word) ≡ true = same_fit a ∙ f in
      let y : is_level (without_remote_irr e.word) ≡ true = same_level a ∙ l in
      rw (x, y, irr_without e.word) (ap (λ (w : ℕ). sending (with_word e w)) (again i))

  pub resend_unfit : is_fit e.word ≡ false → send_entry (with_word e (without_remote_irr e.word)) ≡ quietly (with_word e (without_remote_irr e.word))
  unfolding send_entry
  resend_unfit f = let x : is_fit (without_remote_irr e.word) ≡ false = same_fit (alike_without e.word) ∙ f in rw x

  -- what is owed is level, not in flight, and its line is up
  module _ (h : is_owed e ≡ true) where
    pub owed_level : is_level e.word ≡ true
    owed_level = (and_true (is_level e.word) (not (remote_irr e.word)) (and_true (is_level e.word && not (remote_irr e.word)) e.input_level h).0).0

    pub owed_grounded : remote_irr e.word ≡ false
    owed_grounded = not_is (remote_irr e.word) (and_true (is_level e.word) (not (remote_irr e.word)) (and_true (is_level e.word && not (remote_irr e.word)) e.input_level h).0).1

  -- ---- the guest writes it
  module _ (x : ℕ) where
    pub low_masked : same_low e.word x ≡ true → is_masked e.word ≡ true → write_low e x ≡ with_deferred e false
    unfolding write_low
    low_masked h m = rw (h, m)

    pub low_same : same_low e.word x ≡ true → is_masked e.word ≡ false → write_low e x ≡ e
    unfolding write_low
    low_same h m = rw (h, m)

    pub low_changed : same_low e.word x ≡ false → write_low e x ≡ with_deferred (with_word e (replace_low e.word x)) false
    unfolding write_low
    low_changed h =
        let d : Entry = with_deferred (with_word e (replace_low e.word x)) false in
        rw h (both (λ (z : Entry). z ≡ d) (is_masked d.word) (with_deferred d false) d refl refl)

    pub low20_owed : is_owed (store_low20 e x) ≡ true → write_low20 e x ≡ send_entry (store_low20 e x)
    unfolding write_low20
    low20_owed h = rw h

    pub low20_quiet : is_owed (store_low20 e x) ≡ false → write_low20 e x ≡ quietly (store_low20 e x)
    unfolding write_low20
    low20_quiet h = rw h

    -- at rest with its line down the register is stored, and nothing else happens
    pub low20_resting : remote_irr e.word ≡ false → e.pending_level ≡ false → e.input_level ≡ false
        → write_low20 e x ≡ quietly (with_word e (replace_low e.word (without_status x)))
    unfolding write_low20 store_low20
    low20_resting f d u =
        let k : keeps_flight e.word x ≡ false = and_right_no (is_level x) (remote_irr e.word) f in
        let n : cond (keeps_deferred e.word x) e (with_deferred e false) ≡ e = both (λ (z : Entry). z ≡ e) (keeps_deferred e.word x) e (with_deferred e false) refl (ap (with_deferred e) (sym d)) in
        let s : store_low20 e x ≡ with_word e (replace_low e.word (without_status x)) = rw (k, n) in
        let o : is_owed (store_low20 e x) ≡ false = ap is_owed s ∙ and_right_no (is_level (replace_low e.word (without_status x)) && not (remote_irr (replace_low e.word (without_status x)))) e.input_level u in
        low20_quiet o ∙ ap quietly s

    -- in flight, an entry isn't owed anything: with a level word it stays so, and with another one it is edge
    pub low20_flying : remote_irr e.word ≡ true → is_owed (store_low20 e x) ≡ false
    unfolding store_low20
    low20_flying f =
        let l : is_level (replace_low20 e.word x) ≡ is_level x = same_level (alike_low20 e.word x) in
        let r : remote_irr (replace_low20 e.word x) ≡ (is_level x && true) = irr_low20 e.word x ∙ ap (λ (b : Bool). is_level x && b) f in
        rw (l, r) (go (is_level x))
      where
        go : (b : Bool) → (b && not (b && true) && (cond (keeps_deferred e.word x) e (with_deferred e false)).input_level) ≡ false
        go true = refl
        go false = refl

    pub high_is : write_high e x ≡ with_word e (replace_high e.word x)
    unfolding write_high
    high_is = refl

-- the ways out of version 0x20's functions
module _ (w x : ℕ) where
  pub low_resting : (r z : ℕ) → z ≡ without_status x → r ≡ replace_low w z → r ≡ replace_low w (without_status x)
  low_resting r z q p = p ∙ ap (replace_low w) q

  pub low_level : (m n : ℕ) → m ≡ without_status x → n ≡ without_remote_irr m
      → w / 4294967296 * 4294967296 + w / 16384 % 2 * 16384 + n ≡ cond (remote_irr w) (with_remote_irr (replace_low w (without_status x))) (replace_low w (without_status x))
  low_level m n q p = ap (λ (z : ℕ). w / 4294967296 * 4294967296 + w / 16384 % 2 * 16384 + z) (p ∙ ap without_remote_irr q) ∙ level_low w (without_status x)

  -- a level word keeps Remote IRR; with an edge one it is clear, and where it was clear it stays so
  pub flight_level : is_level x ≡ true → cond (remote_irr w) (with_remote_irr (replace_low w (without_status x))) (replace_low w (without_status x)) ≡ replace_low20 w x
  flight_level h = rw h

  pub flight_edge : is_level x ≡ false → replace_low w (without_status x) ≡ replace_low20 w x
  flight_edge h = rw h

  pub flight_still : remote_irr w ≡ false → replace_low w (without_status x) ≡ replace_low20 w x
  flight_still h = rw (and_right_no (is_level x) (remote_irr w) h)

  module _ (a : Bool) (y z : ℕ) (before : y ≡ without_status w) (after : z ≡ without_status x) (is : a ≡ same_low y z) where
    sames : (b : Bool) → a ≡ b → same_low20 w x ≡ b
    sames b h = ap₂ (λ (m n : ℕ). same_low m n) (sym before) (sym after) ∙ sym is ∙ h

    pub deferred_same : (m : Bool) → a ≡ true → m ≡ is_masked x → not m ≡ keeps_deferred w x
    deferred_same m h q = rw (sames true h) (ap not q)

    pub deferred_changed : a ≡ false → false ≡ keeps_deferred w x
    deferred_changed h = rw (sames false h)

-- level and in flight, and the vector, in one number: an EOI of the vector ends exactly the entry in which both bits stand beside it
abbrev fields : ℕ → ℕ
fields w = w / 2 ^ 14 % 4 * 2 ^ 14 + w % 2 ^ 8

pub awaits_sum : (w v : ℕ) → eqb (fields w) (0xc000 + v) ≡ (eqb (w % 2 ^ 8) v && bit w 15 && bit w 14)
awaits_sum w v = go (eqb (w % 2 ^ 8) v) (bit w 15) (bit w 14) refl refl refl
  where
    go : (a b c : Bool) → eqb (w % 2 ^ 8) v ≡ a → bit w 15 ≡ b → bit w 14 ≡ c → eqb (fields w) (0xc000 + v) ≡ (a && b && c)
    go true true true p q r =
        let x : w % 2 ^ 8 ≡ v = eqb-true _ _ p in
        let y : w / 2 ^ 15 % 2 ≡ 1 = eqb-true _ _ q in
        let z : w / 2 ^ 14 % 2 ≡ 1 = eqb-true _ _ r in
        let h : w / 2 ^ 15 ≡ w / 2 ^ 14 / 2 = omega arith in
        let m : w / 2 ^ 14 / 2 % 2 ≡ 1 = rw (← h) y in
        let d : w / 2 ^ 14 % 4 ≡ 3 = omega (arith, m, z) in
        eq-eqb (fields w) (0xc000 + v) (omega (arith, x, d))
    go true true false p q r = ne_eqb (fields w) (0xc000 + v) (λ e. eqb-false (w / 2 ^ 14 % 2) 1 r (omega (arith, e)))
    go true false c p q r = ne_eqb (fields w) (0xc000 + v) (λ e. eqb-false (w / 2 ^ 15 % 2) 1 q (omega (arith, e)))
    go false b c p q r = ne_eqb (fields w) (0xc000 + v) (λ e. eqb-false (w % 2 ^ 8) v p (omega (arith, e)))

-- fit to be sent, in one number: the mask, the delivery mode and the vector's upper half
abbrev fitness : ℕ → ℕ
fitness w = w / 2 ^ 16 % 2 * 2 ^ 16 + w / 16 % 128 * 16

module _ (w : ℕ) where
  pub fit_low : fitness w < 16 → false ≡ is_fit w
  fit_low h = go (bit w 16) (is_fixed w) refl refl
    where
      go : (a b : Bool) → bit w 16 ≡ a → is_fixed w ≡ b → false ≡ is_fit w
      go true b p q = rw p
      go false true p q = let z : w % 2 ^ 8 < 16 = omega (arith, h) in rw (p, q, lt-leb 16 (w % 2 ^ 8) z)
      go false false p q = rw (p, q)

  pub fit_is : 16 ≤ fitness w → ltb (fitness w) 256 ≡ is_fit w
  fit_is h = go (bit w 16) (is_fixed w) refl refl
    where
      go : (a b : Bool) → bit w 16 ≡ a → is_fixed w ≡ b → ltb (fitness w) 256 ≡ is_fit w
      go true b p q = let x : w / 2 ^ 16 % 2 ≡ 1 = eqb-true _ _ p in rw p (le-ltb (fitness w) 256 (omega (arith, x)))
      go false true p q =
          let x : (w / 2 ^ 16 % 2 ≡ 1) → ⊥ = eqb-false _ _ p in
          let y : w / 2 ^ 8 % 8 ≡ 0 = eqb-true _ _ q in
          let m : w / 2 ^ 16 % 2 ≡ 0 = omega (arith, x) in
          let k : w / 16 / 16 ≡ w / 2 ^ 8 = omega arith in
          let i : w / 16 % 128 ≡ w / 16 % 16 = omega (arith, k, y) in
          let j : w % 2 ^ 8 / 16 ≡ w / 16 % 16 = omega (arith, k) in
          let low : fitness w < 256 = omega (arith, m, i) in
          let upper : 16 ≤ w % 2 ^ 8 = omega (arith, h, m, i, j) in
          rw (p, q, le-leb 16 (w % 2 ^ 8) upper) (lt-ltb (fitness w) 256 low)
      go false false p q =
          let y : (w / 2 ^ 8 % 8 ≡ 0) → ⊥ = eqb-false _ _ q in
          let k : w / 16 / 16 ≡ w / 2 ^ 8 = omega arith in
          let i : 16 ≤ w / 16 % 128 = omega (arith, k, y) in
          rw (p, q) (le-ltb (fitness w) 256 (omega (arith, i)))
