-- PPR, and an interrupt from its acceptance to its EOI. Assumes nothing.
use mathlib.Core.Path.{◌≡◌, refl, sym, ap, ◌∙◌, subst}
use mathlib.Core.Bool.{Bool, true, false, not, cond, ◌&&◌}
use mathlib.Core.List.{List}
use Prim.Native.Nat.{ℕ, ◌*◌, ◌/◌, ◌%◌, ◌≤◌, ◌<◌, max}
use native.Mathlib.Omega.{arith}
use lib.Dec.{eqb, leb}
use lib.ListN.{get_or, set, length, length-set}
use lib.Seq.{get_or-set_same, get_or-set_other, ext_get_or}
use borrow.Author.Tests.{eqb-true, eqb-false, eq-eqb, ne_eqb, leb-true, leb-false, le-leb, lt-leb}
use Rattle.utils.specs.Set.{bit, with, without}
use Rattle.utils.specs.Vectors.{class_of}
use Rattle.utils.proofs.Bools.{and-false, and_one}
use Rattle.utils.proofs.Laws.{bit_with_same, bit_with_other, bit_without_same, bit_without_other, without_with}
use Rattle.types.specs.declared.Vector.{Vector}
use Rattle.types.specs.declared.Reply.TheVariants.{Nothing, One}
use Rattle.types.specs.Reply.{Outcome}
use Rattle.vlapic_regs.specs.Vectors.{in_words, with_vector, without_vector}
use Rattle.vlapic.specs.declared.VirtualApicRegs.{VirtualApicRegs}
use Rattle.vlapic_regs.specs.Register.{priority, broadcast}
use Rattle.vlapic.specs.Priority.{find_isrv, update_ppr, accept_interrupt, handle_eoi}
use Rattle.vlapic_theorems.specs.Service.{Highest, Idle, SearchFinds}
use Rattle.vlapic_theorems.specs.Priorities.{Prioritized, Acceptances, Completions, AcceptThenEoi}
use Rattle.vlapic_theorems.proofs.Service.{searches}

in_service_kept : (s : VirtualApicRegs) → SearchFinds 32 s.isr
in_service_kept s = searches 32 (omega arith) s.isr

-- ---- PPR

tpr_wins : (tpr v : ℕ) → class_of v ≤ class_of tpr → priority tpr v ≡ tpr
unfolding priority
tpr_wins tpr v h = rw (le-leb (class_of v) (class_of tpr) h)

vector_wins : (tpr v : ℕ) → class_of tpr < class_of v → priority tpr v ≡ class_of v * 16
unfolding priority
vector_wins tpr v h = rw (lt-leb (class_of v) (class_of tpr) h)

larger : (tpr v : ℕ) → class_of (priority tpr v) ≡ max (class_of tpr) (class_of v)
larger tpr v = go (leb (class_of v) (class_of tpr)) refl
  where
    go : (b : Bool) → leb (class_of v) (class_of tpr) ≡ b → class_of (priority tpr v) ≡ max (class_of tpr) (class_of v)
    go true e = let h : class_of v ≤ class_of tpr = leb-true (class_of v) (class_of tpr) e in rw (tpr_wins tpr v h) (omega arith)
    go false e = let h : class_of tpr < class_of v = leb-false (class_of v) (class_of tpr) e in rw (vector_wins tpr v h) (omega arith)

-- a state whose PPR was worked out
prioritized : (s : VirtualApicRegs) → s.ppr ≡ priority s.tpr (find_isrv s) → Prioritized s
prioritized s e = record {
  class = λ v h. ap class_of (at v h) ∙ larger s.tpr v;
  by_tpr = λ v h l. at v h ∙ tpr_wins s.tpr v l;
  by_vector = λ v h l. at v h ∙ vector_wins s.tpr v l ∙ whole v h.vector;
  idle = λ i. e ∙ ap (priority s.tpr) ((in_service_kept s).complete_none i) ∙ tpr_wins s.tpr 0 (omega arith);
}
  where
    at : (v : ℕ) → Highest 32 s.isr v → s.ppr ≡ priority s.tpr v
    at v h = e ∙ ap (priority s.tpr) ((in_service_kept s).complete v h)

    whole : (v : ℕ) → v < 256 → class_of v * 16 ≡ v / 16 * 16
    whole v l = omega arith

accept_worked : (s : VirtualApicRegs) (vector : Vector) (level : Bool)
    → (accept_interrupt s vector level).state.ppr ≡ priority (accept_interrupt s vector level).state.tpr (find_isrv (accept_interrupt s vector level).state)
unfolding accept_interrupt update_ppr
accept_worked s vector level = refl

eoi_worked : (s : VirtualApicRegs) → (find_isrv s ≡ 0 → ⊥) → (handle_eoi s).state.ppr ≡ priority (handle_eoi s).state.tpr (find_isrv (handle_eoi s).state)
unfolding handle_eoi update_ppr
eoi_worked s n = rw (ne_eqb (find_isrv s) 0 n)

pub acceptances : Acceptances
acceptances s vector level = prioritized (accept_interrupt s vector level).state (accept_worked s vector level)

pub completions : Completions
completions s v h = prioritized (handle_eoi s).state (eoi_worked s (λ z. omega (arith, h.from, sym ((in_service_kept s).complete v h) ∙ z)))

-- ---- one vector put in, and taken out again

module _ (words : List ℕ) (v : ℕ) (l : v / 32 < length words) where
  -- v's word changed by g, in v's bit alone
  changed : (ℕ → ℕ → ℕ) → List ℕ
  changed g = set words (v / 32) (g (get_or words (v / 32) 0) (v % 32))

  changed_same : (g : ℕ → ℕ → ℕ) → in_words (changed g) v ≡ bit (g (get_or words (v / 32) 0) (v % 32)) (v % 32)
  unfolding changed
  changed_same g = rw (get_or-set_same words (v / 32) (g (get_or words (v / 32) 0) (v % 32)) 0 l)

  changed_other : (g : ℕ → ℕ → ℕ) → ((n k j : ℕ) → (j ≡ k → ⊥) → bit (g n k) j ≡ bit n j) → (u : ℕ) → (u ≡ v → ⊥) → in_words (changed g) u ≡ in_words words u
  unfolding changed
  changed_other g same u n = go (eqb (u / 32) (v / 32)) refl
    where
      go : (b : Bool) → eqb (u / 32) (v / 32) ≡ b → in_words (changed g) u ≡ in_words words u
      go false e = rw (get_or-set_other words (v / 32) (u / 32) (g (get_or words (v / 32) 0) (v % 32)) 0 (eqb-false (u / 32) (v / 32) e))
      go true e =
          let i : u / 32 ≡ v / 32 = eqb-true (u / 32) (v / 32) e in
          rw (i, get_or-set_same words (v / 32) (g (get_or words (v / 32) 0) (v % 32)) 0 l) (same (get_or words (v / 32) 0) (v % 32) (u % 32) (λ r. n (omega arith)))

  put_same : in_words (with_vector words v) v ≡ true
  unfolding changed
  put_same = changed_same with ∙ bit_with_same (get_or words (v / 32) 0) (v % 32)

  put_other : (u : ℕ) → (u ≡ v → ⊥) → in_words (with_vector words v) u ≡ in_words words u
  unfolding changed
  put_other u n = changed_other with bit_with_other u n

  take_same : in_words (without_vector words v) v ≡ false
  unfolding changed
  take_same = changed_same without ∙ bit_without_same (get_or words (v / 32) 0) (v % 32)

  take_other : (u : ℕ) → (u ≡ v → ⊥) → in_words (without_vector words v) u ≡ in_words words u
  unfolding changed
  take_other u n = changed_other without bit_without_other u n

  -- what was no member
  put_taken : in_words words v ≡ false → without_vector (with_vector words v) v ≡ words
  put_taken h =
      ext_get_or 0 (without_vector (with_vector words v) v) words
      (length-set (with_vector words v) k _ ∙ length-set words k _)
      (λ i b. go i (eqb i k) refl)
    where
      k : ℕ
      k = v / 32

      word : ℕ
      word = get_or words k 0

      put : get_or (with_vector words v) k 0 ≡ with word (v % 32)
      put = get_or-set_same words k (with word (v % 32)) 0 l

      back : without (get_or (with_vector words v) k 0) (v % 32) ≡ word
      back = ap (λ (n : ℕ). without n (v % 32)) put ∙ without_with word (v % 32) h

      go : (i : ℕ) (b : Bool) → eqb i k ≡ b → get_or (without_vector (with_vector words v) v) i 0 ≡ get_or words i 0
      go i true e =
          let q : i ≡ k = eqb-true i k e in
          subst (λ (j : ℕ). get_or (without_vector (with_vector words v) v) j 0 ≡ get_or words j 0) (sym q)
          (get_or-set_same (with_vector words v) k _ 0 (rw (length-set words k (with word (v % 32))) l) ∙ back)
      go i false e =
          let n = eqb-false i k e in
          get_or-set_other (with_vector words v) k i _ 0 n ∙ get_or-set_other words k i (with word (v % 32)) 0 n

-- ---- acceptance, then EOI

module _ (s : VirtualApicRegs) (vector : Vector) (level : Bool) (isr8 : length s.isr ≡ 8) (tmr8 : length s.tmr ≡ 8) (from : 32 ≤ vector.0) (byte : vector.0 < 256)
    (above : (u : ℕ) → vector.0 < u → u < 256 → in_words s.isr u ≡ false) where
  abbrev v : ℕ
  v = vector.0

  abbrev accepted : VirtualApicRegs
  accepted = (accept_interrupt s vector level).state

  abbrev after : Outcome VirtualApicRegs
  after = handle_eoi accepted

  in_isr : v / 32 < length s.isr
  in_isr = omega arith

  in_tmr : v / 32 < length s.tmr
  in_tmr = omega arith

  accepted_isr : accepted.isr ≡ with_vector s.isr v
  unfolding accept_interrupt update_ppr
  accepted_isr = refl

  highest : Highest 32 accepted.isr v
  highest = rw accepted_isr (record {
    from = from;
    vector = byte;
    served = put_same s.isr v in_isr;
    above = λ u l b. put_other s.isr v in_isr u (λ q. omega arith) ∙ above u l b;
  })

  found : find_isrv accepted ≡ v
  found = (in_service_kept accepted).complete v highest

  after_isr : after.state.isr ≡ without_vector accepted.isr v
  unfolding handle_eoi update_ppr
  after_isr = rw (found, ne_eqb v 0 (λ z. omega arith))

  -- who is in service after it
  one_ended : (u : ℕ) (b : Bool) → eqb u v ≡ b → in_words (without_vector (with_vector s.isr v) v) u ≡ (in_words s.isr u && not b)
  one_ended u true e =
      let q : u ≡ v = eqb-true u v e in
      subst (λ (j : ℕ). in_words (without_vector (with_vector s.isr v) v) j ≡ false) (sym q) (take_same (with_vector s.isr v) v still) ∙ sym (and-false (in_words s.isr u))
    where
      still : v / 32 < length (with_vector s.isr v)
      still = rw (length-set s.isr (v / 32) (with (get_or s.isr (v / 32) 0) (v % 32))) in_isr
  one_ended u false e =
      let n = eqb-false u v e in
      take_other (with_vector s.isr v) v (rw (length-set s.isr (v / 32) (with (get_or s.isr (v / 32) 0) (v % 32))) in_isr) u n
      ∙ put_other s.isr v in_isr u n
      ∙ sym (and_one (in_words s.isr u))

  isr_is : after.state.isr ≡ without_vector (with_vector s.isr v) v
  isr_is = after_isr ∙ ap (λ (words : List ℕ). without_vector words v) accepted_isr

  isr_back : in_words s.isr v ≡ false → after.state.isr ≡ s.isr
  isr_back h = isr_is ∙ put_taken s.isr v in_isr h

  -- its trigger bit
  accepted_tmr : accepted.tmr ≡ cond level (with_vector s.tmr v) (without_vector s.tmr v)
  unfolding accept_interrupt update_ppr
  accepted_tmr = refl

  triggered : (u : ℕ) (b : Bool) → eqb u v ≡ b → (l : Bool) → in_words (cond l (with_vector s.tmr v) (without_vector s.tmr v)) u ≡ cond b l (in_words s.tmr u)
  triggered u true e true = let q : u ≡ v = eqb-true u v e in subst (λ (j : ℕ). in_words (with_vector s.tmr v) j ≡ true) (sym q) (put_same s.tmr v in_tmr)
  triggered u true e false = let q : u ≡ v = eqb-true u v e in subst (λ (j : ℕ). in_words (without_vector s.tmr v) j ≡ false) (sym q) (take_same s.tmr v in_tmr)
  triggered u false e true = put_other s.tmr v in_tmr u (eqb-false u v e)
  triggered u false e false = take_other s.tmr v in_tmr u (eqb-false u v e)

  after_tmr : after.state.tmr ≡ accepted.tmr
  unfolding handle_eoi update_ppr
  after_tmr = rw (found, ne_eqb v 0 (λ z. omega arith))

  tmr_is : (u : ℕ) → in_words after.state.tmr u ≡ cond (eqb u v) level (in_words s.tmr u)
  tmr_is u = ap (λ (words : List ℕ). in_words words u) (after_tmr ∙ accepted_tmr) ∙ triggered u (eqb u v) refl level

  -- its broadcast
  after_reply : after.reply ≡ cond (broadcast (in_words accepted.tmr v) s.svr) (One v) Nothing
  unfolding handle_eoi accept_interrupt update_ppr
  after_reply = rw (found, ne_eqb v 0 (λ z. omega arith))

  sent_if_lem : (l : Bool) → cond (broadcast l s.svr) (One v) Nothing ≡ cond (l && not (bit s.svr 12)) (One v) Nothing
  sent_if_lem true = refl
  sent_if_lem false = refl

  reply_is : after.reply ≡ cond (level && not (bit s.svr 12)) (One v) Nothing
  reply_is =
      after_reply
      ∙ ap (λ (l : Bool). cond (broadcast l s.svr) (One v) Nothing) (ap (λ (words : List ℕ). in_words words v) accepted_tmr ∙ triggered v true (eq-eqb v v refl) level)
      ∙ sent_if_lem level

  -- PPR
  after_tpr : after.state.tpr ≡ s.tpr
  unfolding handle_eoi accept_interrupt update_ppr
  after_tpr = rw (found, ne_eqb v 0 (λ z. omega arith))

-- PPR is worked out of TPR and ISR alone
same_priority : (s t : VirtualApicRegs) → Prioritized s → Prioritized t → t.isr ≡ s.isr → t.tpr ≡ s.tpr → t.ppr ≡ s.ppr
same_priority s t p q i r = go (eqb (find_isrv s) 0) refl
  where
    go : (b : Bool) → eqb (find_isrv s) 0 ≡ b → t.ppr ≡ s.ppr
    go true e =
        let none : Idle 32 s.isr = (in_service_kept s).none (eqb-true (find_isrv s) 0 e) in
        q.idle (subst (Idle 32) (sym i) none) ∙ r ∙ sym (p.idle none)
    go false e = by_class (leb (class_of u) (class_of s.tpr)) refl
      where
        u : ℕ
        u = find_isrv s

        top : Highest 32 s.isr u
        top = (in_service_kept s).sound (eqb-false (find_isrv s) 0 e)

        there : Highest 32 t.isr u
        there = subst (λ (words : List ℕ). Highest 32 words u) (sym i) top

        by_class : (b : Bool) → leb (class_of u) (class_of s.tpr) ≡ b → t.ppr ≡ s.ppr
        by_class true l =
            let h : class_of u ≤ class_of s.tpr = leb-true (class_of u) (class_of s.tpr) l in
            q.by_tpr u there (rw r h) ∙ r ∙ sym (p.by_tpr u top h)
        by_class false l =
            let h : class_of s.tpr < class_of u = leb-false (class_of u) (class_of s.tpr) l in
            q.by_vector u there (rw r h) ∙ sym (p.by_vector u top h)

pub accept_then_eoi : AcceptThenEoi
accept_then_eoi s vector level a b f l h = (
  highest s vector level a b f l h,
  record {
    ended = λ u _. ap (λ (words : List ℕ). in_words words u) (isr_is s vector level a b f l h) ∙ one_ended s vector level a b f l h u (eqb u vector.0) refl;
    in_service_kept = λ n. isr_back s vector level a b f l h n;
    priority = λ n p.
        same_priority s (handle_eoi (accept_interrupt s vector level).state).state p
        (completions (accept_interrupt s vector level).state vector.0 (highest s vector level a b f l h))
        (isr_back s vector level a b f l h n) (after_tpr s vector level a b f l h);
    triggers = λ u _. tmr_is s vector level a b f l h u;
    broadcast = reply_is s vector level a b f l h;
  },
)
