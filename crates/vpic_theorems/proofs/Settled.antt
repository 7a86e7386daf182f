-- Laws of a settled pair: what settling leaves, and that it decides the master's request 2 alone. Assumes nothing.
use mathlib.Core.Path.{◌≡◌, refl, sym, ap, ◌∙◌}
use mathlib.Core.Bool.{Bool, true, false, cond}
use Prim.Native.Nat.{ℕ, ◌+◌, ◌-◌, ◌^◌, ◌<◌}
use native.Mathlib.Omega.{arith}
use lib.Dec.{eqb}
use borrow.Author.Tests.{lt-ltb, eqb-true, eqb-false}
use Rattle.utils.specs.Set.{bit, with, without}
use Rattle.utils.proofs.Laws.{bit_with_same, bit_with_other, bit_without_same, bit_without_other, bit_at_least, with_without, without_with, with_member, without_member}
use Rattle.types.specs.declared.PicLine.{PicLine}
use Rattle.vpic_chip.specs.Registers.{Chip, with_request}
use Rattle.vpic.specs.Words.{PicState}
use Rattle.vpic_chip.specs.Chip.{asks, driven, pulsed, unacknowledged, specific_eoi}
use Rattle.vpic.specs.Pair.{is_cascade, settled, chips}
use Rattle.vpic.proofs.Settled.{drive}

-- ---- a set with k put in or taken out

-- what was put in or taken out before doesn't matter
drive_with : (up : Bool) (n k : ℕ) → drive up (with n k) k ≡ drive up n k
drive_with true n k = with_member (with n k) k (bit_with_same n k)
drive_with false n k = go (bit n k) refl
  where
    go : (b : Bool) → bit n k ≡ b → without (with n k) k ≡ without n k
    go true e = ap (λ (m : ℕ). without m k) (with_member n k e)
    go false e = without_with n k e ∙ sym (without_member n k e)

drive_without : (up : Bool) (n k : ℕ) → drive up (without n k) k ≡ drive up n k
drive_without false n k = without_member (without n k) k (bit_without_same n k)
drive_without true n k = go (bit n k) refl
  where
    go : (b : Bool) → bit n k ≡ b → with (without n k) k ≡ with n k
    go true e = with_without n k e ∙ sym (with_member n k e)
    go false e = ap (λ (m : ℕ). with m k) (without_member n k e)

drive_drive : (up before : Bool) (n k : ℕ) → drive up (drive before n k) k ≡ drive up n k
drive_drive up true n k = drive_with up n k
drive_drive up false n k = drive_without up n k

-- another line can be put in before or after
with_with : (n k j : ℕ) → (j ≡ k → ⊥) → with (with n k) j ≡ with (with n j) k
unfolding with
with_with n k j d = rw (bit_with_other n k j d, bit_with_other n j k (λ e. d (sym e))) (go (bit n k) (bit n j))
  where
    go : (a b : Bool) → cond b (cond a n (n + 2 ^ k)) (cond a n (n + 2 ^ k) + 2 ^ j) ≡ cond a (cond b n (n + 2 ^ j)) (cond b n (n + 2 ^ j) + 2 ^ k)
    go true true = refl
    go true false = refl
    go false true = refl
    go false false = omega arith

without_with_other : (n k j : ℕ) → (j ≡ k → ⊥) → with (without n k) j ≡ without (with n j) k
unfolding with without
without_with_other n k j d = rw (bit_without_other n k j d, bit_with_other n j k (λ e. d (sym e))) (go (bit n k) refl (bit n j))
  where
    go : (a : Bool) → bit n k ≡ a → (b : Bool) → cond b (cond a (n - 2 ^ k) n) (cond a (n - 2 ^ k) n + 2 ^ j) ≡ cond a (cond b n (n + 2 ^ j) - 2 ^ k) (cond b n (n + 2 ^ j))
    go true e true = refl
    go true e false = omega (arith, bit_at_least n k e)
    go false e true = refl
    go false e false = refl

with_drive : (up : Bool) (n k j : ℕ) → (j ≡ k → ⊥) → with (drive up n k) j ≡ drive up (with n j) k
with_drive true n k j d = with_with n k j d
with_drive false n k j d = without_with_other n k j d

-- so a drive before another line is put in, and before the last drive, is lost
drive_last : (up before : Bool) (n k j : ℕ) → drive up (with (drive before n k) j) k ≡ drive up (with n j) k
drive_last up before n k j = go (eqb j k) refl
  where
    go : (b : Bool) → eqb j k ≡ b → drive up (with (drive before n k) j) k ≡ drive up (with n j) k
    go true e =
        let s : j ≡ k = eqb-true j k e in
        rw s (drive_with up (drive before n k) k ∙ drive_drive up before n k ∙ sym (drive_with up n k))
    go false e = ap (λ (m : ℕ). drive up m k) (with_drive before n k j (eqb-false j k e)) ∙ drive_drive up before (with n j) k

-- ---- one chip

pub driven_with : (c : Chip) (k : ℕ) (up : Bool) → driven (with_request c (with c.request k)) k up ≡ driven c k up
unfolding driven
driven_with c k up = ap (with_request c) (drive_with up c.request k)

-- an acknowledgement that is taken back between two drives is as one before the last
pub driven_last : (c : Chip) (l : PicLine) (f up before : Bool) → l.0 < 8 → driven (unacknowledged (driven c 2 before) l f) 2 up ≡ driven (unacknowledged c l f) 2 up
unfolding driven unacknowledged pulsed
driven_last c l f up before h = rw (lt-ltb l.0 8 h) (go f)
  where
    same : drive up (with (drive before c.request 2) l.0) 2 ≡ drive up (with c.request l.0) 2
    same = drive_last up before c.request 2 l.0

    again : Bool → Chip → Chip
    again f d = cond f (specific_eoi d l.0) d

    go : (f : Bool)
        → with_request (again f (with_request c (with (drive before c.request 2) l.0))) (drive up (again f (with_request c (with (drive before c.request 2) l.0))).request 2)
        ≡ with_request (again f (with_request c (with c.request l.0))) (drive up (again f (with_request c (with c.request l.0))).request 2)
    go true = ap (with_request (specific_eoi c l.0)) same
    go false = ap (with_request c) same

-- ---- the pair

-- by rule 0 it is left as it is
pub settled_latch : (p : PicState) → is_cascade p ≡ false → settled p ≡ p
unfolding settled
settled_latch p e = rw e

pub settled_cascade : (p : PicState) → is_cascade p ≡ true → settled p ≡ chips p (driven p.master 2 (asks p.slave)) p.slave
unfolding settled
settled_cascade p e = rw e

-- a pair that is settled between a claim and its restore is as one that is settled after both
pub settled_between : (q : PicState) (l : PicLine) (f : Bool) (g : Chip → Chip) → l.0 < 8
    → settled (chips (settled q) (unacknowledged (settled q).master l f) (g (settled q).slave)) ≡ settled (chips q (unacknowledged q.master l f) (g q.slave))
settled_between q l f g h = go (is_cascade q) refl
  where
    go : (b : Bool) → is_cascade q ≡ b
        → settled (chips (settled q) (unacknowledged (settled q).master l f) (g (settled q).slave)) ≡ settled (chips q (unacknowledged q.master l f) (g q.slave))
    go false e = ap (λ (x : PicState). settled (chips x (unacknowledged x.master l f) (g x.slave))) (settled_latch q e)
    go true e =
        ap (λ (x : PicState). settled (chips x (unacknowledged x.master l f) (g x.slave))) (settled_cascade q e)
        ∙ settled_cascade (chips q (unacknowledged (driven q.master 2 (asks q.slave)) l f) (g q.slave)) e
        ∙ ap (λ (m : Chip). chips q m (g q.slave)) (driven_last q.master l f (asks (g q.slave)) (asks q.slave) h)
        ∙ sym (settled_cascade (chips q (unacknowledged q.master l f) (g q.slave)) e)
