-- Equal words and codes come from equal outcomes: the codes lose nothing. Assumes nothing.
use Prim.Native.Nat.{ℕ, ◌+◌, ◌*◌, ◌/◌, ◌%◌, ◌^◌, ◌<◌}
use native.Mathlib.Nat.{mod-lt}
use native.Mathlib.Omega.{arith}
use mathlib.Core.Bool.{Bool, true, false, cond}
use mathlib.Core.List.{List, [], ◌∷◌}
use mathlib.Core.Path.{◌≡◌, refl, sym, ap, ap₂, ◌∙◌}
use lib.Dec.{eqb, ltb}
use lib.ListN.{length, get_or, set}
use lib.Seq.{get_or-set_same}
use Rattle.std.specs.Prelude.{Result, Ok, Err}
use Rattle.types.specs.declared.Refusal.{Refusal}
use Rattle.types.specs.declared.Reply.{Reply}
use Rattle.types.specs.declared.Reply.TheVariants.{Refused, Nothing, One, Two, Three}
use Rattle.types.specs.Reply.{Outcome}
use Rattle.reply_code.specs.Lent.{reply_code, Fits}
use Rattle.reply_code.proofs.Codes.{code_same}
use Rattle.types.specs.declared.VcpuId.{VcpuId}
use Rattle.types.specs.declared.Vector.{Vector}
use Rattle.utils.specs.Set.{below}
use Rattle.utils.proofs.Bools.{both}
use Rattle.vlapic_icr.specs.declared.InterruptCommand.{InterruptCommand}
use Rattle.vlapic_icr.specs.declared.IcrAnswer.{IcrAnswer}
use Rattle.vlapic_icr.specs.declared.IcrAnswer.TheVariants as icr
use Rattle.vlapic_icr.specs.Fields.{delivery_mode, idle, icr_width, icr_high, is_reserved_mode, is_illegal_vector, is_invalid_shorthand, is_unsent}
use Rattle.vlapic_icr.specs.Kinds.{mode_number, mode_of}
use Rattle.vlapic_icr.proofs.Ipis.{mode_small}
use Rattle.vlapic_icr.specs.Icr.{deliver, calculate_dest, command, self_ipi}
use Rattle.vlapic.specs.declared.VirtualApicRegs.{VirtualApicRegs}
use Rattle.vlapic.specs.Regs.{with_command}
use Rattle.vlapic.specs.Calls.{out_of_range, answered, command_of, write_icr, write_icr_low, write_self_ipi, handle_write}
use Rattle.vlapic.specs.Registers.{word_at, readable, eight_from, handle_read, in_xapic, stored, outcome_at, write_stored}
use Rattle.vlapic_words.specs.Words.{word, eight, view}
use Rattle.vlapic_words.proofs.Runs.{at_from}
use Rattle.vlapic_words.proofs.View.{cut_small}
use Rattle.vlapic_c.specs.Calls.{Coded, coded, Sent, sent_code, sent_mask, sent}

-- ---- the chip's replies fit their codes

abbrev Small : List (ℕ × ℕ) → Type 0
Small [] = Unit
Small (r ∷ rs) = (r.1 < 2 ^ 32) × Small rs

word_fits : (rs : List (ℕ × ℕ)) (offset : ℕ) → Small rs → Fits (word_at rs offset)
word_fits [] offset h = tt
word_fits (r ∷ rs) offset h = both Fits (eqb offset r.0) _ _ h.0 (word_fits rs offset h.1)

id_small : (x : Bool) (id : ℕ) → id < 2 ^ 32 → cond x id (id % 256 * 0x1000000) < 2 ^ 32
id_small true id h = h
id_small false id h = omega arith

eight_small : (l : List ℕ) (k i : ℕ) → i < 8 → get_or (eight l k) i 0 < 2 ^ 32
eight_small l k i h = rw (at_from l k 8 i (k + i) refl h) (cut_small (get_or l (k + i) 0))

pub read_fits : (l : List ℕ) (offset : ℕ) → Fits (handle_read (view l) offset)
unfolding handle_read view
read_fits l offset =
    both Fits (eight_from 0x100 offset) _ _ (eight_small l 18 (offset / 16 % 8) (mod-lt (offset / 16) (omega arith)))
    (both Fits (eight_from 0x180 offset) _ _ (eight_small l 26 (offset / 16 % 8) (mod-lt (offset / 16) (omega arith)))
    (word_fits (readable (view l)) offset
    (id_small (view l).x2apic (word l 1) (w 1), (w 2, (w 3, (w 4, (w 5, (w 6, (w 7, (w 11, (w 9, (w 10, (w 12, (w 13, (w 14, (w 15, (w 16, (w 17, tt))))))))))))))))))
  where
    w : (k : ℕ) → word l k < 2 ^ 32
    w k = cut_small (get_or l k 0)

-- ---- so do outcomes

pub outcome_same : (o p : Outcome VirtualApicRegs) → Fits o.reply → Fits p.reply → coded o ≡ coded p → o ≡ p
outcome_same o p f g e =
    ap₂ (λ (a : VirtualApicRegs) (b : Reply). record { state = a; reply = b })
    (ap (λ (x : Coded). x.state) e)
    (code_same o.reply p.reply f g (ap (λ (x : Coded). x.code) e))

-- a write's: refused, nothing, or kind and vector of an IPI
abbrev pub SentFits : Reply → Type 0
SentFits (Refused why) = Unit
SentFits Nothing = Unit
SentFits (One a) = ⊥
SentFits (Two a b) = ⊥
SentFits (Three kind vector mask) = (kind < 2 ^ 8) × (vector < 2 ^ 8)

abbrev shown : Reply → Reply
shown (Refused why) = Refused why
shown Nothing = Nothing
shown (One a) = One a
shown (Two a b) = Two a b
shown (Three kind vector mask) = Two kind vector

code_of : (r : Reply) → sent_code r ≡ reply_code (shown r)
code_of (Refused why) = refl
code_of Nothing = refl
code_of (One a) = refl
code_of (Two a b) = refl
code_of (Three kind vector mask) = refl

shown_fits : (r : Reply) → SentFits r → Fits (shown r)
shown_fits (Refused why) h = tt
shown_fits Nothing h = tt
shown_fits (One a) h = absurd h
shown_fits (Two a b) h = absurd h
shown_fits (Three kind vector mask) h = let a = h.0 in let b = h.1 in (omega arith, omega arith)

apart : (a b : ℕ) (r : Reply) → Two a b ≡ r → r ≡ Nothing → ◌≡◌ {A = ℕ} 0 1
apart a b r p q = cc

apart_refused : (a b : ℕ) (why : Refusal) → Two a b ≡ Refused why → ◌≡◌ {A = ℕ} 0 1
apart_refused a b why p = cc

three : (a b c x y z : ℕ) → Two a b ≡ Two x y → c ≡ z → Three a b c ≡ Three x y z
three a b c x y z e m = let p : a ≡ x = cc in let q : b ≡ y = cc in rw (p, q, m)

module _ (ipi : List ℕ) (n : length ipi ≡ 1) where
  mask_same : (c z : ℕ) → set ipi 0 c ≡ set ipi 0 z → c ≡ z
  mask_same c z e = sym (get_or-set_same ipi 0 c 0 (omega arith)) ∙ ap (λ (m : List ℕ). get_or m 0 0) e ∙ get_or-set_same ipi 0 z 0 (omega arith)

  reply_back : (a b : Reply) → SentFits a → SentFits b → shown a ≡ shown b → sent_mask ipi a ≡ sent_mask ipi b → a ≡ b
  reply_back (Refused why) (Refused other) f g e m = e
  reply_back (Refused why) Nothing f g e m = e
  reply_back (Refused why) (Three x y z) f g e m = let k : ◌≡◌ {A = ℕ} 0 1 = apart_refused x y why (sym e) in absurd (omega arith)
  reply_back Nothing (Refused why) f g e m = e
  reply_back Nothing Nothing f g e m = refl
  reply_back Nothing (Three x y z) f g e m = let k : ◌≡◌ {A = ℕ} 0 1 = apart x y Nothing (sym e) refl in absurd (omega arith)
  reply_back (Three a b c) (Refused why) f g e m = let k : ◌≡◌ {A = ℕ} 0 1 = apart_refused a b why e in absurd (omega arith)
  reply_back (Three a b c) Nothing f g e m = let k : ◌≡◌ {A = ℕ} 0 1 = apart a b Nothing e refl in absurd (omega arith)
  reply_back (Three a b c) (Three x y z) f g e m = three a b c x y z e (mask_same c z m)
  reply_back (One a) b f g e m = absurd f
  reply_back (Two a c) b f g e m = absurd f
  reply_back (Refused why) (One b) f g e m = absurd g
  reply_back (Refused why) (Two b c) f g e m = absurd g
  reply_back Nothing (One b) f g e m = absurd g
  reply_back Nothing (Two b c) f g e m = absurd g
  reply_back (Three x y z) (One b) f g e m = absurd g
  reply_back (Three x y z) (Two b c) f g e m = absurd g

  pub sent_same : (o p : Outcome VirtualApicRegs) → SentFits o.reply → SentFits p.reply → sent ipi o ≡ sent ipi p → o ≡ p
  sent_same o p f g e =
      ap₂ (λ (a : VirtualApicRegs) (b : Reply). record { state = a; reply = b })
      (ap (λ (x : Sent). x.state) e)
      (reply_back o.reply p.reply f g
      (code_same (shown o.reply) (shown p.reply) (shown_fits o.reply f) (shown_fits p.reply g)
      (sym (code_of o.reply) ∙ ap (λ (x : Sent). x.code) e ∙ code_of p.reply))
      (ap (λ (x : Sent). x.ipi) e))

-- ---- and a write's replies are of that kind

abbrev IcrFits : Result IcrAnswer Refusal → Type 0
IcrFits (Ok icr.Nothing) = Unit
IcrFits (Ok icr.SendIllegalVector) = Unit
IcrFits (Ok (icr.Ipi ipi)) = (mode_number ipi.kind < 2 ^ 8) × (ipi.vector.0 < 2 ^ 8)
IcrFits (Err why) = Unit

deliver_fits : (lo num : ℕ) (d : Result ℕ Refusal) → IcrFits (deliver lo num d)
deliver_fits lo num (Ok mask) =
    both (λ (a : IcrAnswer). IcrFits (Ok a)) (eqb (below mask num) 0) _ _ tt
    (both (λ (a : IcrAnswer). IcrFits (Ok a)) (is_unsent lo) _ _ tt (omega (arith, mode_small (mode_of (delivery_mode lo))), omega arith))
deliver_fits lo num (Err why) = tt

command_fits : (s : InterruptCommand) (num active : ℕ) → IcrFits (command s num active)
unfolding command
command_fits s num active =
    both IcrFits (is_reserved_mode s.icr_lo) _ _ tt
    (both IcrFits (is_illegal_vector s.icr_lo) _ _ tt
    (both IcrFits (is_invalid_shorthand s.icr_lo) _ _ tt (deliver_fits s.icr_lo num (calculate_dest s num active))))

answered_fits : (s : VirtualApicRegs) (a : Result IcrAnswer Refusal) → IcrFits a → SentFits (answered s a).reply
answered_fits s (Ok icr.Nothing) h = tt
answered_fits s (Ok icr.SendIllegalVector) h = tt
answered_fits s (Ok (icr.Ipi ipi)) h = h
answered_fits s (Err why) h = tt

icr_fits : (s : VirtualApicRegs) (lo hi num active : ℕ) → SentFits (write_icr s lo hi num active).reply
unfolding write_icr
icr_fits s lo hi num active =
    answered_fits (with_command s (idle lo) hi) (command (command_of (with_command s (idle lo) hi)) num active) (command_fits (command_of (with_command s (idle lo) hi)) num active)

abbrev OutcomeFits : Outcome VirtualApicRegs → Type 0
OutcomeFits o = SentFits o.reply

self_fits : (id : VcpuId) (v : Vector) → v.0 < 2 ^ 8 → IcrFits (Ok (self_ipi id v))
unfolding self_ipi
self_fits id v h = both (λ (a : IcrAnswer). IcrFits (Ok a)) (ltb v.0 16) _ _ tt (omega arith, h)

-- of a table of what registers leave
abbrev All : List (ℕ × Outcome VirtualApicRegs) → Type 0
All [] = Unit
All (r ∷ rs) = OutcomeFits r.1 × All rs

rows_fit : (s : VirtualApicRegs) (offset : ℕ) (rs : List (ℕ × Outcome VirtualApicRegs)) → All rs → OutcomeFits (outcome_at s rs offset)
rows_fit s offset [] h = tt
rows_fit s offset (r ∷ rs) h = both OutcomeFits (eqb offset r.0) _ _ h.0 (rows_fit s offset rs h.1)

stored_fits : (s : VirtualApicRegs) (offset v : ℕ) → OutcomeFits (write_stored s offset v)
unfolding write_stored stored
stored_fits s offset v =
    rows_fit s offset (stored s v)
    (tt, (tt, (in_xapic_lem _, (in_xapic_lem _, (tt, (tt, (in_xapic_lem _, (tt, (tt, (tt, (tt, (tt, (tt, (tt, tt))))))))))))))
  where
    in_xapic_lem : (next : VirtualApicRegs) → OutcomeFits (in_xapic s next)
    in_xapic_lem next = both OutcomeFits s.x2apic _ _ tt tt

pub write_fits : (s : VirtualApicRegs) (offset val width num active : ℕ) → SentFits (handle_write s offset val width num active).reply
unfolding handle_write write_icr_low write_self_ipi
write_fits s offset val width num active =
    both OutcomeFits (out_of_range num s.vapic_id) _ _ tt
    (both OutcomeFits (eqb offset 0xb0) _ _ tt
    (both OutcomeFits (eqb offset 0x300) _ _
    (both OutcomeFits (icr_width s.x2apic width) _ _ (icr_fits s (val % 0x100000000) (icr_high s.x2apic val s.icr_hi) num active) tt)
    (both OutcomeFits (eqb offset 0x3f0) _ _
    (both OutcomeFits s.x2apic _ _ (answered_fits s (Ok (self_ipi (record { 0 = s.vapic_id }) (record { 0 = val % 256 }))) (self_fits (record { 0 = s.vapic_id }) (record { 0 = val % 256 }) (mod-lt val (omega arith)))) tt)
    (stored_fits s offset (val % 0x100000000)))))
