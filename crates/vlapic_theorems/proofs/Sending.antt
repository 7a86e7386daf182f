-- Which writes send an IPI, and to whom, exactly; and what each write answers, by its register. Assumes nothing.
use mathlib.Core.Path.{◌≡◌, refl, sym, ap, ◌∙◌, subst}
use mathlib.Core.Bool.{Bool, true, false, not, cond, ◌&&◌, ◌||◌}
use mathlib.Core.List.{List, [], ◌∷◌}
use mathlib.Core.Logic.{◌⊎◌, inl, inr}
use Prim.Native.Nat.{ℕ, zero, suc, ◌+◌, ◌-◌, ◌*◌, ◌/◌, ◌%◌, ◌^◌, ◌≤◌, ◌<◌}
use native.Mathlib.Nat.{mod-lt, pow-suc, lt_of_lt_of_le}
use native.Mathlib.Omega.{arith}
use lib.Dec.{eqb, leb, ltb, lit<}
use lib.Pow.{pow_pos, pow_mono}
use borrow.Author.Tests.{eqb-true, eqb-false, ltb-true, ltb-false, lt-ltb, le-ltb, le-leb, lt-leb}
use Rattle.utils.specs.Set.{bit, without, below}
use Rattle.utils.proofs.Bools.{never, either, and_true, not_is}
use Rattle.utils.proofs.Bits.{bit_power}
use Rattle.utils.proofs.Laws.{bit_above, bit_none, bit_cut, same_bits}
use Rattle.std.specs.Prelude.{Result, Ok, Err}
use Rattle.types.specs.declared.Refusal.{Refusal}
use Rattle.types.specs.declared.Refusal.TheVariants.{InvalidRegister, InvalidDelivery, OutOfRange, Unsupported, InvalidAddress, BadField, ScriptTooLong, NoPlan, ListFull, BadImage, TooShort}
use Rattle.types.specs.declared.Reply.{Reply}
use Rattle.types.specs.declared.Reply.TheVariants as reply
use Rattle.types.specs.Counters.{vcpu_mask, vcpu_of}
use Rattle.types.specs.Reply.{Outcome, reply_number}
use Rattle.types.proofs.Counters.{mask_is}
use Rattle.types.proofs.Replies.{refused_not_done}
use Rattle.vlapic_icr.specs.declared.IcrAnswer.{IcrAnswer}
use Rattle.vlapic_icr.specs.declared.IcrAnswer.TheVariants.{Nothing, SendIllegalVector, Ipi}
use Rattle.vlapic_icr.specs.declared.fields.DeliveryMode.TheVariants.{Fixed}
use Rattle.vlapic_icr.specs.Fields.{idle, vector_field, delivery_mode, shorthand, is_reserved_mode, is_illegal_vector, is_invalid_shorthand, is_unsent}
use Rattle.vlapic_icr.specs.Kinds.{mode_number, mode_of}
use Rattle.vlapic_icr.proofs.Ipis.{number_back}
use Rattle.vlapic_icr.specs.Icr.{calculate_dest, deliver, command, self_ipi}
use Rattle.vlapic.specs.declared.VirtualApicRegs.{VirtualApicRegs}
use Rattle.vlapic.specs.Answers.{done, refused}
use Rattle.vlapic.specs.Regs.{with_command}
use Rattle.vlapic.specs.Registers.{stored, write_stored}
use Rattle.vlapic.specs.Calls.{out_of_range, answered, write_icr, write_icr_low, write_self_ipi, handle_write}
use Rattle.vlapic.proofs.Range.{in_range}
use Rattle.vlapic_theorems.specs.Targets.{any, Destination, Self, AllIncludingSelf, destination_of}
use Rattle.vlapic_theorems.specs.Sending.{low_word, high_word, destination, is_icr_width, is_to_self_too, is_sent, Goes, Commands, GoesToSelf, SelfIpis, Others, Silent}
use Rattle.vlapic_theorems.specs.Numbers.{is_one, written_offsets, xapic_offsets, is_written, is_reserved, is_noted, is_unmatchable, is_above63, is_command3, is_command5, commanded}
use Rattle.vlapic_theorems.proofs.Targets.{any_some, nobody, asked, is_hit, Says, masked, unmatchable, beyond, destination_says}

-- ---- the words

-- the definition clears bit 12 by arithmetic
cleared : (n : ℕ) → idle n ≡ without n 12
unfolding without
cleared n = go (eqb (n / 4096 % 2) 1) refl
  where
    go : (b : Bool) → eqb (n / 4096 % 2) 1 ≡ b → idle n ≡ cond b (n - 4096) n
    go true e = let q : n / 4096 % 2 ≡ 1 = eqb-true (n / 4096 % 2) 1 e in omega arith
    go false e = omega (arith, eqb-false (n / 4096 % 2) 1 e)

-- ---- the kinds

pub leb_not : (a b : ℕ) → leb a b ≡ not (ltb b a)
leb_not a b = go (ltb b a) refl
  where
    go : (t : Bool) → ltb b a ≡ t → leb a b ≡ not t
    go true e = lt-leb a b (ltb-true b a e)
    go false e = le-leb a b (ltb-false b a e)

-- nothing stops a command of mode m: it isn't reserved, nor the vector illegal, nor the shorthand one that doesn't go with it, nor is it a mode that isn't sent
free : ℕ → Bool → Bool → Bool → Bool
free m low self all =
    not (eqb m 3 || eqb m 7)
    && (not (eqb m 0 && low)
    && (not ((self || all) && (leb 4 m && leb m 6))
    && not (eqb m 1 || eqb m 2)))

going : ℕ → Bool → Bool → Bool → Bool
going m low self all = (eqb m 0 && not low) || ((leb 4 m && leb m 6) && not (self || all))

fixed_goes : (low self all : Bool) → going 0 low self all ≡ free 0 low self all
unfolding going free
fixed_goes true self all = refl
fixed_goes false true all = refl
fixed_goes false false true = refl
fixed_goes false false false = refl

-- lowest priority and SMI
unsent : (m : ℕ) → (m ≡ 1) ⊎ (m ≡ 2) → (low self all : Bool) → going m low self all ≡ free m low self all
unfolding going free
unsent m (inl e) low true all = rw e
unsent m (inl e) low false true = rw e
unsent m (inl e) low false false = rw e
unsent m (inr e) low true all = rw e
unsent m (inr e) low false true = rw e
unsent m (inr e) low false false = rw e

reserved_stay : (m : ℕ) → (m ≡ 3) ⊎ (m ≡ 7) → (low self all : Bool) → going m low self all ≡ free m low self all
unfolding going free
reserved_stay m (inl e) low self all = rw e
reserved_stay m (inr e) low self all = rw e

-- NMI, INIT, startup
signals_go : (m : ℕ) → (m ≡ 4) ⊎ ((m ≡ 5) ⊎ (m ≡ 6)) → (low self all : Bool) → going m low self all ≡ free m low self all
unfolding going free
signals_go m (inl e) low true all = rw e
signals_go m (inl e) low false true = rw e
signals_go m (inl e) low false false = rw e
signals_go m (inr (inl e)) low true all = rw e
signals_go m (inr (inl e)) low false true = rw e
signals_go m (inr (inl e)) low false false = rw e
signals_go m (inr (inr e)) low true all = rw e
signals_go m (inr (inr e)) low false true = rw e
signals_go m (inr (inr e)) low false false = rw e

modes : (m : ℕ) → m < 8 → (low self all : Bool) → going m low self all ≡ free m low self all
modes zero h low self all = fixed_goes low self all
modes (suc zero) h low self all = unsent 1 (inl refl) low self all
modes (suc (suc zero)) h low self all = unsent 2 (inr refl) low self all
modes (suc (suc (suc zero))) h low self all = reserved_stay 3 (inl refl) low self all
modes (suc (suc (suc (suc zero)))) h low self all = signals_go 4 (inl refl) low self all
modes (suc (suc (suc (suc (suc zero))))) h low self all = signals_go 5 (inr (inl refl)) low self all
modes (suc (suc (suc (suc (suc (suc zero)))))) h low self all = signals_go 6 (inr (inr refl)) low self all
modes (suc (suc (suc (suc (suc (suc (suc zero))))))) h low self all = reserved_stay 7 (inr refl) low self all
modes (suc (suc (suc (suc (suc (suc (suc (suc m)))))))) h low self all = absurd (omega arith)

-- a kind is sent if nothing stops it
pub kind_sent : (lo : ℕ) → is_sent lo ≡ (not (is_reserved lo) && (not (is_noted lo) && (not (is_invalid_shorthand lo) && not (is_unsent lo))))
unfolding going free
kind_sent lo =
    ap (λ (b : Bool). (eqb (delivery_mode lo) 0 && b) || ((leb 4 (delivery_mode lo) && leb (delivery_mode lo) 6) && not (is_to_self_too lo))) (leb_not 16 (vector_field lo))
    ∙ modes (delivery_mode lo) (mod-lt (lo / 256) (lit< tt)) (ltb (vector_field lo) 16) (eqb (shorthand lo) 1) (eqb (shorthand lo) 2)

-- ---- the answer to a command

-- nobody gets an IPI
abbrev NoIpi : ℕ → ℕ → (ℕ → Bool) → Type 0
NoIpi lo num hit = is_sent lo ≡ true → (i : ℕ) → i < num → hit i ≡ false

pub data Answers (lo num : ℕ) (hit : ℕ → Bool) (three five : Bool) : Result IcrAnswer Refusal → Type 0 where
  sends : {mask : ℕ} → is_sent lo ≡ true → ((i : ℕ) → bit mask i ≡ (ltb i num && hit i)) → (i : ℕ) × ((ltb i num && hit i) ≡ true) → three ≡ false → five ≡ false
      → Answers lo num hit three five (Ok (Ipi (record { kind = mode_of (delivery_mode lo); vector = record { 0 = vector_field lo }; mask = mask })))
  idles : NoIpi lo num hit → three ≡ false → five ≡ false → Answers lo num hit three five (Ok Nothing)
  notes : NoIpi lo num hit → three ≡ false → five ≡ false → Answers lo num hit three five (Ok SendIllegalVector)
  refuses_kind : NoIpi lo num hit → three ≡ true → five ≡ false → Answers lo num hit three five (Err InvalidDelivery)
  refuses_id : NoIpi lo num hit → three ≡ false → five ≡ true → Answers lo num hit three five (Err OutOfRange)

module _ (lo num : ℕ) (hit : ℕ → Bool) (three five : Bool) where
  -- the mask, cut to the count
  module _ (mask : ℕ) (bits : (i : ℕ) → i < num → bit mask i ≡ hit i) where
    cut_bits : (i : ℕ) → bit (below mask num) i ≡ (ltb i num && hit i)
    cut_bits i = go (ltb i num) refl
      where
        go : (b : Bool) → ltb i num ≡ b → bit (below mask num) i ≡ (b && hit i)
        go true e = let l : i < num = ltb-true i num e in bit_cut mask num i l ∙ bits i l
        go false e = bit_above num (below mask num) i (mod-lt mask (pow_pos num)) (ltb-false i num e)

    cut_some : eqb (below mask num) 0 ≡ false → (i : ℕ) × ((ltb i num && hit i) ≡ true)
    cut_some n = go (any num (bit mask)) refl
      where
        go : (b : Bool) → any num (bit mask) ≡ b → (i : ℕ) × ((ltb i num && hit i) ≡ true)
        go true e = let t = any_some num (bit mask) e in (t.0, rw (lt-ltb t.0 num t.1.0) (sym (bits t.0 t.1.0) ∙ t.1.1))
        go false e = never (nobody num mask e) n

    cut_none : eqb (below mask num) 0 ≡ true → (i : ℕ) → i < num → hit i ≡ false
    cut_none z i l =
        sym (bits i l) ∙ sym (bit_cut mask num i l) ∙ ap (λ (n : ℕ). bit n i) (eqb-true (below mask num) 0 z) ∙ bit_none i

  -- where nothing before it stopped the command
  delivered : (d : Result ℕ Refusal) → Says num hit three five d → is_sent lo ≡ not (is_unsent lo) → Answers lo num hit three five (deliver lo num d)
  delivered (Ok mask) (masked bits t f) k =
      either (λ (x : IcrAnswer). Answers lo num hit three five (Ok x)) (eqb (below mask num) 0) _ _ (λ z. idles (λ _ i l. cut_none mask bits z i l) t f)
      (λ n. either (λ (x : IcrAnswer). Answers lo num hit three five (Ok x)) (is_unsent lo) _ _ (λ u. idles (λ q. never q (k ∙ ap not u)) t f)
      (λ u. sends (k ∙ ap not u) (λ i. cut_bits mask bits i) (cut_some mask bits n) t f))
  delivered (Err InvalidDelivery) (unmatchable none t f) k = refuses_kind (λ _. none) t f
  delivered (Err OutOfRange) (beyond none t f) k = refuses_id (λ _. none) t f
  delivered (Err Unsupported) x k = elim x [ ]
  delivered (Err InvalidRegister) x k = elim x [ ]
  delivered (Err InvalidAddress) x k = elim x [ ]
  delivered (Err BadField) x k = elim x [ ]
  delivered (Err ScriptTooLong) x k = elim x [ ]
  delivered (Err NoPlan) x k = elim x [ ]
  delivered (Err ListFull) x k = elim x [ ]
  delivered (Err BadImage) x k = elim x [ ]
  delivered (Err TooShort) x k = elim x [ ]

-- the tests of the definition, in words
reserved_same : (lo : ℕ) → is_reserved_mode lo ≡ is_reserved lo
reserved_same lo = refl

noted_same : (lo : ℕ) → is_illegal_vector lo ≡ is_noted lo
noted_same lo = refl

-- a shorthand is no destination that can be refused
short_taken : (s : VirtualApicRegs) (lo hi : ℕ) → is_invalid_shorthand lo ≡ true
    → (is_unmatchable s (destination_of s.x2apic lo hi) ≡ false) × (is_above63 (destination_of s.x2apic lo hi) ≡ false)
short_taken s lo hi e = go (eqb (shorthand lo) 1) (eqb (shorthand lo) 2) _ _ e
  where
    go : (b1 b2 signal : Bool) (d : Destination) → ((b1 || b2) && signal) ≡ true
        → (is_unmatchable s (cond b1 Self (cond b2 AllIncludingSelf d)) ≡ false) × (is_above63 (cond b1 Self (cond b2 AllIncludingSelf d)) ≡ false)
    go true b2 signal d q = (refl, refl)
    go false true signal d q = (refl, refl)
    go false false signal d q = never q refl

-- in the order of the definition
ordered : (lo num : ℕ) (hit : ℕ → Bool) (reserved noted invalid unmatched above : Bool) (d : Result ℕ Refusal)
    → is_sent lo ≡ (not reserved && (not noted && (not invalid && not (is_unsent lo))))
    → (invalid ≡ true → (unmatched ≡ false) × (above ≡ false))
    → Says num hit unmatched above d
    → Answers lo num hit (reserved || (not noted && unmatched)) (not reserved && (not noted && above))
    (cond reserved (Err InvalidDelivery) (cond noted (Ok SendIllegalVector) (cond invalid (Ok Nothing) (deliver lo num d))))
ordered lo num hit true noted invalid unmatched above d k short says = refuses_kind (λ q. never q k) refl refl
ordered lo num hit false true invalid unmatched above d k short says = notes (λ q. never q k) refl refl
ordered lo num hit false false true unmatched above d k short says = idles (λ q. never q k) (short refl).0 (short refl).1
ordered lo num hit false false false unmatched above d k short says = delivered lo num hit unmatched above d says k

pub command_answers : (s : VirtualApicRegs) (lo hi num active : ℕ) → num ≤ 64
    → Answers lo num (is_hit s active (destination_of s.x2apic lo hi))
    (is_reserved lo || (not (is_noted lo) && (is_unmatchable s (destination_of s.x2apic lo hi) && any num (bit active))))
    (not (is_reserved lo) && (not (is_noted lo) && is_above63 (destination_of s.x2apic lo hi)))
    (command (asked s lo hi) num active)
unfolding command
command_answers s lo hi num active inside =
    let dest : Destination = destination_of s.x2apic lo hi in
    rw (reserved_same lo, noted_same lo)
    (ordered lo num (is_hit s active dest) (is_reserved lo) (is_noted lo) (is_invalid_shorthand lo) (is_unmatchable s dest && any num (bit active)) (is_above63 dest)
    (calculate_dest (asked s lo hi) num active) (kind_sent lo)
    (λ e. let t = short_taken s lo hi e in (rw t.0, t.1))
    (destination_says s lo hi num active inside))

-- ---- a write, by its register

pub data Wrote (s : VirtualApicRegs) (offset val width num active : ℕ) : Outcome VirtualApicRegs → Type 0 where
  outside : out_of_range num s.vapic_id ≡ true → Wrote s offset val width num active (refused s OutOfRange)
  unlisted : out_of_range num s.vapic_id ≡ false → is_written s.x2apic offset width ≡ false → Wrote s offset val width num active (refused s InvalidRegister)
  plain : {t : VirtualApicRegs} → out_of_range num s.vapic_id ≡ false → is_written s.x2apic offset width ≡ true → (offset ≡ 0x300 → ⊥) → (offset ≡ 0x3f0 → ⊥)
      → Wrote s offset val width num active (done t)
  self : out_of_range num s.vapic_id ≡ false → offset ≡ 0x3f0 → s.x2apic ≡ true
      → Wrote s offset val width num active (answered s (Ok (self_ipi (record { 0 = s.vapic_id }) (record { 0 = val % 256 }))))
  commands_it : {a : Result IcrAnswer Refusal} → out_of_range num s.vapic_id ≡ false → offset ≡ 0x300 → is_icr_width s.x2apic width ≡ true
      → Answers (low_word val) num (is_hit s active (destination s val)) (is_command3 s val num active) (is_command5 s val) a
      → Wrote s offset val width num active (answered (commanded s val) a)

-- the tests that miss
All : (ℕ → Type 0) → List ℕ → Type 0
All P [] = Unit
All P (o ∷ os) = P o × All P os

abbrev Miss : ℕ → ℕ → Type 0
Miss offset o = eqb offset o ≡ false

missed : (offset : ℕ) (os : List ℕ) → is_one offset os ≡ false → All (Miss offset) os
unfolding All
missed offset [] e = tt
missed offset (o ∷ os) e = go (λ r. missed offset os r) (eqb offset o) refl e
  where
    go : (is_one offset os ≡ false → All (Miss offset) os) → (b : Bool) → eqb offset o ≡ b → (b || is_one offset os) ≡ false → (eqb offset o ≡ false) × All (Miss offset) os
    go rest true q r = never refl r
    go rest false q r = (q, rest r)

-- a fact of each of the offsets, and of one that is none of them
pick : (P : ℕ → Type 0) (os : List ℕ) → All P os → (offset : ℕ) → (is_one offset os ≡ false → P offset) → P offset
unfolding All
pick P [] a offset f = f refl
pick P (o ∷ os) a offset f = go (λ g. pick P os a.1 offset g) (eqb offset o) refl f
  where
    go : ((is_one offset os ≡ false → P offset) → P offset) → (b : Bool) → eqb offset o ≡ b → ((b || is_one offset os) ≡ false → P offset) → P offset
    go rest true q g = subst P (sym (eqb-true offset o q)) a.0
    go rest false q g = rest g

-- a register that stores
pub data Stored (x2apic : Bool) (width : ℕ) (s : VirtualApicRegs) (offset : ℕ) : Outcome VirtualApicRegs → Type 0 where
  takes : {t : VirtualApicRegs} → is_written x2apic offset width ≡ true → Stored x2apic width s offset (done t)
  rejects : is_written x2apic offset width ≡ false → Stored x2apic width s offset (refused s InvalidRegister)

module _ (s : VirtualApicRegs) (val width num active : ℕ) where
  abbrev StoredAt : ℕ → Type 0
  StoredAt offset = Miss offset 0x300 → Miss offset 0x3f0 → Miss offset 0xb0 → Stored s.x2apic width s offset (write_stored s offset (val % 0x100000000))

  in_both_lem : All StoredAt written_offsets
  unfolding All write_stored stored
  in_both_lem = (
    λ a b c. takes refl,
    (
      λ a b c. takes refl,
      (
        λ a b c. never refl c,
        (
          λ a b c. takes refl,
          (
            λ a b c. takes refl,
            (λ a b c. takes refl, (λ a b c. takes refl, (λ a b c. takes refl, (λ a b c. takes refl, (λ a b c. takes refl, (λ a b c. takes refl, (λ a b c. takes refl, tt))))))),
          ),
        ),
      ),
    ),
  )

  by_mode : (offset : ℕ) → is_written true offset width ≡ false → is_written false offset width ≡ true
      → (x2apic : Bool) (t : VirtualApicRegs) → Stored x2apic width s offset (cond x2apic (refused s InvalidRegister) (done t))
  by_mode offset n y true t = rejects n
  by_mode offset n y false t = takes y

  in_xapic_lem : All StoredAt xapic_offsets
  unfolding All write_stored stored
  in_xapic_lem = (λ a b c. by_mode 0xd0 refl refl s.x2apic _, (λ a b c. by_mode 0xe0 refl refl s.x2apic _, (λ a b c. by_mode 0x310 refl refl s.x2apic _, tt)))

  -- none of them
  in_neither : (offset : ℕ) → is_one offset written_offsets ≡ false → is_one offset xapic_offsets ≡ false → StoredAt offset
  unfolding All write_stored stored
  in_neither offset e q a b c =
      let m = missed offset written_offsets e in
      let x = missed offset xapic_offsets q in
      rw (x.0, x.1.0, x.1.1.0, m.0, m.1.0, m.1.1.1.0, m.1.1.1.1.0, m.1.1.1.1.1.0, m.1.1.1.1.1.1.0, m.1.1.1.1.1.1.1.0, m.1.1.1.1.1.1.1.1.0, m.1.1.1.1.1.1.1.1.1.0, m.1.1.1.1.1.1.1.1.1.1.0, m.1.1.1.1.1.1.1.1.1.1.1.0)
      (rejects (none (is_one offset written_offsets) (is_one offset xapic_offsets) (eqb offset 0x3f0) (eqb offset 0x300) s.x2apic (is_icr_width s.x2apic width) e q b a))
    where
      none : (w x f i m l : Bool) → w ≡ false → x ≡ false → f ≡ false → i ≡ false → (w || ((x && not m) || ((f && m) || (i && l)))) ≡ false
      none w x f i m l p q r t = rw (p, q, r, t)

  stored_at : (offset : ℕ) → StoredAt offset
  stored_at offset = pick StoredAt written_offsets in_both_lem offset (λ e. pick StoredAt xapic_offsets in_xapic_lem offset (λ q. in_neither offset e q))

module _ (s : VirtualApicRegs) (val width num active : ℕ) where
  pub icr_carried : is_icr_width s.x2apic width ≡ true
      → write_icr_low s val width num active ≡ answered (commanded s val) (command (asked s (low_word val) (high_word s val)) num active)
  unfolding write_icr_low write_icr
  icr_carried e =
      rw e
      (ap (λ (lo : ℕ). answered (with_command s lo (high_word s val)) (command (asked s lo (high_word s val)) num active)) (cleared (val % 0x100000000)))

  icr_rejected : is_icr_width s.x2apic width ≡ false → write_icr_low s val width num active ≡ refused s InvalidRegister
  unfolding write_icr_low
  icr_rejected e = rw e

pub wrote : (s : VirtualApicRegs) (offset val width num active : ℕ) → Wrote s offset val width num active (handle_write s offset val width num active)
unfolding handle_write write_self_ipi
wrote s offset val width num active =
    either W (out_of_range num s.vapic_id) _ _ (λ e. outside e)
    (λ inside. either W (eqb offset 0xb0) _ _
    (λ at. let i : offset ≡ 0xb0 = eqb-true offset 0xb0 at in plain inside (rw i) (λ q. omega arith) (λ q. omega arith))
    (λ b. either W (eqb offset 0x300) _ _ (λ at. icr inside (eqb-true offset 0x300 at) (is_icr_width s.x2apic width) refl)
    (λ c. either W (eqb offset 0x3f0) _ _ (λ at. own inside (eqb-true offset 0x3f0 at))
    (λ d. stores inside c d (stored_at s val width num active offset c d b)))))
  where
    W : Outcome VirtualApicRegs → Type 0
    W o = Wrote s offset val width num active o

    icr : out_of_range num s.vapic_id ≡ false → offset ≡ 0x300 → (w : Bool) → is_icr_width s.x2apic width ≡ w → W (write_icr_low s val width num active)
    icr inside at true e =
        rw (icr_carried s val width num active e)
        (commands_it inside at e (command_answers s (low_word val) (high_word s val) num active (in_range num s.vapic_id inside).0))
    icr inside at false e = rw (icr_rejected s val width num active e) (unlisted inside (rw (at, e)))

    own : out_of_range num s.vapic_id ≡ false → offset ≡ 0x3f0 → W (write_self_ipi s val)
    own inside at = either W s.x2apic _ _ (λ x. self inside at x) (λ x. unlisted inside (rw (at, x)))

    stores : out_of_range num s.vapic_id ≡ false → eqb offset 0x300 ≡ false → eqb offset 0x3f0 ≡ false
        → {o : Outcome VirtualApicRegs} → Stored s.x2apic width s offset o → W o
    stores inside c d (takes y) = plain inside y (eqb-false offset 0x300 c) (eqb-false offset 0x3f0 d)
    stores inside c d (rejects n) = unlisted inside n

-- ---- two numbers with the same members are one

below_power : (n : ℕ) → n < 2 ^ n
below_power zero = lit< tt
below_power (suc n) = let h : n < 2 ^ n = below_power n in let p : 2 ^ suc n ≡ 2 ^ n * 2 = pow-suc 2 n in omega arith

same_number : (a b : ℕ) → ((i : ℕ) → bit a i ≡ bit b i) → a ≡ b
same_number a b h =
    same_bits (a + b) a b (lt_of_lt_of_le (below_power a) (pow_mono (omega arith))) (lt_of_lt_of_le (below_power b) (pow_mono (omega arith))) (λ k l. h k)

-- ---- the command

module _ (s : VirtualApicRegs) (val width num active kind vector mask : ℕ) where
  abbrev Sent : Reply → Type 0
  Sent r = r ≡ reply.Three kind vector mask

  kind_number : mode_number (mode_of (delivery_mode (low_word val))) ≡ delivery_mode (low_word val)
  kind_number = number_back (delivery_mode (low_word val)) (mod-lt (low_word val / 256) (lit< tt))

  forth_command : {a : Result IcrAnswer Refusal} → out_of_range num s.vapic_id ≡ false → is_icr_width s.x2apic width ≡ true
      → Answers (low_word val) num (is_hit s active (destination s val)) (is_command3 s val num active) (is_command5 s val) a
      → Sent (answered (commanded s val) a).reply → Goes s val width num active kind vector mask
  forth_command inside fits (sends {mask = m} go bits some t f) e =
      let q : m ≡ mask = cc in
      record {
        storing = rw (inside, fits);
        sent = go;
        kind_is = (let z : mode_number (mode_of (delivery_mode (low_word val))) ≡ kind = cc in sym z ∙ kind_number);
        vector_is = cc;
        each = λ i. ap (λ (n : ℕ). bit n i) (sym q) ∙ bits i;
        some = some;
      }
  forth_command inside fits (idles n t f) e = let z : ◌≡◌ {A = ℕ} 0 1 = cc in absurd (omega arith)
  forth_command inside fits (notes n t f) e = let z : ◌≡◌ {A = ℕ} 0 1 = cc in absurd (omega arith)
  forth_command inside fits (refuses_kind n t f) e = let z : ◌≡◌ {A = ℕ} 0 1 = cc in absurd (omega arith)
  forth_command inside fits (refuses_id n t f) e = let z : ◌≡◌ {A = ℕ} 0 1 = cc in absurd (omega arith)

  forth : (offset : ℕ) (o : Outcome VirtualApicRegs) → Wrote s offset val width num active o → offset ≡ 0x300 → Sent o.reply → Goes s val width num active kind vector mask
  forth offset o (outside e) at q = let z : ◌≡◌ {A = ℕ} 0 1 = cc in absurd (omega arith)
  forth offset o (unlisted i e) at q = let z : ◌≡◌ {A = ℕ} 0 1 = cc in absurd (omega arith)
  forth offset o (plain i e n m) at q = absurd (n at)
  forth offset o (self i e x) at q = absurd (omega arith)
  forth offset o (commands_it inside e fits a) at q = forth_command inside fits a q

  module _ (g : Goes s val width num active kind vector mask) where
    in_range_too : (out_of_range num s.vapic_id ≡ false) × (is_icr_width s.x2apic width ≡ true)
    in_range_too =
        let t = and_true (not (out_of_range num s.vapic_id)) (is_icr_width s.x2apic width) g.storing in
        (not_is (out_of_range num s.vapic_id) t.0, t.1)

    not_nobody : {A : Type 0} → ((i : ℕ) → i < num → is_hit s active (destination s val) i ≡ false) → A
    not_nobody none =
        let i : ℕ = g.some.0 in
        let t = and_true (ltb i num) (is_hit s active (destination s val) i) g.some.1 in
        never t.1 (none i (ltb-true i num t.0))

    back_command : {a : Result IcrAnswer Refusal}
        → Answers (low_word val) num (is_hit s active (destination s val)) (is_command3 s val num active) (is_command5 s val) a
        → Sent (answered (commanded s val) a).reply
    back_command (sends {mask = m} go bits some t f) =
        let q : m ≡ mask = same_number m mask (λ i. bits i ∙ sym (g.each i)) in
        let k : kind ≡ mode_number (mode_of (delivery_mode (low_word val))) = g.kind_is ∙ sym kind_number in
        let v : vector ≡ vector_field (low_word val) = g.vector_is in
        cc
    back_command (idles n t f) = not_nobody (n g.sent)
    back_command (notes n t f) = not_nobody (n g.sent)
    back_command (refuses_kind n t f) = not_nobody (n g.sent)
    back_command (refuses_id n t f) = not_nobody (n g.sent)

    back : (offset : ℕ) (o : Outcome VirtualApicRegs) → Wrote s offset val width num active o → offset ≡ 0x300 → Sent o.reply
    back offset o (outside e) at = never e in_range_too.0
    back offset o (unlisted i e) at = never in_range_too.1 (subst (λ (n : ℕ). is_written s.x2apic n width ≡ false) at e)
    back offset o (plain i e n m) at = absurd (n at)
    back offset o (self i e x) at = absurd (omega arith)
    back offset o (commands_it i e fits a) at = back_command a

pub commands : Commands
commands s val width num active kind vector mask =
    let w = wrote s 0x300 val width num active in (
      λ e. forth s val width num active kind vector mask 0x300 (handle_write s 0x300 val width num active) w refl e,
      λ g. back s val width num active kind vector mask g 0x300 (handle_write s 0x300 val width num active) w refl,
    )

-- ---- the self-IPI register

module _ (s : VirtualApicRegs) (val width num active kind vector mask : ℕ) where
  abbrev Own : Reply → Type 0
  Own r = r ≡ reply.Three kind vector mask

  abbrev itself : Outcome VirtualApicRegs
  itself = answered s (Ok (self_ipi (record { 0 = s.vapic_id }) (record { 0 = val % 256 })))

  own_mask : out_of_range num s.vapic_id ≡ false → vcpu_mask (vcpu_of s.vapic_id) ≡ 2 ^ s.vapic_id
  own_mask inside = let h : s.vapic_id ≤ 63 = (in_range num s.vapic_id inside).1 in mask_is (vcpu_of s.vapic_id) (omega arith)

  forth_itself : out_of_range num s.vapic_id ≡ false → s.x2apic ≡ true → Own itself.reply → GoesToSelf s val num kind vector mask
  unfolding self_ipi
  forth_itself inside x e = go (ltb (val % 256) 16) refl e
    where
      go : (b : Bool) → ltb (val % 256) 16 ≡ b
          → Own (answered s (Ok (cond b SendIllegalVector (Ipi (record { kind = Fixed; vector = record { 0 = val % 256 }; mask = vcpu_mask (vcpu_of s.vapic_id) }))))).reply → GoesToSelf s val num kind vector mask
      go true l q = let z : ◌≡◌ {A = ℕ} 0 1 = cc in absurd (omega arith)
      go false l q =
          let p : vcpu_mask (vcpu_of s.vapic_id) ≡ mask = cc in
          let m : 2 ^ s.vapic_id ≡ mask = sym (own_mask inside) ∙ p in
          record {
            inside = inside;
            mode = x;
            legal = ltb-false (val % 256) 16 l;
            kind_is = cc;
            vector_is = cc;
            each = λ i. ap (λ (n : ℕ). bit n i) (sym m) ∙ bit_power s.vapic_id i;
          }

  forth_self : (offset : ℕ) (o : Outcome VirtualApicRegs) → Wrote s offset val width num active o → offset ≡ 0x3f0 → Own o.reply → GoesToSelf s val num kind vector mask
  forth_self offset o (outside e) at q = let z : ◌≡◌ {A = ℕ} 0 1 = cc in absurd (omega arith)
  forth_self offset o (unlisted i e) at q = let z : ◌≡◌ {A = ℕ} 0 1 = cc in absurd (omega arith)
  forth_self offset o (plain i e n m) at q = absurd (m at)
  forth_self offset o (self i e x) at q = forth_itself i x q
  forth_self offset o (commands_it i e fits a) at q = absurd (omega arith)

  module _ (g : GoesToSelf s val num kind vector mask) where
    back_itself : Own itself.reply
    unfolding self_ipi
    back_itself =
        let m : vcpu_mask (vcpu_of s.vapic_id) ≡ mask = own_mask g.inside ∙ same_number (2 ^ s.vapic_id) mask (λ i. bit_power s.vapic_id i ∙ sym (g.each i)) in
        let k : kind ≡ 0 = g.kind_is in
        let v : vector ≡ val % 256 = g.vector_is in
        rw (le-ltb (val % 256) 16 g.legal) (cc)

    back_self : (offset : ℕ) (o : Outcome VirtualApicRegs) → Wrote s offset val width num active o → offset ≡ 0x3f0 → Own o.reply
    back_self offset o (outside e) at = never e g.inside
    back_self offset o (unlisted i e) at = never g.mode (not_self s.x2apic (is_icr_width s.x2apic width) (subst (λ (n : ℕ). is_written s.x2apic n width ≡ false) at e))
      where
        not_self : (x l : Bool) → (x || false) ≡ false → x ≡ false
        not_self true l r = r
        not_self false l r = refl
    back_self offset o (plain i e n m) at = absurd (m at)
    back_self offset o (self i e x) at = back_itself
    back_self offset o (commands_it i e fits a) at = absurd (omega arith)

pub self_ipis : SelfIpis
self_ipis s val width num active kind vector mask =
    let w = wrote s 0x3f0 val width num active in (
      λ e. forth_self s val width num active kind vector mask 0x3f0 (handle_write s 0x3f0 val width num active) w refl e,
      λ g. back_self s val width num active kind vector mask g 0x3f0 (handle_write s 0x3f0 val width num active) w refl,
    )

-- ---- the others

pub others : Others
others s offset val width num active kind vector mask e = go (handle_write s offset val width num active) (wrote s offset val width num active) e
  where
    go : (o : Outcome VirtualApicRegs) → Wrote s offset val width num active o → o.reply ≡ reply.Three kind vector mask → (offset ≡ 0x300) ⊎ (offset ≡ 0x3f0)
    go o (outside e) q = let z : ◌≡◌ {A = ℕ} 0 1 = cc in absurd (omega arith)
    go o (unlisted i e) q = let z : ◌≡◌ {A = ℕ} 0 1 = cc in absurd (omega arith)
    go o (plain i e n m) q = let z : ◌≡◌ {A = ℕ} 0 1 = cc in absurd (omega arith)
    go o (self i e x) q = inr e
    go o (commands_it i e fits a) q = inl e

pub silent : Silent
silent s offset val width num active z n = go (handle_write s offset val width num active) (wrote s offset val width num active) z n
  where
    quiet : (t : VirtualApicRegs) (a : Result IcrAnswer Refusal) → reply_number (answered t a).reply ≡ 0
        → ((kind vector mask : ℕ) → (answered t a).reply ≡ reply.Three kind vector mask → ⊥) → (answered t a).reply ≡ reply.Nothing
    quiet t (Ok Nothing) z n = refl
    quiet t (Ok SendIllegalVector) z n = refl
    quiet t (Ok (Ipi ipi)) z n = absurd (n (mode_number ipi.kind) ipi.vector.0 ipi.mask refl)
    quiet t (Err why) z n = absurd (refused_not_done why z)

    go : (o : Outcome VirtualApicRegs) → Wrote s offset val width num active o → reply_number o.reply ≡ 0
        → ((kind vector mask : ℕ) → o.reply ≡ reply.Three kind vector mask → ⊥) → o.reply ≡ reply.Nothing
    go o (outside e) z n = absurd (omega arith)
    go o (unlisted i e) z n = absurd (omega arith)
    go o (plain i e c d) z n = refl
    go o (self i e x) z n = quiet s (Ok (self_ipi (record { 0 = s.vapic_id }) (record { 0 = val % 256 }))) z n
    go o (commands_it {a} i e fits q) z n = quiet (commanded s val) a z n
