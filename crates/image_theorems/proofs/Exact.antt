-- The statements of specs/Exact. Assumes nothing.
use mathlib.Core.Path.{◌≡◌, refl, sym, ◌∙◌, ap}
use mathlib.Core.Bool.{Bool, true, false, not, cond, ◌&&◌}
use mathlib.Core.List.{List, [], ◌∷◌, ◌++◌, append_assoc, append-nil}
use Prim.Native.Nat.{ℕ, zero, suc, ◌+◌, ◌*◌, ◌/◌, ◌%◌, ◌^◌, ◌<◌, ◌≤◌}
use native.Mathlib.Omega.{arith}
use native.Mathlib.Nat.{pow-succ'}
use lib.Arith.{mod-mul}
use native.Mathlib.Numerals.{add-one}
use borrow.Author.Tests.{ltb-true, eqb-true, eqb-false, not-true}
use lib.Dec.{ltb, eqb}
use lib.Seq.{drop-cons, get_or-drop, drop-drop, drop-length, drop_at, get_or-set_same, get_or-set_other}
use Rattle.utils.proofs.Bools.{either, both, and_true}
use Rattle.image_format.proofs.Rounds.{rows_from, rows_end}
use Rattle.image_format.proofs.Rows.{slot_small}
use Rattle.image_format.proofs.Bytes.{length_field}
use Rattle.image_theorems.proofs.Sound.{start_of, Heads, all_heads}
use lib.ListN.{get_or, set, length, drop, length-set}
use Rattle.image_format.specs.declared.Row.{Row}
use Rattle.image_format.specs.Format.{row, is_number, step_of, bytes, format}
use Rattle.image_format.specs.Image.{bytes_of, number_at, header_of, field_of, written, image_of, taken, loaded, words_in}
use Rattle.image_format.specs.Reading.{is_head, stands, field_by', group_by', field_by, group_by, field_from, is_read}
use Rattle.image_theorems.specs.Exact.{carried, WrittenIsRead, ReadBack, SameImage, ImageBytes, CarriedImage, ReadLength, ReadIsImage}

pub written_is_read : WrittenIsRead
unfolding is_read field_from field_by group_by field_by' group_by' stands format image_of written bytes_of
written_is_read words = refl

-- ---- a number of bytes, and its bytes

-- what stands from `at` on is all that counts
number_from : (s t : List ℕ) (i j w : ℕ) → ((n : ℕ) → get_or s (i + n) 0 ≡ get_or t (j + n) 0) → number_at s i w ≡ number_at t j w
unfolding number_at
number_from s t i j zero h = refl
number_from s t i j (suc w) h =
    let a : get_or s i 0 ≡ get_or t j 0 = rw (zero_right i, zero_right j) at (h 0) in
    let b : number_at s (suc i) w ≡ number_at t (suc j) w = number_from s t (suc i) (suc j) w (λ n. rw (shift i n, shift j n) (h (suc n))) in
    rw (a, b)
  where
    zero_right : (n : ℕ) → n + 0 ≡ n
    zero_right n = omega arith

    shift : (m n : ℕ) → suc m + n ≡ m + suc n
    shift m n = omega arith

pow_positive : (w : ℕ) → 0 < 256 ^ w
pow_positive zero = omega arith
pow_positive (suc w) = omega (arith, pow-succ' 256 w, pow_positive w)

number_back : (w n : ℕ) (t : List ℕ) → number_at (bytes_of w n ++ t) 0 w ≡ n % 256 ^ w
unfolding bytes_of number_at
number_back zero n t = omega arith
number_back (suc w) n t =
    let p : 256 ^ suc w ≡ 256 ^ w * 256 = omega (arith, pow-succ' 256 w) in
    let m : n % (256 ^ w * 256) ≡ (n / 256 % 256 ^ w) * 256 + n % 256 = mod-mul n (pow_positive w) (omega arith) in
    let a : number_at (n % 256 ∷ (bytes_of w (n / 256) ++ t)) 1 w ≡ number_at (bytes_of w (n / 256) ++ t) 0 w = number_from (n % 256 ∷ (bytes_of w (n / 256) ++ t)) (bytes_of w (n / 256) ++ t) 1 0 w (λ m. rw (one_more_lem, none_more)) in
    let b : number_at (bytes_of w (n / 256) ++ t) 0 w ≡ n / 256 % 256 ^ w = number_back w (n / 256) t in
    rw (a, b, p, m) (omega arith)
  where
    one_more_lem : (m : ℕ) → 1 + m ≡ suc m
    one_more_lem m = omega arith

    none_more : (m : ℕ) → 0 + m ≡ m
    none_more m = omega arith

-- and the other way round
bytes_back : (s : List ℕ) (small : (i : ℕ) → get_or s i 0 < 256) (w at : ℕ) → at + w ≤ length s → drop at s ≡ bytes_of w (number_at s at w) ++ drop (at + w) s
unfolding bytes_of number_at
bytes_back s small zero at h = let e : at ≡ at + 0 = omega arith in ap (λ (k : ℕ). drop k s) e
bytes_back s small (suc w) at h =
    let l : at < length s = omega arith in
    let m : (get_or s at 0 + 256 * number_at s (suc at) w) % 256 ≡ get_or s at 0 = omega (arith, small at) in
    let d : (get_or s at 0 + 256 * number_at s (suc at) w) / 256 ≡ number_at s (suc at) w = omega (arith, small at) in
    let e : suc at + w ≡ at + suc w = omega arith in
    drop-cons s at 0 l ∙ rw (m, d) (ap (λ (t : List ℕ). get_or s at 0 ∷ t) (bytes_back s small w (suc at) (omega arith) ∙ rw e))

-- ---- what was written is read back

-- the field of r stands before what comes after it
after_field : (words s t : List ℕ) (at : ℕ) (r : Row) → drop at s ≡ field_of words r ++ t → drop (at + step_of r) s ≡ t
after_field words s t at r e = sym (drop-drop (step_of r) at s) ∙ ap (drop (step_of r)) e ∙ drop_at (field_of words r) t (step_of r) (length_field (get_or words r.slot 0) r)

number_in : (words s t : List ℕ) (at : ℕ) (r : Row) → is_number r ≡ true → drop at s ≡ field_of words r ++ t → number_at s (at + 3) r.size ≡ get_or words r.slot 0 % 256 ^ r.size
number_in words s t at r h e =
    let e' : drop at s ≡ r.tag ∷ r.size % 256 ∷ r.size / 256 ∷ (bytes_of r.size (get_or words r.slot 0) ++ t) = rw h at e in
    number_from s (bytes_of r.size (get_or words r.slot 0) ++ t) (at + 3) 0 r.size (λ n.
    let a : at + 3 + n ≡ at + (3 + n) = omega arith in
    let b : 3 + n ≡ suc (suc (suc n)) = omega arith in
    let z : n ≡ 0 + n = omega arith in
    rw a (sym (get_or-drop at s (3 + n) 0) ∙ ap (λ (l : List ℕ). get_or l (3 + n) 0) e' ∙ rw b (ap (λ (k : ℕ). get_or (bytes_of r.size (get_or words r.slot 0) ++ t) k 0) z)))
    ∙ number_back r.size (get_or words r.slot 0) t

load_back : (rows : List Row) (words s t : List ℕ) (at : ℕ) (base : List ℕ) → drop at s ≡ written rows words ++ t → loaded rows s at base ≡ carried rows words base
unfolding loaded carried written
load_back [] words s t at base e = refl
load_back (r ∷ rows) words s t at base e =
    let q : drop at s ≡ field_of words r ++ (written rows words ++ t) = e ∙ append_assoc (field_of words r) (written rows words) t in
    let step : (base' : List ℕ) → loaded rows s (at + step_of r) base' ≡ carried rows words base' = λ base'. load_back rows words s t (at + step_of r) base' (after_field words s (written rows words ++ t) at r q) in
    let same : taken s at r base ≡ cond (is_number r) (set base r.slot (get_or words r.slot 0 % 256 ^ r.size)) base =
    either (λ (x : List ℕ). taken s at r base ≡ cond (is_number r) (set base r.slot (get_or words r.slot 0 % 256 ^ r.size)) base) (is_number r) [] []
    (λ h. rw (h, number_in words s (written rows words ++ t) at r h q))
    (λ h. rw h) in
    ap (λ (b : List ℕ). loaded rows s (at + step_of r) b) same ∙ step (cond (is_number r) (set base r.slot (get_or words r.slot 0 % 256 ^ r.size)) base)

pub read_back : ReadBack
unfolding words_in image_of
read_back words base = load_back format words (written format words) [] 0 base (sym (append-nil (written format words)))

-- ---- what is read is the image of its words

lacks : ℕ → List Row → Bool
lacks j [] = true
lacks j (r ∷ rows) = cond (is_number r) (not (eqb j r.slot)) true && lacks j rows

apart : List Row → Bool
apart [] = true
apart (r ∷ rows) = cond (is_number r) (lacks r.slot rows) true && apart rows

kept : (rows : List Row) (s : List ℕ) (at j : ℕ) (base : List ℕ) → lacks j rows ≡ true → get_or (loaded rows s at base) j 0 ≡ get_or base j 0
unfolding loaded lacks
kept [] s at j base h = refl
kept (r ∷ rows) s at j base h =
    let a = and_true (cond (is_number r) (not (eqb j r.slot)) true) (lacks j rows) h in
    kept rows s (at + step_of r) j (taken s at r base) a.1
    ∙ either (λ (x : List ℕ). get_or (taken s at r base) j 0 ≡ get_or base j 0) (is_number r) [] []
    (λ n. let d : eqb j r.slot ≡ false = not-true _ (rw n at a.0) in rw n (get_or-set_other base r.slot j (number_at s (at + 3) r.size) 0 (eqb-false j r.slot d)))
    (λ n. rw n)

header_at : (s : List ℕ) (at : ℕ) (r : Row) → at + 3 ≤ length s → is_head s at r ≡ true → drop at s ≡ header_of r ++ drop (at + 3) s
header_at s at r l h =
    let a = and_true (eqb (get_or s at 0) r.tag) (eqb (get_or s (at + 1) 0) (r.size % 256) && eqb (get_or s (at + 2) 0) (r.size / 256)) h in
    let b = and_true (eqb (get_or s (at + 1) 0) (r.size % 256)) (eqb (get_or s (at + 2) 0) (r.size / 256)) a.1 in
    let e1 : suc at ≡ at + 1 = omega arith in
    let e2 : suc (at + 1) ≡ at + 2 = omega arith in
    let e3 : suc (at + 2) ≡ at + 3 = omega arith in
    drop-cons s at 0 (omega arith)
    ∙ rw (eqb-true (get_or s at 0) r.tag a.0, e1) (ap (λ (t : List ℕ). r.tag ∷ t) (drop-cons s (at + 1) 0 (omega arith)
    ∙ rw (eqb-true (get_or s (at + 1) 0) (r.size % 256) b.0, e2) (ap (λ (t : List ℕ). r.size % 256 ∷ t) (drop-cons s (at + 2) 0 (omega arith)
    ∙ rw (eqb-true (get_or s (at + 2) 0) (r.size / 256) b.1, e3)))))

field_back : (s : List ℕ) (small : (i : ℕ) → get_or s i 0 < 256) (at : ℕ) (r : Row) (W : List ℕ) → at + step_of r ≤ length s → is_head s at r ≡ true → (is_number r ≡ true → get_or W r.slot 0 ≡ number_at s (at + 3) r.size) → drop at s ≡ field_of W r ++ drop (at + step_of r) s
field_back s small at r W l h x =
    either (λ (_ : List ℕ). drop at s ≡ field_of W r ++ drop (at + step_of r) s) (is_number r) [] []
    (λ q.
    let f : at + (3 + r.size) ≤ length s = rw q at l in
    let g : at + 3 + r.size ≡ at + (3 + r.size) = omega arith in
    rw (q, x q) (header_at s at r (omega (arith, f)) h ∙ ap (λ (t : List ℕ). header_of r ++ t) (bytes_back s small r.size (at + 3) (omega (arith, f)) ∙ rw g)))
    (λ q. let f : at + (3 + 0) ≤ length s = rw q at l in rw q (header_at s at r (omega (arith, f)) h))

taken_at_lem : (s : List ℕ) (at : ℕ) (r : Row) (base : List ℕ) → is_number r ≡ true → r.slot < length base → get_or (taken s at r base) r.slot 0 ≡ number_at s (at + 3) r.size
taken_at_lem s at r base q l = rw q (get_or-set_same base r.slot (number_at s (at + 3) r.size) 0 l)

HeadsIn : List Row → ℕ → List ℕ → Type 0
HeadsIn [] at s = Unit
HeadsIn (r ∷ rows) at s = (is_head s at r ≡ true) × HeadsIn rows (at + step_of r) s

heads_in : (s : List ℕ) → Heads s 0 80 → (c k : ℕ) → k + c ≡ 80 → HeadsIn (drop k format) (start_of k) s
unfolding HeadsIn Heads
heads_in s h zero k e = rw (rows_end k (omega arith)) tt
heads_in s h (suc c) k e =
    let l : k < 80 = omega arith in
    rw (rows_from k l) (h k (omega arith) l, rw add-one (heads_in s h c (suc k) (omega arith)))

slots_in : ℕ → List Row → Type 0
slots_in n rows = (k : ℕ) → (get_or rows k (row 0 0 0)).slot < n

-- what is left of s is the rows' fields, with the words that they put there
rows_back : (rows : List Row) (s : List ℕ) (small : (i : ℕ) → get_or s i 0 < 256) (at : ℕ) (base : List ℕ) → apart rows ≡ true → slots_in (length base) rows → HeadsIn rows at s → at + bytes rows ≤ length s
    → drop at s ≡ written rows (loaded rows s at base) ++ drop (at + bytes rows) s
unfolding apart slots_in HeadsIn written loaded
rows_back [] s small at base a sl h l = let e : at ≡ at + 0 = omega arith in ap (λ (k : ℕ). drop k s) e
rows_back (r ∷ rows) s small at base a sl h l =
    let d = and_true (cond (is_number r) (lacks r.slot rows) true) (apart rows) a in
    let W : List ℕ = loaded rows s (at + step_of r) (taken s at r base) in
    let e : at + step_of r + bytes rows ≡ at + (step_of r + bytes rows) = omega arith in
    let n : length (taken s at r base) ≡ length base = either (λ (x : List ℕ). length (taken s at r base) ≡ length base) (is_number r) [] [] (λ q. rw q (length-set base r.slot (number_at s (at + 3) r.size))) (λ q. rw q) in
    let rest : drop (at + step_of r) s ≡ written rows W ++ drop (at + (step_of r + bytes rows)) s =
    rows_back rows s small (at + step_of r) (taken s at r base) d.1 (λ k. rw n (sl (suc k))) h.1 (omega arith) ∙ rw e in
    let one : drop at s ≡ field_of W r ++ drop (at + step_of r) s =
    field_back s small at r W (omega (arith, l)) h.0
    (λ q. kept rows s (at + step_of r) r.slot (taken s at r base) (rw q at d.0) ∙ taken_at_lem s at r base q (sl 0)) in
    one ∙ ap (λ (t : List ℕ). field_of W r ++ t) rest ∙ sym (append_assoc (field_of W r) (written rows W) (drop (at + (step_of r + bytes rows)) s))

size_is : start_of 80 ≡ 628
unfolding format
size_is = refl

bytes_are : 0 + bytes format ≡ 628
unfolding format
bytes_are = refl

all_apart : apart format ≡ true
unfolding format apart lacks
all_apart = refl

pub read_length : ReadLength
read_length s h = (all_heads s h).0 ∙ size_is

same_rows : (rows : List Row) (a b : List ℕ) → slots_in 84 rows → ((k : ℕ) → k < 84 → get_or a k 0 ≡ get_or b k 0) → written rows a ≡ written rows b
unfolding written slots_in
same_rows [] a b sl h = refl
same_rows (r ∷ rows) a b sl h = rw (h r.slot (sl 0)) (ap (λ (t : List ℕ). field_of b r ++ t) (same_rows rows a b (λ k. sl (suc k)) h))

pub same_image : SameImage
unfolding image_of slots_in
same_image a b h = same_rows format a b slot_small h

pub read_is_image : ReadIsImage
unfolding image_of words_in slots_in
read_is_image s base small n h =
    let a = all_heads s h in
    let e : length s ≡ 628 = a.0 ∙ size_is in
    let q : s ≡ written format (loaded format s 0 base) ++ drop (0 + bytes format) s = rows_back format s small 0 base all_apart (λ k. rw n (slot_small k)) (heads_in s a.1 80 0 refl) (rw bytes_are (omega (arith, e))) in
    let z : drop (0 + bytes format) s ≡ [] = rw (bytes_are, sym e) (drop-length s) in
    sym (q ∙ rw z (append-nil (written format (loaded format s 0 base))))

-- ---- an image is bytes

Small : List ℕ → Type 0
Small [] = Unit
Small (x ∷ l) = (x < 256) × Small l

small_at : (l : List ℕ) → Small l → (i : ℕ) → get_or l i 0 < 256
unfolding Small
small_at [] h i = omega arith
small_at (x ∷ l) h zero = h.0
small_at (x ∷ l) h (suc i) = small_at l h.1 i

small_join : (l m : List ℕ) → Small l → Small m → Small (l ++ m)
unfolding Small
small_join [] m h k = k
small_join (x ∷ l) m h k = (h.0, small_join l m h.1 k)

small_bytes : (w n : ℕ) → Small (bytes_of w n)
unfolding Small bytes_of
small_bytes zero n = tt
small_bytes (suc w) n = (omega arith, small_bytes w (n / 256))

heads_small : List Row → Bool
heads_small [] = true
heads_small (r ∷ rows) = (ltb r.tag 256 && ltb (r.size / 256) 256) && heads_small rows

small_rows : (rows : List Row) (words : List ℕ) → heads_small rows ≡ true → Small (written rows words)
unfolding Small written heads_small
small_rows [] words h = tt
small_rows (r ∷ rows) words h =
    let a = and_true (ltb r.tag 256 && ltb (r.size / 256) 256) (heads_small rows) h in
    let b = and_true (ltb r.tag 256) (ltb (r.size / 256) 256) a.0 in
    let body : Small (cond (is_number r) (bytes_of r.size (get_or words r.slot 0)) []) = both Small (is_number r) (bytes_of r.size (get_or words r.slot 0)) [] (small_bytes r.size (get_or words r.slot 0)) tt in
    (ltb-true _ _ b.0, (omega arith, (ltb-true _ _ b.1, small_join (cond (is_number r) (bytes_of r.size (get_or words r.slot 0)) []) (written rows words) body (small_rows rows words a.1))))

all_small : heads_small format ≡ true
unfolding format heads_small
all_small = refl

pub image_bytes : ImageBytes
unfolding image_of
image_bytes words i = small_at (written format words) (small_rows format words all_small) i

pub carried_image : CarriedImage
carried_image words base h = ap image_of (sym (read_back words base)) ∙ read_is_image (image_of words) base (image_bytes words) h (written_is_read words)
