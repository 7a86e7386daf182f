-- One row's turn, where an image is written and where it is read; and what is left to do after it. Assumes nothing.
use mathlib.Core.Path.{◌≡◌, refl, sym, ◌∙◌, ap}
use mathlib.Core.Bool.{true, cond}
use mathlib.Core.List.{List, [], ◌∷◌, ◌++◌}
use Prim.Native.Nat.{ℕ, zero, suc, ◌+◌, ◌<◌, ◌≤◌}
use native.Mathlib.Omega.{arith}
use native.Mathlib.Numerals.{add-one}
use lib.ListN.{get_or, set, length, take, drop}
use lib.Seq.{sets, sets-eq, drop-cons, get_or-drop}
use Rattle.image_format.specs.declared.Row.{Row}
use Rattle.image_format.specs.Format.{row, is_number, step_of, bytes, format, row_at}
use Rattle.image_format.specs.Image.{bytes_of, number_at, header_of, field_with, field_of, written, image_of, taken, loaded, words_in}
use Rattle.image_format.proofs.Rows.{rows_are}
use Rattle.image_format.proofs.Bytes.{sets_append, length_field, length_written}

-- what a number takes of the bytes
pub take_number : (s : List ℕ) (at : ℕ) (r : Row) (words : List ℕ) (x : ℕ) → is_number r ≡ true → x ≡ number_at s (at + 3) r.size → set words r.slot x ≡ taken s at r words
take_number s at r words x h ex = rw (h, ex)

-- of the bytes from `at` on
pub taken_from : (s words after : List ℕ) (at : ℕ) (r : Row) → after ≡ taken (drop at s) 0 r words → after ≡ taken s at r words
unfolding number_at
taken_from s words after at r e = e ∙ ap (λ (n : ℕ). cond (is_number r) (set words r.slot n) words) (same 3 r.size)
  where
    same : (i w : ℕ) → number_at (drop at s) i w ≡ number_at s (at + i) w
    same i zero = refl
    same i (suc w) =
        let e : at + suc i ≡ suc (at + i) = omega arith in
        rw (get_or-drop at s i 0, same (suc i) w, e)

-- the rows from k on
pub rows_from : (k : ℕ) → k < 80 → drop k format ≡ row_at k ∷ drop (k + 1) format
rows_from k h = rw add-one (drop-cons format k (row 0 0 0) (rw rows_are h))

pub rows_end : (k : ℕ) → k ≡ 80 → drop k format ≡ []
unfolding format
rows_end k e = rw e

pub all_bytes : 0 + bytes (drop 0 format) ≡ 628
unfolding format
all_bytes = refl

bytes_from : (k : ℕ) → k < 80 → bytes (drop k format) ≡ step_of (row_at k) + bytes (drop (k + 1) format)
bytes_from k h = ap bytes (rows_from k h)

pub row_fits : (k at len : ℕ) → k < 80 → at + bytes (drop k format) ≡ 628 → 628 ≤ len → at + step_of (row_at k) ≤ len
row_fits k at len h e l = omega (arith, bytes_from k h)

pub bytes_more : (k at n : ℕ) → k < 80 → n ≡ step_of (row_at k) → at + bytes (drop k format) ≡ 628 → at + n + bytes (drop (k + 1) format) ≡ 628
bytes_more k at n h en e = omega (arith, bytes_from k h)

-- ---- reading

pub load_start : (s words : List ℕ) → loaded (drop 0 format) s 0 words ≡ words_in s words
unfolding words_in
load_start s words = refl

pub load_more : (s : List ℕ) (k at n : ℕ) (words after : List ℕ) → k < 80 → n ≡ step_of (row_at k) → after ≡ taken s at (row_at k) words → loaded (drop (k + 1) format) s (at + n) after ≡ loaded (drop k format) s at words
unfolding loaded
load_more s k at n words after h en ea = rw (en, ea) (sym (ap (λ (rows : List Row). loaded rows s at words) (rows_from k h)))

pub load_end : (s : List ℕ) (k at : ℕ) (words : List ℕ) → k ≡ 80 → loaded (drop k format) s at words ≡ words
unfolding loaded
load_end s k at words e = ap (λ (rows : List Row). loaded rows s at words) (rows_end k e)

-- ---- writing

pub image_length : (words : List ℕ) → length (image_of words) ≡ 628
unfolding image_of format
image_length words = length_written format words ∙ all_bytes

pub field_number : (l : List ℕ) (at n : ℕ) (r : Row) (b : List ℕ) → is_number r ≡ true → b ≡ sets l at (header_of r) → sets b (at + 3) (bytes_of r.size n) ≡ sets l at (field_with n r)
field_number l at n r b h eb = rw (h, eb) (sym (sets_append l at (header_of r) (bytes_of r.size n)))

pub write_start : (l words : List ℕ) → sets l 0 (written (drop 0 format) words) ≡ sets l 0 (image_of words)
unfolding image_of
write_start l words = refl

pub write_more : (words : List ℕ) (k at n x : ℕ) (l after : List ℕ) → k < 80 → n ≡ step_of (row_at k) → x ≡ get_or words (row_at k).slot 0 → after ≡ sets l at (field_with x (row_at k))
    → sets after (at + n) (written (drop (k + 1) format) words) ≡ sets l at (written (drop k format) words)
unfolding written
write_more words k at n x l after h en ex ea =
    rw (en, ea, ex)
    (sym (ap (λ (rows : List Row). sets l at (written rows words)) (rows_from k h)
    ∙ sets_append l at (field_of words (row_at k)) (written (drop (k + 1) format) words)
    ∙ ap (λ (m : ℕ). sets (sets l at (field_of words (row_at k))) (at + m) (written (drop (k + 1) format) words)) (length_field (get_or words (row_at k).slot 0) (row_at k))))

pub write_end : (words : List ℕ) (k at : ℕ) (l l₀ : List ℕ) → k ≡ 80 → 628 ≤ length l₀ → sets l at (written (drop k format) words) ≡ sets l₀ 0 (image_of words) → l ≡ image_of words ++ drop 628 l₀
unfolding written
write_end words k at l l₀ e h q =
    let n : length (image_of words) ≡ 628 = image_length words in
    let f : 0 + length (image_of words) ≤ length l₀ = omega (arith, n) in
    let g : 0 + length (image_of words) ≡ 628 = omega (arith, n) in
    sym (ap (λ (rows : List Row). sets l at (written rows words)) (rows_end k e)) ∙ q ∙ sets-eq (image_of words) l₀ 0 f ∙ ap (λ (m : ℕ). take 0 l₀ ++ image_of words ++ drop m l₀) g
