-- Bytes of a number, and a number of bytes; runs of stores. Assumes nothing.
use mathlib.Core.Path.{◌≡◌, refl, sym, ◌∙◌, ap}
use mathlib.Core.Bool.{Bool, true, false, cond}
use mathlib.Core.List.{List, [], ◌∷◌, ◌++◌, append_assoc, append-nil}
use Prim.Native.Nat.{ℕ, zero, suc, ◌+◌, ◌-◌, ◌*◌, ◌/◌, ◌%◌, ◌^◌, ◌≤◌}
use native.Mathlib.Omega.{arith}
use native.Mathlib.Nat.{pow-succ', div-div-eq-div-mul}
use lib.ListN.{get_or, set, length, length-append, length-drop, take, drop, replicate}
use lib.Seq.{sets, sets-eq, drop-drop, get_or-drop, drop-length, take-length}
use Rattle.std.proofs.lemmas.List.{get_or-take, get_or_past, length-take-le}
use borrow.Rule.Slice.PartMut.{put_mid}
use Rattle.std.specs.Int.{byte_at, bytes_low_first, from_le_bytes, w64}
use Rattle.image_format.specs.declared.Row.{Row}
use Rattle.image_format.specs.Format.{is_number, step_of, bytes}
use Rattle.image_format.specs.Image.{bytes_of, number_at, header_of, field_with, field_of, written}

pub sets_append : (l : List ℕ) (i : ℕ) (xs ys : List ℕ) → sets l i (xs ++ ys) ≡ sets (sets l i xs) (i + length xs) ys
sets_append l i [] ys = ap (λ (k : ℕ). sets l k ys) (omega arith)
sets_append l i (x ∷ xs) ys = sets_append (set l i x) (suc i) xs ys ∙ ap (λ (k : ℕ). sets (sets (set l i x) (suc i) xs) k ys) (omega arith)

-- ---- lengths

pub length_bytes : (w n : ℕ) → length (bytes_of w n) ≡ w
unfolding bytes_of
length_bytes zero n = refl
length_bytes (suc w) n = ap suc (length_bytes w (n / 256))

pub length_field : (n : ℕ) (r : Row) → length (field_with n r) ≡ step_of r
length_field n r = length-append (header_of r) (cond (is_number r) (bytes_of r.size n) []) ∙ ap (λ (k : ℕ). 3 + k) (go (is_number r))
  where
    go : (b : Bool) → length (cond b (bytes_of r.size n) []) ≡ cond b r.size 0
    go true = length_bytes r.size n
    go false = refl

pub length_written : (rows : List Row) (words : List ℕ) → length (written rows words) ≡ bytes rows
unfolding written
length_written [] words = refl
length_written (r ∷ rows) words = length-append (field_of words r) (written rows words) ∙ ap (λ (k : ℕ). length (field_of words r) + k) (length_written rows words) ∙ ap (λ (k : ℕ). k + bytes rows) (length_field (get_or words r.slot 0) r)

-- ---- a part of a buffer is stored

pub stored : (l ys zs : List ℕ) (at k : ℕ) → ys ≡ zs → k ≡ length zs → at + length zs ≤ length l → put_mid at k l ys ≡ sets l at zs
stored l ys zs at k e ek f = rw (e, ek, sym (append_assoc (take at l) zs (drop (length zs) (drop at l)))) (ap (λ (t : List ℕ). take at l ++ zs ++ t) (drop-drop (length zs) at l) ∙ sym (sets-eq zs l at f))

-- and the rest of it, from `at` on
pub rest_is : (l : List ℕ) (at : ℕ) → take (length l - at) (drop at l) ≡ drop at l
rest_is l at = rw (length-drop at l) at (take-length (drop at l))

pub rest_stored : (l ys xs : List ℕ) (at k : ℕ) → ys ≡ sets (drop at l) 0 xs → at + k ≡ length l → at + length xs ≤ length l → put_mid at k l ys ≡ sets l at xs
rest_stored l ys xs at k e ek f =
    let n : length (drop at l) ≡ k = rw (length-drop at l) (omega arith) in
    let z : drop k (drop at l) ≡ [] = rw n at (drop-length (drop at l)) in
    let o : 0 + length xs ≡ length xs = omega arith in
    let p : 0 + length xs ≤ length (drop at l) = omega arith in
    let w : ys ≡ xs ++ drop (at + length xs) l = e ∙ rw o at (sets-eq xs (drop at l) 0 p) ∙ ap (λ (t : List ℕ). xs ++ t) (drop-drop (length xs) at l) in
    rw (w, z, append-nil) (sym (append_assoc (take at l) xs (drop (at + length xs) l)) ∙ sym (sets-eq xs l at f))

-- the lowest bytes of eight
pub low_bytes : (k w i n : ℕ) → w ≤ k → take w (bytes_low_first i k n) ≡ bytes_of w (n / 256 ^ i)
unfolding bytes_of
low_bytes k zero i n h = refl
low_bytes zero (suc w) i n h = absurd (omega arith)
low_bytes (suc k) (suc w) i n h =
    let e : n / 256 ^ i / 256 ≡ n / 256 ^ suc i = div-div-eq-div-mul n (256 ^ i) 256 ∙ ap (λ (m : ℕ). n / m) (omega (arith, pow-succ' 256 i)) in
    ap (λ (b : ℕ). b ∷ take w (bytes_low_first (suc i) k n)) (first i)
    ∙ ap (λ (t : List ℕ). n / 256 ^ i % 256 ∷ t) (low_bytes k w (suc i) n (omega arith) ∙ ap (λ (m : ℕ). bytes_of w m) (sym e))
  where
    first : (i : ℕ) → byte_at i n ≡ n / 256 ^ i % 256
    first zero = omega arith
    first (suc i) = refl

pub bytes_put : (w n : ℕ) → w ≤ 8 → take w (bytes_low_first 0 8 n) ≡ bytes_of w n
bytes_put w n h = low_bytes 8 w 0 n h ∙ ap (λ (m : ℕ). bytes_of w m) (omega arith)

-- ---- a number is read

-- past the bytes' end there is nothing
number_past : (s : List ℕ) (at w : ℕ) → length s ≤ at → number_at s at w ≡ 0
unfolding number_at
number_past s at zero h = refl
number_past s at (suc w) h = rw (get_or_past s at 0 h, number_past s (suc at) w (omega arith))

number_short : (s : List ℕ) (at w x : ℕ) → length s ≤ at + w → number_at s at (w + x) ≡ number_at s at w
unfolding number_at
number_short s at zero x h = let z : 0 + x ≡ x = omega arith in rw z (number_past s at x (omega arith))
number_short s at (suc w) x h = let z : suc w + x ≡ suc (w + x) = omega arith in rw z (ap (λ (n : ℕ). get_or s at 0 + 256 * n) (number_short s (suc at) w x (omega arith)))

-- eight bytes, which are s and zeros
pub number_is : (s t : List ℕ) → length s ≤ 8 → ((i : ℕ) → get_or t i 0 ≡ get_or s i 0) → from_le_bytes w64 t ≡ number_at s 0 (length s)
unfolding number_at
number_is s t h e =
    let a : from_le_bytes w64 t ≡ number_at s 0 8 = rw (e 0, e 1, e 2, e 3, e 4, e 5, e 6, e 7) (omega arith) in
    let b : 8 ≡ length s + (8 - length s) = omega arith in
    a ∙ ap (λ (n : ℕ). number_at s 0 n) b ∙ number_short s 0 (length s) (8 - length s) (omega arith)

-- after s the rest of eight zeros stays
pub number_of_part : (s : List ℕ) (k : ℕ) → k ≡ length s → length s ≤ 8 → from_le_bytes w64 (put_mid 0 k (replicate 8 0) s) ≡ number_at s 0 (length s)
number_of_part s k e h = rw e (number_is s (s ++ drop (length s) (replicate 8 0)) h (λ i. beside s (drop (length s) (replicate 8 0)) (λ j. get_or-drop (length s) (replicate 8 0) j 0 ∙ zeros 8 (length s + j)) i))
  where
    zeros : (n i : ℕ) → get_or {A = ℕ} (replicate n 0) i 0 ≡ 0
    zeros zero i = refl
    zeros (suc n) zero = refl
    zeros (suc n) (suc i) = zeros n i

    beside : (s z : List ℕ) → ((j : ℕ) → get_or z j 0 ≡ 0) → (i : ℕ) → get_or (s ++ z) i 0 ≡ get_or s i 0
    beside [] z h i = h i
    beside (x ∷ s) z h zero = refl
    beside (x ∷ s) z h (suc i) = beside s z h i

-- a number of a part of the bytes
pub number_part : (s : List ℕ) (at n w : ℕ) → n ≡ w → at + w ≤ length s → number_at (take n (drop at s)) 0 (length (take n (drop at s))) ≡ number_at s at w
unfolding number_at
number_part s at n w e h =
    let l : length (take w (drop at s)) ≡ w = length-take-le w (drop at s) (rw length-drop (omega arith)) in
    let z : at + 0 ≡ at = omega arith in
    rw (e, l) (part 0 w (omega arith) ∙ ap (λ (k : ℕ). number_at s k w) z)
  where
    part : (i v : ℕ) → i + v ≤ w → number_at (take w (drop at s)) i v ≡ number_at s (at + i) v
    part i zero h = refl
    part i (suc v) h =
        let e : at + suc i ≡ suc (at + i) = omega arith in
        rw (get_or-take w (drop at s) i 0 (omega arith), get_or-drop at s i 0, part (suc i) v (omega arith), e)
