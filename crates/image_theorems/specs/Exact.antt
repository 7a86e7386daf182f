-- An image and its words (document 02, T-11): what was written is read back, and what is read is the image of its words.
use Rattle.std.specs.Prelude.{ℕ, ◌%◌, ◌^◌, ◌<◌, true, cond, List, [], ◌∷◌, ◌≡◌, get_or, set, length}
use Rattle.image_format.specs.declared.Row.{Row}
use Rattle.image_format.specs.Format.{is_number, format}
use Rattle.image_format.specs.Image.{image_of, image_size, words_in}
use Rattle.image_format.specs.Reading.{is_read}

-- `base` with the words that the format has, of `words`: of each as many low bytes as its field has
unfoldable pub carried : List Row → List ℕ → List ℕ → List ℕ
carried [] words base = base
carried (r ∷ rows) words base = carried rows words (cond (is_number r) (set base r.slot (get_or words r.slot 0 % 256 ^ r.size)) base)

-- every image has the format; and the words read are those that were written, wherever the format has one
abbrev pub WrittenIsRead : Type 0
WrittenIsRead = (words : List ℕ) → is_read (image_of words) ≡ true

abbrev pub ReadBack : Type 0
ReadBack = (words base : List ℕ) → words_in (image_of words) base ≡ carried format words base

-- only the words that it has count
abbrev pub SameImage : Type 0
SameImage = (a b : List ℕ) → ((k : ℕ) → k < 84 → get_or a k 0 ≡ get_or b k 0) → image_of a ≡ image_of b

-- it is bytes, and of each word it holds no more than goes into its field
abbrev pub ImageBytes : Type 0
ImageBytes = (words : List ℕ) (i : ℕ) → get_or (image_of words) i 0 < 256

abbrev pub CarriedImage : Type 0
CarriedImage = (words base : List ℕ) → length base ≡ 84 → image_of (carried format words base) ≡ image_of words

-- bytes that have the format are as many as every image has
abbrev pub ReadLength : Type 0
ReadLength = (s : List ℕ) → is_read s ≡ true → length s ≡ image_size

-- bytes that have the format are the image of the words in them: so that no two images have the same words, and what no words write hasn't the format
abbrev pub ReadIsImage : Type 0
ReadIsImage = (s base : List ℕ) → ((i : ℕ) → get_or s i 0 < 256) → length base ≡ 84 → is_read s ≡ true → image_of (words_in s base) ≡ s
