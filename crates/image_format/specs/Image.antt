-- The image of 84 words, and the words in an image.
use Rattle.std.specs.Prelude.{ℕ, zero, suc, ◌+◌, ◌*◌, ◌/◌, ◌%◌, cond, List, [], ◌∷◌, ◌++◌, ltb, get_or, set, length, drop}
use Rattle.image_format.specs.declared.Row.{Row}
use Rattle.image_format.specs.Format.{is_number, step_of, format}

-- a number's lowest bytes, the low one first
unfoldable pub bytes_of : ℕ → ℕ → List ℕ
bytes_of zero n = []
bytes_of (suc w) n = n % 256 ∷ bytes_of w (n / 256)

-- and the number that so many bytes from `at` on make
unfoldable pub number_at : List ℕ → ℕ → ℕ → ℕ
number_at s at zero = 0
number_at s at (suc w) = get_or s at 0 + 256 * number_at s (suc at) w

abbrev pub header_of : Row → List ℕ
header_of r = r.tag ∷ r.size % 256 ∷ r.size / 256 ∷ []

abbrev pub field_with : ℕ → Row → List ℕ
field_with n r = header_of r ++ cond (is_number r) (bytes_of r.size n) []

abbrev pub field_of : List ℕ → Row → List ℕ
field_of words r = field_with (get_or words r.slot 0) r

-- the fields of these rows, one after the other; a group's header stands before its fields
unfoldable pub written : List Row → List ℕ → List ℕ
written [] words = []
written (r ∷ rows) words = field_of words r ++ written rows words

unfoldable pub image_of : List ℕ → List ℕ
image_of words = written format words

-- how long every image is
abbrev pub image_size : ℕ
image_size = 628

-- the words with the numbers of these rows in them, whose fields stand from `at` on
abbrev pub taken : List ℕ → ℕ → Row → List ℕ → List ℕ
taken s at r words = cond (is_number r) (set words r.slot (number_at s (at + 3) r.size)) words

unfoldable pub loaded : List Row → List ℕ → ℕ → List ℕ → List ℕ
loaded [] s at words = words
loaded (r ∷ rows) s at words = loaded rows s (at + step_of r) (taken s at r words)

unfoldable pub words_in : List ℕ → List ℕ → List ℕ
words_in s words = loaded format s 0 words

-- what the writer leaves in a buffer, and the reader in the words: a buffer that is too short stays as it was, and so do the words where the image is
abbrev pub written_to : List ℕ → List ℕ → List ℕ
written_to words buf = cond (ltb (length buf) image_size) buf (image_of words ++ drop image_size buf)

abbrev pub loaded_from : List ℕ → List ℕ → List ℕ
loaded_from s words = cond (ltb (length s) image_size) words (words_in s words)
