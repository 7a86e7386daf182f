-- The format of a state's image (document 02, T-11; docs/IMAGE.md): tagged fields, a tag of one byte and a length of two, the low one first, then the body. A field whose tag is below 0x80
-- is a number of as many bytes, the low one first; any other is a group of fields. The board is a group of chips, and a chip a group of words; of the pair each chip is a group of its own.
-- The words are those that hold the chips (include/sillwander.h), in one row: the I/O APIC's 32, the local APIC's 48 and the pair's 4. A word's tag is its number there.
-- Every field has a fixed length, so that every image has the same length, and every number its place.
use Rattle.std.specs.Prelude.{ℕ, zero, suc, ◌+◌, Bool, true, cond, ◌&&◌, List, [], ◌∷◌, ◌++◌, map, ◌≡◌, ltb, get_or, take, drop, ◌<◌, ◌≤◌}
use Rattle.image_format.specs.declared.Row.{Row}

-- a field's header, and of a number which of the 84 words it holds
abbrev pub row : ℕ → ℕ → ℕ → Row
row tag size slot = record { tag = tag; size = size; slot = slot }

abbrev pub is_number : Row → Bool
is_number r = ltb r.tag 0x80

-- what is true of each: it has a word, and a number goes into it
abbrev pub IsRow : Row → Type 0
IsRow r = (r.slot < 84) × (is_number r ≡ true → r.size ≤ 8)

-- how many bytes come before the next row: the header, and a number's body
abbrev pub step_of : Row → ℕ
step_of r = 3 + cond (is_number r) r.size 0

abbrev pub bytes : List Row → ℕ
bytes [] = 0
bytes (r ∷ rows) = step_of r + bytes rows

-- a group of these fields, under its tag
abbrev pub group : ℕ → List Row → List Row
group tag rows = row tag (bytes rows) 0 ∷ rows

-- n numbers of so many bytes, with rising tags, from this tag and this word on
abbrev pub numbers : ℕ → ℕ → ℕ → ℕ → List Row
numbers zero size tag slot = []
numbers (suc n) size tag slot = row tag size slot ∷ numbers n size (suc tag) (suc slot)

-- 24 redirection registers; the lines with an interrupt deferred, and the lines that are up; the selector; the version; the lines in flight. Base and size are the same on every board
abbrev pub ioapic_rows : List Row
ioapic_rows = group 0x81 (numbers 24 8 0 0 ++ numbers 2 3 24 24 ++ numbers 1 4 26 26 ++ numbers 1 1 29 29 ++ numbers 1 3 30 30)

-- the mode; 41 registers of 32 bits
abbrev pub apic_rows : List Row
apic_rows = group 0x82 (numbers 1 1 0 32 ++ numbers 41 4 1 33)

-- the rule; the master's registers and the slave's
abbrev pub pair_rows : List Row
pair_rows = group 0x83 (numbers 1 1 2 82 ++ group 0x84 (numbers 1 8 0 80) ++ group 0x85 (numbers 1 8 1 81))

unfoldable pub format : List Row
format = group 0x80 (ioapic_rows ++ apic_rows ++ pair_rows)

-- row k; past the last one, a header that no image has
abbrev pub row_at : ℕ → Row
row_at k = get_or format k (row 0 0 0)

-- ---- in each group the tags rise, so that each is there once

unfoldable pub rise : List ℕ → Bool
rise [] = true
rise (t ∷ []) = true
rise (t ∷ u ∷ tags) = ltb t u && rise (u ∷ tags)

-- the tags of n rows from row k on
abbrev pub tags_from : ℕ → ℕ → List ℕ
tags_from k n = map (λ r. r.tag) (take n (drop k format))

-- each group's own fields, by their rows: the board's chips are rows 1, 31 and 74, and the pair's rule and chips rows 75, 76 and 78. A chip of the pair has one field
pub record TagsRise : Type 0 where
  pub board : rise ((row_at 1).tag ∷ (row_at 31).tag ∷ (row_at 74).tag ∷ []) ≡ true
  pub ioapic : rise (tags_from 2 29) ≡ true
  pub apic : rise (tags_from 32 42) ≡ true
  pub pair : rise ((row_at 75).tag ∷ (row_at 76).tag ∷ (row_at 78).tag ∷ []) ≡ true
