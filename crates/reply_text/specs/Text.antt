-- What the program prints (document 01, "Scripts", and "Refusal numbers", 6 and 7), as bytes of ASCII: a line for each field, its tag in two hexadecimal digits, the refusal's
-- number, and the values in decimal digits, joined by commas, or `-` where there are none; a line for a bad field, with the place of its tag; a line for a script
-- that is too long; and a line of the words that a chip's state is in. Values and words are numbers of 64 bits.
use Rattle.std.specs.Prelude.{ℕ, zero, suc, ◌+◌, ◌*◌, ◌/◌, ◌%◌, cond, List, [], ◌∷◌, ◌++◌, ◌≡◌, leb, ltb, length}
use Rattle.std.proofs.lemmas.List.Edits.{sets}
use Rattle.io.specs.Digits.{hex_digit_ascii}
use Rattle.types.specs.Reply.{refusal_number, reply_number, reply_values}
use Rattle.types.specs.declared.Refusal.TheVariants.{ScriptTooLong}
use Rattle.types.specs.declared.Reply.{Reply}

abbrev pub newline : ℕ
newline = 10

abbrev pub space : ℕ
space = 32

abbrev pub comma : ℕ
comma = 44

abbrev pub dash : ℕ
dash = 45

-- in decimal digits, if they are at most k: below ten one digit, else those of the tenth part and then the last one
unfoldable pub decimal_in : ℕ → ℕ → List ℕ
decimal_in zero n = []
decimal_in (suc k) n = cond (ltb n 10) (hex_digit_ascii n ∷ []) (decimal_in k (n / 10) ++ (hex_digit_ascii (n % 10) ∷ []))

-- a number of 64 bits has at most 20
abbrev pub decimal : ℕ → List ℕ
decimal n = decimal_in 20 n

-- a byte in two hexadecimal digits
abbrev pub hexadecimal : ℕ → List ℕ
hexadecimal n = hex_digit_ascii (n / 16 % 16) ∷ hex_digit_ascii (n % 16) ∷ []

-- joined by commas
abbrev pub values : List ℕ → List ℕ
values [] = dash ∷ []
values (v ∷ []) = decimal v
values (v ∷ (w ∷ vs)) = decimal v ++ (comma ∷ values (w ∷ vs))

-- a reply, to the end of the line
unfoldable pub reply_text : Reply → List ℕ
reply_text r = decimal (reply_number r) ++ (space ∷ (values (reply_values r) ++ (newline ∷ [])))

-- a field's line
unfoldable pub line : ℕ → Reply → List ℕ
line tag r = hexadecimal tag ++ (space ∷ reply_text r)

-- a bad field's, by its tag's place: `bad `, and the place
unfoldable pub bad_line : ℕ → List ℕ
bad_line at = 98 ∷ 97 ∷ 100 ∷ space ∷ (decimal at ++ (newline ∷ []))

-- a script's that is too long: 7
unfoldable pub too_long_line : List ℕ
too_long_line = decimal (refusal_number ScriptTooLong) ++ (newline ∷ [])

-- words, each in decimal digits with a space behind it
unfoldable pub words_text : List ℕ → List ℕ
words_text [] = []
words_text (w ∷ ws) = decimal w ++ (space ∷ words_text ws)

-- a line of them
abbrev pub words_line : List ℕ → List ℕ
words_line ws = words_text ws ++ (newline ∷ [])

-- bytes that were put into a lent buffer from a place on: what the buffer holds then, and the place behind them
pub record Puts (before : List ℕ) (at : ℕ) (bytes : List ℕ) (after : List ℕ) (behind : ℕ) : Type 0 where
  pub buffer : after ≡ sets before at bytes
  pub end : behind ≡ at + length bytes

-- what a buffer of that size takes of a line from a place on: all of it if 80 bytes are left, which no line passes, else nothing
abbrev pub in_room : ℕ → ℕ → List ℕ → List ℕ
in_room size at bytes = cond (leb (at + 80) size) bytes []

-- and of a line of words: all of it if 21 bytes are left for each, and one more, which it doesn't pass, else nothing
abbrev pub words_in_room : ℕ → ℕ → List ℕ → List ℕ
words_in_room size at ws = cond (leb (at + 21 * length ws + 1) size) (words_line ws) []
