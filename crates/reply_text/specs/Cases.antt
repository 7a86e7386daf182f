-- Lines, computed.
use Rattle.std.specs.Prelude.{[], ◌∷◌, ◌≡◌, refl}
use Rattle.types.specs.declared.Refusal.TheVariants.{OutOfRange}
use Rattle.types.specs.declared.Reply.TheVariants.{Refused, One, Three}
use Rattle.reply_text.specs.Text.{decimal_in, decimal, reply_text, line, bad_line, too_long_line, words_text, words_line}

-- `12 0 8,0,1`
pub claimed : line 0x12 (Three 8 0 1) ≡ 49 ∷ 50 ∷ 32 ∷ 48 ∷ 32 ∷ 56 ∷ 44 ∷ 48 ∷ 44 ∷ 49 ∷ 10 ∷ []
unfolding line reply_text decimal_in
claimed = refl

-- `0d 5 -`
pub refused : line 0x0d (Refused OutOfRange) ≡ 48 ∷ 100 ∷ 32 ∷ 53 ∷ 32 ∷ 45 ∷ 10 ∷ []
unfolding line reply_text decimal_in
refused = refl

-- `01 0 49217`
pub read : line 0x01 (One 49217) ≡ 48 ∷ 49 ∷ 32 ∷ 48 ∷ 32 ∷ 52 ∷ 57 ∷ 50 ∷ 49 ∷ 55 ∷ 10 ∷ []
unfolding line reply_text decimal_in
read = refl

-- the largest number of 64 bits: 18446744073709551615
pub largest : decimal 0xffffffffffffffff
    ≡ 49 ∷ 56 ∷ 52 ∷ 52 ∷ 54 ∷ 55 ∷ 52 ∷ 52 ∷ 48 ∷ 55 ∷ 51 ∷ 55 ∷ 48 ∷ 57 ∷ 53 ∷ 53 ∷ 49 ∷ 54 ∷ 49 ∷ 53 ∷ []
unfolding decimal_in
largest = refl

-- `bad 25`, and `7`
pub bad : bad_line 25 ≡ 98 ∷ 97 ∷ 100 ∷ 32 ∷ 50 ∷ 53 ∷ 10 ∷ []
unfolding bad_line decimal_in
bad = refl

pub too_long : too_long_line ≡ 55 ∷ 10 ∷ []
unfolding too_long_line decimal_in
too_long = refl

-- `65536 0 `
pub words : words_line (65536 ∷ 0 ∷ []) ≡ 54 ∷ 53 ∷ 53 ∷ 51 ∷ 54 ∷ 32 ∷ 48 ∷ 32 ∷ 10 ∷ []
unfolding words_text decimal_in
words = refl
